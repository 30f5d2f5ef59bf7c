use Rattle.std.proofs.Common.{Ok, ap, arith, length, refl, set, subst, ◌<◌, ◌∙◌, ◌≡◌}
use Rattle.nit_host.proofs.Lemmas.{Call, IsPlainOf, WasCalled, WasServed, after, after_handing}
use Rattle.nit_host.proofs.Lemmas.{are_glasses, frame_at, handed_plain, is_seat, option_map, refresh_touches}
use Rattle.nit_host.proofs.Lemmas.{own_plain, own_room, plain_by_owner, plain_sight, refreshed}
use Rattle.nit_host.proofs.Lemmas.{seen_called, serve, session, sheets_of, sheets_with, stand_after, told_words}
use Rattle.nit_host.proofs.Lemmas.{touch_of, was_refreshed, when_served}
use Rattle.nit_events.specs.declared.call.Call.TheVariants as call
use Rattle.nit_events.specs.declared.entry.Entry.TheVariants as entry
use Rattle.nit_host.proofs.host.Host.refresh.Goals as goal

-- ---- the words are handed in

abbrev client : (c : goal.After-part-1) → c.args.client.seat < length c.self.inside.desktop.state.config.clients
client c = omega (arith, is_seat c.args.client.seat _ _ c.self.view_is c.in_default.ensures, c.facts.ensures.sessions)

abbrev plain : (c : goal.After-part-1) → IsPlainOf c.self.inside.desktop.state.config c.args.client.seat
    c.index_mut.result.now.sight
plain c = own_plain c.self.invariant.0.sheets c.index_mut.ensures.value (client c)

pub hand_in-requires-clause-places : goal.hand_in-requires-clause-places
hand_in-requires-clause-places c = omega (arith, (plain c).1, c.buffer-buffer.ensures.within)

pub hand_in-requires-clause-sheet : goal.hand_in-requires-clause-sheet
hand_in-requires-clause-sheet c = record {
  room = omega (arith, (plain c).1, own_room c.self.invariant.0.sheets c.index_mut.ensures.value (client c));
  plain = plain_by_owner (plain c).0;
}

-- ---- the call is served

pub call-reply-requires-clause-glasses : goal.call-reply-requires-clause-glasses
call-reply-requires-clause-glasses c =
    let inside : c.args.client.seat < length c.self.inside.desktop.state.config.clients =
    omega (arith, is_seat c.args.client.seat _ _ c.self.view_is c.in_default.ensures, c.facts.ensures.sessions) in
    let are = c.self.invariant.0.sheets in
    let is = c.index_mut.ensures.value in
    are_glasses (sheets_with are (handed_plain c.self.inside.desktop.state.config c.args.client.seat _ _ c.part-part.result
    c.args.words.now c.index_mut.result.now c.hand_in.new.sheet (own_plain are is inside) c.hand_in.ensures.sight)
    (omega (arith, own_room are is inside, c.hand_in.ensures.room)))

-- ---- what is left

abbrev known : (c : goal.After-self-2-1) → c.args.client.seat < length c.self.inside.desktop.state.sessions
known c = is_seat c.args.client.seat _ _ c.self.view_is c.in_default.ensures

abbrev asked : (c : goal.After-self-2-1) → Call
asked c = call.Refresh c.args.place.0 c.args.place.1 c.args.size.0 c.args.size.1

-- what the refresh left
done : (c : goal.After-self-2-1) → WasCalled c.args.client.seat (asked c) c.call-reply.result c.args.self.now
    (refreshed c.args.client.seat c.args.place.0 c.args.place.1 c.args.size.0 c.args.size.1 c.args.words.now c.args.self.now) c.self.inside.turns
    (record {
      frame = option_map (λ s. frame_at s.desktop.value s.sheets.value.items) c.self.inside.seen;
      views = c.self.inside.shown.items;
      came = c.self.inside.came;
    }) c.self.inside.desktop
    c.call-reply.new.self c.self.inside.sheets.items c.call-reply.new.glasses.items
done c =
    let d = c.self.inside.desktop in
    let handed : c.hand_in.new.sheet.sight ≡ plain_sight c.index_mut.result.now.sight.owner
    (after_handing (session d.state c.args.client.seat).bw (session d.state c.args.client.seat).bh c.part-part.result
    c.args.words.now (told_words c.index_mut.result.now.sight.words)) =
    rw c.buffer-buffer.ensures.size at c.hand_in.ensures.sight in
    was_refreshed c.args.words.now c.self.invariant.0
    (subst (λ (k : Call). WasServed (entry.Call c.args.client.seat k c.call-reply.result) d c.call-reply.new.self
    (set c.self.inside.sheets.items c.args.client.seat c.hand_in.new.sheet) c.call-reply.new.glasses.items)
    c.refresh_of-call.ensures (assumption c.call-reply.ensures))
    (c.call-reply.ensures.reply ∙ ap (λ (k : Call). (serve (session d.state c.args.client.seat) k).reply)
    c.refresh_of-call.ensures) c.index_mut.ensures.value (known c) c.facts.ensures.sessions handed c.hand_in.ensures.room
    (rw (← c.self.view_is) at c.part-part.ensures.accepted) (rw (← c.self.view_is) at c.part-part.ensures.refused)
    c.clean_pixels_keep_their_source.ensures c.self.view_is

pub invariant_of-self : goal.invariant_of-self
invariant_of-self c =
    let d = c.self.inside.desktop in
    let e = c.call-reply.ensures in
    let call_is = c.refresh_of-call.ensures in
    let is = e.served.state ∙ ap (λ (k : Call). after d.state (entry.Call c.args.client.seat k c.call-reply.result)) call_is in
    let touches = refresh_touches c.args.place.0 c.args.place.1 c.args.size.0 c.args.size.1 _ is c.add_touched.ensures in
    let kept = seen_called (asked c) (sheets_of c.self.inside.sheets.items) (sheets_of c.call-reply.new.glasses.items) _
    touches.0 touches.1 c.self.invariant.1 c.self.invariant.2
    (c.touch_of-touch.ensures ∙ ap (touch_of d.state c.args.client.seat) call_is) is (e.reply ∙ ap (λ (k : Call). (serve (session d.state c.args.client.seat) k).reply) call_is)
    (done c).shown (known c) c.clean_pixels_keep_their_source.ensures in (
      (done c).is_host,
      kept.0,
      kept.1,
      c.self.invariant.3,
      c.self.invariant.4,
      λ now. stand_after _ _ (asked c) _ is refl (c.self.invariant.5 now),
    )

pub returns-clause-served : goal.returns-clause-served
returns-clause-served c = λ _. rw c.refresh_of-call.ensures (ap Ok (done c).replied, (done c).now_is)

pub returns-clause-act : goal.returns-clause-act
returns-clause-act c =
    when_served c.args.self.now c.in_default.ensures (rw c.refresh_of-call.ensures (done c).now_is)
