use Rattle.std.proofs.Common.{ap, length, subst, sym, ◌<◌, ◌∙◌}
use Rattle.nit_host.proofs.Lemmas.{HostModel, WasCalled, WasServed, are_glasses, called, frame_at}
use Rattle.nit_host.proofs.Lemmas.{option_map, seen_called, sheets_of, stand_after, was_called}
use Rattle.nit_events.specs.declared.entry.Entry.TheVariants as entry
use Rattle.nit_host.proofs.host.Host.serve.Goals as goal

pub call-reply-requires-clause-glasses : goal.call-reply-requires-clause-glasses
call-reply-requires-clause-glasses c = are_glasses c.self.invariant.0.sheets

abbrev known : (c : goal.After-self-1) → c.args.seat < length c.self.inside.desktop.state.sessions
known c = subst (λ (h : HostModel). c.args.seat < length h.state.sessions) (sym c.self.view_is) c.requires.seat

-- what the call left
done : (c : goal.After-self-1) → WasCalled c.args.seat c.args.call.now c.call-reply.result c.args.self.now
    (called c.args.seat c.args.call.now c.args.self.now) c.self.inside.turns
    (record {
      frame = option_map (λ s. frame_at s.desktop.value s.sheets.value.items) c.self.inside.seen;
      views = c.self.inside.shown.items;
      came = c.self.inside.came;
    }) c.self.inside.desktop
    c.call-reply.new.self c.self.inside.sheets.items c.call-reply.new.glasses.items
done c =
    let now : WasServed (entry.Call c.args.seat c.args.call.now c.call-reply.result) c.self.inside.desktop
    c.call-reply.new.self c.self.inside.sheets.items c.call-reply.new.glasses.items = assumption c.call-reply.ensures in
    was_called c.self.invariant.0 now c.call-reply.ensures.reply (known c) c.clean_pixels_keep_their_source.ensures
    c.self.view_is

pub invariant_of-self : goal.invariant_of-self
invariant_of-self c =
    let kept = seen_called c.args.call.now (sheets_of c.self.inside.sheets.items)
    (sheets_of c.call-reply.new.glasses.items) _ c.add_touched.ensures c.add_touched-2.ensures
    c.self.invariant.1 c.self.invariant.2 c.touch_of-touch.ensures c.call-reply.ensures.served.state
    c.call-reply.ensures.reply (done c).shown (known c) c.clean_pixels_keep_their_source.ensures in (
      (done c).is_host,
      kept.0,
      kept.1,
      c.self.invariant.3,
      c.self.invariant.4,
      λ now. stand_after _ _ c.args.call.now _ c.call-reply.ensures.served.state
          (sym c.moves_views.ensures ∙ c.still_stand-self-inside.ensures.still now) (c.self.invariant.5 (c.still_stand-self-inside.ensures.stand now)),
    )

pub returns-clause-reply : goal.returns-clause-reply
returns-clause-reply c = (done c).replied

pub returns-clause-host : goal.returns-clause-host
returns-clause-host c =
    ap (λ (h : HostModel). record h { last = c.self.inside.last }) (done c).now_is
    ∙ ap (λ (h : HostModel). record (called c.args.seat c.args.call.now c.args.self.now) { last = h.last })
    c.self.view_is
