use Rattle.nit_host.proofs.Lemmas.{Ok, WasServed, WasTold, ap, are_glasses, frame_at, option_map}
use Rattle.nit_host.proofs.Lemmas.{same_sheets, seen_input, sheets_of, stand_told, sym, was_told, when_served}
use Rattle.nit_host.proofs.Lemmas.{◌∙◌}
use Rattle.nit_events.specs.declared.entry.Entry.TheVariants as entry
use Rattle.nit_host.proofs.host.Host.input.Goals as goal

pub input-routed-requires-clause-glasses : goal.input-routed-requires-clause-glasses
input-routed-requires-clause-glasses c = are_glasses c.self.invariant.0.sheets

-- what the event left
done : (c : goal.After-self-2-1) → WasTold c.args.device c.input-routed.result c.args.self.now c.self.inside.turns
    (record {
      frame = option_map (λ s. frame_at s.desktop.value s.sheets.value.items) c.self.inside.seen;
      views = c.self.inside.shown.items;
      came = c.self.inside.came;
    }) c.input-routed.new.self
    c.input-routed.new.glasses.items
done c =
    let now : WasServed (entry.Input c.args.device c.input-routed.result) c.self.inside.desktop c.input-routed.new.self
    c.self.inside.sheets.items c.input-routed.new.glasses.items = assumption c.input-routed.ensures in
    was_told c.args.device c.self.invariant.0 now c.input-routed.ensures.routed
    c.clean_pixels_keep_their_source.ensures c.self.view_is

pub invariant_of-self : goal.invariant_of-self
invariant_of-self c =
    let d = c.self.inside.desktop in
    let d2 = c.input-routed.new.self in
    let e = c.input-routed.ensures in
    let bar = c.bar_tells-bar.ensures in
    let bar2 = c.bar_tells.ensures in
    let quiet = c.shows_the_same-is_same.ensures in
    let kept = seen_input d.state d2.state c.args.device c.input-routed.result (sheets_of c.self.inside.sheets.items)
    (sheets_of c.input-routed.new.glasses.items) c.self.inside.changed c.add_unless.new.parts _ e.routed
    c.clean_pixels_keep_their_source.ensures e.served.state (ap sheets_of (same_sheets e.rest)) c.self.invariant.1
    c.shows_the_same-is_same.result
    c.bar_or_screen-before.result c.told-after.result e.delivered c.bar_or_screen-before.ensures c.told-after.ensures
    quiet.told (λ t. sym bar.mode ∙ quiet.mode t ∙ bar2.mode) (λ t. sym bar.focus ∙ quiet.focus t ∙ bar2.focus)
    c.add_unless.ensures c.self.invariant.2 in (
      (done c).host,
      kept.0,
      kept.1,
      c.self.invariant.3,
      c.self.invariant.4,
      λ now. stand_told d.state d2.state c.args.device c.input-routed.result (sheets_of c.self.inside.sheets.items)
          (sheets_of c.input-routed.new.glasses.items) c.self.inside.changed c.add_unless.new.parts _ e.routed
          c.clean_pixels_keep_their_source.ensures e.served.state (ap sheets_of (same_sheets e.rest)) c.self.invariant.1
          e.delivered (sym c.locks_out.ensures ∙ c.still_stand-self-inside.ensures.still now)
          (c.self.invariant.5 (c.still_stand-self-inside.ensures.stand now)),
    )

pub returns-clause-served : goal.returns-clause-served
returns-clause-served c = λ _. (ap Ok (done c).routed_now, (done c).now)

pub returns-clause-act : goal.returns-clause-act
returns-clause-act c = when_served c.args.self.now c.in_default.ensures (done c).now
