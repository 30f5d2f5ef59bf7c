use Rattle.std.proofs.Common.{drop, ◌++◌, ◌≡◌}
use Rattle.nit_report.proofs.Lemmas.{event_spelling, flat_map, spelled, taken}
use Rattle.nit_report.proofs.events.events_text.Given as goal

abbrev pub invariant-loop-entry : goal.invariant-loop-entry
invariant-loop-entry l =
    l.out.items ++ flat_map (spelled event_spelling) (flat_map (taken l.sid) (drop l.entry-index l.entries))
    ≡ flat_map (spelled event_spelling) (flat_map (taken l.sid) l.entries)
