use Rattle.std.proofs.Common.{◌∷◌}
use Rattle.nit_events.specs.declared.entry.Entry.TheVariants as entry
use Rattle.nit_journal.proofs.Lemmas.{agrees_behind, entry_keeps_all, first_state, front_legal}
use Rattle.nit_journal.proofs.Lemmas.{replay, shots, told_are_live}
use Rattle.nit_journal.proofs.laws.deliveries_go_to_live_sessions.Goals as goal

pub returns : goal.returns
returns c =
    record {
      legal = λ config journal dev routed rest legal.
          let e = entry.Input dev routed in
          let agrees = agrees_behind config journal e rest legal in
          rw (entry_keeps_all (replay config journal) (shots journal) dev routed agrees)
          (told_are_live config journal dev (front_legal (first_state config) 0 journal (e ∷ rest) legal));
      next = told_are_live;
    }
