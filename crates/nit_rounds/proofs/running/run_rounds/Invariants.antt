use Rattle.nit_rounds.proofs.Lemmas.{AreBehind, IsShowing, length, settled}
use Rattle.nit_rounds.proofs.running.run_rounds.Given as goal

abbrev pub invariant-rounds : goal.invariant-rounds
invariant-rounds g l = record {
  behind : AreBehind l.stale l.scene.glasses l.owns;
  way : IsShowing g.V.Viewer.fits g.V.Viewer.shows l.parts.scripts.now l.parts.input.now l.initial.scene
      (settled l.scene l.owns) l.owns l.turns l.initial.viewer l.viewer;
}

abbrev pub decreases-rounds : goal.decreases-rounds
decreases-rounds g l = length l.turns
