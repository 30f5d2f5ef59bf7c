use Rattle.std.proofs.Common.{drop, ◌≡◌}
use Rattle.nit_store.proofs.Lemmas.{files_of, have_different_names}
use Rattle.nit_store.proofs.files.have_different_names.Given as goal

abbrev pub invariant-loop-place : goal.invariant-loop-place
invariant-loop-place l = have_different_names (files_of (drop l.place l.files))
    ≡ have_different_names (files_of l.files)
