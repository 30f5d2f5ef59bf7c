use Rattle.std.proofs.Common.{Some, length, replicate, slice_get, ℕ, ◌++◌, ◌≡◌}
use Rattle.nit_hall.proofs.Lemmas.{ClipPassModel, new_clip_pass}
use Rattle.nit_hall.proofs.room.clip_opening.clip_passes.Given as goal

abbrev pub invariant-scripts : goal.invariant-scripts
invariant-scripts l = record {
  counted : l.sid ≡ l.script-index;
  book_is : l.book ≡ record l.initial.book { counts = l.initial.book.counts ++ replicate l.script-index 0 };
  passes_are : length l.passes.items ≡ l.script-index;
  each : (k : ℕ) (q : ClipPassModel) → slice_get l.passes.items k ≡ Some q
      → q ≡ new_clip_pass l.initial.book l.scripts k;
}
