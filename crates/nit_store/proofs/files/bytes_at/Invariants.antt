use Rattle.std.proofs.Common.{drop, ◌≡◌}
use Rattle.nit_store.proofs.Lemmas.{file_at, files_of}
use Rattle.nit_store.proofs.files.bytes_at.Given as goal

abbrev pub invariant-loop-file : goal.invariant-loop-file
invariant-loop-file l = file_at l.name (files_of (drop l.file-index l.files)) ≡ file_at l.name (files_of l.files)
