use Rattle.nit_actor.proofs.Lemmas.{IsNearPicture, [], as_many_files, file_of_a_shot}
use Rattle.nit_actor.proofs.laws.each_shot_has_its_file.Goals as goal

pub returns : goal.returns
returns c = record {
  count = λ config scripts input. as_many_files (IsNearPicture config scripts input) [];
  each = λ config scripts input. file_of_a_shot (IsNearPicture config scripts input) [];
}
