use Rattle.nit_clip.proofs.Lemmas.{add-one, all_calls, append-nil, arith, line_more, phase_of_clip}
use Rattle.nit_clip.proofs.Lemmas.{◌∙◌}
use Rattle.nit_clip.specs.declared.line.ClipLine.TheVariants as line
use Rattle.nit_clip.proofs.laws.calls_of_a_clip_script.Goals as goal

pub returns : goal.returns
returns c = record {
  all = all_calls 0;
  call = λ lines k call at. simp add-one (line_more lines k (line.Call call) at);
  end = λ lines k at. simp add-one (line_more lines k line.Phase at ∙ append-nil _);
  phase = λ lines k call at. phase_of_clip lines 0 k call at ∙ omega arith;
}
