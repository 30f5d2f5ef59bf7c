use Rattle.nit_nested.proofs.Lemmas.{frame_lines, length-map, lines_of_frames, made_long, sym, ◌∙◌}
use Rattle.nit_nested.proofs.laws.lines_are_counted.Goals as goal

pub returns : goal.returns
returns c n own counted = made_long n.w n.h (lines_of_frames n) own (counted
    ∙ sym (length-map n.frames (frame_lines n.w n.h)))
