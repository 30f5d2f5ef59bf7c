use Rattle.nit_script.proofs.Lemmas.{is_bad, is_long, is_read, read_is}
use Rattle.nit_script.proofs.parse.parse_lines.Goals as goal

pub returns : goal.returns
returns g c = record {
  read = read_is _ _ _ _ c.read_lines.ensures;
  reads = λ lines h few. is_read c.one_in_front.ensures _ _ lines c.read_lines.ensures h few;
  bad = λ line e. rw e at c.read_lines.ensures;
  is_bad = λ line h. is_bad c.one_in_front.ensures _ _ line c.read_lines.ensures h;
  long = λ e. rw e at c.read_lines.ensures;
  is_long = λ h. is_long c.one_in_front.ensures _ _ c.read_lines.ensures h;
}
