use Rattle.std.proofs.Common.{List, append_assoc, ℕ, ◌++◌, ◌≡◌}
use Rattle.nit_report.proofs.Lemmas.{script_name}
use Rattle.nit_report.proofs.generated_config.put_block.Goals as goal

five_pieces : (before a b c d e one two three four five : List ℕ) → one ≡ before ++ a → two ≡ one ++ b
    → three ≡ two ++ c → four ≡ three ++ d → five ≡ four ++ e → five ≡ before ++ (a ++ b ++ c ++ d ++ e)
five_pieces before a b c d e one two three four five p q r s t = rw (t, s, r, q, p) (simp append_assoc)

pub returns : goal.returns
returns c = five_pieces _ _ _ _ _ _ _ _ _ _ _ c.in_ok-put_text.ensures
    (rw c.label_text.ensures.text at c.in_ok-put_text-2.ensures) c.in_ok-put_text-3.ensures
    (rw c.script_name.ensures at c.in_ok-put_text-4.ensures) c.in_ok-put_text-5.ensures
