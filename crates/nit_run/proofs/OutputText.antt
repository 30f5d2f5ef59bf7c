-- The names of the files that a run puts are text.
use Rattle.std.proofs.Common.{IsTrue, List, [], arith, rules, suc, true, zero, ℕ, ◌++◌, ◌<◌, ◌^◌}
use Rattle.std.proofs.Common.{◌∷◌, ◌≡◌}
use Rattle.nit_run.proofs.Basics.{HasTextName, IsAscii, IsAscii-append, IsAscii-decimal, IsUtf8}
use Rattle.nit_run.proofs.Basics.{IsUtf8-from_ascii, Output, and_parts, codes, decimal, events_name}
use Rattle.nit_run.proofs.Basics.{is_label, is_label_byte, label_text, list_all, nat_tests}
use Rattle.nit_run.proofs.Basics.{output_name, script_name, shot_name, slice_index}
use Rattle.nit_run.specs.declared.output.Output.TheVariants as output
use Rattle.nit_rounds.specs.declared.desk.PictureName.TheVariants as name

-- the bytes of a label are letters of ASCII, or digits, or marks
label_is_ascii : (text : List ℕ) → list_all is_label_byte text ≡ true → (i : ℕ) → slice_index text i < 128
label_is_ascii [] h i = omega arith
label_is_ascii (x ∷ xs) h zero = grind (arith, nat_tests)
label_is_ascii (x ∷ xs) h (suc i) = label_is_ascii xs (and_parts _ _ h).1 i

events_name_is_text : (label : List ℕ) → IsTrue (is_label label) → IsUtf8 (events_name label)
events_name_is_text label h = IsUtf8-from_ascii (events_name label) (IsAscii-append (codes "events-")
    (label ++ codes ".txt") (search rules) (IsAscii-append label (codes ".txt") (label_is_ascii label
    (and_parts _ _ h).1) (search rules)))

-- a number between two texts
between_is_text : (front back : List ℕ) (n : ℕ) → IsAscii front → IsAscii back → n < 2 ^ 32
    → IsUtf8 ((front ++ decimal n) ++ back)
between_is_text front back n f b small = IsUtf8-from_ascii _ (IsAscii-append (front ++ decimal n) back
    (IsAscii-append front (decimal n) f (IsAscii-decimal n (omega arith))) b)

pub output_is_text : (file : Output) → HasTextName file → IsUtf8 (output_name file)
output_is_text (output.Picture (name.Shot number)) h =
    between_is_text (codes "shot-") (codes ".ppm") number (search rules) (search rules) h
output_is_text (output.Picture name.Final) h = IsUtf8-from_ascii _ (search rules)
output_is_text (output.Events label) h = events_name_is_text (label_text label) h
output_is_text output.Journal h = IsUtf8-from_ascii _ (search rules)
output_is_text output.GeneratedConfig h = IsUtf8-from_ascii _ (search rules)
output_is_text (output.GeneratedScript client) h =
    between_is_text (codes "g") (codes ".nit") client (search rules) (search rules) h
output_is_text output.GeneratedInput h = IsUtf8-from_ascii _ (search rules)
output_is_text output.Film h = IsUtf8-from_ascii _ (search rules)
output_is_text output.Clips h = IsUtf8-from_ascii _ (search rules)
output_is_text output.InnerJournal h = IsUtf8-from_ascii _ (search rules)
