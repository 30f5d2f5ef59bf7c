-- The names of the files that a run puts.
use Rattle.std.specs.Prelude.{◌<◌, ◌^◌, IsTrue}
use Rattle.nit_run.specs.Below.{LabelBytes, List, Output, codes, is_label, picture_name}
use Rattle.nit_run.specs.Below.{script_name, take, ℕ}
use Rattle.nit_run.specs.Outputs.{events_name, journal_name}
use Rattle.nit_run.specs.RunFilm.{film_name}
use Rattle.nit_run.specs.RunInner.{inner_journal_name}
use Rattle.nit_run.specs.RunClips.{clips_name}
use Rattle.nit_rounds.specs.declared.desk.PictureName.TheVariants as name
use Rattle.nit_run.specs.declared.output.Output.TheVariants as output

-- the text of a label that is kept as a plain value
abbrev pub label_text : LabelBytes → List ℕ
label_text label = take label.length label.bytes

-- the name of a file that a run puts
abbrev pub output_name : Output → List ℕ
output_name (output.Picture picture) = picture_name picture
output_name (output.Events label) = events_name (label_text label)
output_name output.Journal = journal_name
output_name output.GeneratedConfig = codes "gen.toml"
output_name (output.GeneratedScript client) = script_name client
output_name output.GeneratedInput = codes "gen.in"
output_name output.Film = film_name
output_name output.Clips = clips_name
output_name output.InnerJournal = inner_journal_name

-- the name of the file is text: its number is one of 32 bits, and its label is a label
abbrev pub HasTextName : Output → Type 0
HasTextName (output.Picture (name.Shot number)) = number < 2 ^ 32
HasTextName (output.Events label) = IsTrue (is_label (label_text label))
HasTextName (output.GeneratedScript client) = client < 2 ^ 32
HasTextName other = Unit {0}
