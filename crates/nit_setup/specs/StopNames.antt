-- The name of the file at which the work ended.
use Rattle.std.specs.Prelude.{◌≡◌, [], take}
use Rattle.nit_setup.specs.Below.{List, ScriptName, StopName, output_name, ℕ}
use Rattle.nit_setup.specs.Command.{Command, Still, Run, Gen, Audit, Clip, Capture, Nested}
use Rattle.nit_setup.specs.Command.{NoCommand}
use Rattle.nit_setup.specs.Judgement.{clip_name}
use Rattle.nit_setup.specs.declared.stop.StopName.TheVariants as name

-- the first file that a command names
abbrev pub first_name : Command → List ℕ
first_name (Still width height script) = script
first_name (Run beside configuration) = configuration
first_name (Gen number) = []
first_name (Audit configuration journal) = configuration
first_name (Clip configuration) = configuration
first_name (Capture configuration region) = configuration
first_name (Nested outer inner) = outer
first_name NoCommand = []

-- the second one
abbrev pub second_name : Command → List ℕ
second_name (Audit configuration journal) = journal
second_name (Nested outer inner) = inner
second_name other = []

-- the text of a script's name that is kept as a plain value
abbrev pub script_text : ScriptName → List ℕ
script_text script = take script.length script.bytes

-- the text of a name, where this is the command
abbrev pub name_text : Command → StopName → List ℕ
name_text c name.Nothing = []
name_text c name.First = first_name c
name_text c name.Second = second_name c
name_text c (name.Script script) = script_text script
name_text c (name.ClipsOf script) = clip_name (script_text script)
name_text c (name.Put file) = output_name file

-- the name has this text, whatever the command is
abbrev pub IsNameOf : StopName → List ℕ → Type 0
IsNameOf n text = (c : Command) → name_text c n ≡ text
