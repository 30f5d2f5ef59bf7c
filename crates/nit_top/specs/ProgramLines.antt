-- The lines that the program says.
use Rattle.std.specs.Prelude.{ℕ, List, ◌++◌, codes}
use Rattle.nit_top.specs.Below.{ConfigError, End, Fault, LinePart, clip_name, decimal, output_name}
use Rattle.nit_config.specs.declared.error.ConfigError.TheVariants as config
use Rattle.nit_setup.specs.declared.stop.End.TheVariants as end
use Rattle.nit_setup.specs.declared.stop.Fault.TheVariants as fault
use Rattle.nit_top.specs.declared.report.say.LinePart.TheVariants as piece

-- the bytes of a part of a line
abbrev pub piece_text : LinePart → List ℕ
piece_text (piece.Text bytes) = bytes.now
piece_text (piece.Number n) = decimal n
piece_text (piece.ClipsOf script) = clip_name script.now
piece_text (piece.Put file) = output_name file

-- a line begins with the program's name, and then that of a file
abbrev pub says_of : List ℕ → List ℕ → List ℕ
says_of name rest = codes "nitpicker: " ++ (name ++ rest)

abbrev pub usage_line : List ℕ
usage_line =
    codes "nitpicker: usage: nitpicker still W H SCRIPT, turns CONFIG, run CONFIG, gen N, "
    ++ codes "audit CONFIG JOURNAL, clip CONFIG, capture CONFIG X Y W H or nested OUTER INNER\n"

abbrev pub read_fault_line : List ℕ → List ℕ
read_fault_line name = says_of name (codes ": read fault\n")

abbrev pub outside_line : List ℕ
outside_line = codes "nitpicker: capture outside\n"

abbrev pub write_fault_line : List ℕ → List ℕ
write_fault_line name = says_of name (codes ": write fault\n")

-- the kind of a refusal
abbrev pub kind_text : ConfigError → List ℕ
kind_text config.Syntax = codes "syntax"
kind_text config.Kind = codes "kind"
kind_text config.Missing = codes "missing"
kind_text config.Unknown = codes "unknown"
kind_text config.TooMany = codes "too many"
kind_text config.Range = codes "range"
kind_text config.Label = codes "label"
kind_text config.Twice = codes "twice"
kind_text config.NoMemory = codes "no memory"

abbrev pub bad_configuration_line : List ℕ → List ℕ → List ℕ
bad_configuration_line name kind =
    says_of name (codes ": bad configuration: " ++ (kind ++ codes "\n"))

-- the line on a number in a file: that of a line or of an entry
abbrev pub numbered_line : List ℕ → List ℕ → ℕ → List ℕ → List ℕ
numbered_line name before number behind = says_of name (before ++ (decimal number ++ behind))

abbrev pub bad_script_line : List ℕ → ℕ → List ℕ
bad_script_line name number =
    numbered_line name (codes ": line ") number (codes ": bad script\n")

abbrev pub too_long_line : List ℕ → List ℕ
too_long_line name = says_of name (codes ": too long\n")

abbrev pub phases_line : List ℕ → List ℕ
phases_line name = says_of name (codes ": phases differ\n")

abbrev pub frames_long_line : List ℕ → List ℕ
frames_long_line name = says_of name (codes ": inner frames too long\n")

-- the line on a file that is refused
abbrev pub fault_line : List ℕ → Fault → List ℕ
fault_line name (fault.BadConfig error) = bad_configuration_line name (kind_text error)
fault_line name fault.LongConfig = bad_configuration_line name (codes "too long")
fault_line name (fault.BadLine number) = bad_script_line name number
fault_line name fault.TooLong = too_long_line name
fault_line name fault.PhasesDiffer = phases_line name
fault_line name fault.LongJournal = too_long_line name
fault_line name (fault.BadEntry number) =
    numbered_line name (codes ": line ") number (codes ": bad journal\n")
fault_line name (fault.NotARun number) =
    numbered_line name (codes ": entry ") number (codes ": not a run\n")
fault_line name fault.FramesTooLong = frames_long_line name

abbrev pub no_memory_line : List ℕ
no_memory_line = codes "nitpicker: no memory\n"

-- the line on a journal of so many entries that is one of a run
abbrev pub audited_line : ℕ → List ℕ
audited_line entries = codes "nitpicker: audit yes entries " ++ (decimal entries ++ codes "\n")

-- how many clients, journal entries and pictures a run had, the last picture counted
pub record Totals : Type 0 where
  pub clients : ℕ
  pub entries : ℕ
  pub frames : ℕ

abbrev pub summary_line : Totals → List ℕ
summary_line t =
    codes "nitpicker: clients "
    ++ (decimal t.clients
    ++ (codes " entries "
    ++ (decimal t.entries ++ (codes " frames " ++ (decimal t.frames ++ codes "\n")))))

-- the line on a generated run, whatever its number
abbrev pub generated_line : List ℕ
generated_line = summary_line (record { clients = 8; entries = 12260; frames = 2 })

-- the line on how the work came to its end, where name is that of the file that it ended at
abbrev pub line_of : End → List ℕ → Totals → List ℕ
line_of end.Usage name totals = usage_line
line_of end.ReadFault name totals = read_fault_line name
line_of (end.Refused f) name totals = fault_line name f
line_of (end.Unfit f) name totals = fault_line name f
line_of end.Outside name totals = outside_line
line_of end.WriteFault name totals = write_fault_line name
line_of end.NoMemory name totals = no_memory_line
line_of end.Whole name totals = summary_line totals
line_of (end.Audited entries) name totals = audited_line entries
