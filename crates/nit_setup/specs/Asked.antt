-- What the words ask for, as the code has it.
use Rattle.std.specs.Prelude.{◌<◌, ◌≡◌, ◌≤◌, true, false, IfNone, IfSome, Option, Some, None}
use Rattle.nit_setup.specs.Below.{Asked, AskedAlone, AskedBeside, IsRegionWords, is_some}
use Rattle.nit_setup.specs.Below.{most_run_height, most_run_width, number_end}
use Rattle.nit_setup.specs.Command.{Command, Still, Run, Gen, Audit, Clip, Capture, Nested}
use Rattle.nit_setup.specs.Command.{NoCommand, starts_threads}
use Rattle.nit_setup.specs.declared.words.Asked.TheVariants as asked
use Rattle.nit_setup.specs.declared.words.AskedAlone.TheVariants as alone
use Rattle.nit_setup.specs.declared.words.AskedBeside.TheVariants as beside

-- the command that is asked for, where it starts no thread
abbrev pub asks_alone : AskedAlone → Command
asks_alone (alone.Still width height script) = Still width height script.now
asks_alone (alone.Turns config) = Run false config.now
asks_alone (alone.Audit config journal) = Audit config.now journal.now

-- the command that is asked for, where it starts threads
abbrev pub asks_beside : AskedBeside → Command
asks_beside (beside.Run config) = Run true config.now
asks_beside (beside.Gen number) = Gen number
asks_beside (beside.Clip config) = Clip config.now
asks_beside (beside.Capture config region) = Capture config.now region
asks_beside (beside.Nested outer inner) = Nested outer.now inner.now

-- the command that is asked for
abbrev pub asks_for : Asked → Command
asks_for (asked.Alone command) = asks_alone command
asks_for (asked.Beside command) = asks_beside command

-- the command of what words ask for, where words that are no command ask for nothing
abbrev pub command_of : Option Asked → Command
command_of None = NoCommand
command_of (Some asked) = asks_for asked

-- the size of a picture is within its range
abbrev pub IsAloneInRange : AskedAlone → Type 0
IsAloneInRange (alone.Still width height script) = (0 < width) × (width ≤ most_run_width)
    × (0 < height) × (height ≤ most_run_height)
IsAloneInRange other = Unit {0}

-- the number of a generated run, and the numbers of a region are within their ranges
abbrev pub IsBesideInRange : AskedBeside → Type 0
IsBesideInRange (beside.Gen number) = number < number_end
IsBesideInRange (beside.Capture config region) = IsRegionWords region
IsBesideInRange other = Unit {0}

-- all numbers are within their ranges
abbrev pub IsAskedInRange : Asked → Type 0
IsAskedInRange (asked.Alone command) = IsAloneInRange command
IsAskedInRange (asked.Beside command) = IsBesideInRange command

-- the words of this command are read so: as what asks for it, within the ranges, or as nothing
-- where it is no command
pub record IsReadAs (c : Command) (asked : Option Asked) : Type 0 where
  pub some : IfSome asked (λ a. c ≡ asks_for a)
  pub none : IfNone asked (c ≡ NoCommand)
  pub range : IfSome asked IsAskedInRange

-- the same of words of which only a command that starts no thread is read
pub record IsReadAlone (c : Command) (asked : Option AskedAlone) : Type 0 where
  pub some : IfSome asked (λ a. c ≡ asks_alone a)
  pub none : IfNone asked (starts_threads c ≡ false → c ≡ NoCommand)
  pub range : IfSome asked IsAloneInRange

-- the same of words of which only a command that starts threads is read
pub record IsReadBeside (c : Command) (asked : Option AskedBeside) : Type 0 where
  pub some : IfSome asked (λ a. c ≡ asks_beside a)
  pub threads : is_some asked ≡ starts_threads c
  pub range : IfSome asked IsBesideInRange
