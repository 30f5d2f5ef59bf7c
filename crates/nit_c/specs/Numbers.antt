-- The numbers by which C is told what a call answers.
use Rattle.std.specs.Prelude.{ℕ, ◌-◌, ◌^◌, Option, Some, None}
use Rattle.nit_c.specs.Below.{ConfigError, Mode, Status, Unseated, Unserved}
use Rattle.nit_config.specs.declared.error.ConfigError.TheVariants as refused
use Rattle.nit_events.specs.declared.device.Mode.TheVariants as mode
use Rattle.nit_events.specs.declared.event.Status.TheVariants as status
use Rattle.nit_host.specs.declared.refusal.Unseated.TheVariants as unseated
use Rattle.nit_host.specs.declared.refusal.Unserved.TheVariants as unserved

-- a number, or that of none
abbrev pub number_or_none : Option ℕ → ℕ
number_or_none (Some n) = n
number_or_none None = 2 ^ 32 - 1

-- why a call is not served
abbrev pub unserved_number : Unserved → ℕ
unserved_number unserved.NoSeat = 32
unserved_number unserved.OtherClient = 46
unserved_number unserved.NoView = 5
unserved_number unserved.BadDevice = 37
unserved_number unserved.ShortWords = 38
unserved_number unserved.HandlesUsedUp = 40
unserved_number unserved.Moved = 45
unserved_number unserved.WornOut = 41

-- why a client is not given a seat
abbrev pub unseated_number : Unseated → ℕ
unseated_number unseated.NoSeat = 32
unseated_number unseated.Taken = 33
unseated_number unseated.LabelTaken = 34
unseated_number unseated.NoneFree = 47
unseated_number unseated.WornOut = 41

-- why a configuration is refused
abbrev pub config_number : ConfigError → ℕ
config_number refused.NoMemory = 42
config_number refused.Syntax = 65
config_number refused.Kind = 66
config_number refused.Missing = 67
config_number refused.Unknown = 68
config_number refused.TooMany = 69
config_number refused.Range = 70
config_number refused.Label = 71
config_number refused.Twice = 72

abbrev pub mode_number : Mode → ℕ
mode_number mode.Flat = 0
mode_number mode.Xray = 1
mode_number mode.Kill = 2

abbrev pub status_number : Status → ℕ
status_number status.Live = 1
status_number status.Closed = 2
status_number status.Killed = 3
