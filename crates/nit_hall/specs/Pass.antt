-- What contracts see of a client's pass and of the user's.
use Rattle.std.specs.Prelude.{◌≡◌, ℕ, ◌+◌, ◌≤◌, List, length, take, slice_get, Option, Some, IsSome}
use Rattle.nit_hall.specs.Below.{BookName, Call, Device, End, Entry, InputLine, IsPaintedTo, Line}
use Rattle.nit_hall.specs.Below.{PlanModel, Reply, Routed, ShareModel, Sight, Standing, Stroke}
use Rattle.nit_hall.specs.Below.{calls_in, calls_of, donation_of, no_sight, script_ink, seen}
use Rattle.nit_hall.specs.Below.{user_actions_of, with_stages, with_words, words_after}
use Rattle.nit_events.specs.declared.call.Call.TheVariants as call
use Rattle.nit_events.specs.declared.device.Device.TheVariants as device
use Rattle.nit_events.specs.declared.entry.Entry.TheVariants as entry
use Rattle.nit_script.specs.declared.line.Line.TheVariants as line
use Rattle.nit_script.specs.declared.line.InputLine.TheVariants as input
use Rattle.nit_hall.specs.ServedLines.{served, user_actions_in, phases_before, input_phases_before}
use Rattle.nit_hall.specs.OpeningParts.{OpeningParts}
use Rattle.nit_hall.specs.Stretch.{HasStretch, line_stages, stretch}

-- A client's pass: its number, how many lines of its script are done, and how many phases; the
-- phase
-- that it last found served, by a call or by waiting; the name of its room's book, its script, plan
-- and donation; the entries that it knows; what it sees of its words, and where its end of them
-- stands.
pub record PassModel : Type 0 where
  pub sid : ℕ
  pub next : ℕ
  pub phase : ℕ
  pub met : ℕ
  pub name : BookName
  pub script : List Line
  pub plan : PlanModel
  pub donation : ℕ
  pub seen : List Entry
  pub sight : Sight
  pub stand : Standing

-- The user's pass: its number, which is the number of clients; how many lines of the input script
-- are done, and how many phases; the name of its room's book, the input script, and the entries
-- that it knows, with the raw words after each of them.
pub record UserPassModel : Type 0 where
  pub number : ℕ
  pub next : ℕ
  pub phase : ℕ
  pub name : BookName
  pub input : List InputLine
  pub seen : List Entry
  pub raws : List (List ℕ)

-- What holds of every pass: its share has its number, and counts the lines before its next one that
-- the room serves; what it knows of the journal has exactly its own calls so far; and its words are
-- those that the lines before its next one leave, with its script's ink. Its end agrees with the
-- room's on some stages; where the pass has found its phase served, these have what the lines leave
-- up to the next one that the room serves. The end that it holds in the place of the room's, while
-- it agrees, is of the same table.
pub record IsPass (p : PassModel) (share : ShareModel) (spare : End) : Type 0 where
  pub number : share.number ≡ p.sid
  pub counted : share.count ≡ length (served (take p.next p.script))
  pub within : p.next ≤ length p.script
  pub phase : p.phase ≡ phases_before p.script p.next
  pub known : calls_of p.sid p.seen ≡ calls_in (take p.next p.script)
  pub owner : p.sight.owner ≡ p.sid
  pub painted : IsPaintedTo p.script p.donation p.plan p.next p.sight
  pub inked : p.sight.ink ≡ script_ink p.script p.donation
  pub told : p.sight.words ≡ Some (words_after p.script p.donation p.next)
  pub not_ahead : p.met ≤ p.phase
  pub agreed : IsSome p.sight.stages
  pub stretch : p.met ≡ p.phase → HasStretch p.script p.donation p.next p.sight.stages
  pub spare_owner : spare.sight.owner ≡ p.sid
  pub spare_size : spare.sight.size ≡ p.sight.size

-- What holds of the user's pass: its share has its number, and counts all lines before its next
-- one, since the room serves each of them; and what it knows of the journal has exactly its own
-- lines so far.
pub record IsUserPass (u : UserPassModel) (share : ShareModel) : Type 0 where
  pub number : share.number ≡ u.number
  pub counted : share.count ≡ u.next
  pub within : u.next ≤ length u.input
  pub phase : u.phase ≡ input_phases_before u.input u.next
  pub known : user_actions_of u.seen ≡ user_actions_in (take u.next u.input)

-- ---- the next line

-- the call of a line; any other line has none
abbrev pub call_of_line : Option Line → Call
call_of_line (Some (line.Call c)) = c
call_of_line other = call.Take

-- what the client calls next
abbrev pub next_call : PassModel → Call
next_call p = call_of_line (slice_get p.script p.next)

-- the next line is a call
abbrev pub IsAtCall : PassModel → Type 0
IsAtCall p = slice_get p.script p.next ≡ Some (line.Call (next_call p))

-- the next line is a stroke
abbrev pub IsAtStroke : PassModel → Type 0
IsAtStroke p = (s : Stroke) × (slice_get p.script p.next ≡ Some (line.Stroke s))

-- the pass has found the phase served that it is in
abbrev pub HasMetPhase : PassModel → Type 0
HasMetPhase p = p.met ≡ p.phase

-- the next line ends a phase
abbrev pub IsAtPhase : PassModel → Type 0
IsAtPhase p = slice_get p.script p.next ≡ Some line.Phase

-- the entry of the client's next line, which is a call, with this reply
abbrev pub call_entry : PassModel → Reply → Entry
call_entry p r = entry.Call p.sid (next_call p) r

-- what the pass sees of its words when its next line has set them
abbrev pub sight_after_line : PassModel → Sight
sight_after_line p = with_words (λ words. words_after p.script p.donation (p.next + 1)) p.sight

-- the sight where the pass agrees with the room on what its next line, a call, leaves
abbrev pub in_line : PassModel → Sight → Sight
in_line p sight = with_stages (line_stages p.script p.donation p.next) sight

-- the stages of the strokes from line k of the pass's script on
abbrev pub stretch_from : PassModel → ℕ → List (List ℕ)
stretch_from p k = stretch p.script p.donation k

-- the sight after some loads, with other stages: a told log has the loads at its end, and all else
-- is as before
abbrev pub HasLoaded : Sight → Sight → Type 0
HasLoaded before after =
    (loads : List (ℕ × ℕ)) × (after ≡ record (seen before loads) { stages = after.stages })

-- the device event of a line; any other line has none
abbrev pub device_of_line : Option InputLine → Device
device_of_line (Some (input.Device d)) = d
device_of_line other = device.Motion 0 0

-- what the user does next
abbrev pub next_device : UserPassModel → Device
next_device u = device_of_line (slice_get u.input u.next)

-- the next line is of a device
abbrev pub IsAtDevice : UserPassModel → Type 0
IsAtDevice u = slice_get u.input u.next ≡ Some (input.Device (next_device u))

-- the next line is a shot
abbrev pub IsAtShot : UserPassModel → Type 0
IsAtShot u = slice_get u.input u.next ≡ Some input.Shot

-- the next line ends a phase
abbrev pub IsAtUserPhase : UserPassModel → Type 0
IsAtUserPhase u = slice_get u.input u.next ≡ Some input.Phase

-- the entry of the user's next line, which is of a device, with what it delivers
abbrev pub device_entry : UserPassModel → Routed → Entry
device_entry u routed = entry.Input (next_device u) routed

-- ---- of which opening it is

-- the pass has the name of this opening, and the parts of it at its number
pub record Belongs (parts : OpeningParts) (p : PassModel) : Type 0 where
  pub name : p.name ≡ parts.name
  pub script : slice_get parts.scripts p.sid ≡ Some p.script
  pub plan : slice_get parts.plans p.sid ≡ Some p.plan
  pub donation : p.donation ≡ donation_of parts.config p.sid
  pub buffer : slice_get parts.buffers p.sid ≡ Some p.stand.buffer

-- the user's pass has the name of this opening, and its input script
pub record UserBelongs (parts : OpeningParts) (u : UserPassModel) : Type 0 where
  pub number : u.number ≡ length parts.scripts
  pub name : u.name ≡ parts.name
  pub input : u.input ≡ parts.input

-- ---- at the end

-- what contracts see of a pass besides its sight
abbrev pub rest_of : PassModel → PassModel
rest_of p = record p { sight = no_sight }

-- the pass that knows these entries
abbrev pub knowing : List Entry → PassModel → PassModel
knowing known p = record p { seen = known }

-- the pass is the one of this number, and each line of its script is done
pub record IsDonePass (parts : OpeningParts) (k : ℕ) (p : PassModel) : Type 0 where
  pub belongs : Belongs parts p
  pub number : p.sid ≡ k
  pub ended : p.next ≡ length p.script

-- there is a pass for each client, in order, and each is done
pub record AreDone (parts : OpeningParts) (ps : List PassModel) : Type 0 where
  pub each : length ps ≡ length parts.scripts
  pub done_all : (k : ℕ) (p : PassModel) → slice_get ps k ≡ Some p → IsDonePass parts k p

-- the user's pass is of this opening, and each line of the input script is done
pub record IsDoneUser (parts : OpeningParts) (u : UserPassModel) : Type 0 where
  pub belongs : UserBelongs parts u
  pub ended : u.next ≡ length u.input
