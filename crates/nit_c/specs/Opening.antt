-- A server is opened and closed.
use Rattle.std.specs.Prelude.{◌≡◌, ◌≤◌, ◌<◌, ◌⊎◌, ◌+◌, ◌-◌, ◌*◌, ◌/◌, ◌^◌, ◌==◌, ◌&&◌, not, nat_le}
use Rattle.std.specs.Prelude.{ℕ, Bool}
use Rattle.std.specs.Prelude.{List, length, map, slice_index, Option, Some, None, Result, Ok, Err}
use Rattle.std.specs.Prelude.{if◌then◌else◌}
use Rattle.nit_c.specs.Below.{ConfigError, Configuration, HostModel, IsConfigAnswer}
use Rattle.nit_c.specs.Below.{IsConfigurationOf, IsFaultLine, Large, MeetsRefusal, PlanError}
use Rattle.nit_c.specs.Below.{ScreenPlan, SeatPlan, Small, UnlessMemory, first_host, first_state}
use Rattle.nit_c.specs.Below.{list_all, most_sessions}
use Rattle.nit_c.specs.Below.{planned, range_with_len, refused_plan, vacant_state}
use Rattle.nit_host.specs.declared.refusal.PlanError.TheVariants as refused
use Rattle.nit_c.specs.Numbers.{config_number}
use Rattle.nit_c.specs.Steps.{Unless}

-- ---- by a plan

-- The screen of these numbers: a bar for 1 and none for 0, small glyphs for 0 and large ones for 1,
-- and the side of a dot. With other numbers there is none.
abbrev pub screen_plan : ℕ → ℕ → ℕ → ℕ → ℕ → Option ScreenPlan
screen_plan width height bar glyphs scale =
    if nat_le bar 1 && nat_le glyphs 1 then Some (record {
      width = width;
      height = height;
      bar = bar == 1;
      lettering = record { glyphs = if glyphs == 1 then Large else Small; scale = scale };
    })
    else None

-- the seat of a number: three words
abbrev pub seat_at : List ℕ → ℕ → SeatPlan
seat_at words k = record {
  donation = slice_index words (3 * k);
  layer = slice_index words (3 * k + 1);
  clicks = slice_index words (3 * k + 2) == 1;
}

-- how many seats the words have
abbrev pub seat_count : List ℕ → ℕ
seat_count words = length words / 3

abbrev pub seats_in : List ℕ → List SeatPlan
seats_in words = map (seat_at words) (range_with_len 0 (seat_count words))

-- the third word of a seat is 0 or 1
abbrev pub has_click : List ℕ → ℕ → Bool
has_click words k = nat_le (slice_index words (3 * k + 2)) 1

-- that of each seat is
abbrev pub have_clicks : List ℕ → Bool
have_clicks words = list_all (has_click words) (range_with_len 0 (seat_count words))

-- there are three words for each of at most 64 seats
abbrev pub are_seats : List ℕ → Bool
are_seats words =
    nat_le (length words) (3 * most_sessions)
    && (length words == 3 * seat_count words)
    && have_clicks words

-- the number of a refusal of a plan
abbrev pub plan_number : PlanError → ℕ
plan_number refused.NoMemory = 42
plan_number refused.Screen = 44
plan_number refused.Seats = 44
plan_number refused.Donation = 44
plan_number refused.Layer = 44

-- the number of the refusal, where a plan is refused
abbrev pub bad_plan : Option PlanError → Option ℕ
bad_plan None = None
bad_plan (Some why) = Some (plan_number why)

-- why a plan of a screen, and of seats in words, is refused, if it is
abbrev pub refused_words : ScreenPlan → List ℕ → Option ℕ
refused_words screen words =
    if not (are_seats words) then Some 44 else bad_plan (refused_plan screen (seats_in words))

abbrev pub planned_config : ScreenPlan → List ℕ → Configuration
planned_config screen words = planned screen (seats_in words)

-- the server of a plan, whose seats are all free
abbrev pub planned_host : ScreenPlan → List ℕ → HostModel
planned_host screen words =
    let config = planned_config screen words in
    first_host (vacant_state config) config

-- the server is there, unless memory ran out
abbrev pub IsMade : HostModel → Option HostModel → ℕ → Type 0
IsMade h new answer = ((new ≡ Some h) × (answer ≡ 1)) ⊎ ((new ≡ None) × (answer ≡ 42))

-- the server of a plan is there, or there is none and the number tells why
abbrev pub IsMadeByPlan : Option ScreenPlan → List ℕ → Option HostModel → ℕ → Type 0
IsMadeByPlan None words new answer = (new ≡ None) × (answer ≡ 44)
IsMadeByPlan (Some screen) words new answer =
    Unless (refused_words screen words)
    (IsMade (planned_host screen words) new answer)
    (λ why. (new ≡ None) × (answer ≡ why))

-- a server is opened by a plan, where the handle has none
abbrev pub IsOpened : Option HostModel → Option HostModel → Option ScreenPlan → List ℕ → ℕ → Type 0
IsOpened (Some h) new screen words answer = (new ≡ Some h) × (answer ≡ 43)
IsOpened None new screen words answer = IsMadeByPlan screen words new answer

-- ---- by a configuration

-- so many bytes may the text have
abbrev pub most_config : ℕ
most_config = 1048576

-- what is opened by what reading the text gave
abbrev pub IsOpenedAs : Result Configuration ConfigError → Option HostModel → ℕ → Type 0
IsOpenedAs (Ok config) new answer = IsMade (first_host (first_state config) config) new answer
IsOpenedAs (Err error) new answer = (new ≡ None) × (answer ≡ config_number error)

-- The text was read: as its configuration, where it is one, and with the refusal that it meets,
-- where it meets one, unless memory ran out; and what was read is opened.
pub record IsRead (text : List ℕ) (new : Option HostModel) (number : ℕ) : Type 0 where
  pub result : Result Configuration ConfigError
  pub answer : IsConfigAnswer text result
  pub read : (config : Configuration) → IsConfigurationOf text config
      → UnlessMemory result (result ≡ Ok config)
  pub refused : (error : ConfigError) → MeetsRefusal text error
      → UnlessMemory result (result ≡ Err error)
  pub opened : IsOpenedAs result new number

-- a text that is not too long is read
pub record IsReadWhole (text : List ℕ) (new : Option HostModel) (number : ℕ) : Type 0 where
  pub long : most_config < length text → (new ≡ None) × (number ≡ 64)
  pub read : length text ≤ most_config → IsRead text new number

-- a server is opened by a text, where the handle has none
abbrev pub IsOpenedBy : Option HostModel → Option HostModel → List ℕ → ℕ → Type 0
IsOpenedBy (Some h) new text answer = (new ≡ Some h) × (answer ≡ 43)
IsOpenedBy None new text answer = IsReadWhole text new answer

-- ---- the line of a refusal

-- the line in which a text stops being a table, or 0 where it is one
abbrev pub c_line : Option ℕ → ℕ
c_line None = 0
c_line (Some line) = line

-- A text that is not too long has its line told, unless memory ran out. 2^32 - 1 tells nothing.
pub record IsConfigLine (text : List ℕ) (answer : ℕ) : Type 0 where
  pub long : most_config < length text → answer ≡ 2 ^ 32 - 1
  pub read : length text ≤ most_config → (answer ≡ 2 ^ 32 - 1)
      ⊎ ((line : Option ℕ) × IsFaultLine text line × (answer ≡ c_line line))

-- ---- closing

-- there is no server afterwards, and the answer says whether there was one
abbrev pub IsShut : Option HostModel → Option HostModel → ℕ → Type 0
IsShut None new answer = (new ≡ None) × (answer ≡ 0)
IsShut (Some h) new answer = (new ≡ None) × (answer ≡ 1)
