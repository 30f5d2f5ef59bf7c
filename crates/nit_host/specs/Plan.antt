-- The configuration that a plan of a screen and its seats makes, or why it makes none.
use Rattle.std.specs.Prelude.{Bool, List, None, Option, Some, [], codes, if◌then◌else◌, length, map}
use Rattle.std.specs.Prelude.{nat_le, nat_lt, not, ℕ, ◌%◌, ◌&&◌, ◌+◌, ◌/◌, ◌||◌, ◌∷◌}
use Rattle.nit_host.specs.Below.{Configuration, Member, PlanError, ScreenPlan, SeatPlan}
use Rattle.nit_host.specs.Below.{enumerate_from, least_units, list_all, most_height, most_scale}
use Rattle.nit_host.specs.Below.{most_sessions, most_units, most_width, picture_height}
use Rattle.nit_host.specs.declared.refusal.PlanError.TheVariants as plan_error

-- a number is from the first to the last
abbrev pub is_within : ℕ → ℕ → ℕ → Bool
is_within first last n = nat_le first n && nat_le n last

-- the screen is not too small and not too large, a dot of its texts has a side of 1 to 8 pixels, and
-- the status bar, where there is one, leaves a row below
abbrev pub is_screen : ScreenPlan → Bool
is_screen screen =
    is_within 1 most_width screen.width
    && is_within 1 most_height screen.height
    && is_within 1 most_scale screen.lettering.scale
    && (not screen.bar || nat_lt (picture_height screen.lettering) screen.height)

-- why a plan is refused, if it is
abbrev pub refused_plan : ScreenPlan → List SeatPlan → Option PlanError
refused_plan screen seats =
    if not (is_screen screen) then Some plan_error.Screen
    else if not (is_within 1 most_sessions (length seats)) then Some plan_error.Seats
    else if not (list_all (λ s. is_within least_units most_units s.donation) seats) then Some
    plan_error.Donation
    else if not (list_all (λ s. nat_le s.layer 7) seats) then Some plan_error.Layer
    else None

-- the name of a script that is not there
abbrev pub no_script : List ℕ
no_script = codes "-"

-- a digit to the base 16: `0` to `9`, then `a` to `f`
abbrev pub hex_digit : ℕ → ℕ
hex_digit n = if nat_lt n 10 then 48 + n else 87 + n

-- the label that waits at a free seat: `.` and the seat's number, in two digits
abbrev pub waiting_label : ℕ → List ℕ
waiting_label seat = 46 ∷ hex_digit (seat / 16) ∷ hex_digit (seat % 16) ∷ []

-- a seat as a client of the configuration
abbrev pub waiting_member : ℕ → SeatPlan → Member
waiting_member seat plan =
    record {
      label = waiting_label seat;
      donation = plan.donation;
      script = no_script;
      layer = plan.layer;
      clicks = plan.clicks;
    }

-- the configuration of a plan: a client for each seat, in order
abbrev pub planned : ScreenPlan → List SeatPlan → Configuration
planned screen seats =
    record {
      width = screen.width;
      height = screen.height;
      bar = screen.bar;
      lettering = screen.lettering;
      input = no_script;
      clients = map (λ p. waiting_member p.0 p.1) (enumerate_from 0 seats);
    }
