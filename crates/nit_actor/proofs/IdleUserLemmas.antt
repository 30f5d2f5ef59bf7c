-- One client and a user who does nothing, stepped together.
use Rattle.nit_actor.proofs.Basics.{Action, Call, Calls, Entry, Line, List, Option, PassModel}
use Rattle.nit_actor.proofs.Basics.{Reply, Role, RoomModel, Sight, Some, StepOn, StepTogether}
use Rattle.nit_actor.proofs.Basics.{UserPassModel, [], action_of, actions_to_be, after_arrival, ap}
use Rattle.nit_actor.proofs.Basics.{ap₂, arith, arrived_one, call_of_line, calls_in, cond, count_by}
use Rattle.nit_actor.proofs.Basics.{drop, drop_at, false, idle_user, is_phase, length, length-drop}
use Rattle.nit_actor.proofs.Basics.{map, refl, replicate, role_of, suc, sum_by-cons}
use Rattle.nit_actor.proofs.Basics.{user_actions_from, user_actions_to_do}
use Rattle.nit_hall.specs.Room.{with_room_stages}
use Rattle.std.proofs.Common.{slice_get, zero, zero-add, ℕ, ◌++◌, ◌+◌, ◌∙◌, ◌∷◌, ◌≡◌, ◌≤◌}
use Rattle.std.proofs.lemmas.List.{drop_all}
use Rattle.nit_events.specs.declared.entry.Entry.TheVariants as entry
use Rattle.nit_script.specs.declared.line.Line.TheVariants as line
use Rattle.nit_script.specs.declared.line.InputLine.TheVariants as input

-- ---- what is left of a list

first_left : {X : Type 0} (k : ℕ) (xs : List X) (x : X) (ys : List X) → drop k xs ≡ x ∷ ys → slice_get xs k ≡ Some x
first_left zero [] x ys e = absurd (cc)
first_left zero (y ∷ xs) x ys e = cc
first_left (suc k) [] x ys e = absurd (cc)
first_left (suc k) (y ∷ xs) x ys e = first_left k xs x ys e

others_left : {X : Type 0} (k : ℕ) (xs : List X) (x : X) (ys : List X) → drop k xs ≡ x ∷ ys → drop (k + 1) xs ≡ ys
others_left k xs x ys e = cc (drop_at xs k x (first_left k xs x ys e), e)

-- the next line is a call, and this one
pub at_call : (o : Option Line) (l : Line) (c : Call) → o ≡ Some l → l ≡ line.Call c
    → o ≡ Some (line.Call (call_of_line o))
at_call o l c at is = rw (at, is)

pub at_line : (o : Option Line) (l m : Line) → o ≡ Some l → l ≡ m → o ≡ Some m
at_line o l m at is = rw (at, is)

-- ---- the idle user

count_line : (l : Line) (ls : List Line)
    → count_by is_phase (l ∷ ls) ≡ cond {A = ℕ} (is_phase l) 1 0 + count_by is_phase ls
count_line l ls = sum_by-cons _ l ls

pub idle_on : (l : Line) (ls : List Line) → is_phase l ≡ false → idle_user (l ∷ ls) ≡ idle_user ls
idle_on l ls other = rw (count_line l ls, other, zero-add (count_by is_phase ls))

pub idle_phase : (ls : List Line) → idle_user (line.Phase ∷ ls) ≡ input.Phase ∷ idle_user ls
idle_phase ls =
    let n : count_by is_phase (line.Phase ∷ ls) ≡ suc (count_by is_phase ls) = count_line line.Phase ls ∙ omega arith in
    ap (λ (k : ℕ). replicate k input.Phase) n

-- ---- one line of the client's

pub step_on : {r r' : RoomModel} {p p' : PassModel} {u : UserPassModel} {l : Line} {met : ℕ} {seen : List Entry}
    {sight : Sight} → StepTogether r p u → slice_get p.script p.next ≡ Some l → is_phase l ≡ false
    → r'.parts ≡ r.parts → r'.phase ≡ r.phase → r'.arrived ≡ r.arrived
    → p' ≡ record p { next = p.next + 1; met = met; seen = seen; sight = sight } → StepOn r p u r' p' u
step_on {p = p} {l = l} s at other parts phase arrived is =
    rw is (record {
      step = record {
        one = rw parts s.one;
        belongs = rw parts (assumption s.belongs);
        user_belongs = rw parts s.user_belongs;
        phase = rw phase s.phase;
        user_phase = rw phase s.user_phase;
        arrived = rw arrived s.arrived;
        idle = s.idle ∙ ap idle_user (drop_at p.script p.next l at) ∙ idle_on l (drop (p.next + 1) p.script) other;
      };
      pass = record { same = refl; next = refl; later = omega arith };
      user_same = refl;
      parts = parts;
    })

-- ---- the end of a phase

-- the user is at a line that ends a phase too
pub user_at_phase : (r : RoomModel) (p : PassModel) (u : UserPassModel) → StepTogether r p u
    → slice_get p.script p.next ≡ Some line.Phase → slice_get u.input u.next ≡ Some input.Phase
user_at_phase r p u s at =
    first_left u.next u.input input.Phase (idle_user (drop (p.next + 1) p.script))
    (s.idle ∙ ap idle_user (drop_at p.script p.next line.Phase at) ∙ idle_phase (drop (p.next + 1) p.script))

one_arrived : (n phase arrived : ℕ) → n ≡ 1 → arrived ≡ 0 → after_arrival n phase arrived ≡ (phase, 1)
one_arrived n phase arrived one none = rw (one, none)

both_arrived : (n phase arrived : ℕ) → n ≡ 1 → arrived ≡ 1 → after_arrival n phase arrived ≡ (phase + 1, 0)
both_arrived n phase arrived one has = rw (one, has)

pub phase_ended : {r r1 r2 : RoomModel} {p p' : PassModel} {u u' : UserPassModel} (n m : ℕ)
    (stages : List (List ℕ)) {seen known : List Entry} {raws : List (List ℕ)} {sight : Sight} → StepTogether r p u
    → slice_get p.script p.next ≡ Some line.Phase
    → r1 ≡ arrived_one (with_room_stages r n stages) n → r2 ≡ arrived_one r1 m
    → p' ≡ record p { next = p.next + 1; phase = p.phase + 1; seen = seen; sight = sight }
    → u' ≡ record u { next = u.next + 1; phase = u.phase + 1; seen = known; raws = raws } → StepOn r p u r2 p' u'
phase_ended {r = r} {p = p} {u = u} n m stages s at is_first is_second passed user_passed =
    let first = one_arrived (length r.parts.scripts) r.phase r.arrived s.one s.arrived in
    let agreed = with_room_stages r n stages in
    let then = both_arrived (length r.parts.scripts) (arrived_one r n).phase (arrived_one r n).arrived s.one
    (ap (λ x. x.1) first) in
    let served : (arrived_one (arrived_one agreed n) m).phase ≡ r.phase + 1 = ap (λ x. x.0) then
    ∙ ap (λ (x : ℕ × ℕ). x.0 + 1) first in
    let idle = others_left u.next u.input input.Phase (idle_user (drop (p.next + 1) p.script))
    (s.idle ∙ ap idle_user (drop_at p.script p.next line.Phase at) ∙ idle_phase (drop (p.next + 1) p.script)) in
    rw (is_second, is_first, passed, user_passed) (record {
      step = record {
        one = s.one;
        belongs = assumption s.belongs;
        user_belongs = assumption s.user_belongs;
        phase = rw (s.phase, served);
        user_phase = rw (s.user_phase, served);
        arrived = ap (λ x. x.1) then;
        idle = idle;
      };
      pass = record { same = refl; next = refl; later = omega arith };
      user_same = refl;
      parts = refl;
    })

-- ---- at the end

pub user_ended : (r : RoomModel) (p : PassModel) (u : UserPassModel) → StepTogether r p u → p.next ≡ length p.script
    → u.next ≤ length u.input → u.next ≡ length u.input
user_ended r p u s ended within =
    let none = s.idle ∙ ap idle_user (drop_all p.next p.script (omega arith)) in
    omega (arith, ap length none, length-drop u.next u.input, within)

-- ---- what is recorded

acts_behind : (es : List Entry) (e : Entry) (more : List Action) → map action_of (es ++ e ∷ []) ++ more
    ≡ map action_of es ++ (action_of e ∷ more)
acts_behind [] e more = refl
acts_behind (x ∷ es) e more = rw (acts_behind es e more)

pub call_recorded : (entries : List Entry) (p : PassModel) (r : Reply) {now seen : List Entry} {p' : PassModel}
    {c : Call} {met : ℕ} {sight : Sight} → slice_get p.script p.next ≡ Some (line.Call c)
    → now ≡ entries ++ entry.Call p.sid c r ∷ []
    → p' ≡ record p { next = p.next + 1; met = met; seen = seen; sight = sight }
    → actions_to_be now p' ≡ actions_to_be entries p
call_recorded entries p r {c = c} at recorded is =
    rw (is, recorded, drop_at p.script p.next (line.Call c) at) (acts_behind entries (entry.Call p.sid c r) _)

-- a line that is no call records nothing
pub nothing_recorded : (entries now : List Entry) (p p' : PassModel) (l : Line) → slice_get p.script p.next ≡ Some l
    → ((ls : List Line) → calls_in (l ∷ ls) ≡ calls_in ls)
    → now ≡ entries → role_of p' ≡ role_of p → p'.next ≡ p.next + 1 → actions_to_be now p' ≡ actions_to_be entries p
nothing_recorded entries now p p' l at none same role next =
    ap₂ (λ (r : Role) (n : ℕ). map action_of now ++ map (Calls r.sid) (calls_in (drop n r.script))) role next
    ∙ rw (same, drop_at p.script p.next l at, none (drop (p.next + 1) p.script))

-- ---- the idle user's actions

pub idle_actions : (ls : List Line) → user_actions_to_do (idle_user ls) ≡ []
idle_actions ls = none 0 (count_by is_phase ls)
  where
    none : (p n : ℕ) → user_actions_from p (replicate n input.Phase) ≡ []
    none p zero = refl
    none p (suc n) = none (suc p) n
