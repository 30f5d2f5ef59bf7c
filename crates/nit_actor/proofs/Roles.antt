-- The roles of actors: of one that did a line, of a pass and its clip pass; and the least phase of those not done.
use Rattle.nit_actor.proofs.Basics.{All, All-cons, All-push, Belongs, Bool, ClipPassModel}
use Rattle.nit_actor.proofs.Basics.{Contains-append_left, Contains-push, DidClips, GoTogether}
use Rattle.nit_actor.proofs.Basics.{IfSome, IsAtClipPhase, IsAtPhase, IsLeastOf, IsNotBefore, IsOneOn, IsPairIn}
use Rattle.nit_actor.proofs.Basics.{IsPairRoleIn, IsRoleIn, Line, List, None, NoneIsBefore}
use Rattle.nit_actor.proofs.Basics.{OpeningParts, Option, Pair, PairIsOneOn, PairIsThrough}
use Rattle.nit_actor.proofs.Basics.{PairRole, PassModel, Role, Some, UserBelongs, UserPassModel}
use Rattle.nit_actor.proofs.Basics.{UserRole, [], ap, append-nil, arith, cases_lt}
use Rattle.nit_actor.proofs.Basics.{clip_phases_before, clip_role_of, cond, cons_option, count_by}
use Rattle.nit_actor.proofs.Basics.{counted_more, counted_same, eq-eqb, eqb-true, false, filter_map}
use Rattle.nit_actor.proofs.Basics.{filter_map-append, get_or, inl, inr, is_clip_phase, is_phase}
use Rattle.nit_actor.proofs.Basics.{length, length-map, lesser, map, min, pair_phase_left}
use Rattle.nit_actor.proofs.Basics.{pair_role_of, phase_left, phases, phases_before, phases_left}
use Rattle.nit_actor.proofs.Basics.{refl, role_of, set, slice_index_or, subst, suc, sum_by-take-le}
use Rattle.nit_actor.proofs.Basics.{sym, take, take_all, take_more, user_phase_left, user_role_of}
use Rattle.std.proofs.Math.ListN.{get_or-map}
use Rattle.std.proofs.Common.{slice_get, true, ℕ, ◌++◌, ◌+◌, ◌<◌, ◌==◌, ◌∙◌, ◌∷◌, ◌≡◌, ◌≤◌, ◌⊎◌}
use Rattle.std.proofs.lemmas.Bool.Decides.{nat_tests}
use Rattle.std.proofs.lemmas.List.{map-set, set-get_or}
use Rattle.nit_clip.specs.declared.line.ClipLine.TheVariants as clip
use Rattle.nit_script.specs.declared.line.Line.TheVariants as line

-- ---- lists of any actors

-- where one keeps its role, all do
pub same_set : {X R : Type 0} (f : X → R) (xs : List X) (i : ℕ) (x d : X) → i < length xs → f x ≡ f (get_or xs i d)
    → map f (set xs i x) ≡ map f xs
same_set f xs i x d h e = rw (map-set f xs i x, e, ← get_or-map f xs i d, set-get_or (map f xs) i (f d))

-- what holds of some roles holds of the same roles
pub all_again : {X R : Type 0} (f : X → R) (P : R → Type 0) (xs ys : List X) → map f xs ≡ map f ys
    → All (λ y. P (f y)) ys → All (λ x. P (f x)) xs
all_again f P xs ys e all = λ k d inside.
    let long = simp length-map at (ap length e) in
    rw (← get_or-map f xs k d, e, get_or-map f ys k d) (all k d (omega (arith, long, inside)))

-- ---- passes

abbrev roles : List PassModel → List Role
roles ps = map (λ (p : PassModel). role_of p) ps

pub role_at : (ps : List PassModel) (k : ℕ) (d : PassModel)
    → role_of (slice_index_or ps k d) ≡ slice_index_or (roles ps) k (role_of d)
role_at ps k d = sym (get_or-map role_of ps k d)

pub roles_long : (ps qs : List PassModel) → roles ps ≡ roles qs → length ps ≡ length qs
roles_long ps qs e = simp length-map at (ap length e)

-- ---- of one opening

pub role_fits : (parts : OpeningParts) (p : PassModel) → Belongs parts p → IsRoleIn parts (role_of p)
role_fits parts p b = assumption

pub fits_belongs : (parts : OpeningParts) (p : PassModel) → IsRoleIn parts (role_of p) → Belongs parts p
fits_belongs parts p r = assumption

pub roles_fit : (parts : OpeningParts) (ps : List PassModel) → All (λ (p : PassModel). Belongs parts p) ps
    → All (λ (p : PassModel). IsRoleIn parts (role_of p)) ps
roles_fit parts ps all = λ k d inside. role_fits parts (slice_index_or ps k d) (all k d inside)

-- passes of the same roles belong to the same opening
pub fit_again : (parts : OpeningParts) (ps qs : List PassModel) → roles ps ≡ roles qs
    → All (λ (p : PassModel). IsRoleIn parts (role_of p)) qs → All (λ (p : PassModel). IsRoleIn parts (role_of p)) ps
fit_again parts ps qs e all = all_again role_of (λ (r : Role). IsRoleIn parts r) ps qs e all

-- and so does the user
pub user_again : (parts : OpeningParts) (u v : UserPassModel) → UserBelongs parts u → user_role_of v ≡ user_role_of u
    → UserBelongs parts v
user_again parts u v b e = record {
  number = ap (λ (r : UserRole). r.number) e ∙ b.number;
  name = ap (λ (r : UserRole). r.name) e ∙ b.name;
  input = ap (λ (r : UserRole). r.input) e ∙ b.input;
}

-- ---- what the lines that are done tell of a count of lines, such as that of the phases that they end

-- before a line that counts there are fewer than in all
pub counted_fewer : {X : Type 0} (p : X → Bool) (xs : List X) (k : ℕ) (x : X) → slice_get xs k ≡ Some x → p x ≡ true
    → count_by p (take k xs) + 1 ≤ count_by p xs
counted_fewer p xs k x at is =
    rw (← counted_more p xs k x at is) (sum_by-take-le (λ y. cond {A = ℕ} (p y) 1 0) xs (k + 1))

-- before the end there are all
pub counted_all : {X : Type 0} (p : X → Bool) (xs : List X) (k : ℕ) → k ≡ length xs
    → count_by p (take k xs) ≡ count_by p xs
counted_all p xs k is = ap (count_by p) (take_all k xs (omega (arith, is)))

-- A pass and its clip pass, when one or both of them did a line.

-- ---- phases

-- the phases of a pass are as many as its lines end
abbrev pub IsCounted : PassModel → Type 0
IsCounted p = p.phase ≡ phases_before p.script p.next

abbrev pub IsClipCounted : ClipPassModel → Type 0
IsClipCounted q = q.phase ≡ clip_phases_before q.script q.next

-- where the pass did this line, its phases are those of one line more of the script
one_more : (p p' : PassModel) → IsOneOn p p' → IsCounted p' → p'.phase ≡ phases_before p.script (p.next + 1)
one_more p p' on counted = rw (counted, ap (λ (r : Role). r.script) on.same, on.next)

-- a line that ends no phase leaves the passes together
pub line_together : (p p' : PassModel) (q : ClipPassModel) (l : Line) → GoTogether p q
    → slice_get p.script p.next ≡ Some l → is_phase l ≡ false
    → IsOneOn p p' → IsCounted p → IsCounted p' → PairIsOneOn p q p' q
line_together p p' q l t at is on before after' =
    record {
      pass = on;
      clip_same = refl;
      together = record {
        now = record {
          client = ap (λ (r : Role). r.sid) on.same ∙ t.now.client;
          phase = one_more p p' on after' ∙ counted_same is_phase p.script p.next l at is ∙ sym before ∙ t.now.phase;
        };
        phases_each = t.phases_each ∙ sym (ap (λ (r : Role). phases r.script) on.same);
      };
    }

-- where the pass is to end its phase, and no clip call is left of it, the clip script has a line
-- that ends it
pub clip_phase_next : (parts : OpeningParts) (p p' : PassModel) (q q' : ClipPassModel) → DidClips parts p q p' q'
    → IsAtPhase p → IsCounted p' → IsClipCounted q'
    → IsAtClipPhase q' ⊎ (q'.next ≡ length q'.script) → IsAtClipPhase q'
clip_phase_next parts p p' q q' did at counted clips (inl next) = next
clip_phase_next parts p p' q q' did at counted clips (inr end) =
    let t = did.pair.together in
    let fewer = counted_fewer is_phase p'.script p'.next line.Phase (subst IsAtPhase (sym did.pass) at) refl in
    let all = counted_all is_clip_phase q'.script q'.next end in
    absurd (omega (arith, fewer, all, t.phases_each, t.now.phase, counted, clips))

-- then the pass is one phase ahead
pub one_ahead : (parts : OpeningParts) (p p1 p' : PassModel) (q q1 : ClipPassModel) → DidClips parts p q p1 q1
    → IsAtPhase p → IsOneOn p1 p' → IsCounted p1 → IsCounted p' → p'.phase ≡ q1.phase + 1
one_ahead parts p p1 p' q q1 did at on before after' =
    one_more p1 p' on after'
    ∙ counted_more is_phase p1.script p1.next line.Phase (subst IsAtPhase (sym did.pass) at) refl
    ∙ ap (λ (k : ℕ). k + 1) (sym before ∙ did.pair.together.now.phase)

-- and when the clip pass is too, they go together again
pub turned : (parts : OpeningParts) (p p1 p' : PassModel) (q q1 q' : ClipPassModel) → DidClips parts p q p1 q1
    → IsOneOn p1 p' → p'.phase ≡ q1.phase + 1 → q' ≡ record q1 { next = q1.next + 1; phase = q1.phase + 1 }
    → PairIsOneOn p q p' q'
turned parts p p1 p' q q1 q' did on ahead is =
    let t = did.pair.together in
    rw is (record {
      pass = assumption (rw did.pass at on);
      clip_same = ap clip_role_of did.clip;
      together = record {
        now = record { client = ap (λ (r : Role). r.sid) on.same ∙ t.now.client; phase = ahead };
        phases_each = t.phases_each ∙ sym (ap (λ (r : Role). phases r.script) on.same);
      };
    })

-- where the pass is done, and no clip call is left of its phase, the clip pass is done
clip_end : (p : PassModel) (q : ClipPassModel) → GoTogether p q → p.next ≡ length p.script → IsCounted p
    → IsClipCounted q
    → IsAtClipPhase q ⊎ (q.next ≡ length q.script) → q.next ≡ length q.script
clip_end p q t done counted clips (inl next) =
    let fewer = counted_fewer is_clip_phase q.script q.next clip.Phase next refl in
    let all = counted_all is_phase p.script p.next done in
    absurd (omega (arith, fewer, all, t.phases_each, t.now.phase, counted, clips))
clip_end p q t done counted clips (inr end) = end

pub clip_done_too : (parts : OpeningParts) (p p' : PassModel) (q q' : ClipPassModel) → DidClips parts p q p' q'
    → p.next ≡ length p.script → IsCounted p' → IsClipCounted q'
    → IsAtClipPhase q' ⊎ (q'.next ≡ length q'.script) → PairIsThrough p q p' q'
clip_done_too parts p p' q q' did done counted clips ended =
    let through : p'.next ≡ length p'.script = rw did.pass done in
    record {
      pass = record { same = ap role_of did.pass; done = through };
      clip_same = ap clip_role_of did.clip;
      clip_done = clip_end p' q' did.pair.together through counted clips ended;
      together = did.pair.together;
    }

-- ---- roles

pub pair_fits : (parts : OpeningParts) (p : PassModel) (q : ClipPassModel) → IsPairIn parts p q
    → IsPairRoleIn parts (pair_role_of p q)
pair_fits parts p q pair = assumption (eq-eqb p.phase q.phase pair.together.now.phase)

pub fits_pair : (parts : OpeningParts) (p : PassModel) (q : ClipPassModel) → IsPairRoleIn parts (pair_role_of p q)
    → IsPairIn parts p q
fits_pair parts p q r = assumption (eqb-true p.phase q.phase r.in_phase)

-- two passes that keep their roles and go together keep the role of both
pub pair_role_again : (p p' : PassModel) (q q' : ClipPassModel) → GoTogether p q → GoTogether p' q'
    → role_of p' ≡ role_of p → clip_role_of q' ≡ clip_role_of q
    → pair_role_of p' q' ≡ pair_role_of p q
pair_role_again p p' q q' t u e f =
    let before = eq-eqb p.phase q.phase t.now.phase in
    let after' = eq-eqb p'.phase q'.phase u.now.phase in
    λ i. record { client = e i; clip = f i; in_phase = (after' ∙ sym before) i }

pub pairs_fit : (parts : OpeningParts) (bs : List Pair) → All (λ (b : Pair). IsPairIn parts b.pass b.clip) bs
    → All (λ (b : Pair). IsPairRoleIn parts (pair_role_of b.pass b.clip)) bs
pairs_fit parts bs all = λ k d inside. let b = slice_index_or bs k d in pair_fits parts b.pass b.clip (all k d inside)

-- pairs of the same roles are of the same opening
pub pairs_again : (parts : OpeningParts) (bs cs : List Pair)
    → map (λ (b : Pair). pair_role_of b.pass b.clip) bs ≡ map (λ (b : Pair). pair_role_of b.pass b.clip) cs
    → All (λ (b : Pair). IsPairIn parts b.pass b.clip) cs → All (λ (b : Pair). IsPairIn parts b.pass b.clip) bs
pairs_again parts bs cs e all = λ k d inside.
    let b = slice_index_or bs k d in
    fits_pair parts b.pass b.clip
    (all_again (λ (b : Pair). pair_role_of b.pass b.clip) (λ (r : PairRole). IsPairRoleIn parts r) bs cs e
    (pairs_fit parts cs all) k d inside)

-- The least of the phases of those that are not done.

-- ---- one more

-- the least of some numbers and of one more, where there is one
pub least_more : (ns : List ℕ) (a b : Option ℕ) → IsLeastOf a ns → IsLeastOf (lesser a b) (ns ++ cons_option b [])
least_more ns None None is = ap (λ ms. ms ++ []) is
least_more ns None (Some m) is =
    rw is (Contains-push [] m, All-push (λ k. m ≤ k) [] m (λ k d inside. absurd (omega arith)) (omega arith))
least_more ns (Some n) None is = rw append-nil is
least_more ns (Some n) (Some m) (at, least) = (
  elim (cases_lt m n) [
    | inl less ↦ let e : min n m ≡ m = omega (arith, less) in rw e (Contains-push ns m)
    | inr more ↦ let e : min n m ≡ n = omega (arith, more) in rw e (Contains-append_left ns (m ∷ []) n at)
  ],
  All-push (λ k. min n m ≤ k) ns m (λ k d inside. omega (arith, least k d inside)) (omega arith),
)

-- one more client in order
pub left_more : {X : Type 0} (h : X → Option ℕ) (xs : List X) (i : ℕ) (x : X) (a b c : Option ℕ) → i < length xs
    → x ≡ get_or xs i x → b ≡ h x → c ≡ lesser a b
    → IsLeastOf a (filter_map h (take i xs)) → IsLeastOf c (filter_map h (take (i + 1) xs))
left_more h xs i x a b c inside at next both is =
    rw (both, next, take_more xs i x inside, filter_map-append, ← at)
    (least_more (filter_map h (take i xs)) a (h x) is)

-- the user after all clients
pub left_in_all : {X : Type 0} (h : X → Option ℕ) (xs : List X) (u : UserPassModel) (i : ℕ) (a b c : Option ℕ)
    → length xs ≤ i → b ≡ user_phase_left u → c ≡ lesser a b
    → IsLeastOf a (filter_map h (take i xs)) → IsLeastOf c (phases_left h xs u)
left_in_all h xs u i a b c end last both is =
    rw (both, last) (least_more (filter_map h xs) a (user_phase_left u) (rw (take_all i xs end) at is))

-- ---- none is before

first_after : (n : ℕ) (o : Option ℕ) (ns ms : List ℕ) → All (λ m. n ≤ m) (cons_option o ns ++ ms)
    → IfSome o (λ m. n ≤ m) × All (λ m. n ≤ m) (ns ++ ms)
first_after n None ns ms all = (tt, all)
first_after n (Some m) ns ms all = (all 0 m (omega arith), λ k d inside. all (suc k) d (omega (arith, inside)))

each_after : {X : Type 0} (h : X → Option ℕ) (n : ℕ) (xs : List X) (ms : List ℕ)
    → All (λ m. n ≤ m) (filter_map h xs ++ ms)
    → NoneIsBefore h n xs × All (λ m. n ≤ m) ms
each_after h n [] ms all = (λ k d inside. absurd (omega arith), all)
each_after h n (x ∷ xs) ms all =
    let here = first_after n (h x) (filter_map h xs) ms all in
    let rest = each_after h n xs ms here.1 in
    (All-cons (λ y. IfSome (h y) (λ m. n ≤ m)) x xs here.0 rest.0, rest.1)

-- before the least phase no client is
pub none_before : {X : Type 0} (h : X → Option ℕ) (xs : List X) (u : UserPassModel) (a : Option ℕ) (n : ℕ)
    → IsLeastOf a (phases_left h xs u) → a ≡ Some n → NoneIsBefore h n xs
none_before h xs u a n least is = (each_after h n xs _ (rw is at least).1).0

-- nor is the user
pub user_not_before : {X : Type 0} (h : X → Option ℕ) (xs : List X) (u : UserPassModel) (a : Option ℕ) (n : ℕ)
    → IsLeastOf a (phases_left h xs u) → a ≡ Some n → IsNotBefore user_phase_left n u
user_not_before h xs u a n least is =
    let all = each_after h n xs (filter_map user_phase_left (u ∷ [])) (rw is at least).1 in
    (each_after user_phase_left n (u ∷ []) [] (rw append-nil all.1)).0 0 u (omega arith)

-- ---- none

first_none : (o : Option ℕ) (ns ms : List ℕ) → cons_option o ns ++ ms ≡ [] → (o ≡ None) × (ns ++ ms ≡ [])
first_none None ns ms e = (refl, e)
first_none (Some n) ns ms e = absurd (cc)

none_in : {X : Type 0} (h : X → Option ℕ) (xs : List X) (ms : List ℕ) → filter_map h xs ++ ms ≡ []
    → All (λ x. h x ≡ None) xs × (ms ≡ [])
none_in h [] ms e = (λ k d inside. absurd (omega arith), e)
none_in h (x ∷ xs) ms e =
    let first = first_none (h x) (filter_map h xs) ms e in
    let rest = none_in h xs ms first.1 in
    (All-cons (λ y. h y ≡ None) x xs first.0 rest.0, rest.1)

ended : (n m phase : ℕ) → cond {A = Option ℕ} (n == m) None (Some phase) ≡ None → n ≡ m
ended n m phase e = grind (arith, nat_tests, e)

-- where nothing is left, every client is done and the user is
pub all_ended : {X : Type 0} (h : X → Option ℕ) (xs : List X) (u : UserPassModel) → IsLeastOf None (phases_left h xs u)
    → All (λ x. h x ≡ None) xs × (u.next ≡ length u.input)
all_ended h xs u e =
    let none = none_in h xs (cons_option (user_phase_left u) []) e in
    (none.0, ended u.next (length u.input) u.phase (first_none (user_phase_left u) [] [] (rw append-nil none.1)).0)

-- ---- who is done

pub client_none : (p : PassModel) → p.next ≡ length p.script → phase_left p ≡ None
client_none p e = ap (λ b. cond {A = Option ℕ} b None (Some p.phase)) (eq-eqb p.next (length p.script) e)

pub client_ended : (p : PassModel) → phase_left p ≡ None → p.next ≡ length p.script
client_ended p e = ended p.next (length p.script) p.phase e

pub pair_none : (p : PassModel) (q : ClipPassModel) → p.next ≡ length p.script → q.next ≡ length q.script
    → pair_phase_left p q ≡ None
pair_none p q e f = grind (arith, nat_tests)

pub clients_done : (ps : List PassModel) → All (λ (p : PassModel). phase_left p ≡ None) ps
    → All (λ (p : PassModel). p.next ≡ length p.script) ps
clients_done ps all = λ k d inside. client_ended (slice_index_or ps k d) (all k d inside)

pair_ended : (p : PassModel) (q : ClipPassModel) → pair_phase_left p q ≡ None
    → (p.next ≡ length p.script) × (q.next ≡ length q.script)
pair_ended p q e = (grind (arith, nat_tests, e), grind (arith, nat_tests, e))

pub pairs_done : (bs : List Pair) → All (λ (b : Pair). pair_phase_left b.pass b.clip ≡ None) bs
    → All (λ (b : Pair). (b.pass.next ≡ length b.pass.script) × (b.clip.next ≡ length b.clip.script)) bs
pairs_done bs all = λ k d inside. let b = slice_index_or bs k d in pair_ended b.pass b.clip (all k d inside)
