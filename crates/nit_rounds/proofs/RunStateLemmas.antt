-- A run that is under way: how it begins, and what one turn does.
use Rattle.nit_rounds.proofs.Basics.{Action, ActorLine, Acts, All-from_recursion, All-get_or}
use Rattle.nit_rounds.proofs.Basics.{AllByRecursion, AreQuiet, AreQuietBut, AreRaw, Bare}
use Rattle.nit_rounds.proofs.Basics.{BeginsRounds, Bool, ByClient, ByUser, Call, Calls}
use Rattle.nit_rounds.proofs.Basics.{CanDoUserLine, Configuration, Does, DoesClientLine}
use Rattle.nit_rounds.proofs.Basics.{DoesUserLine, Drawing, Entry, FitsInputLine, InputLine}
use Rattle.nit_rounds.proofs.Basics.{IsConfiguration, IsDonation, IsMember, IsMoved, IsOpen}
use Rattle.nit_rounds.proofs.Basics.{IsPlanOf, IsPlanned, IsRecorded, IsSetUp, IsShowing}
use Rattle.nit_rounds.proofs.Basics.{IsUnderWay, IsUserRecorded, Line, LineTurn, List, None, Option}
use Rattle.nit_rounds.proofs.Basics.{PlanModel, Point, SceneModel, Shoots, ShotFrame, ShowsEach}
use Rattle.nit_rounds.proofs.Basics.{ShowsLine, Sight, Size, Some, Turn, View, [], action_of}
use Rattle.nit_rounds.proofs.Basics.{actions_of_line, actions_of_turns, add-zero, after_turn, ap}
use Rattle.nit_rounds.proofs.Basics.{append-nil, append_assoc, arith, bar_rows, buffer_size}
use Rattle.nit_rounds.proofs.Basics.{cases_eq, cond, donation_of, done_after, drawn, drawn_shot}
use Rattle.nit_rounds.proofs.Basics.{drop, entry_of, false, first_state, flat_map-append, get_or}
use Rattle.nit_rounds.proofs.Basics.{get_or-set_other, get_or-set_same, get_or_default}
use Rattle.nit_rounds.proofs.Basics.{get_or_from_slice_get, get_or_past, glass_after, glass_in}
use Rattle.nit_rounds.proofs.Basics.{in_bar, inl, inr, length, length-append, length-map}
use Rattle.nit_rounds.proofs.Basics.{length-set, length-take-le, line_by, lines_of, map, map-append}
use Rattle.nit_rounds.proofs.Basics.{nat_tests, no_sight, option_map, pixel, plan_in, refl, rounds}
use Rattle.nit_rounds.proofs.Basics.{same_Some, script_in, set, settled, shots, shots_after}
use Rattle.nit_rounds.proofs.Basics.{slice_get, slice_get_within, source_under, state_now}
use Rattle.nit_rounds.proofs.Basics.{takes_place, turn_by, turn_of}
use Rattle.std.proofs.Common.{sym, true, zero-add, ℕ, ◌++◌, ◌+◌, ◌<◌, ◌∙◌, ◌∷◌, ◌≡◌, ◌≤◌}
use Rattle.nit_rounds.proofs.DrawingLemmas.{TellDone, done_more, drawn_more, moved_on, none_drawn}
use Rattle.nit_rounds.proofs.DrawingLemmas.{shows_drawn, tables_told}
use Rattle.nit_rounds.proofs.ShotFiles.{device_shots, line_shots, shot_counted}
use Rattle.nit_rounds.proofs.LinesDone.{client_done, other_line, own_line, user_done}
use Rattle.nit_rounds.specs.declared.turn.Turn.TheVariants as turn
use Rattle.nit_script.specs.declared.line.InputLine.TheVariants as input
use Rattle.nit_script.specs.declared.line.Line.TheVariants as line

-- ---- one move more

lines_more : (t : ℕ) (front : List LineTurn) (m : LineTurn) → length (lines_of t (front ++ m ∷ []))
    ≡ length (lines_of t front) + length (line_by t m.doing)
lines_more t front m = grind (arith, nat_tests, flat_map-append, append-nil, length-append)

-- a move of another actor
none_more : (t : ℕ) (front : List LineTurn) (m : LineTurn) → length (line_by t m.doing) ≡ 0
    → length (lines_of t (front ++ m ∷ [])) ≡ length (lines_of t front)
none_more t front m none = rw (lines_more t front m, none, add-zero (length (lines_of t front)))

acts_more : (front : List LineTurn) (m : LineTurn) → actions_of_turns (front ++ m ∷ []) ≡ actions_of_turns front
    ++ actions_of_line m.doing
acts_more front m = grind (arith, nat_tests, flat_map-append, append-nil)

recorded_acts : (sid : ℕ) (l : Line) (before after' : List Entry) → IsRecorded sid l before after'
    → map action_of after' ≡ map action_of before ++ actions_of_line (ByClient sid l)
recorded_acts sid (line.Call call) before after' recorded = rw recorded.1 (map-append action_of before _)
recorded_acts sid other before after' recorded = cc (recorded, append-nil (map action_of before))

user_acts : (l : InputLine) (before after' : List Entry) → IsUserRecorded l before after'
    → map action_of after' ≡ map action_of before ++ actions_of_line (ByUser l)
user_acts (input.Device dev) before after' recorded = rw recorded.1 (map-append action_of before _)
user_acts input.Shot before after' recorded = rw recorded (map-append action_of before _)
user_acts input.Phase before after' recorded = cc (recorded, append-nil (map action_of before))

user_shots : (config : Configuration) (d : Drawing) (l : InputLine) (before after' : List Entry)
    → IsUserRecorded l before after' → length d.shots ≡ shots before
    → length (shots_after config (ByUser l) d) ≡ shots after'
user_shots config d input.Shot before after' recorded taken =
    rw (length-append d.shots (drawn_shot config d ∷ []), taken, ← shot_counted before after' _ recorded)
user_shots config d (input.Device dev) before after' recorded taken =
    taken ∙ sym (device_shots before after' dev recorded)
user_shots config d input.Phase before after' recorded taken = rw (taken, ← recorded)

-- ---- a turn

-- what a turn tells of its move
pub tells_client : (d : ActorLine) (number s n : ℕ) → turn_by d number ≡ turn.Client s n
    → (number ≡ n) × ((l : Line) × (d ≡ ByClient s l))
tells_client (ByClient t l) number s n e = (cc, (l, cc))
tells_client (ByUser l) number s n e = absurd (cc)

pub tells_user : (d : ActorLine) (number n : ℕ) → turn_by d number ≡ turn.User n
    → (number ≡ n) × ((l : InputLine) × (d ≡ ByUser l))
tells_user (ByClient t l) number n e = absurd (cc)
tells_user (ByUser l) number n e = (cc, (l, cc))

-- the move is this line of a client's script, and the client has done exactly the lines before it
pub record IsClientsMove (scripts : List (List Line)) (front : List LineTurn) (m : LineTurn) (sid number : ℕ) : Type 0
  where
    pub l : Line
    pub doing : m.doing ≡ ByClient sid l
    pub inside : sid < length scripts
    pub here : slice_get (script_in scripts sid) number ≡ Some l
    pub count : length (lines_of sid front) ≡ number

-- the move is this line of the input script
pub record IsUsersMove (lines : List InputLine) (m : LineTurn) (number : ℕ) : Type 0 where
  pub l : InputLine
  pub doing : m.doing ≡ ByUser l
  pub here : slice_get lines number ≡ Some l

module _ {scripts : List (List Line)} {lines : List InputLine} {before now : SceneModel Sight} {owns : List Sight}
    {m : LineTurn} {left : List LineTurn} (w : IsUnderWay scripts lines before now owns (m ∷ left)) where
  -- an entry for a move that is left fits
  pub room_for : (a : Action) → actions_of_line m.doing ≡ a ∷ []
      → length (actions_of_turns (rounds scripts lines)) ≤ before.spare → 1 ≤ now.spare
  room_for a one room = grind (arith, nat_tests, flat_map-append, length-append, length-map)

  -- no glass tells a log
  pub quiet_now : AreQuiet now.glasses
  quiet_now t = grind (arith, nat_tests, get_or_past)

  pub clients_move : (sid number : ℕ) → turn_of m ≡ turn.Client sid number → IsClientsMove scripts w.front m sid number
  clients_move sid number is =
      let (same, (l, doing)) = tells_client m.doing m.number sid number is in
      let (inside, at_number, before_it) = client_done scripts lines w.front left m sid l w.parts doing in
      let here : slice_get (script_in scripts sid) number ≡ Some l = cc (same, at_number) in
      let within = slice_get_within (script_in scripts sid) number l here in
      let count : length (lines_of sid w.front) ≡ number =
      rw (before_it, same, length-take-le number (script_in scripts sid) (omega (arith, within))) in
      record { l = l; doing = doing; inside = inside; here = here; count = count }

  pub users_move : (number : ℕ) → turn_of m ≡ turn.User number → IsUsersMove lines m number
  users_move number is =
      let (same, (l, doing)) = tells_user m.doing m.number number is in
      let found = user_done scripts lines w.front left m l w.parts doing in
      record { l = l; doing = doing; here = cc (same, found.0) }

module _ {V : Type 0} {Fits : ℕ → ℕ → V → Type 0} {Shows : ShotFrame → V → V → Type 0} {scripts : List (List Line)}
    {lines : List InputLine} {before now : SceneModel Sight} {owns : List Sight} {m : LineTurn} {left : List LineTurn}
    {first old : V} (p : IsShowing Fits Shows scripts lines before now owns (m ∷ left) first old) where
  -- what is drawn before the move
  abbrev d : Drawing
  d = drawn before.config scripts p.way.front

  -- a turn whose line is recorded, told and drawn
  one_turn : (now' : SceneModel Sight) (owns' : List Sight) (last : V) → now'.config ≡ now.config → IsOpen now'.entries
      → length now'.entries + now'.spare ≡ length now.entries + now.spare
      → map action_of now'.entries ≡ map action_of now.entries ++ actions_of_line m.doing
      → IsMoved (entry_of (state_now now) m.doing) now now'
      → length (shots_after before.config m.doing d) ≡ shots now'.entries
      → now'.glasses ≡ owns' → length owns' ≡ length scripts
      → TellDone before.config scripts owns' (λ t. length (lines_of t (p.way.front ++ m ∷ [])))
      → ShowsEach Shows (shots_after before.config m.doing d) first last
      → Fits before.config.width before.config.height last
      → IsShowing Fits Shows scripts lines before now' owns' left first last
  one_turn now' owns' last config unended spare acts moved taken same each done shown fits =
      record {
        way = record {
          front = p.way.front ++ m ∷ [];
          parts = p.way.parts ∙ sym (append_assoc p.way.front (m ∷ []) left);
          config = config ∙ p.way.config;
          entries = cc (acts, p.way.entries, acts_more p.way.front m);
          unended = unended;
          spare = spare ∙ p.way.spare;
          same = same;
          owns_each = each;
          done = done;
          counts = counts;
          is_drawn = rw (← more) at (moved_on before.config scripts d m now now' p.way.is_drawn moved
              (rw (← same) at (tables_told before.config scripts owns' (done_after m.doing d.done) each
              (λ t inside. rw (done t inside, ← counts t, more)))) taken);
        };
        shown = rw (← ap (λ (x : Drawing). x.shots) more) at shown;
        fits = fits;
      }
    where
      more : drawn before.config scripts (p.way.front ++ m ∷ []) ≡ after_turn before.config scripts d m
      more = drawn_more before.config scripts p.way.front m

      counts : (t : ℕ) → (drawn before.config scripts (p.way.front ++ m ∷ [])).done t
          ≡ length (lines_of t (p.way.front ++ m ∷ []))
      counts t = rw (more, done_more m.doing d.done t, p.way.counts t, ← lines_more t p.way.front m)

  -- what one turn of a client leaves
  pub after_client : (mid new : SceneModel Sight) (sid number : ℕ) (own' : Sight)
      (move : IsClientsMove scripts p.way.front m sid number) → now ≡ settled mid owns
      → own' ≡ glass_after sid (script_in scripts sid) (donation_of now.config sid) (number + 1)
      → DoesClientLine sid move.l mid new own' → set new.glasses sid own' ≡ set owns sid own'
      → IsShowing Fits Shows scripts lines before (settled new (set owns sid own')) (set owns sid own') left first old
  after_client mid new sid number own' move is own does all =
      one_turn (settled new (set owns sid own')) (set owns sid own') old (rw (is, does.config)) does.unended
      (rw is does.spare) (rw (is, move.doing) (recorded_acts sid move.l mid.entries new.entries does.recorded))
      (rw (is, move.doing) (record { state = moved.state; words = moved.words }))
      (rw (no_shot, p.way.is_drawn.taken, is, ← line_shots sid move.l mid.entries new.entries does.recorded))
      refl (rw (length-set owns sid own', p.way.owns_each)) done (rw (← no_shot) at p.shown) p.fits
    where
      moved : IsMoved (entry_of (state_now mid) (ByClient sid move.l)) mid (settled new (set owns sid own'))
      moved = rw all at does.moved

      no_shot : shots_after before.config m.doing d ≡ d.shots
      no_shot = cc move.doing

      counted : length (lines_of sid (p.way.front ++ m ∷ [])) ≡ number + 1
      counted = rw (lines_more sid p.way.front m, move.doing, own_line sid move.l, move.count)

      done : TellDone before.config scripts (set owns sid own') (λ t. length (lines_of t (p.way.front ++ m ∷ [])))
      done t inside =
          elim (cases_eq t sid) [
            | inl e ↦
                let there : sid < length owns = rw (← p.way.owns_each) at move.inside in
                rw e (cc (get_or-set_same owns sid own' no_sight there, own, p.way.config, counted))
            | inr other ↦
                let none = none_more t p.way.front m (rw (move.doing, other_line t sid move.l (λ e. other (sym e)))) in
                rw (get_or-set_other owns sid t own' no_sight other, p.way.done t inside, ← none)
          ]

  -- what one turn of the user leaves
  pub after_user : (now' : SceneModel Sight) (l : InputLine) (last : V) → m.doing ≡ ByUser l → DoesUserLine l now now'
      → ShowsLine Shows l now old last → Fits now.config.width now.config.height last
      → IsShowing Fits Shows scripts lines before now' owns left first last
  after_user now' l last doing does more fits =
      one_turn now' owns last does.config does.unended does.spare
      (rw doing (user_acts l now.entries now'.entries does.recorded)) (rw doing does.moved)
      (rw doing (user_shots before.config d l now.entries now'.entries does.recorded p.way.is_drawn.taken))
      (does.glasses ∙ p.way.same) p.way.owns_each
      (λ t inside. rw (p.way.done t inside, ← none_more t p.way.front m (rw doing)))
      (rw doing (shows_drawn Shows before.config d now l first old last p.way.config p.way.is_drawn p.shown more))
      (rw p.way.config at fits)

-- ---- the beginning

bare_under : (sizes : ℕ → Size) (p : Point) (b : Bool) → let none : Option View =
    None in source_under sizes p (cond b none none) ≡ Bare
bare_under sizes p true = refl
bare_under sizes p false = refl

pub begun : {V : Type 0} (Fits : ℕ → ℕ → V → Type 0) (Shows : ShotFrame → V → V → Type 0)
    (scripts : List (List Line)) (lines : List InputLine) (plans : List PlanModel) (before : SceneModel Sight)
    (owns : List Sight) (left : List LineTurn) (first : V) → left ≡ rounds scripts lines
    → IsSetUp before.config scripts plans before.glasses owns → before.entries ≡ []
    → AreRaw (state_now before) before.raw → Fits before.config.width before.config.height first
    → IsShowing Fits Shows scripts lines before before owns left first first
begun Fits Shows scripts lines plans before owns left first all set_up none raw fits =
    record {
      way = record {
        front = [];
        parts = sym all;
        config = refl;
        entries = ap (map action_of) none;
        unended = rw none tt;
        spare = rw (none, zero-add before.spare);
        same = set_up.same;
        owns_each = set_up.owns_each;
        done = set_up.blank;
        counts = λ t. ap (λ (d : Drawing). d.done t) (none_drawn before.config scripts);
        is_drawn = rw (none_drawn before.config scripts) (record {
          state = opened;
          words = λ k on_screen. rw (bare_under (buffer_size (first_state before.config).sessions)
              (pixel before.config.width k) (in_bar (bar_rows before.config) (pixel before.config.width k))) at
              ((rw opened at raw) k on_screen);
          taken = sym (ap shots none);
        });
      };
      shown = rw (ap (λ (d : Drawing). d.shots) (none_drawn before.config scripts)) refl;
      fits = fits;
    }
  where
    opened : state_now before ≡ first_state before.config
    opened = rw none

-- What a turn finds: all that the line of its actor asks for.

-- ---- a client's turn

-- all that the next line of a client's script asks for
pub record MayDoLine (scripts : List (List Line)) (plans : List PlanModel) (scene : SceneModel Sight)
    (owns : List Sight) (sid number : ℕ) : Type 0 where
  pub in_owns : sid < length owns
  pub in_scripts : sid < length scripts
  pub in_plans : sid < length plans
  pub session : sid < length scene.config.clients
  pub here : number < length (script_in scripts sid)
  pub donation : IsDonation (donation_of scene.config sid)
  pub plan : IsPlanOf (script_in scripts sid) (donation_of scene.config sid) (plan_in plans sid)
  pub own : glass_in owns sid ≡ glass_after sid (script_in scripts sid) (donation_of scene.config sid) number
  pub spare : (call : Call) → slice_get (script_in scripts sid) number ≡ Some (line.Call call) → 1 ≤ scene.spare

-- a turn comes next, once what is stale of the scene is copied
abbrev pub ComesNext : {V : Type 0} → (ℕ → ℕ → V → Type 0) → (ShotFrame → V → V → Type 0) → List (List Line)
    → List InputLine → SceneModel Sight → List Sight → V → Turn → Type 0
ComesNext {V = V} Fits Shows scripts lines s owns last t = (before : SceneModel Sight) × (m : LineTurn)
    × (left : List LineTurn) × (first : V)
    × IsShowing Fits Shows scripts lines before (settled s owns) owns (m ∷ left) first last × (turn_of m ≡ t)
    × (length (actions_of_turns (rounds scripts lines)) ≤ before.spare)

-- all that a client's line asks for, once what is stale of others was copied: the scene's glasses are the own ones,
-- but for that of the session
may_do : {V : Type 0} {Fits : ℕ → ℕ → V → Type 0} {Shows : ShotFrame → V → V → Type 0} {scripts : List (List Line)}
    {lines : List InputLine} {plans : List PlanModel} {owns : List Sight} {last : V} {t : Turn} {sid number : ℕ}
    {s' : SceneModel Sight} (s : SceneModel Sight) → IsPlanned s.config scripts plans
    → ComesNext Fits Shows scripts lines s owns last t → s' ≡ record s { glasses = s'.glasses }
    → t ≡ turn.Client sid number → MayDoLine scripts plans (settled s' owns) owns sid number
may_do {owns = owns} {sid = sid} s planned (before, m, left, first, p, of, room) same is =
    let w = rw (← ap (λ (x : SceneModel Sight). settled x owns) same) at p.way in
    let planned' = rw (← ap (λ (x : SceneModel Sight). x.config) same) at planned in
    let move = clients_move w _ _ (of ∙ is) in
    let session = rw planned'.sessions at move.inside in
    record {
      in_owns = rw (← w.owns_each) at move.inside;
      in_scripts = move.inside;
      in_plans = rw (← planned.plans_each) at move.inside;
      session = session;
      here = slice_get_within _ _ move.l move.here;
      donation = (All-get_or IsMember _ _ _ session planned'.configured.clients).donation;
      plan = planned'.planned _ move.inside;
      own = rw (w.done _ move.inside, move.count, ← w.config);
      spare = λ call found.
          let l : move.l ≡ line.Call call = same_Some move.l (line.Call call) (rw move.here at found) in
          room_for w (Calls sid call) (rw (move.doing, l)) room;
    }

-- what is read from an equal list, under any default
pub read_same : {X : Type 0} → (xs ys : List X) (k : ℕ) (d : X) → ys ≡ xs → k < length xs
    → get_or ys k d ≡ get_or xs k (get_or ys k d)
read_same {X = X} xs ys k d same inside = cc (same, get_or_default xs k d (get_or ys k d) inside)

-- what stands in a list at a place is what was found there
pub found_here : {X : Type 0} → (xs : List X) (k : ℕ) (x y : X) → slice_get xs k ≡ Some x → y ≡ get_or xs k y → x ≡ y
found_here xs k x y found got = sym (get_or_from_slice_get xs k x y found) ∙ sym got

-- ---- the user's turn

-- all that the next line of the input script asks for, once what is stale was copied
pub record MayDoUserLine (lines : List InputLine) (scene : SceneModel Sight) (number : ℕ) : Type 0 where
  pub here : number < length lines
  pub can : (l : InputLine) → l ≡ get_or lines number l → FitsInputLine l → CanDoUserLine l scene

-- what holds of each element holds of the one at a place
pub each_at : {X : Type 0} (P : X → Type 0) (xs : List X) (k : ℕ) (d : X) → k < length xs → AllByRecursion P xs
    → P (get_or xs k d)
each_at P xs k d inside all = All-from_recursion P xs all k d inside

-- a line that takes a place has one act
one_act : (l : InputLine) → takes_place l ≡ true → (a : Action) × (actions_of_line (ByUser l) ≡ a ∷ [])
one_act (input.Device dev) takes = (Acts (Does dev), refl)
one_act input.Shot takes = (Acts Shoots, refl)
one_act input.Phase takes = absurd (cc)

may_do_user : {V : Type 0} {Fits : ℕ → ℕ → V → Type 0} {Shows : ShotFrame → V → V → Type 0}
    {scripts : List (List Line)} {lines : List InputLine} {owns : List Sight} {last : V} {t : Turn} {number : ℕ}
    (s s' : SceneModel Sight) → ComesNext Fits Shows scripts lines s owns last t → s' ≡ settled s owns
    → t ≡ turn.User number → MayDoUserLine lines s' number
may_do_user {lines = lines} {number = number} s s' (before, m, left, first, p, of, room) same is =
    let w = rw (← same) at p.way in
    let move = users_move w _ (of ∙ is) in
    record {
      here = slice_get_within _ _ move.l move.here;
      can = λ l got fits. record {
        fits = fits;
        quiet = quiet_now w;
        spare = λ takes.
            let (a, one) = one_act l takes in
            room_for w a (rw (move.doing, found_here lines number move.l l move.here got, one)) room;
        unended = w.unended;
      };
    }

-- ---- the next turn

-- a turn that comes next is that of the move in front
pub front_move : (moves rest : List LineTurn) (result : Option Turn) (t : Turn)
    → result ≡ option_map turn_of (slice_get moves 0) → rest ≡ drop 1 moves → result ≡ Some t
    → (m : LineTurn) × (moves ≡ m ∷ rest) × (turn_of m ≡ t)
front_move [] rest result t next left some = absurd (let e : None ≡ Some t = sym next ∙ some in cc)
front_move (m ∷ moves) rest result t next left some = grind (arith, nat_tests)

module _ {V : Type 0} {Fits : ℕ → ℕ → V → Type 0} {Shows : ShotFrame → V → V → Type 0} {scripts : List (List Line)}
    {lines : List InputLine} {plans : List PlanModel} {before : SceneModel Sight} {owns opened : List Sight}
    {moves rest : List LineTurn} {first last : V} {result : Option Turn} {t : Turn} (s : SceneModel Sight)
    (next : result ≡ option_map turn_of (slice_get moves 0)) (left : rest ≡ drop 1 moves) (is : result ≡ Some t)
    (p : IsShowing Fits Shows scripts lines before (settled s owns) owns moves first last)
    (begins : BeginsRounds scripts plans lines before opened) (s' : SceneModel Sight) where
  -- the next turn of a run that began so
  comes_next : ComesNext Fits Shows scripts lines s owns last t
  comes_next =
      let (m, front, of) = front_move moves rest result t next left is in
      (before, m, rest, first, rw front at p, of, begins.spare)

  -- a client's
  pub clients_turn : {sid number : ℕ} → IsConfiguration before.config → s' ≡ record s { glasses = s'.glasses }
      → t ≡ turn.Client sid number → MayDoLine scripts plans (settled s' owns) owns sid number
  clients_turn configured same of = may_do s (rw p.way.config (record {
    configured = configured;
    sessions = begins.set_up.sessions;
    plans_each = begins.set_up.plans_each;
    planned = begins.set_up.planned;
  })) comes_next same of

  pub others_quiet : (sid : ℕ) → set s'.glasses sid (glass_in owns sid) ≡ owns → AreQuietBut sid s'.glasses
  others_quiet sid same u other =
      let (b, m, l, f, p', of, room) = comes_next in
      rw (← get_or-set_other s'.glasses sid u (glass_in owns sid) no_sight other, same) (quiet_now p'.way u)

  -- the user's
  pub users_turn : {number : ℕ} → s' ≡ settled s owns → t ≡ turn.User number → MayDoUserLine lines s' number
  users_turn same of = may_do_user s s' comes_next same of
