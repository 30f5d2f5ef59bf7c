-- What is drawn is in the state that the journal of the same moves leads to, and the files of a run's shots, shot by
-- shot along its journal.
use Rattle.nit_rounds.proofs.Basics.{Action, ActorLine, AreRoundsOf, AreShotsOf, ByClient, ByUser}
use Rattle.nit_rounds.proofs.Basics.{Configuration, Device, Drawing, Entry, File, InputLine}
use Rattle.nit_rounds.proofs.Basics.{IsDrawnPicture, IsLegal, IsRecorded, IsUserRecorded, LegalFrom}
use Rattle.nit_rounds.proofs.Basics.{Line, LineTurn, ShotFrame, ShotsBehind, Some, State, action_of}
use Rattle.nit_rounds.proofs.Basics.{actions_of_line, actions_of_turns, after, after_turn}
use Rattle.nit_rounds.proofs.Basics.{append-nil, append_assoc, cond, drawn_by_shot, drawn_shot}
use Rattle.nit_rounds.proofs.Basics.{entry_of, first_state, fold-append, length, length_push}
use Rattle.nit_rounds.proofs.Basics.{map-append, nat_tests, opening_drawing, picture_of, replay}
use Rattle.nit_rounds.proofs.Basics.{replay_from, rounds, route, routed_as, serve, session, shoots}
use Rattle.nit_rounds.proofs.Basics.{shot_file, shot_name, shots, shots_after, shots_of, slice_get}
use Rattle.nit_rounds.proofs.Basics.{state_after, suc, true, turns_before, zero}
use Rattle.std.proofs.Common.{List, [], add-zero, ap, arith, fold, map, refl, sym, zero-add, ℕ}
use Rattle.std.proofs.Common.{◌++◌, ◌+◌, ◌∙◌, ◌∷◌, ◌≡◌}
use Rattle.nit_rounds.specs.Drawing.{drawn}
use Rattle.nit_events.specs.declared.entry.Entry.TheVariants as entry
use Rattle.nit_script.specs.declared.line.InputLine.TheVariants as input
use Rattle.nit_script.specs.declared.line.Line.TheVariants as line

-- The shots of a journal that grows at its end, and the files of the shots of some entries.

-- ---- one entry more

pub shots_both : (front back : List Entry) → shots (front ++ back) ≡ shots front + shots back
shots_both [] back = sym (zero-add (shots back))
shots_both (entry.Shot k ∷ front) back = let more = shots_both front back in omega (arith, more)
shots_both (e ∷ front) back = shots_both front back

none_more : (before after' : List Entry) (e : Entry) → shots (e ∷ []) ≡ 0 → after' ≡ before ++ e ∷ []
    → shots after' ≡ shots before
none_more before after' e none recorded = rw (recorded, shots_both before (e ∷ []), none, add-zero (shots before))

-- a client's line is no shot
pub line_shots : (sid : ℕ) (l : Line) (before after' : List Entry) → IsRecorded sid l before after'
    → shots after' ≡ shots before
line_shots sid (line.Call call) before after' recorded =
    none_more before after' (entry.Call sid call recorded.0) refl recorded.1
line_shots sid other before after' recorded = ap shots recorded

-- nor is what a device did
pub device_shots : (before after' : List Entry) (dev : Device) → IsUserRecorded (input.Device dev) before after'
    → shots after' ≡ shots before
device_shots before after' dev recorded = none_more before after' (entry.Input dev recorded.0) refl recorded.1

pub shot_counted : (before after' : List Entry) (number : ℕ) → after' ≡ before ++ entry.Shot number ∷ []
    → shots after' ≡ shots before + 1
shot_counted before after' number recorded = rw (recorded, shots_both before (entry.Shot number ∷ []))

abbrev Picturing : Type 1
Picturing = List Entry → List ℕ → Type 0

then_behind : (front js : List Entry) (e : Entry) → (front ++ e ∷ []) ++ js ≡ front ++ (e ∷ js)
then_behind front js e = append_assoc front (e ∷ []) js

-- without a shot there is none
pub no_files : (Pic : Picturing) (front more : List Entry) → shots more ≡ 0 → ShotsBehind Pic front more []
no_files Pic front [] none = refl
no_files Pic front (entry.Shot n ∷ more) none = absurd (omega (arith, none))
no_files Pic front (e ∷ more) none = no_files Pic (front ++ e ∷ []) more none

-- those of some entries, and then those of the ones after these
pub files_both : (Pic : Picturing) (front es fs : List Entry) (files more : List File)
    → ShotsBehind Pic front es files → ShotsBehind Pic (front ++ es) fs more
    → ShotsBehind Pic front (es ++ fs) (files ++ more)
files_both Pic front [] fs files more none are = grind (arith, nat_tests, append-nil)
files_both Pic front (entry.Shot n ∷ es) fs files more (bytes, others, is, pic, rest) are =
    let both = files_both Pic (front ++ entry.Shot n ∷ []) es fs others more rest
    (rw (← then_behind front es (entry.Shot n)) at are) in
    (bytes, others ++ more, rw is, pic, both)
files_both Pic front (e ∷ es) fs files more first are =
    files_both Pic (front ++ e ∷ []) es fs files more first (rw (← then_behind front es e) at are)

-- what holds of the picture of each shot, by one reading of pictures, holds by another that follows from it there
pub shots_along : (Pic Other : Picturing) (front es : List Entry) (files : List File)
    → ((known rest : List Entry) (n : ℕ) (bytes : List ℕ) → front ++ es ≡ known ++ entry.Shot n ∷ rest → Pic known bytes
    → Other known bytes) → ShotsBehind Pic front es files → ShotsBehind Other front es files
shots_along Pic Other front [] files each are = are
shots_along Pic Other front (entry.Shot n ∷ es) files each (bytes, others, is, pic, rest) =
    let along = shots_along Pic Other (front ++ entry.Shot n ∷ []) es others
    (λ known more m bs parts. each known more m bs (sym (then_behind front es (entry.Shot n)) ∙ parts)) rest in
    (bytes, others, is, each front es n bytes refl pic, along)
shots_along Pic Other front (e ∷ es) files each are =
    shots_along Pic Other (front ++ e ∷ []) es files
    (λ known rest n bytes is. each known rest n bytes (sym (then_behind front es e) ∙ is)) are

-- there are as many as shots
pub as_many_files : (Pic : Picturing) (front es : List Entry) (files : List File) → ShotsBehind Pic front es files
    → length files ≡ shots es
as_many_files Pic front [] files none = ap length none
as_many_files Pic front (entry.Shot n ∷ es) files (bytes, others, is, pic, rest) =
    rw (is, as_many_files Pic (front ++ entry.Shot n ∷ []) es others rest)
as_many_files Pic front (e ∷ es) files are = as_many_files Pic (front ++ e ∷ []) es files are

-- and the one of a shot is a picture that the entries before it allow
abbrev pub HasFile : Picturing → List Entry → ℕ → ℕ → List File → Type 0
HasFile Pic known at number files = (bytes : List ℕ) × (slice_get files at ≡ Some (shot_name number, bytes))
    × Pic known bytes

pub file_of_a_shot : (Pic : Picturing) (front es rest : List Entry) (number : ℕ) (files : List File)
    → ShotsBehind Pic front (es ++ entry.Shot number ∷ rest) files → HasFile Pic (front ++ es) (shots es) number files
file_of_a_shot Pic front [] rest number files (bytes, others, is, pic, more) = (bytes, rw is, rw (append-nil front) pic)
file_of_a_shot Pic front (entry.Shot n ∷ es) rest number files (bytes, others, is, pic, more) =
    grind (arith, nat_tests, file_of_a_shot Pic (front ++ entry.Shot n ∷ []) es rest number others more, then_behind)
file_of_a_shot Pic front (e ∷ es) rest number files are =
    grind (arith, nat_tests, file_of_a_shot Pic (front ++ e ∷ []) es rest number files are, then_behind)

-- ---- one line, and the entry that it puts into a legal journal

-- what a line puts: a shot puts itself, with the next number, and no other line puts one
abbrev pub PutBy : ℕ → ActorLine → List Entry → Type 0
PutBy taken (ByUser input.Shot) put = put ≡ entry.Shot (taken + 1) ∷ []
PutBy taken other put = shots put ≡ 0

-- What a line puts into a journal, and what stands after that: it is legal from the state after the line.
pub record Behind (s : State) (taken : ℕ) (doing : ActorLine) (journal : List Entry) (left : List Action) : Type 0 where
  pub put : List Entry
  pub rest : List Entry
  pub parts : journal ≡ put ++ rest
  pub puts : PutBy taken doing put
  pub legal : LegalFrom (state_after s (entry_of s doing)) (taken + shots put) rest
  pub leads : replay_from s put ≡ state_after s (entry_of s doing)
  pub acts_left : map action_of rest ≡ left

-- these entries in front are what the line puts
took : (s : State) (taken now : ℕ) (doing : ActorLine) (put rest : List Entry) (left : List Action)
    → PutBy taken doing put → now ≡ taken + shots put → LegalFrom (state_after s (entry_of s doing)) now rest
    → replay_from s put ≡ state_after s (entry_of s doing) → map action_of rest ≡ left
    → Behind s taken doing (put ++ rest) left
took s taken now doing put rest left puts counts legal leads is =
    let legal' = rw counts at legal in
    record { put = put; rest = rest; parts = refl; puts = puts; legal = legal'; leads = leads; acts_left = is }

pub behind : (s : State) (taken : ℕ) (doing : ActorLine) (journal : List Entry) (left : List Action)
    → LegalFrom s taken journal → map action_of journal ≡ actions_of_line doing ++ left
    → Behind s taken doing journal left
behind s taken (ByClient sid (line.Call call)) (entry.Call t c r ∷ rest) left legal is =
    let whose : t ≡ sid = cc in
    let what : c ≡ call = cc in
    let entry_is : entry.Call t c r ≡ entry.Call sid call (serve (session s sid) call).reply =
    rw (whose, what) (ap (entry.Call sid call) (rw (sym whose, sym what) legal.0.1)) in
    let state_is = ap (after s) entry_is in
    took s taken taken _ (entry.Call t c r ∷ []) rest left refl (omega arith) (rw state_is at legal.1) state_is cc
behind s taken (ByClient sid (line.Call call)) other left legal is = absurd cc
behind s taken (ByUser (input.Device dev)) (entry.Input d r ∷ rest) left legal is =
    let what : d ≡ dev = cc in
    let entry_is : entry.Input d r ≡ entry.Input dev (routed_as (route s.config s.input s.stack dev).deliveries) =
    rw what (ap (entry.Input dev) (rw (sym what) legal.0)) in
    let state_is = ap (after s) entry_is in
    took s taken taken _ (entry.Input d r ∷ []) rest left refl (omega arith) (rw state_is at legal.1) state_is cc
behind s taken (ByUser (input.Device dev)) other left legal is = absurd cc
behind s taken (ByUser input.Shot) (entry.Shot n ∷ rest) left legal is =
    took s taken (taken + 1) _ (entry.Shot n ∷ []) rest left (rw legal.0) refl legal.1 refl cc
behind s taken (ByUser input.Shot) other left legal is = absurd cc
behind s taken other journal left legal is =
    took s taken taken other [] journal left refl (omega arith) legal refl is

-- ---- all lines

pub none_left : (journal : List Entry) → map action_of journal ≡ [] → journal ≡ []
none_left [] is = refl
none_left (e ∷ rest) is = absurd cc

folded : (config : Configuration) (scripts : List (List Line)) (moves : List LineTurn) (d : Drawing) (taken : ℕ)
    (journal : List Entry) → LegalFrom d.state taken journal → map action_of journal ≡ actions_of_turns moves
    → (fold (after_turn config scripts) d moves).state ≡ replay_from d.state journal
folded config scripts [] d taken journal legal is =
    cc (none_left journal is)
folded config scripts (m ∷ moves) d taken journal legal is =
    let b = behind d.state taken m.doing journal (actions_of_turns moves) legal is in
    let more = folded config scripts moves (after_turn config scripts d m) _ b.rest b.legal b.acts_left in
    rw (more, ← b.leads, ← fold-append after d.state b.put b.rest, ← b.parts)

pub as_replayed : (config : Configuration) (scripts : List (List Line)) (moves : List LineTurn) (journal : List Entry)
    → IsLegal config journal → map action_of journal ≡ actions_of_turns moves → (drawn config scripts moves).state
    ≡ replay config journal
unfolding drawn
as_replayed config scripts moves journal legal is = grind (arith, nat_tests, folded)

-- ---- the moves before a shot

-- how many shots are among moves
abbrev shots_in : List LineTurn → ℕ
shots_in [] = 0
shots_in (m ∷ rest) = cond (shoots m.doing) (suc (shots_in rest)) (shots_in rest)

before_it : (front : List LineTurn) (m : LineTurn) (rest : List LineTurn) (n : ℕ) → shoots m.doing ≡ true
    → n ≡ shots_in front → turns_before n (front ++ m ∷ rest) ≡ front
before_it [] m rest zero is count = rw is refl
before_it [] m rest (suc n) is count = absurd (omega arith)
before_it (f ∷ front) m rest zero is count = grind (arith, before_it front m rest zero is)
before_it (f ∷ front) m rest (suc n) is count =
    grind (arith, before_it front m rest n is, before_it front m rest (suc n) is)

shots_in_more : (front : List LineTurn) (m : LineTurn)
    → shots_in (front ++ m ∷ []) ≡ shots_in front + cond (shoots m.doing) 1 0
shots_in_more [] m = sym (zero-add (cond (shoots m.doing) 1 0))
shots_in_more (f ∷ front) m = grind (arith, shots_in_more front m)

-- ---- one line

-- a line puts as many shots as it is, and makes as many pictures
counted : (config : Configuration) (doing : ActorLine) (taken : ℕ) (put : List Entry) (d : Drawing)
    → PutBy taken doing put
    → (cond (shoots doing) 1 0 ≡ shots put) × (length (shots_after config doing d) ≡ length d.shots + shots put)
counted config (ByUser input.Shot) taken put d p = (rw p refl, rw (p, length_push d.shots (drawn_shot config d)))
counted config other taken put d p = (sym p, omega (arith, p))

-- ---- all lines

module _ (config : Configuration) (scripts : List (List Line)) (lines : List InputLine) where
  abbrev IsPicture : List Entry → List ℕ → Type 0
  IsPicture = IsDrawnPicture config scripts lines

  abbrev after' : Drawing → LineTurn → Drawing
  after' = after_turn config scripts

  -- the moves in front are done, and have put these entries
  record Half (front : List LineTurn) (taken : ℕ) (before : List Entry) (d : Drawing) : Type 0 where
    drawn_is : fold after' (opening_drawing config) front ≡ d
    lines_shot : shots_in front ≡ taken
    pictures : length d.shots ≡ taken
    entries_shot : shots before ≡ taken
    state_is : d.state ≡ replay config before

  -- what the moves that are left draw
  record Rest (left : List LineTurn) (before journal : List Entry) (d : Drawing) : Type 0 where
    frames : List ShotFrame
    drawn_too : (fold after' d left).shots ≡ d.shots ++ frames
    are : ShotsBehind IsPicture before journal (map shot_file frames)

  state_more : (before put : List Entry) (s s' : State) → s ≡ replay config before → replay_from s put ≡ s'
      → s' ≡ replay config (before ++ put)
  state_more before put s s' is leads = rw (← leads, is, ← fold-append after (first_state config) before put)

  picture_here : (front : List LineTurn) (m : LineTurn) (left : List LineTurn) (taken : ℕ) (before : List Entry)
      (d : Drawing) → rounds scripts lines ≡ front ++ m ∷ left → shoots m.doing ≡ true → Half front taken before d
      → IsPicture before (picture_of config d.state d.word)
  unfolding drawn
  picture_here front m left taken before d parts is h =
      let same = before_it front m left taken is (sym h.lines_shot) in
      rw (h.entries_shot, parts, same, h.drawn_is, h.state_is)

  -- the frames that a line draws, and the files of what it puts
  line_files : (doing : ActorLine) (taken : ℕ) (before put : List Entry) (d : Drawing) → PutBy taken doing put
      → length d.shots ≡ taken → (shoots doing ≡ true → IsPicture before (picture_of config d.state d.word))
      → (frames : List ShotFrame) × (shots_after config doing d ≡ d.shots ++ frames)
      × ShotsBehind IsPicture before put (map shot_file frames)
  line_files (ByUser input.Shot) taken before put d is long pictured = (
    drawn_shot config d ∷ [],
    refl,
    rw is (picture_of config d.state d.word, [], rw long, pictured refl, refl),
  )
  line_files other taken before put d none long pictured =
      ([], sym (append-nil d.shots), no_files IsPicture before put none)

  all_left : (left front : List LineTurn) (taken : ℕ) (before journal : List Entry) (d : Drawing)
      → rounds scripts lines ≡ front ++ left → Half front taken before d → LegalFrom d.state taken journal
      → map action_of journal ≡ actions_of_turns left → Rest left before journal d
  all_left [] front taken before journal d parts h legal is =
      record { frames = []; drawn_too = sym (append-nil d.shots); are = rw (none_left journal is) refl }
  all_left (m ∷ left) front taken before journal d parts h legal is =
      let b = behind d.state taken m.doing journal (actions_of_turns left) legal is in
      let next = after' d m in
      let one = counted config m.doing taken b.put d b.puts in
      let half : Half (front ++ m ∷ []) (taken + shots b.put) (before ++ b.put) next = record {
        drawn_is = rw (fold-append after' (opening_drawing config) front (m ∷ []), h.drawn_is);
        lines_shot = rw (shots_in_more front m, h.lines_shot, one.0);
        pictures = rw (one.1, h.pictures);
        entries_shot = rw (shots_both before b.put, h.entries_shot);
        state_is = state_more before b.put d.state next.state h.state_is b.leads;
      } in
      let more = all_left left (front ++ m ∷ []) _ (before ++ b.put) b.rest next
      (parts ∙ sym (append_assoc front (m ∷ []) left)) half b.legal b.acts_left in
      let (frames, drawn_here, are) = line_files m.doing taken before b.put d b.puts h.pictures
      (λ is_shot. picture_here front m left taken before d parts is_shot h) in
      record {
        frames = frames ++ more.frames;
        drawn_too = cc (more.drawn_too, drawn_here, append_assoc d.shots frames more.frames);
        are = rw (← b.parts, ← map-append shot_file frames more.frames) at (files_both IsPicture before b.put b.rest
            (map shot_file frames) (map shot_file more.frames) are more.are);
      }

  drawn_along : (journal : List Entry) → IsLegal config journal → AreRoundsOf journal scripts lines
      → AreShotsOf IsPicture journal (shots_of config scripts lines)
  unfolding drawn
  drawn_along journal legal is =
      let r = all_left (rounds scripts lines) [] 0 [] journal (opening_drawing config) refl (assumption) legal is in
      rw (← r.drawn_too) at r.are

  pub shots_drawn : (journal : List Entry) → IsLegal config journal → AreRoundsOf journal scripts lines
      → AreShotsOf IsPicture (journal ++ entry.Final ∷ []) (shots_of config scripts lines)
  shots_drawn journal legal is =
      let files : List File = shots_of config scripts lines in
      rw (append-nil files) at (files_both IsPicture [] journal (entry.Final ∷ []) files []
      (drawn_along journal legal is) refl)

  -- ---- the shots of a run by rounds

  pub drawn_counted : (journal : List Entry) → IsLegal config journal → AreRoundsOf journal scripts lines
      → length (shots_of config scripts lines) ≡ shots journal
  drawn_counted journal legal is = grind (arith, nat_tests, as_many_files, drawn_along)

  pub drawn_each : (front rest : List Entry) (number : ℕ) → IsLegal config (front ++ entry.Shot number ∷ rest)
      → AreRoundsOf (front ++ entry.Shot number ∷ rest) scripts lines
      → slice_get (shots_of config scripts lines) (shots front)
      ≡ Some (
        shot_name number,
        picture_of config (replay config front) (drawn_by_shot config scripts lines (shots front)).word,
      )
  drawn_each front rest number legal is =
      let file = file_of_a_shot IsPicture [] front rest number (shots_of config scripts lines)
      (drawn_along (front ++ entry.Shot number ∷ rest) legal is) in
      rw (file.1, file.2)
