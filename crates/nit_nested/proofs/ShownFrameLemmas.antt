-- At the end of each phase the script's buffer has the phase's frame.
use Rattle.nit_nested.proofs.Basics.{AllByRecursion, Buffer, CanPay, Close, IsFrame, IsNest, Line}
use Rattle.nit_nested.proofs.Basics.{List, NestModel, None, Option, Painting, Reply, Session}
use Rattle.nit_nested.proofs.Basics.{ShowsFrames, Some, [], after_line, arith, blank, buffer_size}
use Rattle.nit_nested.proofs.Basics.{by_refusal, count_by, drop, false, first_forbidden}
use Rattle.nit_nested.proofs.Basics.{first_session, fold-append, frame_lines, frame_script}
use Rattle.nit_nested.proofs.Basics.{frames_behind, get_or, get_or-append_seam, is_accepted}
use Rattle.nit_nested.proofs.Basics.{is_forbidden, is_phase, length, length-append, length-map}
use Rattle.nit_nested.proofs.Basics.{length-zeros, lines_before_end, map, nat_tests, next_frame}
use Rattle.nit_nested.proofs.Basics.{painted_from, phases, refusal, sum_by-append, take-append-add}
use Rattle.nit_nested.proofs.Basics.{take-length, words_left, words_of_lines, woven, zeros}
use Rattle.std.proofs.Common.{refl, suc, sym, take, zero, ℕ, ◌*◌, ◌++◌, ◌+◌, ◌<◌, ◌∙◌, ◌∷◌, ◌≡◌}
use Rattle.std.proofs.Common.{◌≤◌}
use Rattle.nit_plan.specs.Strokes.{cleared}
use Rattle.nit_nested.proofs.GrammarLemmas.{both_all, frame_all, frames_all, kept_frames}
use Rattle.nit_nested.proofs.GrammarLemmas.{phase_lines_more, woven_all}
use Rattle.nit_nested.proofs.FillLemmas.{Shows, call_size, frame_shows, line_shows}
use Rattle.nit_journal.specs.Session.{serve}
use Rattle.nit_script.specs.declared.line.Line.TheVariants as line

-- ---- where phases end

-- no line ends a phase
abbrev pub EndNone : List Line → Type 0
EndNone lines = AllByRecursion (λ l. is_phase l ≡ false) lines

pub frame_ends_none : (w h : ℕ) (frame : List ℕ) → EndNone (frame_lines w h frame)
frame_ends_none w h frame = frame_all (λ l. is_phase l ≡ false) w h (λ x y n c. refl) refl frame

none_before : (k : ℕ) (lines more : List Line) → EndNone lines
    → lines_before_end k (lines ++ more) ≡ length lines + lines_before_end k more
none_before k [] more none = omega arith
none_before k (line.Phase ∷ lines) more none = absurd cc
none_before k (other ∷ lines) more none = omega (arith, none_before k lines more none.1)

-- ---- lines that may stand in the script

abbrev pub MayStand : List Line → Type 0
MayStand own = AllByRecursion (λ l. is_forbidden l ≡ false) own

pub may_stand : (n : ℕ) (own : List Line) → first_forbidden n own ≡ None → MayStand own
may_stand n [] none = tt
may_stand n (l ∷ own) none = grind (arith, nat_tests, may_stand (n + 1) own)

-- ---- phase by phase

-- what the first lines of a script paint, up to the end of a phase
abbrev at_end : ℕ → Painting → List Line → Painting
at_end k p lines = painted_from p (take (lines_before_end k lines) lines)

-- after a frame
behind_frame : (k w h : ℕ) (frame : List ℕ) (more : List Line) (p : Painting)
    → at_end k p (frame_lines w h frame ++ more) ≡ at_end k (painted_from p (frame_lines w h frame)) more
behind_frame k w h frame more p =
    let lines : List Line = frame_lines w h frame in
    rw (none_before k lines more (frame_ends_none w h frame), take-append-add lines more (lines_before_end k more))
    (fold-append after_line p lines (take (lines_before_end k more) more))

woven_shows : (w h k : ℕ) (current : List ℕ) (frames : List (List ℕ)) (own : List Line) (p : Painting) → 0 < w
    → AllByRecursion (IsFrame w h) frames → MayStand own → count_by is_phase own ≡ length frames
    → k ≤ length frames → Shows w h current p
    → Shows w h (get_or (current ∷ frames) k []) (at_end k p (woven (map (frame_lines w h) frames) own))
woven_shows w h zero current [] [] p some all may counted within shows = shows
woven_shows w h k current frames [] p some all may counted within shows = absurd (omega (arith, counted, within))
woven_shows w h k current [] (line.Phase ∷ own) p some all may counted within shows = grind (arith, nat_tests)
woven_shows w h zero current (f ∷ fs) (line.Phase ∷ own) p some all may counted within shows = shows
woven_shows w h (suc k) current (f ∷ fs) (line.Phase ∷ own) p some all may counted within shows =
    rw (behind_frame k w h f (woven (map (frame_lines w h) fs) own) p)
    (woven_shows w h k f fs own (painted_from p (frame_lines w h f)) some all.1 may.1
    (omega (arith, counted, phase_lines_more line.Phase own)) (omega (arith, within))
    (frame_shows w h f p some all.0.0 shows.wide shows.tall shows.room))
woven_shows w h k current frames (line.Call c ∷ own) p some all may counted within shows =
    woven_shows w h k current frames own (after_line p (line.Call c)) some all may.1
    (omega (arith, counted, phase_lines_more (line.Call c) own)) within
    (line_shows w h current p (line.Call c) may.0 shows)
woven_shows w h k current frames (line.Stroke s ∷ own) p some all may counted within shows = absurd cc

-- ---- the whole script

cleared_room : (w h : ℕ) (words : List ℕ) → w * h ≤ length (cleared w h words)
unfolding cleared
cleared_room w h words = omega (arith, length-append (zeros (w * h)) (drop (w * h) words), length-zeros (w * h))

pub made_shows : (w h : ℕ) (frames : List (List ℕ)) (own : List Line) (donation k : ℕ) → 0 < w
    → AllByRecursion (IsFrame w h) frames → first_forbidden 1 own ≡ None → phases own ≡ length frames
    → CanPay donation w h → k < length frames
    → Shows w h (get_or frames k []) (at_end k (blank donation) (frame_script w h (map (frame_lines w h) frames) own))
made_shows w h [] own donation k some all none counted pays within = absurd (omega arith)
made_shows w h (f ∷ fs) own donation k some all none counted pays within =
    let size = buffer_size (first_session donation) w h pays in
    rw (behind_frame k w h f (woven (map (frame_lines w h) fs) own) _)
    (woven_shows w h k f fs own _ some all.1 (may_stand 1 own none) (omega (arith, counted)) (omega (arith, within))
    (frame_shows w h f (after_line (blank donation) (line.Call (Buffer w h))) some all.0.0 size.0 size.1
    (rw pays (cleared_room w h (blank donation).words))))

-- the same, by what is kept
pub kept_shows : {n : NestModel} {w h held : ℕ} {frames : List (List Line)} (own : List Line) {lines : List Line}
    → n ≡ kept_frames w h frames → IsNest w h frames held → first_forbidden 1 own ≡ None → phases own ≡ length frames
    → lines ≡ frame_script w h frames own → (donation : ℕ) → CanPay donation n.w n.h
    → ShowsFrames n.w n.h n.frames lines donation
kept_shows {w = w} {h} {frames = frames} own is kept none counted are =
    let all = rw kept.lines at are in
    rw is (λ donation pays k within. rw all (made_shows w h (map words_of_lines frames) own donation k
    (omega (arith, kept.size.0)) kept.words none (counted ∙ sym (length-map frames words_of_lines)) pays within).shown)

-- ---- the buffer of a script that shows frames keeps its size

-- the line is no `buffer` and no `close`
abbrev IsStill : Line → Type 0
IsStill (line.Call (Buffer w h)) = ⊥
IsStill (line.Call Close) = ⊥
IsStill other = Unit {0}

abbrev AreStill : List Line → Type 0
AreStill lines = AllByRecursion IsStill lines

abbrev HasSize : ℕ → ℕ → Painting → Type 0
HasSize w h p = (p.session.bw ≡ w) × (p.session.bh ≡ h)

line_still : (w h : ℕ) (p : Painting) (l : Line) → IsStill l → HasSize w h p → HasSize w h (after_line p l)
line_still w h p (line.Call (Buffer a b)) still size = absurd still
line_still w h p (line.Call Close) still size = absurd still
line_still w h p (line.Call other) still size = grind (arith, nat_tests, call_size)
line_still w h p other still size = size

lines_still : (w h k : ℕ) (lines : List Line) (p : Painting) → AreStill lines → HasSize w h p
    → HasSize w h (painted_from p (take k lines))
lines_still w h zero lines p still size = size
lines_still w h (suc k) [] p still size = size
lines_still w h (suc k) (l ∷ lines) p still size =
    lines_still w h k lines (after_line p l) still.1 (line_still w h p l still.0 size)

one_still : (l : Line) → is_forbidden l ≡ false → IsStill l
one_still (line.Call (Buffer w h)) may = absurd cc
one_still (line.Call Close) may = absurd cc
one_still other may = tt

-- the lines after the `buffer` line
behind_buffer : (w h : ℕ) (frames : List (List ℕ)) (own : List Line) → first_forbidden 1 own ≡ None
    → AreStill (next_frame (map (frame_lines w h) frames) ++ woven (frames_behind (map (frame_lines w h) frames)) own)
behind_buffer w h frames own none =
    let still = frames_all IsStill w h (frame_all IsStill w h (λ x y n c. tt) tt) frames in
    (woven_all IsStill (λ l. is_forbidden l ≡ false) one_still (map (frame_lines w h) frames) (line.Phase ∷ own) still
    (refl, may_stand 1 own none)).1

pub made_size : (w h : ℕ) (frames : List (List ℕ)) (own : List Line) (donation k : ℕ) → first_forbidden 1 own ≡ None
    → CanPay donation w h → 1 ≤ k
    → HasSize w h (painted_from (blank donation) (take k (frame_script w h (map (frame_lines w h) frames) own)))
made_size w h frames own donation zero none pays some = absurd (omega (arith, some))
made_size w h frames own donation (suc k) none pays some =
    lines_still w h k _ (after_line (blank donation) (line.Call (Buffer w h))) (behind_buffer w h frames own none)
    (buffer_size (first_session donation) w h pays)

-- ---- where the session cannot pay for it

refused_stays : (s : Session) (w h : ℕ) (o : Option Reply) → is_accepted (by_refusal s (Buffer w h) o).reply ≡ false
    → (by_refusal s (Buffer w h) o).session ≡ s
refused_stays s w h (Some r) refused = refl
refused_stays s w h None refused = absurd cc

unpaid : (s : Session) (w h : ℕ) → is_accepted (serve s (Buffer w h)).reply ≡ false → (serve s (Buffer w h)).session ≡ s
unfolding serve
unpaid s w h refused = refused_stays s w h (refusal s (Buffer w h)) refused

pub made_bare : (w h : ℕ) (frames : List (List ℕ)) (own : List Line) (donation k : ℕ) → first_forbidden 1 own ≡ None
    → is_accepted (serve (first_session donation) (Buffer w h)).reply ≡ false
    → HasSize 0 0 (painted_from (blank donation) (take k (frame_script w h (map (frame_lines w h) frames) own)))
made_bare w h frames own donation zero none refused = (refl, refl)
made_bare w h frames own donation (suc k) none refused =
    lines_still 0 0 k _ (after_line (blank donation) (line.Call (Buffer w h))) (behind_buffer w h frames own none)
    (rw (unpaid (first_session donation) w h refused) (refl, refl))

-- ---- the phases of a script that shows frames, and its end

-- lines that end no phase
none_counted : (lines : List Line) → EndNone lines → count_by is_phase lines ≡ 0
none_counted [] none = refl
none_counted (l ∷ lines) none = cc (none_counted lines none.1)

woven_phases : (frames : List (List Line)) (own : List Line) → AllByRecursion EndNone frames
    → count_by is_phase (woven frames own) ≡ count_by is_phase own
woven_phases frames [] none = refl
woven_phases frames (line.Phase ∷ own) none =
    let both = both_all (λ l. is_phase l ≡ false) frames none in
    let next = none_counted (next_frame frames) both.0 in
    simp (phase_lines_more, sum_by-append) (omega (arith, next, woven_phases (frames_behind frames) own both.1))
woven_phases frames (other ∷ own) none = omega (arith, woven_phases frames own none)

pub made_phases : (w h : ℕ) (frames : List (List ℕ)) (own : List Line)
    → phases (frame_script w h (map (frame_lines w h) frames) own) ≡ phases own
made_phases w h frames own =
    let fs : List (List Line) = map (frame_lines w h) frames in
    let all = frames_all (λ l. is_phase l ≡ false) w h (frame_ends_none w h) frames in
    omega (arith, phase_lines_more, woven_phases fs (line.Phase ∷ own) all)

pub last_end : (k : ℕ) (script : List Line) → phases script ≡ k + 1 → lines_before_end k script ≡ length script
last_end k [] counted = refl
last_end zero (line.Phase ∷ rest) counted = absurd (omega (arith, phase_lines_more line.Phase rest))
last_end (suc k) (line.Phase ∷ rest) counted = cc (last_end k rest (omega (arith, phase_lines_more line.Phase rest)))
last_end k (other ∷ rest) counted = cc (last_end k rest (omega (arith, phase_lines_more other rest)))

pub last_frame : (w h : ℕ) (front : List (List ℕ)) (last : List ℕ) (script : List Line) (donation : ℕ)
    → ShowsFrames w h (front ++ last ∷ []) script donation → phases script ≡ length front + 1
    → take (w * h) (words_left script donation) ≡ last
last_frame w h front last script donation shows counted =
    grind (arith, last_end, take-length script, shows (length front), length-append, get_or-append_seam)
