-- A room and the user's pass after a device event, and after a shot.
use Rattle.nit_hall.proofs.Basics.{AreNear, BookModel, Device, End, Entry, EntryLaws, HasActed}
use Rattle.nit_hall.proofs.Basics.{HaveInks, InputLine, IsAdded, IsOpen, IsRoom, IsUserPass, Line}
use Rattle.nit_hall.proofs.Basics.{OpeningParts, Painted, RoomModel, Routed, SceneModel, ShareModel}
use Rattle.nit_hall.proofs.Basics.{Sight, TellsShot, UserBelongs, UserHasMet, UserPassModel}
use Rattle.nit_hall.proofs.Basics.{actions_of-append, buffers_of, entries_in, frame, glass_in}
use Rattle.nit_hall.proofs.Basics.{input_phases_before, is_input_phase, lenses, nat_tests, raised}
use Rattle.nit_hall.proofs.Basics.{raws_in, scenery_of, slice_get_within, state_now, with_entry}
use Rattle.nit_hall.proofs.Basics.{without_final}
use Rattle.std.proofs.Common.{List, Some, [], ap, arith, inl, length, length-append, refl}
use Rattle.std.proofs.Common.{slice_get, take, ℕ, ◌++◌, ◌+◌, ◌-◌, ◌∙◌, ◌∷◌, ◌≡◌}
use Rattle.nit_events.specs.declared.entry.Entry.TheVariants as entry
use Rattle.nit_script.specs.declared.line.InputLine.TheVariants as inputs
use Rattle.nit_hall.proofs.RoomSteps.{before_open, booked_more, inks_before, legal_then}
use Rattle.nit_hall.proofs.RoomSteps.{lenses_show, near_then, room_grown, state_later}
use Rattle.nit_hall.proofs.RoomSteps.{watching_other}
use Rattle.nit_hall.proofs.EntryLemmas.{KeepsClean, clean_painted, goes_on, open_whole, raws_more}
use Rattle.nit_hall.proofs.EntryLemmas.{seen_more}
use Rattle.nit_hall.proofs.LineLemmas.{actions_line, counted_same}
use Rattle.nit_hall.proofs.NearLemmas.{near_more}
use Rattle.nit_hall.proofs.ScriptsFollowed.{AddsAction, IsUserNext, follows_action}
use Rattle.nit_hall.proofs.ScriptsFollowed.{phase_of_action_next}
use Rattle.nit_hall.proofs.Phases.{actions_known, same_phase, user_ends, user_open}
use Rattle.nit_hall.proofs.PassCounts.{book_then, entered, room_of, user_back, user_raised}

-- a device event, and a shot, are the user's
pub adds_input : {dev : Device} {routed : Routed} → AddsAction (inputs.Device dev) (entry.Input dev routed)
adds_input = record { no_phase = refl; action_is = refl; no_call = λ t. refl; is_users = λ clients user. refl }

pub adds_shot : {number : ℕ} → AddsAction inputs.Shot (entry.Shot number)
adds_shot = record { no_phase = refl; action_is = refl; no_call = λ t. refl; is_users = λ clients user. refl }

-- what the scene promises of an entry of the user's
pub record IsDone (scripts : List (List Line)) (input : List InputLine) (old new : SceneModel End) (e : Entry)
    : Type 0 where
  pub added : IsAdded old new e
  pub open_is : IsOpen new.entries
  pub inks : HaveInks old.config scripts new.glasses
  pub watching : (t : ℕ) → (glass_in (lenses new) t).stages ≡ (glass_in (lenses old) t).stages
  pub near : AreNear old.config scripts input (old.entries ++ e ∷ []) new.raw
  pub keeps : KeepsClean old.config old.entries e old.raw new.raw

pub done_input : EntryLaws → {r : RoomModel} {new : SceneModel End} {next : ℕ} {dev : Device} {routed : Routed}
    → IsRoom r → IsUserNext r.parts.scripts r.parts.input r.counts next (inputs.Device dev)
    → r.phase ≡ input_phases_before r.parts.input next
    → IsOpen r.scene.entries → IsAdded r.scene new (entry.Input dev routed) → IsOpen new.entries
    → Painted (state_now r.scene) (entry.Input dev routed) (state_now new) (glass_in (lenses r.scene))
    (glass_in (lenses new)) r.scene.raw new.raw
    → IsDone r.parts.scripts r.parts.input r.scene new (entry.Input dev routed)
done_input laws {r = r} {new = new} {dev = dev} {routed = routed} room at ready was added open_is painted =
    record {
      added = added;
      open_is = open_is;
      inks = λ t. rw (painted.sights t) (inks_before laws room was added t);
      watching = λ t. ap (λ (g : Sight). g.stages) (painted.sights t);
      near = near_then laws room was added
          (λ still. rw (open_whole r.scene.entries was)
          at (phase_of_action_next room.follows at (entry.Input dev routed) adds_input ready))
          (λ t inside. lenses_show laws room was added t inside refl) (λ t call rep same. absurd cc) painted;
      keeps = clean_painted r.scene new (entry.Input dev routed) (state_later laws added) painted;
    }

pub done_shot : EntryLaws → {r : RoomModel} {new : SceneModel End} {number : ℕ} → IsRoom r → IsOpen r.scene.entries
    → new ≡ record r.scene { entries = r.scene.entries ++ entry.Shot number ∷ []; spare = r.scene.spare - 1 }
    → IsAdded r.scene new (entry.Shot number) → IsOpen new.entries
    → IsDone r.parts.scripts r.parts.input r.scene new (entry.Shot number)
done_shot laws {r = r} {number = number} room was is added open_is =
    record {
      added = added;
      open_is = open_is;
      inks = λ t. rw is (inks_before laws room was added t);
      watching = λ t. rw is;
      near = rw is
          (near_more r.scene.config r.parts.scripts r.parts.input r.scene.entries (entry.Shot number) laws r.scene.raw
          r.scene.raw (legal_then laws room was added) (rw room.config room.near)
          (λ k inside dirty. absurd cc) (λ k clean. refl));
      keeps = λ k clean. rw is;
    }

-- ---- what an action finds

-- the room and the user's pass at a line
pub record FoundUser (r : RoomModel) (u : UserPassModel) (l : InputLine) : Type 0 where
  pub next_is : IsUserNext r.parts.scripts r.parts.input r.counts u.next l
  pub own_line : slice_get u.input u.next ≡ Some l
  pub input_is : u.input ≡ r.parts.input
  pub number_is : u.number ≡ length r.parts.scripts
  pub ready : u.phase ≡ r.phase

pub found_user : {r₀ r r' : RoomModel} {u₀ u u' : UserPassModel} (l : InputLine) → r ≡ r' → u ≡ u'
    → UserHasMet r₀ u₀ r' u' → UserBelongs r₀.parts u₀ → slice_get u₀.input u₀.next ≡ Some l → u₀.phase ≡ r₀.phase
    → FoundUser r u l
found_user {r₀ = r₀} {r = r} {u₀ = u₀} l er eu met of at ready =
    rw (er ∙ met.room, eu ∙ met.user) (record {
      next_is = record { line_is = rw (← of.input) at; counted = met.counted };
      own_line = at;
      input_is = of.input;
      number_is = of.number;
      ready = ready;
    })

-- the phase that is served is the one of the user's next line
pub user_ready : {r : RoomModel} {u : UserPassModel} {share : ShareModel} {l : InputLine} → IsUserPass u share
    → FoundUser r u l → r.phase ≡ input_phases_before r.parts.input u.next
user_ready is f = rw (← f.ready, ← f.input_is) is.phase

-- ---- what an action leaves

-- the user's pass after a line that its share counted
abbrev pub user_with : UserPassModel → ShareModel → UserPassModel
user_with u share = record u {
  number = share.number;
  next = u.next + 1;
  name = share.name;
  seen = entries_in share.seen;
  raws = raws_in share.seen;
}

-- the room and the user's pass at an action, and the scene, the book and the share after it
pub record IsAction (r : RoomModel) (u : UserPassModel) (new : SceneModel End) (book book' : BookModel)
    (share share' : ShareModel) (l : InputLine) (e : Entry) : Type 0 where
  pub room : IsRoom (room_of r r.scene book)
  pub booked : entries_in book.entries ≡ without_final r.scene.entries
  pub user : IsUserPass u share
  pub name : share.name ≡ u.name
  pub found : FoundUser (room_of r r.scene book) u l
  pub adds : AddsAction l e
  pub did : IsDone r.parts.scripts r.parts.input r.scene new e
  pub book_is : book' ≡ book_then book e new.raw share.number
  pub share_is : share' ≡ record share { count = share.count + 1; seen = book'.entries }

module _ {r : RoomModel} {u : UserPassModel} {new : SceneModel End} {book book' : BookModel} {share share' : ShareModel}
    {l : InputLine} {e : Entry} (a : IsAction r u new book book' share share' l e) where
  was_open : IsOpen r.scene.entries
  was_open = user_open a.room a.found.next_is

  -- the share knows the book, in which the entry is the last one
  share_knows : entries_in share'.seen ≡ without_final r.scene.entries ++ e ∷ []
  share_knows = seen_more book.entries e new.raw (rw (a.share_is, a.book_is)) a.booked

  pub action_room : EntryLaws
      → IsRoom (room_of r new book') × (entries_in book'.entries ≡ without_final new.entries)
  action_room laws =
      let m = length r.parts.scripts in
      let room = a.room in
      let at = a.found.next_is in
      let did = a.did in
      let ready = user_ready a.user a.found in
      let raised_then = user_raised m book.counts in
      let back = user_back m book.counts in (
        rw (a.book_is, a.user.number, a.found.number_is, raws_more book.entries e new.raw, raised_then, back)
            (room_grown laws room was_open did.added _ (raised (take (m + 1) book.counts) m)
            (goes_on room was_open did.open_is did.added did.keeps) did.near did.inks
            (λ t inside. watching_other laws room was_open did.added _ t did.open_is (did.watching t)
            (a.adds.no_call t) (room.watching t inside))
            (λ t inside. watching_other laws room was_open did.added _ t did.open_is (did.watching t)
            (a.adds.no_call t) (room.waiting t inside))
            (rw (← booked_more was_open did.open_is did.added) (follows_action room.follows at e a.adds ready))
            (same_phase (user_ends room.follows.each at)
            (counted_same is_input_phase r.parts.input u.next l at.line_is a.adds.no_phase))
            (inl did.open_is)),
        rw a.book_is (seen_more book.entries e new.raw refl a.booked ∙ booked_more was_open did.open_is did.added),
      )

  pub action_user : IsUserPass (user_with u share') share'
  action_user = grind (
    arith,
    nat_tests,
    slice_get_within,
    counted_same,
    actions_known,
    share_knows,
    actions_of-append,
    actions_line,
  )

  module _ {r₀ r₁ : RoomModel} {u₀ u₁ : UserPassModel} (er : room_of r r.scene book ≡ r₁)
      (met : UserHasMet r₀ u₀ r₁ u₁) where
    pub action_acted : u ≡ u₁ → HasActed r₀ u₀ (room_of r new book') (user_with u share')
    action_acted eu =
        let known : entries_in share'.seen ≡ new.entries =
        rw (share_knows, open_whole r.scene.entries was_open, a.did.added.recorded) in
        let raws : raws_in share'.seen ≡ raws_in book'.entries = rw a.share_is in
        let number : share'.number ≡ u.number = rw a.share_is a.user.number in
        let name : share'.name ≡ u.name = rw a.share_is a.name in
        let added = a.did.added in
        record {
          user = rw (number, name, known, raws, eu ∙ met.user);
          before = before_open u₀.seen (er ∙ met.room) was_open met.before;
          raws_before = met.raws_before;
          counted = met.counted;
          legal = rw (← (er ∙ met.room), ← added.config) added.legal;
          history = rw (← (er ∙ met.room), a.book_is, raws_more book.entries e new.raw)
              (rw (open_whole new.entries a.did.open_is)
              at (goes_on a.room was_open a.did.open_is added a.did.keeps).history);
          unended = a.did.open_is;
        }

    pub action_entered : {e₀ : Entry} → e ≡ e₀ → buffers_of new.glasses ≡ buffers_of r.scene.glasses
        → room_of r new book' ≡ with_entry r₀ (length r₀.parts.scripts) e₀ new.raw new.glasses
    action_entered ee buffers = entered r book (er ∙ met.room) a.did.added
        (rw (a.user.number, a.found.number_is) at a.book_is) (omega arith)
        (ap (λ (x : RoomModel). length x.parts.scripts) (er ∙ met.room)) ee buffers

-- ---- what a shot tells the user

pub shot_told : {r r' : RoomModel} {u u' : UserPassModel} {parts : OpeningParts} (number : ℕ) (words : List ℕ)
    → r.parts ≡ parts → r.scene.config ≡ r.parts.config
    → AreNear r.parts.config r.parts.scripts r.parts.input r.scene.entries r.scene.raw
    → words ≡ frame (scenery_of (state_now r.scene)) r.scene.raw
    → r' ≡ with_entry r (length r.parts.scripts) (entry.Shot number) r.scene.raw r.scene.glasses → HasActed r u r' u'
    → TellsShot parts u.seen u.raws number u'.seen u'.raws words
shot_told {r = r} {r' = r'} {u = u} {u' = u'} {parts = parts} number words of config near shown then acted =
    let (between, front) = acted.before in
    let (more, front_raws) = acted.raws_before in
    record {
      between = between;
      told = rw (acted.user, then, front);
      near = (r.scene.raw, rw (← of, front) near, rw (← of, ← config, front) shown);
      between_raws = more;
      raws_told = rw (acted.user, then, front_raws);
      each =
          let long = simp length-append at (ap (λ (x : RoomModel). length x.scene.entries) then) in
          let many = simp length-append at (ap (λ (x : RoomModel). length x.raws) then) in
          omega (arith, acted.history.each, long, many, ap length front, ap length front_raws);
    }
