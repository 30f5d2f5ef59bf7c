-- A scene before its first entry, and after one entry more.
use Rattle.std.proofs.Common.{All, List, None, Option, Some, [], ap, arith, false, get_or, length}
use Rattle.std.proofs.Common.{refl}
use Rattle.std.proofs.Common.{replicate, slice_index_or, subst, sym, zero-add, ℕ, ◌*◌, ◌++◌, ◌+◌}
use Rattle.std.proofs.Common.{◌-◌, ◌<◌, ◌∙◌, ◌∷◌, ◌≡◌, ◌≤◌}
use Rattle.nit_glyph.specs.Lettering.{IsLettering}
use Rattle.nit_scene.proofs.Basics.{Agrees, AreInked, AreRaw, Call, Configuration, Entry, IsAdded}
use Rattle.nit_scene.proofs.Basics.{IsFrameShown, IsLegal, IsOpen, IsRawOf, IsScene, IsWord}
use Rattle.nit_scene.proofs.Basics.{JournalModel, Member, Painted, PixelSource, Reply, SceneModel}
use Rattle.nit_scene.proofs.Basics.{ServerModel, Session, ShowsLabels, Sight, State, Take, View}
use Rattle.nit_scene.proofs.Basics.{accepted, adds_at, after, alone, bare_everywhere, bare_word}
use Rattle.nit_scene.proofs.Basics.{by_refusal, delivered_keeps_next, entry_loses, first_session}
use Rattle.nit_scene.proofs.Basics.{first_state, frame, get_or-map, get_or-replicate, labels_stand}
use Rattle.nit_scene.proofs.Basics.{legal_more, length-append, member, pixel, projection, refusal}
use Rattle.nit_scene.proofs.Basics.{replay, replay_more, replies_to, route, same_config, scenery_of}
use Rattle.nit_scene.proofs.Basics.{session, session_in, shots, state_of, taking_keeps_next}
use Rattle.nit_journal.specs.Session.{serve}
use Rattle.nit_events.specs.declared.entry.Entry.TheVariants as entry

-- ---- no entry makes more than one view, so no session's next handle grows by more than one

accepted_adds : (t : Session) (call : Call) → (accepted t call).session.next ≤ t.next + 1
accepted_adds t View = omega arith
accepted_adds t Take = let same = taking_keeps_next t.queue t in omega arith
accepted_adds t other = omega arith

adds_unless_refused : (t : Session) (call : Call) (refused : Option Reply)
    → (by_refusal t call refused).session.next ≤ t.next + 1
adds_unless_refused t call (Some r) = omega arith
adds_unless_refused t call None = accepted_adds t call

serve_adds : (t : Session) (call : Call) → (serve t call).session.next ≤ t.next + 1
unfolding serve
serve_adds t call = adds_unless_refused t call (refusal t call)

pub entry_adds : (s : State) (e : Entry) (t : ℕ) → (session (after s e) t).next ≤ (session s t).next + 1
entry_adds s (entry.Call sid call r) t =
    adds_at (λ (u : Session). u.next) s.sessions sid (serve (session s sid) call).session (first_session 0)
    (serve_adds (session s sid) call) t
entry_adds s (entry.Input dev routed) t = let same =
    delivered_keeps_next (route s.config s.input s.stack dev).deliveries s.sessions t in omega arith
entry_adds s other t = omega arith

-- how many shots there are
shots_more : (journal : List Entry) (e : Entry) → shots (journal ++ e ∷ []) ≡ shots journal + shots (e ∷ [])
shots_more [] e = sym (zero-add (shots (e ∷ [])))
shots_more (entry.Shot n ∷ rest) e = omega (arith, shots_more rest e)
shots_more (other ∷ rest) e = shots_more rest e

-- what the law on raw words says
abbrev pub StaysRaw : Type 0
StaysRaw = (s : State) (taken : ℕ) (e : Entry) (glasses glasses_after : ℕ → Sight) (raw raw_after : List ℕ)
    → Agrees s taken e
    → Painted s e (after s e) glasses glasses_after raw raw_after → AreRaw s raw → AreRaw (after s e) raw_after

-- and so at servers
pub raws_painted : (s s' : ServerModel) (taken : ℕ) (e : Entry) (glasses glasses' : ℕ → Sight) (raw raw' : List ℕ)
    → StaysRaw → state_of s' ≡ after (state_of s) e → Agrees (state_of s) taken e
    → Painted (state_of s) e (state_of s') glasses glasses' raw raw' → AreRaw (state_of s) raw → AreRaw (state_of s') raw'
raws_painted s s' taken e glasses glasses' raw raw' law state_ agrees painted before =
    subst (λ (t : State). AreRaw t raw') (sym state_)
    (law (state_of s) taken e glasses glasses' raw raw' agrees
    (subst (λ (t : State). Painted (state_of s) e t glasses glasses' raw raw') state_ painted) before)

-- what is seen of a scene
abbrev pub scene_of : {G : Type 0} → ServerModel → JournalModel → List ℕ → List G → SceneModel G
scene_of s j raw glasses =
    record { config = s.config; entries = j.entries; spare = j.spare; raw = raw; glasses = glasses }

module _ {s : ServerModel} (s' : ServerModel) {entries : List Entry} {spare taken : ℕ} {raw : List ℕ}
    (h : IsScene s entries spare raw taken) (e : Entry) (state_ : state_of s' ≡ after (state_of s) e) where
  pub config_ : s'.config ≡ s.config
  config_ = ap (λ (t : State). t.config) state_ ∙ same_config (state_of s) e

  pub replays : state_of s' ≡ replay s'.config (entries ++ e ∷ [])
  replays = state_ ∙ ap (λ (t : State). after t e) h.replayed ∙ sym (replay_more (first_state s.config) entries e)
      ∙ ap (λ (c : Configuration). replay c (entries ++ e ∷ [])) (sym config_)

  pub stays_legal : IsOpen entries → Agrees (state_of s) taken e → IsLegal s'.config (entries ++ e ∷ [])
  stays_legal open_ agrees =
      subst (λ (c : Configuration). IsLegal c (entries ++ e ∷ [])) (sym config_)
      (legal_more (first_state s.config) 0 entries e h.legal open_
      (subst (λ (n : ℕ). Agrees (replay s.config entries) n e) (h.shots ∙ sym (zero-add (shots entries)))
      (subst (λ (t : State). Agrees t taken e) h.replayed agrees)))

  pub raws_after : StaysRaw → Agrees (state_of s) taken e → (glasses glasses' : ℕ → Sight) (raw' : List ℕ)
      → Painted (state_of s) e (state_of s') glasses glasses' raw raw' → AreRaw (state_of s') raw'
  raws_after law agrees glasses glasses' raw' painted =
      raws_painted s s' taken e glasses glasses' raw raw' law state_ agrees painted h.raw_words

  pub raws_now : (raw' : List ℕ) → AreRaw (state_of s') raw' → AreRaw (replay s'.config (entries ++ e ∷ [])) raw'
  raws_now raw' raws = subst (λ (t : State). AreRaw t raw') replays raws

  -- what the law on sessions alone says
  abbrev pub StandsAlone : Type 0
  StandsAlone = (config : Configuration) (journal : List Entry) (t : ℕ) → IsLegal config journal
      → t < length config.clients → replies_to t journal ≡ alone (member config t).donation (projection t journal)

  -- so an entry is added to what is seen of a scene
  pub adds : {G : Type 0} (raw' : List ℕ) (glasses glasses' : List G) (j' : JournalModel)
      → j' ≡ record { entries = entries ++ e ∷ []; spare = spare - 1 } → IsOpen entries
      → Agrees (state_of s) taken e → AreRaw (state_of s') raw' → StandsAlone
      → IsAdded (scene_of s (record { entries = entries; spare = spare }) raw glasses)
      (scene_of s' j' raw' glasses') e
  adds raw' glasses glasses' j' is open_ agrees raws law =
      let legal_ = stays_legal open_ agrees in
      subst (λ (k : JournalModel). IsAdded (scene_of s (record { entries = entries; spare = spare }) raw glasses)
      (scene_of s' k raw' glasses') e) (sym is) (record {
        recorded = refl;
        spare = refl;
        config = config_;
        legal = legal_;
        alone = λ t l. law s'.config (entries ++ e ∷ []) t legal_ l;
        raw = raws_now raw' raws;
      })

  -- what the law on inks says
  abbrev pub StaysInked : Type 0
  StaysInked = (s : State) (taken : ℕ) (e : Entry) (glasses glasses_after : ℕ → Sight) (raw raw_after : List ℕ)
      → Agrees s taken e
      → Painted s e (after s e) glasses glasses_after raw raw_after → AreInked s glasses raw
      → AreInked (after s e) glasses_after raw_after

  pub inks_now : StaysInked → Agrees (state_of s) taken e → (glasses glasses' : ℕ → Sight) (raw' : List ℕ)
      → Painted (state_of s) e (state_of s') glasses glasses' raw raw'
      → AreInked (replay s.config entries) glasses raw → AreInked (replay s'.config (entries ++ e ∷ [])) glasses' raw'
  inks_now law agrees glasses glasses' raw' painted inks =
      subst (λ (t : State). AreInked t glasses' raw') replays
      (subst (λ (t : State). AreInked t glasses' raw') (sym state_)
      (law (state_of s) taken e glasses glasses' raw raw' agrees
      (subst (λ (t : State). Painted (state_of s) e t glasses glasses' raw raw') state_ painted)
      (subst (λ (t : State). AreInked t glasses raw) (sym h.replayed) inks)))

  pub played : (raw' : List ℕ) {taken' : ℕ} → IsOpen entries → Agrees (state_of s) taken e → 1 ≤ spare
      → AreRaw (state_of s') raw' → taken' ≡ taken + shots (e ∷ [])
      → IsScene s' (entries ++ e ∷ []) (spare - 1) raw' taken'
  played raw' open_ agrees room_ raws count_ =
      let long : length (entries ++ e ∷ []) ≡ length entries + 1 = length-append entries (e ∷ []) in
      record {
        replayed = replays;
        legal = stays_legal open_ agrees;
        raw_words = raws;
        handles = λ t.
            let more = rw (← state_) at (entry_adds (state_of s) e t) in omega (arith, long, more, h.handles t);
        lost = λ t.
            let more = rw (← state_) at (entry_loses (state_of s) e t) in omega (arith, long, more, h.lost t);
        room = omega (arith, long, h.room, room_);
        shots = count_ ∙ ap (λ (n : ℕ). n + shots (e ∷ [])) h.shots ∙ sym (shots_more entries e);
      }

-- there are no more shots than entries
pub shots_fit : (journal : List Entry) → shots journal ≤ length journal
shots_fit [] = omega arith
shots_fit (entry.Shot n ∷ rest) = omega (arith, shots_fit rest)
shots_fit (other ∷ rest) = omega (arith, shots_fit rest)

-- a journal that goes on
pub open_more : (journal : List Entry) (e : Entry) → IsOpen journal → IsOpen (e ∷ []) → IsOpen (journal ++ e ∷ [])
open_more [] e h k = k
open_more (entry.Final ∷ rest) e h k = absurd h
open_more (other ∷ rest) e h k = open_more rest e h k

-- ---- labels

-- what is shown at a scene that is in such a state
pub shows : {s : ServerModel} {entries : List Entry} {spare taken : ℕ} {raw words : List ℕ}
    → IsScene s entries spare raw taken → IsLettering s.config.lettering → words ≡ frame (scenery_of (state_of s)) raw → All IsWord words
    → IsFrameShown (scenery_of (replay s.config entries)) raw words
shows {s} {entries} {raw = raw} i lettering is are =
    let now = is ∙ ap (λ (t : State). frame (scenery_of t) raw) i.replayed in
    record {
      frame = now;
      labels = subst (ShowsLabels (scenery_of (replay s.config entries))) (sym now)
          (labels_stand s.config entries raw lettering i.legal);
      words = are;
    }

-- ---- a scene before its first entry

pub raw_begun : (config : Configuration)
    → AreRaw (first_state config) (replicate (config.width * config.height) bare_word)
raw_begun config k l =
    subst (λ (x : PixelSource). IsRawOf x (slice_index_or (replicate (config.width * config.height) bare_word) k 0))
    (sym (bare_everywhere config (pixel config.width k)))
    (get_or-replicate (config.width * config.height) k bare_word 0 l)

pub played_begun : (s : ServerModel) (config : Configuration) (room : ℕ) (raw : List ℕ)
    → state_of s ≡ first_state config → raw ≡ replicate (config.width * config.height) bare_word → room ≤ 1114113
    → IsScene s [] room raw 0
played_begun s config room raw begun words fits = record {
  replayed = begun ∙ ap first_state (sym (ap (λ (t : State). t.config) begun));
  legal = tt;
  raw_words = subst (λ (t : State). AreRaw t raw) (sym begun)
      (subst (AreRaw (first_state config)) (sym words) (raw_begun config));
  handles = λ t. omega (arith, ap (λ (u : Session). u.next) (opened t));
  lost = λ t. omega (arith, ap (λ (u : Session). u.lost) (opened t));
  room = omega (arith, fits);
  shots = refl;
}
  where
    none : Member
    none = record { label = []; donation = 0; script = []; layer = 0; clicks = false }

    opened : (t : ℕ) → session_in s.sessions t ≡ first_session (get_or config.clients t none).donation
    opened t = ap (λ (u : State). session_in u.sessions t) begun
        ∙ get_or-map (λ (m : Member). first_session m.donation) config.clients t none
