-- The headline: what a run promises of its journal and of its pictures.
use Rattle.std.specs.Prelude.{◌≡◌, ◌≢◌, ◌⊎◌, ℕ, ◌+◌, ◌<◌, Bool, true, false, List, [], ◌∷◌, ◌++◌}
use Rattle.std.specs.Prelude.{length, slice_index, All, Contains, Option, Some, None, option_map}
use Rattle.std.specs.Prelude.{if◌then◌else◌}
use Rattle.nit_run.specs.Below.{Call, Close, Configuration, Delivery, Device, Entry, Event, File}
use Rattle.nit_run.specs.Below.{Flat, Gets, IsDown, IsHeld, IsLive, IsNear, Kill, KillsPointed}
use Rattle.nit_run.specs.Below.{Line, Observation, ReadsJournal, Reply, Routed, State, TellsFocus}
use Rattle.nit_run.specs.Below.{TellsLeave, Xray, alone, alone_machine, calls_of, calls_to_make}
use Rattle.nit_run.specs.Below.{deliveries_of, donation_of, done, drawn_by_shot, events_text}
use Rattle.nit_run.specs.Below.{final_name, flat_map, is_accepted, is_button, is_held, is_key}
use Rattle.nit_run.specs.Below.{is_mode_key, journal_text, member, own_machine, owner_of, picture}
use Rattle.nit_run.specs.Below.{pixel, pixel_count, point, projection, replay, replies_to}
use Rattle.nit_run.specs.Below.{scenery_of, script_in, serve, shot_name, shots, shown, taken, to}
use Rattle.nit_run.specs.Below.{under_pointer}
use Rattle.nit_run.specs.Setup.{Setup}
use Rattle.nit_run.specs.Outputs.{AreOutputs, IsJournal, ending_of, events_name, journal_file}
use Rattle.nit_run.specs.Outputs.{raw_word, tables_left}
use Rattle.nit_events.specs.declared.call.Reply.TheVariants as reply
use Rattle.nit_events.specs.declared.device.Device.TheVariants as device
use Rattle.nit_events.specs.declared.entry.Entry.TheVariants as entry
use Rattle.nit_events.specs.declared.event.Event.TheVariants as event
use Rattle.nit_events.specs.declared.event.Item.TheVariants as item

-- ---- each client

-- the events among replies, in order
abbrev pub events_among : List Reply → List Event
events_among [] = []
events_among (reply.Event e ∷ rest) = e ∷ events_among rest
events_among (other ∷ rest) = events_among rest

-- A client is served as if it were alone.
pub record IsServedAlone (config : Configuration) (scripts : List (List Line))
    (journal : List Entry) (sid : ℕ) : Type 0 where
  -- its calls are those of its script, in order, each once
  pub calls : calls_of sid journal ≡ done (calls_to_make (script_in scripts sid))
  -- its replies are those of a machine that opens with its donation, and gets its calls and what
  -- the user's input routes to it
  pub replies : replies_to sid journal ≡ alone (donation_of config sid) (projection sid journal)
  -- the events that it takes are those that this machine hands out, in order
  pub events : flat_map (taken sid) journal
      ≡ events_among (alone (donation_of config sid) (projection sid journal))
  -- where a call of it is refused for quota, less is left than the call needs; and a machine that
  -- got its own calls before that one, and nothing else, refuses it with the same numbers
  pub quota : (front rest : List Entry) (call : Call) (need left : ℕ)
      → journal ≡ front ++ entry.Call sid call (reply.OutOfQuota need left) ∷ rest
      → (left < need)
      × ((serve (own_machine config sid front) call).reply ≡ reply.OutOfQuota need left)
  -- so it is where an upgrade is refused for want of reserve
  pub reserve : (front rest : List Entry) (call : Call) (need left : ℕ)
      → journal ≡ front ++ entry.Call sid call (reply.NoReserve need left) ∷ rest
      → (left < need)
      × ((serve (own_machine config sid front) call).reply ≡ reply.NoReserve need left)

-- ---- the user's input, and the focus

-- What a device event delivers in this state goes to those whom it is meant for.
pub record IsMeant (s : State) (dev : Device) (ds : List Delivery) : Type 0 where
  -- with nothing held and in mode Flat, a key's press goes to the focused session and to nobody
  -- else
  pub keys : (code : ℕ) → dev ≡ device.Press code → is_key code ≡ true
      → s.input.mode ≡ Flat → s.input.held ≡ []
      → ds ≡ to s.input.focus (event.Press code)
  -- a button's goes to the session that owns the pixel under the pointer, behind news of the focus
  pub buttons : (code : ℕ) → dev ≡ device.Press code → is_button code ≡ true
      → s.input.mode ≡ Flat → s.input.held ≡ []
      → (news : List Delivery) × All (TellsFocus s) news
      × (ds ≡ news ++ to (under_pointer s) (event.Press code))
  -- while something is held, all goes to one session, the receiver
  pub held : s.input.held ≢ [] → All (λ d. s.input.receiver ≡ Some d.sid) ds
  -- a mode key's press goes to nobody: at most the hovered session is told that the pointer leaves
  pub mode_keys : (code : ℕ) → dev ≡ device.Press code → is_mode_key code ≡ true
      → All (TellsLeave s) ds
  -- in mode Xray nothing is told but news of the focus: nobody gets a press
  pub xray : s.input.mode ≡ Xray → All (TellsFocus s) ds
  -- in mode Kill nothing is told but that the session under the pointer is locked out
  pub kill : s.input.mode ≡ Kill → All (KillsPointed s) ds

-- The user's input goes to those whom it is meant for.
pub record IsRoutedRight (config : Configuration) (journal : List Entry) : Type 0 where
  -- each delivery goes to a session that is live in the state before its entry
  pub deliveries : (front rest : List Entry) (dev : Device) (routed : Routed)
      → journal ≡ front ++ entry.Input dev routed ∷ rest
      → All (λ d. IsLive (replay config front) d.sid) (deliveries_of routed)
  -- and to those whom it is meant for in that state
  pub meant : (front rest : List Entry) (dev : Device) (routed : Routed)
      → journal ≡ front ++ entry.Input dev routed ∷ rest
      → IsMeant (replay config front) dev (deliveries_of routed)
  -- who gets all while something is held: the session that got the press of each code that is held
  pub receiver : (front rest : List Entry) (sid code : ℕ) → journal ≡ front ++ rest
      → (replay config front).input.receiver ≡ Some sid
      → is_held (replay config front).input code ≡ true
      → IsDown code (projection sid front)
  -- each release that is routed to a session follows a press of the same code to it, with no
  -- release of it between
  pub releases : (sid code : ℕ) (before rest : List Observation)
      → projection sid journal ≡ before ++ Gets (item.Event (event.Release code)) ∷ rest
      → IsDown code before

-- the focused session after these entries
abbrev pub focus_after : Configuration → List Entry → Option ℕ
focus_after config journal = (replay config journal).input.focus

-- In this state the device event is a click on a session: a button is pressed in mode Flat or Xray,
-- the pointer stands on a pixel that a view of the session owns, and the session takes the focus by
-- clicks.
pub record IsClickOn (s : State) (dev : Device) (sid : ℕ) : Type 0 where
  pub code : ℕ
  pub pressed : dev ≡ device.Press code
  pub button : is_button code ≡ true
  pub mode : (s.input.mode ≡ Flat) ⊎ (s.input.mode ≡ Xray)
  pub owns : option_map (λ v. v.sid) (owner_of s (point s.input.x s.input.y)) ≡ Some sid
  pub by_clicks : (member s.config sid).clicks ≡ true

-- The user alone gives the focus.
pub record IsFocusTheUsers (config : Configuration) (journal : List Entry) : Type 0 where
  -- a call leaves it as it is, but for the close of the focused session, which leaves none
  pub calls : (front rest : List Entry) (sid : ℕ) (call : Call) (r : Reply)
      → journal ≡ front ++ entry.Call sid call r ∷ rest
      → (focus_after config (front ++ entry.Call sid call r ∷ []) ≡ focus_after config front)
      ⊎ ((call ≡ Close) × (is_accepted r ≡ true) × (focus_after config front ≡ Some sid)
      × (focus_after config (front ++ entry.Call sid call r ∷ []) ≡ None))
  -- a device event gives it to a session only by a click on the session
  pub clicks : (front rest : List Entry) (dev : Device) (routed : Routed) (sid : ℕ)
      → journal ≡ front ++ entry.Input dev routed ∷ rest
      → focus_after config (front ++ entry.Input dev routed ∷ []) ≡ Some sid
      → (focus_after config front ≡ Some sid) ⊎ IsClickOn (replay config front) dev sid
  -- a shot leaves it as it is, and so does the last picture
  pub at_shot : (front rest : List Entry) (number : ℕ)
      → journal ≡ front ++ entry.Shot number ∷ rest
      → focus_after config (front ++ entry.Shot number ∷ []) ≡ focus_after config front
  pub at_end : (front rest : List Entry) → journal ≡ front ++ entry.Final ∷ rest
      → focus_after config (front ++ entry.Final ∷ []) ≡ focus_after config front
  -- in front of the first entry nobody has it
  pub at_first : focus_after config [] ≡ None

-- ---- the pictures

-- The frame has a word for each pixel. It is the one that the state shows there (`shown`: the word
-- of the topmost view, or what the mode puts over it, or the bar) of a word that the pixel may
-- hold.
pub record ShowsBy (s : State) (MayHold : ℕ → ℕ → Type 0) (words : List ℕ) : Type 0 where
  pub count : length words ≡ pixel_count s
  pub each : (k : ℕ) → k < pixel_count s
      → (w : ℕ) × MayHold k w
      × (slice_index words k ≡ shown (scenery_of s) (pixel s.config.width k) w)

-- among the files is one of this name that is a picture of the state, by words that its pixels may
-- hold
abbrev pub HasPicture : Configuration → List File → List ℕ → State → (ℕ → ℕ → Type 0) → Type 0
HasPicture config files name s MayHold =
    (words : List ℕ) × Contains files (name, picture config.width config.height words)
    × ShowsBy s MayHold words

-- A word that a pixel may hold when a shot is taken behind these entries. By rounds it is the one
-- that the rounds have drawn there by then. Beside each other it is one that the entries allow: one
-- that the script of the session whose word it shows had left at that place after a number of its
-- lines that has just as many calls as the session had made when the pixel was last made dirty, and
-- none of a later phase than the entry that made it so. Where that entry is a call of that session,
-- it is the one that the script had left there with that call.
abbrev pub HoldsByWay : Bool → Setup → List Entry → ℕ → ℕ → Type 0
HoldsByWay false s before k w =
    w ≡ (drawn_by_shot s.config s.scripts s.input (shots before)).word k
HoldsByWay true s before k w = IsNear s.config s.scripts s.input before k w

abbrev pub HoldsAtShot : Setup → List Entry → ℕ → ℕ → Type 0
HoldsAtShot s before k w = HoldsByWay s.beside s before k w

-- The shots of a run beside each other show one history of raw words.
pub record ShowsOneHistory (s : Setup) (journal : List Entry) (outputs : List File) : Type 0 where
  -- what each pixel holds behind the first n entries of the journal
  pub held : ℕ → ℕ → ℕ
  -- at first it is the bare word, and a pixel that an entry does not make dirty holds behind it
  -- what it held before it
  pub is_held : IsHeld s.config journal held
  -- each shot shows of each pixel the word that is held there when it is taken, which is one that
  -- the entries before it allow
  pub shots_show : (front rest : List Entry) (number : ℕ)
      → journal ≡ front ++ entry.Shot number ∷ rest
      → HasPicture s.config outputs (shot_name number) (replay s.config front)
      (λ k w. (w ≡ held (length front) k) × HoldsAtShot s front k w)

-- the word that a pixel holds in the last picture: that of the bare screen, 0, or the one that the
-- script of its session leaves at its source
abbrev pub HoldsAtEnd : Setup → List Entry → ℕ → ℕ → Type 0
HoldsAtEnd s journal k w = w ≡ raw_word (replay s.config journal) (tables_left s.config s.scripts) k

-- ---- the texts

-- The texts of a run. What a client's text tells is told of the machine that serves it alone: the
-- events that it took are those that this machine hands out (`events` of `IsServedAlone`), and how
-- it ended is how that machine ends. The text of the journal is read back as the journal.
pub record AreTexts (config : Configuration) (journal : List Entry)
    (outputs : List File) : Type 0 where
  pub events : (sid : ℕ) → sid < length config.clients
      → let machine = alone_machine (donation_of config sid) (projection sid journal) in
      Contains outputs
      (events_name (member config sid).label, events_text journal sid (ending_of machine))
  pub journal_too : Contains outputs (journal_file journal)
  pub reads : ReadsJournal (journal_text journal) journal

-- ---- all

pub record Headline (s : Setup) (journal : List Entry) (outputs : List File) : Type 0 where
  -- there is one journal: it is legal, whole for the scripts, and where the clients are not beside
  -- each other it has the order of the rounds
  pub one_journal : IsJournal s journal
  -- each client is served as if it were alone
  pub clients : (sid : ℕ) → sid < length s.config.clients
      → IsServedAlone s.config s.scripts journal sid
  -- the user's input goes to live sessions for which it is meant, and no release is routed to one
  -- without its press
  pub routed : IsRoutedRight s.config journal
  -- the user alone gives the focus
  pub focus : IsFocusTheUsers s.config journal
  -- each shot of the journal has its file, which shows the state that the entries before it lead to
  pub shots_show : (front rest : List Entry) (number : ℕ)
      → journal ≡ front ++ entry.Shot number ∷ rest
      → HasPicture s.config outputs (shot_name number) (replay s.config front) (HoldsAtShot s front)
  -- where the clients are beside each other, all shots show one history of the words that pixels
  -- hold: a pixel that no entry between two shots makes dirty has one word for both
  pub one_history : s.beside ≡ true → ShowsOneHistory s journal outputs
  -- final.ppm shows the state at the end, with the words that the scripts leave
  pub final_shows :
      HasPicture s.config outputs final_name (replay s.config journal) (HoldsAtEnd s journal)
  -- the texts are there, where the run has them
  pub texts : s.texts ≡ true → AreTexts s.config journal outputs
  -- there is no other file
  pub count : length outputs
      ≡ length s.made + (shots journal + 1 + (if s.texts then length s.config.clients + 1 else 0))
  -- by rounds the configuration and the scripts alone determine the journal and the files
  pub only : s.beside ≡ false → (other : List Entry) (files : List File)
      → IsJournal s other → AreOutputs s other files → (other ≡ journal) × (files ≡ outputs)
