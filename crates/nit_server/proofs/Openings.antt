-- What holds of a server before its first entry.
use Rattle.std.proofs.Common.{Bool, IsTrue, List, [], ap, arith, cond, false, filter}
use Rattle.std.proofs.Common.{get_or-set_other, inl, inr, length, length-set, map, mul-zero, not}
use Rattle.std.proofs.Common.{refl, replicate, set, sum, sym, true, ℕ, ◌+◌, ◌-◌, ◌<◌, ◌==◌, ◌∙◌}
use Rattle.std.proofs.Common.{◌∷◌, ◌≡◌, ◌≢◌, ◌≤◌, ◌*◌, if◌then◌else◌}
use Rattle.nit_server.proofs.ServerLemmas.{has_member, machine_is, no_client, repaid, same_sizes}
use Rattle.nit_server.proofs.Basics.{All-from_get_or, All-get_or, All-map, All-nil, All-replicate}
use Rattle.nit_server.proofs.Basics.{All-weaker, AreServerParts, Configuration, FocusModel}
use Rattle.nit_server.proofs.Basics.{IsBufferSize, IsConfiguration, IsFreeLabel, IsMember}
use Rattle.nit_server.proofs.Basics.{IsServerInput, IsSlotView, IsStack, KeptSessionModel, Member}
use Rattle.nit_server.proofs.Basics.{ServerModel, SlotsModel, StackModel, client_in}
use Rattle.nit_glyph.specs.Lettering.{IsLettering, most_picture_height, most_scale}
use Rattle.nit_glyph.specs.Lettering.{picture_height, rows_of}
use Rattle.nit_glyph.specs.declared.lettering.Glyphs.{Glyphs}
use Rattle.nit_glyph.specs.declared.lettering.Glyphs.TheVariants.{Large, Small}
use Rattle.nit_glyph.specs.declared.lettering.Lettering.{Lettering}
use Rattle.nit_server.proofs.Basics.{first_kept_session, first_session, first_stack, get_or-map}
use Rattle.nit_server.proofs.Basics.{get_or-set_at, get_or_default, has_handle, is_label}
use Rattle.nit_server.proofs.Basics.{kept_session_at, length-map, length-replicate, list_any}
use Rattle.nit_server.proofs.Basics.{map-map, map-set, map-set_same, member, most_slots, most_units}
use Rattle.nit_server.proofs.Basics.{nat_tests, no_size, relabelled, server_of, session_in}
use Rattle.nit_server.proofs.Basics.{size_of_buffer, slots_of_all, splat_is_map, sum_by-replicate}
use Rattle.nit_server.proofs.Basics.{view_slots, with_opened, without_handle}

-- no slot is taken
abbrev pub none_taken : ℕ → SlotsModel
none_taken total = record { total = total; taken = [] }

-- the picture of a text has few rows
scaled_low : (g : Glyphs) (scale : ℕ) → scale ≤ most_scale → scale * (rows_of g + 2) ≤ most_picture_height
scaled_low Small scale few = omega arith
scaled_low Large scale few = omega arith

picture_low : (l : Lettering) → IsLettering l → picture_height l ≤ most_picture_height
picture_low l is = scaled_low l.glyphs l.scale is.1

-- the rows of the bar are those of the picture of a text, or none
opened_bar : (bar : Bool) (l : Lettering) → IsLettering l → (if bar then picture_height l else 0) ≤ most_picture_height
opened_bar true l is = picture_low l is
opened_bar false l is = omega arith

opened_stands : (config : Configuration) → IsConfiguration config → slots_of_all config.clients ≤ most_slots
    → IsStack (first_stack config)
opened_stands config c few =
    let n = length-replicate (length config.clients) no_size in
    record {
      slots = tt;
      names = tt;
      layered = tt;
      seats = All-nil (IsSlotView (slots_of_all config.clients) (length (replicate (length config.clients) no_size)));
      sizes = All-replicate IsBufferSize (length config.clients) no_size (omega arith, omega arith);
      layers = All-map (λ l. l ≤ 7) (λ (m : Member). m.layer) config.clients
          (All-weaker IsMember (λ (m : Member). m.layer ≤ 7) (λ m h. h.layer) config.clients c.clients);
      sessions = rw n (c.count.0, c.count.1, length-map config.clients (λ (m : Member). m.layer));
      screen = (c.width.0, c.width.1, c.height.0, c.height.1);
      bar = (opened_bar config.bar config.lettering c.lettering, c.bar);
      room = few;
    }

-- each session is that of its client
opened_at : (config : Configuration) (t : ℕ) → kept_session_at (map first_kept_session config.clients) t
    ≡ first_kept_session (member config t)
opened_at config t = get_or-map first_kept_session config.clients t no_client

no_views : (clients : List Member)
    → 0 ≡ sum (map (λ (m : KeptSessionModel). length m.pairs) (map first_kept_session clients))
no_views clients =
    sym (ap sum (map-map (λ (m : KeptSessionModel). length m.pairs) first_kept_session clients
    ∙ sym (splat_is_map clients (length clients) 0 refl)) ∙ sum_by-replicate (λ (n : ℕ). n) (length clients) 0
    ∙ mul-zero (length clients))

opened_is : (config : Configuration) → IsConfiguration config → slots_of_all config.clients ≤ most_slots
    → AreServerParts config (first_stack config) (map first_kept_session config.clients)
    (none_taken (slots_of_all config.clients))
opened_is config c few = record {
  configured = c;
  standing = opened_stands config c few;
  screen = (refl, refl, refl);
  layers = refl;
  each = same_length;
  sizes = splat_is_map config.clients (length config.clients) no_size refl
      ∙ sym (map-map (λ (m : KeptSessionModel). size_of_buffer m.session) first_kept_session config.clients);
  clients = λ t l.
      let range = (All-get_or IsMember config.clients t no_client (rw same_length at l) c.clients).donation in
      let least : (member config t).donation ≤ most_units = range.1 in
      rw (opened_at config t) (record {
        sum = omega (arith, least);
        paid = record { used = omega arith; bounded = omega (arith, least) };
        most = refl;
        few = omega arith;
      });
  seated = record {
    named = λ t handle k l e. cc (opened_at config t);
    kept = λ t handle k e. cc;
    taken = λ k. refl;
  };
  counted = no_views config.clients;
  places = (refl, refl);
}
  where
    same_length : length (map first_kept_session config.clients) ≡ length config.clients
    same_length = length-map config.clients first_kept_session

pub opened_server : {config copy : Configuration} {stack : StackModel} {clients : List Member}
    {members : List KeptSessionModel} {slots : SlotsModel} {total : ℕ} → IsConfiguration config
    → clients ≡ config.clients
    → copy ≡ config
    → stack ≡ first_stack config
    → members ≡ map first_kept_session clients
    → slots ≡ none_taken total
    → total ≡ slots_of_all clients
    → total ≤ most_slots
    → AreServerParts copy stack members slots
opened_server {config} {total = total} c given copied stacked joined free sum few =
    let all : total ≡ slots_of_all config.clients = rw given at sum in
    rw (copied, stacked, joined, given, free, all) (opened_is config c (rw all at few))

-- ==== The views of a session, as its machine has them and as its table has them.

-- the handles of pairs of a handle and its slot
abbrev pub handles_of : List (ℕ × ℕ) → List ℕ
handles_of pairs = map (λ p. p.0) pairs

-- no handles, no pairs
pub none_of : (pairs : List (ℕ × ℕ)) → handles_of pairs ≡ [] → pairs ≡ []
none_of [] e = refl
none_of (p ∷ pairs) e = cc

-- a session has the views that its table holds
pub has_as_held : (pairs : List (ℕ × ℕ)) (h : ℕ) → list_any (λ k. k == h) (handles_of pairs) ≡ has_handle pairs h
has_as_held [] h = refl
has_as_held (p ∷ rest) h = grind (arith, has_as_held rest h)

-- a view that leaves the table leaves the session
pub handles_without : (pairs : List (ℕ × ℕ)) (h : ℕ) → handles_of (without_handle pairs h)
    ≡ filter (λ k. not (k == h)) (handles_of pairs)
handles_without [] h = refl
handles_without (p ∷ rest) h = grind (arith, handles_without rest h)

-- ==== What holds of a server stays so when a session, of which nothing is left, opens again.

module _ (config : Configuration) (sid : ℕ) (label : List ℕ) where
  -- the client of the session, under the label
  abbrev pub renamed : Member
  renamed = record (member config sid) { label = label }

  abbrev now : Configuration
  now = relabelled sid label config

  -- what knows no label is as before
  each_kept : {B : Type 0} (f : Member → B) → f renamed ≡ f (member config sid)
      → map f now.clients ≡ map f config.clients
  each_kept f e = map-set_same f config.clients sid renamed no_client e

  -- the client of each session
  client_now : (t : ℕ) → sid < length config.clients → member now t ≡ cond (t == sid) renamed (member config t)
  client_now t there = grind (arith, nat_tests, get_or-set_other, get_or-set_at)

  -- and what of it is no label
  pub client_kept : {B : Type 0} (f : Member → B) → f renamed ≡ f (member config sid) → (t : ℕ)
      → sid < length config.clients → f (member now t) ≡ f (member config t)
  client_kept f e t there = grind (arith, nat_tests, client_now t there, e)

  -- the configuration is still within its ranges
  pub still_configured : IsConfiguration config → sid < length config.clients → IsTrue (is_label label)
      → IsFreeLabel config sid label → IsConfiguration now
  still_configured h there good free = record {
    width = h.width;
    height = h.height;
    lettering = h.lettering;
    bar = h.bar;
    input = h.input;
    count = rw as_many h.count;
    clients = All-from_get_or IsMember now.clients no_client (λ t lt. each t (rw as_many at lt));
    labels = λ i j d lt within same.
        let here = λ (t : ℕ). get_or-set_at config.clients sid t renamed d in
        let other = λ (t : ℕ). get_or-set_other config.clients sid t renamed d in
        let at = λ (t : ℕ). get_or_default config.clients t d no_client in
        let old = h.labels i j d lt in
        grind (arith, nat_tests, here i, here j, other i, other j, at i, at j, free i, free j, old, as_many, same);
  }
    where
      as_many : length now.clients ≡ length config.clients
      as_many = length-set config.clients sid renamed

      each : (t : ℕ) → t < length config.clients → IsMember (member now t)
      each t lt = rw (client_now t there) (elim (t == sid) as (λ b. IsMember (cond b renamed (member config t))) [
        | true ↦ assumption (good, All-get_or IsMember config.clients sid no_client there h.clients)
        | false ↦ All-get_or IsMember config.clients t no_client lt h.clients
      ])

  -- so are the parts of a server
  relabelled_parts : {stack : StackModel} {members : List KeptSessionModel} {slots : SlotsModel}
      → AreServerParts config stack members slots → sid < length members → IsTrue (is_label label)
      → IsFreeLabel config sid label
      → AreServerParts now stack members slots
  relabelled_parts h below good free =
      let there : sid < length config.clients = rw h.each at below in
      record {
        configured = still_configured h.configured there good free;
        standing = h.standing;
        screen = h.screen;
        layers = h.layers ∙ sym (each_kept (λ m. m.layer) refl);
        each = h.each ∙ sym (length-set config.clients sid renamed);
        sizes = h.sizes;
        clients = λ t lt. rw (client_kept (λ m. m.donation) refl t there) (h.clients t lt);
        seated = h.seated;
        counted = h.counted;
        places = (h.places.0, h.places.1 ∙ ap sum (sym (each_kept (λ m. view_slots m.donation) refl)));
      }

  relabelled_input : {focus : FocusModel} → IsServerInput config focus → sid < length config.clients
      → IsServerInput now focus
  relabelled_input h there =
      let as_many : length now.clients ≡ length config.clients = length-set config.clients sid renamed in
      record {
        screen = h.screen;
        clicks = λ t lt. h.clicks t (rw as_many at lt) ∙ sym (client_kept (λ m. m.clicks) refl t there);
        known = rw as_many h.known;
      }

-- a session as it opens
abbrev pub begun : ℕ → KeptSessionModel
begun d = record { session = first_session d; pairs = []; most = view_slots d }

-- a session of which nothing is left opens again
opened_parts : {config : Configuration} {stack : StackModel} {members : List KeptSessionModel} {slots : SlotsModel}
    (sid : ℕ) → AreServerParts config stack members slots → sid < length members
    → (kept_session_at members sid).pairs ≡ []
    → size_of_buffer (kept_session_at members sid).session ≡ record { w = 0; h = 0 }
    → AreServerParts config stack (set members sid (begun (member config sid).donation)) slots
opened_parts {config} {stack} {members} sid h there bare none =
    let d = (member config sid).donation in
    let own = h.clients sid there in
    let range : (256 ≤ d) × (d ≤ most_units) =
    (All-get_or IsMember config.clients sid no_client (rw h.each at there) h.configured.clients).donation in
    repaid h there (record {
      pairs = sym bare;
      most = sym own.most;
      sum = omega (arith, own.sum);
      paid = record { used = omega arith; bounded = omega arith };
    })
    h.standing (same_sizes h sid (begun d) (sym none))

module _ {config config' : Configuration} {stack : StackModel} {members : List KeptSessionModel} {slots : SlotsModel}
    {sid : ℕ} {s : ServerModel} {m : KeptSessionModel} (focus : FocusModel) (label : List ℕ)
    (h : AreServerParts config stack members slots) (is : server_of config stack members focus.input ≡ s)
    (lt : sid < length s.sessions) (config_ : config' ≡ relabelled sid label config)
    (m_ : m ≡ begun (member config sid).donation) where
  pub seat_holds : IsServerInput config focus → IsTrue (is_label label) → IsFreeLabel s.config sid label
      → (session_in s.sessions sid).handles ≡ []
      → (kept_session_at members sid).session.handles ≡ map (λ p. p.0) (kept_session_at members sid).pairs
      → size_of_buffer (session_in s.sessions sid) ≡ record { w = 0; h = 0 }
      → AreServerParts config' stack (set members sid m) slots × IsServerInput config' focus
  seat_holds attending good free bare paired none =
      let there = has_member h is lt in
      let machine = machine_is h is sid in
      let pairs = none_of (kept_session_at members sid).pairs (sym paired ∙ rw machine at bare) in
      let opened = opened_parts sid h there pairs (rw machine at none) in
      rw (config_, m_) (
        relabelled_parts config sid label opened (rw length-set there) good (rw (← is) at free),
        relabelled_input config sid label attending (rw h.each at there),
      )

  pub seat_leaves : server_of config' stack (set members sid m) focus.input ≡ with_opened sid label s
  seat_leaves = rw (config_, m_, ← is, map-set (λ (m : KeptSessionModel). m.session) members sid _)

-- one client more has another label
pub one_more : (clients : List Member) (sid i : ℕ) (label : List ℕ)
    → ((t : ℕ) → t < i → t ≢ sid → (client_in clients t).label ≢ label)
    → (i ≢ sid → (client_in clients i).label ≢ label)
    → (t : ℕ) → t < i + 1 → t ≢ sid → (client_in clients t).label ≢ label
one_more clients sid i label before here t lt apart = grind (arith, nat_tests, before t, here, apart)
