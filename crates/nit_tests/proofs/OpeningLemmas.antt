-- What a room is opened with, client by client.
use Rattle.std.proofs.Common.{◌≡◌, ◌∙◌, ℕ, zero, suc, ◌<◌, List, [], ◌∷◌, ◌++◌, All, inl, inr}
use Rattle.std.proofs.Common.{length, length-append, map, get_or, Some, refl, sym, ap, subst, arith}
use Rattle.std.specs.Prelude.{option_map, slice_get, slice_index_or}
use Rattle.std.proofs.lemmas.List.{get_or_append_left, get_or_default, get_or_push, length-map}
use Rattle.std.proofs.lemmas.Option.{get_or_from_slice_get, slice_get-get_or, slice_get_cases}
use Rattle.std.proofs.lemmas.Option.{slice_get-map, slice_get_within}
use Rattle.nit_script.specs.declared.line.Line.{Line}
use Rattle.nit_script.specs.declared.line.InputLine.{InputLine}
use Rattle.nit_config.specs.declared.config.Member.{Member}
use Rattle.nit_config.specs.Configuration.{Configuration, donation_of}
use Rattle.nit_journal.specs.Replay.{IsOpen}
use Rattle.nit_plan.specs.Plan.{PlanModel}
use Rattle.nit_pixels.specs.End.{End}
use Rattle.nit_clip.specs.declared.line.ClipLine.{ClipLine}
use Rattle.nit_hall.specs.OpeningParts.{OpeningParts}
use Rattle.nit_hall.specs.Pass.{PassModel, UserPassModel, Belongs, UserBelongs}
use Rattle.nit_hall.specs.ClipPass.{AreDoneClips, ClipBelongs, ClipPassModel, clip_number}
use Rattle.nit_hall.specs.Opening.{IsOpening, buffers_of, first_pass, first_user}
use Rattle.nit_hall.specs.ClipOpening.{AreFirstClipPasses, first_clip_pass, with_clip_scripts}
use Rattle.nit_hall.specs.Room.{RoomModel}
use Rattle.nit_actor.specs.ClipRole.{ClipRole, GoTogether, IsPairIn, PairRole, clip_role_of}
use Rattle.nit_actor.specs.ClipRole.{pair_role_of}
use Rattle.nit_actor.specs.declared.pair.Pair.{Pair}
use Rattle.std.proofs.lemmas.List.Elements.{All-cons}
use Rattle.nit_clip.specs.ClipGrammar.{clip_phases}
use Rattle.nit_script.specs.Phases.{phases}
use Rattle.nit_tests.specs.HallOpening.{IsOpenRoom}
use Rattle.std.specs.List.{AllZip}

-- ---- one by one

-- the donation of a client in a list of a configuration's clients
pub donation_at : (config : Configuration) (clients : List Member) (k : ℕ) (other : Member) → clients ≡ config.clients
    → k < length config.clients → (get_or clients k other).donation ≡ donation_of config k
donation_at config clients k other are inside = ap (λ (ms : List Member). (get_or ms k other).donation) are
    ∙ ap (λ (m : Member). m.donation) (get_or_default config.clients k other _ inside)

-- what holds of all elements by their numbers, and of one more, holds of all of the longer list
pub one_more : {X : Type 0} (P : ℕ → X → Type 0) (xs : List X) (x : X) (k : ℕ) (more : List X) → length xs ≡ k
    → more ≡ xs ++ x ∷ [] → ((n : ℕ) (y : X) → slice_get xs n ≡ Some y → P n y) → P k x
    → (n : ℕ) (y : X) → slice_get more n ≡ Some y → P n y
one_more {X = X} P xs x k more counted are all here n y at =
    let there : get_or (xs ++ x ∷ []) n y ≡ y = ap (λ (ys : List X). get_or ys n y) (sym are)
    ∙ get_or_from_slice_get more n y y at in
    elim (slice_get_cases xs n).1 [
      | inl found ↦ all n y (found.2
          ∙ ap Some (sym found.3 ∙ get_or_default xs n found.0 y found.1
          ∙ sym (get_or_append_left xs (x ∷ []) y n found.1) ∙ there))
      | inr past ↦
          let long = ap (λ (ys : List X). length ys) are ∙ length-append xs (x ∷ []) in
          let within = slice_get_within more n y at in
          let last : length xs ≡ n = omega (arith, past.0, within, long) in
          subst (λ (z : X). P n z) (sym (get_or_push xs x y n last) ∙ there)
          (subst (λ (m : ℕ). P m x) (sym counted ∙ last) here)
    ]

-- what holds of any two elements of one number holds of two lists that are as long
zip_of : {A B : Type 0} (R : A → B → Type 0) (xs : List A) (ys : List B) → length ys ≡ length xs
    → ((k : ℕ) (x : A) (y : B) → slice_get xs k ≡ Some x → slice_get ys k ≡ Some y → R x y) → AllZip R xs ys
zip_of R [] [] long each = tt
zip_of R [] (y ∷ ys) long each = absurd (omega (arith, long))
zip_of R (x ∷ xs) [] long each = absurd (omega (arith, long))
zip_of R (x ∷ xs) (y ∷ ys) long each =
    (each 0 x y refl refl, zip_of R xs ys (omega (arith, long)) (λ k a b at_a at_b. each (suc k) a b at_a at_b))

-- and the other way round, with an element for none
zip_at : {A B : Type 0} (R : A → B → Type 0) (xs : List A) (ys : List B) (k : ℕ) (a : A) (b : B) → AllZip R xs ys
    → k < length xs → R (slice_index_or xs k a) (slice_index_or ys k b)
zip_at R [] [] k a b all inside = absurd (omega (arith, inside))
zip_at R [] (y ∷ ys) k a b all inside = absurd (omega (arith, inside))
zip_at R (x ∷ xs) [] k a b all inside = absurd all
zip_at R (x ∷ xs) (y ∷ ys) zero a b all inside = all.0
zip_at R (x ∷ xs) (y ∷ ys) (suc k) a b all inside = zip_at R xs ys k a b all.1 (omega (arith, inside))

-- ---- the beginning

-- a pass and a clip pass of one number, of which no line is done
first_together : (parts before : OpeningParts) (k : ℕ) (canvas : End) (p : PassModel) (q : ClipPassModel)
    → p ≡ first_pass before k canvas → q ≡ first_clip_pass parts k
    → clip_phases (slice_index_or parts.clips k []) ≡ phases (slice_index_or before.scripts k []) → GoTogether p q
first_together parts before k canvas p q ep eq same = record {
  now = record {
    client = ap (λ (x : PassModel). x.sid) ep ∙ sym (ap (λ (x : ClipPassModel). x.sid) eq);
    phase = ap (λ (x : PassModel). x.phase) ep ∙ sym (ap (λ (x : ClipPassModel). x.phase) eq);
  };
  phases_each = ap (λ (x : ClipPassModel). clip_phases x.script) eq ∙ same
      ∙ sym (ap (λ (x : PassModel). phases x.script) ep);
}

-- a room that got clip scripts, and its passes, before the first line
pub open_room : (config : Configuration) (scripts : List (List Line)) (plans : List PlanModel) (input : List InputLine)
    (canvases : List End) (clips : List (List ClipLine)) (r₀ r : RoomModel) (ps₀ ps : List PassModel)
    (u₀ u : UserPassModel) (qs : List ClipPassModel)
    → length plans ≡ length scripts → IsOpening config scripts plans input canvases r₀ ps₀ u₀
    → r ≡ with_clip_scripts r₀ clips → ps ≡ ps₀ → u ≡ u₀ → length clips ≡ length scripts
    → AllZip (λ (s : List Line) (q : List ClipLine). clip_phases q ≡ phases s) scripts clips
    → AreFirstClipPasses r.parts qs → IsOpenRoom r.parts r ps u qs
open_room config scripts plans input canvases clips r₀ r ps₀ ps u₀ u qs plans_each o er ep eu clips_each in_phases
    first =
    let parts : OpeningParts = record {
      name = r₀.parts.name;
      config = config;
      scripts = scripts;
      plans = plans;
      buffers = buffers_of canvases;
      input = input;
      clips = clips;
    } in
    let are : r.parts ≡ parts = ap (λ (x : RoomModel). x.parts) er
    ∙ ap (λ (x : OpeningParts). record x { clips = clips }) o.room.parts_are in
    let each_long : length qs ≡ length ps = let a = first.each in let b =
    ap (λ (q : OpeningParts). length q.clips) are in let d = o.each in let e =
    ap (λ (xs : List PassModel). length xs) ep in omega (arith, a, b, d, e, clips_each) in
    record {
      parts_are = refl;
      open_now = subst (λ (x : RoomModel). IsOpen x.scene.entries) (sym er) (subst IsOpen (sym o.room.entries) tt);
      belong = λ k d inside.
          let here = o.passes k (slice_index_or ps k d) (ap (λ (xs : List PassModel). slice_get xs k) (sym ep)
          ∙ slice_get-get_or ps k d inside) in
          let each = o.each in
          let long = ap (λ (xs : List PassModel). length xs) ep in
          subst (λ (q : OpeningParts). Belongs q (slice_index_or ps k d)) (sym are)
          (subst (λ (p : PassModel). Belongs parts p)
          (sym (here.2 ∙ ap (λ (q : OpeningParts). first_pass q k here.0) o.room.parts_are))
          (record {
            name = refl;
            script = slice_get-get_or scripts k [] (omega (arith, inside, each, long));
            plan = slice_get-get_or plans k (record { steps = []; ink = [] })
                (omega (arith, inside, each, long, plans_each));
            donation = refl;
            buffer = slice_get-map (λ (e : End). e.stand.buffer) canvases k
                ∙ ap (option_map (λ (e : End). e.stand.buffer)) here.1;
          }));
      user_belongs = subst (λ (q : OpeningParts). UserBelongs q u) (sym are)
          (subst (λ (v : UserPassModel). UserBelongs parts v) (sym (eu ∙ o.user ∙ ap first_user o.room.parts_are))
          (record { number = refl; name = refl; input = refl }));
      clips_belong = λ k d inside.
          let here = first.first k (slice_index_or qs k d) (slice_get-get_or qs k d inside) in
          let each = first.each in
          subst (λ (q : ClipPassModel). ClipBelongs r.parts q) (sym here)
          (record {
            name = refl;
            script = slice_get-get_or r.parts.clips k [] (omega (arith, inside, each));
            number = refl;
          });
      each = each_long;
      together = zip_of GoTogether ps qs each_long (λ k p q at_p at_q.
          let here = o.passes k p (subst (λ (xs : List PassModel). slice_get xs k ≡ Some p) ep at_p) in
          let inside = slice_get_within ps k p at_p in
          let long = ap (λ (xs : List PassModel). length xs) ep in
          let o_each = o.each in
          first_together r.parts r₀.parts k here.0 p q here.2 (first.first k q at_q)
          (ap (λ (x : OpeningParts). clip_phases (slice_index_or x.clips k [])) are
          ∙ zip_at (λ (s : List Line) (c : List ClipLine). clip_phases c ≡ phases s) scripts clips k [] [] in_phases
          (omega (arith, inside, long, o_each))
          ∙ sym (ap (λ (x : OpeningParts). phases (slice_index_or x.scripts k [])) o.room.parts_are)));
      clips_first = first;
    }

-- ---- the end

-- the element that one of the mapped elements is made of
of_mapped : {X Y : Type 0} (f : X → Y) (xs : List X) (k : ℕ) (y : Y) → slice_get (map f xs) k ≡ Some y
    → (x : X) × (slice_get xs k ≡ Some x) × (f x ≡ y)
of_mapped f [] k y e = absurd cc
of_mapped f (x ∷ xs) zero y e = (x, refl, cc)
of_mapped f (x ∷ xs) (suc k) y e = of_mapped f xs k y e

mapped_at : {X Y : Type 0} (f : X → Y) (xs : List X) (k : ℕ) (x : X) → slice_get xs k ≡ Some x
    → slice_get (map f xs) k ≡ Some (f x)
mapped_at f [] k x e = absurd cc
mapped_at f (y ∷ xs) zero x e = cc
mapped_at f (y ∷ xs) (suc k) x e = mapped_at f xs k x e

-- clip passes that were the first ones, and are done
pub clips_done : (parts : OpeningParts) (qs qs' : List ClipPassModel) → AreFirstClipPasses parts qs
    → All (ClipBelongs parts) qs → map clip_role_of qs' ≡ map clip_role_of qs
    → All (λ (q : ClipPassModel). q.next ≡ length q.script) qs' → AreDoneClips parts qs'
clips_done parts qs qs' first belong same ended = record {
  each = sym (length-map qs' clip_role_of) ∙ ap (λ (rs : List ClipRole). length rs) same ∙ length-map qs clip_role_of
      ∙ first.each;
  done_all = λ k q at.
      let there = of_mapped clip_role_of qs k (clip_role_of q)
      (subst (λ (rs : List ClipRole). slice_get rs k ≡ Some (clip_role_of q)) same
      (mapped_at clip_role_of qs' k q at)) in
      let o : ClipPassModel = there.0 in
      let role : clip_role_of o ≡ clip_role_of q = there.2 in
      let was : ClipBelongs parts o =
      subst (λ (x : ClipPassModel). ClipBelongs parts x) (get_or_from_slice_get qs k o o there.1)
      (belong k o (slice_get_within qs k o there.1)) in
      let sid : o.sid ≡ q.sid = ap (λ (x : ClipRole). x.sid) role in
      record {
        belongs = record {
          name = sym (ap (λ (x : ClipRole). x.name) role) ∙ was.name;
          script = subst (λ (x : ClipRole). slice_get parts.clips x.sid ≡ Some x.script) role was.script;
          number = subst (λ (x : ClipRole). x.number ≡ clip_number parts x.sid) role was.number;
        };
        number = sym sid ∙ ap (λ (x : ClipPassModel). x.sid) (first.first k o there.1);
        ended = subst (λ (x : ClipPassModel). x.next ≡ length x.script) (get_or_from_slice_get qs' k q q at)
            (ended k q (slice_get_within qs' k q at));
      };
}

-- ---- one client

pub last_alone : {X : Type 0} (xs ys : List X) (x : X) → ys ≡ xs ++ x ∷ [] → length ys ≡ 1 → ys ≡ x ∷ []
last_alone [] ys x e long = e
last_alone (z ∷ xs) ys x e long =
    absurd (let a = ap length e in let b = length-append xs (x ∷ []) in omega (arith, a, b, long))

-- a pass and a clip pass that are alone
pub one_pair : (parts : OpeningParts) (ps : List PassModel) (qs : List ClipPassModel) (p : PassModel)
    (q : ClipPassModel)
    → ps ≡ p ∷ [] → qs ≡ q ∷ [] → All (Belongs parts) ps → All (ClipBelongs parts) qs → AllZip GoTogether ps qs
    → IsPairIn parts p q
one_pair parts ps qs p q e f belong clip_belong together = record {
  pass = subst (All (Belongs parts)) e belong 0 p (omega arith);
  clip = subst (All (ClipBelongs parts)) f clip_belong 0 q (omega arith);
  together = (subst (λ (xs : List ClipPassModel). AllZip GoTogether (p ∷ []) xs) f
      (subst (λ (xs : List PassModel). AllZip GoTogether xs qs) e together)).0;
}

-- and then so are all pairs of a list that has no other
pub one_of : (parts : OpeningParts) (bs : List Pair) (b : Pair) → bs ≡ b ∷ [] → IsPairIn parts b.pass b.clip
    → All (λ (c : Pair). IsPairIn parts c.pass c.clip) bs
one_of parts bs b e pair =
    subst (λ (cs : List Pair). All (λ (c : Pair). IsPairIn parts c.pass c.clip) cs) (sym e)
    (All-cons (λ (c : Pair). IsPairIn parts c.pass c.clip) b [] pair (λ k d inside. absurd (omega arith)))

abbrev role_of_pair : Pair → PairRole
role_of_pair b = pair_role_of b.pass b.clip

-- the clip pass of a pair that is alone, and has its role and is done
pub one_done : (parts : OpeningParts) (qs : List ClipPassModel) (bs cs : List Pair) (b c : Pair) → qs ≡ b.clip ∷ []
    → bs ≡ b ∷ [] → cs ≡ c ∷ [] → AreFirstClipPasses parts qs → All (ClipBelongs parts) qs
    → map role_of_pair cs ≡ map role_of_pair bs → All (λ (b : Pair). b.clip.next ≡ length b.clip.script) cs
    → AreDoneClips parts (c.clip ∷ [])
one_done parts qs bs cs b c q e f first belong same ended =
    let roles : map role_of_pair (c ∷ []) ≡ map role_of_pair (b ∷ []) =
    sym (ap (λ (xs : List Pair). map role_of_pair xs) f) ∙ same ∙ ap (λ (xs : List Pair). map role_of_pair xs) e in
    let done = subst (λ (xs : List Pair). All (λ (b : Pair). b.clip.next ≡ length b.clip.script) xs) f ended in
    clips_done parts (b.clip ∷ []) (c.clip ∷ []) (subst (AreFirstClipPasses parts) q first)
    (subst (All (ClipBelongs parts)) q belong)
    (ap (λ (rs : List PairRole). map (λ (r : PairRole). r.clip) rs) roles)
    (All-cons (λ (x : ClipPassModel). x.next ≡ length x.script) c.clip [] (done 0 c (omega arith))
    (λ k d inside. absurd (omega arith)))
