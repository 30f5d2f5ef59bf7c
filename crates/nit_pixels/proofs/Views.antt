-- What holds of all views after a step of one seat, and what a view agrees on.
use Rattle.nit_pixels.proofs.Basics.{AgreesAt, AllByRecursion, Allows, FitsLine, HaveWords}
use Rattle.nit_pixels.proofs.Basics.{Identity, IfSome, IfSome_then, IsAmong, IsInked, IsOwners}
use Rattle.nit_pixels.proofs.Basics.{IsPixelRule, IsSome, IsViewOf, IsZeroBehind, List, LoadStep}
use Rattle.nit_pixels.proofs.Basics.{None, Option, PixelSeat, PixelState, PixelView, SeatState}
use Rattle.nit_pixels.proofs.Basics.{Splits, Stages, StoreStep, at_set, get_or, inl, inr, keeps}
use Rattle.nit_pixels.proofs.Basics.{length-zeros, new_sight, opening, option_map, owner_view}
use Rattle.nit_pixels.proofs.Basics.{owners_script, reader_view, sight_of, stage_fits, stages_of}
use Rattle.nit_pixels.proofs.Basics.{step, table_size, told_words, view_loaded, view_stored}
use Rattle.nit_pixels.proofs.Basics.{zero_at, zero_inked, zeros}
use Rattle.std.proofs.Common.{Some, ap, length, [], refl, set, slice_index, subst, suc, sym, zero}
use Rattle.std.proofs.Common.{ℕ, ◌++◌, ◌<◌, ◌∙◌, ◌∷◌, ◌≡◌, ◌≢◌, ◌⊎◌}
use mathlib.Core.Option.{none, some, some-injective, some-ne-none}
use lib.ListN.{get_elem?}
use lib.Seq.{set-get_or}

-- what holds of the new view, and of each other one, holds of all
pub over_set : (K : ℕ → PixelView → Type 0) (views : List PixelView) (id : ℕ) (w : PixelView) → K id w
    → ((j : ℕ) (v : PixelView) → j ≢ id → get_elem? views j ≡ some v → K j v)
    → (j : ℕ) (v : PixelView) → get_elem? (set views id w) j ≡ some v → K j v
over_set K views id w mine others j v e =
    elim (at_set views id j w v e) [ inl t ↦ rw (t.0, ← t.1) mine | inr t ↦ others j v t.0 t.1 ]

at_end : (l : List PixelView) (a b : PixelView) (j : ℕ) → get_elem? (l ++ a ∷ []) j ≡ some b
    → (get_elem? l j ≡ some b) ⊎ ((j ≡ length l) × (a ≡ b))
at_end [] a b zero e = inr (refl, some-injective a b e)
at_end [] a b (suc j) e = absurd (some-ne-none b (sym e))
at_end (x ∷ xs) a b zero e = inl e
at_end (x ∷ xs) a b (suc j) e = elim (at_end xs a b j e) [ inl p ↦ inl p | inr q ↦ inr (ap suc q.0, q.1) ]

-- the same where one view becomes two, the second of which stands after all others
pub over_split : (K : ℕ → PixelView → Type 0) (views : List PixelView) (id : ℕ) (left right : PixelView) → K id left
    → K (length (set views id left)) right
    → ((j : ℕ) (v : PixelView) → j ≢ id → get_elem? views j ≡ some v → K j v)
    → (j : ℕ) (v : PixelView) → get_elem? (set views id left ++ right ∷ []) j ≡ some v → K j v
over_split K views id left right mine last others j v e =
    elim (at_end (set views id left) right v j e) [
      | inl t ↦ over_set K views id left mine others j v t
      | inr t ↦ rw (t.0, ← t.1) last
    ]

-- the same where one view takes in another, of which something is left
pub over_join : (K : ℕ → PixelView → Type 0) (views : List PixelView) (id other : ℕ) (both spent : PixelView)
    → K id both → K other spent
    → ((j : ℕ) (v : PixelView) → j ≢ id → j ≢ other → get_elem? views j ≡ some v → K j v)
    → (j : ℕ) (v : PixelView) → get_elem? (set (set views id both) other spent) j ≡ some v → K j v
over_join K views id other both spent mine theirs others =
    over_set K (set views id both) other spent theirs (λ j v apart at.
    over_set (λ m u. m ≢ other → K m u) views id both (λ _. mine) (λ m u near is far. others m u near far is)
    j v at apart)

-- the view that is taken in stood there before
pub before_join : (views : List PixelView) (id other : ℕ) (both w : PixelView) → other ≢ id
    → get_elem? (set views id both) other ≡ some w → get_elem? views other ≡ some w
before_join views id other both w apart e =
    elim (at_set views id other both w e) [ inl t ↦ absurd (apart t.0) | inr t ↦ t.1 ]

-- a view that tells words is the first, and agrees on what there is agreed on
pub owner_agreed : (agreed : Option (List (List ℕ))) (watcher j : ℕ) (words : Option (List ℕ))
    (own : Option (List (List ℕ))) → IsSome words → AgreesAt agreed watcher j words own → (j ≡ 0) × (own ≡ agreed)
owner_agreed agreed watcher j None own has h = cc has
owner_agreed agreed watcher j (Some ws) own has h = h

pub owner_agrees : (agreed : Option (List (List ℕ))) (watcher j : ℕ) (words : Option (List ℕ))
    (own : Option (List (List ℕ))) → IsSome words → j ≡ 0 → own ≡ agreed → AgreesAt agreed watcher j words own
owner_agrees agreed watcher j None own has here same = cc has
owner_agrees agreed watcher j (Some ws) own has here same = (here, same)

-- another view that agrees on stages is the watcher's
pub watcher_agreed : (agreed : Option (List (List ℕ))) (watcher j : ℕ) (words : Option (List ℕ))
    (own : Option (List (List ℕ))) → words ≡ None → IsSome own → AgreesAt agreed watcher j words own
    → (j ≡ watcher) × (own ≡ agreed)
watcher_agreed agreed watcher j (Some ws) own lacks has h = cc lacks
watcher_agreed agreed watcher j None None lacks has h = cc has
watcher_agreed agreed watcher j None (Some stages) lacks has h = h

pub watcher_agrees : (agreed : Option (List (List ℕ))) (watcher j : ℕ) (words : Option (List ℕ))
    (own : Option (List (List ℕ))) → words ≡ None → j ≡ watcher → own ≡ agreed
    → AgreesAt agreed watcher j words own
watcher_agrees agreed watcher j (Some ws) own lacks here same = cc lacks
watcher_agrees agreed watcher j None None lacks here same = tt
watcher_agrees agreed watcher j None (Some stages) lacks here same = (here, same)

-- a view that tells no words may agree on none
pub none_agrees : (agreed : Option (List (List ℕ))) (watcher j : ℕ) (words : Option (List ℕ)) → words ≡ None
    → AgreesAt agreed watcher j words None
none_agrees agreed watcher j (Some ws) lacks = cc lacks
none_agrees agreed watcher j None lacks = tt

-- a view agrees on what it did, where there is other agreed on or another watcher
pub still_agrees : (agreed now : Option (List (List ℕ))) (watcher next j : ℕ) (words : Option (List ℕ))
    (own : Option (List (List ℕ))) → (j ≡ 0 → own ≡ agreed → own ≡ now)
    → (IsSome own → j ≡ watcher → own ≡ agreed → (j ≡ next) × (own ≡ now))
    → AgreesAt agreed watcher j words own → AgreesAt now next j words own
still_agrees agreed now watcher next j (Some ws) own owner other h = (h.0, owner h.0 h.1)
still_agrees agreed now watcher next j None (Some stages) owner other h = other refl h.0 h.1
still_agrees agreed now watcher next j None None owner other h = tt

-- what holds of the stages that there are agreed on holds of those that a view agrees on
pub agreed_has : (P : List (List ℕ) → Type 0) (agreed : Option (List (List ℕ))) (watcher j : ℕ)
    (words : Option (List ℕ)) (own : Option (List (List ℕ))) → IfSome agreed P
    → AgreesAt agreed watcher j words own → IfSome own P
agreed_has P agreed watcher j (Some ws) own all h = rw h.1 all
agreed_has P agreed watcher j None (Some stages) all h = rw (← h.1) at all
agreed_has P agreed watcher j None None all h = tt

-- told words are the words of the table
pub told_is : (o : Option (List ℕ)) (words : List ℕ) → IsSome o → IfSome o (λ told. told ≡ words)
    → told_words o ≡ words
told_is None words has e = cc has
told_is (Some told) words has e = e

only : (a v : PixelView) (j : ℕ) → get_elem? (a ∷ []) j ≡ some v → (j ≡ 0) × (a ≡ v)
only a v zero e = (refl, some-injective a v e)
only a v (suc j) e = absurd (some-ne-none v (sym e))

-- the rule where the words stay, and the views and what there is agreed on are these
pub over_views : (identity : Identity) (s : PixelState) (views : List PixelView) → IsPixelRule identity s
    → (agreed : Option (List (List ℕ))) (watcher : ℕ) → IfSome agreed (λ stages. HaveWords stages s.words)
    → ((j : ℕ) (v : PixelView) → get_elem? views j ≡ some v → IsViewOf identity s.words v)
    → ((j : ℕ) (v : PixelView) → get_elem? views j ≡ some v → AgreesAt agreed watcher j v.words v.agreed)
    → IsPixelRule identity (record s { views = views })
over_views identity s views r now to has all agree =
    record { agreed = now; watcher = to; fits = r.fits; inked = r.inked; held = has; views = all; agree = agree }

-- making the table
pub opens : (identity : Identity) → AllByRecursion FitsLine (owners_script identity)
    → IsPixelRule identity (opening (zeros (table_size identity.donation)) [] (owner_view identity))
opens identity fits = record {
  agreed = None;
  watcher = 0;
  fits = fits;
  inked = λ i. zero_inked (Stages (stages_of identity)) i (table_size identity.donation) i;
  held = tt;
  views = λ j v at. rw (← (only (owner_view identity) v j at).1) (refl, refl, refl);
  agree = λ j v at. let t = only (owner_view identity) v j at in rw (← t.1) (t.0, refl);
}

-- a load by any end
pub loads_keep : (identity : Identity) (slots id : ℕ) (me : SeatState) (i : ℕ)
    → Allows (IsPixelRule identity) slots id me i (λ n. n) (LoadStep (step slots i 0 0 none) me)
loads_keep identity slots id me i s r _ at _ =
    let n : ℕ = slice_index s.words i in
    let w : PixelView = view_loaded me.0 i n in
    let mine = r.views id me.0 at in
    let agrees = r.agree id me.0 at in
    let inked = r.inked i in
    let told : IfSome me.0.words (λ ws. n ≡ slice_index ws i) =
    IfSome_then me.0.words mine.2 (λ ws same. rw same refl) in (
      w,
      keeps,
      tt,
      subst (λ (ws : List ℕ). IsPixelRule identity record { words = ws; homes = s.homes; views = set s.views id w })
          (sym (set-get_or s.words i 0)) (over_views identity s _ r r.agreed r.watcher r.held
          (over_set (λ _ x. IsViewOf identity s.words x) s.views id w mine (λ j v _. r.views j v))
          (over_set (λ j x. AgreesAt r.agreed r.watcher j x.words x.agreed) s.views id w agrees
          (λ j v _. r.agree j v))),
      (
        refl,
        stage_fits (owners_script identity) identity.donation i n r.fits inked,
        rw mine.1 inked,
        agreed_has (λ stages. IsAmong stages i n) r.agreed r.watcher id me.0.words me.0.agreed
            (IfSome_then r.agreed r.held (λ stages held. held i)) agrees,
        told,
      ),
    )

set_all : (P : ℕ → ℕ → Type 0) (ws : List ℕ) (i new : ℕ) → P i new → ((j : ℕ) → P j (get_or ws j 0)) → (j : ℕ)
    → P j (get_or (set ws i new) j 0)
set_all P [] i new p all j = all j
set_all P (x ∷ ws) zero new p all zero = p
set_all P (x ∷ ws) zero new p all (suc j) = all (suc j)
set_all P (x ∷ ws) (suc i) new p all zero = all zero
set_all P (x ∷ ws) (suc i) new p all (suc j) = set_all (λ k. P (suc k)) ws i new p (λ k. all (suc k)) j

-- stages that have the words have them after a store of what they have at its place
held_set : (o : Option (List (List ℕ))) (words : List ℕ) (i new : ℕ) → IfSome o (λ stages. IsAmong stages i new)
    → IfSome o (λ stages. HaveWords stages words) → IfSome o (λ stages. HaveWords stages (set words i new))
held_set None words i new among held = tt
held_set (Some stages) words i new among held = set_all (IsAmong stages) words i new among held

-- a store by the owner's end
pub stores_keep : (identity : Identity) (slots id : ℕ) (me : SeatState) (i new : ℕ) → IsSome me.0.words
    → IsInked (Stages me.0.stages) i new → IfSome me.0.agreed (λ stages. IsAmong stages i new)
    → Allows (IsPixelRule identity) slots id me i (λ _. new) (λ _. StoreStep (step slots i new 0 none) me new)
stores_keep identity slots id me i new owns inked among s r _ at _ =
    let w : PixelView = view_stored me.0 i new in
    let mine = r.views id me.0 at in
    let t = owner_agreed r.agreed r.watcher id me.0.words me.0.agreed owns (r.agree id me.0 at) in
    let words : List ℕ = set s.words i new in (
      w,
      keeps,
      tt,
      record {
        agreed = r.agreed;
        watcher = r.watcher;
        fits = r.fits;
        inked = set_all (IsInked (Stages (stages_of identity))) s.words i new (rw mine.1 at inked) r.inked;
        held = held_set r.agreed s.words i new (rw t.1 at among) r.held;
        views = over_set (λ _ x. IsViewOf identity words x) s.views id w
            (mine.0, mine.1, written me.0.words s.words i new mine.2)
            (λ j v apart there. let u = r.views j v there in (
              u.0,
              u.1,
              unread v.words s.words words (λ told.
                  apart ((owner_agreed r.agreed r.watcher j v.words v.agreed told (r.agree j v there)).0 ∙ sym t.0)),
            ));
        agree = over_set (λ j x. AgreesAt r.agreed r.watcher j x.words x.agreed) s.views id w
            (owner_agrees r.agreed r.watcher id w.words me.0.agreed (mapped me.0.words i new owns) t.0 t.1)
            (λ j v _. r.agree j v);
      },
      refl,
    )
  where
    written : (o : Option (List ℕ)) (words : List ℕ) (i new : ℕ) → IfSome o (λ ws. ws ≡ words)
        → IfSome (option_map (λ ws. set ws i new) o) (λ ws. ws ≡ set words i new)
    written None words i new e = tt
    written (Some ws) words i new e = ap (λ (z : List ℕ). set z i new) e

    unread : (o : Option (List ℕ)) (words words' : List ℕ) → ¬ IsSome o → IfSome o (λ ws. ws ≡ words')
    unread None words words' blank = tt
    unread (Some ws) words words' blank = absurd (blank refl)

    mapped : (o : Option (List ℕ)) (i new : ℕ) → IsSome o → IsSome (option_map (λ ws. set ws i new) o)
    mapped None i new e = cc e
    mapped (Some ws) i new e = refl

-- splitting a reader off
pub splits_keep : (identity : Identity) (id : ℕ) (v : PixelView) → Splits (IsPixelRule identity) id v v (reader_view v)
splits_keep identity id v s r at =
    let mine = r.views id v at in
    over_views identity s _ r r.agreed r.watcher r.held
    (over_split (λ _ x. IsViewOf identity s.words x) s.views id v (reader_view v) mine (mine.0, mine.1, tt)
    (λ j x _. r.views j x))
    (over_split (λ j x. AgreesAt r.agreed r.watcher j x.words x.agreed) s.views id v (reader_view v) (r.agree id v at)
    tt (λ j x _. r.agree j x))

-- an owner's view tells words
pub tells_words : (o : Option (List ℕ)) (n : ℕ) → option_map (λ ws. length ws) o ≡ Some n → IsSome o
tells_words None n e = cc e
tells_words (Some ws) n e = refl

pub first_sight : (identity : Identity) (s : PixelSeat) → s.table_id.words ≡ table_size identity.donation
    → s.me ≡ (owner_view identity, [])
    → sight_of s ≡ new_sight identity.owner (owners_script identity) identity.donation
first_sight identity s size me = λ i. record {
  owner = (me i).0.owner;
  size = size i;
  ink = Stages (me i).0.stages;
  stages = (me i).0.agreed;
  words = (me i).0.words;
  log = Some (me i).0.log;
}

pub first_owns : (identity : Identity) (s : PixelSeat) → s.table_id.words ≡ table_size identity.donation
    → s.me ≡ (owner_view identity, []) → 0 < table_size identity.donation → IsOwners s
first_owns identity s size me room = (
  rw size room,
  ap (λ m. option_map (λ words. length words) m.0.words) me
      ∙ ap (λ (n : ℕ). Some n) (length-zeros (table_size identity.donation) ∙ sym size),
  ap (λ m. m.1) me,
)

pub first_zero : (identity : Identity) (s : PixelSeat) → s.me ≡ (owner_view identity, []) → IsZeroBehind 0 s
first_zero identity s me = rw me (λ i _. zero_at (table_size identity.donation) i)
