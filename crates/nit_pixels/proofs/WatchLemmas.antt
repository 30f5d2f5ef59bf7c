-- Each step of an agreement keeps the rule of the pixel words.
use Rattle.nit_pixels.proofs.Basics.{AgreesAt, HaveWords, Identity, IsPixelRule, IsViewOf}
use Rattle.nit_pixels.proofs.Basics.{IsWatching, Joins, PixelView, Splits, agreeing, agreeing_as}
use Rattle.nit_pixels.proofs.Basics.{reader_view, told_words, unagreed, watching_view}
use Rattle.nit_pixels.proofs.Views.{before_join, none_agrees, over_join, over_split, over_views}
use Rattle.nit_pixels.proofs.Views.{owner_agreed, owner_agrees, still_agrees, told_is}
use Rattle.nit_pixels.proofs.Views.{watcher_agreed, watcher_agrees}
use Rattle.std.proofs.Common.{IsSome, List, None, Some, length, refl, set, subst, sym, ℕ, ◌∙◌, ◌≡◌}

-- the owner's view and a new reader's agree on stages that have the words
pub begins_keep : (identity : Identity) (id : ℕ) (v : PixelView) (stages : List (List ℕ)) → IsSome v.words
    → v.agreed ≡ None → HaveWords stages (told_words v.words)
    → Splits (IsPixelRule identity) id v (agreeing stages v) (agreeing stages (reader_view v))
begins_keep identity id v stages owns free has s r at =
    let left = agreeing stages v in
    let right = agreeing stages (reader_view v) in
    let to : ℕ = length (set s.views id left) in
    let mine = r.views id v at in
    let t = owner_agreed r.agreed r.watcher id v.words v.agreed owns (r.agree id v at) in
    over_views identity s _ r (Some stages) to (subst (HaveWords stages) (told_is v.words s.words owns mine.2) has)
    (over_split (λ _ x. IsViewOf identity s.words x) s.views id left right mine (mine.0, mine.1, tt)
    (λ j x _. r.views j x))
    (over_split (λ j x. AgreesAt (Some stages) to j x.words x.agreed) s.views id left right
    (owner_agrees (Some stages) to id v.words (Some stages) owns t.0 refl) (refl, refl)
    (λ j x apart there. still_agrees r.agreed (Some stages) r.watcher to j x.words x.agreed
    (λ first _. absurd (apart (first ∙ sym t.0)))
    (λ has _ same. let none = rw (same ∙ sym t.1 ∙ free) at has in cc none)
    (r.agree j x there)))

-- a view of its own agrees with the owner's in place of a reader's
pub lays_down_keep : (identity : Identity) (id : ℕ) (v : PixelView) → IsWatching v
    → Splits (IsPixelRule identity) id v (unagreed v) (watching_view v)
lays_down_keep identity id v watches s r at =
    let left = unagreed v in
    let right = watching_view v in
    let to : ℕ = length (set s.views id left) in
    let mine = r.views id v at in
    let t = watcher_agreed r.agreed r.watcher id v.words v.agreed watches.0 watches.1 (r.agree id v at) in
    over_views identity s _ r r.agreed to r.held
    (over_split (λ _ x. IsViewOf identity s.words x) s.views id left right mine (mine.0, mine.1, tt)
    (λ j x _. r.views j x))
    (over_split (λ j x. AgreesAt r.agreed to j x.words x.agreed) s.views id left right
    (none_agrees r.agreed to id v.words watches.0)
    (watcher_agrees r.agreed to to None v.agreed refl refl t.1)
    (λ j x apart there. still_agrees r.agreed r.agreed r.watcher to j x.words x.agreed
    (λ _ same. same) (λ _ here _. absurd (apart (here ∙ sym t.0))) (r.agree j x there)))

-- the owner's view takes in the one that agrees with it
pub ends_keep : (identity : Identity) (id : ℕ) (v : PixelView) (other : ℕ) (w : PixelView) → IsSome v.words
    → IsWatching w → Joins (IsPixelRule identity) id v other w (unagreed v) (reader_view v)
ends_keep identity id v other w owns watches s r at apart there =
    let both = unagreed v in
    let spent = reader_view v in
    let mine = r.views id v at in
    let was = before_join s.views id other both w apart there in
    let t = owner_agreed r.agreed r.watcher id v.words v.agreed owns (r.agree id v at) in
    let u = watcher_agreed r.agreed r.watcher other w.words w.agreed watches.0 watches.1 (r.agree other w was) in
    over_views identity s _ r None 0 tt
    (over_join (λ _ x. IsViewOf identity s.words x) s.views id other both spent mine (mine.0, mine.1, tt)
    (λ j x _ _. r.views j x))
    (over_join (λ j x. AgreesAt None 0 j x.words x.agreed) s.views id other both spent
    (owner_agrees None 0 id v.words None owns t.0 refl) tt
    (λ j x apart_owner apart_watcher here. still_agrees r.agreed None r.watcher 0 j x.words x.agreed
    (λ first _. absurd (apart_owner (first ∙ sym t.0)))
    (λ _ last _. absurd (apart_watcher (last ∙ sym u.0))) (r.agree j x here)))

-- a reader's view takes in the one that agrees with the owner's, and agrees in its place
pub takes_up_keep : (identity : Identity) (id : ℕ) (v : PixelView) (other : ℕ) (w : PixelView) → v.words ≡ None
    → IsWatching w → Joins (IsPixelRule identity) id v other w (agreeing_as w v) (reader_view v)
takes_up_keep identity id v other w reads watches s r at apart there =
    let both = agreeing_as w v in
    let spent = reader_view v in
    let mine = r.views id v at in
    let was = before_join s.views id other both w apart there in
    let u = watcher_agreed r.agreed r.watcher other w.words w.agreed watches.0 watches.1 (r.agree other w was) in
    over_views identity s _ r r.agreed id r.held
    (over_join (λ _ x. IsViewOf identity s.words x) s.views id other both spent mine (mine.0, mine.1, tt)
    (λ j x _ _. r.views j x))
    (over_join (λ j x. AgreesAt r.agreed id j x.words x.agreed) s.views id other both spent
    (watcher_agrees r.agreed id id v.words w.agreed reads refl u.1) tt
    (λ j x _ apart_watcher here. still_agrees r.agreed r.agreed r.watcher id j x.words x.agreed
    (λ _ same. same) (λ _ last _. absurd (apart_watcher (last ∙ sym u.0))) (r.agree j x here)))
