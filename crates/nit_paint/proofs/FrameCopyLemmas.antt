-- Words of a frame that are set, one set of pixels after the other.
use Rattle.nit_paint.proofs.Basics.{AreSet, arith, slice_index}
use Rattle.std.proofs.Common.{Bool, List, ap, cond, false, refl, sym, ℕ, ◌<◌, ◌||◌, ◌∙◌, ◌≡◌}

-- none is chosen
pub nothing_set : (chosen : ℕ → Bool) (n : ℕ) (word : ℕ → ℕ) (frame : List ℕ) → ((k : ℕ) → k < n → chosen k ≡ false)
    → AreSet chosen n word frame frame
nothing_set chosen n word frame none =
    record { words = λ k l. ap (λ (b : Bool). cond b (word k) (slice_index frame k)) (sym (none k l)); count = refl }

-- the same choice in other words
pub set_same : (chosen other : ℕ → Bool) (n : ℕ) (word : ℕ → ℕ) (old new : List ℕ)
    → ((k : ℕ) → k < n → chosen k ≡ other k) → AreSet chosen n word old new → AreSet other n word old new
set_same chosen other n word old new same is = record {
  words = λ k l. is.words k l ∙ ap (λ (b : Bool). cond b (word k) (slice_index old k)) (same k l);
  count = is.count;
}

-- two choices, one after the other, where the words of the second one alone changed between them
pub set_then : (first last chosen : ℕ → Bool) (n : ℕ) (word word' : ℕ → ℕ) (old mid new : List ℕ)
    → ((k : ℕ) → (first k || last k) ≡ chosen k) → ((k : ℕ) → last k ≡ false → word' k ≡ word k)
    → AreSet first n word old mid → AreSet last n word' mid new → AreSet chosen n word' old new
set_then first last chosen n word word' old mid new both still one two = record {
  words = λ k l. grind (arith, two.words k l, one.words k l, still k, both k);
  count = two.count ∙ one.count;
}
