use Rattle.nit_word.proofs.Lemmas.{Sight, ap, colours_in, copied_inked, is_between, set_where}
use Rattle.nit_word.proofs.Lemmas.{sight_set, slice_index, sym, told_at, with_words, ◌∙◌}
use Rattle.nit_word.proofs.inked.Inked.copy.Goals as goal

pub invariant_of-self : goal.invariant_of-self
invariant_of-self c =
    let same = ap (λ (g : Sight). colours_in g.ink) c.other.view_is ∙ ap colours_in c.requires.ink
    ∙ sym (ap (λ (g : Sight). colours_in g.ink) c.self.view_is) in (
      c.self.invariant.0,
      copied_inked _ c.args.from c.args.to _ _ _ (rw same at c.other.invariant.1) c.self.invariant.1 c.copy.ensures,
    )

pub returns : goal.returns
returns c =
    sight_set (is_between c.args.from c.args.to) (slice_index c.other.inside.words) _ _ _ _ _ c.self.view_is
    c.copy.ensures
    ∙ ap (λ (g : Sight). with_words (set_where (is_between c.args.from c.args.to) (told_at g)) c.args.self.now)
    c.other.view_is
