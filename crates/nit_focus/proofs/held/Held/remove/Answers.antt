use Rattle.nit_focus.proofs.Lemmas.{filter-from_retain, held_less}
use Rattle.std.proofs.Common.{filter, not, rules, ◌==◌, ◌≡◌}
use Rattle.nit_focus.proofs.held.Held.remove.Goals as goal

pub invariant_of-self : goal.invariant_of-self
invariant_of-self c =
    let kept : c.retain.new.self.items ≡ filter (λ j. not (j == c.args.code)) c.self.inside.codes.items
    = filter-from_retain _ _ _ (λ x b f' y called. search rules) _ _ c.retain.ensures.filtered in
    rw kept (held_less (λ j. not (j == c.args.code)) c.self.inside.codes.items c.self.invariant)

pub returns : goal.returns
returns c =
    let kept : c.retain.new.self.items ≡ filter (λ j. not (j == c.args.code)) c.self.inside.codes.items
    = filter-from_retain _ _ _ (λ x b f' y called. search rules) _ _ c.retain.ensures.filtered in
    rw (← c.self.view_is) kept
