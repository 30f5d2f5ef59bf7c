use Rattle.nit_setup.proofs.Lemmas.{Configuration, IfSome_then, None, Some, ap, eq-eqb}
use Rattle.nit_setup.proofs.Lemmas.{first_of_all, input_phases, ne_eqb, none_there, sym, ◌∙◌}
use Rattle.nit_setup.proofs.misfit.first_other.Goals as goal

pub returns-then-is_some-clause-some : goal.returns-then-is_some-clause-some
returns-then-is_some-clause-some c =
    IfSome_then c.first_other_client-other.result c.first_other_client-other.ensures.some
    (λ name found. first_of_all c.args.wanted c.args.config.now c.args.scripts.now.clients.items _ (Some name.now)
    c.requires (rw (← c.config.view_is, ← c.deref.ensures.value, ← c.deref-2.ensures.value) found))

-- none of the clients' scripts has another number
pub returns-then-phases-wanted-clause-none : goal.returns-then-phases-wanted-clause-none
returns-then-phases-wanted-clause-none c =
    let none = none_there _ c.first_other_client-other.result (sym c.is_some.ensures ∙ c.if-is_some.false)
    c.first_other_client-other.ensures.none in
    let count = input_phases c.args.scripts.now.input in
    let same = eq-eqb count c.args.wanted (rw (← c.lines.ensures.value, ← c.phases.ensures) c.if-phases-wanted.true) in
    rw same at (first_of_all c.args.wanted c.args.config.now c.args.scripts.now.clients.items count None c.requires
    (rw (← c.config.view_is, ← c.deref.ensures.value, ← c.deref-2.ensures.value) none))

pub returns-else-phases-wanted-clause-some : goal.returns-else-phases-wanted-clause-some
returns-else-phases-wanted-clause-some c =
    let none = none_there _ c.first_other_client-other.result (sym c.is_some.ensures ∙ c.if-is_some.false)
    c.first_other_client-other.ensures.none in
    let other = ne_eqb (input_phases c.args.scripts.now.input) c.args.wanted
    (λ same. c.if-phases-wanted.false (c.phases.ensures ∙ ap input_phases c.lines.ensures.value ∙ same)) in
    rw other at (first_of_all c.args.wanted c.args.config.now c.args.scripts.now.clients.items
    (input_phases c.args.scripts.now.input) None c.requires
    (rw (← c.config.view_is, ← c.deref.ensures.value, ← c.deref-2.ensures.value) none))
    ∙ ap Some (sym (c.as_str.ensures ∙ ap (λ (k : Configuration). k.input) c.config.view_is))
