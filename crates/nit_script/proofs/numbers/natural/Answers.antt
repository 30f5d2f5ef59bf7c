use Rattle.nit_script.proofs.Lemmas.{[], eqb-true, nil_from_length, not_empty, number_found}
use Rattle.nit_script.proofs.Lemmas.{number_read, some_pair_parts, sym, ◌∙◌}
use Rattle.nit_script.proofs.numbers.natural.Goals as goal

pub returns-in_err-found-clause-none : goal.returns-in_err-found-clause-none
returns-in_err-found-clause-none c =
    rw c.from_residual.ensures (λ n lt e. let f = number_read c.args.text.now n lt e in let none =
    c.in_err-found.ensures.read in cc)

pub returns-then-is_empty-clause-found : goal.returns-then-is_empty-clause-found
returns-then-is_empty-clause-found c =
    number_found c.args.text.now c.in_ok-found.found c.in_ok-found.rest.now c.in_ok-found.ensures.read
    (nil_from_length c.in_ok-found.rest.now (eqb-true _ _ (sym c.is_empty.ensures ∙ c.if-is_empty.true)))

pub returns-else-is_empty-clause-none : goal.returns-else-is_empty-clause-none
returns-else-is_empty-clause-none c = λ n lt e. let f =
    number_read c.args.text.now n lt e in not_empty c.in_ok-found.rest.now c.is_empty.result c.is_empty.ensures
    c.if-is_empty.false (some_pair_parts c.in_ok-found.found n c.in_ok-found.rest.now []
    (sym c.in_ok-found.ensures.read ∙ f)).1
