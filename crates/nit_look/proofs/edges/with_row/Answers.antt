use Rattle.nit_look.proofs.Lemmas.{first_found, more_found, nothing_more}
use Rattle.nit_look.proofs.edges.with_row.Goals as goal

pub returns-in_default : goal.returns-in_default
returns-in_default c = λ width a b is span. nothing_more width c.args.row a b c.args.found is
    (rw c.in_default.is at span)

pub returns-in_default-found : goal.returns-in_default-found
returns-in_default-found c = λ width a b is span. first_found width c.args.row a b c.in-Some.span
    (rw c.in_default-found.is at is) (rw c.in-Some.is at span)

pub returns : goal.returns
returns c = λ width a b is span. more_found width c.args.row a b c.min.result c.max.result c.in-Some-found.edges
    c.in-Some.span c.min.ensures c.max.ensures (rw c.in-Some-found.is at is) (rw c.in-Some.is at span)
