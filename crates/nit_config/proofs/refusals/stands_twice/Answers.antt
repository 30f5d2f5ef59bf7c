use Rattle.std.proofs.Common.{List, sym, ℕ, ◌∙◌}
use Rattle.nit_config.proofs.Lemmas.{Value, label_of_table, members_of, twice_compared, view}
use Rattle.nit_config.proofs.refusals.stands_twice.Goals as goal

-- the label of a client's value
abbrev label : Value → List ℕ
label v = label_of_table (members_of (view v))

pub returns-then-some_has_label_of : goal.returns-then-some_has_label_of
returns-then-some_has_label_of c =
    sym (c.clients.invariant ∙ (rw c.if-some_has_label_of.true at (twice_compared label _ _ _ _
    c.clients-test.true c.index-clients-i.is c.some_has_label_of.ensures)))

pub clients-preserved : goal.clients-preserved
clients-preserved c =
    c.clients.invariant ∙ (rw c.if-some_has_label_of.false at (twice_compared label _ _ _ _
    c.clients-test.true c.index-clients-i.is c.some_has_label_of.ensures))
