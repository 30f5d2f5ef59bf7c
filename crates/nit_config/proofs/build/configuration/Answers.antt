use Rattle.nit_config.proofs.Lemmas.{accepted, arith, codes, has_bad_label, has_bad_value}
use Rattle.nit_config.proofs.Lemmas.{integer_at, members_of_values, on_clients, pos, screen_table}
use Rattle.nit_config.proofs.Lemmas.{table_view, wider, ◌∙◌}
use Rattle.std.proofs.Common.{refl}
use Rattle.nit_config.proofs.build.configuration.Goals as goal

pub required_at-width-requires : goal.required_at-width-requires
required_at-width-requires c =
    rw c.table_at-screen.ensures (wider (integer_at (codes "width") (pos 0) (screen_table (table_view c.args.top.now)))
    1 1024 1 8388608 (accepted _ c.requires.accepted).width (omega arith) (omega arith))

pub required_at-height-requires : goal.required_at-height-requires
required_at-height-requires c =
    rw c.table_at-screen.ensures (wider (integer_at (codes "height") (pos 0) (screen_table (table_view c.args.top.now)))
    1 768 1 8388608 (accepted _ c.requires.accepted).height (omega arith) (omega arith))

pub script_of-requires : goal.script_of-requires
script_of-requires c = rw c.table_at.ensures (accepted _ c.requires.accepted).script

pub members-requires-clause-values : goal.members-requires-clause-values
members-requires-clause-values c = on_clients _ _ c.elements_of.ensures has_bad_value
    ∙ (accepted _ c.requires.accepted).values

pub members-requires-clause-labels : goal.members-requires-clause-labels
members-requires-clause-labels c = on_clients _ _ c.elements_of.ensures has_bad_label
    ∙ (accepted _ c.requires.accepted).labels

pub returns : goal.returns
returns c = record {
  width = rw (← c.table_at-screen.ensures) c.required_at-width.ensures;
  height = rw (← c.table_at-screen.ensures) c.required_at-height.ensures;
  bar = rw (← c.table_at-screen.ensures) c.boolean_at-bar.ensures;
  lettering = refl;
  input = rw (← c.table_at.ensures) c.in_ok-input.ensures;
  clients = rw (members_of_values _ _ c.elements_of.ensures) at c.in_ok-clients.ensures;
}
