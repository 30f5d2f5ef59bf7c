use Rattle.std.proofs.Common.{drop, ◌++◌, ◌≡◌}
use Rattle.nit_script.proofs.Lemmas.{KeepsBytes, field_spelling, flat_map}
use Rattle.nit_script.proofs.write.put_fields.Given as goal

abbrev pub invariant-loop-field : goal.invariant-loop-field
invariant-loop-field l =
    (l.out.items ++ flat_map field_spelling (drop l.field-index l.fields)
    ≡ l.fn.out.items ++ flat_map field_spelling l.fields)
    × KeepsBytes l.fn.out.items l.out.items
