use Rattle.nit_host.proofs.Lemmas.{Configuration, HasRoom, all_blank, all_sheets, ap, arith}
use Rattle.nit_host.proofs.Lemmas.{nat_tests, one_sheet, sized_at, ◌∙◌}
use Rattle.nit_host.proofs.host.opening.sheets.Goals as goal

pub seats-preserved : goal.seats-preserved
seats-preserved c =
    let sized = sized_at c.args.config.now _ c.table_size-size.ensures.size
    (c.as_slice-clients.ensures.value ∙ ap (λ (k : Configuration). k.clients) c.config.view_is) c.seats-test.true in
    rw c.in_ok-push.ensures.items
    (one_sheet (HasRoom c.args.config.now) c.seats.seat c.seats.sheets.items c.in_ok-new.field-0 c.seats.invariant
    (rw (← sized) (c.in_ok-new.ensures.sight, c.in_ok-new.ensures.room)))

pub returns : goal.returns
returns c = grind (arith, nat_tests, all_blank, all_sheets)
