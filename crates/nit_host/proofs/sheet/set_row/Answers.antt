use Rattle.nit_host.proofs.Lemmas.{arith, low_bytes, nat_tests, next_between, none_between}
use Rattle.nit_host.proofs.sheet.set_row.Goals as goal

pub places-init : goal.places-init
places-init c = none_between c.args.from (low_bytes c.args.others.now) c.args.words.now

pub places-preserved : goal.places-preserved
places-preserved c = grind (arith, nat_tests, next_between)
