use Rattle.nit_host.proofs.Lemmas.{arith, copied_on, mul-le}
use Rattle.nit_host.proofs.host.Host.copy.Goals as goal

pub put_part-requires-clause-high : goal.put_part-requires-clause-high
put_part-requires-clause-high c =
    let config = c.args.self.now.state.config in
    let high = rw c.size-width.ensures at (copied_on c.size-width.result.0 c.size-width.result.1 _ c.in-Some.part
    c.in-Some.ensures) in
    let rows = mul-le c.in-Some.part.bottom config.width config.height config.width high (omega arith) in
    rw c.size-width.ensures (omega (arith, rows, c.frame.ensures.pixels))
