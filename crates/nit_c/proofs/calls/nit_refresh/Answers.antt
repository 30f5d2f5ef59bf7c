use Rattle.std.proofs.Common.{nat_eq, of_z, rules, to_z, true, w32, ◌≡◌}
use Rattle.nit_c.proofs.Lemmas.{live_mark, refreshed_by, to_z-of_z}
use Rattle.nit_c.proofs.calls.nit_refresh.Goals as goal

pub returns : goal.returns
returns c =
    let live : nat_eq c.args.server.now.mark live_mark ≡ true = search rules in
    let before : c.args.server.now.value ≡ c.as_mut.result.now = search rules in
    let after : c.of.result.value ≡ c.refresh-reply.new.host = search rules in
    refreshed_by c.args.server.now c.of.result c.as_mut.result.now c.refresh-reply.new.host
    c.args.client c.client_of.result c.args.x c.args.y (to_z w32 (of_z w32 c.args.x)) (to_z w32 (of_z w32 c.args.y)) c.args.w c.args.h
    c.args.words.now c.refresh-reply.result
    live c.of.ensures.live before after c.client_of.ensures (to_z-of_z _ _ c.ranges.x) (to_z-of_z _ _ c.ranges.y) c.refresh-reply.ensures
