use Rattle.nit_setup.proofs.Lemmas.{inl, names_more, one_more_outer_read, short_script}
use Rattle.nit_setup.proofs.Lemmas.{stopped_at_outer}
use Rattle.nit_setup.proofs.outer.load_outer.Goals as goal

pub at-requires : goal.at-requires
at-requires g c =
    short_script _ _ c.requires c.loop-client-test.true c.client-item.is c.as_str-name.ensures

pub at-requires-then-is_err : goal.at-requires-then-is_err
at-requires-then-is_err g c =
    short_script _ _ c.requires c.loop-client-test.true c.client-item.is c.as_str-name.ensures

pub returns-in-Err : goal.returns-in-Err
returns-in-Err g c =
    stopped_at_outer _ _ c.loop-client-test.true c.client-item.is c.as_str-name.ensures c.loop-client.invariant
    c.deref.ensures.value c.at.ensures c.in-Err.ensures.loaded

pub returns-then-is_err : goal.returns-then-is_err
returns-then-is_err g c =
    stopped_at_outer _ _ c.loop-client-test.true c.client-item.is c.as_str-name.ensures c.loop-client.invariant
    c.deref.ensures.value c.at-then-is_err.ensures (inl c.in-Ok.ensures.loaded.0)

pub loop-client-preserved : goal.loop-client-preserved
loop-client-preserved g c =
    let loaded = c.in-Ok.ensures.loaded in
    let names = names_more _ _ c.loop-client-test.true c.client-item.is c.as_str-name.ensures in
    rw (names, c.push_reserved.ensures.items, c.reserve.ensures.items)
    (one_more_outer_read _ _ c.loop-client.invariant c.deref.ensures.value loaded.0 loaded.1
    c.in-Ok.ensures.lines c.in-Ok.ensures.right)
