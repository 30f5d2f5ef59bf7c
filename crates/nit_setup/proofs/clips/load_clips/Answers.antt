use Rattle.nit_setup.proofs.Lemmas.{inl, names_more, one_more_clip_read, short_script}
use Rattle.nit_setup.proofs.Lemmas.{stopped_at_clip}
use Rattle.nit_setup.proofs.clips.load_clips.Goals as goal

pub at_clips_of-requires : goal.at_clips_of-requires
at_clips_of-requires g c =
    short_script _ _ c.requires c.loop-client-test.true c.client-item.is c.as_str-script.ensures

pub at_clips_of-requires-then-is_err : goal.at_clips_of-requires-then-is_err
at_clips_of-requires-then-is_err g c =
    short_script _ _ c.requires c.loop-client-test.true c.client-item.is c.as_str-script.ensures

pub returns-in-Err : goal.returns-in-Err
returns-in-Err g c =
    stopped_at_clip _ _ c.loop-client-test.true c.client-item.is c.as_str-script.ensures c.loop-client.invariant
    c.at_clips_of.ensures c.in-Err.ensures.loaded

pub returns-then-is_err : goal.returns-then-is_err
returns-then-is_err g c =
    stopped_at_clip _ _ c.loop-client-test.true c.client-item.is c.as_str-script.ensures c.loop-client.invariant
    c.at_clips_of-then-is_err.ensures (inl c.in-Ok.ensures.loaded.0)

pub loop-client-preserved : goal.loop-client-preserved
loop-client-preserved g c =
    let loaded = c.in-Ok.ensures.loaded in
    let names = names_more _ _ c.loop-client-test.true c.client-item.is c.as_str-script.ensures in
    rw (names, c.push_reserved.ensures.items, c.reserve.ensures.items)
    (one_more_clip_read _ _ c.loop-client.invariant loaded.0 loaded.1 c.in-Ok.ensures.right)
