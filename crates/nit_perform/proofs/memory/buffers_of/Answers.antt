use Rattle.std.proofs.Common.{[], ◌∙◌, ◌≡◌}
use Rattle.nit_perform.proofs.Lemmas.{Configuration, End, all_push, ap, at_member, donation_of}
use Rattle.nit_perform.proofs.Lemmas.{get_or_default, length_push, map_push, new_sight, script_in}
use Rattle.nit_perform.proofs.memory.buffers_of.Goals as goal

pub loop-sid-preserved : goal.loop-sid-preserved
loop-sid-preserved c =
    let config = c.args.config.now in
    let scripts = c.args.scripts.now in
    let k = c.loop-sid.sid in
    let before = c.loop-sid.invariant in
    let keys = c.loop-sid.keys.items in
    let key = c.in_ok-buffer.key in
    let more = c.in_ok-push-2.ensures.items in
    let client = at_member config k c.index-clients-sid.result (c.as_slice-clients.ensures.value
    ∙ ap (λ (k : Configuration). k.clients) c.config.view_is) (rw (← c.requires.each) c.loop-sid-test.true) in
    let script = c.index-scripts-sid.is
    ∙ get_or_default scripts k c.index-scripts-sid.result [] c.loop-sid-test.true in
    record {
      keys_are = rw (more, length_push keys key, before.keys_are);
      own = rw (more, map_push, before.own, c.in_ok-buffer.ensures.key, c.in_ok-push.ensures.items);
      blank = rw more (all_push (λ n (e : End). e.sight ≡ new_sight n (script_in scripts n) (donation_of config n)) keys
          key before.blank (rw (before.keys_are, c.in_ok-buffer.ensures.sight, script, client)));
    }
