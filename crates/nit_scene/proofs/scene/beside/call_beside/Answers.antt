use Rattle.nit_scene.proofs.Lemmas.{raws_painted}
use Rattle.nit_events.specs.declared.entry.Entry.TheVariants as entry
use Rattle.nit_scene.proofs.scene.beside.call_beside.Goals as goal

pub show-requires : goal.show-requires
show-requires g c =
    let e = entry.Call c.args.sid c.args.call.now c.call-reply.result in
    record {
      raw = raws_painted c.args.screen.now.serving c.call-reply.new.self.serving 0 e _ _ _ _
          c.raw_stays_raw.ensures c.call-reply.ensures.state (c.requires.session, c.call-reply.ensures.reply)
          c.call-reply.ensures.painted c.requires.raw;
    }
