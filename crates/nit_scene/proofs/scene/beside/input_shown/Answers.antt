use Rattle.nit_scene.proofs.Lemmas.{raws_painted}
use Rattle.nit_events.specs.declared.entry.Entry.TheVariants as entry
use Rattle.nit_scene.proofs.scene.beside.input_shown.Goals as goal

pub show-requires : goal.show-requires
show-requires g c =
    let e = entry.Input c.args.dev c.input-routed.result in
    record {
      raw = raws_painted c.args.screen.now.serving c.input-routed.new.self.serving 0 e _ _ _ _
          c.raw_stays_raw.ensures c.input-routed.ensures.state c.input-routed.ensures.routed
          c.input-routed.ensures.painted c.requires.raw;
    }
