use Rattle.std.proofs.Common.{ap, sym, ◌*◌, ◌∙◌}
use Rattle.nit_desktop.proofs.Lemmas.{State, closes, closes_clean, closes_unseen}
use Rattle.nit_desktop.proofs.desktop.opening.close.Goals as goal

pub returns-clause-state : goal.returns-clause-state
returns-clause-state g c = c.call.ensures.served.state
    ∙ closes c.args.desktop.now.state c.args.sid _ c.call.result c.requires.first c.requires.bare c.requires.idle
    c.call.ensures.reply

pub returns-clause-raw : goal.returns-clause-raw
returns-clause-raw g c =
    let area = ap (λ (t : State). t.config.width * t.config.height) (returns-clause-state g c) in
    closes_clean c.args.desktop.now.state c.args.sid _ c.call.result c.requires.first c.requires.bare c.requires.idle
    c.call.ensures.reply c.call.new.self.state c.call.ensures.painted (c.facts-2.ensures.pixels ∙ area ∙ sym c.facts.ensures.pixels)

pub returns-clause-sights : goal.returns-clause-sights
returns-clause-sights g c = closes_unseen c.args.desktop.now.state c.args.sid _ c.call.result c.requires.first
    c.requires.bare c.requires.idle c.call.ensures.reply c.call.new.self.state c.call.ensures.painted
