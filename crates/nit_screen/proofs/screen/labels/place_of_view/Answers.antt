use Rattle.std.proofs.Common.{[], ◌≡◌}
use Rattle.nit_screen.proofs.Lemmas.{IsSlotView, SlotView, ap, arith, get_or_read, holds_at, length}
use Rattle.nit_screen.proofs.Lemmas.{sym, ◌∙◌}
use Rattle.nit_screen.proofs.screen.labels.place_of_view.Goals as goal

pub returns : goal.returns
returns c =
    λ s at.
    let S = c.args.stack.now in
    let labels = c.args.labels.now in
    let e = c.view-view.ensures in
    let a : SlotView = record { slot = c.at-v.result.0; view = c.view-view.result } in
    let seat = e.place c.args.i c.at-v.ensures.place in
    let session = (holds_at (IsSlotView S.most (length S.sizes)) S.views c.args.i a e.standing.seats seat).session in
    let label = get_or_read labels c.view-view.result.sid c.index-labels-view.result (omega arith)
    c.index-labels-view.is [] in
    let one : a ≡ s = cc (sym seat ∙ at) in
    let many = ap length c.as_bytes.ensures.bytes in
    let text = c.label_text-text.ensures in
    rw (← one, c.place_label.ensures.place a e.value, c.text_size-width.ensures.size, many, text, label)
