use Rattle.std.proofs.Common.{rules, ◌≡◌, length, subst}
use Rattle.std.specs.Prelude.{IfOk}
use Rattle.nit_hall.specs.Opening.{IsOpening}
use Rattle.nit_hall.specs.ClipOpening.{AreFirstClipPasses, with_clip_scripts}
use Rattle.nit_tests.proofs.OpeningLemmas.{open_room}
use Rattle.nit_tests.proofs.scenes.hall_tests.serve_texts.Goals as goal

pub serve_all-requires-clause-ready : goal.serve_all-requires-clause-ready
serve_all-requires-clause-ready g c κs within =
    let config = c.args.config.now in
    let scripts = c.as_slice-clients.result.now in
    let plans = c.deref-2.result.now in
    let input = c.args.read.now.input in
    let canvases = c.expect-canvases.result.items in
    let clips = c.as_slice-clips.result.now in
    let one = c.expect-opened.result in
    let two = c.expect-opened-2.result in
    let plans_each : length plans ≡ length scripts = search rules in
    let clips_each : length clips ≡ length scripts = search rules in
    let opening : IsOpening config scripts plans input canvases one.room one.passes.items one.user =
    subst (λ r. IfOk r (λ o. IsOpening config scripts plans input canvases o.room o.passes.items o.user))
    c.expect-opened.ensures c.open-opened.ensures in
    let room : two.opened.room ≡ with_clip_scripts one.room clips =
    subst (λ r. IfOk r (λ o. o.opened.room ≡ with_clip_scripts one.room clips)) c.expect-opened-2.ensures
    c.open_clips.ensures.room in
    let passes : two.opened.passes.items ≡ one.passes.items =
    subst (λ r. IfOk r (λ o. o.opened.passes.items ≡ one.passes.items)) c.expect-opened-2.ensures
    c.open_clips.ensures.passes in
    let user : two.opened.user ≡ one.user =
    subst (λ r. IfOk r (λ o. o.opened.user ≡ one.user)) c.expect-opened-2.ensures c.open_clips.ensures.user in
    let first : AreFirstClipPasses two.opened.room.parts two.clips.items =
    subst (λ r. IfOk r (λ o. AreFirstClipPasses o.opened.room.parts o.clips.items)) c.expect-opened-2.ensures
    c.open_clips.ensures.clips in
    open_room config scripts plans input canvases clips one.room two.opened.room one.passes.items
    two.opened.passes.items one.user two.opened.user two.clips.items
    plans_each opening room passes user clips_each c.must_match.ensures first
