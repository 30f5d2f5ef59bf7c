use Rattle.nit_report.proofs.Lemmas.{appends_one, appends_then, backdrop, just, refl}
use Rattle.nit_events.specs.declared.call.Call.TheVariants as call
use Rattle.nit_script.specs.declared.line.Line.TheVariants as line
use Rattle.nit_report.proofs.generated_client.put_first_phase.Goals as goal

pub returns : goal.returns
returns c =
    let buffer = appends_one (just (line.Call (call.Buffer 128 96))) (refl, refl) c.in_ok-push.ensures in
    let opening = appends_then buffer (appends_one backdrop c.backdrop.ensures c.in_ok-push-2.ensures) in
    let views = appends_then opening (c.in_ok-put_views.ensures c.backdrop.new.stream) in
    let places = appends_then views c.in_ok-put_places.ensures in
    let titles = appends_then places (c.in_ok-put_titles.ensures c.put_places.new.stream) in
    appends_then titles (appends_one (just line.Phase) (refl, refl) c.in_ok-push-3.ensures)
