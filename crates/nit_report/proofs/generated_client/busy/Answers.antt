use Rattle.nit_report.proofs.generated_client.busy.Goals as goal

-- the third kind
pub returns-in-2 : goal.returns-in-2
returns-in-2 c = rw (c.in-2.is, ← c.some_view-view.ensures.0, ← c.some_view-view.ensures.1) c.placed.ensures
