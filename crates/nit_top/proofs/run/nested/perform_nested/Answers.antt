use Rattle.nit_top.proofs.Lemmas.{Some, inl, nested_leaves, runnable_of, setup_of, true, ◌∙◌}
use Rattle.nit_top.proofs.run.nested.perform_nested.Goals as goal

pub returns : goal.returns
returns g c = λ i.
    let s = setup_of c.args.config.now c.args.scripts.now.clients.items c.args.scripts.now.input true true in
    let has = rw c.as_slice-clients.ensures.value at c.in-Ok.ensures in
    inl (nested_leaves s (Some i) c.put_inner_journal-fault.result
    (λ journal outputs j are. c.headline.ensures (record s { inner = Some i }) journal outputs
    (runnable_of s (Some i) c.requires) j are) has
    c.put_inner_journal-fault.ensures (rw c.with_fault.ensures.fault at c.after.ensures.end)
    (rw c.with_fault.ensures.fault at c.after.ensures.name) (c.after.ensures.journal ∙ c.with_fault.ensures.journal)
    (rw c.as_slice-clients.ensures.value at c.after.ensures.clients)
    (c.after.ensures.frames ∙ c.with_fault.ensures.frames))
