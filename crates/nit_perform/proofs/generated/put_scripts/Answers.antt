use Rattle.std.proofs.Common.{arith, refl, ◌∙◌, ◌≡◌}
use Rattle.nit_perform.proofs.Lemmas.{client_text, one_file_more, put_state_of_run, script_name}
use Rattle.nit_perform.proofs.Lemmas.{text_at}
use Rattle.nit_perform.proofs.generated.put_scripts.Goals as goal

pub clients-init : goal.clients-init
clients-init g c = refl

pub clients-preserved : goal.clients-preserved
clients-preserved g c =
    let shown = g.S.Store.shown in
    one_file_more (λ k. (script_name k, client_text c.args.number k)) c.clients.client
    (put_state_of_run (shown c.args.store.now) c.args.fault)
    (put_state_of_run (shown c.clients.store) c.clients.refused)
    (put_state_of_run (shown c.put_next-refused.new.store) c.put_next-refused.result)
    (rw (c.deref.ensures.value ∙ text_at c.args.texts.now c.args.number c.clients.client c.index-texts-client.result
    c.requires c.clients-test.true c.index-texts-client.is)) c.clients.invariant c.put_next-refused.ensures

pub returns : goal.returns
returns g c =
    let all : c.clients.client ≡ 8 = omega (arith, c.clients-test.false, c.clients.auto.client-end) in
    rw all at c.clients.invariant
