use Rattle.nit_setup.proofs.Lemmas.{text_at}
use Rattle.nit_setup.proofs.generated.read_clients.Goals as goal

pub read_client-requires : goal.read_client-requires
read_client-requires c =
    rw (
      c.deref.ensures.value,
      text_at c.args.texts.now c.args.number c.clients.client c.index-texts-client.result
          c.requires.texts c.clients-test.true c.index-texts-client.is,
    )
    (c.requires.reads c.clients.client c.clients-test.true)
