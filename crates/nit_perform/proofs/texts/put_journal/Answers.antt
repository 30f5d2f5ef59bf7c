use Rattle.nit_perform.proofs.Lemmas.{journal_text}
use Rattle.nit_perform.proofs.texts.put_journal.Goals as goal

pub returns : goal.returns
returns g c = c.put_made.ensures (journal_text c.args.journal.now) c.journal_text-text.ensures.text
