use Rattle.nit_ledger.proofs.Lemmas.{begins}
use Rattle.nit_ledger.proofs.book.Book.new.Goals as goal

pub of_words-requires : goal.of_words-requires
of_words-requires c = begins
