use Rattle.std.proofs.Common.{Contains, IsTrue, List, subst, ℕ, ◌+◌, ◌↔◌}
use Rattle.nit_store.proofs.Lemmas.{FailsNext, MemoryStoreModel}
use Rattle.nit_store.proofs.memory_store.MemoryStore.count_call.Goals as goal

pub returns-clause-fails : goal.returns-clause-fails
returns-clause-fails c =
    subst (λ (m : MemoryStoreModel). IsTrue c.is_next_of-fails.result ↔ FailsNext m) c.self.view_is
    (subst (λ (numbers : List ℕ). IsTrue c.is_next_of-fails.result ↔ Contains numbers (c.self.inside.calls + 1))
    c.deref.ensures.value c.is_next_of-fails.ensures)
