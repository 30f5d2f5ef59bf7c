-- What the crates above cite of this crate's proofs.
pub use Rattle.nit_server.proofs.Lists.{All-changed, All-put, IsPutIn, IsSpared, NoPair-map}
pub use Rattle.nit_server.proofs.Lists.{NoPair-put, NoPair-without, adds_at, find-alike}
pub use Rattle.nit_server.proofs.Lists.{find-changed, find-moved, find-put_failing, find-spared}
pub use Rattle.nit_server.proofs.Lists.{puts_above, puts_back, puts_front, without_same}
pub use Rattle.nit_server.proofs.Openings.{client_kept, renamed}
pub use Rattle.nit_server.proofs.ServerInputLemmas.{entry_loses, forgotten_again}
pub use Rattle.nit_server.proofs.ViewsComeAndGo.{closed, one_less}
