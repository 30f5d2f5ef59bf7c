-- What answers use: all that lemmas use, and this crate's lemmas.
pub use Rattle.nit_session.proofs.Basics.{Session, ap, arith, filter_same, has_view, refl, rules}
pub use Rattle.nit_session.proofs.Basics.{serve_refused, sym, ◌∙◌}
pub use Rattle.nit_session.proofs.MachineLemmas.{destroyed_held, kept_fewer, kept_more, kept_none}
