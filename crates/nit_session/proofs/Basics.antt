-- What lemmas use: the words of clauses, the library's lemmas, and those of the crates below.
pub use Rattle.nit_events.proofs.ForCallers.{either}
pub use Rattle.nit_journal.proofs.ForCallers.{holds_of, second_none, serve_accepted, serve_refused}
pub use Rattle.nit_session.specs.Terms.{AccountModel, AreRising, Destroy, IsMachine, Session}
pub use Rattle.nit_session.specs.Terms.{by_call, by_status, has_view, list_any, refusal}
pub use Rattle.std.proofs.Common.{Bool, List, None, [], ap, arith, filter, length, refl, rules, sym}
pub use Rattle.std.proofs.Common.{◌∙◌}
pub use Rattle.std.proofs.lemmas.Bool.{cases_eq, eq-eqb, ne_eqb}
pub use Rattle.std.proofs.lemmas.Fn.{filter_same}
