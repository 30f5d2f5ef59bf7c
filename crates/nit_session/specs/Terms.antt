-- The words that clauses use: those that come from outside, and those of this crate.
pub use Rattle.nit_session.specs.Below.{AccountModel, Destroy, IsDonation, Session, Take, View}
pub use Rattle.nit_session.specs.Below.{accepted, by_call, by_handle, by_status, ended}
pub use Rattle.nit_session.specs.Below.{first_session, has_view, last_handle, list_any, queued}
pub use Rattle.nit_session.specs.Below.{receive, refusal, serve, vec_capacity}
pub use Rattle.nit_session.specs.Machine.{AreRising, IsMachine}
