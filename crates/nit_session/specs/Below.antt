-- The words of the library and of the crates below that are used here, and the crate's plain types.
pub use Rattle.nit_events.specs.declared.call.Call.TheVariants.{Destroy, Take, View}
pub use Rattle.nit_journal.specs.Session.{Session, accepted, by_call, by_handle, by_status, ended}
pub use Rattle.nit_journal.specs.Session.{first_session, has_view, queued, receive, refusal, serve}
pub use Rattle.nit_slots.specs.Account.{AccountModel, IsDonation}
pub use Rattle.nit_slots.specs.Table.{last_handle}
pub use Rattle.std.specs.List.{list_any}
pub use Rattle.std.specs.Prelude.{vec_capacity}
