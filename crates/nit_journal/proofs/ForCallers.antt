-- What other crates cite of journals: calls, sessions and states along them, and what a refusal tells.
pub use Rattle.nit_journal.proofs.ProjectionLemmas.{IsUsers, actions_of-append, actions_same}
pub use Rattle.nit_journal.proofs.ProjectionLemmas.{calls_of-append, calls_other, calls_own}
pub use Rattle.nit_journal.proofs.ProjectionLemmas.{calls_same, drop_left, phases_action}
pub use Rattle.nit_journal.proofs.ProjectionLemmas.{phases_call, phases_final}
pub use Rattle.nit_journal.proofs.SessionLists.{accepted_reply, as_many, as_many_as_clients}
pub use Rattle.nit_journal.proofs.SessionLists.{delivered_length, first_none, holds_of, kept_config}
pub use Rattle.nit_journal.proofs.SessionLists.{refused_reply, same_config, same_throughout}
pub use Rattle.nit_journal.proofs.SessionLists.{second_none, serve_accepted, serve_refused}
pub use Rattle.nit_journal.proofs.SessionLists.{taken_reply, within_quota, within_reserve}
pub use Rattle.nit_journal.proofs.OwnCalls.{as_its_calls_have_it}
pub use Rattle.nit_journal.proofs.Ways.{all_kept}
pub use Rattle.nit_journal.proofs.JournalFronts.{bare_everywhere, front_open, legal_more}
pub use Rattle.nit_journal.proofs.JournalFronts.{replay_more}
