-- What the crates above cite of this crate's proofs.
pub use Rattle.nit_actor.proofs.Shots.{among_more, held_still, one_history}
pub use Rattle.nit_actor.proofs.Roles.{fit_again, fits_belongs, role_at, roles_fit, roles_long}
