-- What lemmas use: the words of clauses, the library's lemmas, and those of the crates below.
pub use Rattle.nit_slots.specs.Terms.{AreSlots, Differ, IsFreeList, IsStrictlyIncreasing, IsTable}
pub use Rattle.nit_slots.specs.Terms.{Rises, has_handle, is_slot_among, list_any, range_with_len}
pub use Rattle.nit_slots.specs.Terms.{slot_of, taken_beside, with_slot, without_handle}
pub use Rattle.nit_slots.specs.Terms.{without_slot}
pub use Rattle.std.proofs.Common.{ap, arith, length, refl}
pub use Rattle.std.proofs.lemmas.Bool.{both_ways, cases_lt, cond_both, eq-eqb, false_from_ne_true}
pub use Rattle.std.proofs.lemmas.Bool.{not-true}
pub use Rattle.std.proofs.lemmas.Fn.{filter_same}
pub use Rattle.std.proofs.lemmas.Iterator.{YieldsList-from_range, items_from_collect}
pub use Rattle.std.proofs.lemmas.List.Elements.{All-filter, All-pop, All-push}
pub use Rattle.std.proofs.lemmas.List.Folds.{list_any-append, list_any_at}
pub use Rattle.std.proofs.lemmas.List.FromFn.{get_or-range_with_len, length-range_with_len}
pub use Rattle.std.proofs.lemmas.List.Kept.{IsStrictlyIncreasing-filter}
pub use Rattle.std.proofs.lemmas.Option.{same_Some, slice_get-get_or}
pub use Rattle.std.proofs.lemmas.Bool.Decides.{nat_tests}
