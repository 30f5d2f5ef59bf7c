-- The words that clauses use: those that come from outside, and those of this crate.
pub use Rattle.nit_slots.specs.Account.{IsAccount, IsDonation, IsShort, buffer_left, buffer_need}
pub use Rattle.nit_slots.specs.Account.{ceiling, first_account, most_views, room, table_size}
pub use Rattle.nit_slots.specs.Account.{upgraded}
pub use Rattle.nit_slots.specs.Account.{view_left, view_need, view_slots}
pub use Rattle.nit_slots.specs.Below.{IsStrictlyIncreasing, list_any, most_side, most_slots}
pub use Rattle.nit_slots.specs.Below.{most_words, range_with_len}
pub use Rattle.nit_slots.specs.FreeSlots.{Differ, IsFreeList, taken_beside}
pub use Rattle.nit_slots.specs.Slots.{AreSlots, is_slot_among, is_slot_taken, spare, with_slot, without_slot}
pub use Rattle.nit_slots.specs.Table.{IsTable, Rises, has_handle, last_handle, slot_of}
pub use Rattle.nit_slots.specs.Table.{without_handle}
