-- The words that clauses use: those that come from outside, and those of this crate.
pub use Rattle.nit_stack.specs.Below.{AllByRecursion, IfOk, IfSome, IsOnScreen, IsPlace, None}
pub use Rattle.nit_stack.specs.Below.{Point, Some, View, ViewRef, covers, insert, is_some, list_any}
pub use Rattle.nit_stack.specs.Below.{most_sessions, most_side, most_slots, option_map}
pub use Rattle.nit_stack.specs.Below.{option_map_or, position_or_len, rectangle, slice_get}
pub use Rattle.nit_stack.specs.Below.{slice_set, vec_capacity, vec_len}
pub use Rattle.nit_stack.specs.LabelPlaces.{is_view}
pub use Rattle.nit_stack.specs.Orders.{changed, moved, put_above, put_again, put_back, put_front}
pub use Rattle.nit_stack.specs.Orders.{without}
pub use Rattle.nit_stack.specs.SourceAnswers.{IfWord, pixel_source, session_of, source_owner}
pub use Rattle.nit_stack.specs.SourceAnswers.{word_count}
pub use Rattle.nit_stack.specs.Sources.{Bare, Black, Size, Word, among, black_or_word, buffer_place}
pub use Rattle.nit_stack.specs.Sources.{in_bar, no_size, owner, owner_in, point, shown_index}
pub use Rattle.nit_stack.specs.Sources.{source, source_under}
pub use Rattle.nit_stack.specs.Stack.{IsBar, IsBufferSize, IsRectInRange, IsScreenSize, IsSlotView}
pub use Rattle.nit_stack.specs.Stack.{IsStack, NoPair, SlotView, StackModel, empty_stack, falls}
pub use Rattle.nit_stack.specs.Stack.{fresh, fresh_in, has_slot, is_named, is_of_session, is_slot}
pub use Rattle.nit_stack.specs.Stack.{layer_of, moved_above, on_view, place_of, put_own_back}
pub use Rattle.nit_stack.specs.Stack.{put_own_front, same_name, same_slot, seat_owner, size_of}
pub use Rattle.nit_stack.specs.Stack.{slot_layer, slot_view_in, slot_view_layer, view_ref}
pub use Rattle.nit_stack.specs.Stack.{with_offset, with_rect, with_title}
pub use Rattle.nit_stack.specs.StackFields.{HasLayer, layer_in, size, slot_view, stack_model}
pub use Rattle.nit_stack.specs.ViewNames.{IsNamedBy, MeanSame, is_session, layer_of_slot_view}
pub use Rattle.nit_stack.specs.ViewNames.{name_in, name_of, view_above, view_layer, views_of}
