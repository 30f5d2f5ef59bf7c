-- The words that clauses use: those that come from outside, and those of this crate.
pub use Rattle.nit_damage.specs.Below.{CoversBoth, Edges, HasPixels, IfSome, IsApart, IsDivided}
pub use Rattle.nit_damage.specs.Below.{IsOnScreen, IsScreenRectangle, IsScreenSize, IsStack, IsTrue}
pub use Rattle.nit_damage.specs.Below.{Job, LiesIn, MatchOption, NoPair, Piece, Point, Rectangle}
pub use Rattle.nit_damage.specs.Below.{SlotView, StackModel, Strips, ViewRef, covers, has_slot}
pub use Rattle.nit_damage.specs.Below.{in_bar, is_slot, most_height, most_slots, most_width}
pub use Rattle.nit_damage.specs.Below.{option_map, option_map_or, owner_in, place_of, point}
pub use Rattle.nit_damage.specs.Below.{position_or_len, rectangle, same_slot, seat_owner, slice_get}
pub use Rattle.nit_damage.specs.Below.{slot_view_in, spans, times, times_among, view_ref}
pub use Rattle.nit_damage.specs.Cut.{IsCut, IsCutStep, IsSkip, rectangle_of, times_all}
pub use Rattle.nit_damage.specs.Cutter.{CutterModel, FitsJobs, FitsStack, IsJob, IsPieceOf}
pub use Rattle.nit_damage.specs.Cutter.{bar_part, begun_cutter, job_at, job_to_come, jobs_to_come}
pub use Rattle.nit_damage.specs.Cutter.{part_below_bar, piece_times, pieces_left, to_come, weight}
pub use Rattle.nit_damage.specs.Cutter.{weight_of, with_pixels}
pub use Rattle.nit_damage.specs.Damage.{covered, in_front_of, is_behind, is_of_gone, is_of_moved}
pub use Rattle.nit_damage.specs.Damage.{is_owned, once, slot_view_covers}
