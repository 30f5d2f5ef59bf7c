-- The words that clauses use: those that come from outside, and those of this crate.
pub use Rattle.nit_capture.specs.Appends.{Appends}
pub use Rattle.nit_capture.specs.Below.{All, AllByRecursion, Bad, End, Frame, Gives, HasPixels}
pub use Rattle.nit_capture.specs.Below.{IfErr, IfOk, IsErr, IsPlace, IsWord, LiesIn, List, OnErr}
pub use Rattle.nit_capture.specs.Below.{OnOk, Rectangle, [], blue, channels, cond, drop, filter}
pub use Rattle.nit_capture.specs.Below.{flat_map, green, length, list_any, nat_abs, negsuc, pos}
pub use Rattle.nit_capture.specs.Below.{prefix_len, range_with_len, red, slice_index, slice_set}
pub use Rattle.nit_capture.specs.Below.{spans, take, word_of, ℤ}
pub use Rattle.nit_capture.specs.Crop.{AgreeInside, AllAgree, IsPartOfScreen, Shows, crop}
pub use Rattle.nit_capture.specs.Crop.{crop_bytes, crop_pixel, crop_row_place, screen}
pub use Rattle.nit_capture.specs.Crop.{word_of_bytes}
pub use Rattle.nit_capture.specs.Film.{HasRecord, changed_tiles, record_of, records, run_bytes}
pub use Rattle.nit_capture.specs.Film.{runs, stream, tile_bytes, two_bytes}
pub use Rattle.nit_capture.specs.RecordReaders.{Leaves, behind_two, is_next, no_word, pixels_at}
pub use Rattle.nit_capture.specs.RecordReaders.{record_at, run_at, tile_at, tiles_at, turn_at}
pub use Rattle.nit_capture.specs.RecordReaders.{◌>>=◌}
pub use Rattle.nit_capture.specs.Tiles.{ArePictures, IsPicture, IsPictureSize, area, black, differs}
pub use Rattle.nit_capture.specs.Tiles.{high, most_area, most_pixels, most_tiles, place, row_place}
pub use Rattle.nit_capture.specs.Tiles.{tile, tile_count, tile_pixels, wide}
