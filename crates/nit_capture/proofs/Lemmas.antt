-- What answers use: all that lemmas use, and this crate's lemmas.
pub use Rattle.nit_capture.proofs.Basics.{IsPicture, IsWord, ap, append_assoc, area, arith}
pub use Rattle.nit_capture.proofs.Basics.{crop_pixel, differs, filter, flat_map, high, inr}
pub use Rattle.nit_capture.proofs.Basics.{length-drop, nat_tests, pixels_at, place, put_long}
pub use Rattle.nit_capture.proofs.Basics.{range_with_len, record_at, refl, row_fits, row_place}
pub use Rattle.nit_capture.proofs.Basics.{run_bytes, runs, slice_index, sym, take-put_mid, take_all}
pub use Rattle.nit_capture.proofs.Basics.{take_rest, tile_at, tile_bytes, tile_count, tile_pixels}
pub use Rattle.nit_capture.proofs.Basics.{tiles_at, two_bytes, wide, word_of_bytes, ◌∙◌}
pub use Rattle.nit_capture.proofs.CropLemmas.{all_cut, cut_is_picture, cut_row_within, cut_shown}
pub use Rattle.nit_capture.proofs.CropLemmas.{on_screen, pixel_in_row, place_is}
pub use Rattle.nit_capture.proofs.Records.{appends_behind, appends_part, goes_on, no_record}
pub use Rattle.nit_capture.proofs.Records.{none_read, number_set, one_at_most, one_record}
pub use Rattle.nit_capture.proofs.Records.{one_stream, reader_steps, record_take, run_written}
pub use Rattle.nit_capture.proofs.Records.{runs_written, same_film, tile_counted, tile_done}
pub use Rattle.nit_capture.proofs.Records.{tiles_few, words_more}
pub use Rattle.nit_capture.proofs.Tiles.{SameRows, all_rows, high_some, one_more_row, part_is}
pub use Rattle.nit_capture.proofs.Tiles.{part_long, picture_set, place_down, place_in_row}
pub use Rattle.nit_capture.proofs.Tiles.{place_small, place_within, row_differs, row_put, row_room}
pub use Rattle.nit_capture.proofs.Tiles.{row_within, span_is, tile_fits}
