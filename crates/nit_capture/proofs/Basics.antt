-- What lemmas use: the words of clauses, the library's lemmas, and those of the crates below.
pub use Rattle.nit_capture.specs.Terms.{AgreeInside, All, AllAgree, AllByRecursion, Appends}
pub use Rattle.nit_capture.specs.Terms.{HasPixels, HasRecord, IsErr, IsPartOfScreen, IsPicture}
pub use Rattle.nit_capture.specs.Terms.{IsPictureSize, IsPlace, IsWord, LiesIn, List, Rectangle}
pub use Rattle.nit_capture.specs.Terms.{Shows, area, behind_two, black, blue, changed_tiles}
pub use Rattle.nit_capture.specs.Terms.{channels, cond, crop, crop_pixel, differs, drop, filter}
pub use Rattle.nit_capture.specs.Terms.{flat_map, green, high, is_next, length, list_any, nat_abs}
pub use Rattle.nit_capture.specs.Terms.{negsuc, no_word, pixels_at, place, pos, prefix_len}
pub use Rattle.nit_capture.specs.Terms.{range_with_len, record_at, records, red, row_place, run_at}
pub use Rattle.nit_capture.specs.Terms.{run_bytes, runs, screen, slice_index, slice_set, spans}
pub use Rattle.nit_capture.specs.Terms.{stream, take, tile, tile_at, tile_bytes, tile_count}
pub use Rattle.nit_capture.specs.Terms.{tile_pixels, tiles_at, two_bytes, wide, word_of}
pub use Rattle.nit_capture.specs.Terms.{word_of_bytes, ℤ, ◌>>=◌}
pub use Rattle.nit_rect.proofs.ForCallers.{and_true, bind_some, spans_holds, within}
pub use Rattle.nit_word.proofs.ForCallers.{put_long}
pub use Rattle.std.proofs.Common.{Bool, Err, None, Ok, Result, Some, add-one, add_assoc, ap}
pub use Rattle.std.proofs.Common.{append_assoc, arith, false, inl, inr, length-append, lit<, map}
pub use Rattle.std.proofs.Common.{mul_comm, not, refl, sym, ◌∙◌}
pub use Rattle.std.proofs.lemmas.Bool.{cases_Bool, cases_eq, eq-eqb, ne_eqb, true_from_ne_false}
pub use Rattle.std.proofs.lemmas.Bool.{true≢false}
pub use Rattle.std.proofs.lemmas.Bool.Decides.{nat_tests}
pub use Rattle.std.proofs.lemmas.Int.{ints, to_z-of_z}
pub use Rattle.std.proofs.lemmas.List.{append-nil, drop-drop, ext_get_or, get_or-append-add}
pub use Rattle.std.proofs.lemmas.List.{get_or-drop, get_or-set_other, get_or-set_same, get_or-take}
pub use Rattle.std.proofs.lemmas.List.{get_or_past, length-drop, length-replicate, length-set}
pub use Rattle.std.proofs.lemmas.List.{length-take, length-take-le, map-id, nil_from_length}
pub use Rattle.std.proofs.lemmas.List.{take_all, take_more_set, take_rest}
pub use Rattle.std.proofs.lemmas.List.Concat.{flat_map-append, get_or-flat_map}
pub use Rattle.std.proofs.lemmas.List.Elements.{All-filter, All-set}
pub use Rattle.std.proofs.lemmas.List.Folds.{list_any_at, list_any_none}
pub use Rattle.std.proofs.lemmas.List.FromFn.{fill_by_all, filter_of_map_range_with_len_more}
pub use Rattle.std.proofs.lemmas.List.FromFn.{get_or-map-range_with_len, get_or-range_with_len}
pub use Rattle.std.proofs.lemmas.List.FromFn.{length-map-range_with_len, length-range_with_len}
pub use Rattle.std.proofs.lemmas.List.FromFn.{map-range_with_len_more}
pub use Rattle.std.proofs.lemmas.Nat.{div-add-mod', div-mul-add, div_below, mod-mul-add, mod_below}
pub use Rattle.std.proofs.lemmas.Nat.{mul-add-lt, mul-le, row_fits, same_from_place}
pub use Rattle.std.proofs.lemmas.Option.{some_pair_parts}
pub use Rattle.std.proofs.lemmas.Slice.{take-put_mid}
