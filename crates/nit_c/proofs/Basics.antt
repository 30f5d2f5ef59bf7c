-- What lemmas use: the words of clauses, the library's lemmas, and those of the crates below.
pub use Rattle.core.proofs.alloc.Calls.{Goes-blank}
pub use Rattle.core.proofs.mem.Facts.{says_two}
pub use Rattle.nit_c.specs.Terms.{All, AreParts, Area, ByServer, Client, HasParts, HostModel}
pub use Rattle.nit_c.specs.Terms.{IsAreaOf, IsRedrawn, IsRefreshed, IsSeenBut, NitDamage, NitPart}
pub use Rattle.nit_c.specs.Terms.{NitReply, NitServer, TellsDamage, area_at, c_part, client_named}
pub use Rattle.nit_c.specs.Terms.{dict, ghosts, has_any, has_click, heap_token, held_owns, host_of}
pub use Rattle.nit_c.specs.Terms.{host_where, kept_row, list_all, live_mark, no_part, nothing_kept}
pub use Rattle.nit_c.specs.Terms.{only_kind, parts_in, range_with_len, seat_at, seat_count}
pub use Rattle.nit_c.specs.Terms.{server_by_handle, the_type}
pub use Rattle.std.proofs.Common.{arith, refl, sym, ◌∙◌}
pub use Rattle.std.proofs.Math.ListN.{length-set}
pub use Rattle.std.proofs.lemmas.Bool.Decides.{nat_tests}
pub use Rattle.std.proofs.lemmas.Int.{to_z-of_z}
pub use Rattle.std.proofs.lemmas.List.{map-append, take_more, take_more_set}
pub use Rattle.std.proofs.lemmas.List.Folds.{map_fixed}
pub use Rattle.std.proofs.lemmas.List.FromFn.{map-range_with_len_more}
pub use Rattle.std.proofs.lemmas.Simd.{map-map}
pub use Rattle.std.proofs.raw_atomic.Walks.{proved}
pub use Rattle.std_alloc.proofs.VecSteps.Shapes.{after}
pub use Rattle.std_alloc.proofs.boxed.Box.into_raw.Met.{met}
