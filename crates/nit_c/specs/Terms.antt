-- The words that clauses use: those that come from outside, and those of this crate.
pub use Rattle.nit_c.specs.Below.{All, AreParts, Area, Client, Foremost, HostModel, IsAreaOf}
pub use Rattle.nit_c.specs.Below.{IsConfiguration, IsSeenBut, NitDamage, NitPart, NitReply}
pub use Rattle.nit_c.specs.Below.{Rearmost, area_at, box_owns, dict, ghosts, has_any, last_text}
pub use Rattle.nit_c.specs.Below.{lettered, list_all, most_comings, plain, range_with_len}
pub use Rattle.nit_c.specs.Clients.{client_name, client_named}
pub use Rattle.nit_c.specs.Damage.{HasParts, IsCopiedBy, IsDamage, IsDamageBy, IsNoDamage}
pub use Rattle.nit_c.specs.Damage.{IsPartCopied}
pub use Rattle.nit_c.specs.Damage.{TellsDamage, c_part, no_part, parts_in, uncopied_number}
pub use Rattle.nit_c.specs.HeapToken.{heap_token}
pub use Rattle.nit_c.specs.Held.{IsClosed, held_owns, kept_row, live_mark, nothing_kept}
pub use Rattle.nit_c.specs.Looking.{IsEntry, IsLine, IsLineOrNone, IsLooked, IsLookedAnew}
pub use Rattle.nit_c.specs.Looking.{IsLookedAnewBy, IsLookedBy, IsRect, only_rect}
pub use Rattle.nit_c.specs.Numbers.{config_number, mode_number, number_or_none, status_number}
pub use Rattle.nit_c.specs.Numbers.{unseated_number, unserved_number}
pub use Rattle.nit_c.specs.Opening.{IsConfigLine, IsMadeByPlan, IsOpened, IsOpenedBy, IsRead}
pub use Rattle.nit_c.specs.Opening.{IsShut, are_seats, c_line, has_click, have_clicks}
pub use Rattle.nit_c.specs.Opening.{plan_number, planned_config}
pub use Rattle.nit_c.specs.Opening.{refused_words, screen_plan, seat_at, seat_count, seats_in}
pub use Rattle.nit_c.specs.Reading.{IsAccountOf, IsSeatStateOf, IsStateOf, c_account, c_seat_state}
pub use Rattle.nit_c.specs.Reading.{c_state, no_account, no_seat_state, no_state}
pub use Rattle.nit_c.specs.Replies.{IsCalled, IsRedrawn, IsRefreshed, IsTitled, IsUntitled}
pub use Rattle.nit_c.specs.Replies.{c_answer, c_event, c_reply, no_event, only_kind, untitled}
pub use Rattle.nit_c.specs.Restacking.{IsRestackedBy, c_restack}
pub use Rattle.nit_c.specs.Routing.{IsInput, IsTold, c_delivery, c_item, c_routed, c_told, moved_to}
pub use Rattle.nit_c.specs.Routing.{one_of, only_routed, pressed, released, turned}
pub use Rattle.nit_c.specs.Seating.{IsNamed, IsSeatFor, IsSeated, IsSeatedBy, IsSought, c_sought}
pub use Rattle.nit_c.specs.Seating.{only_seated}
pub use Rattle.nit_c.specs.Steps.{ByServer, host_of, host_where, server_by_handle}
pub use Rattle.nit_c.specs.Viewing.{IsHeldBy, IsLabelOf, IsOwnerOf, IsShownAt, IsTitleOf, IsViewAt}
pub use Rattle.nit_c.specs.Viewing.{c_view, c_view_of, label_at, no_view, view_title}
pub use Rattle.nit_c.specs.contracts.handle.NitServer.{the_type}
pub use Rattle.nit_c.specs.declared.handle.NitServer.{NitServer}
