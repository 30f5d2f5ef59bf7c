-- The words of the library and of the crates below that are used here, and the crate's plain types.
pub use Rattle.nit_c.specs.declared.damage.NitDamage.{NitDamage}
pub use Rattle.nit_c.specs.declared.damage.NitPart.{NitPart}
pub use Rattle.nit_c.specs.declared.looking.NitRect.{NitRect}
pub use Rattle.nit_c.specs.declared.reading.NitAccount.{NitAccount}
pub use Rattle.nit_c.specs.declared.reading.NitSeatState.{NitSeatState}
pub use Rattle.nit_c.specs.declared.reading.NitState.{NitState}
pub use Rattle.nit_c.specs.declared.reply.NitEvent.{NitEvent}
pub use Rattle.nit_c.specs.declared.reply.NitReply.{NitReply}
pub use Rattle.nit_c.specs.declared.routed.NitDelivery.{NitDelivery}
pub use Rattle.nit_c.specs.declared.routed.NitRouted.{NitRouted}
pub use Rattle.nit_c.specs.declared.seats.NitSeated.{NitSeated}
pub use Rattle.nit_c.specs.declared.viewing.NitViewState.{NitViewState}
pub use Rattle.nit_config.specs.Configuration.{Configuration, lettered, member}
pub use Rattle.nit_config.specs.ConfigurationText.{IsConfigAnswer, IsConfigurationOf, IsFaultLine}
pub use Rattle.nit_config.specs.ConfigurationText.{MeetsRefusal, UnlessMemory}
pub use Rattle.nit_config.specs.declared.error.ConfigError.{ConfigError}
pub use Rattle.nit_events.specs.Ranges.{most_code}
pub use Rattle.nit_events.specs.Text.{is_text}
pub use Rattle.nit_events.specs.declared.call.Call.{Call}
pub use Rattle.nit_events.specs.declared.call.Reply.{Reply}
pub use Rattle.nit_events.specs.declared.device.Device.{Device}
pub use Rattle.nit_events.specs.declared.device.Mode.{Mode}
pub use Rattle.nit_events.specs.declared.event.Delivery.{Delivery}
pub use Rattle.nit_events.specs.declared.event.Event.{Event}
pub use Rattle.nit_events.specs.declared.event.Routed.{Routed}
pub use Rattle.nit_events.specs.declared.event.Status.{Status}
pub use Rattle.nit_glyph.specs.Lettering.{plain}
pub use Rattle.nit_glyph.specs.Texts.{is_label}
pub use Rattle.nit_glyph.specs.declared.lettering.Glyphs.TheVariants.{Large, Small}
pub use Rattle.nit_host.specs.Damage.{area_at, uncopied}
pub use Rattle.nit_host.specs.Host.{HostModel, IsAsSeen, called, client_of, first_host, forgotten}
pub use Rattle.nit_host.specs.Host.{frame_shown, is_client, looked, most_comings, put, refreshed}
pub use Rattle.nit_host.specs.Host.{reply_to, routed_of, told, unserved_call, unserved_input}
pub use Rattle.nit_host.specs.Host.{unserved_refresh, unserved_restack}
pub use Rattle.nit_host.specs.Looked.{IsSeenBut}
pub use Rattle.nit_host.specs.Plan.{planned, refused_plan}
pub use Rattle.nit_host.specs.Seats.{next_client, seat_for, seated, unseated}
pub use Rattle.nit_host.specs.Terms.{IsConfiguration, last_text}
pub use Rattle.nit_host.specs.Viewing.{owner_on, owner_shown}
pub use Rattle.nit_host.specs.contracts.host.Host.{the_row}
pub use Rattle.nit_host.specs.declared.client.Client.{Client}
pub use Rattle.nit_host.specs.declared.planning.ScreenPlan.{ScreenPlan}
pub use Rattle.nit_host.specs.declared.planning.SeatPlan.{SeatPlan}
pub use Rattle.nit_host.specs.declared.refusal.PlanError.{PlanError}
pub use Rattle.nit_host.specs.declared.refusal.Uncopied.{Uncopied}
pub use Rattle.nit_host.specs.declared.refusal.Unseated.{Unseated}
pub use Rattle.nit_host.specs.declared.refusal.Unserved.{Unserved}
pub use Rattle.nit_journal.specs.State.{first_state, layer, session}
pub use Rattle.nit_journal.specs.Steps.{Foremost, Rearmost, Side, vacant_state}
pub use Rattle.nit_look.specs.Area.{IsAreaOf}
pub use Rattle.nit_look.specs.Look.{AgreeIn, CoversChange, IsTouched, LiesOn}
pub use Rattle.nit_look.specs.Parts.{AreParts, has_any}
pub use Rattle.nit_look.specs.Putting.{IsPartPut}
pub use Rattle.nit_look.specs.declared.area.Area.{Area}
pub use Rattle.nit_rect.specs.Limits.{most_sessions}
pub use Rattle.nit_rect.specs.Rectangle.{Rectangle, rectangle}
pub use Rattle.nit_screen.specs.FrameLabels.{ShowsLabels}
pub use Rattle.nit_screen.specs.StateScenery.{scenery_of}
pub use Rattle.nit_stack.specs.declared.view.View.{View}
pub use Rattle.std.specs.Box.Ownership.{box_owns}
pub use Rattle.std.specs.List.{list_all, range_with_len}
pub use Rattle.std.specs.Prelude.{All}
pub use Rattle.std_heap.specs.contracts.GlobalAllocator.TheImpl.{dict, ghosts}
pub use Rattle.std_heap.specs.declared.Global.{Global}
