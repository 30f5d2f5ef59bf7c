-- The words that clauses use: those that come from outside, and those of this crate.
pub use Rattle.nit_desktop.specs.Below.{Above, Agrees, Answered, AreBelowNext, AreGlasses, AreInked}
pub use Rattle.nit_desktop.specs.Below.{AreLive, AreRaw, Back, Buffer, Call, Close, Configuration}
pub use Rattle.nit_desktop.specs.Below.{Delivery, Destroy, Device, Entry, Front, HaveOwnNames}
pub use Rattle.nit_desktop.specs.Below.{IsConfiguration, IsDevice, IsFrameShown, IsFreeLabel}
pub use Rattle.nit_desktop.specs.Below.{IsLive, IsNewlyNamed, IsPlace, IsRawOf, Member, Offset}
pub use Rattle.nit_desktop.specs.Below.{Painted, PixelSource, Place, Refresh, Reply, Routed}
pub use Rattle.nit_desktop.specs.Below.{ServerModel, Session, ShowsLabels, Sight, State, Take}
pub use Rattle.nit_desktop.specs.Below.{Title, Upgrade, View, accepted, after, bar_rows, bare_word}
pub use Rattle.nit_desktop.specs.Below.{by_refusal, deliveries_of, dirty, donation_of, ended}
pub use Rattle.nit_desktop.specs.Below.{first_input, first_session, first_state, in_bar}
pub use Rattle.nit_desktop.specs.Below.{lettered, most_picture_height}
pub use Rattle.nit_desktop.specs.Below.{input_after_call, is_accepted, is_session, kills, layer}
pub use Rattle.nit_desktop.specs.Below.{member, opened, option_map_or, owner_of, pixel}
pub use Rattle.nit_desktop.specs.Below.{pixel_count, refusal}
pub use Rattle.nit_desktop.specs.Below.{route, routed_as, scenery_of, serve, session, session_in}
pub use Rattle.nit_desktop.specs.Below.{most_slots, under_pointer}
pub use Rattle.nit_desktop.specs.Below.{source_at, state_of, table_size, vacant_state, ℕ}
pub use Rattle.nit_desktop.specs.Desktop.{DesktopModel, IsDesktop, IsServedEntry, asks_view}
