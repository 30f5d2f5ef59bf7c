-- Which pixels of the screen are loaded again for an entry of the journal.
use Rattle.std.specs.Prelude.{ℕ, Bool, true, false, ◌&&◌, ◌||◌}
use Rattle.nit_screen.specs.Below.{Above, Back, Buffer, Call, Close, Destroy, Entry, Front, Item}
use Rattle.nit_screen.specs.Below.{Offset, Place, Point, Rectangle, Refresh, State, View}
use Rattle.nit_screen.specs.Below.{deliveries_of, is_accepted, is_session, is_view, is_word_in}
use Rattle.nit_screen.specs.Below.{list_any, option_map_or, owner_of, rectangle, session, source_of}
use Rattle.nit_events.specs.declared.event.Item.TheVariants as item
use Rattle.nit_events.specs.declared.entry.Entry.TheVariants as entry

-- the view that owns the pixel passes this test
abbrev pub is_owned_by : (View → Bool) → State → Point → Bool
is_owned_by test s p = option_map_or test (owner_of s p) false

-- the session's view of this handle owns the pixel
abbrev pub view_owns : ℕ → ℕ → State → Point → Bool
view_owns sid handle s p = is_owned_by (is_view sid handle) s p

-- a view of the session owns the pixel
abbrev pub session_owns : ℕ → State → Point → Bool
session_owns sid s p = is_owned_by (is_session sid) s p

-- the pixel shows a word of this part of the session's buffer
abbrev pub shows_part : ℕ → Rectangle → State → Point → Bool
shows_part sid part s p = is_word_in sid (session s sid).bw part (source_of s p)

-- the view owns the pixel before or after
abbrev pub owns_either : ℕ → ℕ → State → State → Point → Bool
owns_either sid handle before after p =
    view_owns sid handle before p || view_owns sid handle after p

-- the pixels that an accepted call makes dirty
abbrev pub dirty_by_call : ℕ → Call → State → State → Point → Bool
dirty_by_call sid (Place v x y w h) before after p = owns_either sid v before after p
dirty_by_call sid (Offset v ox oy) before after p = owns_either sid v before after p
dirty_by_call sid (Front v) before after p = owns_either sid v before after p
dirty_by_call sid (Back v) before after p = owns_either sid v before after p
dirty_by_call sid (Above v n) before after p = owns_either sid v before after p
dirty_by_call sid (Destroy v) before after p = owns_either sid v before after p
dirty_by_call sid Close before after p = session_owns sid before p
dirty_by_call sid (Buffer w h) before after p = session_owns sid after p
dirty_by_call sid (Refresh x y w h) before after p = shows_part sid (rectangle x y w h) after p
dirty_by_call sid other before after p = false

-- a session that is killed owned the pixel before
abbrev pub is_killed : State → Point → ℕ → Item → Bool
is_killed before p sid (item.Event e) = false
is_killed before p sid item.Kill = session_owns sid before p

-- The pixels that an entry makes dirty, by the states before and after it. The last picture makes
-- all dirty.
abbrev pub dirty : State → Entry → State → Point → Bool
dirty before (entry.Call sid call r) after p =
    is_accepted r && dirty_by_call sid call before after p
dirty before (entry.Input dev routed) after p =
    list_any (λ d. is_killed before p d.sid d.item) (deliveries_of routed)
dirty before (entry.Shot number) after p = false
dirty before entry.Final after p = true
