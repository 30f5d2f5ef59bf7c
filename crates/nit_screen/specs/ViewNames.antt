-- Views that are told apart by their sessions and handles.
use Rattle.std.specs.Prelude.{◌≡◌, ◌<◌, false, List, All}
use Rattle.nit_screen.specs.Below.{Entry, NoPair, State, View, is_view, list_any, session}
use Rattle.nit_events.specs.declared.call.Call.TheVariants as call
use Rattle.nit_events.specs.declared.call.Reply.TheVariants as reply
use Rattle.nit_events.specs.declared.entry.Entry.TheVariants as entry

-- no two views of the list have the same session and handle
abbrev pub HaveOwnNames : List View → Type 0
HaveOwnNames views = NoPair (λ v other. is_view v.sid v.handle other) views

-- where the entry makes a view, none of these views has its session and handle
abbrev pub IsNewlyNamed : Entry → List View → Type 0
IsNewlyNamed (entry.Call sid call.View (reply.Handle h)) views =
    list_any (is_view sid h) views ≡ false
IsNewlyNamed other views = Unit {0}

-- each view's handle is below the next one of its session
abbrev pub AreBelowNext : State → Type 0
AreBelowNext s = All (λ v. v.handle < (session s v.sid).next) s.stack
