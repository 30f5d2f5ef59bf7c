-- The stack of all views after an entry of the journal.
use Rattle.std.specs.Prelude.{ℕ, pos, Bool, true, false, ◌==◌, List, [], ◌∷◌, if◌then◌else◌}
use Rattle.nit_journal.specs.Below.{Above, Back, Call, Close, Delivery, Destroy, Front, Item}
use Rattle.nit_journal.specs.Below.{Offset, Place, Reply, Title, View, changed, is_view, moved}
use Rattle.nit_journal.specs.Below.{put_above, put_back, put_front, rectangle, without}
use Rattle.nit_events.specs.declared.event.Item.TheVariants as item
use Rattle.nit_events.specs.declared.call.Reply.TheVariants as reply
use Rattle.nit_stack.specs.declared.view.View.{View as ViewOf}

-- the call was not refused
abbrev pub is_accepted : Reply → Bool
is_accepted reply.Done = true
is_accepted (reply.Handle h) = true
is_accepted (reply.Event e) = true
is_accepted reply.NoEvent = true
is_accepted other = false

-- a new view shows nothing yet
abbrev pub new_view : ℕ → ℕ → ViewOf
new_view sid handle =
    record {
      sid = sid;
      handle = handle;
      rect = rectangle (pos 0) (pos 0) 0 0;
      ox = pos 0;
      oy = pos 0;
      title = [];
    }

-- the view that was answered stands in front of its layer
abbrev pub with_new : (ℕ → ℕ) → ℕ → Reply → List ViewOf → List ViewOf
with_new layers sid (reply.Handle h) stack =
    put_front (λ v. layers v.sid) (layers sid) (new_view sid h) stack
with_new layers sid other stack = stack

-- The stack after a call that was accepted, by the layers of the sessions.
abbrev pub after_accepted : (ℕ → ℕ) → ℕ → Call → Reply → List ViewOf → List ViewOf
after_accepted layers sid View r stack = with_new layers sid r stack
after_accepted layers sid (Place v x y w h) r stack =
    changed (is_view sid v) (λ view. record view { rect = rectangle x y w h }) stack
after_accepted layers sid (Offset v ox oy) r stack =
    changed (is_view sid v) (λ view. record view { ox = ox; oy = oy }) stack
after_accepted layers sid (Title v text) r stack =
    changed (is_view sid v) (λ view. record view { title = text }) stack
after_accepted layers sid (Front v) r stack =
    moved (is_view sid v) (put_front (λ view. layers view.sid) (layers sid)) stack
after_accepted layers sid (Back v) r stack =
    moved (is_view sid v) (put_back (λ view. layers view.sid) (layers sid)) stack
after_accepted layers sid (Above v n) r stack =
    if v == n then stack else moved (is_view sid v) (put_above (is_view sid n)) stack
after_accepted layers sid (Destroy v) r stack = without (is_view sid v) stack
after_accepted layers sid Close r stack = without (λ view. view.sid == sid) stack
after_accepted layers sid other r stack = stack

-- a refused call leaves the stack as it is
unfoldable pub stack_after_call : (ℕ → ℕ) → ℕ → Call → Reply → List ViewOf → List ViewOf
stack_after_call layers sid call r stack =
    if is_accepted r then after_accepted layers sid call r stack else stack

-- a session that is killed loses its views
abbrev pub after_delivery : Delivery → List ViewOf → List ViewOf
after_delivery d stack = by_item d.item
  where
    by_item : Item → List ViewOf
    by_item (item.Event e) = stack
    by_item item.Kill = without (λ view. view.sid == d.sid) stack

abbrev pub after_deliveries : List Delivery → List ViewOf → List ViewOf
after_deliveries [] stack = stack
after_deliveries (d ∷ ds) stack = after_deliveries ds (after_delivery d stack)
