-- The text of a journal, and the entries that it can tell.
use Rattle.std.specs.Prelude.{◌≡◌, ◌≢◌, ◌≤◌, ℕ, ◌+◌, List, [], length, Result, Ok, Err}
use Rattle.nit_report.specs.Below.{AllByRecursion, Bad, Begins, Delivery, Entry, Event, FitsCall}
use Rattle.nit_report.specs.Below.{FitsDevice, FitsNat, FitsPointerPlace, HasNoReading, IsCode}
use Rattle.nit_report.specs.Below.{IsWheel, Item, JournalError, NoMemory, Reads, Reply, Routed}
use Rattle.nit_report.specs.Below.{deliveries_of, flat_map, most_lines, routed_as, spelled}
use Rattle.nit_events.specs.declared.event.Event.TheVariants as event
use Rattle.nit_events.specs.declared.event.Item.TheVariants as item
use Rattle.nit_events.specs.declared.call.Reply.TheVariants as reply
use Rattle.nit_events.specs.declared.entry.Entry.TheVariants as entry
use Rattle.nit_report.specs.EntrySpelling.{entry_spelling}

-- a line for each entry, in order
abbrev pub journal_text : List Entry → List ℕ
journal_text entries = flat_map (spelled entry_spelling) entries

-- ---- the entries that a text can tell

-- the number of a shot
abbrev pub FitsShot : ℕ → Type 0
FitsShot n = (1 ≤ n) × (n ≤ most_lines)

-- a session's number
abbrev pub FitsSession : ℕ → Type 0
FitsSession sid = sid ≤ 15

-- a code is at most 767, a place at most 65535, and a turn -127 to 127
abbrev pub FitsEvent : Event → Type 0
FitsEvent (event.Press k) = IsCode k
FitsEvent (event.Release k) = IsCode k
FitsEvent (event.Motion x y) = FitsPointerPlace x × FitsPointerPlace y
FitsEvent (event.Wheel n) = IsWheel n
FitsEvent other = Unit {0}

-- the numbers of a reply have at most nine digits
abbrev pub FitsReply : Reply → Type 0
FitsReply (reply.Handle h) = FitsNat h
FitsReply (reply.Event e) = FitsEvent e
FitsReply (reply.NoSuchView h) = FitsNat h
FitsReply (reply.OutOfQuota need left) = FitsNat need × FitsNat left
FitsReply (reply.NoReserve need left) = FitsNat need × FitsNat left
FitsReply other = Unit {0}

-- an item's event is within the format
abbrev pub FitsItem : Item → Type 0
FitsItem (item.Event e) = FitsEvent e
FitsItem item.Kill = Unit {0}

-- a delivery's session and item are
abbrev pub FitsDelivery : Delivery → Type 0
FitsDelivery d = FitsSession d.sid × FitsItem d.item

-- all deliveries are, and they leave no gap
abbrev pub FitsRouted : Routed → Type 0
FitsRouted r = AllByRecursion FitsDelivery (deliveries_of r) × (r ≡ routed_as (deliveries_of r))

-- what an entry holds is within the format
abbrev pub FitsEntry : Entry → Type 0
FitsEntry (entry.Call sid call r) = FitsSession sid × FitsReply r × FitsCall call
FitsEntry (entry.Input dev routed) = FitsDevice dev × FitsRouted routed
FitsEntry (entry.Shot number) = FitsShot number
FitsEntry entry.Final = Unit {0}

-- The bytes spell these entries of a journal.
abbrev pub ReadsJournal : List ℕ → List Entry → Type 0
ReadsJournal = Reads FitsEntry entry_spelling

-- The line of this number, from 1, is the first that spells no entry.
abbrev pub IsFirstBadEntry : List ℕ → ℕ → Type 0
IsFirstBadEntry bytes number =
    (entries : List Entry) × (rest : List ℕ) × Begins FitsEntry entry_spelling bytes entries rest
    × (rest ≢ []) × HasNoReading FitsEntry entry_spelling rest × (length entries + 1 ≡ number)

-- The fact holds, or memory ran out.
abbrev pub UnlessNoMemory : {V : Type 0} → Result V JournalError → Type 0 → Type 0
UnlessNoMemory (Ok v) P = P
UnlessNoMemory (Err (Bad line)) P = P
UnlessNoMemory (Err NoMemory) P = Unit {0}

-- What reading bytes as a journal may answer. The entries are seen by a view.
abbrev pub IsJournalAnswer : {V : Type 0} → (V → List Entry) → List ℕ → Result V JournalError
    → Type 0
IsJournalAnswer view bytes (Ok v) = ReadsJournal bytes (view v)
IsJournalAnswer view bytes (Err (Bad line)) = IsFirstBadEntry bytes line
IsJournalAnswer view bytes (Err NoMemory) = Unit {0}
