-- Journals, and which of them are legal.
use Rattle.std.specs.Prelude.{◌≡◌, ℕ, suc, ◌+◌, ◌<◌, List, [], ◌∷◌, length, fold}
use Rattle.nit_journal.specs.Below.{Configuration, Entry, routed_as}
use Rattle.nit_events.specs.declared.entry.Entry.TheVariants as entry
use Rattle.nit_journal.specs.Session.{serve}
use Rattle.nit_journal.specs.State.{State, first_state, session, route, after}

-- the state after all entries of a list, from this one on
abbrev pub replay_from : State → List Entry → State
replay_from s journal = fold after s journal

-- the state that a journal leads to
abbrev pub replay : Configuration → List Entry → State
replay config journal = replay_from (first_state config) journal

-- how many shots were taken
abbrev pub shots : List Entry → ℕ
shots [] = 0
shots (entry.Shot number ∷ rest) = suc (shots rest)
shots (other ∷ rest) = shots rest

-- An entry agrees with the state before it, and with the number of shots before it: a call is one
-- of a session and has its machine's reply; a device event is routed as the state says; shots count
-- from 1.
abbrev pub Agrees : State → ℕ → Entry → Type 0
Agrees s taken (entry.Call sid call r) =
    (sid < length s.sessions) × (r ≡ (serve (session s sid) call).reply)
Agrees s taken (entry.Input dev routed) =
    routed ≡ routed_as (route s.config s.input s.stack dev).deliveries
Agrees s taken (entry.Shot number) = number ≡ taken + 1
Agrees s taken entry.Final = Unit {0}

-- each entry agrees with the state that those before it lead to, and `Final` stands nowhere but at
-- the end
abbrev pub LegalFrom : State → ℕ → List Entry → Type 0
LegalFrom s taken [] = Unit {0}
LegalFrom s taken (entry.Call sid call r ∷ rest) =
    Agrees s taken (entry.Call sid call r) × LegalFrom (after s (entry.Call sid call r)) taken rest
LegalFrom s taken (entry.Input dev routed ∷ rest) =
    Agrees s taken (entry.Input dev routed)
    × LegalFrom (after s (entry.Input dev routed)) taken rest
LegalFrom s taken (entry.Shot number ∷ rest) =
    Agrees s taken (entry.Shot number) × LegalFrom s (taken + 1) rest
LegalFrom s taken (entry.Final ∷ rest) = rest ≡ []

abbrev pub IsLegal : Configuration → List Entry → Type 0
IsLegal config journal = LegalFrom (first_state config) 0 journal

-- the last picture was not taken yet
abbrev pub IsOpen : List Entry → Type 0
IsOpen [] = Unit {0}
IsOpen (entry.Final ∷ rest) = ⊥
IsOpen (other ∷ rest) = IsOpen rest
