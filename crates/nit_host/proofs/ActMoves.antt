-- What acts do to the focus, to the mode and to the codes that are held.
use Rattle.std.proofs.Common.{None, Option, Some, ap, inl, inr, length, refl, ℕ, ◌≡◌, ◌≢◌, ◌⊎◌}
use Rattle.nit_host.proofs.Basics.{Act, AreLive, Call, Calls, Client, Comes, Configuration, Device}
use Rattle.nit_host.proofs.Basics.{Does, HostModel, IsClickBy, IsFirst, Looks, Puts, Refreshes}
use Rattle.nit_host.proofs.Basics.{Reply, SwitchesMode, TakesFocus, after_act, called, cond_both}
use Rattle.nit_host.proofs.Basics.{first_host, first_state, input_after_call, is_accepted}
use Rattle.nit_host.proofs.Basics.{is_held_after, length-map, put, refreshed, reply_to, route}
use Rattle.nit_host.proofs.Basics.{seated, told, unless_for, unseated, unserved_call}
use Rattle.nit_host.proofs.Basics.{unserved_input, unserved_refresh, unserved_restack, vacant_state}
use Rattle.nit_host.proofs.ActLemmas.{same_call}
use Rattle.nit_host.proofs.UserMoves.{focus_comes, focus_goes, forgets, forgotten_gone, held_moves}
use Rattle.nit_host.proofs.UserMoves.{mode_moves, moved}
use Rattle.nit_events.specs.declared.call.Call.TheVariants as call
use Rattle.nit_events.specs.Input

-- ---- by any act

-- a client that leaves is forgotten; a device event moves the input; nothing else does
pub data ByAct (h : HostModel) (act : Act) : Input.InputState → Type 0 where
  Stays : ByAct h act h.state.input
  Closes : (client : Client) → act ≡ Calls client call.Close → ByAct h act (Input.forget h.state.input client.seat)
  Tells : (dev : Device) → act ≡ Does dev → ByAct h act (route h.state.config h.state.input h.state.stack dev).state

-- what is not served leaves the input
unless : {A : Type 0} (o : Option A) (h served : HostModel) (act : Act)
    → ByAct h act served.state.input → ByAct h act (unless_for o served h).state.input
unless None h served act is = is
unless (Some why) h served act is = Stays

by_call : (h : HostModel) (client : Client) (asked : Call) (r : Reply)
    → ByAct h (Calls client asked) (input_after_call client.seat asked r h.state.input)
by_call h client call.Close r =
    cond_both (is_accepted r) _ _ (λ i. ByAct h (Calls client call.Close) i) (λ yes. Closes client refl) (λ no. Stays)
by_call h client other r = Stays

by_act : (h : HostModel) (act : Act) → ByAct h act (after_act h act).state.input
by_act h (Calls client asked) =
    unless (unserved_call h client asked) h (called client.seat asked h) _
    (by_call h client asked (reply_to h client.seat asked))
by_act h (Refreshes client x y w height words) =
    unless (unserved_refresh h client words) h (refreshed client.seat x y w height words h) _
    (rw (same_call h client.seat x y w height words) Stays)
by_act h (Puts side client view) =
    unless (unserved_restack h client view) h (put side client.seat view h) _ Stays
by_act h (Does dev) = unless (unserved_input h dev) h (told dev h) _ (Tells dev refl)
by_act h (Comes seat label) = unless (unseated h seat label) h (seated seat label h) _ Stays
by_act h Looks = Stays

-- ---- the laws

module _ (h : HostModel) (act : Act) where
  pub mode_by_act : ((after_act h act).state.input.mode ≡ h.state.input.mode) ⊎ SwitchesMode act h.state
  mode_by_act = goes (by_act h act)
    where
      goes : {i : Input.InputState} → ByAct h act i → (i.mode ≡ h.state.input.mode) ⊎ SwitchesMode act h.state
      goes (Tells dev is) = rw is (mode_moves h.state dev (moved h.state dev))
      goes other = inl refl

  pub comes_by_act : (x : ℕ) → (after_act h act).state.input.focus ≡ Some x
      → (h.state.input.focus ≡ Some x) ⊎ IsClickBy act h.state x
  comes_by_act x = goes (by_act h act)
    where
      goes : {i : Input.InputState} → ByAct h act i → i.focus ≡ Some x
          → (h.state.input.focus ≡ Some x) ⊎ IsClickBy act h.state x
      goes Stays here = inl here
      goes (Closes client is) here = inl (forgotten_gone client.seat h.state.input.focus x here)
      goes (Tells dev is) here = rw is (focus_comes h.state dev x (moved h.state dev) here)

  pub goes_by_act : (x : ℕ) → h.state.input.focus ≡ Some x
      → ((after_act h act).state.input.focus ≡ Some x) ⊎ TakesFocus act h.state x
  goes_by_act x has = goes (by_act h act)
    where
      goes : {i : Input.InputState} → ByAct h act i → (i.focus ≡ Some x) ⊎ TakesFocus act h.state x
      goes Stays = inl has
      goes (Closes client is) =
          elim (forgets client.seat h.state.input.focus x has) [
            | inl stays ↦ inl stays
            | inr own ↦ inr (rw is (own, refl))
          ]
      goes (Tells dev is) = rw is (focus_goes h.state dev x has (moved h.state dev))

  pub held_by_act : ((dev : Device) → act ≢ Does dev) → (after_act h act).state.input.held ≡ h.state.input.held
  held_by_act other_act = goes (by_act h act)
    where
      goes : {i : Input.InputState} → ByAct h act i → i.held ≡ h.state.input.held
      goes (Tells dev is) = absurd (other_act dev is)
      goes other = refl

-- what is served of a device event is its step
pub as_told : (h : HostModel) (dev : Device) → unserved_input h dev ≡ None → after_act h (Does dev) ≡ told dev h
as_told h dev none = ap (λ o. unless_for o (told dev h) h) none

pub held_by_device : (h : HostModel) (dev : Device) (k : ℕ) → unserved_input h dev ≡ None
    → Input.is_held (after_act h (Does dev)).state.input k ≡ is_held_after dev k (Input.is_held h.state.input k)
held_by_device h dev k none = rw (as_told h dev none) (held_moves h.state dev k (moved h.state dev))

-- ---- before any act

-- what holds of the states that a host opens in holds of a first one
by_opening : (P : HostModel → Type 0) → ((config : Configuration) → P (first_host (vacant_state config) config))
    → ((config : Configuration) → P (first_host (first_state config) config)) → (h : HostModel) → IsFirst h → P h
by_opening P vacant taken h (config, inl is) = rw is (vacant config)
by_opening P vacant taken h (config, inr is) = rw is (taken config)

pub first_many : (h : HostModel) → IsFirst h → length h.state.sessions ≡ length h.state.config.clients
first_many =
    by_opening (λ h. length h.state.sessions ≡ length h.state.config.clients) (λ config. length-map config.clients _)
    (λ config. length-map config.clients _)

pub first_quiet : (h : HostModel) → IsFirst h → h.state.input ≡ Input.first_input
first_quiet = by_opening (λ h. h.state.input ≡ Input.first_input) (λ config. refl) (λ config. refl)

pub first_live : ((config : Configuration) → AreLive (vacant_state config))
    → ((config : Configuration) → AreLive (first_state config)) → (h : HostModel) → IsFirst h → AreLive h.state
first_live vacant taken = by_opening (λ h. AreLive h.state) vacant taken
