-- A refresh at a place that went through a call.
use Rattle.std.proofs.Common.{Bool, List, Some, nat_eq, subst, sym, true, ℕ, ℤ, ◌≡◌}
use Rattle.nit_c.proofs.Basics.{ByServer, Client, HostModel, IsRedrawn, IsRefreshed, NitReply}
use Rattle.nit_c.proofs.Basics.{NitServer, client_named, host_of, host_where, live_mark, only_kind}
use Rattle.nit_c.proofs.Basics.{server_by_handle}

pub at_place : (old new : NitServer) (client : ℕ) (x y x' y' : ℤ) (w h : ℕ) (words : List ℕ) (answer : NitReply)
    → x' ≡ x → y' ≡ y → IsRefreshed old new client x' y' w h words answer
    → IsRefreshed old new client x y w h words answer
at_place old new client x y x' y' w h words answer e f is =
    subst (λ (q : ℤ). IsRefreshed old new client x q w h words answer) f
    (subst (λ (p : ℤ). IsRefreshed old new client p y' w h words answer) e is)

pub refreshed_by : (old new : NitServer) (a b : HostModel) (client : ℕ) (named : Client) (x y x' y' : ℤ) (w h : ℕ)
    (words : List ℕ) (answer : NitReply) → nat_eq old.mark live_mark ≡ true → new.mark ≡ live_mark → old.value ≡ a
    → new.value ≡ b → named ≡ client_named client → x' ≡ x → y' ≡ y → IsRedrawn a b named x' y' w h words answer
    → IsRefreshed old new client x y w h words answer
refreshed_by old new a b client named x y x' y' w h words answer live live' before after who e f is =
    at_place old new client x y x' y' w h words answer e f
    (subst (λ (t : Bool). ByServer (host_where t old.value) (server_by_handle new) none step) (sym live)
    (subst (λ (n : ℕ). ByServer (Some old.value) (host_of n new.value) none step) (sym live')
    (subst (λ (p : HostModel). IsRedrawn p new.value (client_named client) x' y' w h words answer) (sym before)
    (subst (λ (p : HostModel). IsRedrawn a p (client_named client) x' y' w h words answer) (sym after)
    (subst (λ (c : Client). IsRedrawn a b c x' y' w h words answer) who is)))))
  where
    none : Type 0
    none = (new ≡ old) × (answer ≡ only_kind 0)

    step : HostModel → HostModel → Type 0
    step host g = IsRedrawn host g (client_named client) x' y' w h words answer
