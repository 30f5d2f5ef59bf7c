use Rattle.nit_journal.proofs.Lemmas.{Any, any_of, ap, inl, inr, length, none_kills, route_step}
use Rattle.nit_journal.proofs.laws.kills_stand_alone.Goals as goal

pub returns : goal.returns
returns c config i stack dev some =
    elim (route_step Any config i stack dev (any_of i.receiver, any_of i.hover, any_of i.focus) (λ k d lt. tt)) [
      | inl h ↦ (let none = none_kills Any _ h.1 in cc)
      | inr h ↦ ap length h.alone
    ]
