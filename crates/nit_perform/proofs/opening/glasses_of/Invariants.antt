use Rattle.std.proofs.Common.{map, ◌≡◌}
use Rattle.nit_perform.proofs.Lemmas.{donation_of, glass_after, range_with_len, script_in}
use Rattle.nit_perform.proofs.opening.glasses_of.Given as goal

abbrev pub invariant-loop-sid : goal.invariant-loop-sid
invariant-loop-sid l = l.glasses.items ≡ map (λ t. glass_after t (script_in l.scripts t) (donation_of l.config t) 0)
    (range_with_len 0 l.sid)
