use Rattle.nit_screen.proofs.Lemmas.{arith, nat_tests, quiet_call, quiet_shown, refl, state_of}
use Rattle.nit_screen.proofs.Lemmas.{unpainted}
use Rattle.nit_events.specs.declared.entry.Entry.TheVariants as entry
use Rattle.nit_screen.proofs.screen.Screen.serve_quiet.Goals as goal

pub invariant_of-self : goal.invariant_of-self
invariant_of-self c = grind (arith, nat_tests, quiet_shown)

pub returns : goal.returns
returns c =
    let s = state_of c.self.inside.server in
    let s' = state_of c.accept-reply.new.self in
    rw (← c.self.view_is) (record {
      served = c.accept-reply.ensures;
      raw = refl;
      painted = λ sights raw. unpainted s (entry.Call c.args.sid c.args.call.now c.accept-reply.result) s'
          (λ p. quiet_call s s' _ _ _ p c.requires.quiet);
    })
