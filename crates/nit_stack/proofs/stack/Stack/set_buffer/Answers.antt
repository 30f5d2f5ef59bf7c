use Rattle.nit_stack.proofs.Lemmas.{keeps_size, map-set, refl, size}
use Rattle.nit_stack.proofs.stack.Stack.set_buffer.Goals as goal

pub invariant_of-self : goal.invariant_of-self
invariant_of-self c =
    record {
      standing = rw map-set
          (keeps_size _ c.args.sid (size (c.args.w, c.args.h)) c.self.invariant.standing c.requires.size);
      space = c.self.invariant.space;
    }

pub returns : goal.returns
returns c = rw (← c.self.view_is, map-set) refl
