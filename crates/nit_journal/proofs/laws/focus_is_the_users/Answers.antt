use Rattle.nit_journal.proofs.Lemmas.{by_way, calls_keep, eq-eqb, inl, inr, refl, routed}
use Rattle.nit_journal.proofs.laws.focus_is_the_users.Goals as goal

pub returns : goal.returns
returns c =
    record {
      calls = calls_keep;
      closed = λ s sid r yes_ focused. rw (yes_, focused, eq-eqb sid sid refl) refl;
      clicks = λ s dev into x e.
          let w = routed s.config s.input s.stack dev in
          elim (by_way _ _ _ dev x w.way e) [
            | inl before ↦ inl before
            | inr (k, is, button, plain, on, takes) ↦ (let at = w.stays k is in
                inr (k, is, button, plain, rw (at.0, at.1) at on, rw on at takes))
          ];
    }
