use Rattle.nit_journal.proofs.Lemmas.{after_observations, donation_of, first_session, projection}
use Rattle.nit_journal.proofs.Lemmas.{refl, replies_both, replies_from, served_alone}
use Rattle.nit_journal.proofs.laws.two_worlds.Goals as goal

pub returns : goal.returns
returns c =
    record {
      same = λ c d js ks s t p q lt ld same seen.
          rw (served_alone c js s p lt, served_alone d ks t q ld, same, seen) refl;
      longer = λ c d js ks s t p q lt ld same more longer.
          let m = first_session (donation_of d t) in (
            replies_from (after_observations m (projection s js)) more,
            rw (served_alone d ks t q ld, longer, served_alone c js s p lt, same)
                (replies_both m (projection s js) more),
          );
    }
