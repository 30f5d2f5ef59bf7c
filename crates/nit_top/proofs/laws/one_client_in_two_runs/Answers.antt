use Rattle.nit_top.proofs.Lemmas.{Configuration, Entry, IsLegal, IsSameClient, List, both_there}
use Rattle.nit_top.proofs.Lemmas.{same_events, same_text, ℕ}
use Rattle.nit_top.proofs.laws.one_client_in_two_runs.Goals as goal

pub returns : goal.returns
returns c =
    let replies = λ (a b : Configuration) (js ks : List Entry) (s t : ℕ) (legal : IsLegal a js)
    (other_legal : IsLegal b ks) (same : IsSameClient a b js ks s t).
    c.two_worlds.ensures.same a b js ks s t legal other_legal same.inside same.other_inside same.donation
    same.seen in
    let machines = c.machines_stand_alone.ensures in
    record {
      replies = replies;
      events = λ a b js ks s t legal other_legal same.
          same_events a b js ks s t legal other_legal (replies a b js ks s t legal other_legal same);
      text = λ a b js ks s t legal other_legal same.
          same_text a b js ks s t legal other_legal (replies a b js ks s t legal other_legal same) machines same;
      files = λ a b js ks fs gs s t runs j are texts other_runs k other_are other_texts same.
          both_there a.config b.config js ks s t j.legal k.legal
          (replies a.config b.config js ks s t j.legal k.legal same) machines same fs gs
          ((c.headline.ensures a js fs runs j are).texts texts)
          ((c.headline.ensures b ks gs other_runs k other_are).texts other_texts);
      runs = λ old other a b js ks run twin s t same.
          let left = run.setup.config in
          let right = twin.setup.config in
          let legal = run.headline.one_journal.legal in
          let other_legal = twin.headline.one_journal.legal in
          let alike = replies left right js ks s t legal other_legal same in (
            alike,
            same_events left right js ks s t legal other_legal alike,
            λ texts other_texts.
                both_there left right js ks s t legal other_legal alike machines same run.outputs twin.outputs
                (run.headline.texts texts) (twin.headline.texts other_texts),
          );
    }
