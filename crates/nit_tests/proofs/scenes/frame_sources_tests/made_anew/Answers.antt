use Rattle.std.proofs.Common.{rules, ◌≡◌, ℕ, List, ◌∷◌, [], length, refl, ap, subst}
use Rattle.std.specs.Prelude.{IfSome, Option}
use Rattle.nit_tests.proofs.LookLemmas.{look_of_two}
use Rattle.nit_tests.proofs.scenes.frame_sources_tests.made_anew.Goals as goal

pub frame_into-requires : goal.frame_into-requires
frame_into-requires g c =
    let a : c.expect.result ≡ 97 ∷ 98 ∷ [] =
    subst (λ (r : Option (List ℕ)). IfSome r (λ l. l ≡ 97 ∷ 98 ∷ [])) c.expect.ensures c.new.ensures.bytes in
    let b : c.expect-2.result ≡ 98 ∷ [] =
    subst (λ (r : Option (List ℕ)). IfSome r (λ l. l ≡ 98 ∷ [])) c.expect-2.ensures c.new-2.ensures.bytes in
    record {
      look = look_of_two _ c.args.back c.args.front c.expect.result c.expect-2.result c.place_label.result
          c.place_label-2.result
          c.screen-stack.ensures refl refl refl
          (ap length a) (ap length b) c.place_label.ensures.place c.place_label-2.ensures.place;
      raw = search rules;
      out = search rules;
      words = c.are_words.ensures (search rules);
    }
