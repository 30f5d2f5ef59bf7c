use Rattle.std.proofs.Common.{◌≡◌, ◌∷◌, ◌++◌, All, subst}
use Rattle.std.specs.Option.{option_to_list}
use Rattle.std.specs.Vec.Iter.{into_iter_items}
use Rattle.std.proofs.lemmas.List.Elements.{All-head, All-tail}
use Rattle.nit_hall.specs.Pass.{Belongs}
use Rattle.nit_hall.specs.ClipPass.{ClipBelongs}
use Rattle.nit_tests.proofs.scenes.actors.clients.Goals as goal

pub invariant_of-client : goal.invariant_of-client
invariant_of-client g c =
    let passes = subst (All (Belongs g.N.Name.parts)) c.in-Some.ensures.steps.0 c.loop-pass.invariant.passes in
    let more : into_iter_items c.loop-pass.clips ≡ c.expect.result ∷ into_iter_items c.next-in-loop-pass.new.self =
    subst (λ r. into_iter_items c.loop-pass.clips ≡ option_to_list r ++ into_iter_items c.next-in-loop-pass.new.self)
    c.expect.ensures c.next-in-loop-pass.ensures.items in
    let clips = subst (All (ClipBelongs g.N.Name.parts)) more c.loop-pass.invariant.clips in
    (All-head (Belongs g.N.Name.parts) _ _ passes, All-head (ClipBelongs g.N.Name.parts) _ _ clips)

pub loop-pass-preserved : goal.loop-pass-preserved
loop-pass-preserved g c =
    let more : into_iter_items c.loop-pass.clips ≡ c.expect.result ∷ into_iter_items c.next-in-loop-pass.new.self =
    subst (λ r. into_iter_items c.loop-pass.clips ≡ option_to_list r ++ into_iter_items c.next-in-loop-pass.new.self)
    c.expect.ensures c.next-in-loop-pass.ensures.items in
    record {
      can = tt;
      ends = tt;
      passes = All-tail (Belongs g.N.Name.parts) _ _
          (subst (All (Belongs g.N.Name.parts)) c.in-Some.ensures.steps.0 c.loop-pass.invariant.passes);
      clips = All-tail (ClipBelongs g.N.Name.parts) _ _
          (subst (All (ClipBelongs g.N.Name.parts)) more c.loop-pass.invariant.clips);
    }
