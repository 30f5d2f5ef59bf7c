use Rattle.std.proofs.Common.{IfOk, [], subst, ◌∷◌, ◌≡◌}
use Rattle.nit_tests.proofs.OpeningLemmas.{one_done, one_of, one_pair}
use Rattle.nit_tests.proofs.scenes.acting.run_one_here.Goals as goal

pub run_pairs_here-requires-clause-pairs : goal.run_pairs_here-requires-clause-pairs
run_pairs_here-requires-clause-pairs g c =
    let parts = g.N.Name.parts in
    one_of parts c.expect-pairs.result.items (record { pass = c.only-pass.result; clip = c.only-clip.result })
    (subst (λ r. IfOk r (λ v. v.items ≡ record { pass = c.only-pass.result; clip = c.only-clip.result } ∷ []))
    c.expect-pairs.ensures c.from_array.ensures.items)
    (one_pair parts c.args.passes.items c.args.clips.items c.only-pass.result c.only-clip.result c.only-pass.ensures
    c.only-clip.ensures c.requires.passes c.requires.clips c.requires.together)

pub returns : goal.returns
returns g c =
    let parts = g.N.Name.parts in
    one_done parts c.args.clips.items c.expect-pairs.result.items c.run_pairs_here.new.pairs.items
    (record { pass = c.only-pass.result; clip = c.only-clip.result }) c.only-pass-2.result c.only-clip.ensures
    (subst (λ r. IfOk r (λ v. v.items ≡ record { pass = c.only-pass.result; clip = c.only-clip.result } ∷ []))
    c.expect-pairs.ensures c.from_array.ensures.items)
    c.only-pass-2.ensures c.requires.first c.requires.clips c.run_pairs_here.ensures.same c.run_pairs_here.ensures.done
