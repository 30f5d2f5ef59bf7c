use Rattle.std.proofs.Common.{List, [], arith, ℕ, ◌≡◌}
use Rattle.nit_report.proofs.Lemmas.{AppendsDraws, Line, appends_then, client_fits, client_lines}
use Rattle.nit_report.proofs.Lemmas.{first_phase, second_phase, seed}
use Rattle.nit_report.specs.Generator.{client_script}
use Rattle.nit_report.proofs.generated_client.client_script.Goals as goal
use Rattle.nit_report.proofs.generated_client.client_script.Goals.{In_ok-put_second_phase}

script_is : (n c s t u : ℕ) (xs ys zs : List Line) → xs ≡ [] → s ≡ seed n c → AppendsDraws first_phase s xs t ys
    → AppendsDraws second_phase t ys u zs → zs ≡ client_script n c
unfolding client_script
script_is n c s t u xs ys zs none at p q = rw (none, at) at (appends_then p q).values

are_its : (c : In_ok-put_second_phase) → c.put_second_phase.new.lines.items ≡ client_script c.args.n c.args.client
are_its c = script_is c.args.n c.args.client _ _ _ _ _ _ c.in_ok-lines.ensures.items c.new-stream.ensures
    c.in_ok-put_first_phase.ensures c.in_ok-put_second_phase.ensures

pub returns : goal.returns
returns c = are_its c

pub invariant_of-result : goal.invariant_of-result
invariant_of-result c =
    rw (are_its c) (client_fits c.args.n c.args.client, (let few = client_lines c.args.n c.args.client in omega arith))
