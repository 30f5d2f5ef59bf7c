use Rattle.std.proofs.Common.{List, [], arith, refl, ℕ, ◌≡◌}
use Rattle.nit_report.proofs.Lemmas.{AppendsDraws, InputLine, appends_one, appends_then, just, seed}
use Rattle.nit_report.proofs.Lemmas.{user_fits, user_lines, user_phases}
use Rattle.nit_report.specs.Generator.{user_script}
use Rattle.nit_script.specs.declared.line.InputLine.TheVariants as input
use Rattle.nit_report.proofs.generated_user.user_script.Goals as goal
use Rattle.nit_report.proofs.generated_user.user_script.Goals.{In_ok-put_xray_shot}

script_is : (n s u : ℕ) (xs zs : List InputLine) → xs ≡ [] → s ≡ seed n 8 → AppendsDraws user_phases s xs u zs
    → zs ≡ user_script n
unfolding user_script
script_is n s u xs zs none at p = rw (none, at) at p.values

are_its : (c : In_ok-put_xray_shot) → c.put_xray_shot.new.lines.items ≡ user_script c.args.n
are_its c =
    let first = appends_one (just input.Phase) (refl, refl) c.in_ok-push.ensures in
    let second = appends_then (appends_then first c.in_ok-put_clicks.ensures)
    (appends_one (just input.Phase) (refl, refl) c.in_ok-push-2.ensures) in
    script_is c.args.n c.new-stream.result c.put_clicks.new.stream _ _ c.in_ok-lines.ensures.items c.new-stream.ensures
    (appends_then second (c.in_ok-put_xray_shot.ensures c.put_clicks.new.stream))

pub returns : goal.returns
returns c = are_its c

pub invariant_of-result : goal.invariant_of-result
invariant_of-result c = rw (are_its c) (user_fits c.args.n, (let few = user_lines c.args.n in omega arith))
