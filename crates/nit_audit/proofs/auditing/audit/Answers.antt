use Rattle.nit_audit.proofs.Lemmas.{IsGood, IsLegal, IsVerdict, IsWhole, calls_to_make, if_ok}
use Rattle.nit_audit.proofs.Lemmas.{if_ok_yes, map, only_one, user_actions_to_do}
use Rattle.nit_audit.proofs.auditing.audit.Goals as goal

pub returns-clause-only : goal.returns-clause-only
returns-clause-only c = if_ok _ _ c.judged.result (λ v h other h'. only_one c.args.config.now
    (map calls_to_make c.args.scripts.now) (user_actions_to_do c.args.input.now) c.args.entries.now v other h h')
    c.judged.ensures

pub returns-clause-whole : goal.returns-clause-whole
returns-clause-whole c =
    let calls = map calls_to_make c.args.scripts.now in
    let actions = user_actions_to_do c.args.input.now in
    let law = c.yes_is_legal_and_whole.ensures in
    if_ok_yes (IsVerdict (IsGood c.args.config.now c.args.scripts.now c.args.input.now) c.args.entries.now)
    (IsLegal c.args.config.now c.args.entries.now × IsWhole calls actions c.args.entries.now)
    c.judged.result c.judged.ensures (returns-clause-only c)
    (law.says c.args.config.now calls actions c.args.entries.now)
    (λ j. law.comes c.args.config.now calls actions c.args.entries.now j.0 j.1)

pub returns-clause-alone : goal.returns-clause-alone
returns-clause-alone c is s inside =
    c.yes_is_served_alone.ensures c.args.config.now (map calls_to_make c.args.scripts.now)
    (user_actions_to_do c.args.input.now) c.args.entries.now s
    (rw is at c.judged.ensures) inside
