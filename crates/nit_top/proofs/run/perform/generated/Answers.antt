use Rattle.nit_top.proofs.Lemmas.{Stop, ap, generated_ends, generated_runnable, made_in_part}
use Rattle.nit_top.proofs.Lemmas.{made_whole, none_is, nothing_made, rules, same_unmade, sym}
use Rattle.nit_top.proofs.Lemmas.{unmade_runnable, ◌∙◌}
use Rattle.nit_top.proofs.run.perform.generated.Goals as goal

pub returns-in_default : goal.returns-in_default
returns-in_default g c = nothing_made c.args.number (g.S.Store.shown c.args.store.now)
    (ap (λ (s : Stop). s.end) c.ended_before_run.ensures.stop ∙ c.nowhere.ensures.0) c.ended_before_run.ensures.journal

pub returns-then-is_some : goal.returns-then-is_some
returns-then-is_some g c =
    made_in_part c.args.number (g.S.Store.shown c.args.store.now) c.put_files-fault.result
    (sym c.is_some.ensures ∙ c.if-is_some.true) c.put_files-fault.ensures
    (ap (λ (s : Stop). s.end) c.ended_before_run-then-is_some.ensures.stop ∙ c.stop_after.ensures.end) (search rules)
    c.ended_before_run-then-is_some.ensures.journal

pub returns-in_default-read_files : goal.returns-in_default-read_files
returns-in_default-read_files g c =
    made_whole c.args.number (g.S.Store.shown c.args.store.now)
    (rw (none_is c.put_files-fault.result (sym c.is_some.ensures ∙ c.if-is_some.false)) at c.put_files-fault.ensures)
    (ap (λ (s : Stop). s.end) c.ended_before_run-in_default-read_files.ensures.stop
    ∙ c.nowhere-in_default-read_files.ensures.0)
    c.ended_before_run-in_default-read_files.ensures.journal

pub returns-in_default-gen_config : goal.returns-in_default-gen_config
returns-in_default-gen_config g c =
    made_whole c.args.number (g.S.Store.shown c.args.store.now)
    (rw (none_is c.put_files-fault.result (sym c.is_some.ensures ∙ c.if-is_some.false)) at c.put_files-fault.ensures)
    (ap (λ (s : Stop). s.end) c.ended_before_run-in_default-gen_config.ensures.stop
    ∙ c.nowhere-in_default-gen_config.ensures.0)
    c.ended_before_run-in_default-gen_config.ensures.journal

pub perform_beside-requires-after_bounds : goal.perform_beside-requires-after_bounds
perform_beside-requires-after_bounds g c κs within =
    let n = c.args.number in
    let config = c.in-Ok-gen_config.ensures in
    let scripts = c.in-Ok-read_files.ensures in
    rw (same_unmade n _ _ _ config.config scripts.clients scripts.input)
    (unmade_runnable n (generated_runnable n (c.generated_client_counts.ensures.lines n)
    (c.generated_client_counts.ensures.phases n) (c.generated_user_counts.ensures.lines n)
    (c.generated_user_counts.ensures.phases n) _ c.in-Ok.ensures.reads c.in-Ok.ensures.user_reads.0 config.config
    config.configured))

pub returns : goal.returns
returns g c =
    let n = c.args.number in
    let config = c.in-Ok-gen_config.ensures in
    let scripts = c.in-Ok-read_files.ensures in
    generated_ends n (g.S.Store.shown c.args.store.now)
    (generated_runnable n (c.generated_client_counts.ensures.lines n)
    (c.generated_client_counts.ensures.phases n) (c.generated_user_counts.ensures.lines n)
    (c.generated_user_counts.ensures.phases n) _ c.in-Ok.ensures.reads c.in-Ok.ensures.user_reads.0 config.config
    config.configured)
    c.puts_go_on.ensures.both c.headline.ensures
    (rw (none_is c.put_files-fault.result (sym c.is_some.ensures ∙ c.if-is_some.false)) at c.put_files-fault.ensures)
    (rw (same_unmade n _ _ _ config.config scripts.clients scripts.input) at c.perform_beside.ensures)
