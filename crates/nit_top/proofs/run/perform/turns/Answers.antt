use Rattle.nit_top.proofs.Lemmas.{false, inl, performed_ends, refl, rules, stopped_ends}
use Rattle.nit_top.proofs.run.perform.turns.Goals as goal

pub returns-in-Err : goal.returns-in-Err
returns-in-Err g c =
    stopped_ends (c.in-Err.ensures.run false) c.ended_before_run.ensures.stop c.ended_before_run.ensures.journal

pub run_turns-requires : goal.run_turns-requires
run_turns-requires g c = rw c.as_slice-clients.ensures.value (c.in-Ok.ensures.run false).valid.runnable

pub returns-in_default : goal.returns-in_default
returns-in_default g c =
    let r = c.in-Ok.ensures.run false in
    performed_ends (λ s journal files are. refl, λ config. refl) r.asked r.valid (search rules)

pub returns : goal.returns
returns g c =
    let r = c.in-Ok.ensures.run false in
    let has = rw c.as_slice-clients.ensures.value at c.in-Ok-run_turns.ensures in
    performed_ends (λ s journal files are. refl, λ config. refl) r.asked r.valid
    (inl (record {
      ran = c.in-Ok-run_turns.ran;
      has_run = has;
      headline = c.headline.ensures _ _ has.outputs r.valid.runnable has.journal has.are;
      end_is = c.after.ensures.end;
      name_is = c.after.ensures.name;
      journal_is = c.after.ensures.journal;
      clients_are = rw c.as_slice-clients.ensures.value at c.after.ensures.clients;
      frames_are = c.after.ensures.frames;
    }))
