use Rattle.nit_top.proofs.Lemmas.{Configuration, InputLine, Line, idle_user, inl, performed_ends}
use Rattle.nit_top.proofs.Lemmas.{rules, setup_of, still_configuration, still_setup, stopped_ends}
use Rattle.std.proofs.Common.{◌≡◌, false, ◌∷◌, [], ℕ, List, refl}
use Rattle.nit_top.proofs.run.perform.still.Goals as goal

same_setup : (width height : ℕ) (config : Configuration) (lines : List Line) (input : List InputLine)
    → config ≡ still_configuration width height → input ≡ idle_user lines
    → setup_of config (lines ∷ []) input false false ≡ still_setup width height lines
same_setup width height config lines input c i = rw (c, i) refl

pub returns-in-Err : goal.returns-in-Err
returns-in-Err g c =
    stopped_ends c.in-Err.ensures c.ended_before_run.ensures.stop c.ended_before_run.ensures.journal

pub run_one-requires-clause-runnable : goal.run_one-requires-clause-runnable
run_one-requires-clause-runnable g c =
    let read = c.in-Ok.read in
    let h = c.in-Ok.ensures in
    rw (same_setup c.args.width c.args.height read.config read.client read.input h.config h.input)
    h.read.valid.runnable

pub run_one-requires-clause-alone : goal.run_one-requires-clause-alone
run_one-requires-clause-alone g c = (c.in-Ok.read.client, refl, c.in-Ok.ensures.input)

pub returns-in_default : goal.returns-in_default
returns-in_default g c =
    let read = c.in-Ok.ensures.read in
    performed_ends (λ s journal files are. refl, λ config. refl) read.asked read.valid (search rules)

pub returns : goal.returns
returns g c =
    let read = c.in-Ok.read in
    let h = c.in-Ok.ensures in
    let has = rw (same_setup c.args.width c.args.height read.config read.client read.input h.config h.input)
    at c.in-Ok-run_one.ensures in
    performed_ends (λ s journal files are. refl, λ config. refl) h.read.asked h.read.valid
    (inl (record {
      ran = c.in-Ok-run_one.ran;
      has_run = has;
      headline = c.headline.ensures _ _ has.outputs h.read.valid.runnable has.journal has.are;
      end_is = c.after.ensures.end;
      name_is = c.after.ensures.name;
      journal_is = c.after.ensures.journal;
      clients_are = c.after.ensures.clients;
      frames_are = c.after.ensures.frames;
    }))
