use Rattle.nit_top.proofs.Lemmas.{Ends, causes, command_of, ended_as, texts}
use Rattle.nit_top.proofs.top.nitpicker.Goals as goal
use Rattle.nit_top.proofs.top.nitpicker.Goals.{in-None, in-Some-Alone, in-Some-Beside}

pub returns : goal.returns
returns g c =
    let shown = g.S.Store.shown in
    let done : Ends (command_of c.parse_words-asked.result) (shown c.args.store.now)
    (shown c.match-asked.store) c.match-asked.worked =
    elim c.match-asked.branch [
      | in-Some-Alone w ↦
          let is = rw w.in-Some-Alone.is at w.in-Some-Alone.field-0-is in
          rw (w.store-is, w.worked-is, w.in-Some-Alone.is, is) w.work_alone-worked.ensures
      | in-Some-Beside w ↦
          let is = rw w.in-Some-Beside.is at w.in-Some-Beside.field-0-is in
          rw (w.store-is, w.worked-is, w.in-Some-Beside.is, is) w.work_beside-worked.ensures
      | in-None w ↦
          rw (w.store-is, w.worked-is, w.in-None.is) (w.no_command-worked.ensures (shown c.args.store.now))
    ] in
    causes c.generated_runs_count.ensures
    (record { made = c.names_differ.ensures.made; puts = c.names_differ.ensures.puts }) _ _ _ _ _
    (ended_as _ _ _ c.match-asked.worked _ _ c.parse_words-asked.result (texts c.args.words.now)
    c.parse_words-asked.ensures.some
    c.parse_words-asked.ensures.none done c.finish.ensures.said c.finish.ensures.journal)
