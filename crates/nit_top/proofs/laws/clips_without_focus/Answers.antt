use Rattle.nit_top.proofs.laws.clips_without_focus.Goals as goal

pub returns : goal.returns
returns c = λ old name journal run.
    let file = run.added_are in
    let list = file.1 in (
      list.0,
      list.1,
      rw (file.2, list.2) at run.puts_are,
      λ sid never. c.sessions_without_focus.ensures run.setup.config journal list.0 sid list.1.legal never,
    )
