use Rattle.nit_top.proofs.Lemmas.{inl}
use Rattle.nit_top.proofs.run.perform.perform_beside.Goals as goal

pub returns : goal.returns
returns g c =
    let has = rw c.as_slice-clients.ensures.value at c.in-Ok.ensures in
    inl (record {
      ran = c.in-Ok.ran;
      has_run = has;
      headline = c.headline.ensures _ _ has.outputs c.requires has.journal has.are;
      end_is = c.after.ensures.end;
      name_is = c.after.ensures.name;
      journal_is = c.after.ensures.journal;
      clients_are = rw c.as_slice-clients.ensures.value at c.after.ensures.clients;
      frames_are = c.after.ensures.frames;
    })
