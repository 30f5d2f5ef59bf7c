use Rattle.nit_perform.proofs.Lemmas.{before_shot, false, film_grows, one_shot_more, picture_names}
use Rattle.nit_perform.proofs.film_store.FilmStore.put_shot.Goals as goal

pub invariant_of-self-2 : goal.invariant_of-self-2
invariant_of-self-2 g c =
    let self = c.args.self.now in
    let reel = self.reel in
    let done = c.in_ok-put_filmed.ensures in
    let can = c.requires.can in
    record {
      same = self.same;
      screen = rw (done.screen, self.screen);
      tie = rw can.going (film_grows g.F.Filming.begun (picture_names reel.count false) reel.film.bytes.items
          (g.S.Store.shown self.store.now).files (g.S.Store.shown c.put_filmed.new.store).files c.args.name.now
          c.args.bytes.now (rw c.requires.name (before_shot reel.count can.few)) done.put.1 self.screen done.capture
          done.film (rw (can.is_whole, can.going) at self.tie) (rw (c.requires.name, one_shot_more reel.count)));
    }
