use Rattle.nit_perform.proofs.Lemmas.{film_stays, other_names}
use Rattle.nit_perform.proofs.film_store.FilmStoreStore.put.Goals as goal

pub invariant_of-self : goal.invariant_of-self
invariant_of-self g c =
    let self = c.args.self.now in
    let reel = self.reel in
    record {
      same = self.same;
      screen = self.screen;
      tie = film_stays reel.whole g.F.Filming.begun reel.film.capture _ reel.film.bytes.items
          (g.S.Store.shown self.store.now) (g.S.Store.shown c.put.new.self) c.args.name.now c.args.bytes.now
          c.put.result
          (other_names c.args.name.now c.is_picture_name.result reel.count reel.ended c.if-not-is_picture_name.true
          c.is_picture_name.ensures.shots c.is_picture_name.ensures.last) c.put.ensures.answer self.tie;
    }
