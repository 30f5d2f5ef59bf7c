use Rattle.std.proofs.Common.{refl, rules, subst, true, ◌≡◌}
use Rattle.nit_perform.proofs.Lemmas.{HasFilmed, IsFilmEnd, StoreModel, film_leaves, setup_of}
use Rattle.nit_perform.proofs.capture.run_filmed.Goals as goal

pub returns-in_default : goal.returns-in_default
returns-in_default g c = λ region same.
    let stays = rw c.in_default.is at c.film_named-store.ensures.ran in
    subst (λ (new : StoreModel). new ≡ g.S.Store.shown c.args.store.now) (search rules) stays

pub returns : goal.returns
returns g c = λ region same.
    let shown = g.S.Store.shown in
    let reel = c.film_named-store.result.reel in
    let s = setup_of c.args.config.now c.args.scripts.now.clients.items c.args.scripts.now.input true true in
    let ran = c.in-Ok.ran in
    let end = c.end_film in
    let has = rw c.in-Ok.is at c.film_named-store.ensures.ran in
    let ends : IsFilmEnd region s c.args.film.capture reel.film.capture reel.count reel.ended reel.whole
    c.has_all-whole.result reel.film.bytes.items (shown c.film_named-store.result.store.now)
    (shown end.new.store) ran.frames ran.fault end.result.fault =
    assumption (same, c.film_named-store.ensures.film, c.has_all-whole.ensures, end.ensures) in
    subst (λ (new : StoreModel). HasFilmed region (shown c.args.store.now) s new end.result.journal.items
    end.result.frames end.result.fault) {x = shown end.new.store} (search rules)
    (rw (end.ensures.same.journal, end.ensures.same.frames) (film_leaves has ends refl refl refl))
