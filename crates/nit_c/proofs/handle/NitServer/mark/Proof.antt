-- `mark` reads a field behind the reference.
use Rattle.std.proofs.Common.{List, [], ◌∷◌, refl, sym}
use Rattle.nit_c.proofs.Lemmas.{ !, Goes-ref, MutRef, Stays, Val, alloc_all, cell_at, closes, done}
use Rattle.nit_c.proofs.Lemmas.{ends_at, enter, fld, flft, frame, free_all, fsplit3, ftrue}
use Rattle.nit_c.proofs.Lemmas.{full_share, group, join, keep, load, look_at, look_in, move}
use Rattle.nit_c.proofs.Lemmas.{mut_Tells, mut_vals, named, nothing, of_opd, opens, owned, pass_all}
use Rattle.nit_c.proofs.Lemmas.{peeks, plain, proved, qed, returns, rewrite, says_two, sets, shows}
use Rattle.nit_c.proofs.Lemmas.{split, stay_ref, stop, sub, suffices, through, u64, uint_Makes}
use Rattle.nit_c.proofs.Lemmas.{vint, w64, walk_of, whole, ‵, ◌$◌, ◌∵◌, ◌⊛◌}
use Rattle.nit_c.specs.contracts.handle.NitServer.{the_row as R}
use Rattle.nit_c.specs.contracts.handle.NitServer.mark as f
use Rattle.nit_c.proofs.handle.NitServer.TheLaws.{lowers}
use Rattle.nit_c.proofs.handle.NitServer.mark.Statement.{statement}
use Rattle.nit_c.proofs.handle.NitServer.mark.Code as code

abbrev stayed : Stays f.ended.signature.params f.ended.kept
stayed = (stay_ref (0 ∷ []) tt (plain (λ _. R)), tt)

pub mark_spec : {M : Type 1} → statement M
mark_spec 𝓤 𝓛 𝓜 𝓡 wired =
    let c = f.clauses 𝓛 𝓜.mem 𝓡.returns in let W = walk_of 𝓛 f.ended stayed c in
    proved 𝓛 f.ended stayed c 𝓜 𝓡 (Goes-ref 𝓛 1 0 tt (plain (λ _. R)), tt)
    f.Key.name code.function (code.unfolded 𝓤 𝓛.H 𝓜 𝓡 wired)
    (λ κs. (mut_vals, tt)) (λ κs. (mut_Tells (named 0) κs.0 R, tt)) (λ κs qs bounds a _ are.
    let b = a.0.ref_ptr.0 in let o = a.0.ref_ptr.1 in let h = a.0.now in let vs = mut_vals a.0 in
    let y : W.Ghost = ((κs, qs, bounds, a, (vs, tt)), tt) in
    qed 𝓛 (((‵ (flft κs.0 qs.0) ⊛ ‵ ftrue) ⊛ ‵ ((MutRef (named 0) κs.0 R).own_val a.0 vs) ⊛ ‵ ftrue) ∷ ‵ ftrue ∷ []) ∵
    split ! $ split ! $ move ! (2 ∷ []) $ split ! $ keep ! (0 ∷ 2 ∷ []) $
    enter ! _ _ _ _ _ $ alloc_all ! (λ l. pass_all ! refl ((tt, tt), tt) $
    fsplit3 ! $ move ! (1 ∷ 2 ∷ 3 ∷ []) $ opens ! tt R b o (λ us.
    move ! (1 ∷ []) $ peeks ! R _ (shows 𝓛 R) h us (λ is.
    let word = lowers.val_is h us is in
    let Cell = λ (ws : List Val). ‵ (cell_at full_share R.mir ws b o) in
    move ! (1 ∷ []) $ rewrite ! 0 Cell word refl $
    -- [the struct's cell; the struct; the open borrow, in three entries]
    sets ! (of_opd ! (load ! (through ! refl (fld ! refl (stop !))) (look_in ! 0 (sub ! 1 refl (whole !))))) refl
    (tt, record { fits = is.0.1.1.1.0.1 }) $
    rewrite ! 0 Cell (sym word) refl $ closes ! tt R h us b o $
    returns ! (look_at ! 0 refl) $ free_all ! refl $ move ! (3 ∷ []) $
    suffices ! _ (ends_at 𝓛 f.ended stayed c y (vint w64 h.mark) h.mark (h, tt) (tt, tt)) $ says_two ! (refl, refl) $
    group ! 3 $ nothing ! $ move ! (1 ∷ 0 ∷ []) $ join ! $ nothing ! $ move ! (2 ∷ 0 ∷ []) $ join ! $ frame ! $ frame !
    $
    owned ! u64 _ (uint_Makes 𝓛 w64) h.mark _ (refl, is.0.1.1.1.0.1) $ done !))))
