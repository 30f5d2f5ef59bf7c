-- `into_raw` hands on what a live handle owns.
use Rattle.std.proofs.Common.{◌≡◌, [], ◌∷◌, refl}
use Rattle.nit_c.proofs.Lemmas.{ !, Goes-dropped, Is, RawPtr-laws, Stays, Struct, Val, agg}
use Rattle.nit_c.proofs.Lemmas.{alloc_all, and_then, done, drop, ends_at, enter, fact, fld}
use Rattle.nit_c.proofs.Lemmas.{free_all, fsep, fsplit, ftrue, get, get_in, heard, held_owns, join}
use Rattle.nit_c.proofs.Lemmas.{keep, kept_row, live_mark, look_at, move, no_more, nothing, of_opd}
use Rattle.nit_c.proofs.Lemmas.{owner_in, owner_typed, pass_all, plain, proved, ptr_val, qed, raw}
use Rattle.nit_c.proofs.Lemmas.{rawptr_Lawful, returns, rewrite, says, sets, shape, split}
use Rattle.nit_c.proofs.Lemmas.{stay_dropped, stop, sub, suffices, to, vcons, vnil, vstruct, whole}
use Rattle.nit_c.proofs.Lemmas.{yes, ‵, ◌$◌, ◌∵◌, ◌⊛◌}
use Rattle.nit_c.specs.contracts.raw_box.RawBox as RawBox
use Rattle.nit_c.specs.contracts.handle.NitServer as NitServer
use Rattle.nit_c.proofs.handle.NitServer.TheLaws as laws
use Rattle.nit_c.specs.contracts.handle.NitServer.into_raw as f
use Rattle.nit_c.proofs.handle.NitServer.into_raw.Statement.{statement}
use Rattle.nit_c.proofs.handle.NitServer.into_raw.Code as code

abbrev stayed : Stays f.ended.signature.params f.ended.kept
stayed = (stay_dropped (plain (λ _. NitServer.the_row)) yes, tt)

pub into_raw_spec : {M : Type 1} → statement M
into_raw_spec 𝓤 𝓛 𝓜 𝓡 wired =
    let c = f.clauses 𝓛 𝓜.mem 𝓡.returns in
    proved 𝓛 f.ended stayed c 𝓜 𝓡 (Goes-dropped 𝓛 0 (plain (λ _. NitServer.the_row)) yes (λ κs x w. refl), tt)
    f.Key.name code.function (code.unfolded 𝓤 𝓛.H 𝓜 𝓡 wired)
    (λ κs. (λ d. laws.lowered d ∷ [], tt)) (λ κs. (laws.lowers.val_is, tt)) (λ κs qs bounds a _ are.
    let h = a.0 in let v = laws.lowered h in
    let To = RawBox.the_type kept_row in let made : To.D = record { at = h.at; value = h.value } in
    let w : Val = vstruct (vcons (ptr_val h.at) vnil) in
    let is_made : Is (Struct (shape To)) (to To made) (w ∷ []) = ((ptr_val h.at ∷ [], tt), (refl, (refl, tt))) in
    qed 𝓛 ((‵ ftrue ⊛ ‵ (fsep (NitServer.the_row.own_val h (v ∷ [])) ftrue)) ∷ raw (fact 𝓤 (h.mark ≡ live_mark)) ∷ []) ∵
    move ! (1 ∷ []) $ heard ! _ (λ is_live. split ! $ drop ! $ fsplit ! $ fsplit ! $ keep ! (1 ∷ []) $
    rewrite ! 0 (λ n. ‵ (held_owns n h.at h.value)) is_live refl $ owner_in To ! (λ p vs. tt, tt) made (w ∷ []) is_made
    $
    enter ! _ _ _ _ _ $ alloc_all !
    (λ l. pass_all ! refl ((owner_typed 𝓛 NitServer.the_type laws.the_laws h (v ∷ []) are.0.0).0, tt) $
    sets ! (of_opd ! (get_in ! (fld ! refl (stop !)) (sub ! 0 refl (whole !)))) refl
    ((rawptr_Lawful 𝓛).typed h.at _ refl).0 $
    sets ! (of_opd ! (get ! refl)) refl ((rawptr_Lawful 𝓛).typed h.at _ refl).0 $
    sets ! (agg ! (and_then ! (get ! refl) (no_more !))) refl
    (owner_typed 𝓛 To (RawPtr-laws, tt) made (w ∷ []) is_made).0 $
    returns ! (look_at ! 0 refl) $ free_all ! refl $
    suffices ! _ (ends_at 𝓛 f.ended stayed c ((κs, qs, bounds, a, (v ∷ [], tt)), tt) w made (tt, tt) (tt, tt)) $ says !
    refl $
    nothing ! $ nothing ! $ join ! $ nothing ! $ done !)))
