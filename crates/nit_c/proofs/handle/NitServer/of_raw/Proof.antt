-- `of_raw` keeps what the raw box owns.
use Rattle.std.proofs.Common.{◌≡◌, List, [], ◌∷◌, refl, sym}
use Rattle.nit_c.proofs.Lemmas.{ !, Goes-dropped, Is, Owning, RawPtr-laws, Stays, Struct}
use Rattle.nit_c.proofs.Lemmas.{Tells-lowered, Val, agg, alloc_all, and_then, done, drop, ends_at}
use Rattle.nit_c.proofs.Lemmas.{enter, fact, fld, free_all, fsep, fsplit, ftrue, get, get_in, heard}
use Rattle.nit_c.proofs.Lemmas.{held_owns, join, keep, kept_row, live_mark, look_at, move, no_more}
use Rattle.nit_c.proofs.Lemmas.{nothing, of_opd, owner_in, owner_typed, pass_all, plain, proved}
use Rattle.nit_c.proofs.Lemmas.{ptr_val, qed, raw, rawptr_Lawful, returns, rewrite, row, says_two}
use Rattle.nit_c.proofs.Lemmas.{sets, shape, split, stay_dropped, stop, sub, suffices, to, u64}
use Rattle.nit_c.proofs.Lemmas.{uint_Tells, uint_vals, vcons, vint, vnil, vstruct, w64, whole, yes}
use Rattle.nit_c.proofs.Lemmas.{‵, ◌$◌, ◌∵◌, ◌⊛◌}
use Rattle.nit_c.specs.contracts.raw_box.RawBox as RawBox
use Rattle.nit_c.specs.contracts.handle.NitServer as NitServer
use Rattle.nit_c.proofs.handle.NitServer.TheLaws as laws
use Rattle.nit_c.specs.contracts.handle.NitServer.of_raw as f
use Rattle.nit_c.proofs.handle.NitServer.of_raw.Statement.{statement}
use Rattle.nit_c.proofs.handle.NitServer.of_raw.Code as code

abbrev From : Owning
From = RawBox.the_type kept_row

-- the machine value of a raw box
abbrev raw_vals : (row From).Denot → List Val
raw_vals p = vstruct (vcons (ptr_val p.at) vnil) ∷ []

abbrev stayed : Stays f.ended.signature.params f.ended.kept
stayed = (stay_dropped (plain (λ _. row From)) yes, (stay_dropped (plain (λ _. u64)) yes, tt))

pub of_raw_spec : {M : Type 1} → statement M
of_raw_spec 𝓤 𝓛 𝓜 𝓡 wired =
    let c = f.clauses 𝓛 𝓜.mem 𝓡.returns in
    proved 𝓛 f.ended stayed c 𝓜 𝓡 (
      Goes-dropped 𝓛 0 (plain (λ _. row From)) yes (λ κs x w. refl),
      (Goes-dropped 𝓛 0 (plain (λ _. u64)) yes (λ κs x w. refl), tt),
    )
    f.Key.name code.function (code.unfolded 𝓤 𝓛.H 𝓜 𝓡 wired)
    (λ κs. (raw_vals, (uint_vals w64, tt))) (λ κs. (Tells-lowered From (RawPtr-laws, tt), (uint_Tells w64, tt)))
    (λ κs qs bounds a _ are.
    let p = a.0 in let n = a.1.0 in let vs = raw_vals p in
    let To = NitServer.the_type in let made : To.D = record { at = p.at; mark = n; value = p.value } in
    let w : Val = laws.lowered made in
    let is_made : Is (Struct (shape To)) (to To made) (w ∷ []) =
    ((ptr_val p.at ∷ [], (vint w64 n ∷ [], tt)), (refl, (refl, ((refl, are.1.0.1), tt)))) in
    qed 𝓛 ((‵ ftrue ⊛ ‵ (fsep ((row From).own_val p vs) (fsep (u64.own_val n (vint w64 n ∷ [])) ftrue)))
    ∷ raw (fact 𝓤 (n ≡ live_mark)) ∷ []) ∵
    move ! (1 ∷ []) $ heard ! _ (λ is_live. split ! $ drop ! $ fsplit ! $ fsplit ! $ keep ! (1 ∷ []) $
    rewrite ! 0 (λ m. ‵ (held_owns m p.at p.value)) (sym is_live) refl $ owner_in To !
    (λ p vs. tt, (λ n vs. (tt, tt), tt)) made (w ∷ []) is_made $
    enter ! _ _ _ _ _ $ alloc_all !
    (λ l. pass_all ! refl (
      (owner_typed 𝓛 From (RawPtr-laws, tt) p vs are.0.0).0,
      ((tt, record { fits = are.1.0.1 }), tt),
    ) $
    sets ! (of_opd ! (get_in ! (fld ! refl (stop !)) (sub ! 0 refl (whole !)))) refl
    ((rawptr_Lawful 𝓛).typed p.at _ refl).0 $
    sets ! (of_opd ! (get ! refl)) refl ((rawptr_Lawful 𝓛).typed p.at _ refl).0 $
    sets ! (agg ! (and_then ! (get ! refl) (and_then ! (get ! refl) (no_more !)))) refl
    (owner_typed 𝓛 To laws.the_laws made (w ∷ []) is_made).0 $
    returns ! (look_at ! 0 refl) $ free_all ! refl $
    suffices ! _ (ends_at 𝓛 f.ended stayed c ((κs, qs, bounds, a, (vs, (vint w64 n ∷ [], tt))), tt) w made
    (tt, (tt, tt)) (tt, (tt, tt))) $ says_two ! (is_live, refl) $
    nothing ! $ nothing ! $ join ! $ nothing ! $ join ! $ nothing ! $ done !)))
