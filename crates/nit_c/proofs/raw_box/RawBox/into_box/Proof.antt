-- `into_box` hands what the raw box owns to `from_raw`.
use Rattle.std.proofs.Common.{◌≡◌, List, [], ◌∷◌, refl}
use Rattle.nit_c.proofs.Lemmas.{ !, Dict, Goes-dropped, Item, Lasts, Lfts, Owning, Ptr, RattleType}
use Rattle.nit_c.proofs.Lemmas.{RawPtr-laws, Stays, Tells-lowered, Ty, Val, a_type, after}
use Rattle.nit_c.proofs.Lemmas.{alloc_all, and_then, arg, arg_laws, at_ret, await, blocks}
use Rattle.nit_c.proofs.Lemmas.{calls_at_last, dict, dnil, done, drop, emp, ends_at, enter, env}
use Rattle.nit_c.proofs.Lemmas.{exec, fact, fact_i, feq_i, first, fjoin, fld, flft, framed}
use Rattle.nit_c.proofs.Lemmas.{free_all, fsep, fsplit, ftrue, full_share, get, get_in, ghosts}
use Rattle.nit_c.proofs.Lemmas.{glues, heard, id⊢, impl, inst_fn, join, keep, lands_last, lasts}
use Rattle.nit_c.proofs.Lemmas.{later, layout, layouts, lft_new, look_at, move, no, no_more}
use Rattle.nit_c.proofs.Lemmas.{nothing, of_opd, owner_typed, param, param_laws, pass_all, peeks}
use Rattle.nit_c.proofs.Lemmas.{pick, plain, proved, ptr_val, qed, raw, rawptr_Lawful, returns, row}
use Rattle.nit_c.proofs.Lemmas.{says, sets, shows, some, split, split3, stay_dropped, stop, sub}
use Rattle.nit_c.proofs.Lemmas.{suffices, tables, tcons, tells, tnil, triple_of, use0, use1, vals}
use Rattle.nit_c.proofs.Lemmas.{vcons, vnil, vstruct, walk_of, whole, yes, ‵, ⊑_static, ◌$◌, ◌∵◌}
use Rattle.nit_c.proofs.Lemmas.{◌⊑◌, ◌⊛◌}
use mir.Raw.{raw as bare}
use Rattle.std_heap.specs.contracts.Global as Heap
use Rattle.std_heap.proofs.Global.TheLaws as heap
use Rattle.std_heap.proofs.GlobalAllocator.TheImpl.Met as heap_met
use Rattle.std_alloc.specs.contracts.boxed.Box as Boxed
use Rattle.std_alloc.proofs.boxed.Box.TheLaws as boxed
use Rattle.std_alloc.specs.contracts.boxed.Box.from_raw as g
use Rattle.std_alloc.proofs.boxed.Box.from_raw.Met.{met}
use Rattle.nit_c.specs.contracts.raw_box.RawBox as RawBox
use Rattle.nit_c.specs.contracts.raw_box.RawBox.into_box as f
use Rattle.nit_c.proofs.raw_box.RawBox.into_box.Statement.{statement}
use Rattle.nit_c.proofs.raw_box.RawBox.into_box.Symbol as symbol
use Rattle.nit_c.proofs.Destruct++none.drop.Code as drop_code
use Rattle.nit_c.proofs.raw_box.RawBox.into_box.Code as code

pub into_box_spec : {M : Type 1} → statement M
unfolding drop_code.code
into_box_spec 𝓤 𝓛 𝓜 𝓡 wired T L =
    let given = layouts (a_type ∷ []) (T, tt) in let fn = inst_fn given code.function in let 𝓣 =
    tables 𝓤 𝓛.H 𝓜 𝓡 𝓡.env in
    let R : RattleType = param 0 T in let From : Owning = RawBox.the_type R in let B : RattleType =
    Boxed.the_row R Heap.the_row ghosts in
    let δ : Ty = bare (layout Heap.the_row) in let Z : RattleType = arg δ no Heap.the_row in let LZ =
    arg_laws δ no Heap.the_row heap.the_row_laws refl in
    let dd : Dict = impl ("nit_c::Destruct++none::drop" ∷ []) (tcons δ tnil) dnil in
    let c = f.clauses T 𝓛 𝓜.mem 𝓡.returns in let En = f.ended T in
    let Ge = g.ended T Z ghosts dict dd in let G =
    triple_of 𝓛 (g.signature T Z ghosts dict dd) (g.spec T Z ghosts dict dd 𝓛 𝓜.mem 𝓡.returns) in
    let allocator = heap_met.passed 𝓡.env (code.calls-std_heap::GlobalAllocator::allocate 𝓡.env wired)
    (code.calls-std_heap::GlobalAllocator::deallocate 𝓡.env wired)
    (code.calls-std_heap::GlobalAllocator::grow 𝓡.env wired) (code.calls-std_heap::GlobalAllocator::shrink 𝓡.env wired)
    _ 𝓤 𝓛 𝓜 𝓡 in
    let glue = glues "nit_c::Destruct++none::drop" 𝓡.env (code.calls-nit_c::Destruct++none::drop 𝓡.env wired) Z LZ _ 𝓤 𝓛
    𝓜 𝓡 in
    let known = met 𝓤 𝓛 𝓜 𝓡 (code.calls-std_alloc::boxed::Box::from_raw 𝓡.env wired) T Z L LZ ghosts dict dd allocator
    glue in
    let hs : Stays En.signature.params En.kept =
    (stay_dropped (plain (λ _. row From)) no, (stay_dropped (plain (λ _. Heap.the_row)) yes, tt)) in
    proved 𝓛 En hs c 𝓜 𝓡 (
      Goes-dropped 𝓛 1 (plain (λ _. row From)) no (λ κs x w. refl),
      (Goes-dropped 𝓛 1 (plain (λ _. Heap.the_row)) yes (λ κs x w. refl), tt),
    )
    (symbol.name given) fn (code.unfolded 𝓤 𝓛.H 𝓜 𝓡 wired (T, tt))
    (λ κs. ((λ p. vstruct (vcons (ptr_val p.at) vnil) ∷ []), (vals Heap.the_type heap.the_laws, tt)))
    (λ κs. (Tells-lowered From (RawPtr-laws, tt), (tells Heap.the_type heap.the_laws, tt))) (λ κs qs bounds a _ are.
    let p = a.0 in let alloc = a.1.0 in let x = p.value in let inT = κs.0 ⊑ T.lives in
    let ps : List Val = vstruct (vcons (ptr_val p.at) vnil) ∷ [] in let hv : List Val =
    vals Heap.the_type heap.the_laws alloc in
    let y : (walk_of 𝓛 En hs c).Ghost = ((κs, qs, bounds, a, (ps, (hv, tt))), tt) in
    qed 𝓛 (((‵ (flft κs.0 qs.0) ⊛ ‵ ftrue) ⊛ ‵
    (fsep ((row From).own_val p ps) (fsep (Heap.the_row.own_val alloc hv) ftrue))) ∷ (raw (fact 𝓤 inT) ⊛ ‵ ftrue)
    ∷ []) ∵
    move ! (1 ∷ []) $ split ! $ heard ! _
    (λ lives. drop ! $ split ! $ split ! $ move ! (2 ∷ []) $ fsplit ! $ fsplit ! $ move ! (2 ∷ []) $ fsplit ! $ keep
    ! (0 ∷ 3 ∷ 4 ∷ []) $
    -- [the allocator; the box; the token]
    enter ! _ _ _ _ _ $ alloc_all !
    (λ l. pass_all ! refl ((owner_typed 𝓛 From (RawPtr-laws, tt) p ps are.0.0).0, ((tt, ((tt, tt), tt)), tt)) $
    sets ! (of_opd ! (get_in ! (fld ! refl (stop !)) (sub ! 0 refl (whole !)))) refl
    ((rawptr_Lawful 𝓛).typed p.at _ refl).0 $
    first ! $ blocks ! $ lft_new ! tt (λ α.
    let κs' : Lfts 2 = (κs.0, (α ∷ [], tt)) in let args' : Heap.the_row.Denot × (Ptr × Unit {0}) =
    (alloc, (p.at, tt)) in let inZ = (α ∷ []) ⊑ [] in
    let z : G.Ghost = ((κs', (qs.0, (full_share, tt)), tt, args', (hv, (ptr_val p.at ∷ [], tt))), x) in
    let tokens : Item 𝓤 = ‵ (flft κs.0 qs.0) ⊛ ‵ (flft (α ∷ []) full_share) ⊛ ‵ ftrue in
    -- [a further token; the allocator; the box; the token]
    move ! (2 ∷ []) $ use0 𝓛 (raw (fact 𝓤 inZ)) (fact_i 𝓤 inZ (emp 𝓤) (⊑_static (α ∷ []))) $ join ! $ use0 𝓛
    (raw (fact 𝓤 inT)) (fact_i 𝓤 inT (emp 𝓤) lives) $ join ! $
    nothing ! $ feq_i ! (List Val) (ptr_val p.at ∷ []) (ptr_val p.at ∷ []) refl $ fjoin ! $ move ! (3 ∷ 0 ∷ []) $ fjoin
    ! $
    nothing ! $ move ! (3 ∷ 0 ∷ []) $ join ! $ move ! (3 ∷ 0 ∷ []) $ join ! $ join ! $ join ! $ use1 𝓛 (raw (G.pre z))
    (id⊢ 𝓤 _) $
    calls_at_last ! (framed 𝓤 𝓛.H 𝓜 𝓣) G known z (and_then ! (get ! refl) (and_then ! (get ! refl) (no_more !))) (λ u.
    use1 𝓛 (later (some (λ (r : B.Denot). (tokens ⊛ ‵ (B.own_val r (u ∷ []))) ⊛ some
    (λ (ws : Lasts Ge κs' args'). ‵ (lasts Ge κs' args' ws) ⊛
    (raw (fact 𝓤 (r.value ≡ x)) ⊛ raw (fact 𝓤 (r.alloc ≡ alloc))))))) (id⊢ 𝓤 _) $
    await ! tt $ pick ! (λ r. split ! $ move ! (1 ∷ []) $ pick !
    (λ ws. split3 ! $ drop ! $ heard ! _ (λ same. drop ! $ split ! $ move ! (1 ∷ []) $
    -- [the box; the tokens]
    peeks ! B _ (shows 𝓛 B) r (u ∷ []) (λ is. let typed =
    (((boxed.the_field_loose R Heap.the_row ghosts (param_laws 0 T L) heap.the_row_laws).lawful 𝓛).typed r (u ∷ [])
    is).0 in
    lands_last ! refl typed $ exec ! 𝓣.C 𝓣.Λ (env fn.locals l) (after 2 fn.body)
    (at_ret (env fn.locals l) ((walk_of 𝓛 En hs c).post y)) $
    sets ! (of_opd ! (get ! refl)) refl typed $ returns ! (look_at ! 0 refl) $ free_all ! refl $
    move ! (1 ∷ []) $ split3 ! $ keep ! (0 ∷ 3 ∷ []) $
    suffices ! _ (ends_at 𝓛 En hs c y u r (tt, (tt, tt)) (tt, (tt, tt))) $ says ! same $
    move ! (1 ∷ []) $ nothing ! $ nothing ! $ join ! $ nothing ! $ join ! $ nothing ! $ move ! (3 ∷ 0 ∷ []) $ join ! $
    done !)))))))))
