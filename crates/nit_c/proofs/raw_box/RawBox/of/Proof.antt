-- `of` keeps what `into_raw` hands back.
use Rattle.std.proofs.Common.{List, [], ◌∷◌, ◌++◌, ◌∙◌, ap, refl}
use Rattle.nit_c.proofs.Lemmas.{ !, Dict, Goes-blank, Is, Item, Lasts, Lfts, Owning, Ptr, RattleType}
use Rattle.nit_c.proofs.Lemmas.{RawPtr, RawPtr-laws, Stays, Struct, Tells, Ty, Val, a_type, agg}
use Rattle.nit_c.proofs.Lemmas.{alloc_all, and_then, arg, arg_laws, await, bounded, calls_at, dcons}
use Rattle.nit_c.proofs.Lemmas.{dict, dnil, done, drop, emp, ends_at, enter, fact, fact_i, feq_l}
use Rattle.nit_c.proofs.Lemmas.{flft, framed, free_all, fsep, ftrue, full_share, get, ghosts, glues}
use Rattle.nit_c.proofs.Lemmas.{heap_token, heard, id⊢, impl, inst_fn, join, keep, lands_as, lasts}
use Rattle.nit_c.proofs.Lemmas.{later, layout, lft_new, look_at, met, move, no, no_more, nothing}
use Rattle.nit_c.proofs.Lemmas.{of_list, of_opd, only, owner_in, owner_typed, param, param_laws}
use Rattle.nit_c.proofs.Lemmas.{pass_all, pick, plain, proved, ptr_val, qed, raw, rawptr_Lawful}
use Rattle.nit_c.proofs.Lemmas.{returns, says, sets, shape, some, split, split3, stay_dropped}
use Rattle.nit_c.proofs.Lemmas.{suffices, tables, tcons, tells, tnil, to, triple_of, use0, use1}
use Rattle.nit_c.proofs.Lemmas.{val, vcons, vnil, vstruct, walk_of, ‵, ⊑_static, ◌$◌, ◌∵◌, ◌⊑◌, ◌⊛◌}
use mir.Raw.{raw as bare}
use Rattle.std_alloc.specs.Box.Ownership.{box_owns}
use Rattle.std_heap.specs.contracts.Global as Heap
use Rattle.std_heap.proofs.Global.TheLaws as heap
use Rattle.std_heap.proofs.GlobalAllocator.TheImpl.Met as heap_met
use Rattle.std_alloc.specs.contracts.boxed.Box as Boxed
use Rattle.std_alloc.proofs.boxed.Box.TheLaws as boxed
use Rattle.std_alloc.specs.contracts.boxed.Box.into_raw as g
use Rattle.nit_c.specs.contracts.raw_box.RawBox as RawBox
use Rattle.nit_c.specs.contracts.raw_box.RawBox.of as f
use Rattle.nit_c.proofs.raw_box.RawBox.of.Statement.{statement}
use Rattle.nit_c.proofs.raw_box.RawBox.of.Symbol as symbol
use Rattle.nit_c.proofs.Destruct++none.drop.Code as drop_code
use Rattle.nit_c.proofs.raw_box.RawBox.of.Code as code

pub of_spec : {M : Type 1} → statement M
unfolding drop_code.code
of_spec 𝓤 𝓛 𝓜 𝓡 wired T L dT glueT =
    let given = bounded (a_type ∷ []) (T, tt) (dcons dT dnil) in let fn = inst_fn given code.function in let 𝓣 =
    tables 𝓤 𝓛.H 𝓜 𝓡 𝓡.env in
    let R : RattleType = param 0 T in let To : Owning = RawBox.the_type R in let B : RattleType =
    Boxed.the_row R Heap.the_row ghosts in
    let δ : Ty = bare (layout Heap.the_row) in let Z : RattleType = arg δ no Heap.the_row in let LZ =
    arg_laws δ no Heap.the_row heap.the_row_laws refl in
    let dd : Dict = impl ("nit_c::Destruct++none::drop" ∷ []) (tcons δ tnil) dnil in
    let c = f.clauses T dT 𝓛 𝓜.mem 𝓡.returns in let En = f.ended T dT in
    let Ge = g.ended T Z ghosts dict dd dT in let G =
    triple_of 𝓛 (g.signature T Z ghosts dict dd dT) (g.spec T Z ghosts dict dd dT 𝓛 𝓜.mem 𝓡.returns) in
    let allocator = heap_met.passed 𝓡.env (code.calls-std_heap::GlobalAllocator::allocate 𝓡.env wired)
    (code.calls-std_heap::GlobalAllocator::deallocate 𝓡.env wired)
    (code.calls-std_heap::GlobalAllocator::grow 𝓡.env wired) (code.calls-std_heap::GlobalAllocator::shrink 𝓡.env wired)
    _ 𝓤 𝓛 𝓜 𝓡 in
    let glue = glues "nit_c::Destruct++none::drop" 𝓡.env (code.calls-nit_c::Destruct++none::drop 𝓡.env wired) Z LZ _ 𝓤 𝓛
    𝓜 𝓡 in
    let known = met 𝓤 𝓛 𝓜 𝓡 (code.calls-std_alloc::boxed::Box::into_raw 𝓡.env wired) T Z L LZ ghosts dict dd dT
    allocator glue glueT in
    let hs : Stays En.signature.params En.kept = (stay_dropped (plain (λ _. B)) no, tt) in
    let hv : Heap.the_row.Denot → Val = val Heap.the_type heap.the_laws in
    let bv : B.Denot → List Val = λ b. vstruct (vcons (ptr_val b.ptr) (vcons (hv b.alloc) vnil)) ∷ [] in
    let told : Tells B (Is B) bv = λ b vs is. is.0.1.0
    ∙ (λ j. vstruct (of_list (is.0.1.1.0 j ++ (tells Heap.the_type heap.the_laws b.alloc _ is.0.1.1.1.0 j ++ [])))
    ∷ []) in
    proved 𝓛 En hs c 𝓜 𝓡 (Goes-blank 𝓛 1 (plain (λ _. B)) no (λ κs x w. tt), tt)
    (symbol.name given) fn (code.unfolded 𝓤 𝓛.H 𝓜 𝓡 wired (T, tt) dT) (λ κs. (bv, tt)) (λ κs. (told, tt))
    (λ κs qs bounds a _ are.
    let b = a.0 in let x = b.value in let inT = κs.0 ⊑ T.lives in
    let y : (walk_of 𝓛 En hs c).Ghost = ((κs, qs, bounds, a, (bv b, tt)), tt) in
    let typed = (((boxed.the_field_loose R Heap.the_row ghosts (param_laws 0 T L) heap.the_row_laws).lawful 𝓛).typed b
    (bv b) are.0).0 in
    qed 𝓛 (((‵ (flft κs.0 qs.0) ⊛ ‵ ftrue) ⊛ ‵ (fsep (B.own_val b (bv b)) ftrue)) ∷ (raw (fact 𝓤 inT) ⊛ ‵ ftrue) ∷ []) ∵
    move ! (1 ∷ []) $ split ! $ heard ! _ (λ lives. drop ! $ split ! $ split ! $ move ! (2 ∷ 0 ∷ []) $
    -- [the box; the token; nothing]
    keep ! (0 ∷ 1 ∷ []) $
    enter ! _ _ _ _ _ $ alloc_all !
    (λ l. pass_all ! refl (typed, tt) $ sets ! (of_opd ! (get ! refl)) refl typed $ lft_new ! tt (λ α.
    let κs' : Lfts 2 = (κs.0, (α ∷ [], tt)) in let inZ = (α ∷ []) ⊑ [] in
    let z : G.Ghost = ((κs', (qs.0, (full_share, tt)), tt, a, (bv b, tt)), tt) in
    let tokens : Item 𝓤 = ‵ (flft κs.0 qs.0) ⊛ ‵ (flft (α ∷ []) full_share) ⊛ ‵ ftrue in
    -- [a further token; the box; the token]
    nothing ! $ use0 𝓛 (raw (fact 𝓤 inZ)) (fact_i 𝓤 inZ (emp 𝓤) (⊑_static (α ∷ []))) $ join ! $ use0 𝓛
    (raw (fact 𝓤 inT)) (fact_i 𝓤 inT (emp 𝓤) lives) $ join ! $
    nothing ! $ move ! (2 ∷ 0 ∷ []) $ join ! $ move ! (3 ∷ 0 ∷ []) $ join ! $ move ! (0 ∷ 2 ∷ []) $ join ! $ join ! $
    use1 𝓛 (raw (G.pre z)) (id⊢ 𝓤 _) $
    calls_at ! (framed 𝓤 𝓛.H 𝓜 𝓣) G known z (and_then ! (get ! refl) (no_more !)) (λ u.
    use1 𝓛 (later (some (λ (r : Ptr). (tokens ⊛ ‵ (RawPtr.own_val r (u ∷ []))) ⊛ some
    (λ (ws : Lasts Ge κs' a). ‵ (lasts Ge κs' a ws) ⊛ ‵ (box_owns heap_token R r x))))) (id⊢ 𝓤 _) $
    await ! tt $ pick ! (λ r. split ! $ split ! $ move ! (1 ∷ []) $ feq_l !
    (λ is_ptr. move ! (1 ∷ []) $ pick ! (λ ws. split ! $ drop ! $
    -- [the box's memory; the tokens]
    let made : To.D = record { at = r; value = x } in let w : Val = vstruct (vcons (ptr_val r) vnil) in
    let is_made : Is (Struct (shape To)) (to To made) (w ∷ []) = ((ptr_val r ∷ [], tt), (refl, (refl, tt))) in
    lands_as ! (ap only is_ptr) refl ((rawptr_Lawful 𝓛).typed r _ refl).0 $
    sets ! (agg ! (and_then ! (get ! refl) (no_more !))) refl
    (owner_typed 𝓛 To (RawPtr-laws, tt) made (w ∷ []) is_made).0 $
    returns ! (look_at ! 0 refl) $ free_all ! refl $ owner_in To ! (λ p vs. tt, tt) made (w ∷ []) is_made $
    move ! (1 ∷ []) $ split3 ! $ keep ! (0 ∷ 3 ∷ []) $
    suffices ! _ (ends_at 𝓛 En hs c y w made (tt, tt) (tt, tt)) $ says ! refl $
    move ! (1 ∷ []) $ nothing ! $ nothing ! $ join ! $ nothing ! $ move ! (3 ∷ 0 ∷ []) $ join ! $ done !))))))))
