-- `closed` makes a handle that owns nothing.
use Rattle.std.proofs.Common.{[], ◌∷◌, refl}
use Rattle.nit_c.proofs.Lemmas.{ !, NitServer, agg, alloc_all, and_then, done, drop, ends_at, enter}
use Rattle.nit_c.proofs.Lemmas.{free_all, ftrue, lit, lit<, look_at, no_more, nothing, nothing_kept}
use Rattle.nit_c.proofs.Lemmas.{null_ptr, on_entry, owner_in, pass_all, proved, qed, raw, returns}
use Rattle.nit_c.proofs.Lemmas.{says, sets, suffices, the_type, vint, w64, ‵, ◌$◌, ◌∵◌}
use Rattle.nit_c.specs.contracts.handle.NitServer.closed as f
use Rattle.nit_c.proofs.handle.NitServer.TheLaws.{lowered}
use Rattle.nit_c.proofs.handle.NitServer.closed.Statement.{statement}
use Rattle.nit_c.proofs.handle.NitServer.closed.Code as code

pub closed_spec : {M : Type 1} → statement M
closed_spec 𝓤 𝓛 𝓜 𝓡 wired =
    let c = f.clauses 𝓛 𝓜.mem 𝓡.returns in
    proved 𝓛 f.ended tt c 𝓜 𝓡 tt f.Key.name code.function (code.unfolded 𝓤 𝓛.H 𝓜 𝓡 wired) (λ κs. tt) (λ κs. tt)
    (λ κs qs bounds a _ are.
    let made : NitServer = record { at = null_ptr; mark = 0; value = nothing_kept } in
    qed 𝓛 (raw (on_entry 𝓛 f.signature κs qs a tt) ∷ ‵ ftrue ∷ []) ∵ drop ! $ drop ! $
    enter ! _ _ _ _ _ $ alloc_all ! (λ l. pass_all ! refl tt $
    sets ! (agg ! (and_then ! (lit ! tt) (and_then ! (lit ! tt) (no_more !)))) refl
    (tt, (record { fits = lit< tt }, (record { fits = lit< tt }, tt))) $
    returns ! (look_at ! 0 refl) $ free_all ! refl $
    nothing ! $ owner_in the_type ! (λ p vs. tt, (λ n vs. (tt, tt), tt)) made (lowered made ∷ [])
    ((vint w64 0 ∷ [], (vint w64 0 ∷ [], tt)), (refl, (refl, ((refl, lit< tt), tt)))) $
    suffices ! _ (ends_at 𝓛 f.ended tt c ((κs, qs, bounds, a, tt), tt) (lowered made) made tt tt) $ says ! (refl, refl)
    $
    nothing ! $ nothing ! $ done !))
