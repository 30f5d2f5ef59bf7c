use Rattle.std.proofs.Common.{List, None, Some, ap, set, subst, sym, ◌∙◌, ◌≡◌}
use Rattle.nit_store.proofs.Lemmas.{File, HasDifferentNames, Stored, different-with_file, files_of}
use Rattle.nit_store.proofs.Lemmas.{has_name, position, put_at, put_last, with_file}
use Rattle.nit_store.proofs.files.FileList.put.Goals as goal

put_over : (c : goal.After-drop-file)
    → files_of (set c.self.inside.list.items c.in-Some.place (c.index_mut-file.result.now.0, c.in_ok-copy.copy))
    ≡ with_file c.args.name.now c.args.bytes.now (files_of c.self.inside.list.items)
put_over c =
    put_at c.self.inside.list.items c.args.name.now c.args.bytes.now c.in-Some.place c.index_mut-file.result.now
    c.in_ok-copy.copy (subst (λ (fs : List Stored). position (has_name c.args.name.now) fs ≡ Some c.in-Some.place)
    c.deref.ensures.value (sym c.in-Some.ensures)) c.index_mut-file.ensures.value c.in_ok-copy.ensures

put_behind : (c : goal.In_ok-push-in-None)
    → files_of c.push.new.self.items ≡ with_file c.args.name.now c.args.bytes.now (files_of c.self.inside.list.items)
put_behind c =
    rw c.in_ok-push-in-None.ensures.items
    (put_last c.self.inside.list.items c.args.name.now c.args.bytes.now (
      c.in_ok-from_str-in-None.field-0,
      c.in_ok-copy.copy,
    ) (subst (λ (fs : List Stored). position (has_name c.args.name.now) fs ≡ None)
    c.deref.ensures.value (sym c.in-None.ensures)) c.in_ok-from_str-in-None.ensures.ok c.in_ok-copy.ensures)

pub invariant_of-self : goal.invariant_of-self
invariant_of-self c =
    subst (λ (fs : List File). HasDifferentNames fs) (sym (put_over c))
    (different-with_file c.args.name.now c.args.bytes.now (files_of c.self.inside.list.items) c.self.invariant)

pub invariant_of-self-in_ok-push-in-None : goal.invariant_of-self-in_ok-push-in-None
invariant_of-self-in_ok-push-in-None c =
    subst (λ (fs : List File). HasDifferentNames fs) (sym (put_behind c))
    (different-with_file c.args.name.now c.args.bytes.now (files_of c.self.inside.list.items) c.self.invariant)

pub returns-in-Some-clause-ok : goal.returns-in-Some-clause-ok
returns-in-Some-clause-ok c = put_over c ∙ ap (λ (fs : List File). with_file c.args.name.now c.args.bytes.now fs)
    c.self.view_is

pub returns-in_ok-push-in-None-clause-ok : goal.returns-in_ok-push-in-None-clause-ok
returns-in_ok-push-in-None-clause-ok c = put_behind c
    ∙ ap (λ (fs : List File). with_file c.args.name.now c.args.bytes.now fs) c.self.view_is
