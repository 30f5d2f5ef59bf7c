use Rattle.nit_look.proofs.Lemmas.{arith, length-drop, length-take, rows_at_once, rows_fit}
use Rattle.nit_look.proofs.putting.put_at_once.Goals as goal

pub slice_bounds-copy_from_slice-end : goal.slice_bounds-copy_from_slice-end
slice_bounds-copy_from_slice-end c =
    rows_fit c.args.part.now _ c.requires.left c.requires.down c.requires.some c.requires.room

pub slice_bounds-copy_from_slice-length : goal.slice_bounds-copy_from_slice-length
slice_bounds-copy_from_slice-length c =
    let fits = rows_fit c.args.part.now _ c.requires.left c.requires.down c.requires.some c.requires.room in
    grind (arith, length-take)

pub copy_from_slice-requires : goal.copy_from_slice-requires
copy_from_slice-requires c =
    let fits = rows_fit c.args.part.now _ c.requires.left c.requires.down c.requires.some c.requires.room in
    let high = c.requires.high in
    grind (arith, length-take, length-drop)

pub returns : goal.returns
returns c =
    let fits = rows_fit c.args.part.now _ c.requires.left c.requires.down c.requires.some c.requires.room in
    rw c.copy_from_slice.ensures.after (rows_at_once c.args.part.now c.args.frame.now c.args.out.now c.requires.left
    c.requires.down c.requires.some c.requires.high fits)
