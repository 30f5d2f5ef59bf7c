use Rattle.std.proofs.Common.{[], append_assoc, arith, length, length-append, replicate, ◌++◌, ◌+◌}
use Rattle.std.proofs.Common.{◌∙◌, ◌≡◌}
use Rattle.nit_hall.proofs.Lemmas.{clip_script_in, each_more, get_or_default, length-replicate}
use Rattle.nit_hall.proofs.Lemmas.{new_clip_pass, replicate_more}
use Rattle.nit_hall.proofs.room.clip_opening.clip_passes.Goals as goal

pub scripts-preserved : goal.scripts-preserved
scripts-preserved c =
    let i = c.scripts.invariant in
    let s = c.share-share.ensures in
    let k = c.scripts.script-index in
    let counts = c.args.book.now.counts in
    let pushed = c.in_ok-push.ensures.items in
    let long : length (counts ++ replicate k 0) ≡ length counts + k = rw (length-append, length-replicate) in
    let script : c.script-item.result ≡ clip_script_in c.args.scripts.now k = c.script-item.is
    ∙ get_or_default c.args.scripts.now k c.script-item.result [] (omega arith) in
    let is : c.new.result ≡ new_clip_pass c.args.book.now c.args.scripts.now k =
    rw (c.new.ensures, s.share, i.book_is, long, i.counted, script) in
    record {
      counted = rw i.counted;
      book_is = rw (s.book, i.book_is, append_assoc, replicate_more);
      passes_are = rw (pushed, length-append, i.passes_are);
      each = each_more (λ j q. q ≡ new_clip_pass c.args.book.now c.args.scripts.now j) c.scripts.passes.items _ k
          c.new.result pushed i.passes_are is i.each;
    }
