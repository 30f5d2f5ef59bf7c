use Rattle.nit_host.proofs.Lemmas.{arith, handed_part, ints, told_words}
use Rattle.nit_host.proofs.host.handing.hand_in.Goals as goal

pub returns-in-Some : goal.returns-in-Some
returns-in-Some c =
    let part = c.in-Some.part in
    record {
      sight = handed_part c.args.buffer.0 c.args.buffer.1 _ _ _ _ _ _ c.w.result c.h.result part c.args.part.now
          c.args.words.now (told_words c.args.sheet.now.sight.words) c.args.sheet.now.sight.owner
          c.hand_in_rows.new.sheet.sight
          c.in-Some.is
          (omega (arith, ints, c.x.ensures.value, c.x.ensures.range.0, c.x.ensures.range.1)) c.w.ensures.value
          (omega (arith, ints, c.y.ensures.value, c.y.ensures.range.0, c.y.ensures.range.1)) c.h.ensures.value
          c.clip-columns.ensures.most c.clip-rows.ensures.most c.clip-columns.ensures.same c.clip-rows.ensures.same
          c.hand_in_rows.ensures.sight;
      room = c.hand_in_rows.ensures.room;
    }
