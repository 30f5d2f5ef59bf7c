use Rattle.nit_audit.proofs.Lemmas.{Audited, ahead_on, ap, arith, keep_many, verdict_bad}
use Rattle.nit_audit.proofs.Lemmas.{verdict_ended, verdict_unended}
use Rattle.nit_audit.proofs.auditing.judged.Goals as goal

pub returns-in-Final : goal.returns-in-Final
returns-in-Final c =
    verdict_ended _ _ _ _ _ _ c.entries.invariant.ahead c.index-entries-i.result c.ended.result c.entries-test.true
    c.index-entries-i.is c.in-Final.is c.ended.ensures

pub returns-then-not-branch : goal.returns-then-not-branch
returns-then-not-branch c =
    verdict_bad _ _ _ _ _ _ c.entries.invariant.ahead c.index-entries-i.result c.entries-test.true
    c.index-entries-i.is c.in_default.not-Final c.entries.invariant.kept c.entries.invariant.many
    (rw c.if-not-branch.true at c.in_ok-follow.ensures)

pub entries-preserved : goal.entries-preserved
entries-preserved c =
    let f = rw c.if-not-branch.false at c.in_ok-follow.ensures in
    record {
      kept = f.kept;
      count = omega (arith, f.count, c.entries.invariant.count);
      many = rw (ap (λ (a : Audited). a.clients) f.audit, keep_many _ c.index-entries-i.result)
          c.entries.invariant.many;
      ahead = ahead_on _ _ _ _ _ c.entries.i c.index-entries-i.result c.entries-test.true c.index-entries-i.is
          c.in_default.not-Final c.entries.invariant.ahead f;
    }

pub returns : goal.returns
returns c = verdict_unended _ _ _ _ _ _ c.entries.invariant.ahead (omega arith)
