-- Record after record (Agreeing.antt).
use borrow.Author.Rules.{rules}
use Rattle.sound_store.proofs.Agreeing.{paired_clash, paired_stop, paired_next, paired_end}
use native.Mathlib.Omega.{arith}
use Rattle.sound_store.proofs.all_paired.Goals as goal

pub returns-then-not-distinct_from : goal.returns-then-not-distinct_from
returns-then-not-distinct_from c = paired_clash _ _ c.loop-i.invariant (omega arith) c.record_at-x.ensures c.distinct_from.ensures (search rules)

pub returns-then-not-related_to : goal.returns-then-not-related_to
returns-then-not-related_to c = paired_stop _ _ c.loop-i.invariant (omega arith) c.record_at-x.ensures c.distinct_from.ensures c.related_to.ensures (search rules)

pub loop-i-preserved : goal.loop-i-preserved
loop-i-preserved c = paired_next _ _ c.loop-i.invariant (omega arith) c.record_at-x.ensures c.distinct_from.ensures c.related_to.ensures (search rules) (search rules)

pub returns : goal.returns
returns c = paired_end c.args.s.now _ c.loop-i.invariant (omega arith)
