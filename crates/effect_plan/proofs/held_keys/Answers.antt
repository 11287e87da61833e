use Rattle.std.proofs.lemmas.List.{length_push}
use Rattle.effect_plan.proofs.Gather.{gathered_end, gathered_next}
use Rattle.effect_plan.proofs.Scans.{next_record, no_more}
use Rattle.paper.specs.Records.{records}
use native.Mathlib.Omega.{arith}
use Rattle.effect_plan.proofs.held_keys.Goals as goal

pub loop-q-preserved : goal.loop-q-preserved
loop-q-preserved c =
    let l = c.loop-q in
    let w = next_record _ _ l.yielded c.records-q-items.ensures c.into_iter-q-iterator.ensures.into_iter_gives l.yielded_by c.next.ensures.steps c.in-Some.q c.in-Some.is in
    rw (length_push l.yielded c.in-Some.q) (gathered_next c.args.session c.args.op (records c.args.store.now) _ l.ks c.with_pending-ks.result _ l.invariant w.0 w.1 c.with_pending-ks.ensures)

pub returns : goal.returns
returns c =
    let l = c.loop-q in
    let n = no_more _ _ l.yielded c.records-q-items.ensures c.into_iter-q-iterator.ensures.into_iter_gives l.yielded_by c.next.ensures.steps c.in-None.is in
    gathered_end c.args.session c.args.op (records c.args.store.now) _ l.ks l.invariant (omega (arith, n))
