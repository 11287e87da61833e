use Rattle.std.proofs.lemmas.List.{length_push}
use Rattle.effect_plan.proofs.Scans.{next_record, no_more}
use Rattle.effect_deeds.proofs.Planning.{span_next}
use native.Mathlib.Omega.{arith}
use Rattle.effect_deeds.proofs.span_of.Goals as goal

pub loop-r-preserved : goal.loop-r-preserved
loop-r-preserved c =
    let l = c.loop-r in
    let w = next_record _ _ l.yielded c.records-r-items.ensures c.into_iter-r-iterator.ensures.into_iter_gives l.yielded_by c.next.ensures.steps c.in-Some.r c.in-Some.is in
    rw (length_push l.yielded c.in-Some.r) (span_next _ l.invariant w.1 c.widened-s.ensures)

pub returns : goal.returns
returns c =
    let l = c.loop-r in
    let n = no_more _ _ l.yielded c.records-r-items.ensures c.into_iter-r-iterator.ensures.into_iter_gives l.yielded_by c.next.ensures.steps c.in-None.is in
    record { from = λ j m q. l.invariant.from j (omega (arith, n)) q; to = λ j m q. l.invariant.to j (omega (arith, n)) q }
