-- Invariant: the first i fates are those of the close, the others still those of its keys' plan (`shut-step`).
use Rattle.effect_deeds.proofs.Planning.{Shutting}
use Rattle.paper.specs.Records.{records}
use Rattle.effect_deeds.proofs.plan_close.Given as goal

abbrev pub invariant-loop-i : goal.invariant-loop-i
invariant-loop-i l = Shutting l.t (records l.store) l.p l.i
