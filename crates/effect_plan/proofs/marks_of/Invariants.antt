-- Invariant: the marks of the first i records are at their places (`planned_step`).
use Rattle.effect_plan.proofs.Filled.{Planned}
use Rattle.effect_plan.specs.Sets.{keys_of, mark}
use Rattle.paper.specs.Records.{records}
use Rattle.effect_plan.proofs.marks_of.Given as goal

abbrev pub invariant-loop-i : goal.invariant-loop-i
invariant-loop-i l = Planned 0 (mark (keys_of l.ks (records l.store))) (records l.store) l.m l.i
