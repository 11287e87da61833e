-- Invariant: the sessions of the marked keys among the first i records are there (`home_next`).
use Rattle.effect_plan.proofs.Near.{HomesTo}
use Rattle.effect_plan.proofs.homes_of.Given as goal

abbrev pub invariant-loop-i : goal.invariant-loop-i
invariant-loop-i l = HomesTo l.store l.m l.hs l.i
