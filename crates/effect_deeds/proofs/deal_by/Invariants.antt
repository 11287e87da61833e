-- Invariant: what is done and what is to do make up the whole plan (`turns_step`, `turns_done`).
use Rattle.effect_deeds.proofs.Turns.{Turns}
use Rattle.effect_deeds.specs.Deeds.{done}
use Rattle.effect_deeds.proofs.deal_by.Given as goal

abbrev pub invariant-loop-i : goal.invariant-loop-i
invariant-loop-i g l = Turns (λ i. done l.v (g.P.Fates.says l.p i)) l.initial.s l.s l.i
