-- Invariant: what is gathered and what the other records hold make up the whole (`gathered_next`).
use Rattle.effect_plan.proofs.Gather.{Gathered}
use Rattle.paper.specs.Records.{records}
use lib.ListN.{length}
use Rattle.effect_plan.proofs.held_keys.Given as goal

abbrev pub invariant-loop-q : goal.invariant-loop-q
invariant-loop-q l = Gathered l.session l.op (records l.store) l.ks (length l.yielded)
