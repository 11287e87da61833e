-- Invariant: the span is wide enough for the records so far (`span_next`).
use Rattle.paper.specs.Records.{records}
use Rattle.effect_deeds.proofs.Planning.{Spanned}
use lib.ListN.{length}
use Rattle.effect_deeds.proofs.span_of.Given as goal

abbrev pub invariant-loop-r : goal.invariant-loop-r
invariant-loop-r l = Spanned l.g (records l.store) l.s (length l.yielded)
