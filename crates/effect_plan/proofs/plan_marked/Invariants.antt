-- Invariant: the fates of the first i records are at their places (`fate_more`), and behind them all stay.
use Rattle.effect_plan.specs.declared.Fate.TheVariants.{Stays}
use Rattle.effect_plan.specs.Fate.{fate}
use Rattle.effect_plan.specs.Sets.{Marked}
use Rattle.paper.specs.Closing.{Keys as Set}
use Rattle.paper.specs.Records.{records}
use lib.ListN.{take, drop, replicate}
use mathlib.Core.List.{◌++◌, map}
use mathlib.Core.Path.{◌≡◌}
use Rattle.effect_plan.proofs.plan_marked.Given as goal

abbrev pub invariant-loop-i : goal.invariant-loop-i
invariant-loop-i l = (d u : Set) → Marked d (records l.store) l.md → Marked u (records l.store) l.mu → l.p ≡ take l.i (map (fate d u (records l.store)) (records l.store)) ++ drop l.i (replicate 256 Stays)
