-- The element at the place, or what stands for none.
use Rattle.effect_plan.specs.Fate.{planned}
use Rattle.effect_plan.specs.declared.Fate.TheVariants.{Stays}
use native.Mathlib.Omega.{arith}
use Rattle.effect_deeds.proofs.RefSliceFateFates.fate_at.Goals as goal

pub returns : goal.returns
unfolding planned
returns c = rw (c.unwrap_or.ensures, c.copied.ensures) (c.get.ensures.lookup.4 (omega arith) Stays)
