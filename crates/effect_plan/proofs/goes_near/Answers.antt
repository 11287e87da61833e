-- Away from the homes nothing goes (`far_parent`).
use mathlib.Core.Path.{◌∙◌, sym}
use Rattle.effect_plan.proofs.Near.{far_parent}
use Rattle.effect_plan.proofs.goes_near.Goals as goal

pub returns-else-is_home : goal.returns-else-is_home
returns-else-is_home c = λ d w h. c.if-is_home.false ∙ sym (far_parent h c.args.r.now (rw (← c.home_of.ensures) (sym c.is_home.ensures ∙ c.if-is_home.false)))
