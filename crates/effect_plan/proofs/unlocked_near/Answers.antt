-- Away from the homes no PUK is unlocked (`far_unlocked`).
use mathlib.Core.Path.{◌∙◌, sym, refl}
use Rattle.effect_plan.proofs.Near.{far_unlocked}
use Rattle.paper.specs.Records.{session}
use Rattle.effect_plan.proofs.unlocked_near.Goals as goal

pub returns-else-is_home : goal.returns-else-is_home
returns-else-is_home c = λ d w h. c.if-is_home.false ∙ sym (far_unlocked h (session c.args.r.now) (rw (← c.four_at.ensures) (sym c.is_home.ensures ∙ c.if-is_home.false)) c.args.r.now refl)
