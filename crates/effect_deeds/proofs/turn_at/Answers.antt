-- It stays (`stayed_at`); else changed by value and put back (`turned-at`).
use Rattle.effect_deeds.proofs.Turns.{turned-at, stayed_at}
use Rattle.effect_deeds.specs.Deeds.{done}
use Rattle.std.proofs.Common.{rules}
use Rattle.effect_plan.specs.declared.Fate.TheVariants.{Stays}
use mathlib.Core.Path.{◌≡◌, ◌∙◌, ap}
use Rattle.effect_deeds.proofs.turn_at.Goals as goal

pub returns-then-eq : goal.returns-then-eq
returns-then-eq c = let e : c.args.f ≡ Stays = search rules in stayed_at c.args.v.now _ c.args.s.now c.args.i e

pub returns : goal.returns
returns c = let f = done c.args.v.now c.args.f in turned-at f c.args.s.now c.args.i _ _ (c.turned-r.ensures ∙ ap f c.copy_of.ensures) c.put.ensures
