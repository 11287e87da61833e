-- By the kind (`mark_key`, `mark_pending`, `mark_other`).
use Rattle.std.proofs.Common.{rules}
use mathlib.Core.Path.{◌≡◌, ◌∙◌, sym}
use Rattle.effect_plan.proofs.Near.{mark_key, mark_pending, mark_other}
use Rattle.effect_plan.proofs.mark_of.Goals as goal

pub returns-in-4 : goal.returns-in-4
returns-in-4 c = c.from.ensures ∙ rw (c.is_in.ensures, c.four_at.ensures) (mark_key _ _ (sym c.byte_at.ensures ∙ c.in-4.is))

pub returns-in-5 : goal.returns-in-5
returns-in-5 c = c.from-in-5.ensures ∙ rw (c.is_in-in-5.ensures, c.four_at-in-5.ensures) (mark_pending _ _ (sym c.byte_at.ensures ∙ c.in-5.is))

pub returns-in_default : goal.returns-in_default
returns-in_default c = mark_other _ _ (λ e. let k : c.byte_at.result ≡ 4 = c.byte_at.ensures ∙ e in search rules) (λ e. let k : c.byte_at.result ≡ 5 = c.byte_at.ensures ∙ e in search rules)
