-- The two tests decide in turn.
use mathlib.Core.Path.{sym, ◌∙◌}
use Rattle.method_users.proofs.judge.Goals as goal

pub returns-then-is_locked : goal.returns-then-is_locked
returns-then-is_locked c = rw (sym c.is_locked.ensures ∙ c.if-is_locked.true)

pub returns-then-is_same : goal.returns-then-is_same
returns-then-is_same c = rw (sym c.is_locked.ensures ∙ c.if-is_locked.false, sym c.is_same.ensures ∙ c.if-is_same.true)

pub returns : goal.returns
returns c = rw (sym c.is_locked.ensures ∙ c.if-is_locked.false, sym c.is_same.ensures ∙ c.if-is_same.false)
