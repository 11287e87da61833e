-- The policy's byte decides first.
use mathlib.Core.Path.{sym, ◌∙◌}
use borrow.Author.Tests.{eq-eqb, ne_eqb}
use Rattle.method_keys.proofs.is_not_shared.Goals as goal

pub returns-then-byte_at-eq-SHARED : goal.returns-then-byte_at-eq-SHARED
returns-then-byte_at-eq-SHARED c = rw (eq-eqb _ _ (sym c.byte_at.ensures ∙ c.if-byte_at-eq-SHARED.true)) c.has_unlike.ensures

pub returns : goal.returns
returns c = rw (ne_eqb _ _ (λ e. c.if-byte_at-eq-SHARED.false (c.byte_at.ensures ∙ e)))
