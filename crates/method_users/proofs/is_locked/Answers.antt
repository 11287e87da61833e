-- A limit of 0 decides, else the count does.
use borrow.Author.Tests.{eq-eqb, ne_eqb}
use Rattle.method_users.proofs.is_locked.Goals as goal

pub returns-then-limit-eq0 : goal.returns-then-limit-eq0
returns-then-limit-eq0 c = rw (eq-eqb _ _ c.if-limit-eq0.true)

pub returns : goal.returns
returns c = rw (ne_eqb _ _ c.if-limit-eq0.false)
