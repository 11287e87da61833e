-- The operation decides which name is taken.
use borrow.Author.Tests.{eq-eqb, ne_eqb}
use Rattle.call_mac.proofs.MacKey.begun_post.Goals as goal

pub returns-then-op-eq-UNLOCKS : goal.returns-then-op-eq-UNLOCKS
returns-then-op-eq-UNLOCKS c = rw (eq-eqb _ _ c.if-op-eq-UNLOCKS.true) c.begun.ensures

pub returns : goal.returns
returns c = rw (ne_eqb _ _ c.if-op-eq-UNLOCKS.false) c.begun-2.ensures
