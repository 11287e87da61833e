-- The sum of the place, 2 and the length, which fits because each of them is small.
use Rattle.paper.specs.Bytes.{behind}
use native.Mathlib.Omega.{arith}
use Rattle.store_records.proofs.behind_at.Goals as goal

pub returns : goal.returns
unfolding behind
returns c = (rw c.two_at.ensures.0, omega arith)
