-- The method, and then the session behind it, which is what `over` says of both.
use mathlib.Core.Path.{◌∙◌}
use lib.ListN.{length-set}
use Rattle.paper.specs.Bytes.{over}
use Rattle.issuer.proofs.put_head.Goals as goal

pub shape_of-out : goal.shape_of-out
shape_of-out c = c.put_four.auto.out ∙ simp length-set

pub returns : goal.returns
unfolding over
returns c = record { place = c.put_four.ensures.place; bytes = c.put_four.ensures.bytes }
