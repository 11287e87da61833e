-- The digest (`over_part`) and then one byte written over.
use mathlib.Core.Path.{ap}
use mathlib.Core.List.{List}
use Prim.Native.Nat.{ℕ}
use native.Mathlib.Omega.{arith}
use lib.ListN.{set}
use Rattle.paper.specs.Bytes.{over}
use Rattle.paper.specs.Objects.{certified}
use Rattle.store_edits.proofs.Puts.{over_part}
use Rattle.method_keys.proofs.CertifiedRewrite.rewrite.Goals as goal

pub returns : goal.returns
unfolding certified over
returns c = ap (λ (z : List ℕ). set z 1 1) (over_part c.args.r.now _ _ 179 32 (omega arith) (omega arith) c.copy_from_slice.ensures.after)
