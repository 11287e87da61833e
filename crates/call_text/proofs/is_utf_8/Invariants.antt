use mathlib.Core.Path.{◌≡◌}
use Prim.Native.Nat.{◌≤◌}
use lib.ListN.{drop}
use Rattle.paper.specs.Text.{utf8, utf8_from}
use Rattle.call_text.proofs.is_utf_8.Given as goal

abbrev pub invariant-loop-b : goal.invariant-loop-b
invariant-loop-b l = (l.n ≤ 3) × (utf8 l.v ≡ utf8_from l.n (drop l.b-index l.v))
