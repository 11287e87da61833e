-- Invariant: the answer for all bytes is the answer so far, and the answer for those from i on (`within_more`).
use mathlib.Core.Bool.{◌&&◌}
use mathlib.Core.Path.{◌≡◌}
use lib.ListN.{drop}
use Rattle.paper.specs.Bytes.{all_within}
use Rattle.store_records.proofs.all_within.Given as goal

abbrev pub invariant-loop-b : goal.invariant-loop-b
invariant-loop-b l = all_within l.lo l.hi l.s ≡ l.ok && all_within l.lo l.hi (drop l.b-index l.s)
