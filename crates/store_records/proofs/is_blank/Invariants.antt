-- Invariant: the answer for all bytes is that of those joined so far, and the answer for those from i on (`blank_more`).
use mathlib.Core.Bool.{◌&&◌}
use mathlib.Core.Path.{◌≡◌}
use lib.Dec.{eqb}
use lib.ListN.{drop}
use Rattle.paper.specs.Bytes.{all_within}
use Rattle.store_records.proofs.is_blank.Given as goal

abbrev pub invariant-loop-b : goal.invariant-loop-b
invariant-loop-b l = all_within 0 0 l.s ≡ eqb l.seen 0 && all_within 0 0 (drop l.b-index l.s)
