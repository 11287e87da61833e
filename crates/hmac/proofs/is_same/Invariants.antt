-- Invariant: the differences of the pairs so far are gathered.
use mathlib.Core.Path.{◌≡◌}
use lib.ListN.{length, take}
use Rattle.std.specs.List.{fold, zip}
use Rattle.hmac.proofs.Sameness.{differing}
use Rattle.hmac.proofs.is_same.Given as goal

abbrev pub invariant-loop-x : goal.invariant-loop-x
invariant-loop-x l = l.differ ≡ fold differing 0 (take (length l.yielded) (zip l.a l.b))
