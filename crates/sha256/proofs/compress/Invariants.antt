-- Invariant: v is the hash value x after 4 i rounds. A turn is `four_more`; at 64 rounds the sum with x is `compressed`.
use Rattle.std.proofs.Common.{◌≡◌, ◌*◌}
use Rattle.sha256.specs.Sha256.{rounds}
use Rattle.sha256.proofs.compress.Given as goal

abbrev pub invariant-loop-i : goal.invariant-loop-i
invariant-loop-i l = l.v ≡ rounds l.w l.x (l.i * 4)
