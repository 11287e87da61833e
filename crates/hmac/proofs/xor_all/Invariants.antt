-- Invariant: the bytes before the index are those of b, XORed with p.
use mathlib.Core.Path.{◌≡◌}
use mathlib.Core.List.{◌++◌, map}
use Prim.Native.Nat.{ℕ}
use lib.Bits.{bit_xor}
use lib.ListN.{take, drop}
use Rattle.hmac.proofs.xor_all.Given as goal

abbrev pub invariant-loop-x : goal.invariant-loop-x
invariant-loop-x l = l.x-items ≡ map (λ (x : ℕ). bit_xor x l.p) (take l.x-index l.fn.b) ++ drop l.x-index l.fn.b
