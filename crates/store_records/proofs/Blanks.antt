-- A free record is 256 zeros: the comparison with them is a test of every byte.
use mathlib.Core.Bool.{false}
use mathlib.Core.Path.{◌≡◌, refl, ap, ◌∙◌}
use mathlib.Core.List.{List, [], ◌∷◌}
use Prim.Native.Nat.{ℕ, zero, suc}
use borrow.Author.Tests.{le-leb, lt-leb, ne_eqb}
use native.Mathlib.Omega.{arith}
use lib.Dec.{eqb}
use lib.ListN.{length, get_or, length-replicate}
use Rattle.hmac.specs.Same.{same}
use Rattle.hmac.proofs.Sameness.{test-same}
use Rattle.paper.specs.Bytes.{within, all_within, zeros_of}
use Rattle.paper.specs.Records.{zeros, is_free}

zero-within : (x : ℕ) → within 0 0 x ≡ eqb x 0
zero-within zero = refl
zero-within (suc x) = rw (le-leb 0 (suc x) (omega arith), lt-leb (suc x) 0 (omega arith), ne_eqb (suc x) 0 (λ e. omega arith))

blank_same : (r : List ℕ) → all_within 0 0 r ≡ same r (zeros_of (length r))
unfolding all_within same
blank_same [] = refl
blank_same (x ∷ xs) = rw (zero-within x, blank_same xs)

pub free_blank : (r : List ℕ) → length r ≡ 256 → all_within 0 0 r ≡ is_free r
unfolding is_free zeros
free_blank r h = blank_same r ∙ rw h

pub not_free : (r : List ℕ) → (length r ≡ 256 → ⊥) → false ≡ is_free r
unfolding is_free zeros
not_free r h = test-same r (zeros_of 256) false (λ t. cc) (λ e. absurd (h (ap length e ∙ length-replicate {A = ℕ} 256 0)))

-- whose first byte is not 0
pub taken_first : (r : List ℕ) → (get_or r 0 0 ≡ 0 → ⊥) → false ≡ is_free r
unfolding is_free zeros
taken_first r h = test-same r (zeros_of 256) false (λ t. cc) (λ e. absurd (h (ap (λ l. get_or l 0 0) e)))
