-- The comparison of two slices, and one byte more of a test of every byte: what is left of it at a place and one place further.
use mathlib.Core.Bool.{Bool, ◌&&◌, and_assoc, and-true}
use mathlib.Core.Path.{◌≡◌, refl, sym, ap}
use mathlib.Core.List.{List, [], ◌∷◌}
use Prim.Native.Nat.{ℕ, zero, suc, ◌+◌, ◌≤◌, ◌<◌}
use native.Mathlib.Numerals.{add-one}
use native.Mathlib.Omega.{arith}
use borrow.Author.Tests.{le-leb, lt-leb, ne_eqb}
use lib.Bits.{bit_or, or_add_and, and_le_l, and_le_r}
use lib.Dec.{eqb}
use lib.ListN.{length, get_or, drop, drop_of_length-le}
use lib.Pointwise.{pointwise}
use lib.Seq.{drop-cons}
use Rattle.hmac.specs.Same.{same}
use Rattle.paper.specs.Bytes.{within, all_within}

-- the library's comparison of two slices is `same`
pub pointwise-same : (a b : List ℕ) → pointwise eqb a b ≡ same a b
unfolding same
pointwise-same [] [] = refl
pointwise-same [] (y ∷ ys) = refl
pointwise-same (x ∷ xs) [] = refl
pointwise-same (x ∷ xs) (y ∷ ys) = ap (λ b. eqb x y && b) (pointwise-same xs ys)

within_step : (lo hi : ℕ) (s : List ℕ) (i : ℕ) → i < length s
    → all_within lo hi (drop i s) ≡ within lo hi (get_or s i 0) && all_within lo hi (drop (i + 1) s)
unfolding all_within
within_step lo hi s i h = rw (drop-cons s i 0 h, add-one i)

-- The answer so far, and the bytes that are left.
pub within_more : (lo hi : ℕ) (s : List ℕ) (i : ℕ) (ok w : Bool) → i < length s → w ≡ within lo hi (get_or s i 0)
    → ok && all_within lo hi (drop i s) ≡ (ok && w) && all_within lo hi (drop (i + 1) s)
within_more lo hi s i ok w h e = rw (within_step lo hi s i h, e) (sym (and_assoc ok (within lo hi (get_or s i 0)) (all_within lo hi (drop (i + 1) s))))

pub within-done : (lo hi : ℕ) (s : List ℕ) (i : ℕ) (ok : Bool) → length s ≤ i → ok && all_within lo hi (drop i s) ≡ ok
unfolding all_within
within-done lo hi s i ok h = rw (drop_of_length-le s h) (and-true ok)

-- Two bytes joined by OR are 0 just where each is.
or_blank : (x y : ℕ) → eqb (bit_or x y) 0 ≡ eqb x 0 && within 0 0 y
or_blank zero zero = refl
or_blank zero (suc y) =
    rw (le-leb 0 (suc y) (omega arith), lt-leb (suc y) 0 (omega arith)) (ne_eqb (bit_or 0 (suc y)) 0 (λ e. omega (arith, or_add_and 0 (suc y), and_le_l 0 (suc y), and_le_r 0 (suc y))))
or_blank (suc x) y =
    rw (ne_eqb (suc x) 0 (λ e. omega arith)) (ne_eqb (bit_or (suc x) y) 0 (λ e. omega (arith, or_add_and (suc x) y, and_le_l (suc x) y, and_le_r (suc x) y)))

pub blank_more : (s : List ℕ) (i seen : ℕ) → i < length s
    → eqb seen 0 && all_within 0 0 (drop i s) ≡ eqb (bit_or seen (get_or s i 0)) 0 && all_within 0 0 (drop (i + 1) s)
blank_more s i seen h = rw (or_blank seen (get_or s i 0)) (within_more 0 0 s i (eqb seen 0) _ h refl)
