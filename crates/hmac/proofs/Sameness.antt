-- Laws of the comparison: `same` is equality, both ways, and gathered differences are 0 just where no byte differs.
use mathlib.Core.Bool.{Bool, true}
use mathlib.Core.Path.{◌≡◌, refl, ap, ap₂, ◌∙◌}
use mathlib.Core.List.{List, [], ◌∷◌}
use Prim.Native.Nat.{ℕ}
use native.Mathlib.Omega.{arith}
use borrow.Author.Rules.{rules}
use lib.Bits.{bit_or, bit_xor, or_add_and, xor_add_and, and_le_l, and_le_r, xor_self}
use lib.ListN.{length}
use Rattle.std.specs.Bool.{Decides}
use Rattle.std.specs.List.{fold, zip}
use Rattle.std.proofs.lemmas.Bool.Decides.{same_from_decides}
use Rattle.std.proofs.lemmas.Slice.Eq.{compares_Decides}
use Rattle.hmac.specs.Same.{same}

same-decides : (a b : List ℕ) → Decides (same a b) (a ≡ b)
unfolding same
same-decides a b = compares_Decides same (search rules) a b

-- what tests as the same is equal
pub same_eq : (a b : List ℕ) → same a b ≡ true → a ≡ b
same_eq a b e = (same-decides a b).0 e

-- what is equal tests as the same
pub eq_same : (a b : List ℕ) → a ≡ b → same a b ≡ true
eq_same a b e = (same-decides a b).1 e

-- so a test that is true just of equal lists is `same`
pub test-same : (a b : List ℕ) (t : Bool) → (t ≡ true → a ≡ b) → (a ≡ b → t ≡ true) → t ≡ same a b
test-same a b t f g = same_from_decides {P = a ≡ b} t (same a b) (f, g) (same-decides a b)

or_zero : (x y : ℕ) → bit_or x y ≡ 0 → (x ≡ 0) × (y ≡ 0)
or_zero x y e = omega (arith, or_add_and x y, and_le_l x y, and_le_r x y)

xor_zero : (x y : ℕ) → bit_xor x y ≡ 0 → x ≡ y
xor_zero x y e = omega (arith, xor_add_and x y, and_le_l x y, and_le_r x y)

-- what a byte of each adds to the differences gathered
abbrev pub differing : ℕ → ℕ × ℕ → ℕ
differing d p = bit_or d (bit_xor p.0 p.1)

pub none_differ : (a b : List ℕ) (d : ℕ) → length a ≡ length b → fold differing d (zip a b) ≡ 0 → (d ≡ 0) × (a ≡ b)
none_differ [] [] d l e = (e, refl)
none_differ [] (y ∷ ys) d l e = absurd (omega arith)
none_differ (x ∷ xs) [] d l e = absurd (omega arith)
none_differ (x ∷ xs) (y ∷ ys) d l e =
    let n : length xs ≡ length ys = omega arith in
    let r : (bit_or d (bit_xor x y) ≡ 0) × (xs ≡ ys) = none_differ xs ys (bit_or d (bit_xor x y)) n e in
    let z : (d ≡ 0) × (bit_xor x y ≡ 0) = or_zero d (bit_xor x y) r.0 in
    (z.0, ap₂ (λ (v : ℕ) (l : List ℕ). v ∷ l) (xor_zero x y z.1) r.1)

pub same_differ : (a : List ℕ) → fold differing 0 (zip a a) ≡ 0
same_differ [] = refl
same_differ (x ∷ xs) = let z : bit_or 0 (bit_xor x x) ≡ 0 = rw xor_self in ap (λ (d : ℕ). fold differing d (zip xs xs)) z ∙ same_differ xs
