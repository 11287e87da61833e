-- Which places an edit touches. Fields that stand elsewhere are the same after it.
use mathlib.Core.Path.{◌≡◌, refl, ◌∙◌}
use mathlib.Core.Bool.{Bool, true, false, ◌&&◌, ◌||◌}
use mathlib.Core.List.{List}
use mathlib.Core.Logic.{inl, inr}
use Prim.Native.Nat.{ℕ, zero, suc, ◌+◌, ◌≤◌, ◌<◌}
use native.Mathlib.Omega.{arith}
use lib.ListN.{length}
use lib.Dec.{leb, ltb}
use borrow.Author.Tests.{leb-false, ltb-false}
use Rattle.paper.specs.Bytes.{byte, two, four, part, over}
use Rattle.paper.specs.Form.{Rec, ◌equals◌}
use Rattle.paper.proofs.Forms.{contrary, cases}
use Rattle.laws.proofs.Bytes.{length_over, byte-over_other, part_same, two-same, four_same}

-- the places from i on, n of them; the places of either kind
abbrev pub from : ℕ → ℕ → ℕ → Bool
from i n j = leb i j && ltb j (i + n)

abbrev pub ◌∪◌ : (ℕ → Bool) → (ℕ → Bool) → ℕ → Bool
◌∪◌ a b j = a j || b j

-- outside of `touched` the bytes are the same
pub record Same (touched : ℕ → Bool) (x x' : Rec) : Type 0 where
  pub long : length x' ≡ length x
  pub at : (j : ℕ) → touched j ≡ false → byte j x' ≡ byte j x

pub same_over : (i : ℕ) (b : List ℕ) (x : Rec) → Same (from i (length b)) x (over i b x)
same_over i b x = record { long = length_over i b x; at = λ j e. go j (leb i j) refl (ltb j (i + length b)) refl e }
  where
    go : (j : ℕ) (p : Bool) → leb i j ≡ p → (q : Bool) → ltb j (i + length b) ≡ q → (p && q) ≡ false → byte j (over i b x) ≡ byte j x
    go j true u true w e = contrary e
    go j true u false w e = byte-over_other i j b x (inl (ltb-false j (i + length b) w))
    go j false u q w e = byte-over_other i j b x (inr (leb-false i j u))

neither : (a b : Bool) → (a || b) ≡ false → (a ≡ false) × (b ≡ false)
neither true b e = contrary e
neither false b e = (refl, e)

-- one edit after another
pub same_then : (a b : ℕ → Bool) (x y z : Rec) → Same a x y → Same b y z → Same (◌∪◌ a b) x z
same_then a b x y z f g =
    record {
      long = g.long ∙ f.long;
      at = λ j e. let w = neither (a j) (b j) e in g.at j w.1 ∙ f.at j w.0;
    }

pub same_refl : (a : ℕ → Bool) (x : Rec) → Same a x x
same_refl a x = record { long = refl; at = λ j e. refl }

-- whether an edit touches one of the n places from i on
abbrev pub hit : (ℕ → Bool) → ℕ → ℕ → Bool
hit touched i zero = false
hit touched i (suc n) = touched i || hit touched (suc i) n

pub missed : (touched : ℕ → Bool) (i n : ℕ) → hit touched i n ≡ false → (j : ℕ) → i ≤ j → j < i + n → touched j ≡ false
missed touched i zero e j a b = absurd (omega arith)
missed touched i (suc n) e j a b =
    let w = neither (touched i) (hit touched (suc i) n) e in
    cases (j equals i) (λ q. rw q w.0) (λ q. missed touched (suc i) n w.1 j (omega arith) (omega arith))

-- fields that no edit touches
module _ (touched : ℕ → Bool) (x x' : Rec) (same : Same touched x x') where
  pub two_kept : (i : ℕ) → hit touched i 2 ≡ false → two i x' ≡ two i x
  two_kept i e =
      two-same i x x' (same.at i (missed touched i 2 e i (omega arith) (omega arith)))
      (same.at (i + 1) (missed touched i 2 e (i + 1) (omega arith) (omega arith)))

  pub four_kept : (i : ℕ) → hit touched i 4 ≡ false → four i x' ≡ four i x
  four_kept i e =
      four_same i x x' (off i (omega arith) (omega arith)) (off (i + 1) (omega arith) (omega arith)) (off (i + 2) (omega arith) (omega arith))
      (off (i + 3) (omega arith) (omega arith))
    where
      off : (j : ℕ) → i ≤ j → j < i + 4 → byte j x' ≡ byte j x
      off j a b = same.at j (missed touched i 4 e j a b)

  pub part_kept : (i n : ℕ) → hit touched i n ≡ false → part i n x' ≡ part i n x
  part_kept i n e = part_same i n x x' same.long (λ j a b. same.at j (missed touched i n e j a b))
