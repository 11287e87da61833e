-- Records by their places: who is not blank stands at a place of the store, and pairs of different places are pairs of records.
use mathlib.Core.Path.{◌≡◌, refl, sym}
use mathlib.Core.List.Memᴰ
use mathlib.Core.List.{List, [], ◌∷◌, Memᴰ}
use mathlib.Core.Logic.{◌⊎◌, inl, inr}
use Prim.Native.Nat.{ℕ, zero, suc, ◌≤◌, ◌<◌}
use native.Mathlib.Omega.{arith}
use native.Mathlib.Nat.{le_of_suc-le-suc, not-suc-le-zero}
use lib.ListN.{length, get_or}
use Rattle.paper.specs.Bytes.{byte}
use Rattle.paper.specs.Form.{Rec, Pairs}
use Rattle.paper.specs.Records.{kind}

pub stands : (rs : List Rec) (i : ℕ) → i < length rs → Memᴰ (get_or rs i []) rs
stands [] i h = absurd (not-suc-le-zero h)
stands (x ∷ rs) zero h = Memᴰ.head refl
stands (x ∷ rs) (suc i) h = Memᴰ.tail (stands rs i (le_of_suc-le-suc h))

pub found : (rs : List Rec) {x : Rec} → Memᴰ x rs → (i : ℕ) × (i < length rs) × (get_or rs i [] ≡ x)
found [] m = absurd (Memᴰ.not-nil m)
found (y ∷ rs) {x} m = go (Memᴰ.cases_cons m) (λ n. found rs n)
  where
    go : (x ≡ y) ⊎ Memᴰ x rs → (Memᴰ x rs → (i : ℕ) × (i < length rs) × (get_or rs i [] ≡ x)) → (i : ℕ) × (i < length (y ∷ rs)) × (get_or (y ∷ rs) i [] ≡ x)
    go (inl e) h = (0, omega arith, sym e)
    go (inr n) h = let w = h n in let l = w.1 in (suc w.0, omega arith, w.2)

pub apart_at : (P : Rec → Rec → Type 0) (rs : List Rec) → Pairs P rs → (i j : ℕ) → i < j → j < length rs → P (get_or rs i []) (get_or rs j [])
apart_at P [] p i j l h = absurd (not-suc-le-zero h)
apart_at P (x ∷ rs) p i zero l h = absurd (not-suc-le-zero l)
apart_at P (x ∷ rs) p zero (suc j) l h = p.0 (get_or rs j []) (stands rs j (le_of_suc-le-suc h))
apart_at P (x ∷ rs) p (suc i) (suc j) l h = apart_at P rs p.1 i j (le_of_suc-le-suc l) (le_of_suc-le-suc h)

-- a record of a kind is there
pub there_at : (rs : List Rec) (i : ℕ) → 1 ≤ kind (get_or rs i []) → i < length rs
unfolding byte
there_at [] i h = absurd (not-suc-le-zero h)
there_at (x ∷ rs) zero h = omega arith
there_at (x ∷ rs) (suc i) h = let l = there_at rs i h in omega arith
