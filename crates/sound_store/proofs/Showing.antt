-- All of a store's records found near: the places from 0 on, one after the other, are all the store's.
use mathlib.Core.Bool.{Bool, true, false, ◌&&◌}
use mathlib.Core.List.{List}
use mathlib.Core.Path.{◌≡◌, refl, sym}
use Prim.Native.Nat.{ℕ, zero, suc, ◌+◌, ◌<◌}
use native.Mathlib.Omega.{arith}
use Rattle.std.proofs.Common.{add-zero, zero-add}
use lib.ListN.{length}
use Rattle.std.specs.List.{list_all, range_with_len}
use Rattle.paper.specs.Form.{test}
use Rattle.paper.specs.Records.{records}
use Rattle.paper.proofs.Forms.{both, contrary}
use Rattle.sound_store.specs.Shown.{sited_at, Shown}

-- what holds of each place of a range
each_place : (T : ℕ → Bool) (a n : ℕ) → list_all T (range_with_len a n) ≡ true → (j : ℕ) → j < n → T (a + j) ≡ true
each_place T a zero e j l = absurd (omega arith)
each_place T a (suc n) e j l = go (T a) refl e (each_place T (a + 1) n) j l
  where
    go : (b : Bool) → T a ≡ b → b && list_all T (range_with_len (a + 1) n) ≡ true
        → (list_all T (range_with_len (a + 1) n) ≡ true → (k : ℕ) → k < n → T (a + 1 + k) ≡ true)
        → (j : ℕ) → j < suc n → T (a + j) ≡ true
    go false q e h j l = contrary (sym e)
    go true q e h zero l = rw (add-zero a) q
    go true q e h (suc k) l =
        let m : a + suc k ≡ a + 1 + k = omega arith in
        rw m (h e k (omega arith))

pub shown : (s up over under : List ℕ) (m : ℕ) → list_all (λ i. test (sited_at (records s) m up over under i)) (range_with_len 0 (length (records s))) ≡ true → Shown (records s)
shown s up over under m e =
    record {
      m = m;
      up = up;
      over = over;
      under = under;
      sited = λ j l. (both (sited_at (records s) m up over under j)).0 (rw zero-add at (each_place (λ i. test (sited_at (records s) m up over under i)) 0 (length (records s)) e j l));
    }
