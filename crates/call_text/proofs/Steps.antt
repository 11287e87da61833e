-- Laws of the rules of a PIN: what each says of a text, it says by the first byte and of those behind it.
use mathlib.Core.Path.{◌≡◌, refl, sym}
use mathlib.Core.Bool.{Bool, true, false, ◌&&◌, ◌||◌, cond}
use mathlib.Core.List.{List, [], ◌∷◌}
use Prim.Native.Nat.{ℕ, zero, suc, ◌-◌, ◌≤◌}
use native.Mathlib.Omega.{arith}
use borrow.Author.Tests.{le-leb, ne_eqb}
use lib.Dec.{eqb, leb}
use lib.ListN.{length}
use Rattle.std.specs.List.{list_all}
use Rattle.paper.specs.Bytes.{within}
use Rattle.paper.specs.Text.{alphanumeric, leads, utf8_from, stepped}
use Rattle.call_text.specs.Runs.{in_alphabet, to_come, is_run}

-- format 1
pub alphanumeric_all : (v : List ℕ) → list_all in_alphabet v ≡ alphanumeric v
unfolding alphanumeric
alphanumeric_all [] = refl
alphanumeric_all (b ∷ v) = rw (alphanumeric_all v)

-- format 2
module _ (b : ℕ) (w : List ℕ) where
  lead : (p q r s : Bool) → cond p (utf8_from 0 w) (cond q (utf8_from 1 w) (cond r (utf8_from 2 w) (cond s (utf8_from 3 w) false)))
      ≡ (leb (cond p 0 (cond q 1 (cond r 2 (cond s 3 4)))) 3 && utf8_from (cond p 0 (cond q 1 (cond r 2 (cond s 3 4)))) w)
  lead true q r s = refl
  lead false true r s = refl
  lead false false true s = refl
  lead false false false true = refl
  lead false false false false = refl

  tail : (n : ℕ) (p : Bool) → n ≤ 3 → (p && utf8_from n w) ≡ (leb (cond p n 4) 3 && utf8_from (cond p n 4) w)
  tail n true h = rw (le-leb n 3 h)
  tail n false h = refl

  after : (n : ℕ) → to_come (suc n) b ≡ cond (within 0x80 0xBF b) n 4
  after n =
      let z : suc n - 1 ≡ n = omega arith in
      rw (ne_eqb (suc n) 0 (λ e. omega arith), z)

  -- the text goes on with so many to come, or is broken
  pub utf8_more : (n : ℕ) → n ≤ 3 → utf8_from n (b ∷ w) ≡ (leb (to_come n b) 3 && utf8_from (to_come n b) w)
  unfolding utf8_from
  utf8_more zero l = lead (leads 0 b) (leads 1 b) (leads 2 b) (leads 3 b)
  utf8_more (suc n) l = rw (after n) (tail n (within 0x80 0xBF b) (omega arith))

-- or ends, whole if none is to come
pub utf8_end : (n : ℕ) → utf8_from n [] ≡ eqb n 0
unfolding utf8_from
utf8_end zero = refl
utf8_end (suc n) = sym (ne_eqb (suc n) 0 (λ e. omega arith))

-- stepped: a run of two bytes or more
pub stepped_runs : (v : List ℕ) → stepped v ≡ (leb 2 (length v) && (is_run true v || is_run false v))
stepped_runs [] = refl
stepped_runs (x ∷ []) = refl
stepped_runs (x ∷ y ∷ w) =
    let long = le-leb 2 (suc (suc (length w))) (omega arith) in
    rw long
