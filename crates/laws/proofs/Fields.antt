-- The table's fields: a field's form goes with its bytes, so an edit leaves the fields right that it does not touch.
use mathlib.Core.Path.{◌≡◌, refl, sym, ap, ◌∙◌}
use mathlib.Core.Bool.{Bool, true, false, ◌&&◌, cond}
use mathlib.Core.List.{List, [], ◌∷◌}
use Prim.Native.Nat.{ℕ, zero, suc, ◌+◌, ◌-◌, ◌≤◌, ◌<◌}
use native.Mathlib.Omega.{arith}
use native.Mathlib.Nat.{add-zero}
use lib.ListN.{length}
use lib.Dec.{eqb, leb}
use borrow.Author.Tests.{eqb-true, leb-true}
use Rattle.paper.specs.Limits.{record_bytes}
use Rattle.paper.specs.Bytes.{byte, two, four, part, text_at, within}
use Rattle.paper.specs.Form.{Rec}
use Rattle.paper.specs.Records.{kind}
use Rattle.paper.specs.Table.{Field, u8, u16, u32, bytes, blank, text, ident, width, field_fits, fits, is_text, is_blank, printable, fields_of, obeys_table}
use Rattle.laws.proofs.Bytes.{split, list_same, byte-part, length_part}
use Rattle.laws.proofs.Places.{Same, hit, missed}

pub joint : (a b : Bool) → a ≡ true → b ≡ true → (a && b) ≡ true
joint a b p q = rw (p, q)

-- ---- a field's bytes, at place i of x, stand at place k of y too
module _ (i k : ℕ) (x y : Rec) where
  abbrev Moved : ℕ → Type 0
  Moved n = (j : ℕ) → j < n → byte (k + j) y ≡ byte (i + j) x

  byte-moved : (n : ℕ) → 1 ≤ n → Moved n → byte k y ≡ byte i x
  byte-moved n l m = ap (λ (j : ℕ). byte j y) (sym (add-zero k)) ∙ m 0 l ∙ ap (λ (j : ℕ). byte j x) (add-zero i)

  part_moved : (n o w : ℕ) → Moved n → o + w ≤ n → i + n ≤ length x → k + n ≤ length y → part (k + o) w y ≡ part (i + o) w x
  part_moved n o w m h a b =
      list_same (part (i + o) w x) (part (k + o) w y) (length_part (k + o) w y (omega arith) ∙ sym (length_part (i + o) w x (omega arith))) (λ j l.
      each j (rw (length_part (i + o) w x (omega arith)) at l))
    where
      each : (j : ℕ) → j < w → byte j (part (k + o) w y) ≡ byte j (part (i + o) w x)
      each j l =
          let p : k + o + j ≡ k + (o + j) = omega arith in
          let q : i + o + j ≡ i + (o + j) = omega arith in
          byte-part (k + o) w j y l ∙ ap (λ (t : ℕ). byte t y) p ∙ m (o + j) (omega arith) ∙ sym
          (byte-part (i + o) w j x l ∙ ap (λ (t : ℕ). byte t x) q)

  text_moved : (n lo : ℕ) → Moved (suc n) → i + suc n ≤ length x → k + suc n ≤ length y → is_text n lo i x ≡ true
      → (is_text n lo k y ≡ true) × (text_at k y ≡ text_at i x)
  unfolding text_at
  text_moved n lo m a b t =
      let w = split (within lo n (byte i x)) (is_blank (part (i + 1 + byte i x) (n - byte i x) x)) t in
      let most = leb-true (byte i x) n (split (leb lo (byte i x)) (leb (byte i x) n) w.0).1 in
      let e = byte-moved (suc n) (omega arith) m in
      let p : k + 1 + byte i x ≡ k + (1 + byte i x) = omega arith in
      let q : i + 1 + byte i x ≡ i + (1 + byte i x) = omega arith in
      rw e (
        joint (within lo n (byte i x)) (is_blank (part (k + 1 + byte i x) (n - byte i x) y)) w.0
            (ap is_blank (ap (λ (t : ℕ). part t (n - byte i x) y) p ∙ part_moved (suc n) (1 + byte i x) (n - byte i x) m (omega arith) a b ∙ ap (λ (t : ℕ). part t (n - byte i x) x) (sym q)) ∙ w.1),
        part_moved (suc n) 1 (byte i x) m (omega arith) a b,
      )

  pub right_moved : (f : Field) → Moved (width f) → i + width f ≤ length x → k + width f ≤ length y → field_fits f i x ≡ true → field_fits f k y ≡ true
  right_moved (u8 lo hi) m a b t = rw (byte-moved 1 (omega arith) m) t
  right_moved (u16 lo hi) m a b t = rw two-moved t
    where
      two-moved : two k y ≡ two i x
      two-moved = unfold two in rw (byte-moved 2 (omega arith) m, m 1 (omega arith))
  right_moved (u32 lo hi) m a b t = rw four-moved t
    where
      four-moved : four k y ≡ four i x
      four-moved = unfold four in rw (byte-moved 4 (omega arith) m, m 1 (omega arith), m 2 (omega arith), m 3 (omega arith))
  right_moved (bytes n) m a b t = refl
  right_moved (blank n) m a b t = rw part_all t
    where
      part_all : part k n y ≡ part i n x
      part_all = ap (λ (j : ℕ). part j n y) (sym (add-zero k)) ∙ part_moved n 0 n m (omega arith) a b ∙ ap (λ (j : ℕ). part j n x) (add-zero i)
  right_moved (text n lo) m a b t = (text_moved n lo m a b t).0
  right_moved (ident n lo) m a b t =
      let w = split (is_text n lo i x) (printable (text_at i x)) t in
      let v = text_moved n lo m a b w.0 in
      joint (is_text n lo k y) (printable (text_at k y)) v.0 (ap printable v.1 ∙ w.1)

abbrev pub total : List Field → ℕ
total [] = 0
total (f ∷ fs) = width f + total fs

-- what is left to test after an edit
abbrev pub retest : (ℕ → Bool) → List Field → ℕ → Rec → Bool
retest touched [] i r = true
retest touched (f ∷ fs) i r = cond (hit touched i (width f)) (field_fits f i r) true && retest touched fs (i + width f) r

pub fits_kept : (touched : ℕ → Bool) (x x' : Rec) → Same touched x x' → (fs : List Field) (i : ℕ) → i + total fs ≤ length x
    → fits fs i x ≡ true → retest touched fs i x' ≡ true → fits fs i x' ≡ true
fits_kept touched x x' same [] i l h t = refl
fits_kept touched x x' same (f ∷ fs) i l h t =
    let w = split (field_fits f i x) (fits fs (i + width f) x) h in
    go (hit touched i (width f)) refl t w.0 (fits_kept touched x x' same fs (i + width f) (omega arith) w.1)
  where
    go : (b : Bool) → hit touched i (width f) ≡ b → (cond b (field_fits f i x') true && retest touched fs (i + width f) x') ≡ true → field_fits f i x ≡ true
        → (retest touched fs (i + width f) x' ≡ true → fits fs (i + width f) x' ≡ true) → (field_fits f i x' && fits fs (i + width f) x') ≡ true
    go true q e p k = let w = split (field_fits f i x') (retest touched fs (i + width f) x') e in joint (field_fits f i x') (fits fs (i + width f) x') w.0 (k w.1)
    go false q e p k =
        joint (field_fits f i x') (fits fs (i + width f) x')
        (right_moved i i x x' f (λ j a. same.at (i + j) (missed touched i (width f) q (i + j) (omega arith) (omega arith))) (omega arith) (let s = same.long in omega arith) p)
        (k e)

-- the n-th field's own test
abbrev pub field : ℕ → List Field → ℕ → Rec → Bool
field n [] i r = true
field zero (f ∷ fs) i r = field_fits f i r
field (suc n) (f ∷ fs) i r = field n fs (i + width f) r

pub fits_field : (n : ℕ) (fs : List Field) (i : ℕ) (r : Rec) → fits fs i r ≡ true → field n fs i r ≡ true
fits_field n [] i r h = refl
fits_field zero (f ∷ fs) i r h = (split (field_fits f i r) (fits fs (i + width f) r) h).0
fits_field (suc n) (f ∷ fs) i r h = fits_field n fs (i + width f) r (split (field_fits f i r) (fits fs (i + width f) r) h).1

-- ---- records that obey the table

pub tabled-length : (r : Rec) → obeys_table r ≡ true → length r ≡ record_bytes
unfolding obeys_table
tabled-length r t = eqb-true (length r) record_bytes (split (eqb (length r) record_bytes) (fits (fields_of (kind r)) 0 r) t).0

pub tabled-fits : (k : ℕ) (r : Rec) → kind r ≡ k → obeys_table r ≡ true → fits (fields_of k) 0 r ≡ true
unfolding obeys_table
tabled-fits k r e t = ap (λ (n : ℕ). fits (fields_of n) 0 r) (sym e) ∙ (split (eqb (length r) record_bytes) (fits (fields_of (kind r)) 0 r) t).1

pub tabled_field : (n k : ℕ) (r : Rec) → kind r ≡ k → obeys_table r ≡ true → field n (fields_of k) 0 r ≡ true
tabled_field n k r e t = fits_field n (fields_of k) 0 r (tabled-fits k r e t)

pub tabled : (k : ℕ) (r : Rec) → kind r ≡ k → length r ≡ record_bytes → fits (fields_of k) 0 r ≡ true → obeys_table r ≡ true
unfolding obeys_table
tabled k r e l f = joint (eqb (length r) record_bytes) (fits (fields_of (kind r)) 0 r) (rw l) (ap (λ (n : ℕ). fits (fields_of n) 0 r) e ∙ f)

-- an edited record obeys the table where the touched fields are right
pub tabled_kept : (touched : ℕ → Bool) (x x' : Rec) → Same touched x x' → (k : ℕ) → kind x ≡ k → kind x' ≡ k → total (fields_of k) ≡ record_bytes
    → obeys_table x ≡ true → retest touched (fields_of k) 0 x' ≡ true → obeys_table x' ≡ true
tabled_kept touched x x' same k e e' w t r =
    let l = tabled-length x t in
    tabled k x' e' (same.long ∙ l) (fits_kept touched x x' same (fields_of k) 0 (rw (w, l) (omega arith)) (tabled-fits k x e t) r)
