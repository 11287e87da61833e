-- Laws of a store's records: how many there are, where each stands, what stands behind the last, and that together they are the store.
use mathlib.Core.Path.{◌≡◌, refl, sym, ap, ◌∙◌}
use mathlib.Core.List.{List, [], ◌∷◌, append-nil}
use Prim.Native.Nat.{ℕ, zero, suc, ◌+◌, ◌*◌, ◌-◌, ◌/◌, ◌%◌, ◌≤◌, ◌<◌}
use native.Mathlib.Nat.{not-suc-le-zero}
use native.Mathlib.Numerals.{add-one}
use native.Mathlib.Omega.{arith}
use lib.ListN.{length, get_or, take, drop, take-append-drop, drop_of_length-le, length-take, length-drop, get_or-eq_default}
use lib.Seq.{drop-drop, drop-cons, drop_at, take-add, length-take-le}
use Rattle.paper.specs.Form.{Rec}
use Rattle.paper.specs.Records.{records_of, records, joined}
use Rattle.store_records.specs.View.{rest, remade, Becomes}

length_of : (n : ℕ) (s : List ℕ) → length (records_of n s) ≡ n
unfolding records_of
length_of zero s = refl
length_of (suc n) s = ap suc (length_of n (drop 256 s))

pub length-records : (s : List ℕ) → length (records s) ≡ length s / 256
unfolding records
length-records s = length_of (length s / 256) s

at_of : (n i : ℕ) (s : List ℕ) → i < n → get_or (records_of n s) i [] ≡ take 256 (drop (256 * i) s)
unfolding records_of
at_of zero i s h = absurd (not-suc-le-zero h)
at_of (suc n) zero s h = refl
at_of (suc n) (suc i) s h =
    let e : 256 * suc i ≡ 256 + 256 * i = omega arith in
    at_of n i (drop 256 s) (omega arith) ∙ rw (e, drop-drop)

pub record_is : (s : List ℕ) (i : ℕ) → i < length s / 256 → get_or (records s) i [] ≡ take 256 (drop (256 * i) s)
unfolding records
record_is s i h = at_of (length s / 256) i s h

-- a record shown as a part of the store; past the last one there is none
module _ (s : List ℕ) (i : ℕ) where
  pub shown : i < length s / 256 → take ((256 * i + 256) - 256 * i) (drop (256 * i) s) ≡ get_or (records s) i []
  shown h = let e : (256 * i + 256) - 256 * i ≡ 256 = omega arith in rw (e, record_is s i h)

  pub none_shown : length s / 256 ≤ i → ◌≡◌ {A = List ℕ} [] (get_or (records s) i [])
  none_shown h = sym (get_or-eq_default (records s) [] (omega (arith, length-records s)))

  pub length-record : i < length s / 256 → length (get_or (records s) i []) ≡ 256
  length-record h = rw (record_is s i h) (simp (length-take, length-drop) (omega arith))

  -- the records from i on: record i, and those after it
  pub records_from : i < length s / 256 → drop i (records s) ≡ get_or (records s) i [] ∷ drop (i + 1) (records s)
  records_from h = let b : i < length (records s) = omega (arith, length-records s) in rw (add-one i, drop-cons (records s) i [] b)

  pub records_end : length s / 256 ≤ i → drop i (records s) ≡ []
  records_end h = let b : length (records s) ≤ i = omega (arith, length-records s) in drop_of_length-le (records s) b

joined_of : (n : ℕ) (s : List ℕ) → joined (records_of n s) ≡ take (256 * n) s
unfolding joined records_of
joined_of zero s = refl
joined_of (suc n) s =
    let e : 256 * suc n ≡ 256 + 256 * n = omega arith in
    rw (e, take-add 256 (256 * n) s, joined_of n (drop 256 s))

pub joined-records : (s : List ℕ) → joined (records s) ≡ take (256 * (length s / 256)) s
unfolding records
joined-records s = joined_of (length s / 256) s

-- every store is its records and its rest
pub remade-same : (s : List ℕ) → remade (records s) s ≡ s
unfolding remade rest
remade-same s = rw (joined-records s) (take-append-drop (256 * (length s / 256)) s)

-- a store that has such records, and the rest of s
pub becomes : (rs : List Rec) (s t : List ℕ) → records t ≡ rs → rest t ≡ rest s → Becomes rs s t
unfolding remade
becomes rs s t e f = record { bytes = sym (remade-same t) ∙ rw (e, f); view = e }

-- what became of a store has the store's rest, so one change after another is one change
pub rest_kept : {rs : List Rec} {s t : List ℕ} → Becomes rs s t → rest t ≡ rest s
unfolding rest remade
rest_kept {rs} {s} {t} w =
    let n : ℕ = 256 * (length t / 256) in
    let l : length (joined (records t)) ≡ n = rw (joined-records t) (length-take-le n t (omega arith)) in
    ap (drop n) (w.bytes ∙ rw (← w.view)) ∙ drop_at (joined (records t)) (rest s) n l

pub after : {rs qs : List Rec} {s t u : List ℕ} → Becomes rs s t → Becomes qs t u → Becomes qs s u
after {rs} {qs} {s} {t} {u} w v = becomes qs s u v.view (rest_kept v ∙ rest_kept w)

-- whose length fits has no rest
pub no_rest : (s : List ℕ) → length s % 256 ≡ 0 → rest s ≡ []
unfolding rest
no_rest s h = let l : length s ≤ 256 * (length s / 256) = omega arith in drop_of_length-le s l

pub whole : (rs : List Rec) (s t : List ℕ) → length s % 256 ≡ 0 → Becomes rs s t → t ≡ joined rs
unfolding remade
whole rs s t h b = b.bytes ∙ rw (no_rest s h, append-nil)
