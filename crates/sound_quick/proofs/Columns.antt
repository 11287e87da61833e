-- Laws of columns of marks: one entry more of a comparison, one row more, the buckets seen, and a column filled mark by mark.
use mathlib.Core.Bool.{Bool, true, false, not, ◌&&◌, ◌||◌, and-false, or-false, or_assoc}
use mathlib.Core.Path.{◌≡◌, refl, sym, ap, ◌∙◌}
use mathlib.Core.List.{List, [], ◌∷◌, ◌++◌, map}
use Prim.Native.Nat.{ℕ, zero, suc, min, ◌+◌, ◌-◌, ◌%◌, ◌≤◌, ◌<◌}
use native.Mathlib.Nat.{le_of_suc-le-suc, not-suc-le-zero}
use native.Mathlib.Numerals.{add-one}
use native.Mathlib.Omega.{arith}
use borrow.Author.Tests.{ne_eqb}
use lib.Dec.{eqb}
use lib.ListN.{length, get_or, take, drop, set, drop_of_length-le, length-replicate, length-set, length-drop}
use lib.Seq.{take-suc, drop-cons, set_at, length-take-le, append_snoc, take_all, take_at, drop-length, get_or-set_same, get_or-set_other}
use Rattle.paper.specs.Bytes.{zeros_of}
use Rattle.paper.specs.Form.{Rec, ◌equals◌, ◌=<◌}
use Rattle.paper.proofs.Forms.{contrary, cases}
use Rattle.laws.proofs.Choice.{either}
use Rattle.sound_quick.specs.Marks.{mark_of, occurs, repeated, differing, column}

-- one entry more is compared with x, and none is left
module _ (x : ℕ) (c : List ℕ) (i : ℕ) (hit : Bool) where
  pub hit_next : i < length c → (hit || occurs x (drop i c)) ≡ ((hit || eqb (get_or c i 0) x) || occurs x (drop (i + 1) c))
  unfolding occurs
  hit_next h = rw (drop-cons c i 0 h, add-one i) (sym (or_assoc hit (eqb (get_or c i 0) x) (occurs x (drop (suc i) c))))

  pub hit_end : length c ≤ i → (hit || occurs x (drop i c)) ≡ hit
  unfolding occurs
  hit_end h = rw (drop_of_length-le c h) (or-false hit)

-- ---- rows, from the last to the first

module _ (c : List ℕ) (i : ℕ) (p : 0 < i) (h : i ≤ length c) where
  pub row : drop (i - 1) c ≡ get_or c (i - 1) 0 ∷ drop i c
  row =
      let l : i - 1 < length c = omega arith in
      let e : suc (i - 1) ≡ i = omega arith in
      drop-cons c (i - 1) 0 l ∙ ap (λ (j : ℕ). get_or c (i - 1) 0 ∷ drop j c) e

  pub row_step : differing (drop (i - 1) c) ≡ not (repeated (get_or c (i - 1) 0) (drop i c)) && differing (drop i c)
  unfolding differing
  row_step = rw row

  -- what the slice behind row i - 1 holds
  pub rows_behind : take (length c - (i - 1 + 1)) (drop (i - 1 + 1) c) ≡ drop i c
  rows_behind = let e : i - 1 + 1 ≡ i = omega arith in rw e (take_all (length c - i) (drop i c) (omega (arith, length-drop i c)))

pub no_row : (c : List ℕ) → differing (drop (length c) c) ≡ true
unfolding differing
no_row c = rw (drop-length c)

-- rows that do not differ are enough
pub some_row : (k : ℕ) (c : List ℕ) → differing (drop k c) ≡ false → differing c ≡ false
unfolding differing
some_row zero c e = e
some_row (suc k) [] e = e
some_row (suc k) (x ∷ xs) e = rw (some_row k xs e) (and-false (not (repeated x xs)))

pub every-row : (c : List ℕ) (i : ℕ) → i ≤ 0 → differing (drop i c) ≡ true → differing c ≡ true
every-row c i h e = let z : i ≡ 0 = omega arith in rw z at e

-- the buckets of the marks seen
pub record Seen (t : List Bool) (xs : List ℕ) : Type 0 where
  pub long : length t ≡ 1021
  pub hit : (x : ℕ) → occurs x xs ≡ true → get_or t (x % 1021) false ≡ true

pub seen_none : (t : List Bool) (c : List ℕ) → length t ≡ 1021 → Seen t (drop (length c) c)
unfolding occurs
seen_none t c l = rw (drop-length c) (record { long = l; hit = λ x e. contrary (sym e) })

pub seen_more : {t : List Bool} {xs : List ℕ} → Seen t xs → (y : ℕ) → Seen (set t (y % 1021) true) (y ∷ xs)
unfolding occurs
seen_more {t} {xs} S y =
    record {
      long = rw length-set S.long;
      hit = λ x e. cases (x % 1021 equals y % 1021)
          (λ q. rw q (get_or-set_same t (y % 1021) true false (omega (arith, S.long))))
          (λ q. get_or-set_other t (y % 1021) (x % 1021) true false q ∙ S.hit x (rw (ne_eqb y x (λ z. q (ap (λ (v : ℕ). v % 1021) (sym z)))) at e));
    }

pub unseen : {t : List Bool} {xs : List ℕ} → Seen t xs → (x : ℕ) → get_or t (x % 1021) false ≡ false → occurs x xs ≡ false
unseen {t} {xs} S x n = either (occurs x xs) (λ e. contrary (sym (S.hit x e) ∙ n)) (λ e. e)

-- ---- a column is filled

pub length_marks : (f : Rec → ℕ) (rs : List Rec) → length (map f rs) ≡ length rs
length_marks f [] = refl
length_marks f (r ∷ rs) = ap suc (length_marks f rs)

mark-at : (f : Rec → ℕ) (rs : List Rec) (i : ℕ) → i < length rs → get_or (map f rs) i 0 ≡ f (get_or rs i [])
mark-at f [] i h = absurd (not-suc-le-zero h)
mark-at f (r ∷ rs) zero h = refl
mark-at f (r ∷ rs) (suc i) h = mark-at f rs i (le_of_suc-le-suc h)

-- the first i marks, then zeros
abbrev pub Filled : (Rec → ℕ) → List Rec → ℕ → List ℕ
Filled f rs i = take i (map f rs) ++ drop i (zeros_of 256)

pub filled-step : (f : Rec → ℕ) (rs : List Rec) (p : List ℕ) (i m : ℕ) → i < length rs → i < 256 → p ≡ Filled f rs i → m ≡ f (get_or rs i [])
    → set p i m ≡ Filled f rs (i + 1)
filled-step f rs p i m h k e em =
    let l : i < length (map f rs) = omega (arith, length_marks f rs) in
    let z : i < length (zeros_of 256) = omega (arith, length-replicate {A = ℕ} 256 0) in
    let v : get_or (map f rs) i 0 ≡ m = mark-at f rs i h ∙ sym em in
    rw (e, add-one, take-suc (map f rs) i 0 l, append_snoc, drop-cons (zeros_of 256) i 0 z, v)
    (set_at (take i (map f rs)) (get_or (zeros_of 256) i 0) (drop (suc i) (zeros_of 256)) m i (length-take-le i (map f rs) (omega arith)))

drop-zeros : (n k : ℕ) → drop k (zeros_of n) ≡ zeros_of (n - k)
drop-zeros n zero =
    let e : n ≡ n - 0 = omega arith in
    ap zeros_of e
drop-zeros zero (suc k) =
    let e : 0 ≡ 0 - suc k = omega arith in
    ap zeros_of e
drop-zeros (suc n) (suc k) =
    let e : n - k ≡ suc n - suc k = omega arith in
    drop-zeros n k ∙ ap zeros_of e

module _ (named : Bool) (rs : List Rec) where
  -- where all records have room, and where they have not
  filled_all : length rs ≤ 256 → Filled (mark_of named) rs (length rs) ≡ column named rs
  unfolding column
  filled_all h =
      let m : List ℕ = map (mark_of named) rs in
      let l : length m ≡ length rs = length_marks (mark_of named) rs in
      rw (take_all (length rs) m (omega arith), take_all 256 m (omega arith), drop-zeros 256 (length rs))

  filled_up : 256 < length rs → Filled (mark_of named) rs 256 ≡ column named rs
  unfolding column
  filled_up h = let e : 256 - length rs ≡ 0 = omega arith in rw e

  pub filled : (n : ℕ) → n ≡ min (length rs) 256 → Filled (mark_of named) rs n ≡ column named rs
  filled n e = cases (length rs =< 256)
      (λ h. let m : n ≡ length rs = omega (arith, e) in rw m (filled_all h))
      (λ o. let m : n ≡ 256 = omega (arith, e) in rw m (filled_up (omega arith)))

  -- the marks are the column's front
  pub front : length rs ≤ 256 → take (length rs) (column named rs) ≡ map (mark_of named) rs
  unfolding column
  front h =
      let m : List ℕ = map (mark_of named) rs in
      let l : length m ≡ length rs = length_marks (mark_of named) rs in
      rw (take_all 256 m (omega arith)) (take_at m (zeros_of (256 - length rs)) (length rs) l)
