-- The field of a text byte by byte: how many bytes of the text are still to come says what the next byte must be.
use mathlib.Core.Bool.{Bool, true, false, not, ◌&&◌, ◌||◌, and_assoc, and-true, and-false}
use mathlib.Core.Path.{◌≡◌, refl, sym, ap, ◌∙◌}
use mathlib.Core.List.{List, [], ◌∷◌}
use Prim.Native.Nat.{ℕ, zero, suc, ◌+◌, ◌-◌, ◌≤◌, ◌<◌}
use native.Mathlib.Numerals.{add-one}
use native.Mathlib.Omega.{arith}
use borrow.Author.Tests.{le-leb, lt-leb, leb-true, leb-false, ltb-true, ltb-false, eq-eqb, ne_eqb}
use lib.Dec.{eqb, leb, ltb}
use lib.ListN.{length, get_or, take, drop, drop_of_length-le}
use lib.Seq.{drop-cons, drop-drop, take-take, take-nil, drop-nil}
use Rattle.paper.specs.Bytes.{part, within, all_within}
use Rattle.paper.specs.Table.{is_blank, printable}

-- No byte is to come from place v on.
none_left : (v i : ℕ) → leb v i ≡ eqb (v - i) 0
none_left v i = go (leb v i) refl
  where
    go : (t : Bool) → leb v i ≡ t → leb v i ≡ eqb (v - i) 0
    go true e =
        let h : v ≤ i = leb-true v i e in
        e ∙ sym (eq-eqb (v - i) 0 (omega arith))
    go false e =
        let h : i < v = leb-false v i e in
        e ∙ sym (ne_eqb (v - i) 0 (λ q. omega arith))

some_left : (v i : ℕ) → ltb i v ≡ not (eqb (v - i) 0)
some_left v i = go (ltb i v) refl
  where
    go : (t : Bool) → ltb i v ≡ t → ltb i v ≡ not (eqb (v - i) 0)
    go true e =
        let h : i < v = ltb-true i v e in
        e ∙ sym (ap not (ne_eqb (v - i) 0 (λ q. omega arith)))
    go false e =
        let h : v ≤ i = ltb-false i v e in
        e ∙ sym (ap not (eq-eqb (v - i) 0 (omega arith)))

-- One byte more, for a test `holds` of a field of which k bytes of text are still to come.
or_not : (a x r : Bool) → not a && (not x && r) ≡ not (a || x) && r
or_not true x r = refl
or_not false x r = refl

module _ (holds : ℕ → List ℕ → Bool) (wrong : ℕ → ℕ → Bool) (cell : (k b : ℕ) (l : List ℕ) → holds k (b ∷ l) ≡ not (wrong k b) && holds (k - 1) l) where
  next : (v : ℕ) (s : List ℕ) (i : ℕ) (bad : Bool) → i < length s
      → not bad && holds (v - i) (drop i s) ≡ not (bad || wrong (v - i) (get_or s i 0)) && holds (v - (i + 1)) (drop (i + 1) s)
  next v s i bad h =
      let e : v - (i + 1) ≡ v - i - 1 = omega arith in
      rw (e, drop-cons s i 0 h, add-one i, cell (v - i) (get_or s i 0) (drop (suc i) s))
      (or_not bad (wrong (v - i) (get_or s i 0)) (holds (v - i - 1) (drop (suc i) s)))

zero-byte : (b : ℕ) → within 0 0 b ≡ not (not (eqb b 0))
zero-byte zero = refl
zero-byte (suc b) = rw (le-leb 0 (suc b) (omega arith), lt-leb (suc b) 0 (omega arith), ne_eqb (suc b) 0 (λ q. omega arith))

one_less : (k : ℕ) → suc k - 1 ≡ k
one_less k = omega arith

-- A text: zeros behind it.
blank_cell : (k b : ℕ) (l : List ℕ) → is_blank (drop k (b ∷ l)) ≡ not (eqb k 0 && not (eqb b 0)) && is_blank (drop (k - 1) l)
unfolding all_within
blank_cell zero b l = rw (zero-byte b)
blank_cell (suc k) b l = rw (ne_eqb (suc k) 0 (λ q. omega arith), one_less k)

no_less : (v : ℕ) → v - 0 ≡ v
no_less v = omega arith

pub blank_start : (v : ℕ) (s : List ℕ) → is_blank (drop v s) ≡ is_blank (drop (v - 0) s)
blank_start v s = rw (no_less v)

pub blank_more : (v : ℕ) (s : List ℕ) (p i : ℕ) (bad : Bool) → p ≡ i → i < length s
    → not bad && is_blank (drop (v - i) (drop i s))
    ≡ not (bad || (leb v p && not (eqb (get_or s i 0) 0))) && is_blank (drop (v - (i + 1)) (drop (i + 1) s))
blank_more v s p i bad e h = rw (e, none_left v i) (next (λ k l. is_blank (drop k l)) (λ k b. eqb k 0 && not (eqb b 0)) blank_cell v s i bad h)

pub blank_done : (k : ℕ) (s : List ℕ) (i : ℕ) (bad : Bool) → length s ≤ i → not bad && is_blank (drop k (drop i s)) ≡ not bad
unfolding all_within
blank_done k s i bad h = rw (drop_of_length-le s h, drop-nil {A = ℕ} k) (and-true (not bad))

-- An ID: its bytes are printable besides.
named : (a w r : Bool) → a && (w && r) ≡ not (not w || false) && (a && r)
named true true r = refl
named true false r = refl
named false true r = refl
named false false r = refl

ident_cell : (k b : ℕ) (l : List ℕ)
    → is_blank (drop k (b ∷ l)) && printable (take k (b ∷ l))
    ≡ not ((not (eqb k 0) && not (within 0x21 0x7E b)) || (eqb k 0 && not (eqb b 0))) && (is_blank (drop (k - 1) l) && printable (take (k - 1) l))
unfolding all_within
ident_cell zero b l = rw (zero-byte b) (and_assoc (not (not (eqb b 0))) (all_within 0 0 l) true)
ident_cell (suc k) b l =
    rw (ne_eqb (suc k) 0 (λ q. omega arith), one_less k) (named (is_blank (drop k l)) (within 0x21 0x7E b) (printable (take k l)))

pub ident_start : (v : ℕ) (s : List ℕ) → is_blank (drop v s) && printable (take v s) ≡ is_blank (drop (v - 0) s) && printable (take (v - 0) s)
ident_start v s = rw (no_less v)

pub ident_more : (v : ℕ) (s : List ℕ) (p i : ℕ) (bad w : Bool) → p ≡ i → i < length s → w ≡ within 0x21 0x7E (get_or s i 0)
    → not bad && (is_blank (drop (v - i) (drop i s)) && printable (take (v - i) (drop i s)))
    ≡ not (bad || ((ltb p v && not w) || (leb v p && not (eqb (get_or s i 0) 0))))
    && (is_blank (drop (v - (i + 1)) (drop (i + 1) s)) && printable (take (v - (i + 1)) (drop (i + 1) s)))
ident_more v s p i bad w e h f =
    rw (e, f, none_left v i, some_left v i)
    (next (λ k l. is_blank (drop k l) && printable (take k l)) (λ k b. (not (eqb k 0) && not (within 0x21 0x7E b)) || (eqb k 0 && not (eqb b 0))) ident_cell v s i bad h)

pub ident_done : (k : ℕ) (s : List ℕ) (i : ℕ) (bad : Bool) → length s ≤ i
    → not bad && (is_blank (drop k (drop i s)) && printable (take k (drop i s))) ≡ not bad
unfolding all_within
ident_done k s i bad h = rw (drop_of_length-le s h, drop-nil {A = ℕ} k, take-nil {A = ℕ} k) (and-true (not bad))

-- What stands behind v bytes of a field, and these v bytes.
drop-take : (v n : ℕ) (l : List ℕ) → drop v (take n l) ≡ take (n - v) (drop v l)
drop-take zero n l =
    let e : n - 0 ≡ n = omega arith in
    rw e
drop-take (suc v) zero l =
    let e : 0 - suc v ≡ 0 = omega arith in
    rw e
drop-take (suc v) (suc n) [] = rw (take-nil {A = ℕ} (suc n - suc v))
drop-take (suc v) (suc n) (b ∷ l) =
    let e : suc n - suc v ≡ n - v = omega arith in
    rw e (drop-take v n l)

pub rest_of_field : (k n v : ℕ) (r : List ℕ) → drop v (part k n r) ≡ part (k + v) (n - v) r
unfolding part
rest_of_field k n v r = rw (drop-take v n (drop k r), drop-drop v k r)

take_short : (n : ℕ) (l : List ℕ) → length (take n l) ≤ n
take_short zero l = omega arith
take_short (suc n) [] = omega arith
take_short (suc n) (b ∷ l) =
    let h : length (take n l) ≤ n = take_short n l in
    omega arith

pub field_length : (k n : ℕ) (r : List ℕ) → n ≤ 255 → length (part k n r) ≤ 255
unfolding part
field_length k n r h =
    let e : length (take n (drop k r)) ≤ n = take_short n (drop k r) in
    omega arith

-- The bytes of an ID are all in its field if its length has its range; else the field is wrong in any case.
pub ident_field : (k n lo v : ℕ) (r : List ℕ)
    → within lo n v && (is_blank (drop v (part k n r)) && printable (take v (part k n r)))
    ≡ (within lo n v && is_blank (part (k + v) (n - v) r)) && printable (part k v r)
unfolding part
ident_field k n lo v r = go (leb v n) refl
  where
    go : (t : Bool) → leb v n ≡ t
        → within lo n v && (is_blank (drop v (part k n r)) && printable (take v (part k n r)))
        ≡ (within lo n v && is_blank (part (k + v) (n - v) r)) && printable (part k v r)
    go true e =
        rw (rest_of_field k n v r, take-take v n (drop k r) (leb-true v n e))
        (sym (and_assoc (within lo n v) (is_blank (part (k + v) (n - v) r)) (printable (part k v r))))
    go false e = rw (e, and-false (leb lo v))
