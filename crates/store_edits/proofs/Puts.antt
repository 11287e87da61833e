-- A record put at its place: the records are set there, and the rest stays. One change after another.
use mathlib.Core.Bool.{true}
use mathlib.Core.Path.{◌≡◌, refl, sym, ap, ◌∙◌}
use mathlib.Core.List.{List, [], ◌∷◌, ◌++◌, append_assoc}
use Prim.Native.Nat.{ℕ, zero, suc, ◌+◌, ◌*◌, ◌-◌, ◌/◌, ◌%◌, ◌≤◌, ◌<◌}
use native.Mathlib.Nat.{not-suc-le-zero, le_of_suc-le-suc}
use native.Mathlib.Omega.{arith}
use borrow.Rule.Slice.PartMut.{put_mid}
use Rattle.std.proofs.lemmas.List.Edits.{sets-eq}
use Rattle.std.specs.Int.{w32, to_be_bytes}
use lib.ListN.{length, get_or, take, drop, set, length-append, length-take, length-drop, get_or-eq_default}
use lib.Seq.{drop-drop, take-add, take_at, drop_at, drop-append-add, length-take-le, set_out}
use Rattle.paper.specs.Bytes.{enc2, enc4, over, zeros_of}
use Rattle.paper.specs.Form.{Rec, Form, test, only}
use Rattle.paper.specs.Records.{records_of, records, zeros}
use Rattle.store_records.specs.View.{rest, Becomes}
use Rattle.store_records.proofs.Views.{length-records, shown, becomes}

-- record i anew, as it comes back where it was lent as a part
anew : List ℕ → ℕ → List ℕ → List ℕ
anew s i r = take (256 * i) s ++ (r ++ drop 256 (drop (256 * i) s))

module _ (r : List ℕ) (long : length r ≡ 256) where
  anew_of : (n i : ℕ) (s : List ℕ) → 256 * n ≤ length s → i < n → records_of n (anew s i r) ≡ set (records_of n s) i r
  unfolding records_of anew
  anew_of zero i s f h = absurd (not-suc-le-zero h)
  anew_of (suc n) zero s f h = rw (take_at r _ 256 long, drop_at r _ 256 long)
  anew_of (suc n) (suc i) s f h =
      let e : 256 * suc i ≡ 256 + 256 * i = omega arith in
      let l : length (take 256 s) ≡ 256 = length-take-le 256 s (omega arith) in
      rw (e, take-add 256 (256 * i) s, append_assoc, take_at (take 256 s) _ 256 l, drop_at (take 256 s) _ 256 l, ← drop-drop (256 * i) 256 s)
      (ap (λ (t : List Rec). take 256 s ∷ t) (anew_of n i (drop 256 s) (simp length-drop (omega arith)) (omega arith)))

  length_anew : (s : List ℕ) (i : ℕ) → i < length s / 256 → length (anew s i r) ≡ length s
  unfolding anew
  length_anew s i h = simp (length-append, length-take, length-drop, long) (omega arith)

  records_anew : (s : List ℕ) (i : ℕ) → i < length s / 256 → records (anew s i r) ≡ set (records s) i r
  unfolding records
  records_anew s i h = rw (length_anew s i h) (anew_of (length s / 256) i s (omega arith) h)

  rest_anew : (s : List ℕ) (i : ℕ) → i < length s / 256 → rest (anew s i r) ≡ rest s
  unfolding rest anew
  rest_anew s i h =
      let k : ℕ = 256 * (length s / 256) - (256 * i + 256) in
      let front : List ℕ = take (256 * i) s in
      let back : List ℕ = drop 256 (drop (256 * i) s) in
      let a : length front ≡ 256 * i = length-take-le (256 * i) s (omega arith) in
      let e : 256 * (length s / 256) ≡ length front + (length r + k) = omega arith in
      let g : 256 * i + (256 + k) ≡ 256 * (length s / 256) = omega arith in
      rw (length_anew s i h)
      (ap (λ (n : ℕ). drop n (front ++ (r ++ back))) e
      ∙ drop-append-add front (r ++ back) (length r + k)
      ∙ drop-append-add r back k
      ∙ drop-drop k 256 (drop (256 * i) s)
      ∙ drop-drop (256 + k) (256 * i) s
      ∙ ap (λ (n : ℕ). drop n s) g)

-- inside a list the default is not read
any_default : (rs : List Rec) (i : ℕ) (a b : Rec) → i < length rs → get_or rs i a ≡ get_or rs i b
any_default [] i a b h = absurd (not-suc-le-zero h)
any_default (r ∷ rs) zero a b h = refl
any_default (r ∷ rs) (suc i) a b h = any_default rs i a b (le_of_suc-le-suc h)

set_default : (f : Rec → Rec) (rs : List Rec) (i : ℕ) (a b : Rec) → set rs i (f (get_or rs i a)) ≡ set rs i (f (get_or rs i b))
set_default f [] i a b = refl
set_default f (r ∷ rs) zero a b = refl
set_default f (r ∷ rs) (suc i) a b = ap (λ (t : List Rec). r ∷ t) (set_default f rs i a b)

-- the part that was lent comes back with t in it
pub put_mid_lem : (s : List ℕ) (i : ℕ) (r t : List ℕ) → i < length s / 256 → length r ≡ 256 → r ≡ t
    → Becomes (set (records s) i t) s (put_mid (256 * i) ((256 * i + 256) - 256 * i) s r)
unfolding anew
put_mid_lem s i r t h long q =
    let e : (256 * i + 256) - 256 * i ≡ 256 = omega arith in
    rw (e, ← q) (becomes (set (records s) i r) s (anew s i r) (records_anew r long s i h) (rest_anew r long s i h))

-- nothing is written
pub unchanged : (s : List ℕ) → Becomes (records s) s s
unchanged s = becomes (records s) s s refl refl

pub put_out : (s : List ℕ) (i : ℕ) (r : List ℕ) → length s / 256 ≤ i → Becomes (set (records s) i r) s s
put_out s i r h = rw (set_out (records s) i r (omega (arith, length-records s))) (unchanged s)

-- record i by value
module _ (s : List ℕ) (i : ℕ) where
  pub copy_out : length s / 256 ≤ i → zeros_of 256 ≡ get_or (records s) i zeros
  unfolding zeros
  copy_out h = sym (get_or-eq_default (records s) (zeros_of 256) (omega (arith, length-records s)))

  pub copy_in : i < length s / 256 → (p d : List ℕ) → p ≡ take ((256 * i + 256) - 256 * i) (drop (256 * i) s) → d ≡ p → d ≡ get_or (records s) i zeros
  copy_in h p d q e = e ∙ q ∙ shown s i h ∙ any_default (records s) i [] zeros (omega (arith, length-records s))

-- an edit at one place of those only that a statement is about
module _ (φ : Rec → Form) (f : Rec → Rec) (s : List ℕ) (i : ℕ) where
  pub edit_at : (r t : List ℕ) → test (φ (get_or (records s) i [])) ≡ true → r ≡ f (get_or (records s) i zeros) → Becomes (set (records s) i r) s t
      → Becomes (set (records s) i (only φ f (get_or (records s) i []))) s t
  unfolding only
  edit_at r t h q w = rw (h, ← set_default f (records s) i zeros [], ← q) w

-- a part that was lent comes back with b in it
pub over_part : (s b d : List ℕ) (k n : ℕ) → length b ≡ n → k + n ≤ length s → d ≡ b → put_mid k n s d ≡ over k b s
unfolding over
over_part s b d k n l h e = rw (e, sets-eq b s k (omega arith), l, drop-drop n k s, append_assoc)

-- a number that is cut to two bytes or four has the same low bytes
pub enc2-cut : (n : ℕ) → enc2 (n % 65536) ≡ enc2 n
enc2-cut n =
    let a : (n % 65536) / 256 % 256 ≡ n / 256 % 256 = omega arith in
    let b : (n % 65536) % 256 ≡ n % 256 = omega arith in
    rw (a, b)

pub enc4-cut : (n : ℕ) → to_be_bytes w32 (n % 4294967296) ≡ enc4 n
enc4-cut n =
    let a : (n % 4294967296) / 16777216 % 256 ≡ n / 256 / 256 / 256 % 256 = omega arith in
    let b : (n % 4294967296) / 65536 % 256 ≡ n / 256 / 256 % 256 = omega arith in
    let d : (n % 4294967296) / 256 % 256 ≡ n / 256 % 256 = omega arith in
    let e : (n % 4294967296) % 256 ≡ n % 256 = omega arith in
    rw (a, b, d, e)
