-- Bytes, numbers and parts of a list, read after bytes were written over it.
use mathlib.Core.Path.{◌≡◌, refl, sym, ap, ap₂, ◌∙◌}
use mathlib.Core.Bool.{Bool, true, false, ◌&&◌}
use mathlib.Core.List.{List, [], ◌∷◌}
use mathlib.Core.Logic.{◌⊎◌, inl, inr}
use Prim.Native.Nat.{ℕ, zero, suc, ◌+◌, ◌*◌, ◌/◌, ◌%◌, ◌≤◌, ◌<◌}
use native.Mathlib.Omega.{arith}
use native.Mathlib.Nat.{add-zero, add-suc, suc-add, add_assoc, min-le_left}
use native.Mathlib.Numerals.{add-one}
use lib.ListN.{length, get_or, drop, set, length-set, length-take, length-drop, drop_of_length-le, get_or-eq_default}
use lib.Seq.{length-sets, get_or-set_same, get_or-set_other, drop-cons, get_or-take, get_or-drop, length-take-le, take-nil, ext_get_or}
use lib.Dec.{leb}
use borrow.Author.Tests.{leb-true, le-leb}
use Rattle.paper.specs.Bytes.{byte, two, four, part, enc2, enc4, over, within, all_within, zeros_of}
use Rattle.paper.proofs.Forms.{contrary, cases}
use Rattle.paper.specs.Form.{◌=<◌}

pub split : (a b : Bool) → (a && b) ≡ true → (a ≡ true) × (b ≡ true)
split true b e = (refl, e)
split false b e = contrary (sym e)

-- past the end a byte is 0
pub byte_past : (j : ℕ) (s : List ℕ) → length s ≤ j → byte j s ≡ 0
unfolding byte
byte_past j s h = get_or-eq_default s 0 h

-- every byte of zeros is 0
pub byte-zeros_of : (n j : ℕ) → byte j (zeros_of n) ≡ 0
unfolding byte
byte-zeros_of zero j = refl
byte-zeros_of (suc n) zero = refl
byte-zeros_of (suc n) (suc j) = byte-zeros_of n j

-- ---- bytes written over

pub length_over : (k : ℕ) (b s : List ℕ) → length (over k b s) ≡ length s
unfolding over
length_over k b s = length-sets s k b

pub byte-over_other : (k j : ℕ) (b s : List ℕ) → (k + length b ≤ j) ⊎ (j < k) → byte j (over k b s) ≡ byte j s
unfolding byte over
byte-over_other k j [] s h = refl
byte-over_other k j (v ∷ b) s (inl h) = byte-over_other (suc k) j b (set s k v) (inl (omega arith)) ∙ get_or-set_other s k j v 0 (omega arith)
byte-over_other k j (v ∷ b) s (inr h) = byte-over_other (suc k) j b (set s k v) (inr (omega arith)) ∙ get_or-set_other s k j v 0 (omega arith)

pub byte-over-same : (k j : ℕ) (b s : List ℕ) → j < length b → k + length b ≤ length s → byte (k + j) (over k b s) ≡ byte j b
unfolding byte over
byte-over-same k j [] s h g = absurd (omega arith)
byte-over-same k zero (v ∷ b) s h g =
    rw (add-zero k) (byte-over_other (suc k) k b (set s k v) (inr (omega arith)) ∙ get_or-set_same s k v 0 (omega arith))
byte-over-same k (suc j) (v ∷ b) s h g =
    rw (add-suc k j, ← (suc-add k j)) (byte-over-same (suc k) j b (set s k v) (omega arith) (rw length-set (omega arith)))

-- ---- parts

pub length_part : (k n : ℕ) (s : List ℕ) → k + n ≤ length s → length (part k n s) ≡ n
unfolding part
length_part k n s h = length-take-le n (drop k s) (rw (length-drop k s) (omega arith))

pub part_short : (k n : ℕ) (s : List ℕ) → length (part k n s) ≤ n
unfolding part
part_short k n s = rw (length-take n (drop k s)) (min-le_left n (length (drop k s)))

pub byte-part : (k n j : ℕ) (s : List ℕ) → j < n → byte j (part k n s) ≡ byte (k + j) s
unfolding byte part
byte-part k n j s h = get_or-take n (drop k s) j 0 h ∙ get_or-drop k s j 0

part-cons : (k n : ℕ) (s : List ℕ) → k < length s → part k (suc n) s ≡ byte k s ∷ part (suc k) n s
unfolding byte part
part-cons k n s h = rw (drop-cons s k 0 h)

part_past : (k n : ℕ) (s : List ℕ) → length s ≤ k → part k n s ≡ []
unfolding part
part_past k n s h = rw (drop_of_length-le s h) (take-nil n)

-- a part is known by its bytes
pub part_same : (k n : ℕ) (s t : List ℕ) → length t ≡ length s → ((j : ℕ) → k ≤ j → j < k + n → byte j t ≡ byte j s) → part k n t ≡ part k n s
part_same k zero s t l h = unfold part in refl
part_same k (suc n) s t l h = cases (suc k =< length s)
    (λ i. more i (part_same (suc k) n s t l (λ j a b. h j (omega arith) (omega arith))))
    (λ i. part_past k (suc n) t (omega arith) ∙ sym (part_past k (suc n) s (omega arith)))
  where
    more : k < length s → part (suc k) n t ≡ part (suc k) n s → part k (suc n) t ≡ part k (suc n) s
    more i e =
        part-cons k n t (omega arith) ∙ ap₂ {C = List ℕ} (λ (b : ℕ) (p : List ℕ). b ∷ p) (h k (omega arith) (omega arith)) e ∙ sym (part-cons k n s i)

pub part-over_other : (k i n : ℕ) (b s : List ℕ) → (k + length b ≤ i) ⊎ (i + n ≤ k) → part i n (over k b s) ≡ part i n s
part-over_other k i n b s h = part_same i n s (over k b s) (length_over k b s) (λ j p q. byte-over_other k j b s (far j p q h))
  where
    far : (j : ℕ) → i ≤ j → j < i + n → (k + length b ≤ i) ⊎ (i + n ≤ k) → (k + length b ≤ j) ⊎ (j < k)
    far j p q (inl a) = inl (omega arith)
    far j p q (inr a) = inr (omega arith)

-- a list is known by its bytes
pub list_same : (s t : List ℕ) → length t ≡ length s → ((j : ℕ) → j < length s → byte j t ≡ byte j s) → t ≡ s
unfolding byte
list_same s t l h = ext_get_or 0 t s l (λ j a. h j (omega arith))

pub part-over-same : (k : ℕ) (b s : List ℕ) → k + length b ≤ length s → part k (length b) (over k b s) ≡ b
part-over-same k b s h = list_same b (part k (length b) (over k b s)) (length_part k (length b) (over k b s) (rw (length_over k b s) h))
    (λ j a. byte-part k (length b) j (over k b s) a ∙ byte-over-same k j b s a h)

-- ---- numbers of two and four bytes

pub two-same : (k : ℕ) (s t : List ℕ) → byte k t ≡ byte k s → byte (k + 1) t ≡ byte (k + 1) s → two k t ≡ two k s
unfolding two
two-same k s t a b = rw (a, b)

pub four_same : (k : ℕ) (s t : List ℕ) → byte k t ≡ byte k s → byte (k + 1) t ≡ byte (k + 1) s → byte (k + 2) t ≡ byte (k + 2) s
    → byte (k + 3) t ≡ byte (k + 3) s
    → four k t ≡ four k s
unfolding four
four_same k s t a b c d = rw (a, b, c, d)

pub two-over_other : (k i : ℕ) (b s : List ℕ) → (k + length b ≤ i) ⊎ (i + 2 ≤ k) → two i (over k b s) ≡ two i s
two-over_other k i b s (inl h) = two-same i s (over k b s) (byte-over_other k i b s (inl h)) (byte-over_other k (i + 1) b s (inl (omega arith)))
two-over_other k i b s (inr h) =
    two-same i s (over k b s) (byte-over_other k i b s (inr (omega arith))) (byte-over_other k (i + 1) b s (inr (omega arith)))

pub four-over_other : (k i : ℕ) (b s : List ℕ) → (k + length b ≤ i) ⊎ (i + 4 ≤ k) → four i (over k b s) ≡ four i s
four-over_other k i b s h =
    four_same i s (over k b s) (byte-over_other k i b s (far i (omega arith) (omega arith) h))
    (byte-over_other k (i + 1) b s (far (i + 1) (omega arith) (omega arith) h))
    (byte-over_other k (i + 2) b s (far (i + 2) (omega arith) (omega arith) h))
    (byte-over_other k (i + 3) b s (far (i + 3) (omega arith) (omega arith) h))
  where
    far : (j : ℕ) → i ≤ j → j < i + 4 → (k + length b ≤ i) ⊎ (i + 4 ≤ k) → (k + length b ≤ j) ⊎ (j < k)
    far j p q (inl a) = inl (omega arith)
    far j p q (inr a) = inr (omega arith)

-- a number is known by its bytes as a part
pub byte_of : (k : ℕ) (s : List ℕ) (n : ℕ) → part k 1 s ≡ n ∷ [] → byte k s ≡ n
byte_of k s n e = sym (ap (λ (j : ℕ). byte j s) (add-zero k)) ∙ sym (byte-part k 1 0 s (omega arith)) ∙ ap (byte 0) e ∙ (unfold byte in refl)

byte_enc : (k m j : ℕ) (s v : List ℕ) → part k m s ≡ v → j < m → byte (k + j) s ≡ get_or v j 0
byte_enc k m j s v e l = sym (byte-part k m j s l) ∙ ap (byte j) e ∙ (unfold byte in refl)

pub two_of : (k : ℕ) (s : List ℕ) (n : ℕ) → part k 2 s ≡ enc2 n → n < 65536 → two k s ≡ n
unfolding two
two_of k s n e h =
    let a = ap (λ (j : ℕ). byte j s) (sym (add-zero k)) ∙ byte_enc k 2 0 s (enc2 n) e (omega arith) in
    let b = byte_enc k 2 1 s (enc2 n) e (omega arith) in
    omega arith

pub four_of : (k : ℕ) (s : List ℕ) (n : ℕ) → part k 4 s ≡ enc4 n → n < 4294967296 → four k s ≡ n
unfolding four
four_of k s n e h =
    let a = ap (λ (j : ℕ). byte j s) (sym (add-zero k)) ∙ byte_enc k 4 0 s (enc4 n) e (omega arith) in
    let b = byte_enc k 4 1 s (enc4 n) e (omega arith) in
    let c = byte_enc k 4 2 s (enc4 n) e (omega arith) in
    let d = byte_enc k 4 3 s (enc4 n) e (omega arith) in
    omega arith

-- written and read back
pub byte-over : (k n : ℕ) (s : List ℕ) → k < length s → byte k (over k (n ∷ []) s) ≡ n
byte-over k n s h = byte_of k (over k (n ∷ []) s) n (part-over-same k (n ∷ []) s (omega arith))

pub two-over : (k n : ℕ) (s : List ℕ) → k + 2 ≤ length s → n < 65536 → two k (over k (enc2 n) s) ≡ n
two-over k n s h l = two_of k (over k (enc2 n) s) n (part-over-same k (enc2 n) s h) l

pub four-over : (k n : ℕ) (s : List ℕ) → k + 4 ≤ length s → n < 4294967296 → four k (over k (enc4 n) s) ≡ n
four-over k n s h l = four_of k (over k (enc4 n) s) n (part-over-same k (enc4 n) s h) l

-- ---- bytes below 256

pub all_at : (lo hi : ℕ) (s : List ℕ) → all_within lo hi s ≡ true → (j : ℕ) → j < length s → (lo ≤ byte j s) × (byte j s ≤ hi)
unfolding all_within byte
all_at lo hi [] e j h = absurd (omega arith)
all_at lo hi (b ∷ s) e zero h =
    let w = split (within lo hi b) (all_within lo hi s) e in
    let v = split (leb lo b) (leb b hi) w.0 in
    (leb-true lo b v.0, leb-true b hi v.1)
all_at lo hi (b ∷ s) e (suc j) h = all_at lo hi s (split (within lo hi b) (all_within lo hi s) e).1 j (omega arith)

pub all_within_lem : (lo hi : ℕ) (s : List ℕ) → ((j : ℕ) → j < length s → (lo ≤ byte j s) × (byte j s ≤ hi)) → all_within lo hi s ≡ true
unfolding all_within byte
all_within_lem lo hi [] h = refl
all_within_lem lo hi (b ∷ s) h =
    let w = h 0 (omega arith) in
    rw (le-leb lo b w.0, le-leb b hi w.1, all_within_lem lo hi s (λ j l. h (suc j) (omega arith)))

-- a byte of such a list, past the end too
pub most : (hi : ℕ) (s : List ℕ) → all_within 0 hi s ≡ true → (j : ℕ) → byte j s ≤ hi
most hi s e j = cases (suc j =< length s) (λ h. (all_at 0 hi s e j h).1) (λ n. rw (byte_past j s (omega arith)) (omega arith))

pub two_most : (s : List ℕ) → all_within 0 255 s ≡ true → (k : ℕ) → two k s < 65536
unfolding two
two_most s e k = let a = most 255 s e k in let b = most 255 s e (k + 1) in omega arith

pub four_most : (s : List ℕ) → all_within 0 255 s ≡ true → (k : ℕ) → four k s < 4294967296
unfolding four
four_most s e k =
    let a = most 255 s e k in
    let b = most 255 s e (k + 1) in
    let c = most 255 s e (k + 2) in
    let d = most 255 s e (k + 3) in
    omega arith

-- and the numbers' bytes are given back
part_next : (k n : ℕ) (s : List ℕ) → k < length s → part k (suc n) s ≡ byte k s ∷ part (k + 1) n s
part_next k n s h = rw add-one (part-cons k n s h)

part_none : (k : ℕ) (s : List ℕ) → part k 0 s ≡ []
unfolding part
part_none k s = refl

pub part-two : (k : ℕ) (s : List ℕ) → k + 2 ≤ length s → part k 2 s ≡ byte k s ∷ byte (k + 1) s ∷ []
part-two k s h = rw (part_next k 1 s (omega arith), part_next (k + 1) 0 s (omega arith), part_none (k + 1 + 1) s)

pub part-four : (k : ℕ) (s : List ℕ) → k + 4 ≤ length s → part k 4 s ≡ byte k s ∷ byte (k + 1) s ∷ byte (k + 2) s ∷ byte (k + 3) s ∷ []
part-four k s h =
    rw (
      part_next k 3 s (omega arith),
      part_next (k + 1) 2 s (omega arith),
      add_assoc k 1 1,
      part_next (k + 2) 1 s (omega arith),
      add_assoc k 2 1,
      part_next (k + 3) 0 s (omega arith),
      part_none (k + 3 + 1) s,
    )

pub enc2-two : (s : List ℕ) → all_within 0 255 s ≡ true → (k : ℕ) → k + 2 ≤ length s → enc2 (two k s) ≡ part k 2 s
unfolding two
enc2-two s e k h =
    let a = most 255 s e k in
    let b = most 255 s e (k + 1) in
    let x : (byte k s * 256 + byte (k + 1) s) / 256 % 256 ≡ byte k s = omega arith in
    let y : (byte k s * 256 + byte (k + 1) s) % 256 ≡ byte (k + 1) s = omega arith in
    rw (x, y) (sym (part-two k s h))

pub enc4-four : (s : List ℕ) → all_within 0 255 s ≡ true → (k : ℕ) → k + 4 ≤ length s → enc4 (four k s) ≡ part k 4 s
enc4-four s e k h = rw (q0, q1, q2, q3) (sym (part-four k s h))
  where
    b0 : byte k s ≤ 255
    b0 = most 255 s e k

    b1 : byte (k + 1) s ≤ 255
    b1 = most 255 s e (k + 1)

    b2 : byte (k + 2) s ≤ 255
    b2 = most 255 s e (k + 2)

    b3 : byte (k + 3) s ≤ 255
    b3 = most 255 s e (k + 3)

    q0 : four k s / 256 / 256 / 256 % 256 ≡ byte k s
    q0 = let a = b0 in let b = b1 in let c = b2 in let d = b3 in unfold four in omega arith

    q1 : four k s / 256 / 256 % 256 ≡ byte (k + 1) s
    q1 = let a = b0 in let b = b1 in let c = b2 in let d = b3 in unfold four in omega arith

    q2 : four k s / 256 % 256 ≡ byte (k + 2) s
    q2 = let a = b0 in let b = b1 in let c = b2 in let d = b3 in unfold four in omega arith

    q3 : four k s % 256 ≡ byte (k + 3) s
    q3 = let a = b0 in let b = b1 in let c = b2 in let d = b3 in unfold four in omega arith
