-- The padding as the code takes it: the first bytes of a table of one 128 and 63 zeros, and the length from a count modulo 2^64.
use Rattle.std.proofs.Common.{◌≡◌, ℕ, ◌+◌, ◌-◌, ◌*◌, ◌/◌, ◌%◌, ◌^◌, ◌≤◌, List, ◌∷◌, ◌++◌, length, take, replicate, ap, ◌∙◌, add-one, arith}
use Rattle.std.proofs.lemmas.List.{take-replicate}
use Rattle.sha256.specs.Sha256.{padded, zeros_for, bytes8, SHA256, after, digest}
use Rattle.sha256.specs.State.{Stands}
use Rattle.sha256.specs.declared.State.{State}

abbrev pub pads : List ℕ
pads = 128 ∷ replicate 63 0

pads_are : (k : ℕ) → k ≤ 63 → take (k + 1) pads ≡ 128 ∷ replicate k 0
pads_are k h = rw add-one (ap (λ (l : List ℕ). 128 ∷ l) (take-replicate {X = ℕ} k 63 0 h))

-- eight bytes hold no more than a number modulo 2^64
bytes_low : (n : ℕ) → bytes8 (n % 2 ^ 64) ≡ bytes8 n
bytes_low n =
    let x : ℕ = n % 2 ^ 64 in
    let b₀ : x % 256 ≡ n % 256 = omega arith in
    let b₁ : x / 2 ^ 8 % 256 ≡ n / 2 ^ 8 % 256 = omega arith in
    let b₂ : x / 2 ^ 16 % 256 ≡ n / 2 ^ 16 % 256 = omega arith in
    let b₃ : x / 2 ^ 24 % 256 ≡ n / 2 ^ 24 % 256 = omega arith in
    let b₄ : x / 2 ^ 32 % 256 ≡ n / 2 ^ 32 % 256 = omega arith in
    let b₅ : x / 2 ^ 40 % 256 ≡ n / 2 ^ 40 % 256 = omega arith in
    let b₆ : x / 2 ^ 48 % 256 ≡ n / 2 ^ 48 % 256 = omega arith in
    let b₇ : x / 2 ^ 56 % 256 ≡ n / 2 ^ 56 % 256 = omega arith in
    cc

-- so the length in bits rests on the count alone
bits_same : (l c : ℕ) → c ≡ l % 2 ^ 64 → bytes8 (c * 8 % 2 ^ 64) ≡ bytes8 (l * 8)
bits_same l c e =
    let z : c * 8 % 2 ^ 64 ≡ l * 8 % 2 ^ 64 = omega arith in
    ap bytes8 z ∙ bytes_low (l * 8)

pub padded-is : (m : List ℕ) (c : ℕ) → c ≡ length m % 2 ^ 64
    → (m ++ take ((119 - c % 64) % 64 + 1) pads) ++ bytes8 (c * 8 % 2 ^ 64) ≡ padded m
unfolding padded zeros_for
padded-is m c e =
    let p : c % 64 ≡ length m % 64 = omega arith in
    ap (λ (l : List ℕ). (m ++ l) ++ bytes8 (c * 8 % 2 ^ 64)) (pads_are ((119 - c % 64) % 64) (omega arith))
    ∙ ap (λ (j : ℕ). (m ++ (128 ∷ replicate ((119 - j) % 64) 0)) ++ bytes8 (c * 8 % 2 ^ 64)) p
    ∙ ap (λ (l : List ℕ). (m ++ (128 ∷ replicate ((119 - length m % 64) % 64) 0)) ++ l) (bits_same (length m) c e)

pub hash_of : (u : State) (y m : List ℕ) → Stands u y → y ≡ padded m → digest u.hash ≡ SHA256 m
unfolding SHA256
hash_of u y m h e = ap digest h.hash ∙ ap (λ (l : List ℕ). digest (after l (length l / 64))) e
