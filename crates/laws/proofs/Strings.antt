-- A record's string: its length byte, its bytes and its zeros are one and the same as the padded string.
use mathlib.Core.Path.{◌≡◌, sym, ap, ◌∙◌}
use mathlib.Core.Bool.{true}
use mathlib.Core.List.{List}
use Prim.Native.Nat.{ℕ, zero, suc, ◌+◌, ◌-◌, ◌≤◌, ◌<◌}
use native.Mathlib.Omega.{arith}
use native.Mathlib.Nat.{add-zero}
use lib.ListN.{length, length-append, length-replicate, get_or-append}
use lib.Seq.{get_or-append-add}
use lib.Dec.{leb}
use borrow.Author.Tests.{leb-true}
use Rattle.paper.specs.Bytes.{byte, part, padded_text, zeros_of, text_at, within}
use Rattle.paper.specs.Form.{Rec, ◌=<◌}
use Rattle.paper.specs.Table.{is_text, is_blank}
use Rattle.paper.proofs.Forms.{cases}
use Rattle.laws.proofs.Bytes.{byte-zeros_of, split, list_same, byte-part, length_part, all_at}

pub length-padded : (n : ℕ) (v : List ℕ) → length v ≤ n → length (padded_text n v) ≡ suc n
length-padded n v h =
    let a = length-append v (zeros_of (n - length v)) in
    let b = length-replicate {A = ℕ} (n - length v) 0 in
    omega arith

-- its bytes: the length, the string, zeros
pub padded-length : (n : ℕ) (v : List ℕ) → length v < 256 → byte 0 (padded_text n v) ≡ length v
unfolding byte
padded-length n v h = omega arith

pub padded-byte : (n : ℕ) (v : List ℕ) (j : ℕ) → j < length v → byte (suc j) (padded_text n v) ≡ byte j v
unfolding byte
padded-byte n v j h = get_or-append v (zeros_of (n - length v)) 0 j h

pub padded-zero : (n : ℕ) (v : List ℕ) (j : ℕ) → length v ≤ j → byte (suc j) (padded_text n v) ≡ 0
unfolding byte
padded-zero n v j h =
    let e : length v + (j - length v) ≡ j = omega arith in
    rw (← e) (get_or-append-add v (zeros_of (n - length v)) (j - length v) 0 ∙ byte-zeros_of (n - length v) (j - length v))

-- where a padded string stands, the string is read back
module _ (i n : ℕ) (r : Rec) (v : List ℕ) (e : part i (suc n) r ≡ padded_text n v) (h : length v ≤ n) (small : n < 256) where
  at : (j : ℕ) → j < suc n → byte (i + j) r ≡ byte j (padded_text n v)
  at j l = sym (byte-part i (suc n) j r l) ∙ ap (byte j) e

  pub text_length : byte i r ≡ length v
  text_length = ap (λ (k : ℕ). byte k r) (sym (add-zero i)) ∙ at 0 (omega arith) ∙ padded-length n v (omega arith)

  pub text_of : i + suc n ≤ length r → text_at i r ≡ v
  unfolding text_at
  text_of room =
      rw text_length
      (list_same v (part (i + 1) (length v) r) (length_part (i + 1) (length v) r (omega arith)) (λ j l. byte-part (i + 1) (length v) j r l ∙ next j l))
    where
      next : (j : ℕ) → j < length v → byte (i + 1 + j) r ≡ byte j v
      next j l = let q : i + 1 + j ≡ i + suc j = omega arith in ap (λ (k : ℕ). byte k r) q ∙ at (suc j) (omega arith) ∙ padded-byte n v j l

-- and where a string has its form, its field is the padded string
pub padded_of : (n lo i : ℕ) (r : Rec) → is_text n lo i r ≡ true → i + suc n ≤ length r → n < 256 → part i (suc n) r ≡ padded_text n (text_at i r)
unfolding text_at
padded_of n lo i r t room small =
    list_same (padded_text n v) (part i (suc n) r) (length_part i (suc n) r room ∙ sym (length-padded n v (rw long most)))
    (λ j l. byte-part i (suc n) j r (rw (length-padded n v (rw long most)) at l) ∙ each j (rw (length-padded n v (rw long most)) at l))
  where
    v : List ℕ
    v = part (i + 1) (byte i r) r

    two : (within lo n (byte i r) ≡ true) × (is_blank (part (i + 1 + byte i r) (n - byte i r) r) ≡ true)
    two = split (within lo n (byte i r)) (is_blank (part (i + 1 + byte i r) (n - byte i r) r)) t

    most : byte i r ≤ n
    most = leb-true (byte i r) n (split (leb lo (byte i r)) (leb (byte i r) n) two.0).1

    long : length v ≡ byte i r
    long = length_part (i + 1) (byte i r) r (let m = most in omega arith)

    rest : (j : ℕ) → byte i r ≤ j → j < n → byte (i + suc j) r ≡ 0
    rest j a b =
        let w : j - byte i r < n - byte i r = omega arith in
        let l = length_part (i + 1 + byte i r) (n - byte i r) r (let m = most in omega arith) in
        let z = (all_at 0 0 (part (i + 1 + byte i r) (n - byte i r) r) two.1 (j - byte i r) (omega arith)).1 in
        let q : i + 1 + byte i r + (j - byte i r) ≡ i + suc j = omega arith in
        let p = byte-part (i + 1 + byte i r) (n - byte i r) (j - byte i r) r w in
        rw (← q) (omega arith)

    each : (j : ℕ) → j < suc n → byte (i + j) r ≡ byte j (padded_text n v)
    each zero l = rw (add-zero i) (sym (padded-length n v (let a = long in let m = most in omega arith) ∙ long))
    each (suc j) l = cases (suc j =< byte i r)
        (λ a. let q : i + suc j ≡ i + 1 + j = omega arith in rw q (sym (padded-byte n v j (let b = long in omega arith) ∙ byte-part (i + 1) (byte i r) j r a)))
        (λ a. rest j (omega arith) (omega arith) ∙ sym (padded-zero n v j (let b = long in omega arith)))
