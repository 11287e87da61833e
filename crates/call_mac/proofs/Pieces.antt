-- Laws of MAC data and keys put together piece by piece.
use mathlib.Core.Path.{◌≡◌, refl, sym}
use mathlib.Core.List.{List, ◌++◌, append_assoc, append-nil}
use Prim.Native.Nat.{ℕ, suc, ◌+◌, ◌-◌, ◌≤◌, ◌<◌}
use native.Mathlib.Omega.{arith}
use lib.ListN.{length, take, drop, replicate}
use borrow.Rule.Slice.PartMut.{put_mid, post_of}
use Rattle.std.proofs.lemmas.List.{length-append, length-drop, take_at, drop_at}
use Rattle.std.proofs.lemmas.Slice.{take-put_mid}
use Rattle.paper.specs.Bytes.{behind, string_at, enc2, string}
use Rattle.paper.specs.Calls.{strings}
use Rattle.paper.specs.Mac.{each_string}

-- secret and name leave room for the counter
pub key_room : (x y xs ys : List ℕ) → length x ≡ 32 → length y ≤ 30 → xs ≡ x → ys ≡ y
    → 32 + length y + 2 ≤ length (put_mid 32 (32 + length y - 32) (xs ++ replicate 32 0) ys)
key_room x y xs ys lx ly ex ey =
    let z : List ℕ = replicate 32 0 in
    let t : take 32 (x ++ z) ≡ x = take_at x z 32 lx in
    let d : drop 32 (x ++ z) ≡ z = drop_at x z 32 lx in
    let r : List ℕ = drop (32 + length y - 32) z in
    let l : length r ≡ 32 - (32 + length y - 32) = length-drop (32 + length y - 32) z in
    rw (ex, ey, t, d, length-append x (y ++ r), length-append y r) (omega arith)

-- secret, name and counter, written one behind the other, stand in front
pub key_joined : (x y w xs ys ws z : List ℕ) (n m : ℕ) → length x ≡ 32 → length w ≡ 2 → xs ≡ x → ys ≡ y → ws ≡ w
    → take (32 + length y + 2) (put_mid (32 + length y) m (put_mid 32 n (xs ++ z) ys) ws) ≡ x ++ y ++ w
key_joined x y w xs ys ws z n m lx lw ex ey ew =
    let a : 32 ≤ length (x ++ z) = omega (arith, length-append x z) in
    let t : take 32 (x ++ z) ≡ x = take_at x z 32 lx in
    let r : List ℕ = post_of 32 n (x ++ z) in
    let l : length (x ++ (y ++ r)) ≡ length x + (length y + length r) = simp length-append in
    let b : 32 + length y ≤ length (put_mid 32 n (x ++ z) y) = rw t (omega arith) in
    rw (ex, ey, ew, take-put_mid (32 + length y) m (put_mid 32 n (x ++ z) y) w (32 + length y + 2) (omega arith) b, take-put_mid 32 n (x ++ z) y (32 + length y) refl a, t)

-- a length and its bytes are a string
pub string-joined : (text b v : List ℕ) → b ≡ enc2 (length v) → (text ++ b) ++ v ≡ text ++ string v
string-joined text b v e = rw e (append_assoc text (enc2 (length v)) v)

-- one certificate of those left, and none
pub certificates_more : (t c : List ℕ) (n i k : ℕ) → i < n
    → t ++ each_string (strings (n - i) k c) ≡ (t ++ string (string_at k c)) ++ each_string (strings (n - (i + 1)) (behind k c) c)
certificates_more t c n i k h =
    let e : n - i ≡ suc (n - (i + 1)) = omega arith in
    rw e (sym (append_assoc t (string (string_at k c)) (each_string (strings (n - (i + 1)) (behind k c) c))))

pub certificates_end : (t c : List ℕ) (n i k : ℕ) → n ≤ i → t ++ each_string (strings (n - i) k c) ≡ t
certificates_end t c n i k h = let e : n - i ≡ 0 = omega arith in rw e (append-nil t)
