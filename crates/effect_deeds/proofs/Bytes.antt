-- Bytes written over a record: none past the end, and a string with zeros behind it.
use mathlib.Core.Path.{◌≡◌, refl, sym, ap, ◌∙◌}
use mathlib.Core.List.{List, [], ◌∷◌, ◌++◌, append_assoc, append-nil}
use Prim.Native.Nat.{ℕ, zero, suc, ◌+◌, ◌-◌, ◌/◌, ◌%◌, ◌≤◌, ◌<◌, min}
use native.Mathlib.Omega.{arith}
use lib.ListN.{length, take, drop, set, length-set, take-append-drop}
use lib.Seq.{sets, sets-eq, take_all, length-take-le, drop-drop, set_out, set-set, set_comm}
use borrow.Rule.Slice.PartMut.{put_mid}
use Rattle.paper.specs.Bytes.{over, zeros_of}
use Rattle.paper.specs.Users.{new_pin}
use Rattle.paper.specs.Form.{◌=<◌}
use Rattle.paper.proofs.Forms.{cases}

sets_past : (b r : List ℕ) (i : ℕ) → length r ≤ i → sets r i b ≡ r
sets_past [] r i h = refl
sets_past (x ∷ b) r i h = rw (set_out r i x h) (sets_past b r (suc i) (omega arith))

-- what would stand past the end may be left out
sets_cut : (b r : List ℕ) (k n : ℕ) → length r ≤ k + n → sets r k (take n b) ≡ sets r k b
sets_cut [] r k zero h = refl
sets_cut [] r k (suc n) h = refl
sets_cut (x ∷ b) r k zero h = sym (sets_past (x ∷ b) r k (omega arith))
sets_cut (x ∷ b) r k (suc n) h = sets_cut b (set r k x) (suc k) n (omega (arith, length-set r k x))

-- as many bytes as fit, copied to the place or to the end
pub copied_in : (b r : List ℕ) (k a n : ℕ) → length r ≡ 256 → a ≡ min k 256 → n ≡ min (length b) (256 - a) → put_mid a (a + n - a) r (take n b) ≡ over k b r
unfolding over
copied_in b r k a n l ea en = cases (k =< 256) near far
  where
    t : take n b ≡ take (256 - a) b
    t = cases (length b =< 256 - a) (λ h. take_all n b (omega (arith, en)) ∙ sym (take_all (256 - a) b h)) (λ h. let e : n ≡ 256 - a = omega (arith, en) in rw e)

    long : length (take n b) ≡ n
    long = length-take-le n b (omega (arith, en))

    near : k ≤ 256 → put_mid a (a + n - a) r (take n b) ≡ sets r k b
    near h =
        let e : a ≡ k = omega (arith, ea) in
        let m : a + n - a ≡ n = omega arith in
        let f : k + length (take n b) ≤ length r = omega (arith, long, en, ea, l) in
        let q = rw long at (sets-eq (take n b) r k f) in
        rw (m, e, drop-drop) (sym (append_assoc (take k r) (take n b) (drop (k + n) r)) ∙ sym q ∙ (ap (λ (x : List ℕ). sets r k x) t ∙ sets_cut b r k (256 - a) (omega (arith, ea, l))))

    far : (k ≤ 256 → ⊥) → put_mid a (a + n - a) r (take n b) ≡ sets r k b
    far h =
        let e : a ≡ 256 = omega (arith, ea) in
        let z : n ≡ 0 = omega (arith, ea, en) in
        rw (e, z) (take-append-drop 256 r ∙ sym (sets_past b r k (omega (arith, l))))

-- the two low bytes of a number are those of its rest by 65536
pub two_low : (n : ℕ) → (n % 65536 / 256 % 256 ≡ n / 256 % 256) × (n % 65536 % 256 ≡ n % 256)
two_low n = (omega arith, omega arith)

-- a byte before those that are written may be written first
set_before : (b r : List ℕ) (k j x : ℕ) → k < j → set (sets r j b) k x ≡ sets (set r k x) j b
set_before [] r k j x h = refl
set_before (y ∷ b) r k j x h = set_before b (set r j y) k (suc j) x (omega arith) ∙ rw (set_comm r j k y x (λ e. omega arith))

-- a string written over n zeros
over_zeros : (v r : List ℕ) (n k : ℕ) → sets (sets r k (zeros_of n)) k v ≡ sets r k (v ++ zeros_of (n - length v))
over_zeros [] r n k = let e : n - 0 ≡ n = omega arith in rw e
over_zeros (x ∷ v) r zero k = let e : 0 - suc (length v) ≡ 0 = omega arith in ap (λ (t : List ℕ). sets (set r k x) (suc k) t) (sym (append-nil v) ∙ ap (λ (n : ℕ). v ++ zeros_of n) (sym e))
over_zeros (x ∷ v) r (suc n) k =
    let e : suc n - suc (length v) ≡ n - length v = omega arith in
    rw (e, set_before (zeros_of n) (set r k 0) k (suc k) x (omega arith), set-set r k 0 x) (over_zeros v (set r k x) n (suc k))

-- the length, zeros, and then the bytes over them
pub pin_laid : (v r : List ℕ) → over 50 v (over 50 (zeros_of 16) (over 49 (length v % 256 ∷ []) r)) ≡ new_pin v r
unfolding over new_pin
pin_laid v r = over_zeros v (set r 49 (length v % 256)) 16 50
