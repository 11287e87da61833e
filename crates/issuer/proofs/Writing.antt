-- Pieces written one behind the other are their join, written at once.
use mathlib.Core.Path.{◌≡◌, ap}
use mathlib.Core.List.{List, [], ◌∷◌, ◌++◌, append_assoc}
use Prim.Native.Nat.{ℕ, suc, ◌+◌, ◌-◌, ◌≤◌}
use native.Mathlib.Nat.{add-zero}
use native.Mathlib.Omega.{arith}
use borrow.Rule.Slice.PartMut.{put_mid}
use lib.ListN.{length, set, length-append}
use lib.Seq.{sets-eq, drop-drop}
use Rattle.paper.specs.Bytes.{over}
use Rattle.issuer.specs.Told.{Wrote}

-- past the end nothing is written, so it need not fit
over-over : (k : ℕ) (a b s : List ℕ) → over (k + length a) b (over k a s) ≡ over k (a ++ b) s
unfolding over
over-over k [] b s = ap (λ (n : ℕ). over n b s) (add-zero k)
over-over k (x ∷ a) b s =
    let e : k + suc (length a) ≡ suc k + length a = omega arith in
    rw e (over-over (suc k) a b (set s k x))

-- a piece behind a text
infixl 20 ◌and_then◌
pub ◌and_then◌ : {a b s t u : List ℕ} {k m n : ℕ} → Wrote a k m s t → Wrote b m n t u → Wrote (a ++ b) k n s u
◌and_then◌ {a} {b} {s} {t} {u} {k} v w =
    record {
      place = let e = length-append a b in omega (arith, v.place, w.place);
      bytes = rw (w.bytes, v.bytes, v.place) (over-over k a b s);
    }

-- a piece that was made is the piece that was meant
pub meant : {a b s t : List ℕ} {k n : ℕ} → Wrote a k n s t → a ≡ b → Wrote b k n s t
meant w e = rw (← e) w

-- a part that was lent comes back with the piece in it
pub pasted : (k : ℕ) (v s d : List ℕ) → k + length v ≤ length s → d ≡ v → put_mid k ((k + length v) - k) s d ≡ over k v s
unfolding over
pasted k v s d h e =
    let q : (k + length v) - k ≡ length v = omega arith in
    rw (q, e, sets-eq v s k h, drop-drop (length v) k s, append_assoc)
