-- Laws of what a state stands for: some bytes more, with the block not yet full, or just full, and whole blocks that are not stored first.
use Rattle.std.proofs.Common.{◌≡◌, ℕ, zero, suc, ◌+◌, ◌-◌, ◌*◌, ◌/◌, ◌%◌, ◌^◌, ◌<◌, ◌≤◌, List, [], ◌++◌, length, take, drop, replicate, sym, refl, ap, ◌∙◌, append_assoc, append-nil, arith, length-append, length-drop, take_all}
use Rattle.std.proofs.lemmas.List.{take-append-le, drop-append-le, drop-drop, drop_all, drop_at, take_at, take-append-drop, drop-replicate, length-take-le}
use borrow.Rule.Slice.PartMut.{put_mid}
use Rattle.sha256.specs.declared.State.{State}
use Rattle.sha256.specs.declared.Words.{Words}
use Rattle.sha256.specs.Sha256.{after, compressed}
use Rattle.sha256.specs.State.{Stands, resumed}

-- the hash value after k blocks rests on those blocks alone
after_more : (m x : List ℕ) (k : ℕ) → k * 64 ≤ length m → after (m ++ x) k ≡ after m k
unfolding after
after_more m x zero h = refl
after_more m x (suc k) h =
    let e : take 64 (drop (k * 64) (m ++ x)) ≡ take 64 (drop (k * 64) m) =
    ap (take 64) (drop-append-le (k * 64) m x (omega arith)) ∙ take-append-le 64 (drop (k * 64) m) x (simp length-drop (omega arith)) in
    let i : after (m ++ x) k ≡ after m k = after_more m x k (omega arith) in
    cc

pub drop-zeros : (n k : ℕ) → k ≤ n → drop k (replicate {A = ℕ} n 0) ≡ replicate (n - k) 0
drop-zeros n k h = drop-replicate {X = ℕ} k n 0

-- the bytes behind the whole blocks
abbrev behind : List ℕ → List ℕ
behind m = drop (length m / 64 * 64) m

none_behind : (m : List ℕ) → length m % 64 ≡ 0 → behind m ≡ []
none_behind m e = drop_all (length m / 64 * 64) m (omega arith)

-- where whole blocks are taken no byte waits
none_waits : (m : List ℕ) → length m % 64 ≡ 0 → behind m ++ replicate (64 - length m % 64) 0 ≡ replicate 64 0
none_waits m e = rw (none_behind m e, e)

waiting : (m x : List ℕ) → behind m ++ x ≡ drop (length m / 64 * 64) (m ++ x)
waiting m x = sym (drop-append-le (length m / 64 * 64) m x (omega arith))

-- the bytes behind the whole blocks of m, and x, are a block
module _ (m x b : List ℕ) (full : length m % 64 + length x ≡ 64) (e : b ≡ behind m ++ x) where
  longer : length (m ++ x) ≡ length m + length x
  longer = length-append m x

  full_even : length (m ++ x) % 64 ≡ 0
  full_even = omega (arith, longer)

  full_hash : compressed (after m (length m / 64)) b ≡ after (m ++ x) (length (m ++ x) / 64)
  unfolding after
  full_hash =
      let k : ℕ = length m / 64 in
      let q : length (m ++ x) / 64 ≡ suc k = omega (arith, longer) in
      let t : take 64 (drop (k * 64) (m ++ x)) ≡ drop (k * 64) (m ++ x) = take_all 64 (drop (k * 64) (m ++ x)) (simp length-drop (omega (arith, longer))) in
      let a : after (m ++ x) k ≡ after m k = after_more m x k (omega arith) in
      let y : b ≡ drop (k * 64) (m ++ x) = e ∙ waiting m x in
      rw (q, t, a, y)

-- x is stored behind the bytes that wait, in a block that is not full yet, or just full
module _ (s : State) (m x : List ℕ) (h : Stands s m) (room : s.count % 64 + length x ≤ 64) where
  held : (j : ℕ) (ys : List ℕ) → ys ≡ x → j ≡ length x
      → put_mid (s.count % 64) j s.rest ys ≡ (behind m ++ x) ++ replicate (64 - length m % 64 - length x) 0
  held j ys ey ej =
      let k : ℕ = length m % 64 in
      let p : s.count % 64 ≡ k = omega (arith, h.count) in
      let l : length (behind m) ≡ k = simp length-drop (omega arith) in
      let front : take k (behind m ++ replicate (64 - k) 0) ≡ behind m = take_at (behind m) (replicate (64 - k) 0) k l in
      let back : drop k (behind m ++ replicate (64 - k) 0) ≡ replicate (64 - k) 0 = drop_at (behind m) (replicate (64 - k) 0) k l in
      rw (p, h.rest, ey, ej, front, back, drop-replicate {X = ℕ} (length x) (64 - k) 0) (sym (append_assoc (behind m) x (replicate (64 - k - length x) 0)))

  pub stored_part : s.count % 64 + length x < 64 → (j : ℕ) (ys : List ℕ) → ys ≡ x → j ≡ length x
      → Stands (record { hash = s.hash; rest = put_mid (s.count % 64) j s.rest ys; count = (s.count + length x) % 2 ^ 64 }) (m ++ x)
  stored_part lt j ys ey ej =
      let longer : length (m ++ x) ≡ length m + length x = length-append m x in
      let q : length (m ++ x) / 64 ≡ length m / 64 = omega (arith, h.count) in
      let z : 64 - length m % 64 - length x ≡ 64 - length (m ++ x) % 64 = omega (arith, h.count) in
      record {
        count = omega (arith, h.count);
        hash = h.hash ∙ sym (after_more m x (length m / 64) (omega arith)) ∙ ap (after (m ++ x)) (sym q);
        rest = held j ys ey ej ∙ rw (waiting m x, z, q);
      }

-- Between two blocks: the bytes of some t are taken, whole blocks, none waits, and with those left they are y.
pub record Between (x : Words) (r left y : List ℕ) : Type 0 where
  t : List ℕ
  all : t ++ left ≡ y
  even : length t % 64 ≡ 0
  hash : x ≡ after t (length t / 64)
  rest : r ≡ replicate 64 0

-- where no byte waits
pub between_none : (s : State) (m d : List ℕ) → Stands s m → s.count % 64 ≤ 0 → Between s.hash s.rest d (m ++ d)
between_none s m d h e =
    let z : length m % 64 ≡ 0 = omega (arith, h.count) in
    record { t = m; all = refl; even = z; hash = h.hash; rest = h.rest ∙ none_waits m z }

-- where the first bytes of d have filled the block
pub between_full : (s : State) (m d : List ℕ) (n j : ℕ) (ys : List ℕ) → Stands s m → s.count % 64 + n ≡ 64 → n ≤ length d → ys ≡ take n d → j ≡ n
    → Between (compressed s.hash (put_mid (s.count % 64) j s.rest ys)) (replicate 64 0) (drop n d) (m ++ d)
between_full s m d n j ys h full fits ey ej =
    let x : List ℕ = take n d in
    let l : length x ≡ n = length-take-le n d fits in
    let p : length m % 64 + length x ≡ 64 = omega (arith, h.count) in
    let z : 64 - length m % 64 - length x ≡ 0 = omega arith in
    let b : put_mid (s.count % 64) j s.rest ys ≡ behind m ++ x = held s m x h (omega arith) j ys ey (omega arith) ∙ rw (z, append-nil) in
    record {
      t = m ++ x;
      all = append_assoc m x (drop n d) ∙ ap (λ (l : List ℕ). m ++ l) (take-append-drop n d);
      even = full_even m x _ p b;
      hash = ap (λ (w : Words). compressed w (put_mid (s.count % 64) j s.rest ys)) h.hash ∙ full_hash m x _ p b;
      rest = refl;
    }

-- a whole block more
pub between_next : (x : Words) (r b left y : List ℕ) → length b ≡ 64 → Between x r (b ++ left) y → Between (compressed x b) r left y
between_next x r b left y l h =
    let even : length h.t % 64 ≡ 0 = h.even in
    let p : length h.t % 64 + length b ≡ 64 = omega arith in
    let e : b ≡ behind h.t ++ b = rw (none_behind h.t even) in
    record {
      t = h.t ++ b;
      all = append_assoc h.t b left ∙ h.all;
      even = full_even h.t b b p e;
      hash = ap (λ (w : Words). compressed w b) h.hash ∙ full_hash h.t b b p e;
      rest = h.rest;
    }

-- less than a block is left, and waits
pub between_end : (x : Words) (r left y : List ℕ) (n c : ℕ) (ys : List ℕ) → length left < 64 → ys ≡ left → n ≡ length left → c ≡ length y % 2 ^ 64
    → Between x r left y → Stands (record { hash = x; rest = ys ++ drop n r; count = c }) y
between_end x r left y n c ys lt ey en ec h =
    let k : ℕ = length h.t % 2 ^ 64 in
    let s : State = record { hash = x; rest = r; count = k } in
    let even : length h.t % 64 ≡ 0 = h.even in
    let st : Stands s h.t = record { count = refl; hash = h.hash; rest = h.rest ∙ sym (none_waits h.t even) } in
    let z : k % 64 ≡ 0 = omega arith in
    let both : length h.t + length left ≡ length y = sym (length-append h.t left) ∙ ap length h.all in
    let count : (k + length left) % 2 ^ 64 ≡ c = omega arith in
    let all : h.t ++ left ≡ y = h.all in
    rw (z, count, all) at (stored_part s h.t left st (omega arith) (omega arith) n ys ey en)

-- what is no whole block stays when a block goes, and is all that is left in the end
abbrev pub tail : List ℕ → List ℕ
tail d = drop (length d - length d % 64) d

pub tail_next : (b left : List ℕ) → length b ≡ 64 → tail (b ++ left) ≡ tail left
tail_next b left l =
    let n : length (b ++ left) ≡ 64 + length left = length-append b left ∙ ap (λ (k : ℕ). k + length left) l in
    let z : length (b ++ left) - length (b ++ left) % 64 ≡ 64 + (length left - length left % 64) = omega arith in
    rw (z, ← drop-drop (length left - length left % 64) 64 (b ++ left), drop_at b left 64 l)

pub tail_end : (left : List ℕ) → length left < 64 → tail left ≡ left
tail_end left lt = let z : length left - length left % 64 ≡ 0 = omega arith in rw z

-- a block's hash value is enough to go on
pub resumed_stands : (s : State) (m : List ℕ) → length m ≡ 64 → Stands s m → Stands (resumed s.hash) m
resumed_stands s m l h = record { count = omega arith; hash = h.hash; rest = sym (none_waits m (omega arith)) }
