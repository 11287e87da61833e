-- Laws of drafts: what a draft shows of the bytes that it was given, a field more, fields one after another, and a record of 256 bytes, which
-- is laid as it is.
use mathlib.Core.Path.{◌≡◌, refl, sym, ap, ◌∙◌}
use mathlib.Core.List.{List, [], ◌∷◌, ◌++◌, append_assoc, append-nil}
use Prim.Native.Nat.{ℕ, suc, ◌+◌, ◌-◌, ◌≤◌, ◌<◌}
use native.Mathlib.Omega.{arith}
use lib.ListN.{length, set, take, drop, length-append, length-take, length-replicate, replicate-append-replicate}
use lib.Seq.{take_all, take-take, length-take-le, take-append_seam, take-append-le, take-append-add, drop-append_seam, set_at, append_snoc}
use borrow.Rule.Slice.PartMut.{put_mid}
use Rattle.std.proofs.Common.{min}
use Rattle.std.proofs.Math.Nat.{min_comm}
use Rattle.std.proofs.lemmas.List.{take_min, take-replicate, drop-replicate}
use Rattle.paper.specs.Bytes.{zeros_of, enc4}
use Rattle.paper.specs.Form.{◌=<◌}
use Rattle.paper.specs.Act.{flat}
use Rattle.paper.proofs.Forms.{cases}
use Rattle.store_draft.specs.declared.Draft.TheInside.{Inside}
use Rattle.store_draft.specs.Drafts.{laid, kept, Drafts, held}

-- what is laid while there is room, and a whole record
laid_short : (w : List ℕ) → length w ≤ 256 → laid w ≡ w ++ zeros_of (256 - length w)
unfolding laid
laid_short w h = rw (take_all 256 w h)

pub laid_whole : (w : List ℕ) → length w ≡ 256 → laid w ≡ w
laid_whole w h =
    let z : 256 - length w ≡ 0 = omega arith in
    laid_short w (omega arith) ∙ rw (z, append-nil)

-- what has no room is left out at once or at the end
cut : (w : List ℕ) → 256 ≤ length w → length (take 256 w) ≡ 256
cut w h = simp length-take (omega arith)

cut_more : (w v : List ℕ) → 256 ≤ length w → take 256 (take 256 w ++ v) ≡ take 256 (w ++ v)
cut_more w v l = take-append-le 256 (take 256 w) v (omega (arith, cut w l)) ∙ take-take 256 256 w (omega arith) ∙ sym (take-append-le 256 w v l)

pub kept_more : (w v : List ℕ) → kept (kept w ++ v) ≡ kept (w ++ v)
unfolding kept
kept_more w v = cases (length w =< 256) (λ l. ap (λ (x : List ℕ). take 256 (x ++ v)) (take_all 256 w l)) (λ l. cut_more w v (omega arith))

laid_cut : (w : List ℕ) → 256 ≤ length w → laid (take 256 w) ≡ laid w
unfolding laid
laid_cut w l =
    let a : 256 - length w ≡ 0 = omega arith in
    let b : 256 - length (take 256 w) ≡ 0 = omega (arith, cut w l) in
    rw (a, b, take-take 256 256 w (omega arith))

pub laid_kept : (w : List ℕ) → laid (kept w) ≡ laid w
unfolding kept
laid_kept w = cases (length w =< 256) (λ l. ap laid (take_all 256 w l)) (λ l. laid_cut w (omega arith))

-- a draft that holds the bytes w shows them, as far as there is room, and holds what it shows
module _ {d : Inside} {w : List ℕ} where
  pub shows : Drafts d w → held d ≡ kept w
  unfolding laid kept
  shows h = rw (h.bytes, h.next) (take-append_seam (take 256 w) (zeros_of (256 - length w)))

  uncut : Drafts d (kept w) → Drafts d w
  unfolding kept
  uncut h = record {
    bytes = h.bytes ∙ laid_kept w;
    next = h.next ∙ ap length (take-take 256 256 w (omega arith));
  }

  pub whole : Drafts d w → Drafts d (held d)
  unfolding kept
  whole h = rw (shows h) (record {
    bytes = h.bytes ∙ sym (laid_kept w);
    next = h.next ∙ ap length (sym (take-take 256 256 w (omega arith)));
  })

-- what a draft shows is as long as its place says, and within the record
module _ {d : Inside} (h : Drafts d (held d)) where
  at_is : d.at ≡ length (held d)
  unfolding kept
  at_is = h.next ∙ ap length (sym (shows h))

  pub within : d.at ≤ 256
  within = let e : length (take 256 (held d)) ≡ min 256 (length (held d)) = length-take 256 (held d) in omega (arith, h.next, e)

  -- as much of v as there is room for
  room_for : (v : List ℕ) → kept (held d ++ v) ≡ held d ++ take (256 - d.at) v
  unfolding kept
  room_for v =
      let e : 256 ≡ length (held d) + (256 - d.at) = omega (arith, at_is, within) in
      ap (λ (n : ℕ). take n (held d ++ v)) e ∙ take-append-add (held d) v (256 - d.at)

  -- what fits, laid behind what is shown
  fits : {b : List ℕ} {p : ℕ} (x : List ℕ) → d.at + length x ≤ 256 → b ≡ (held d ++ x) ++ zeros_of (256 - (d.at + length x)) → p ≡ d.at + length x
      → Drafts (record { bytes = b; at = p }) (held d ++ x)
  fits {b} {p} x l e q =
      let n : length (held d ++ x) ≡ d.at + length x = length-append (held d) x ∙ ap (λ (k : ℕ). k + length x) (sym at_is) in
      let m : length (held d ++ x) ≤ 256 = omega (arith, n) in
      record {
        bytes = e ∙ ap (λ (k : ℕ). (held d ++ x) ++ zeros_of (256 - k)) (sym n) ∙ sym (laid_short (held d ++ x) m);
        next = q ∙ sym n ∙ ap length (sym (take_all 256 (held d ++ x) m));
      }

  bytes_are : d.bytes ≡ held d ++ zeros_of (256 - d.at)
  bytes_are = h.bytes ∙ laid_short (held d) (omega (arith, at_is, within)) ∙ ap (λ (k : ℕ). held d ++ zeros_of (256 - k)) (sym at_is)

  pub byte_fits : (v : ℕ) → d.at < 256 → Drafts (record { bytes = set d.bytes d.at v; at = d.at + 1 }) (held d ++ (v ∷ []))
  byte_fits v l =
      let e : 256 - d.at ≡ suc (256 - (d.at + 1)) = omega arith in
      fits (v ∷ []) (omega arith)
      (ap (λ (b : List ℕ). set b d.at v) (bytes_are ∙ ap (λ (k : ℕ). held d ++ zeros_of k) e)
      ∙ set_at (held d) 0 (zeros_of (256 - (d.at + 1))) v d.at (sym at_is) ∙ sym (append_snoc (held d) v (zeros_of (256 - (d.at + 1)))))
      refl

  -- what comes once there is no room is left out
  pub past : (v : List ℕ) → 256 ≤ d.at → Drafts d (held d ++ v)
  past v l =
      let z : 256 - d.at ≡ 0 = omega arith in
      uncut (rw (room_for v, z, append-nil) h)

  -- what stands behind n bytes more
  behind : (n k : ℕ) → k ≡ n → d.at + n ≤ 256 → drop k (drop d.at d.bytes) ≡ zeros_of (256 - (d.at + n))
  behind n k e l =
      let z : (256 - d.at) - n ≡ 256 - (d.at + n) = omega arith in
      let s : drop d.at d.bytes ≡ zeros_of (256 - d.at) =
      ap (λ (b : List ℕ). drop d.at b) bytes_are ∙ ap (λ (j : ℕ). drop j (held d ++ zeros_of (256 - d.at))) at_is
      ∙ drop-append_seam (held d) (zeros_of (256 - d.at)) in
      rw (s, e, drop-replicate, z)

  -- as many bytes as there is room for, and the others are left out
  pub bytes_fit : (v x : List ℕ) (n k : ℕ) → n ≡ min (length v) (256 - d.at) → k ≡ n → x ≡ take n v
      → Drafts (record { bytes = put_mid d.at k d.bytes x; at = d.at + n }) (held d ++ v)
  bytes_fit v x n k q e f =
      let a : take n v ≡ take (256 - d.at) v = ap (λ (j : ℕ). take j v) (q ∙ min_comm (length v) (256 - d.at)) ∙ take_min (256 - d.at) v in
      let l : length (take n v) ≡ n = length-take-le n v (omega (arith, q)) in
      let g : drop k (drop d.at d.bytes) ≡ zeros_of (256 - (d.at + n)) = behind n k e (omega (arith, q, within)) in
      let p : put_mid d.at k d.bytes x ≡ (held d ++ take n v) ++ zeros_of (256 - (d.at + n)) =
      rw (f, g) (sym (append_assoc (held d) (take n v) (zeros_of (256 - (d.at + n))))) in
      uncut (rw (room_for v, ← a) (fits (take n v) (omega (arith, l, q, within)) (rw l p) (rw l refl)))

  -- zeros stand there already
  pub zeros_fit : (n p : ℕ) → p ≡ min (d.at + n) 256 → Drafts (record { bytes = d.bytes; at = p }) (held d ++ zeros_of n)
  zeros_fit n p q =
      let m : ℕ = min (256 - d.at) n in
      let a : take (256 - d.at) (zeros_of n) ≡ zeros_of m =
      sym (take_min (256 - d.at) (zeros_of n)) ∙ rw (length-replicate {A = ℕ} n 0) (take-replicate m n 0 (omega arith)) in
      let e : 256 - d.at ≡ m + (256 - (d.at + m)) = omega (arith, within) in
      let l : length (zeros_of m) ≡ m = length-replicate {A = ℕ} m 0 in
      let g : d.bytes ≡ (held d ++ zeros_of m) ++ zeros_of (256 - (d.at + m)) =
      bytes_are ∙ ap (λ (z : List ℕ). held d ++ z) (ap zeros_of e ∙ sym (replicate-append-replicate {A = ℕ} m (256 - (d.at + m)) 0))
      ∙ sym (append_assoc (held d) (zeros_of m) (zeros_of (256 - (d.at + m)))) in
      uncut (rw (room_for (zeros_of n), a) (fits (zeros_of m) (omega (arith, l, within)) (rw l g) (rw l (omega (arith, q, within)))))

-- What each step promised of any bytes that its draft holds follows from what it gives: the bytes shown are those before it and its own.
pub promise : {d r : Inside} {w : List ℕ} (v : List ℕ) → Drafts d w → Drafts r (held r) → held r ≡ kept (held d ++ v) → Drafts r (w ++ v)
promise {d} {r} {w} v h g e =
    let f : held r ≡ kept (w ++ v) = e ∙ ap (λ (x : List ℕ). kept (x ++ v)) (shows h) ∙ kept_more w v in
    uncut (rw f at g)

-- and the record that comes of them is the same
pub promise_of_record : {d : Inside} {w : List ℕ} → Drafts d w → laid (held d) ≡ laid w
promise_of_record {d} {w} h = ap laid (shows h) ∙ laid_kept w

-- fields written one after another are the fields' bytes one after another
abbrev pub grown : List ℕ → List (List ℕ) → List ℕ
grown w [] = w
grown w (v ∷ vs) = grown (kept (w ++ v)) vs

pub laid_more : (w v : List ℕ) → laid (kept w ++ v) ≡ laid (w ++ v)
laid_more w v = sym (laid_kept (kept w ++ v)) ∙ ap laid (kept_more w v) ∙ laid_kept (w ++ v)

pub laid_grown : (w : List ℕ) (vs : List (List ℕ)) → laid (grown w vs) ≡ laid (w ++ flat vs)
laid_grown w [] = ap laid (sym (append-nil w))
laid_grown w (v ∷ vs) = laid_grown (kept (w ++ v)) vs ∙ laid_more (w ++ v) (flat vs) ∙ ap laid (append_assoc w v (flat vs))

-- the first fields, as `head` writes them
abbrev pub headed : ℕ → ℕ → ℕ → ℕ → ℕ → ℕ → ℕ → List ℕ
headed kind a b e own session parent =
    flat ((kind ∷ []) ∷ (a ∷ []) ∷ (b ∷ []) ∷ (e ∷ []) ∷ enc4 own ∷ enc4 session ∷ enc4 parent ∷ [])
