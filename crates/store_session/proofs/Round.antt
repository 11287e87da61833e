-- What is decoded from a session's record tells a call all that the record does; encoded again it is the record.
use mathlib.Core.Bool.{Bool, true, false, ◌&&◌}
use mathlib.Core.Path.{◌≡◌, refl, sym, ap, ap₂, ◌∙◌}
use mathlib.Core.List.{List, [], ◌∷◌, ◌++◌, append_assoc, append-nil}
use Prim.Native.Nat.{ℕ, suc, ◌+◌, ◌*◌, ◌/◌, ◌%◌, ◌≤◌, ◌<◌}
use native.Mathlib.Numerals.{add-one}
use native.Mathlib.Omega.{arith}
use borrow.Author.Tests.{eqb-true, leb-true}
use lib.Dec.{eqb, leb}
use lib.ListN.{length, take, drop, length-take, length-drop}
use lib.Seq.{drop-cons, drop-drop, take-add, take_all, take-take}
use Rattle.paper.specs.Bytes.{byte, two, four, part, text_at, enc2, enc4, zeros_of, within, all_within}
use Rattle.paper.specs.Form.{Rec}
use Rattle.paper.specs.Records.{kind, SESSION, by_value, client_id}
use Rattle.paper.specs.Table.{u8, u16, blank, ident, flag, field_fits, fits, session_fields, fields_of, obeys_table, is_blank}
use Rattle.paper.proofs.Forms.{contrary}
use Rattle.store_draft.specs.Drafts.{laid}
use Rattle.store_draft.proofs.Laying.{laid_whole}
use Rattle.store_session.specs.Decoded.{block, value_of, front, names, back, decoded, encoded}

halves : (a b : Bool) → a && b ≡ true → (a ≡ true) × (b ≡ true)
halves true b e = (refl, e)
halves false b e = contrary (sym e)

-- the fourth and the tenth of ten tests that are passed
tenth : (a b c d e f g h i j : Bool) → a && (b && (c && (d && (e && (f && (g && (h && (i && (j && true))))))))) ≡ true → (d ≡ true) × (j ≡ true)
tenth true true true true true true true true true true w = (refl, refl)
tenth false b c d e f g h i j w = contrary (sym w)
tenth true false c d e f g h i j w = contrary (sym w)
tenth true true false d e f g h i j w = contrary (sym w)
tenth true true true false e f g h i j w = contrary (sym w)
tenth true true true true false f g h i j w = contrary (sym w)
tenth true true true true true false g h i j w = contrary (sym w)
tenth true true true true true true false h i j w = contrary (sym w)
tenth true true true true true true true false i j w = contrary (sym w)
tenth true true true true true true true true false j w = contrary (sym w)
tenth true true true true true true true true true false w = contrary (sym w)

-- the two blank parts of a session's record
blanks : (r : Rec) → fits session_fields 0 r ≡ true → (is_blank (part 12 4 r) ≡ true) × (is_blank (part 128 128 r) ≡ true)
blanks r e =
    tenth (field_fits (u8 1 1) 0 r) (field_fits (u8 1 2) 1 r) (field_fits (u16 1 1000) 2 r) (field_fits (blank 4) 12 r) (field_fits (ident 32 1) 16 r)
    (field_fits (ident 32 1) 49 r) (field_fits (u16 1 65535) 116 r) (field_fits flag 118 r) (field_fits flag 119 r) (field_fits (blank 128) 128 r) e

blank_zeros : (v : List ℕ) → all_within 0 0 v ≡ true → zeros_of (length v) ≡ v
unfolding all_within
blank_zeros [] e = refl
blank_zeros (x ∷ xs) e =
    let z = halves (within 0 0 x) (all_within 0 0 xs) e in
    let l : x ≤ 0 = leb-true x 0 (halves (leb 0 x) (leb x 0) z.0).1 in
    let q : ◌≡◌ {A = ℕ} 0 x = omega arith in
    ap₂ (λ (a : ℕ) (s : List ℕ). a ∷ s) q (blank_zeros xs z.1)

-- numbers of two and four bytes come back byte by byte
pair_bytes : (a b : ℕ) → a < 256 → b < 256 → enc2 (a * 256 + b) ≡ a ∷ b ∷ []
pair_bytes a b x y =
    let h : (a * 256 + b) / 256 % 256 ≡ a = omega arith in
    let l : (a * 256 + b) % 256 ≡ b = omega arith in
    λ i. h i ∷ (l i ∷ [])

quad_bytes : (a b c d : ℕ) → a < 256 → b < 256 → c < 256 → d < 256 → enc4 (((a * 256 + b) * 256 + c) * 256 + d) ≡ a ∷ b ∷ c ∷ d ∷ []
quad_bytes a b c d x y z w =
    let e1 : (((a * 256 + b) * 256 + c) * 256 + d) / 256 ≡ (a * 256 + b) * 256 + c = omega arith in
    let e2 : ((a * 256 + b) * 256 + c) / 256 ≡ a * 256 + b = omega arith in
    let e3 : (a * 256 + b) / 256 ≡ a = omega arith in
    let p : (((a * 256 + b) * 256 + c) * 256 + d) / 256 / 256 / 256 % 256 ≡ a = rw (e1, e2, e3) (omega arith) in
    let q : (((a * 256 + b) * 256 + c) * 256 + d) / 256 / 256 % 256 ≡ b = rw (e1, e2) (omega arith) in
    let s : (((a * 256 + b) * 256 + c) * 256 + d) / 256 % 256 ≡ c = rw e1 (omega arith) in
    let t : (((a * 256 + b) * 256 + c) * 256 + d) % 256 ≡ d = omega arith in
    λ i. p i ∷ (q i ∷ (s i ∷ (t i ∷ [])))

module _ (r : Rec) where
  length_part : (k n : ℕ) → k + n ≤ length r → length (part k n r) ≡ n
  unfolding part
  length_part k n h = simp (length-take, length-drop) (omega arith)

  -- one part behind another
  join : (k n m : ℕ) {v w : List ℕ} → v ≡ part k n r → w ≡ part (k + n) m r → v ++ w ≡ part k (n + m) r
  unfolding part
  join k n m e f = rw (e, f, take-add n m (drop k r), drop-drop n k r)

  none : (k : ℕ) → [] ≡ part k 0 r
  unfolding part
  none k = refl

  one-part : (k : ℕ) → k + 1 ≤ length r → byte k r ∷ [] ≡ part k 1 r
  unfolding byte part
  one-part k h = let a : k < length r = omega arith in rw (drop-cons r k 0 a)

  two_bytes : (k : ℕ) → k + 2 ≤ length r → byte k r ∷ byte (k + 1) r ∷ [] ≡ part k 2 r
  unfolding byte part
  two_bytes k h =
      let a : k < length r = omega arith in
      let b : suc k < length r = omega arith in
      rw (add-one k, drop-cons r k 0 a, drop-cons r (suc k) 0 b)

  four_bytes : (k : ℕ) → k + 4 ≤ length r → byte k r ∷ byte (k + 1) r ∷ byte (k + 2) r ∷ byte (k + 3) r ∷ [] ≡ part k 4 r
  four_bytes k h =
      let e : k + 3 ≡ (k + 2) + 1 = omega arith in
      rw e (join k 2 2 (two_bytes k (omega arith)) (two_bytes (k + 2) (omega arith)))

  blank_part : (k n : ℕ) → k + n ≤ length r → is_blank (part k n r) ≡ true → zeros_of n ≡ part k n r
  blank_part k n h e = rw (length_part k n h) at (blank_zeros (part k n r) e)

  block-part : (k : ℕ) → k + 32 ≤ length r → block k r ≡ part k 32 r
  unfolding block
  block-part k h = rw (length_part k 32 h) (append-nil (part k 32 r))

  -- the value's fields are the record's
  client_part : length r ≡ 256 → byte 49 r ≤ 32 → take (byte 49 r) (block 50 r) ≡ client_id r
  unfolding part text_at
  client_part l h = rw (block-part 50 (omega arith), take-take)

  pub decoded-value : length r ≡ 256 → byte 49 r ≤ 32 → value_of (decoded r) ≡ by_value r
  unfolding decoded
  decoded-value l h =
      λ j. record {
        key = block-part 82 (omega arith) j;
        client = client_part l h j;
        counter = (by_value r).counter;
        limit = (by_value r).limit;
        next = (by_value r).next;
      }

module _ (r : Rec) (small : (i : ℕ) → byte i r < 256) where
  two-part : (k : ℕ) → k + 2 ≤ length r → enc2 (two k r) ≡ part k 2 r
  unfolding two
  two-part k h = pair_bytes (byte k r) (byte (k + 1) r) (small k) (small (k + 1)) ∙ two_bytes r k h

  four-part : (k : ℕ) → k + 4 ≤ length r → enc4 (four k r) ≡ part k 4 r
  unfolding four
  four-part k h =
      quad_bytes (byte k r) (byte (k + 1) r) (byte (k + 2) r) (byte (k + 3) r) (small k) (small (k + 1)) (small (k + 2)) (small (k + 3))
      ∙ four_bytes r k h

  module _ (l : length r ≡ 256) where
    front-part : kind r ≡ SESSION → is_blank (part 12 4 r) ≡ true → front (decoded r) ≡ part 0 16 r
    unfolding decoded
    front-part s b =
        join r 0 1 15 (ap (λ (v : ℕ). v ∷ []) (sym s) ∙ one-part r 0 (omega arith))
        (join r 1 1 14 (one-part r 1 (omega arith))
        (join r 2 2 12 (two-part 2 (omega arith))
        (join r 4 4 8 (four-part 4 (omega arith))
        (join r 8 4 4 (four-part 8 (omega arith))
        (join r 12 4 0 (blank_part r 12 4 (omega arith) b) (none r 16))))))

    names-part : names (decoded r) ≡ part 16 98 r
    unfolding decoded
    names-part =
        join r 16 1 97 (one-part r 16 (omega arith))
        (join r 17 32 65 (block-part r 17 (omega arith))
        (join r 49 1 64 (one-part r 49 (omega arith))
        (join r 50 32 32 (block-part r 50 (omega arith))
        (join r 82 32 0 (block-part r 82 (omega arith)) (none r 114)))))

    back-part : is_blank (part 128 128 r) ≡ true → back (decoded r) ≡ part 114 142 r
    unfolding decoded
    back-part b =
        join r 114 2 140 (two-part 114 (omega arith))
        (join r 116 2 138 (two-part 116 (omega arith))
        (join r 118 1 137 (one-part r 118 (omega arith))
        (join r 119 1 136 (one-part r 119 (omega arith))
        (join r 120 4 132 (four-part 120 (omega arith))
        (join r 124 4 128 (four-part 124 (omega arith))
        (join r 128 128 0 (blank_part r 128 128 (omega arith) b) (none r 256)))))))

    all_of_it : part 0 256 r ≡ r
    unfolding part
    all_of_it = take_all 256 r (omega arith)

  -- a record that obeys the table as a session
  pub again : obeys_table r ≡ true → kind r ≡ SESSION → encoded (decoded r) ≡ r
  unfolding encoded obeys_table
  again o s =
      let z = halves (eqb (length r) 256) (fits (fields_of (kind r)) 0 r) o in
      let l : length r ≡ 256 = eqb-true (length r) 256 z.0 in
      let f : fits session_fields 0 r ≡ true = rw s at z.1 in
      let b = blanks r f in
      ap laid (join r 0 16 240 (front-part l s b.0) (join r 16 98 142 (names-part l) (back-part l b.1)) ∙ all_of_it l) ∙ laid_whole r l

-- a part is at most as long as it was to be
pub short : (r v : List ℕ) (k n : ℕ) → v ≡ part k n r → length v ≤ n
unfolding part
short r v k n e = rw e (simp length-take (omega arith))

-- a part, copied into 32 zeros
pub block_copied : (r v d : List ℕ) (k : ℕ) → v ≡ part k 32 r → d ≡ v ++ drop (length v) (zeros_of 32) → d ≡ block k r
unfolding block
block_copied r v d k e f = f ∙ rw e

-- the IDs, the key and what is behind them, one after another
pub names-flat : (a s b c k z : List ℕ) → a ++ (s ++ (b ++ (c ++ (k ++ z)))) ≡ (a ++ (s ++ (b ++ (c ++ (k ++ []))))) ++ z
names-flat a s b c k z = simp (append_assoc, append-nil)
