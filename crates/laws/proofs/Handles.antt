-- What handles and kinds tell in a sound store: a handle names one record and its session, there is one counter, and a record of
-- kind 0 is free.
use mathlib.Core.Path.{◌≡◌, refl, sym, ap, ◌∙◌}
use mathlib.Core.Bool.{true}
use mathlib.Core.List.{List, Memᴰ}
use mathlib.Core.Logic.{◌⊎◌, inl, inr}
use Prim.Native.Nat.{ℕ, zero, suc, ◌+◌, ◌≤◌, ◌<◌}
use native.Mathlib.Omega.{arith}
use native.Mathlib.Nat.{add-zero}
use lib.ListN.{length}
use lib.Dec.{leb}
use borrow.Author.Tests.{leb-true, ne_eqb}
use Rattle.paper.specs.Bytes.{byte, four, part}
use Rattle.paper.specs.Form.{Rec, ◌equals◌, ◌=<◌, Fact, some}
use Rattle.paper.specs.Records.{kind, zeros, FREE, SESSION, PUK, POLICY, KEY, PENDING, COUNTER, own, session, session_of, is, at}
use Rattle.paper.specs.Table.{Field, is_blank, fields_of, obeys_table}
use Rattle.paper.specs.Sound.{is_object, has_handle}
use Rattle.paper.specs.Sessions.{counter}
use Rattle.paper.proofs.Forms.{cases}
use Rattle.laws.proofs.Bytes.{split, all_at, byte-part, length_part, list_same}
use Rattle.laws.proofs.Fields.{field, tabled_field, tabled-length}
use Rattle.laws.proofs.Choice.{holds}
use Rattle.laws.proofs.Inserting.{byte-zeros, length-zeros}
use Rattle.laws.proofs.Lists.{sought, pairs_cases, at_found, at_none}
use Rattle.laws.proofs.Facts.{Alone, Distinct, Facts}

module _ (rs : List Rec) (F : Facts rs) where
  -- two records that are not distinct are one
  one : (x y : Rec) → Memᴰ x rs → Memᴰ y rs → (Distinct x y → ⊥) → (Distinct y x → ⊥) → x ≡ y
  one x y mx my a b = go (pairs_cases Distinct rs F.distinct x y mx my)
    where
      go : (x ≡ y) ⊎ (Distinct x y ⊎ Distinct y x) → x ≡ y
      go (inl e) = e
      go (inr (inl D)) = absurd (a D)
      go (inr (inr D)) = absurd (b D)

  pub unique : (x y : Rec) → Memᴰ x rs → Memᴰ y rs → Fact (has_handle x) → Fact (has_handle y) → own x ≡ own y → x ≡ y
  unique x y mx my a b e = one x y mx my (λ D. D.handles_differ a b e) (λ D. D.handles_differ b a (sym e))

  pub one-counter : (x y : Rec) → Memᴰ x rs → Memᴰ y rs → kind x ≡ COUNTER → kind y ≡ COUNTER → x ≡ y
  one-counter x y mx my a b = one x y mx my (λ D. D.one_counter a b) (λ D. D.one_counter b a)

  -- the counter is there
  pub counter_there : Memᴰ (counter rs) rs × (kind (counter rs) ≡ COUNTER)
  counter_there = sought (λ r. kind r equals COUNTER) rs F.counter

  -- an object's handle tells its session, which is not 0
  pub carries : (x : Rec) → Memᴰ x rs → Fact (is_object x) → (session_of (own x) ≡ session x) × (1 ≤ session x)
  carries x m k =
      let o = (F.alone x m).object_carries k in
      let h = (F.housed x m).session_there k in
      let l = (F.alone h.0 h.1).session_carries h.2.0 in
      let e = h.2.1.0 in
      let l1 = l.1.0 in
      let l2 = l.1.1 in
      (omega arith, omega arith)

  -- whoever is looked up by kind, handle and session is found, if he is there
  pub at-is : (k o s : ℕ) (x : Rec) → SESSION ≤ k → k ≤ PENDING → Memᴰ x rs → Fact (is k o s x) → at k o s rs ≡ x
  at-is k o s x a b m w =
      let f = at_found k o s rs (x, m, w) in
      let kx = w.0 in
      let ky = f.1.0 in
      unique (at k o s rs) x f.0 m (omega arith, omega arith) (omega arith, omega arith) (f.1.1.0 ∙ sym w.1.0)

  -- and who answers to the name of the one found is that one
  pub at_only : (k o s : ℕ) (x : Rec) → PUK ≤ k → k ≤ PENDING → Memᴰ x rs → Fact (is k (own (at k o s rs)) (session (at k o s rs)) x) → x ≡ at k o s rs
  at_only k o s x a b m w = cases (some rs (is k o s))
      (λ p.
      let f = at_found k o s rs p in
      let kx = w.0 in
      let ky = f.1.0 in
      unique x (at k o s rs) m f.0 (omega arith, omega arith) (omega arith, omega arith) w.1.0)
      (λ n. absurd (nobody (w.1.0 ∙ ap own (at_none k o s rs n) ∙ (unfold four byte in refl))))
    where
      nobody : own x ≡ 0 → ⊥
      nobody z = let kx = w.0 in let o = (F.alone x m).object_carries (omega arith, omega arith) in omega arith

-- zeros at four places make the number 0
pub blank_four : (i n : ℕ) (r : Rec) → 4 ≤ n → i + n ≤ length r → is_blank (part i n r) ≡ true → four i r ≡ 0
unfolding four
blank_four i n r h l b = rw (zero_first, zero-at 1 (omega arith), zero-at 2 (omega arith), zero-at 3 (omega arith))
  where
    zero-at : (j : ℕ) → j < 4 → byte (i + j) r ≡ 0
    zero-at j a =
        let p = length_part i n r l in
        let z = (all_at 0 0 (part i n r) b j (omega arith)).1 in
        let e = byte-part i n j r (omega arith) in
        omega arith

    zero_first : byte i r ≡ 0
    zero_first = ap (λ (j : ℕ). byte j r) (sym (add-zero i)) ∙ zero-at 0 (omega arith)

-- the counter bears no session
pub counter-session : (r : Rec) → Alone r → kind r ≡ COUNTER → session r ≡ 0
counter-session r A k = blank_four 8 248 r (omega arith) (rw (tabled-length r A.tabled) (omega arith)) (tabled_field 3 COUNTER r k A.tabled)

-- ---- kinds that the table knows

pub kind_most : (r : Rec) → obeys_table r ≡ true → kind r ≤ COUNTER
kind_most r t = holds (kind r =< COUNTER) (λ n. off n)
  where
    beyond : (k : ℕ) → 7 ≤ k → fields_of k ≡ fields_of 7
    beyond k h =
        rw (
          ne_eqb k SESSION (λ e. omega arith),
          ne_eqb k PUK (λ e. omega arith),
          ne_eqb k POLICY (λ e. omega arith),
          ne_eqb k KEY (λ e. omega arith),
          ne_eqb k PENDING (λ e. omega arith),
          ne_eqb k COUNTER (λ e. omega arith),
        )

    -- the fields of no other kind: the first is 0
    off : (kind r ≤ COUNTER → ⊥) → ⊥
    off n =
        let e : fields_of (kind r) ≡ fields_of 7 = beyond (kind r) (omega arith) in
        let f = ap (λ (fs : List Field). field 0 fs 0 r) (sym e) ∙ tabled_field 0 (kind r) r refl t in
        let z = leb-true (kind r) 0 (split (leb 0 (kind r)) (leb (kind r) 0) f).1 in
        n (omega arith)

-- a record of kind 0 is the free record
pub kind_free : (r : Rec) → obeys_table r ≡ true → kind r ≡ FREE → r ≡ zeros
kind_free r t k = list_same zeros r (tabled-length r t ∙ sym length-zeros) (λ j l. zero-at j (omega (arith, length-zeros)) ∙ sym (byte-zeros j))
  where
    rest : is_blank (part 1 255 r) ≡ true
    rest = tabled_field 1 FREE r k t

    zero-at : (j : ℕ) → j < 256 → byte j r ≡ 0
    zero-at zero l = k
    zero-at (suc j) l =
        let p = length_part 1 255 r (rw (tabled-length r t) (omega arith)) in
        let z = (all_at 0 0 (part 1 255 r) rest j (omega arith)).1 in
        let e = byte-part 1 255 j r (omega arith) in
        let q : 1 + j ≡ suc j = omega arith in
        rw (← q) (omega arith)
