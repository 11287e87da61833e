-- The literal close, step by step: after each pending that is carried out, the other sessions' records have met the effect of all that
-- were, and the session's own have lost those pendings. In the end that is the close in one shot.
use mathlib.Core.Path.{◌≡◌, refl, sym, ap, ap₂, ◌∙◌, subst}
use mathlib.Core.Bool.{Bool, true, false, cond}
use mathlib.Core.List.Memᴰ
use mathlib.Core.List.{List, [], ◌∷◌, map, Memᴰ}
use mathlib.Core.Logic.{◌⊎◌, inl, inr}
use Prim.Native.Nat.{ℕ, zero, suc, ◌+◌, ◌≤◌, ◌<◌}
use native.Mathlib.Omega.{arith}
use lib.ListN.{length}
use lib.Dec.{eqb, lit≤}
use borrow.Author.Tests.{eqb-true, eq-eqb}
use Rattle.paper.specs.Form.{Rec, Form, ◌equals◌, ◌=<◌, no, ◌and◌, ◌or◌, each, some, test, Fact, only}
use Rattle.paper.specs.Records.{records, kind, KEY, PENDING, own, session, parent, operation, session_of, is, bears, zeros}
use Rattle.paper.specs.Sound.{has_handle}
use Rattle.paper.specs.Closing.{Keys, no_keys, one, held, holds, has_key, sealed, closing, effect, goes, pending_on, is_pending, lowest, freed, carried, carry_out, seal_all, closed_literally}
use Rattle.paper.specs.Answer.{is_open}
use Rattle.paper.proofs.Forms.{both, cases, contrary}
use Rattle.laws.proofs.Choice.{same_true, fails, choose, only-is, only_in, only_out}
use Rattle.laws.proofs.Losses.{named_key}
use Rattle.laws.proofs.Facts.{Facts, Distinct, facts_of}
use Rattle.laws.proofs.Handles.{unique}
use Rattle.laws.proofs.Inserting.{byte-zeros, four-zeros}
use Rattle.laws.proofs.Lists.{map-map, map_same, sought, pairs_cases}
use Rattle.laws.proofs.Stores.{Whole, whole_records}
use Rattle.rule.specs.Bags.{bit, count}
use Rattle.rule.specs.Literally.{Literally}
use Rattle.rule.proofs.SessionHandles.{seat_of}
use Rattle.rule.proofs.ClosedRecord.{closing_in, closing_out, sealed-is}
use Rattle.rule.proofs.SessionFate.{effect-session}
use Rattle.rule.proofs.LocalEffect.{Off, Homed, effect_still, effect_free, sealed_by}
use Rattle.rule.proofs.TwoEffects.{effect_none, effect_twice, either_true, right_true, ◌or-else◌}
use Rattle.rule.proofs.TwoSessions.{held_real, off_open, homed, session-own, borne}
use Rattle.rule.proofs.EitherOrder.{effect_other}
use Rattle.rule.proofs.Stands.{two_ways}

-- ---- lists

-- the lowest of those of which a statement holds
least : (φ : Rec → Form) (rs : List Rec) → Fact (some rs φ) → (q : Rec) × Memᴰ q rs × Fact (φ q) × ((p : Rec) → Memᴰ p rs → Fact (φ p) → own q ≤ own p)
least φ [] w = absurd (Memᴰ.not-nil w.1)
least φ (x ∷ xs) w = cases (some xs φ) (λ v. later (least φ xs v)) (λ n. alone n (Memᴰ.cases_cons w.1))
  where
    Least : Rec → Type 0
    Least q = (p : Rec) → Memᴰ p (x ∷ xs) → Fact (φ p) → own q ≤ own p

    alone : (Fact (some xs φ) → ⊥) → (w.0 ≡ x) ⊎ Memᴰ w.0 xs → (q : Rec) × Memᴰ q (x ∷ xs) × Fact (φ q) × Least q
    alone n (inr m) = absurd (n (w.0, m, w.2))
    alone n (inl e) = (x, Memᴰ.head refl, subst (λ y. Fact (φ y)) e w.2, λ p m f. only_x p f (Memᴰ.cases_cons m))
      where
        only_x : (p : Rec) → Fact (φ p) → (p ≡ x) ⊎ Memᴰ p xs → own x ≤ own p
        only_x p f (inl i) = rw i (omega arith)
        only_x p f (inr m) = absurd (n (p, m, f))

    later : (q : Rec) × Memᴰ q xs × Fact (φ q) × ((p : Rec) → Memᴰ p xs → Fact (φ p) → own q ≤ own p) → (q : Rec) × Memᴰ q (x ∷ xs) × Fact (φ q) × Least q
    later (q, m, f, l) = cases (φ x and suc (own x) =< own q)
        (λ i. (x, Memᴰ.head refl, i.0, λ p mp fp. below p fp i.1 (Memᴰ.cases_cons mp)))
        (λ n. (q, Memᴰ.tail m, f, λ p mp fp. above p fp n (Memᴰ.cases_cons mp)))
      where
        below : (p : Rec) → Fact (φ p) → suc (own x) ≤ own q → (p ≡ x) ⊎ Memᴰ p xs → own x ≤ own p
        below p fp h (inl i) = rw i (omega arith)
        below p fp h (inr mp) = let k = l p mp fp in omega arith

        above : (p : Rec) → Fact (φ p) → (Fact (φ x and suc (own x) =< own q) → ⊥) → (p ≡ x) ⊎ Memᴰ p xs → own q ≤ own p
        above p fp n (inl i) = cases (own q =< own p) (λ h. h) (λ h. absurd (n (subst (λ y. Fact (φ y)) i fp, rw (← i) (omega arith))))
        above p fp n (inr mp) = l p mp fp

lowest-is : (s : ℕ) (rs : List Rec) → Fact (some rs (is_pending s)) → Memᴰ (lowest s rs) rs × Fact (is_pending s (lowest s rs))
lowest-is s rs w =
    let l = least (is_pending s) rs w in
    let r = sought (λ q. is_pending s q and each rs (λ p. no (is_pending s p) or own q =< own p)) rs (l.0, l.1, (l.2, λ p m. far p l.0 (l.3 p m))) in
    (r.0, r.1.0)
  where
    far : (p q : Rec) → (Fact (is_pending s p) → own q ≤ own p) → (Fact (is_pending s p) → ⊥) ⊎ (own q ≤ own p)
    far p q h = cases (is_pending s p) (λ f. inr (h f)) (λ n. inl n)

count_most : (p : Rec → Bool) (xs : List Rec) → count p xs ≤ length xs
count_most p [] = omega arith
count_most p (x ∷ xs) = let h = count_most p xs in go (p x) h
  where
    go : (b : Bool) → count p xs ≤ length xs → bit b + count p xs ≤ suc (length xs)
    go true h = omega arith
    go false h = omega arith

none_counted : (p : Rec → Bool) (xs : List Rec) → count p xs ≤ 0 → (x : Rec) → Memᴰ x xs → p x ≡ true → ⊥
none_counted p [] h x m e = Memᴰ.not-nil m
none_counted p (y ∷ ys) h x m e = go (Memᴰ.cases_cons m) (λ w. none_counted p ys (omega arith) x w e)
  where
    go : (x ≡ y) ⊎ Memᴰ x ys → (Memᴰ x ys → ⊥) → ⊥
    go (inl i) k = let b = ap bit (ap p (sym i) ∙ e) in omega arith
    go (inr w) k = k w

count_less : (p p' : Rec → Bool) (xs : List Rec) → ((x : Rec) → Memᴰ x xs → p x ≡ true → p' x ≡ true) → (q : Rec) → Memᴰ q xs → p q ≡ false → p' q ≡ true
    → count p xs < count p' xs
count_less p p' [] h q m a b = absurd (Memᴰ.not-nil m)
count_less p p' (x ∷ xs) h q m a b = go (Memᴰ.cases_cons m) (λ w. count_less p p' xs (λ y l. h y (Memᴰ.tail l)) q w a b)
  where
    step : (b c : Bool) → (b ≡ true → c ≡ true) → bit b ≤ bit c
    step true c f = rw (f refl) (omega arith)
    step false c f = omega arith

    at_most : (xs : List Rec) → ((x : Rec) → Memᴰ x xs → p x ≡ true → p' x ≡ true) → count p xs ≤ count p' xs
    at_most [] k = omega arith
    at_most (y ∷ ys) k = let i = at_most ys (λ z l. k z (Memᴰ.tail l)) in let j = step (p y) (p' y) (k y (Memᴰ.head refl)) in omega arith

    go : (q ≡ x) ⊎ Memᴰ q xs → (Memᴰ q xs → count p xs < count p' xs) → count p (x ∷ xs) < count p' (x ∷ xs)
    go (inl i) k =
        let u = ap bit (ap p (sym i) ∙ a) in
        let v = ap bit (ap p' (sym i) ∙ b) in
        let w = at_most xs (λ y l. h y (Memᴰ.tail l)) in
        omega arith
    go (inr w) k = let i = k w in let j = step (p x) (p' x) (h x (Memᴰ.head refl)) in omega arith

-- ---- the stages

-- nothing removed and nothing unlocked
effect_nothing : (rs : List Rec) (x : Rec) → effect no_keys no_keys rs x ≡ x
effect_nothing rs x = effect_none no_keys no_keys rs x off (λ i. contrary (sym i.1)) (λ (k, (p, m, (a, (b, (c, (y, l, w)))))). contrary (sym w.0.1)) unmarked
  where
    off : Fact (goes no_keys rs x) → ⊥
    off g = contrary (sym (named_key no_keys rs x g).named)

    unmarked : Fact (pending_on no_keys x or pending_on no_keys x) → ⊥
    unmarked (inl g) = contrary (sym g.1)
    unmarked (inr g) = contrary (sym g.1)

module _ (rs : List Rec) (F : Facts rs) (whole : Whole rs) (a : ℕ) (oa : Fact (is_open a rs)) where
  real : a ≡ 0 → ⊥
  real z = let s = (seat_of rs F a oa).least in omega arith

  -- an own record: as it was, or a pending that was carried out
  record Gone (D U : Keys) (x y : Rec) : Type 0 where
    free : y ≡ zeros
    pending : kind x ≡ PENDING
    removal : operation x ≡ 50 → D (parent x) ≡ true
    unlocking : operation x ≡ 51 → U (parent x) ≡ true

  record Stage (D U : Keys) (h : Rec → Rec) : Type 0 where
    out : (x : Rec) → Memᴰ x rs → (session x ≡ a → ⊥) → h x ≡ effect D U rs x
    mine : (x : Rec) → Memᴰ x rs → session x ≡ a → (h x ≡ x) ⊎ Gone D U x (h x)
    in_d : (k : ℕ) → D k ≡ true → holds a 50 rs k ≡ true
    in_u : (k : ℕ) → U k ≡ true → holds a 51 rs k ≡ true

  start : Stage no_keys no_keys (λ x. x)
  start = record { out = λ x m n. sym (effect_nothing rs x); mine = λ x m e. inl refl; in_d = λ k e. contrary (sym e); in_u = λ k e. contrary (sym e) }

  module _ (D U : Keys) (h : Rec → Rec) (S : Stage D U h) where
    abbrev rs1 : List Rec
    rs1 = map h rs

    -- another session's record is not a's afterwards
    beyond : (x : Rec) → Memᴰ x rs → (session x ≡ a → ⊥) → session (h x) ≡ a → ⊥
    beyond x m n e = go (effect-session D U rs x)
      where
        go : (session (effect D U rs x) ≡ session x) ⊎ (effect D U rs x ≡ zeros) → ⊥
        go (inl i) = n (sym i ∙ ap session (sym (S.out x m n)) ∙ e)
        go (inr i) = real (sym e ∙ ap session (S.out x m n ∙ i) ∙ four-zeros 8)

    -- an own record that is not free is as it was
    same-own : (x : Rec) → Memᴰ x rs → session (h x) ≡ a → (session x ≡ a) × (h x ≡ x)
    same-own x m e = cases (session x equals a) (λ i. (i, go (S.mine x m i))) (λ n. absurd (beyond x m n e))
      where
        go : (h x ≡ x) ⊎ Gone D U x (h x) → h x ≡ x
        go (inl i) = i
        go (inr g) = absurd (real (sym e ∙ ap session g.free ∙ four-zeros 8))

    key_stays : (x : Rec) → Memᴰ x rs → kind x ≡ KEY → session x ≡ a → h x ≡ x
    key_stays x m k e = go (S.mine x m e)
      where
        go : (h x ≡ x) ⊎ Gone D U x (h x) → h x ≡ x
        go (inl i) = i
        go (inr g) = absurd (let p = g.pending in omega arith)

    keys_to : Fact (has_key a rs1) → Fact (has_key a rs)
    keys_to (y, m, (k, e)) =
        let o = Memᴰ.of_map h rs m in
        let w = same-own o.0 o.1 (ap session o.2 ∙ e) in
        (o.0, o.1, (ap kind (sym w.1 ∙ o.2) ∙ k, w.0))

    keys_from : Fact (has_key a rs) → Fact (has_key a rs1)
    keys_from (x, m, (k, e)) = (x, subst (λ y. Memᴰ y rs1) (key_stays x m k e) (Memᴰ.map h m), (k, e))

    -- ---- no pending is left
    module _ (finished : Fact (some rs1 (is_pending a)) → ⊥) where
      left : (op : ℕ) (K : Keys) → ((x : Rec) → Gone D U x (h x) → operation x ≡ op → K (parent x) ≡ true) → (k : ℕ) → holds a op rs k ≡ true → K k ≡ true
      unfolding holds
      left op K carry k e = let w = (both (some rs (λ q. held a k q and operation q equals op))).0 e in go w.0 w.1 w.2
        where
          go : (q : Rec) → Memᴰ q rs → Fact (held a k q and operation q equals op) → K k ≡ true
          go q m (f, o) = at (S.mine q m f.1.0)
            where
              at : (h q ≡ q) ⊎ Gone D U q (h q) → K k ≡ true
              at (inl i) = absurd (finished (h q, Memᴰ.map h m, subst (λ y. Fact (is_pending a y)) (sym i) (f.0, (f.1.0, f.1.1.0))))
              at (inr g) = ap K (sym f.1.1.1) ∙ carry q g o

      same_keys : (K : Keys) (op : ℕ) → ((k : ℕ) → K k ≡ true → holds a op rs k ≡ true) → ((k : ℕ) → holds a op rs k ≡ true → K k ≡ true) → K ≡ holds a op rs
      same_keys K op f g = λ i k. same_true (K k) (holds a op rs k) (f k) (g k) i

      sealed_all : seal_all a rs1 ≡ map (closing a rs) rs
      sealed_all = map-map (only (bears a) (sealed a rs1)) h rs ∙ map_same (λ x. only (bears a) (sealed a rs1) (h x)) (closing a rs) rs at
        where
          inside : (x : Rec) → session x ≡ a → (h x ≡ x) ⊎ Gone D U x (h x) → only (bears a) (sealed a rs1) (h x) ≡ closing a rs x
          inside x e (inl i) = ap (only (bears a) (sealed a rs1)) i ∙ only_in (bears a) (sealed a rs1) x e ∙ sealed_by a rs1 rs keys_to keys_from x ∙ sym (closing_in a rs x e)
          inside x e (inr g) =
              ap (only (bears a) (sealed a rs1)) g.free ∙ only_out (bears a) (sealed a rs1) zeros (λ i. real (sym i ∙ four-zeros 8))
              ∙ sym (closing_in a rs x e ∙ sealed-is a rs (λ y. y ≡ zeros) x (λ k. refl) (λ k i. absurd (let p = g.pending in omega arith)) (λ k i. refl) (λ i j. absurd (i g.pending)))

          outside : (x : Rec) → Memᴰ x rs → (session x ≡ a → ⊥) → only (bears a) (sealed a rs1) (h x) ≡ closing a rs x
          outside x m n =
              only_out (bears a) (sealed a rs1) (h x) (beyond x m n) ∙ S.out x m n
              ∙ ap₂ (λ (d u : Keys). effect d u rs x) (same_keys D 50 S.in_d (left 50 D (λ y g. g.removal))) (same_keys U 51 S.in_u (left 51 U (λ y g. g.unlocking)))
              ∙ sym (closing_out a rs x n)

          at : (x : Rec) → Memᴰ x rs → only (bears a) (sealed a rs1) (h x) ≡ closing a rs x
          at x m = cases (session x equals a) (λ e. inside x e (S.mine x m e)) (outside x m)

    -- ---- the next pending, q: the keys of d are removed, those of u unlocked
    module _ (q : Rec) (mq : Memᴰ q rs) (pq : Fact (is_pending a q)) (hq : h q ≡ q) (d u : Keys)
        (only-d : (k : ℕ) → d k ≡ true → (k ≡ parent q) × (operation q ≡ 50)) (only-u : (k : ℕ) → u k ≡ true → (k ≡ parent q) × (operation q ≡ 51))
        (has-d : operation q ≡ 50 → d (parent q) ≡ true) (has-u : operation q ≡ 51 → u (parent q) ≡ true) where
      abbrev free : Rec → Rec
      free = only (is PENDING (own q) (session q)) (λ r. zeros)

      abbrev rs2 : List Rec
      rs2 = map free rs1

      abbrev next : Rec → Rec
      next x = effect d u rs2 (free (h x))

      q_held : Fact (held a (parent q) q)
      q_held = (pq.0, (pq.1.0, (pq.1.1, refl)))

      q_holds : (op : ℕ) → operation q ≡ op → holds a op rs (parent q) ≡ true
      unfolding holds
      q_holds op e = (both (some rs (λ z. held a (parent q) z and operation z equals op))).1 (q, mq, (q_held, e))

      real_target : parent q ≡ 0 → ⊥
      real_target z = held_real rs F a (parent q) (q, mq, q_held) z

      -- no other pending of the session is on that key
      clash : (z : Rec) → Memᴰ z rs → kind z ≡ PENDING → session z ≡ a → parent z ≡ parent q → z ≡ q
      clash z m k e p = go (pairs_cases Distinct rs F.distinct z q m mq)
        where
          go : (z ≡ q) ⊎ (Distinct z q ⊎ Distinct q z) → z ≡ q
          go (inl i) = i
          go (inr (inl w)) = absurd (real_target (sym p ∙ w.one_pending k pq.0 (e ∙ sym pq.1.0) p))
          go (inr (inr w)) = absurd (real_target (w.one_pending pq.0 k (pq.1.0 ∙ sym e) (sym p)))

      free_out : (y : Rec) → (session y ≡ a → ⊥) → free y ≡ y
      free_out y n = only_out (is PENDING (own q) (session q)) (λ r. zeros) y (λ p. n (p.1.1 ∙ pq.1.0))

      free_zeros : free zeros ≡ zeros
      free_zeros = free_out zeros (λ e. real (sym e ∙ four-zeros 8))

      free_q : free q ≡ zeros
      free_q = only_in (is PENDING (own q) (session q)) (λ r. zeros) q (pq.0, (refl, refl))

      free_own : (z : Rec) → Memᴰ z rs → (z ≡ q) ⊎ (free z ≡ z)
      free_own z m = cases (is PENDING (own q) (session q) z)
          (λ p. inl (unique rs F z q m mq (rw p.0 (lit≤ tt, lit≤ tt)) (rw pq.0 (lit≤ tt, lit≤ tt)) p.1.0))
          (λ n. inr (only_out (is PENDING (own q) (session q)) (λ r. zeros) z n))

      -- a record after q is freed: what it was
      freed_from : (y : Rec) → Memᴰ y rs2 → (session y ≡ 0 → ⊥) → (x : Rec) × Memᴰ x rs × (y ≡ h x)
      freed_from y m n =
          let o = Memᴰ.of_map free rs1 m in
          let o' = Memᴰ.of_map h rs o.1 in
          (o'.0, o'.1, back o.0 o.2 ∙ sym o'.2)
        where
          back : (w : Rec) → free w ≡ y → y ≡ w
          back w e = only-is (λ v. v ≡ y → y ≡ w) (is PENDING (own q) (session q)) (λ r. zeros) w (λ p i. absurd (n (ap session (sym i) ∙ four-zeros 8))) (λ p i. sym i) e

      homed_next : Homed a rs2
      homed_next y m k e =
          let o = freed_from y m (λ z. real (sym e ∙ z)) in
          let w = same-own o.0 o.1 (ap session (sym o.2) ∙ e) in
          let i = o.2 ∙ w.1 in
          ap session_of (ap own i) ∙ homed rs F a o.0 o.1 (ap kind (sym i) ∙ k) w.0

      off_d : Off a d
      off_d k e i = let w = only-d k e in off_open rs F a oa a 50 (parent q) (q_holds 50 w.1) (ap session_of (sym w.0) ∙ i)

      off_u : Off a u
      off_u k e i = let w = only-u k e in off_open rs F a oa a 51 (parent q) (q_holds 51 w.1) (ap session_of (sym w.0) ∙ i)

      apart : (k : ℕ) → D k ≡ true → u k ≡ true → ⊥
      unfolding holds
      apart k e i =
          let v = only-u k i in
          let w = (both (some rs (λ z. held a k z and operation z equals 50))).0 (S.in_d k e) in
          let f = w.2.0 in
          let c = ap operation (clash w.0 w.1 f.0 f.1.0 (f.1.1.1 ∙ v.0)) in
          let x = w.2.1 in
          let y = v.1 in
          omega arith

      out_next : (x : Rec) → Memᴰ x rs → (session x ≡ a → ⊥) → next x ≡ effect (◌or-else◌ D d) (◌or-else◌ U u) rs x
      out_next x m n = ap (effect d u rs2) (free_out (h x) (beyond x m n) ∙ S.out x m n) ∙ cases (has_handle x) handled
          (λ i. ap (effect d u rs2) (effect_other D U rs x i) ∙ effect_other d u rs2 x i ∙ sym (effect_other (◌or-else◌ D d) (◌or-else◌ U u) rs x i))
        where
          handled : Fact (has_handle x) → effect d u rs2 (effect D U rs x) ≡ effect (◌or-else◌ D d) (◌or-else◌ U u) rs x
          handled i = effect_twice (session x) D U d u rs rs2 apart came went (λ e. real_target (sym (only-d 0 e).0)) (λ e. real_target (sym (only-u 0 e).0)) x refl
              (session-own rs F x m) (λ k. let l = whole x m in omega arith)
            where
              came : (y : Rec) → Memᴰ y rs2 → session y ≡ session x → (z : Rec) × Memᴰ z rs × (session z ≡ session x) × (y ≡ effect D U rs z)
              came y my e =
                  let o = freed_from y my (λ z. borne rs F x m i (sym e ∙ z)) in
                  at o.0 o.1 o.2
                where
                  at : (z : Rec) → Memᴰ z rs → y ≡ h z → (z : Rec) × Memᴰ z rs × (session z ≡ session x) × (y ≡ effect D U rs z)
                  at z mz j = cases (session z equals a) (λ c. absurd (own-one (S.mine z mz c) c)) (λ c. other c (effect-session D U rs z))
                    where
                      own-one : (h z ≡ z) ⊎ Gone D U z (h z) → session z ≡ a → ⊥
                      own-one (inl w) c = n (sym e ∙ ap session (j ∙ w) ∙ c)
                      own-one (inr g) c = borne rs F x m i (sym e ∙ ap session (j ∙ g.free) ∙ four-zeros 8)

                      other : (session z ≡ a → ⊥) → (session (effect D U rs z) ≡ session z) ⊎ (effect D U rs z ≡ zeros)
                          → (z : Rec) × Memᴰ z rs × (session z ≡ session x) × (y ≡ effect D U rs z)
                      other c (inl w) = let v = j ∙ S.out z mz c in (z, mz, sym w ∙ ap session (sym v) ∙ e, v)
                      other c (inr w) = absurd (borne rs F x m i (sym e ∙ ap session (j ∙ S.out z mz c ∙ w) ∙ four-zeros 8))

              went : (z : Rec) → Memᴰ z rs → session z ≡ session x → Memᴰ (effect D U rs z) rs2
              went z mz e =
                  let c : session z ≡ a → ⊥ = λ i. n (sym e ∙ i) in
                  subst (λ y. Memᴰ y rs2) (free_out (h z) (beyond z mz c) ∙ S.out z mz c) (Memᴰ.map free (Memᴰ.map h mz))

      stays_next : (z : Rec) → Memᴰ z rs → session z ≡ a → (z ≡ q → ⊥) → effect d u rs2 z ≡ z
      stays_next z m e n = effect_still a d u rs2 homed_next off_d off_u z e (λ k. homed rs F a z m k e) (λ k. session-own rs F z m k ∙ e)
          (λ k. ((λ i. n (clash z m k e (only-d (parent z) i).0)), λ i. n (clash z m k e (only-u (parent z) i).0)))

      gone_free : (x : Rec) → h x ≡ zeros → next x ≡ zeros
      gone_free x e = ap (λ (y : Rec). effect d u rs2 (free y)) e ∙ ap (effect d u rs2) free_zeros ∙ effect_free d u rs2

      q_gone : next q ≡ zeros
      q_gone = ap (λ (y : Rec). effect d u rs2 (free y)) hq ∙ ap (effect d u rs2) free_q ∙ effect_free d u rs2

      mine_next : (x : Rec) → Memᴰ x rs → session x ≡ a → (next x ≡ x) ⊎ Gone (◌or-else◌ D d) (◌or-else◌ U u) x (next x)
      mine_next x m e = go (S.mine x m e) (free_own x m)
        where
          go : (h x ≡ x) ⊎ Gone D U x (h x) → (x ≡ q) ⊎ (free x ≡ x) → (next x ≡ x) ⊎ Gone (◌or-else◌ D d) (◌or-else◌ U u) x (next x)
          go (inr g) w = inr (record { free = gone_free x g.free; pending = g.pending; removal = λ o. rw (g.removal o); unlocking = λ o. rw (g.unlocking o) })
          go (inl i) (inl j) = inr (record {
            free = ap next j ∙ q_gone;
            pending = ap kind j ∙ pq.0;
            removal = λ o. right_true (D (parent x)) (d (parent x)) (ap d (ap parent j) ∙ has-d (ap operation (sym j) ∙ o));
            unlocking = λ o. right_true (U (parent x)) (u (parent x)) (ap u (ap parent j) ∙ has-u (ap operation (sym j) ∙ o));
          })
          go (inl i) (inr j) = cases (is PENDING (own q) (session q) x)
              (λ p. absurd (let z = ap kind (sym j ∙ only_in (is PENDING (own q) (session q)) (λ r. zeros) x p) ∙ byte-zeros 0 in let k = p.0 in omega arith))
              (λ p. inl (ap (λ (y : Rec). effect d u rs2 (free y)) i ∙ ap (effect d u rs2) j ∙ stays_next x m e (λ c. p (ap kind c ∙ pq.0, (ap own c, ap session c)))))

      staged : Stage (◌or-else◌ D d) (◌or-else◌ U u) next
      staged = record { out = out_next; mine = mine_next; in_d = λ k e. in_d_lem k (either_true (D k) (d k) e); in_u = λ k e. in_u_lem k (either_true (U k) (u k) e) }
        where
          in_d_lem : (k : ℕ) → (D k ≡ true) ⊎ (d k ≡ true) → holds a 50 rs k ≡ true
          in_d_lem k (inl e) = S.in_d k e
          in_d_lem k (inr e) = let w = only-d k e in ap (holds a 50 rs) w.0 ∙ q_holds 50 w.1

          in_u_lem : (k : ℕ) → (U k ≡ true) ⊎ (u k ≡ true) → holds a 51 rs k ≡ true
          in_u_lem k (inl e) = S.in_u k e
          in_u_lem k (inr e) = let w = only-u k e in ap (holds a 51 rs) w.0 ∙ q_holds 51 w.1

      -- one pending fewer
      fewer : count (λ x. test (is_pending a (next x))) rs < count (λ x. test (is_pending a (h x))) rs
      fewer = count_less (λ x. test (is_pending a (next x))) (λ x. test (is_pending a (h x))) rs was q mq
          (ap (λ (y : Rec). test (is_pending a y)) q_gone ∙ fails (is_pending a zeros) (λ p. let z = byte-zeros 0 in let k = p.0 in omega arith))
          (ap (λ (y : Rec). test (is_pending a y)) hq ∙ (both (is_pending a q)).1 pq)
        where
          was : (x : Rec) → Memᴰ x rs → test (is_pending a (next x)) ≡ true → test (is_pending a (h x)) ≡ true
          was x m e = (both (is_pending a (h x))).1 (cases (session x equals a) (λ i. own-one i (S.mine x m i) (mine_next x m i))
              (λ n. absurd (other n (effect-session (◌or-else◌ D d) (◌or-else◌ U u) rs x))))
            where
              p : Fact (is_pending a (next x))
              p = (both (is_pending a (next x))).0 e

              not_free : next x ≡ zeros → ⊥
              not_free z = let i = ap kind z ∙ byte-zeros 0 in let k = p.0 in omega arith

              own-one : session x ≡ a → (h x ≡ x) ⊎ Gone D U x (h x) → (next x ≡ x) ⊎ Gone (◌or-else◌ D d) (◌or-else◌ U u) x (next x) → Fact (is_pending a (h x))
              own-one i (inl w) (inl v) = subst (λ y. Fact (is_pending a y)) (v ∙ sym w) p
              own-one i (inl w) (inr g) = absurd (not_free g.free)
              own-one i (inr g) v = absurd (not_free (gone_free x g.free))

              other : (session x ≡ a → ⊥) → (session (effect (◌or-else◌ D d) (◌or-else◌ U u) rs x) ≡ session x) ⊎ (effect (◌or-else◌ D d) (◌or-else◌ U u) rs x ≡ zeros) → ⊥
              other n (inl w) = n (sym w ∙ ap session (sym (out_next x m n)) ∙ p.1.0)
              other n (inr w) = not_free (out_next x m n ∙ w)

  -- ---- all of them

  abbrev Onward : ℕ → Type 0
  Onward n = (D U : Keys) (h : Rec → Rec) → Stage D U h → count (λ x. test (is_pending a (h x))) rs ≤ n → seal_all a (carry_out n a (map h rs)) ≡ map (closing a rs) rs

  carry_next : (n : ℕ) (D U : Keys) (h : Rec → Rec) (S : Stage D U h) → count (λ x. test (is_pending a (h x))) rs ≤ suc n
      → (q : Rec) → Memᴰ q rs → Fact (is_pending a q) → h q ≡ q → Onward n → seal_all a (carry_out n a (carried q (map h rs))) ≡ map (closing a rs) rs
  carry_next n D U h S l q mq pq hq onward = go (two_ways rs F whole q mq pq.0)
    where
      left : List Rec
      left = freed q (map h rs)

      -- what q asks for, as keys removed and keys unlocked
      by : (d u : Keys) → ((k : ℕ) → d k ≡ true → (k ≡ parent q) × (operation q ≡ 50)) → ((k : ℕ) → u k ≡ true → (k ≡ parent q) × (operation q ≡ 51))
          → (operation q ≡ 50 → d (parent q) ≡ true) → (operation q ≡ 51 → u (parent q) ≡ true)
          → cond (eqb (operation q) 50) (effect (one (parent q)) no_keys left) (effect no_keys (one (parent q)) left) ≡ effect d u left
          → seal_all a (carry_out n a (carried q (map h rs))) ≡ map (closing a rs) rs
      by d u on-d on-u has-d has-u e =
          ap (λ (l : List Rec). seal_all a (carry_out n a l)) same_list
          ∙ onward (◌or-else◌ D d) (◌or-else◌ U u) (next D U h S q mq pq hq d u on-d on-u has-d has-u) (staged D U h S q mq pq hq d u on-d on-u has-d has-u)
          (let w = fewer D U h S q mq pq hq d u on-d on-u has-d has-u in omega arith)
        where
          free' : Rec → Rec
          free' = only (is PENDING (own q) (session q)) (λ r. zeros)

          same_list : carried q (map h rs) ≡ map (next D U h S q mq pq hq d u on-d on-u has-d has-u) rs
          same_list = ap (λ (f : Rec → Rec). map f left) e ∙ map-map (effect d u left) free' (map h rs) ∙ map-map (λ x. effect d u left (free' x)) h rs

      go : (operation q ≡ 50) ⊎ (operation q ≡ 51) → seal_all a (carry_out n a (carried q (map h rs))) ≡ map (closing a rs) rs
      go (inl o) = by (one (parent q)) no_keys (λ k e. (eqb-true k (parent q) e, o)) (λ k e. contrary (sym e)) (λ i. eq-eqb (parent q) (parent q) refl) (λ i. absurd (omega arith)) (rw o)
      go (inr o) = by no_keys (one (parent q)) (λ k e. contrary (sym e)) (λ k e. (eqb-true k (parent q) e, o)) (λ i. absurd (omega arith)) (λ i. eq-eqb (parent q) (parent q) refl) (rw o)

  carry : (n : ℕ) → Onward n
  unfolding carry_out
  carry zero D U h S l = sealed_all D U h S (λ (y, m, p). let o = Memᴰ.of_map h rs m in
      none_counted (λ x. test (is_pending a (h x))) rs l o.0 o.1 ((both (is_pending a (h o.0))).1 (subst (λ z. Fact (is_pending a z)) (sym o.2) p)))
  carry (suc n) D U h S l =
      choose (λ (rs' : List Rec). seal_all a rs' ≡ map (closing a rs) rs) (some (map h rs) (is_pending a)) (carry_out n a (carried (lowest a (map h rs)) (map h rs))) (map h rs)
      (λ w. go w (λ D' U' h' S' l'. carry n D' U' h' S' l')) (λ n. sealed_all D U h S n)
    where
      go : Fact (some (map h rs) (is_pending a)) → Onward n → seal_all a (carry_out n a (carried (lowest a (map h rs)) (map h rs))) ≡ map (closing a rs) rs
      go w onward =
          let q = lowest-is a (map h rs) w in
          let o = Memᴰ.of_map h rs q.0 in
          let p = subst (λ y. Fact (is_pending a y)) (sym o.2) q.1 in
          let v = same-own D U h S o.0 o.1 p.1.0 in
          ap (λ (r : Rec). seal_all a (carry_out n a (carried r (map h rs)))) (sym o.2 ∙ v.1)
          ∙ carry_next n D U h S l o.0 o.1 (subst (λ y. Fact (is_pending a y)) v.1 p) v.1 onward

map_self : (rs : List Rec) → map (λ x. x) rs ≡ rs
map_self [] = refl
map_self (x ∷ rs) = ap (λ (l : List Rec). x ∷ l) (map_self rs)

pub literally : Literally
unfolding closed_literally
literally s a e o = sym (ap (λ (l : List Rec). seal_all a (carry_out (length rs) a l)) (sym (map_self rs))
    ∙ carry rs F (whole_records s) a o (length rs) no_keys no_keys (λ x. x) (start rs F (whole_records s) a o) (count_most (λ x. test (is_pending a x)) rs))
  where
    rs : List Rec
    rs = records s

    F : Facts rs
    F = facts_of s e
