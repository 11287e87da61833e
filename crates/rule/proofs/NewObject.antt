-- A new object in an open session: the session's numbers go on, and the object takes the lowest free place. The store stays sound.
use mathlib.Core.Path.{◌≡◌, refl, sym, ap, ◌∙◌, subst}
use mathlib.Core.List.Memᴰ
use mathlib.Core.List.{List, map, Memᴰ}
use Prim.Native.Nat.{ℕ, suc, ◌+◌, ◌%◌, ◌≤◌}
use native.Mathlib.Omega.{arith}
use lib.Dec.{lit≤}
use Rattle.paper.specs.Limits.{most_objects, handle_step, pin_width, id_width}
use Rattle.paper.specs.Bytes.{part}
use Rattle.paper.specs.Form.{Rec, ◌equals◌, Fact, only}
use Rattle.paper.specs.Records.{kind, SESSION, PUK, POLICY, KEY, PENDING, OPEN, CLOSED, own, session, parent, session_of, is, bears, state, next_object, mac_counter, key_limit, retry_limit, key_errors, key_management, grouping, delete_protection, operation, insert}
use Rattle.paper.specs.Sound.{is_object, has_handle, has_id, is_in, governs, puk_there, policy_there, target_there}
use Rattle.paper.specs.Act.{moved, advance}
use Rattle.paper.proofs.Forms.{cases}
use Rattle.laws.proofs.Choice.{only-is}
use Rattle.laws.proofs.Edits.{moved_same, moved_next}
use Rattle.laws.proofs.Lists.{map_all}
use Rattle.laws.proofs.Facts.{Alone, Facts}
use Rattle.rule.proofs.Kin.{Kin, kin_same}
use Rattle.rule.proofs.RecordEdits.{long, next_range, kin_moved}
use Rattle.rule.proofs.OwnEdits.{advance-is, advance_kept}
use Rattle.rule.proofs.StoreEntry.{entered}

-- what the refusals leave, of the store before the call
pub record Sprout (s N : ℕ) (n : Rec) (rs : List Rec) : Type 0 where
  pub object : Fact (is_object n)
  pub own= : own n ≡ s + N
  pub session= : session n ≡ s
  pub alone : Alone n
  pub named : (x : Rec) → Memᴰ x rs → Fact (has_id x) → kind n ≤ KEY → session x ≡ s → part 16 id_width x ≡ part 16 id_width n → ⊥
  pub held : (x : Rec) → Memᴰ x rs → kind x ≡ PENDING → kind n ≡ PENDING → session x ≡ s → parent x ≡ parent n → parent n ≡ 0
  pub puk : Fact (puk_there rs n)
  pub policy : Fact (policy_there rs n)
  pub target : Fact (target_there rs n)
  pub under : (x : Rec) → Memᴰ x rs → Fact (governs x n) → (key_errors n ≤ retry_limit x) × (delete_protection n ≡ 2 → parent x ≡ 0 → ⊥)
  pub alike : (p y : Rec) → Memᴰ p rs → Memᴰ y rs → grouping p ≡ 1 → Fact (governs p n) → Fact (governs p y) → part 49 pin_width n ≡ part 49 pin_width y
  pub pinned : (x : Rec) → Memᴰ x rs → kind x ≡ KEY → kind n ≡ PENDING → parent n ≡ own x → operation n ≡ 51 → parent x ≡ 0 → ⊥
  pub managed : (x : Rec) → Memᴰ x rs → kind x ≡ SESSION → kind n ≡ PENDING → (parent n ≡ 0 → ⊥) → own x ≡ session_of (parent n)
      → (state x ≡ CLOSED) × (key_management x ≡ 1)

-- the session: open, its next number N, with room for one object and for the uses of the MAC counter
pub record Ready (s N used : ℕ) (rs : List Rec) : Type 0 where
  pub here : Fact (is_in rs SESSION s s)
  pub this : (x : Rec) → Memᴰ x rs → kind x ≡ SESSION → own x ≡ s
      → (state x ≡ OPEN) × (next_object x ≡ N) × (N ≤ most_objects) × (mac_counter x + used ≤ key_limit x)

module _ (s N used : ℕ) (rs : List Rec) (F : Facts rs) (R : Ready s N used rs) where
  abbrev f : Rec → Rec
  f = only (bears s) (advance s 1 used)

  abbrev rs1 : List Rec
  rs1 = map f rs

  is-moved : (P : Rec → Type 0) (x : Rec) → (kind x ≡ SESSION → own x ≡ s → P (moved 1 used x))
      → ((kind x ≡ SESSION → own x ≡ s → session x ≡ s → ⊥) → P x) → P (f x)
  is-moved P x a b =
      subst P (sym (advance-is s 1 used x)) (only-is P (is SESSION s s) (moved 1 used) x (λ h. a h.0 h.1.0) (λ n. b (λ k e t. n (k, (e, t)))))

  room : (x : Rec) → Memᴰ x rs → kind x ≡ SESSION → own x ≡ s → (next_object x + 1 ≤ suc most_objects) × (mac_counter x + used ≤ key_limit x)
  room x i k e = let r = R.this x i k e in let a = r.1 in let b = r.2 in (omega arith, r.3)

  kin : (x : Rec) → Memᴰ x rs → Kin x (f x)
  kin x i = is-moved (Kin x) x (λ k e. let g = room x i k e in kin_moved x (F.alone x i) 1 used k g.0 g.1) (λ n. kin_same x x refl)

  F1 : Facts rs1
  F1 = advance_kept s 1 used rs F room

  -- all but sessions are the same
  other : (x : Rec) → (kind x ≡ SESSION → ⊥) → f x ≡ x
  other x n = is-moved (λ y. y ≡ x) x (λ k e. absurd (n k)) (λ q. refl)

  into : (x : Rec) → Memᴰ x rs → (kind x ≡ SESSION → ⊥) → Memᴰ x rs1
  into x i n = subst (λ y. Memᴰ y rs1) (other x n) (Memᴰ.map f i)

  back : (y : Rec) → Memᴰ y rs1 → (kind y ≡ SESSION → ⊥) → Memᴰ y rs
  back y i n =
      let w = Memᴰ.of_map f rs i in
      let K = kin w.0 w.1 in
      subst (λ z. Memᴰ z rs) (sym (other w.0 (λ k. n (sym (ap kind w.2) ∙ K.kind= ∙ k))) ∙ w.2) w.1

  there1 : (k o t : ℕ) → Fact (is_in rs k o t) → (k ≡ SESSION → ⊥) → Fact (is_in rs1 k o t)
  there1 k o t w n = (w.0, into w.0 w.1 (λ j. n (sym w.2.0 ∙ j)), w.2)

  even : s % handle_step ≡ 0
  even = let w = R.here in let l = ((F.alone w.0 w.1).session_carries w.2.0).1.1 in let e = w.2.1.0 in rw (← e) l

  pub numbered : (1 ≤ N) × (N ≤ most_objects)
  numbered =
      let w = R.here in
      let r = R.this w.0 w.1 w.2.0 w.2.1.0 in
      let l = next_range w.0 (F.alone w.0 w.1) w.2.0 in
      let a = r.1 in
      (omega arith, r.2)

  -- no record has the next handle
  new : (x : Rec) → Memᴰ x rs → Fact (has_handle x) → own x ≡ s + N → ⊥
  new x i h e = cases (kind x equals SESSION)
      (λ k.
      let l = ((F.alone x i).session_carries k).1.1 in
      let v = even in
      let q = numbered in
      omega arith)
      (λ n.
      let o = (F.alone x i).object_carries (omega arith, h.1) in
      let w = (F.housed x i).session_there (omega arith, h.1) in
      let l = ((F.alone w.0 w.1).session_carries w.2.0).1.1 in
      let we = w.2.1.0 in
      let v = even in
      let q = numbered in
      cases (session x equals s)
      (λ t.
      let g = (F.related w.0 w.1 x i).below_next w.2.0 (omega arith, h.1) (sym w.2.1.0) in
      let r = R.this w.0 w.1 w.2.0 (w.2.1.0 ∙ t) in
      let c = r.1 in
      omega arith)
      (λ t. t (omega arith)))

  inside_open : (n : Rec) → Sprout s N n rs → (x : Rec) → Memᴰ x rs → kind (f x) ≡ SESSION → session n ≡ own (f x)
      → (state (f x) ≡ OPEN) × (suc (own n) ≤ own (f x) + next_object (f x))
  inside_open n S x i k e =
      let K = kin x i in
      let k1 = K.kind= in
      let o1 = K.own= (omega arith) in
      let q = S.own= in
      let t = S.session= in
      let r = R.this x i (omega arith) (omega arith) in
      let r1 = r.1 in
      let c = ((F.alone x i).session_carries (omega arith)).0 in
      is-moved (λ y. own y ≡ own x → (state y ≡ OPEN) × (suc (own n) ≤ own y + next_object y)) x
      (λ j h p.
      let m = moved_next 1 used x (rw (long x (F.alone x i)) (lit≤ tt)) (let z = r.2 in omega arith) in
      ((moved_same 1 used x).at 1 refl ∙ r.0, omega arith))
      (λ z p. absurd (z (omega arith) (omega arith) (omega arith))) o1

  pub sprouted : (n : Rec) → Sprout s N n rs → Facts (insert n (map (only (bears s) (advance s 1 used)) rs))
  sprouted n S =
      entered n rs1 F1
      (record {
        sort = let o = S.object in (omega arith, omega arith);
        alone = S.alone;
        fresh = map_all (λ x. Fact (has_handle x) → own x ≡ own n → ⊥) f rs (λ x i h e.
            let K = kin x i in
            let k = K.kind= in
            let o = K.own= (omega arith) in
            let q = S.own= in
            new x i (omega arith, omega arith) (omega arith));
        named = λ x i a b e. S.named x (back x i (λ k. omega arith)) a b.1 (e ∙ S.session=);
        client = λ x i k j. let o = S.object in absurd (omega arith);
        held = λ x i a b e. S.held x (back x i (λ k. omega arith)) a b (e ∙ S.session=);
        young = λ k. let o = S.object in absurd (omega arith);
        counted = λ x i a k. let o = S.object in absurd (omega arith);
        inside =
            map_all (λ x. kind x ≡ SESSION → Fact (is_object n) → session n ≡ own x → (state x ≡ OPEN) × (suc (own n) ≤ own x + next_object x)) f rs
            (λ x i k o e. inside_open n S x i k e);
        home = λ o. rw S.session= (
            let w = R.here in
            let K = kin w.0 w.1 in
            let k = w.2.0 in
            (f w.0, Memᴰ.map f w.1, (K.kind= ∙ k, (K.own= (omega arith) ∙ w.2.1.0, K.session= ∙ w.2.1.1))));
        puk = λ a z. there1 PUK (parent n) (session n) (S.puk a z) (λ j. omega arith);
        policy = λ a z. there1 POLICY (parent n) (session n) (S.policy a z) (λ j. omega arith);
        target = λ a z. there1 KEY (parent n) (session_of (parent n)) (S.target a z) (λ j. omega arith);
        under = λ x i g. let k = g.0 in S.under x (back x i (λ j. omega arith)) g;
        alike = λ p y ip iy g gn gy.
            let k = gn.0 in
            let j = gy.1.0 in
            S.alike p y (back p ip (λ q. omega arith)) (back y iy (λ q. omega arith)) g gn gy;
        pinned = λ x i a b e t z. S.pinned x (back x i (λ k. omega arith)) a b e t z;
        managed =
            map_all
            (λ x. kind x ≡ SESSION → kind n ≡ PENDING → (parent n ≡ 0 → ⊥) → own x ≡ session_of (parent n) → (state x ≡ CLOSED) × (key_management x ≡ 1)) f rs
            (λ x i k j z e.
            let K = kin x i in
            let k1 = K.kind= in
            let g = S.managed x i (omega arith) j z (sym (K.own= (omega arith)) ∙ e) in
            (K.stays_closed (omega arith) g.0, K.managed= (omega arith) ∙ g.1));
      })
