-- A session sealed at its close: its pendings freed, its record closed, or freed where it has no key. The store stays sound.
use mathlib.Core.Path.{◌≡◌, refl, sym, ap, ◌∙◌}
use mathlib.Core.List.{List, map, Memᴰ}
use mathlib.Core.Logic.{◌⊎◌, inl, inr}
use Prim.Native.Nat.{ℕ, zero, suc, ◌+◌, ◌≤◌}
use native.Mathlib.Omega.{arith}
use Rattle.paper.specs.Form.{Rec, Fact, only}
use Rattle.paper.specs.Records.{kind, SESSION, PUK, POLICY, KEY, PENDING, COUNTER, CLOSED, own, session, bears, state, mac_counter, key_limit, path_set, zeros}
use Rattle.paper.specs.Sound.{is_object, child}
use Rattle.paper.specs.Closing.{shut, has_key, sealed}
use Rattle.laws.proofs.Choice.{only-is}
use Rattle.laws.proofs.Inserting.{byte-zeros}
use Rattle.laws.proofs.Facts.{Alone, Facts}
use Rattle.rule.proofs.ClosedRecord.{sealed-is}
use Rattle.rule.proofs.Kin.{Kin, kin_same}
use Rattle.rule.proofs.StoreEdits.{edited}
use Rattle.rule.proofs.Alone.{alone-zeros}
use Rattle.rule.proofs.RecordEdits.{kin_shut, alone-shut}

-- what the refusals 17 and 6 leave
pub record Fit (s : ℕ) (rs : List Rec) : Type 0 where
  pub counts : (x : Rec) → Memᴰ x rs → kind x ≡ SESSION → own x ≡ s → mac_counter x + 2 ≤ key_limit x
  pub paths : (y : Rec) → Memᴰ y rs → kind y ≡ KEY → session y ≡ s → path_set y ≡ 1
  pub puks : (y : Rec) → Memᴰ y rs → kind y ≡ PUK → session y ≡ s → Fact (child rs POLICY y)
  pub policies : (y : Rec) → Memᴰ y rs → kind y ≡ POLICY → session y ≡ s → Fact (child rs KEY y)

-- what the seal makes of a record of the session
abbrev pub seal : ℕ → List Rec → Rec → Rec
seal s rs = only (bears s) (sealed s rs)

module _ (s : ℕ) (rs : List Rec) (F : Facts rs) (G : Fit s rs) where
  abbrev f : Rec → Rec
  f = seal s rs

  is : (P : Rec → Type 0) (x : Rec) → (session x ≡ s → kind x ≡ PENDING → P zeros) → (session x ≡ s → kind x ≡ SESSION → Fact (has_key s rs) → P (shut x))
      → (session x ≡ s → kind x ≡ SESSION → (Fact (has_key s rs) → ⊥) → P zeros)
      → ((session x ≡ s → kind x ≡ SESSION → ⊥) → (session x ≡ s → kind x ≡ PENDING → ⊥) → P x) → P (f x)
  is P x a b c d =
      only-is P (bears s) (sealed s rs) x (λ e. sealed-is s rs P x (a e) (b e) (c e) (λ m n. d (λ q. n) (λ q. m))) (λ n. d (λ e k. n e) (λ e k. n e))

  -- all but the session's own record and its pendings
  same : (x : Rec) → (kind x ≡ SESSION → ⊥) → (kind x ≡ PENDING → ⊥) → f x ≡ x
  same x a b = is (λ y. y ≡ x) x (λ e k. absurd (b k)) (λ e k h. absurd (a k)) (λ e k h. absurd (a k)) (λ n m. refl)

  away : (x : Rec) → (session x ≡ s → ⊥) → f x ≡ x
  away x n = is (λ y. y ≡ x) x (λ e k. absurd (n e)) (λ e k h. absurd (n e)) (λ e k h. absurd (n e)) (λ p q. refl)

  lives : (k : ℕ) (x : Rec) → kind x ≡ k → (k ≡ SESSION → ⊥) → (k ≡ PENDING → ⊥) → Kin x (f x)
  lives k x e a b = kin_same x (f x) (same x (λ j. a (sym e ∙ j)) (λ j. b (sym e ∙ j)))

  foreign : (y : Rec) → kind y ≡ PENDING → Kin y (f y) → (session y ≡ s → ⊥) × (f y ≡ y)
  foreign y k =
      is (λ z. Kin y z → (session y ≡ s → ⊥) × (z ≡ y)) y (λ e j K. let a = K.kind= in let b = byte-zeros 0 in absurd (omega arith))
      (λ e j h K. absurd (omega arith))
      (λ e j h K. absurd (omega arith)) (λ n m K. ((λ e. m e k), refl))

  -- the session keeps a key where any record of it stays
  key_of_policy : (y : Rec) → Memᴰ y rs → kind y ≡ POLICY → session y ≡ s → Fact (has_key s rs)
  key_of_policy y m k e = let w = G.policies y m k e in (w.0, w.1, (w.2.0, w.2.1.1 ∙ e))

  key_of : (y : Rec) → Memᴰ y rs → Fact (is_object y) → (kind y ≡ PENDING → ⊥) → session y ≡ s → Fact (has_key s rs)
  key_of y m o n e = go (kind y) refl
    where
      go : (j : ℕ) → kind y ≡ j → Fact (has_key s rs)
      go zero i = absurd (omega arith)
      go (suc zero) i = absurd (omega arith)
      go (suc (suc zero)) i = let w = G.puks y m i e in key_of_policy w.0 w.1 w.2.0 (w.2.1.1 ∙ e)
      go (suc (suc (suc zero))) i = key_of_policy y m i e
      go (suc (suc (suc (suc zero)))) i = (y, m, (i, e))
      go (suc (suc (suc (suc (suc zero))))) i = absurd (n i)
      go (suc (suc (suc (suc (suc (suc j)))))) i = absurd (omega arith)

  session_lives : (x : Rec) → Memᴰ x rs → kind x ≡ SESSION → (session x ≡ s → Fact (has_key s rs)) → Kin x (f x)
  session_lives x m k h =
      is (Kin x) x (λ e j. absurd (omega arith)) (λ e j q. kin_shut x (F.alone x m) k) (λ e j q. absurd (q (h e))) (λ n p. kin_same x x refl)

  -- closed afterwards: it was, or it is this session and has a key
  abbrev Closed : Rec → Type 0
  Closed x = (state x ≡ CLOSED) ⊎ ((own x ≡ s) × Fact (has_key s rs))

  closed : (x : Rec) → Memᴰ x rs → kind x ≡ SESSION → Kin x (f x) → state (f x) ≡ CLOSED → Closed x
  closed x m k =
      is (λ y. Kin x y → state y ≡ CLOSED → Closed x) x (λ e j. absurd (omega arith)) (λ e j h K t. inr (((F.alone x m).session_carries k).0 ∙ e, h))
      (λ e j h K. let a = K.kind= in let b = byte-zeros 0 in absurd (omega arith)) (λ n p K t. inl t)

  path : (x y : Rec) → Memᴰ x rs → Memᴰ y rs → kind x ≡ SESSION → kind y ≡ KEY → session y ≡ own x → Closed x → path_set y ≡ 1
  path x y mx my a b e (inl t) = (F.related x mx y my).paths_set (a, t) b e
  path x y mx my a b e (inr w) = G.paths y my b (e ∙ w.0)

  key_in : (x : Rec) → Memᴰ x rs → kind x ≡ SESSION → Closed x → Fact (has_key (own x) rs)
  key_in x mx a (inl t) = (F.housed x mx).key_there (a, t)
  key_in x mx a (inr v) = let w = v.1 in (w.0, w.1, (w.2.0, w.2.1 ∙ sym v.0))

  policy_under : (x y : Rec) → Memᴰ x rs → Memᴰ y rs → kind x ≡ SESSION → kind y ≡ PUK → session y ≡ own x → Closed x → Fact (child rs POLICY y)
  policy_under x y mx my a b e (inl t) = (F.used x mx y my).puk (a, t) e b
  policy_under x y mx my a b e (inr v) = G.puks y my b (e ∙ v.0)

  key_under : (x y : Rec) → Memᴰ x rs → Memᴰ y rs → kind x ≡ SESSION → kind y ≡ POLICY → session y ≡ own x → Closed x → Fact (child rs KEY y)
  key_under x y mx my a b e (inl t) = (F.used x mx y my).policy (a, t) e b
  key_under x y mx my a b e (inr v) = G.policies y my b (e ∙ v.0)

  pub sealed_kept : Facts (map (seal s rs) rs)
  sealed_kept =
      edited f rs F
      (record {
        fate = λ x m.
            is (λ y. (y ≡ zeros) ⊎ Kin x y) x (λ e k. inl refl) (λ e k h. inr (kin_shut x (F.alone x m) k)) (λ e k h. inl refl)
            (λ n p. inr (kin_same x x refl));
        alone = λ x m.
            is Alone x (λ e k. alone-zeros) (λ e k h. alone-shut x (F.alone x m) k (G.counts x m k (((F.alone x m).session_carries k).0 ∙ e)))
            (λ e k h. alone-zeros)
            (λ n p. F.alone x m);
        counter = λ x m k. lives COUNTER x k (λ j. omega arith) (λ j. omega arith);
        counts = λ x y mx my g. let k = g.1.0 in rw (same y (λ j. omega arith) (λ j. omega arith)) ((F.related x mx y my).key_counts g);
        pins = λ p x y mp mx my g gx X gy Y.
            let a = gx.1.0 in
            let b = gy.1.0 in
            rw (same x (λ j. omega arith) (λ j. omega arith), same y (λ j. omega arith) (λ j. omega arith)) (F.shares p mp x mx y my gx.0 g gx gy);
        paths = λ x y mx my a t b e X Y. ap path_set (same y (λ j. omega arith) (λ j. omega arith)) ∙ path x y mx my a b e (closed x mx a X t);
        opens = λ x y mx my a b e X Y.
            let w = foreign y b Y in
            let l = ((F.alone x mx).session_carries a).0 in
            ap state (away x (λ q. w.0 (omega arith))) ∙ (F.related x mx y my).pending_open a b e;
        home = λ x y mx my a b e Y.
            session_lives x mx a
            (λ q. let l = ((F.alone x mx).session_carries a).0 in key_of y my b (λ j. (foreign y j Y).0 (omega arith)) (omega arith));
        puk = λ x y mx my a b e t Y. lives PUK x a (λ j. omega arith) (λ j. omega arith);
        policy = λ x y mx my a b e t Y. lives POLICY x a (λ j. omega arith) (λ j. omega arith);
        key = λ x y mx my a b e n Y. lives KEY x a (λ j. omega arith) (λ j. omega arith);
        has_key = λ x mx a t X.
            let w = key_in x mx a (closed x mx a X t) in
            (w.0, w.1, w.2.0, w.2.1, lives KEY w.0 w.2.0 (λ j. omega arith) (λ j. omega arith));
        has_policy = λ x y mx my a t X b e Y.
            let w = policy_under x y mx my a b e (closed x mx a X t) in
            (w.0, w.1, w.2.0, w.2.1.0, w.2.1.1, lives POLICY w.0 w.2.0 (λ j. omega arith) (λ j. omega arith));
        has_child = λ x y mx my a t X b e Y.
            let w = key_under x y mx my a b e (closed x mx a X t) in
            (w.0, w.1, w.2.0, w.2.1.0, w.2.1.1, lives KEY w.0 w.2.0 (λ j. omega arith) (λ j. omega arith));
      })
