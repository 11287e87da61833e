-- Keys removed and unlocked: the store stays sound. Closes, 80 and 82 are instances.
use mathlib.Core.Path.{◌≡◌, refl, sym, ap, ◌∙◌}
use mathlib.Core.Bool.{true}
use mathlib.Core.List.{List, map, Memᴰ}
use mathlib.Core.Logic.{◌⊎◌, inl, inr}
use Prim.Native.Nat.{ℕ, zero, suc, ◌≤◌}
use native.Mathlib.Omega.{arith}
use lib.Dec.{lit≤}
use Rattle.paper.specs.Limits.{pin_width}
use Rattle.paper.specs.Bytes.{part}
use Rattle.paper.specs.Form.{Rec, Fact}
use Rattle.paper.specs.Records.{kind, SESSION, PUK, POLICY, KEY, PENDING, own, session, parent, state, key_errors, retry_limit, path_set, zeros}
use Rattle.paper.specs.Sound.{is_object}
use Rattle.paper.specs.Pin.{clear}
use Rattle.paper.specs.Closing.{Keys, lost, key_goes, policy_goes, puk_goes, goes, pending_on, stale, effect}
use Rattle.paper.proofs.Forms.{cases}
use Rattle.laws.proofs.Places.{part_kept, from}
use Rattle.laws.proofs.Inserting.{byte-zeros}
use Rattle.laws.proofs.Edits.{clear-same, clear_zero, stale-parent}
use Rattle.laws.proofs.Losses.{remains, all_lost, keys_under, policies_under, keys_in, goes_key, goes_policy, goes_puk, goes_session, goes_among, going, a_key, a_policy, a_puk, a_session, effect_is}
use Rattle.laws.proofs.Facts.{Alone, Facts}
use Rattle.rule.proofs.Kin.{Kin, kin_same}
use Rattle.rule.proofs.StoreEdits.{Edit, edited}
use Rattle.rule.proofs.Alone.{alone-zeros}
use Rattle.rule.proofs.RecordEdits.{long, kin_count, alone-count, kin_puk_count, alone_puk_count, kin_stale, alone-stale}

module _ (d u : Keys) (rs : List Rec) (F : Facts rs) where
  abbrev f : Rec → Rec
  f = effect d u rs

  abbrev Goes : Rec → Type 0
  Goes x = Fact (goes d rs x)

  kind_pending : (x : Rec) → Fact (pending_on d x) ⊎ Fact (pending_on u x) → kind x ≡ PENDING
  kind_pending x (inl w) = w.0
  kind_pending x (inr w) = w.0

  -- the edits, by kind
  by_kind : (P : Rec → Type 0) (x : Rec) → (Goes x → P zeros) → ((Goes x → ⊥) → P x) → ((Goes x → ⊥) → kind x ≡ PUK → P (clear 3 x))
      → ((Goes x → ⊥) → kind x ≡ KEY → P (clear 2 x)) → ((Goes x → ⊥) → kind x ≡ PENDING → P (stale x)) → P (f x)
  by_kind P x gone none puk key pending =
      effect_is d u rs P x gone (λ g w. key g w.0) (λ g w. puk g w.0) (λ g w. pending g (kind_pending x w)) (λ g a b c. none g)

  kin_clear_puk : (x : Rec) → Memᴰ x rs → kind x ≡ PUK → Kin x (clear 3 x)
  kin_clear_puk x m k = kin_puk_count x (F.alone x m) (clear 3 x) (clear-same 3 x) k

  kin_clear_key : (x : Rec) → Memᴰ x rs → kind x ≡ KEY → Kin x (clear 2 x)
  kin_clear_key x m k = kin_count x (F.alone x m) (clear 2 x) (clear-same 2 x) k

  cleared : (x : Rec) → Memᴰ x rs → key_errors (clear 2 x) ≡ 0
  cleared x m = clear_zero 2 x (rw (long x (F.alone x m)) (lit≤ tt))

  -- who does not go lives, and who lives does not go
  lives : (x : Rec) → Memᴰ x rs → (Goes x → ⊥) → Kin x (f x)
  lives x m n =
      by_kind (Kin x) x (λ g. absurd (n g)) (λ h. kin_same x x refl) (λ h k. kin_clear_puk x m k) (λ h k. kin_clear_key x m k)
      (λ h k. kin_stale x (F.alone x m) k)

  stays : (x : Rec) → 1 ≤ kind x → Kin x (f x) → Goes x → ⊥
  stays x k =
      by_kind (λ y. Kin x y → Goes x → ⊥) x (λ g K h. let a = K.kind= in let b = byte-zeros 0 in omega arith) (λ n K. n) (λ n j K. n) (λ n j K. n)
      (λ n j K. n)

  pub effect-fate : (x : Rec) → Memᴰ x rs → (f x ≡ zeros) ⊎ Kin x (f x)
  effect-fate x m = cases (goes d rs x) (λ g. inl (by_kind (λ y. y ≡ zeros) x (λ h. refl) (λ n. absurd (n g)) (λ n k. absurd (n g)) (λ n k. absurd (n g)) (λ n k. absurd (n g)))) (λ n. inr (lives x m n))

  -- what stays of who lives: a session's state, a key's path and PIN
  state= : (x : Rec) → kind x ≡ SESSION → Kin x (f x) → state (f x) ≡ state x
  state= x k =
      by_kind (λ y. Kin x y → state y ≡ state x) x (λ g K. absurd (dead K)) (λ n K. refl) (λ n j. absurd (omega arith)) (λ n j. absurd (omega arith))
      (λ n j. absurd (omega arith))
    where
      dead : Kin x zeros → ⊥
      dead K = let a = K.kind= in let b = byte-zeros 0 in omega arith

  key_is : (P : Rec → Type 0) (x : Rec) → kind x ≡ KEY → Kin x (f x) → P x → P (clear 2 x) → P (f x)
  key_is P x k K a b =
      by_kind P x (λ g. absurd (stays x (omega arith) K g)) (λ n. a) (λ n j. absurd (omega arith)) (λ n j. b) (λ n j. absurd (omega arith))

  path= : (x : Rec) → kind x ≡ KEY → Kin x (f x) → path_set (f x) ≡ path_set x
  path= x k K = key_is (λ y. path_set y ≡ path_set x) x k K refl ((clear-same 2 x).at 1 refl)

  pin= : (x : Rec) → kind x ≡ KEY → Kin x (f x) → part 49 pin_width (f x) ≡ part 49 pin_width x
  pin= x k K = key_is (λ y. part 49 pin_width y ≡ part 49 pin_width x) x k K refl (part_kept (from 2 1) x (clear 2 x) (clear-same 2 x) 49 17 refl)

  -- with a closed session all in it go
  policy_gone : (x y : Rec) → Memᴰ x rs → Memᴰ y rs → kind x ≡ SESSION → kind y ≡ POLICY → own x ≡ session y → Goes x → Fact (policy_goes d rs y)
  policy_gone x y mx my k j e g =
      let w = goes_session d rs x k g in
      let c = (F.used x mx y my).policy (k, w.0) (sym e) j in
      (j, ((c.0, c.1, (c.2, key_gone w.1 c.0 c.1 c.2)), λ v. v.2.1 (key_gone w.1 v.0 v.1 v.2.0)))
    where
      key_gone : Fact (lost rs (keys_in x) (key_goes d rs)) → (z : Rec) → Memᴰ z rs → Fact (keys_under y z) → Fact (key_goes d rs z)
      key_gone l z m q = all_lost rs (keys_in x) (key_goes d rs) l z m (q.0, q.1.1 ∙ sym e)

  puk_gone : (x y : Rec) → Memᴰ x rs → Memᴰ y rs → kind x ≡ SESSION → kind y ≡ PUK → own x ≡ session y → Goes x → Fact (puk_goes d rs y)
  puk_gone x y mx my k j e g =
      let w = goes_session d rs x k g in
      let c = (F.used x mx y my).puk (k, w.0) (sym e) j in
      (j, ((c.0, c.1, (c.2, gone c.0 c.1 c.2)), λ v. v.2.1 (gone v.0 v.1 v.2.0)))
    where
      gone : (z : Rec) → Memᴰ z rs → Fact (policies_under y z) → Fact (policy_goes d rs z)
      gone z m q = policy_gone x z mx m k q.0 (e ∙ sym q.1.1) g

  home' : (x y : Rec) → Memᴰ x rs → Memᴰ y rs → kind x ≡ SESSION → Fact (is_object y) → own x ≡ session y → Kin y (f y) → Kin x (f x)
  home' x y mx my k o e Y = lives x mx (λ g. stays_not g (kind y) refl)
    where
      stays_not : Goes x → (j : ℕ) → kind y ≡ j → ⊥
      stays_not g zero i = omega arith
      stays_not g (suc zero) i = omega arith
      stays_not g (suc (suc zero)) i = stays y (omega arith) Y (going d rs y (a_puk (puk_gone x y mx my k i e g)))
      stays_not g (suc (suc (suc zero))) i = stays y (omega arith) Y (going d rs y (a_policy (policy_gone x y mx my k i e g)))
      stays_not g (suc (suc (suc (suc zero)))) i =
          stays y (omega arith) Y (going d rs y (a_key (all_lost rs (keys_in x) (key_goes d rs) (goes_session d rs x k g).1 y my (i, sym e))))
      stays_not g (suc (suc (suc (suc (suc zero))))) i =
          let c = (goes_session d rs x k g).0 in
          let w = (F.related x mx y my).pending_open k i (sym e) in
          omega arith
      stays_not g (suc (suc (suc (suc (suc (suc j)))))) i = omega arith

  edit : Edit f rs
  edit =
      record {
        fate = effect-fate;
        alone = λ x m.
            by_kind Alone x (λ g. alone-zeros) (λ n. F.alone x m)
            (λ n k. alone_puk_count x (F.alone x m) (clear 3 x) (clear-same 3 x) k (rw (clear_zero 3 x (rw (long x (F.alone x m)) (lit≤ tt))) (omega arith)))
            (λ n k. alone-count x (F.alone x m) (clear 2 x) (clear-same 2 x) k (λ z. cleared x m)) (λ n k. alone-stale x (F.alone x m) k);
        counter = λ x m k. lives x m (λ g. let w = goes_among d rs x g in omega arith);
        counts = λ x y mx my g.
            let k = g.1.0 in
            by_kind (λ z. key_errors z ≤ retry_limit x) y (λ h. rw (byte-zeros 2) (omega arith)) (λ n. (F.related x mx y my).key_counts g)
            (λ n j. absurd (omega arith))
            (λ n j. rw (cleared y my) (omega arith)) (λ n j. absurd (omega arith));
        pins = λ p x y mp mx my g gx X gy Y. rw (pin= x gx.1.0 X, pin= y gy.1.0 Y) (F.shares p mp x mx y my gx.0 g gx gy);
        paths = λ x y mx my a t b e X Y. path= y b Y ∙ (F.related x mx y my).paths_set (a, sym (state= x a X) ∙ t) b e;
        opens = λ x y mx my a b e X Y. state= x a X ∙ (F.related x mx y my).pending_open a b e;
        home = home';
        puk = λ x y mx my a b e s Y.
            lives x mx
            (λ g. stays y (omega arith) Y (going d rs y (a_policy (all_lost rs (policies_under x) (policy_goes d rs) (goes_puk d rs x a g) y my (b, (sym e, sym s))))));
        policy = λ x y mx my a b e s Y.
            lives x mx
            (λ g. stays y (omega arith) Y (going d rs y (a_key (all_lost rs (keys_under x) (key_goes d rs) (goes_policy d rs x a g) y my (b, (sym e, sym s))))));
        key = λ x y mx my a b e n Y. lives x mx (λ g. n (aimed y my b (ap d (sym e) ∙ goes_key d rs x a g) Y));
        has_key = λ x mx a t X.
            let w = remains rs (keys_in x) (key_goes d rs) ((F.housed x mx).key_there (a, sym (state= x a X) ∙ t)) (λ l. stays x (omega arith) X (going d rs x (a_session (a, (sym (state= x a X) ∙ t, l))))) in
            (w.0, w.1, w.2.0.0, w.2.0.1, key_lives w.0 w.1 w.2.0.0 w.2.1);
        has_policy = λ x y mx my a t X b e Y.
            let w = remains rs (policies_under y) (policy_goes d rs) ((F.used x mx y my).puk (a, sym (state= x a X) ∙ t) e b) (λ l. stays y (omega arith) Y (going d rs y (a_puk (b, l)))) in
            (w.0, w.1, w.2.0.0, w.2.0.1.0, w.2.0.1.1, policy_lives w.0 w.1 w.2.0.0 w.2.1);
        has_child = λ x y mx my a t X b e Y.
            let w = remains rs (keys_under y) (key_goes d rs) ((F.used x mx y my).policy (a, sym (state= x a X) ∙ t) e b) (λ l. stays y (omega arith) Y (going d rs y (a_policy (b, l)))) in
            (w.0, w.1, w.2.0.0, w.2.0.1.0, w.2.0.1.1, key_lives w.0 w.1 w.2.0.0 w.2.1);
      }
    where
      key_lives : (x : Rec) → Memᴰ x rs → kind x ≡ KEY → (Fact (key_goes d rs x) → ⊥) → Kin x (f x)
      key_lives x m k n = lives x m (λ g. n (k, goes_key d rs x k g))

      policy_lives : (x : Rec) → Memᴰ x rs → kind x ≡ POLICY → (Fact (policy_goes d rs x) → ⊥) → Kin x (f x)
      policy_lives x m k n = lives x m (λ g. n (k, goes_policy d rs x k g))

      -- a pending on a key that goes is stale
      aimed : (y : Rec) → Memᴰ y rs → kind y ≡ PENDING → d (parent y) ≡ true → Kin y (f y) → parent (f y) ≡ 0
      aimed y m k e K =
          effect_is d u rs (λ z. parent z ≡ 0) y (λ g. absurd (stays y (omega arith) K g)) (λ g w. let j = w.0 in absurd (omega arith))
          (λ g w. let j = w.0 in absurd (omega arith))
          (λ g w. stale-parent y (rw (long y (F.alone y m)) (lit≤ tt))) (λ g a b c. absurd (c (inl (k, e))))

  pub effect_kept : Facts (map (effect d u rs) rs)
  effect_kept = edited f rs F edit
