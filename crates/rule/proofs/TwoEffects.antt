-- Two effects one after another are the effect of both sets of keys at once.
use mathlib.Core.Path.{◌≡◌, refl, sym, ap, ap₂, ◌∙◌, subst}
use mathlib.Core.Bool.{Bool, true, false, cond, ◌||◌}
use mathlib.Core.List.{List, [], ◌∷◌, Memᴰ}
use mathlib.Core.Logic.{◌⊎◌, inl, inr}
use Prim.Native.Nat.{ℕ, ◌+◌, ◌≤◌, ◌<◌}
use native.Mathlib.Omega.{arith}
use lib.ListN.{length}
use Rattle.paper.specs.Bytes.{over}
use Rattle.paper.specs.Form.{Rec, Form, ◌equals◌, ◌=<◌, no, ◌and◌, ◌or◌, some, test, Fact}
use Rattle.paper.specs.Records.{kind, SESSION, POLICY, KEY, PENDING, own, session, parent, state, zeros}
use Rattle.paper.specs.Closing.{Keys, lost, key_goes, policy_goes, goes, key_unlocked, puk_unlocked, pending_on, stale, effect}
use Rattle.paper.specs.Pin.{clear}
use Rattle.paper.proofs.Forms.{both, cases}
use Rattle.laws.proofs.Choice.{choose, same_test}
use Rattle.laws.proofs.Bytes.{list_same, length_over, byte-over, byte-over_other}
use Rattle.laws.proofs.Places.{Same, from, hit, four_kept}
use Rattle.laws.proofs.Edits.{clear-same, stale-same, stale-parent, stale_at}
use Rattle.laws.proofs.Inserting.{byte-zeros}
use Rattle.laws.proofs.Losses.{Going, a_key, a_policy, a_puk, a_session, who, going, all_lost, keys_under, policies_under, keys_in, goes_key, goes_policy, effect_is}
use Rattle.rule.proofs.LocalEffect.{effect_free}

-- ---- the effect by its four tests

pub clear-clear : (i : ℕ) (x : Rec) → clear i (clear i x) ≡ clear i x
unfolding clear
clear-clear i x = list_same (over i (0 ∷ []) x) (over i (0 ∷ []) (over i (0 ∷ []) x)) (length_over i (0 ∷ []) (over i (0 ∷ []) x)) (λ j l. cases (j equals i)
    (λ e. let w = length_over i (0 ∷ []) x in rw e (byte-over i 0 (over i (0 ∷ []) x) (omega arith) ∙ sym (byte-over i 0 x (omega arith))))
    (λ n. byte-over_other i j (0 ∷ []) (over i (0 ∷ []) x) (far j n)))
  where
    far : (j : ℕ) → (j ≡ i → ⊥) → (i + 1 ≤ j) ⊎ (j < i)
    far j n = cases (i + 1 =< j) (λ h. inl h) (λ h. inr (omega arith))

module _ (d u : Keys) (rs : List Rec) (x : Rec) where
  abbrev Left : Form
  Left = pending_on d x or pending_on u x

  pub is_pending : Fact Left → kind x ≡ PENDING
  is_pending (inl p) = p.0
  is_pending (inr p) = p.0

  pub effect_goes : Fact (goes d rs x) → effect d u rs x ≡ zeros
  unfolding effect
  effect_goes g = rw ((both (goes d rs x)).1 g)

  -- what is not freed
  module _ (n : Fact (goes d rs x) → ⊥) where
    not_freed : effect d u rs x ≡ cond (test (key_unlocked u x)) (clear 2 x) (cond (test (puk_unlocked u rs x)) (clear 3 x) (cond (test Left) (stale x) x))
    unfolding effect
    not_freed = choose (λ y. y ≡ cond (test (key_unlocked u x)) (clear 2 x) (cond (test (puk_unlocked u rs x)) (clear 3 x) (cond (test Left) (stale x) x))) (goes d rs x) zeros
        (cond (test (key_unlocked u x)) (clear 2 x) (cond (test (puk_unlocked u rs x)) (clear 3 x) (cond (test Left) (stale x) x))) (λ g. absurd (n g)) (λ m. refl)

    pub effect_key : Fact (key_unlocked u x) → effect d u rs x ≡ clear 2 x
    effect_key k = not_freed ∙ rw ((both (key_unlocked u x)).1 k)

    pub effect_puk : Fact (puk_unlocked u rs x) → effect d u rs x ≡ clear 3 x
    effect_puk p = not_freed ∙ choose (λ y. y ≡ clear 3 x) (key_unlocked u x) (clear 2 x) (cond (test (puk_unlocked u rs x)) (clear 3 x) (cond (test Left) (stale x) x))
        (λ k. absurd (let a = k.0 in let b = p.0 in omega arith)) (λ m. rw ((both (puk_unlocked u rs x)).1 p))

    pub effect_pending : Fact Left → effect d u rs x ≡ stale x
    effect_pending q = not_freed ∙ choose (λ y. y ≡ stale x) (key_unlocked u x) (clear 2 x) (cond (test (puk_unlocked u rs x)) (clear 3 x) (cond (test Left) (stale x) x))
        (λ k. absurd (let a = k.0 in let b = is_pending q in omega arith)) (λ m.
        choose (λ y. y ≡ stale x) (puk_unlocked u rs x) (clear 3 x) (cond (test Left) (stale x) x) (λ k. absurd (let a = k.0 in let b = is_pending q in omega arith)) (λ m. rw ((both Left).1 q)))

    pub effect_none : (Fact (key_unlocked u x) → ⊥) → (Fact (puk_unlocked u rs x) → ⊥) → (Fact Left → ⊥) → effect d u rs x ≡ x
    effect_none k p q = not_freed ∙
        choose (λ y. y ≡ x) (key_unlocked u x) (clear 2 x) (cond (test (puk_unlocked u rs x)) (clear 3 x) (cond (test Left) (stale x) x)) (λ i. absurd (k i)) (λ i.
        choose (λ y. y ≡ x) (puk_unlocked u rs x) (clear 3 x) (cond (test Left) (stale x) x) (λ i. absurd (p i)) (λ i. choose (λ y. y ≡ x) Left (stale x) x (λ i. absurd (q i)) (λ i. refl)))

-- two effects agree where their four tests do
pub effect_tests : (d u d' u' : Keys) (rs rs' : List Rec) (x : Rec) → test (goes d rs x) ≡ test (goes d' rs' x) → test (key_unlocked u x) ≡ test (key_unlocked u' x)
    → test (puk_unlocked u rs x) ≡ test (puk_unlocked u' rs' x) → test (pending_on d x or pending_on u x) ≡ test (pending_on d' x or pending_on u' x) → effect d u rs x ≡ effect d' u' rs' x
unfolding effect
effect_tests d u d' u' rs rs' x a b c e =
    ap₂ (λ (g k : Bool). cond g zeros (cond k (clear 2 x) (cond (test (puk_unlocked u rs x)) (clear 3 x) (cond (test (pending_on d x or pending_on u x)) (stale x) x)))) a b
    ∙ ap₂ (λ (p q : Bool). cond (test (goes d' rs' x)) zeros (cond (test (key_unlocked u' x)) (clear 2 x) (cond p (clear 3 x) (cond q (stale x) x)))) c e

-- ---- losses

-- those that the first loss left are the ones of the second list
record Stays (rs rs1 : List Rec) (such g1 g2 g : Rec → Form) : Type 0 where
  down : (y : Rec) → Memᴰ y rs → Fact (such y) → (Fact (g1 y) → ⊥) → (z : Rec) × Memᴰ z rs1 × Fact (such z) × (Fact (g2 z) → Fact (g y)) × (Fact (g y) → Fact (g2 z))
  up : (z : Rec) → Memᴰ z rs1 → Fact (such z) → (y : Rec) × Memᴰ y rs × Fact (such y) × (Fact (g1 y) → ⊥) × (Fact (g2 z) → Fact (g y)) × (Fact (g y) → Fact (g2 z))
  first : (y : Rec) → Memᴰ y rs → Fact (such y) → Fact (g1 y) → Fact (g y)

module _ (rs rs1 : List Rec) (such g1 g2 g : Rec → Form) (s : Stays rs rs1 such g1 g2 g) where
  lost_twice : Fact (lost rs such g1) ⊎ Fact (lost rs1 such g2) → Fact (lost rs such g)
  lost_twice (inl l) =
      let w = l.0 in
      ((w.0, w.1, (w.2.0, s.first w.0 w.1 w.2.0 w.2.1)), λ v. v.2.1 (s.first v.0 v.1 v.2.0 (all_lost rs such g1 l v.0 v.1 v.2.0)))
  lost_twice (inr l) =
      let w = l.0 in
      let c = s.up w.0 w.1 w.2.0 in (
        (c.0, c.1, (c.2, c.4 w.2.1)),
        λ v. cases (g1 v.0) (λ i. v.2.1 (s.first v.0 v.1 v.2.0 i)) (λ n.
            let e = s.down v.0 v.1 v.2.0 n in v.2.1 (e.3 (all_lost rs1 such g2 l e.0 e.1 e.2))),
      )

  twice_lost : Fact (lost rs such g) → Fact (lost rs such g1) ⊎ Fact (lost rs1 such g2)
  twice_lost l = cases (some rs (λ y. such y and no (g1 y)))
      (λ v. let e = s.down v.0 v.1 v.2.0 v.2.1 in
      inr (
        (e.0, e.1, (e.2, e.4 (all_lost rs such g l v.0 v.1 v.2.0))),
        λ z.
            let c = s.up z.0 z.1 z.2.0 in z.2.1 (c.5 (all_lost rs such g l c.0 c.1 c.2)),
      ))
      (λ n. let w = l.0 in inl ((w.0, w.1, (w.2.0, cases (g1 w.0) (λ i. i) (λ h. absurd (n (w.0, w.1, (w.2.0, h)))))), n))

-- ---- one effect after another, in session t

-- what the tests of a record look at
pub record Twin (x y : Rec) : Type 0 where
  pub kind= : kind y ≡ kind x
  pub own= : own y ≡ own x
  pub session= : session y ≡ session x
  pub state= : state y ≡ state x

twin_same : (touched : ℕ → Bool) (x y : Rec) → Same touched x y → touched 0 ≡ false → touched 1 ≡ false → hit touched 4 4 ≡ false → hit touched 8 4 ≡ false → Twin x y
twin_same touched x y w a b c d = record { kind= = w.at 0 a; own= = four_kept touched x y w 4 c; session= = four_kept touched x y w 8 d; state= = w.at 1 b }

pub either_true : (a b : Bool) → (a || b) ≡ true → (a ≡ true) ⊎ (b ≡ true)
either_true true b e = inl refl
either_true false b e = inr e

pub right_true : (a b : Bool) → b ≡ true → (a || b) ≡ true
right_true true b e = refl
right_true false b e = e

abbrev pub ◌or-else◌ : Keys → Keys → Keys
◌or-else◌ d e k = d k || e k

module _ (t : ℕ) (d1 u1 d2 u2 : Keys) (rs rs1 : List Rec) (apart : (k : ℕ) → d1 k ≡ true → u2 k ≡ true → ⊥)
    (came : (y : Rec) → Memᴰ y rs1 → session y ≡ t → (x : Rec) × Memᴰ x rs × (session x ≡ t) × (y ≡ effect d1 u1 rs x))
    (went : (x : Rec) → Memᴰ x rs → session x ≡ t → Memᴰ (effect d1 u1 rs x) rs1) where
  abbrev f : Rec → Rec
  f = effect d1 u1 rs

  abbrev d : Keys
  d = ◌or-else◌ d1 d2

  abbrev u : Keys
  u = ◌or-else◌ u1 u2

  -- keys
  record Key' (x y : Rec) : Type 0 where
    was : kind x ≡ KEY
    kind' : kind y ≡ KEY
    own' : own y ≡ own x
    session' : session y ≡ session x
    parent' : parent y ≡ parent x

  key_stays : (x : Rec) → kind x ≡ KEY → (d1 (own x) ≡ true → ⊥) → Key' x (f x)
  key_stays x k n = effect_is d1 u1 rs (Key' x) x (λ g. absurd (n (goes_key d1 rs x k g))) (λ s i. cleared) (λ s i. absurd (let a = i.0 in omega arith))
      (λ s i. absurd (let a = is_pending d1 u1 rs x i in omega arith)) (λ s a b c. self)
    where
      self : Key' x x
      self = record { was = k; kind' = k; own' = refl; session' = refl; parent' = refl }

      cleared : Key' x (clear 2 x)
      cleared =
          let s = clear-same 2 x in
          record {
            was = k;
            kind' = s.at 0 refl ∙ k;
            own' = four_kept (from 2 1) x (clear 2 x) s 4 refl;
            session' = four_kept (from 2 1) x (clear 2 x) s 8 refl;
            parent' = four_kept (from 2 1) x (clear 2 x) s 12 refl;
          }

  key_was : (x : Rec) → kind (f x) ≡ KEY → (kind x ≡ KEY) × (d1 (own x) ≡ true → ⊥)
  key_was x = effect_is d1 u1 rs (λ y. kind y ≡ KEY → (kind x ≡ KEY) × (d1 (own x) ≡ true → ⊥)) x
      (λ g k. absurd (let z = byte-zeros 0 in omega arith)) (λ s i k. (i.0, λ e. s (inl (i.0, e))))
      (λ s i k. absurd (let a = i.0 in let s = (clear-same 3 x).at 0 refl in omega arith))
      (λ s i k. absurd (let a = is_pending d1 u1 rs x i in let s = (stale-same x).at 0 refl in omega arith)) (λ s a b c k. (k, λ e. s (inl (k, e))))

  -- policies
  policy_stays : (x : Rec) → kind x ≡ POLICY → (Fact (policy_goes d1 rs x) → ⊥) → f x ≡ x
  policy_stays x k n = effect_none d1 u1 rs x (λ g. n (k, goes_policy d1 rs x k g)) (λ i. let a = i.0 in omega arith) (λ i. let a = i.0 in omega arith)
      (λ i. let a = is_pending d1 u1 rs x i in omega arith)

  policy_was : (x : Rec) → kind (f x) ≡ POLICY → (f x ≡ x) × (Fact (policy_goes d1 rs x) → ⊥)
  policy_was x = effect_is d1 u1 rs (λ y. kind y ≡ POLICY → (y ≡ x) × (Fact (policy_goes d1 rs x) → ⊥)) x
      (λ g k. absurd (let z = byte-zeros 0 in omega arith)) (λ s i k. absurd (let a = i.0 in let s = (clear-same 2 x).at 0 refl in omega arith))
      (λ s i k. absurd (let a = i.0 in let s = (clear-same 3 x).at 0 refl in omega arith))
      (λ s i k. absurd (let a = is_pending d1 u1 rs x i in let s = (stale-same x).at 0 refl in omega arith)) (λ s a b c k. (refl, λ g. s (inr (inl g))))

  -- keys of the session of which a test holds that looks at own handle, session and parent
  key_losses : (such : Rec → Form) → ((y : Rec) → Fact (such y) → (kind y ≡ KEY) × (session y ≡ t))
      → ((y z : Rec) → Key' y z → (Fact (such y) → Fact (such z)) × (Fact (such z) → Fact (such y)))
      → Stays rs rs1 such (key_goes d1 rs) (key_goes d2 rs1) (key_goes d rs)
  key_losses such h k =
      record {
        down = λ y m s n. let k1 = (h y s).0 in let w = key_stays y k1 (λ e. n (k1, e)) in (
          f y,
          went y m (h y s).1,
          (k y (f y) w).0 s,
          (λ g. (k1, right_true (d1 (own y)) (d2 (own y)) (ap d2 (sym w.own') ∙ g.1))),
          λ g.
              (w.kind', ap d2 w.own' ∙ second (d1 (own y)) (d2 (own y)) (λ e. n (k1, e)) g.1),
        );
        up = up';
        first = λ y m s g. (g.0, rw g.1);
      }
    where
      second : (a b : Bool) → (a ≡ true → ⊥) → (a || b) ≡ true → b ≡ true
      second true b n e = absurd (n refl)
      second false b n e = e

      Up : Rec → Type 0
      Up z = (y : Rec) × Memᴰ y rs × Fact (such y) × (Fact (key_goes d1 rs y) → ⊥) × (Fact (key_goes d2 rs1 z) → Fact (key_goes d rs y)) × (Fact (key_goes d rs y) → Fact (key_goes d2 rs1 z))

      at : (y : Rec) → Memᴰ y rs → Fact (such (f y)) → Up (f y)
      at y m s =
          let kz = (h (f y) s).0 in
          let b = key_was y kz in
          let w = key_stays y b.0 b.1 in (
            y,
            m,
            (k y (f y) w).1 s,
            (λ g. b.1 g.1),
            (λ g. (b.0, right_true (d1 (own y)) (d2 (own y)) (ap d2 (sym w.own') ∙ g.1))),
            λ g.
                (kz, ap d2 w.own' ∙ second (d1 (own y)) (d2 (own y)) b.1 g.1),
          )

      up' : (z : Rec) → Memᴰ z rs1 → Fact (such z) → Up z
      up' z m s = let c = came z m (h z s).1 in subst Up (sym c.3) (at c.0 c.1 (subst (λ y. Fact (such y)) c.3 s))

  under_keys : (x : Rec) → session x ≡ t → Stays rs rs1 (keys_under x) (key_goes d1 rs) (key_goes d2 rs1) (key_goes d rs)
  under_keys x e = key_losses (keys_under x) (λ y p. (p.0, p.1.1 ∙ e)) (λ y z w.
      ((λ p. (w.kind', (w.parent' ∙ p.1.0, w.session' ∙ p.1.1))), λ p. (w.was, (sym w.parent' ∙ p.1.0, sym w.session' ∙ p.1.1))))

  home_keys : (x : Rec) → own x ≡ t → Stays rs rs1 (keys_in x) (key_goes d1 rs) (key_goes d2 rs1) (key_goes d rs)
  home_keys x e = key_losses (keys_in x) (λ y p. (p.0, p.1 ∙ e)) (λ y z w.
      ((λ p. (w.kind', w.session' ∙ p.1)), λ p. (w.was, sym w.session' ∙ p.1)))

  policy_to : (x : Rec) → session x ≡ t → Fact (policy_goes d rs x) → Fact (policy_goes d1 rs x) ⊎ Fact (policy_goes d2 rs1 x)
  policy_to x e (k, l) = go (twice_lost rs rs1 (keys_under x) (key_goes d1 rs) (key_goes d2 rs1) (key_goes d rs) (under_keys x e) l)
    where
      go : Fact (lost rs (keys_under x) (key_goes d1 rs)) ⊎ Fact (lost rs1 (keys_under x) (key_goes d2 rs1)) → Fact (policy_goes d1 rs x) ⊎ Fact (policy_goes d2 rs1 x)
      go (inl w) = inl (k, w)
      go (inr w) = inr (k, w)

  policy_from : (x : Rec) → session x ≡ t → Fact (policy_goes d1 rs x) ⊎ Fact (policy_goes d2 rs1 x) → Fact (policy_goes d rs x)
  policy_from x e (inl (k, l)) = (k, lost_twice rs rs1 (keys_under x) (key_goes d1 rs) (key_goes d2 rs1) (key_goes d rs) (under_keys x e) (inl l))
  policy_from x e (inr (k, l)) = (k, lost_twice rs rs1 (keys_under x) (key_goes d1 rs) (key_goes d2 rs1) (key_goes d rs) (under_keys x e) (inr l))

  under_policies : (x : Rec) → session x ≡ t → Stays rs rs1 (policies_under x) (policy_goes d1 rs) (policy_goes d2 rs1) (policy_goes d rs)
  under_policies x e =
      record {
        down = λ y m s n. (
          y,
          subst (λ z. Memᴰ z rs1) (policy_stays y s.0 n) (went y m (s.1.1 ∙ e)),
          s,
          (λ g. policy_from y (s.1.1 ∙ e) (inr g)),
          λ g. second y n (policy_to y (s.1.1 ∙ e) g),
        );
        up = up';
        first = λ y m s g. policy_from y (s.1.1 ∙ e) (inl g);
      }
    where
      second : (y : Rec) → (Fact (policy_goes d1 rs y) → ⊥) → Fact (policy_goes d1 rs y) ⊎ Fact (policy_goes d2 rs1 y) → Fact (policy_goes d2 rs1 y)
      second y n (inl g) = absurd (n g)
      second y n (inr g) = g

      Up : Rec → Type 0
      Up z = (y : Rec) × Memᴰ y rs × Fact (policies_under x y) × (Fact (policy_goes d1 rs y) → ⊥) × (Fact (policy_goes d2 rs1 z) → Fact (policy_goes d rs y)) ×
          (Fact (policy_goes d rs y) → Fact (policy_goes d2 rs1 z))

      at : (z y : Rec) → Memᴰ y rs → z ≡ f y → Fact (policies_under x z) → Up z
      at z y m i s =
          let b = policy_was y (ap kind (sym i) ∙ s.0) in
          let j = i ∙ b.0 in
          subst Up (sym j) (
            y,
            m,
            subst (λ r. Fact (policies_under x r)) j s,
            b.1,
            (λ g. policy_from y (ap session (sym j) ∙ s.1.1 ∙ e) (inr g)),
            λ g. second y
                b.1 (policy_to y (ap session (sym j) ∙ s.1.1 ∙ e) g),
          )

      up' : (z : Rec) → Memᴰ z rs1 → Fact (policies_under x z) → Up z
      up' z m s = let c = came z m (s.1.1 ∙ e) in at z c.0 c.1 c.3 s

  abbrev Either : Rec → Type 0
  Either x = Going d1 rs x ⊎ Going d2 rs1 x

  -- who goes by either effect
  by_either : {x : Rec} {A B : Type 0} → (A → Going d1 rs x) → (B → Going d2 rs1 x) → A ⊎ B → Either x
  by_either f g (inl a) = inl (f a)
  by_either f g (inr b) = inr (g b)

  going_to : (x : Rec) → session x ≡ t → (kind x ≡ SESSION → own x ≡ t) → Going d rs x → Either x
  going_to x e o (a_key (k, g)) = by_either (λ i. a_key (k, i)) (λ i. a_key (k, i)) (either_true (d1 (own x)) (d2 (own x)) g)
  going_to x e o (a_policy g) = by_either a_policy a_policy (policy_to x e g)
  going_to x e o (a_puk (k, l)) =
      by_either (λ i. a_puk (k, i)) (λ i. a_puk (k, i)) (twice_lost rs rs1 (policies_under x) (policy_goes d1 rs) (policy_goes d2 rs1) (policy_goes d rs) (under_policies x e) l)
  going_to x e o (a_session (k, (c, l))) =
      by_either (λ i. a_session (k, (c, i))) (λ i. a_session (k, (c, i))) (twice_lost rs rs1 (keys_in x) (key_goes d1 rs) (key_goes d2 rs1) (key_goes d rs) (home_keys x (o k)) l)

  goes_to : (x : Rec) → session x ≡ t → (kind x ≡ SESSION → own x ≡ t) → Fact (goes d rs x) → Fact (goes d1 rs x) ⊎ Fact (goes d2 rs1 x)
  goes_to x e o g = out (going_to x e o (who d rs x g))
    where
      out : Either x → Fact (goes d1 rs x) ⊎ Fact (goes d2 rs1 x)
      out (inl i) = inl (going d1 rs x i)
      out (inr i) = inr (going d2 rs1 x i)

  going_from : (x : Rec) → session x ≡ t → (kind x ≡ SESSION → own x ≡ t) → Either x → Going d rs x
  going_from x e o (inl (a_key (k, g))) = a_key (k, rw g)
  going_from x e o (inr (a_key (k, g))) = a_key (k, right_true (d1 (own x)) (d2 (own x)) g)
  going_from x e o (inl (a_policy g)) = a_policy (policy_from x e (inl g))
  going_from x e o (inr (a_policy g)) = a_policy (policy_from x e (inr g))
  going_from x e o (inl (a_puk (k, l))) = a_puk (k, lost_twice rs rs1 (policies_under x) (policy_goes d1 rs) (policy_goes d2 rs1) (policy_goes d rs) (under_policies x e) (inl l))
  going_from x e o (inr (a_puk (k, l))) = a_puk (k, lost_twice rs rs1 (policies_under x) (policy_goes d1 rs) (policy_goes d2 rs1) (policy_goes d rs) (under_policies x e) (inr l))
  going_from x e o (inl (a_session (k, (c, l)))) = a_session (k, (c, lost_twice rs rs1 (keys_in x) (key_goes d1 rs) (key_goes d2 rs1) (key_goes d rs) (home_keys x (o k)) (inl l)))
  going_from x e o (inr (a_session (k, (c, l)))) = a_session (k, (c, lost_twice rs rs1 (keys_in x) (key_goes d1 rs) (key_goes d2 rs1) (key_goes d rs) (home_keys x (o k)) (inr l)))

  goes_from : (x : Rec) → session x ≡ t → (kind x ≡ SESSION → own x ≡ t) → Fact (goes d1 rs x) ⊎ Fact (goes d2 rs1 x) → Fact (goes d rs x)
  goes_from x e o (inl g) = going d rs x (going_from x e o (inl (who d1 rs x g)))
  goes_from x e o (inr g) = going d rs x (going_from x e o (inr (who d2 rs1 x g)))

  -- a PUK that is unlocked
  helped_to : (x : Rec) → session x ≡ t → Fact (puk_unlocked u rs x) → Fact (puk_unlocked u1 rs x) ⊎ Fact (puk_unlocked u2 rs1 x)
  helped_to x e (k, (p, m, (a, (b, (c, (y, l, ((ky, uy), (py, sy)))))))) = go (either_true (u1 (own y)) (u2 (own y)) uy)
    where
      stays : (d1 (own y) ≡ true → ⊥) → Fact (policy_goes d1 rs p) → ⊥
      stays n g = n (all_lost rs (keys_under p) (key_goes d1 rs) g.1 y l (ky, (py, sy ∙ sym c))).1

      go : (u1 (own y) ≡ true) ⊎ (u2 (own y) ≡ true) → Fact (puk_unlocked u1 rs x) ⊎ Fact (puk_unlocked u2 rs1 x)
      go (inl i) = inl (k, (p, m, (a, (b, (c, (y, l, ((ky, i), (py, sy))))))))
      go (inr i) =
          let n : d1 (own y) ≡ true → ⊥ = λ h. apart (own y) h i in
          let w = key_stays y ky n in
          inr (
            k,
            (
              p,
              subst (λ z. Memᴰ z rs1) (policy_stays p a (stays n)) (went p m (c ∙ e)),
              (a, (b, (c, (f y, went y l (sy ∙ e), ((w.kind', ap u2 w.own' ∙ i), (w.parent' ∙ py, w.session' ∙ sy)))))),
            ),
          )

  helped_from : (x : Rec) → session x ≡ t → Fact (puk_unlocked u1 rs x) ⊎ Fact (puk_unlocked u2 rs1 x) → Fact (puk_unlocked u rs x)
  helped_from x e (inl (k, (p, m, (a, (b, (c, (y, l, ((ky, uy), (py, sy))))))))) = (k, (p, m, (a, (b, (c, (y, l, ((ky, rw uy), (py, sy))))))))
  helped_from x e (inr (k, (p, m, (a, (b, (c, (y, l, ((ky, uy), (py, sy))))))))) = go (came p m (c ∙ e)) (came y l (sy ∙ e))
    where
      go : (x : Rec) × Memᴰ x rs × (session x ≡ t) × (p ≡ f x) → (x : Rec) × Memᴰ x rs × (session x ≡ t) × (y ≡ f x) → Fact (puk_unlocked u rs x)
      go (p', mp, ep, ip) (y', my, ey, iy) =
          let j = ip ∙ (policy_was p' (ap kind (sym ip) ∙ a)).0 in
          let q = key_was y' (ap kind (sym iy) ∙ ky) in
          let w = key_stays y' q.0 q.1 in (
            k,
            (
              p',
              mp,
              (
                ap kind (sym j) ∙ a,
                (
                  ap parent (sym j) ∙ b,
                  (
                    ap session (sym j) ∙ c,
                    (
                      y',
                      my,
                      (
                        (q.0, right_true (u1 (own y')) (u2 (own y')) (ap u2 (sym w.own' ∙ ap own (sym iy)) ∙ uy)),
                        (sym w.parent' ∙ ap parent (sym iy) ∙ py ∙ ap own j, sym w.session' ∙ ap session (sym iy) ∙ sy),
                      ),
                    ),
                  ),
                ),
              ),
            ),
          )

  -- tests of records that are twins
  goes_twin : (x y : Rec) → Twin x y → test (goes d2 rs1 y) ≡ test (goes d2 rs1 x)
  goes_twin x y w = rw (w.kind=, w.own=, w.session=, w.state=)

  twin_goes : (x y : Rec) → Twin x y → Fact (goes d2 rs1 y) → Fact (goes d2 rs1 x)
  twin_goes x y w g = (both (goes d2 rs1 x)).0 (sym (goes_twin x y w) ∙ (both (goes d2 rs1 y)).1 g)

  goes_twin' : (x y : Rec) → Twin x y → Fact (goes d2 rs1 x) → Fact (goes d2 rs1 y)
  goes_twin' x y w g = (both (goes d2 rs1 y)).0 (goes_twin x y w ∙ (both (goes d2 rs1 x)).1 g)

  module _ (d2-0 : d2 0 ≡ true → ⊥) (u2-0 : u2 0 ≡ true → ⊥) (x : Rec) (e : session x ≡ t) (o : kind x ≡ SESSION → own x ≡ t) (long : kind x ≡ PENDING → 16 ≤ length x) where
    abbrev Twice : Rec → Type 0
    Twice y = effect d2 u2 rs1 y ≡ effect d u rs x

    -- a twin that the first effect left
    next : (y : Rec) → Twin x y → (Fact (goes d1 rs x) → ⊥) → ((Fact (goes d2 rs1 y) → ⊥) → (Fact (goes d rs x) → ⊥) → Twice y) → Twice y
    next y w n h = cases (goes d2 rs1 y)
        (λ g. effect_goes d2 u2 rs1 y g ∙ sym (effect_goes d u rs x (goes_from x e o (inr (twin_goes x y w g)))))
        (λ m. h m (λ g. neither m (goes_to x e o g)))
      where
        neither : (Fact (goes d2 rs1 y) → ⊥) → Fact (goes d1 rs x) ⊎ Fact (goes d2 rs1 x) → ⊥
        neither m (inl g) = n g
        neither m (inr g) = m (goes_twin' x y w g)

    at_key : (Fact (goes d1 rs x) → ⊥) → Fact (key_unlocked u1 x) → Twice (clear 2 x)
    at_key n k =
        let w = twin_same (from 2 1) x (clear 2 x) (clear-same 2 x) refl refl refl refl in
        next (clear 2 x) w n (λ m nd. (cases (key_unlocked u2 (clear 2 x)) (λ i. effect_key d2 u2 rs1 (clear 2 x) m i ∙ clear-clear 2 x)
        (λ i. effect_none d2 u2 rs1 (clear 2 x) m i (λ p. let a = p.0 in let b = w.kind= in let c = k.0 in omega arith)
        (λ p. let a = is_pending d2 u2 rs1 (clear 2 x) p in let b = w.kind= in let c = k.0 in omega arith)))
        ∙ sym (effect_key d u rs x nd (k.0, rw k.1)))

    at_puk : (Fact (goes d1 rs x) → ⊥) → Fact (puk_unlocked u1 rs x) → Twice (clear 3 x)
    at_puk n k =
        let w = twin_same (from 3 1) x (clear 3 x) (clear-same 3 x) refl refl refl refl in
        next (clear 3 x) w n (λ m nd. (cases (puk_unlocked u2 rs1 (clear 3 x)) (λ i. effect_puk d2 u2 rs1 (clear 3 x) m i ∙ clear-clear 3 x)
        (λ i. effect_none d2 u2 rs1 (clear 3 x) m (λ p. let a = p.0 in let b = w.kind= in let c = k.0 in omega arith) i
        (λ p. let a = is_pending d2 u2 rs1 (clear 3 x) p in let b = w.kind= in let c = k.0 in omega arith)))
        ∙ sym (effect_puk d u rs x nd (helped_from x e (inl k))))

    at_pending : (Fact (goes d1 rs x) → ⊥) → Fact (pending_on d1 x or pending_on u1 x) → Twice (stale x)
    at_pending n q =
        let k = is_pending d1 u1 rs x q in
        let w = twin_same stale_at x (stale x) (stale-same x) refl refl refl refl in
        next (stale x) w n (λ m nd. effect_none d2 u2 rs1 (stale x) m (λ p. let a = p.0 in let b = w.kind= in omega arith) (λ p. let a = p.0 in let b = w.kind= in omega arith) (unmarked k)
        ∙ sym (effect_pending d u rs x nd (marked q)))
      where
        unmarked : kind x ≡ PENDING → Fact (pending_on d2 (stale x) or pending_on u2 (stale x)) → ⊥
        unmarked k (inl p) = d2-0 (ap d2 (sym (stale-parent x (long k))) ∙ p.1)
        unmarked k (inr p) = u2-0 (ap u2 (sym (stale-parent x (long k))) ∙ p.1)

        marked : Fact (pending_on d1 x or pending_on u1 x) → Fact (pending_on d x or pending_on u x)
        marked (inl p) = inl (p.0, rw p.1)
        marked (inr p) = inr (p.0, rw p.1)

    at_none : (Fact (goes d1 rs x) → ⊥) → (Fact (key_unlocked u1 x) → ⊥) → (Fact (puk_unlocked u1 rs x) → ⊥) → (Fact (pending_on d1 x or pending_on u1 x) → ⊥) → Twice x
    at_none n nk np nq = effect_tests d2 u2 d u rs1 rs x
        (same_test (goes d2 rs1 x) (goes d rs x) (λ g. goes_from x e o (inr g)) (λ g. gone (goes_to x e o g)))
        (same_test (key_unlocked u2 x) (key_unlocked u x) (λ g. (g.0, right_true (u1 (own x)) (u2 (own x)) g.1)) (λ g. (g.0, key g.0 (either_true (u1 (own x)) (u2 (own x)) g.1))))
        (same_test (puk_unlocked u2 rs1 x) (puk_unlocked u rs x) (λ g. helped_from x e (inr g)) (λ g. puk (helped_to x e g)))
        (same_test (pending_on d2 x or pending_on u2 x) (pending_on d x or pending_on u x) to from')
      where
        gone : Fact (goes d1 rs x) ⊎ Fact (goes d2 rs1 x) → Fact (goes d2 rs1 x)
        gone (inl g) = absurd (n g)
        gone (inr g) = g

        key : kind x ≡ KEY → (u1 (own x) ≡ true) ⊎ (u2 (own x) ≡ true) → u2 (own x) ≡ true
        key k (inl i) = absurd (nk (k, i))
        key k (inr i) = i

        puk : Fact (puk_unlocked u1 rs x) ⊎ Fact (puk_unlocked u2 rs1 x) → Fact (puk_unlocked u2 rs1 x)
        puk (inl g) = absurd (np g)
        puk (inr g) = g

        to : Fact (pending_on d2 x or pending_on u2 x) → Fact (pending_on d x or pending_on u x)
        to (inl p) = inl (p.0, right_true (d1 (parent x)) (d2 (parent x)) p.1)
        to (inr p) = inr (p.0, right_true (u1 (parent x)) (u2 (parent x)) p.1)

        in_d_lem : kind x ≡ PENDING → (d1 (parent x) ≡ true) ⊎ (d2 (parent x) ≡ true) → Fact (pending_on d2 x or pending_on u2 x)
        in_d_lem k (inl i) = absurd (nq (inl (k, i)))
        in_d_lem k (inr i) = inl (k, i)

        in_u_lem : kind x ≡ PENDING → (u1 (parent x) ≡ true) ⊎ (u2 (parent x) ≡ true) → Fact (pending_on d2 x or pending_on u2 x)
        in_u_lem k (inl i) = absurd (nq (inr (k, i)))
        in_u_lem k (inr i) = inr (k, i)

        from' : Fact (pending_on d x or pending_on u x) → Fact (pending_on d2 x or pending_on u2 x)
        from' (inl p) = in_d_lem p.0 (either_true (d1 (parent x)) (d2 (parent x)) p.1)
        from' (inr p) = in_u_lem p.0 (either_true (u1 (parent x)) (u2 (parent x)) p.1)

    -- two effects are one
    pub effect_twice : effect d2 u2 rs1 (effect d1 u1 rs x) ≡ effect (◌or-else◌ d1 d2) (◌or-else◌ u1 u2) rs x
    effect_twice = effect_is d1 u1 rs Twice x (λ g. effect_free d2 u2 rs1 ∙ sym (effect_goes d u rs x (goes_from x e o (inl g)))) at_key at_puk at_pending at_none
