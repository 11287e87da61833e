-- Which records an edit leaves to a statement, and that what removal and unlocking make of a record hangs on its own session alone.
use mathlib.Core.Path.{◌≡◌, refl, sym, ap, ap₂, ◌∙◌, subst}
use mathlib.Core.Bool.{Bool, true, cond}
use mathlib.Core.List.{List, [], ◌∷◌, map, Memᴰ}
use mathlib.Core.Logic.{◌⊎◌, inl, inr}
use Prim.Native.Nat.{ℕ}
use native.Mathlib.Omega.{arith}
use Rattle.paper.specs.Form.{Rec, Form, ◌equals◌, ◌and◌, ◌or◌, some, test, Fact, keep, seek}
use Rattle.paper.specs.Records.{kind, SESSION, KEY, PENDING, own, session, parent, operation, session_of, block, zeros}
use Rattle.paper.specs.Closing.{Keys, lost, key_goes, policy_goes, goes, key_unlocked, puk_unlocked, pending_on, stale, effect, held, holds, has_key, shut, sealed}
use Rattle.paper.specs.Pin.{clear}
use Rattle.paper.proofs.Forms.{cases}
use Rattle.laws.proofs.Choice.{choose, same_test}
use Rattle.laws.proofs.Inserting.{byte-zeros}
use Rattle.laws.proofs.Losses.{Going, a_key, a_policy, a_puk, a_session, who, going, named_key, keys_under, policies_under, keys_in, effect_is}
use Rattle.laws.proofs.Lists.{keep_still, block_in, block_out}

-- ---- an edit that leaves alone the records of which a statement holds, and makes no new ones

abbrev pub Keeps : (Rec → Form) → (Rec → Rec) → List Rec → Type 0
Keeps φ f rs = (x : Rec) → Memᴰ x rs → (Fact (φ x) → f x ≡ x) × (Fact (φ (f x)) → Fact (φ x))

pub keep_kept : (φ : Rec → Form) (f : Rec → Rec) (rs : List Rec) → Keeps φ f rs → keep φ (map f rs) ≡ keep φ rs
keep_kept φ f rs h = keep_still φ f rs (λ x m. (h x m).0) (λ x m. (h x m).1)

pub seek_kept : (φ : Rec → Form) (f : Rec → Rec) (rs : List Rec) → Keeps φ f rs → seek φ (map f rs) ≡ seek φ rs
seek_kept φ f [] h = refl
seek_kept φ f (x ∷ rs) h = go (cases (φ x) (λ p. inl p) (λ n. inr n)) (seek_kept φ f rs (λ y m. h y (Memᴰ.tail m)))
  where
    k : (Fact (φ x) → f x ≡ x) × (Fact (φ (f x)) → Fact (φ x))
    k = h x (Memᴰ.head refl)

    go : Fact (φ x) ⊎ (Fact (φ x) → ⊥) → seek φ (map f rs) ≡ seek φ rs → cond (test (φ (f x))) (f x) (seek φ (map f rs)) ≡ cond (test (φ x)) x (seek φ rs)
    go (inl p) e = rw (k.0 p, e)
    go (inr n) e = choose (λ (l : Rec). l ≡ cond (test (φ x)) x (seek φ rs)) (φ (f x)) (f x) (seek φ (map f rs)) (λ p. absurd (n (k.1 p)))
        (λ m. choose (λ (l : Rec). seek φ (map f rs) ≡ l) (φ x) x (seek φ rs) (λ p. absurd (n p)) (λ m. e))

-- ---- one session's records are all that the effect on a record of it looks at

module _ (t : ℕ) (rs rs' : List Rec) (same_block : block t rs ≡ block t rs') where
  -- a record of the session that is there, is there in the other list
  over_there : (x : Rec) → Memᴰ x rs → session x ≡ t → Memᴰ x rs'
  over_there x m e = (block_out t rs' (subst (λ (l : List Rec). Memᴰ x l) same_block (block_in t rs m e))).0

  some_there : (φ ψ : Rec → Form) → ((x : Rec) → Fact (φ x) → session x ≡ t) → ((x : Rec) → session x ≡ t → Fact (φ x) → Fact (ψ x)) → Fact (some rs φ) → Fact (some rs' ψ)
  some_there φ ψ h k (x, m, p) = (x, over_there x m (h x p), k x (h x p) p)

  over-back : (x : Rec) → Memᴰ x rs' → session x ≡ t → Memᴰ x rs
  over-back x m e = (block_out t rs (subst (λ (l : List Rec). Memᴰ x l) (sym same_block) (block_in t rs' m e))).0

  lost_there : (such g g' : Rec → Form) → ((x : Rec) → Fact (such x) → session x ≡ t) → ((x : Rec) → session x ≡ t → (Fact (g x) → Fact (g' x)) × (Fact (g' x) → Fact (g x)))
      → Fact (lost rs such g) → Fact (lost rs' such g')
  lost_there such g g' h k ((x, m, p), n) =
      ((x, over_there x m (h x p.0), (p.0, (k x (h x p.0)).0 p.1)), λ (y, l, q). n (y, over-back y l (h y q.0), (q.0, λ i. q.1 ((k y (h y q.0)).0 i))))

  module _ (d u : Keys) where
    policy_there : (x : Rec) → session x ≡ t → Fact (policy_goes d rs x) → Fact (policy_goes d rs' x)
    policy_there x e (k, l) =
        (k, lost_there (keys_under x) (key_goes d rs) (key_goes d rs') (λ y p. p.1.1 ∙ e) (λ y i. ((λ g. g), λ g. g)) l)

module _ (t : ℕ) (rs rs' : List Rec) (same_block : block t rs ≡ block t rs') (d u : Keys) where
  policy_both : (x : Rec) → session x ≡ t → (Fact (policy_goes d rs x) → Fact (policy_goes d rs' x)) × (Fact (policy_goes d rs' x) → Fact (policy_goes d rs x))
  policy_both x e = (policy_there t rs rs' same_block d u x e, policy_there t rs' rs (sym same_block) d u x e)

  going_there : (x : Rec) → session x ≡ t → (kind x ≡ SESSION → own x ≡ session x) → Going d rs x → Going d rs' x
  going_there x e o (a_key g) = a_key g
  going_there x e o (a_policy g) = a_policy ((policy_both x e).0 g)
  going_there x e o (a_puk (k, l)) = a_puk (k, lost_there t rs rs' same_block (policies_under x) (policy_goes d rs) (policy_goes d rs') (λ y p. p.1.1 ∙ e) policy_both l)
  going_there x e o (a_session (k, (c, l))) =
      a_session (k, (c, lost_there t rs rs' same_block (keys_in x) (key_goes d rs) (key_goes d rs') (λ y p. p.1 ∙ o k ∙ e) (λ y i. ((λ g. g), λ g. g)) l))

  goes_there : (x : Rec) → session x ≡ t → (kind x ≡ SESSION → own x ≡ session x) → Fact (goes d rs x) → Fact (goes d rs' x)
  goes_there x e o g = going d rs' x (going_there x e o (who d rs x g))

  helped_there : (x : Rec) → session x ≡ t → Fact (puk_unlocked u rs x) → Fact (puk_unlocked u rs' x)
  helped_there x e (k, (p, m, (a, (b, (c, (y, l, w)))))) =
      (k, (p, over_there t rs rs' same_block p m (c ∙ e), (a, (b, (c, (y, over_there t rs rs' same_block y l (w.1.1 ∙ e), w))))))

-- the effect on a record, by its session's records
pub effect_local : (d u : Keys) (rs rs' : List Rec) (x : Rec) → block (session x) rs ≡ block (session x) rs' → (kind x ≡ SESSION → own x ≡ session x)
    → effect d u rs x ≡ effect d u rs' x
unfolding effect
effect_local d u rs rs' x e o =
    ap₂ (λ (g h : Bool). cond g zeros (cond (test (key_unlocked u x)) (clear 2 x) (cond h (clear 3 x) (cond (test (pending_on d x or pending_on u x)) (stale x) x))))
    (same_test (goes d rs x) (goes d rs' x) (goes_there (session x) rs rs' e d u x refl o) (goes_there (session x) rs' rs (sym e) d u x refl o))
    (same_test (puk_unlocked u rs x) (puk_unlocked u rs' x) (helped_there (session x) rs rs' e d u x refl) (helped_there (session x) rs' rs (sym e) d u x refl))

-- what a session holds, and whether it has a key, by its own records
pub holds_local : (s op : ℕ) (rs rs' : List Rec) → block s rs ≡ block s rs' → holds s op rs ≡ holds s op rs'
holds_local s op rs rs' e = λ i k. at k i
  where
    at : (k : ℕ) → holds s op rs k ≡ holds s op rs' k
    at k = unfold holds in same_test (some rs (λ q. held s k q and operation q equals op)) (some rs' (λ q. held s k q and operation q equals op))
        (some_there s rs rs' e (λ q. held s k q and operation q equals op) (λ q. held s k q and operation q equals op) (λ x p. p.0.1.0) (λ x i p. p))
        (some_there s rs' rs (sym e) (λ q. held s k q and operation q equals op) (λ q. held s k q and operation q equals op) (λ x p. p.0.1.0) (λ x i p. p))

pub sealed_by : (s : ℕ) (rs rs' : List Rec) → (Fact (has_key s rs) → Fact (has_key s rs')) → (Fact (has_key s rs') → Fact (has_key s rs)) → (x : Rec) → sealed s rs x ≡ sealed s rs' x
unfolding sealed
sealed_by s rs rs' f g x =
    ap (λ (b : Bool). cond (test (kind x equals PENDING)) zeros (cond (test (kind x equals SESSION)) (cond b (shut x) zeros) x)) (same_test (has_key s rs) (has_key s rs') f g)

pub sealed_local : (s : ℕ) (rs rs' : List Rec) → block s rs ≡ block s rs' → (x : Rec) → sealed s rs x ≡ sealed s rs' x
sealed_local s rs rs' e x = sealed_by s rs rs'
    (some_there s rs rs' e (λ y. kind y equals KEY and session y equals s) (λ y. kind y equals KEY and session y equals s) (λ y p. p.1) (λ y i p. p))
    (some_there s rs' rs (sym e) (λ y. kind y equals KEY and session y equals s) (λ y. kind y equals KEY and session y equals s) (λ y p. p.1) (λ y i p. p)) x

-- a session none of whose keys is removed or unlocked: its records stay as they are
abbrev pub Off : ℕ → Keys → Type 0
Off t d = (k : ℕ) → d k ≡ true → session_of k ≡ t → ⊥

abbrev pub Homed : ℕ → List Rec → Type 0
Homed t rs = (x : Rec) → Memᴰ x rs → kind x ≡ KEY → session x ≡ t → session_of (own x) ≡ t

pub effect_still : (t : ℕ) (d u : Keys) (rs : List Rec) → Homed t rs → Off t d → Off t u → (x : Rec) → session x ≡ t
    → (kind x ≡ KEY → session_of (own x) ≡ t) → (kind x ≡ SESSION → own x ≡ t) → (kind x ≡ PENDING → (d (parent x) ≡ true → ⊥) × (u (parent x) ≡ true → ⊥))
    → effect d u rs x ≡ x
effect_still t d u rs home od ou x e hk hs hp =
    effect_is d u rs Is x (λ g. absurd (stays g)) (λ n g. absurd (ou (own x) g.1 (hk g.0))) (λ n g. absurd (unhelped g)) (λ n g. absurd (unmarked g))
    (λ n k p q. refl)
  where
    Is : Rec → Type 0
    Is y = y ≡ x

    stays : Fact (goes d rs x) → ⊥
    stays g = let w = named_key d rs x g in od (own w.key) w.named (at w.there w.is (w.its t e hs))
      where
        at : {z : Rec} → (z ≡ x) ⊎ Memᴰ z rs → kind z ≡ KEY → session z ≡ t → session_of (own z) ≡ t
        at (inl i) k s = ap (λ (y : Rec). session_of (own y)) i ∙ hk (ap kind (sym i) ∙ k)
        at {z} (inr m) k s = home z m k s

    unhelped : Fact (puk_unlocked u rs x) → ⊥
    unhelped (k, (p, m, (a, (b, (c, (y, l, w)))))) = ou (own y) w.0.1 (home y l w.0.0 (w.1.1 ∙ e))

    unmarked : Fact (pending_on d x or pending_on u x) → ⊥
    unmarked (inl g) = (hp g.0).0 g.1
    unmarked (inr g) = (hp g.0).1 g.1

-- free places stay free
pub effect_free : (d u : Keys) (rs : List Rec) → effect d u rs zeros ≡ zeros
effect_free d u rs =
    let z = byte-zeros 0 in
    effect_is d u rs (λ y. y ≡ zeros) zeros (λ g. refl) (λ n g. absurd (let k = g.0 in omega arith)) (λ n g. absurd (let k = g.0 in omega arith))
    (λ n g. absurd (unmarked g)) (λ n k p q. refl)
  where
    unmarked : Fact (pending_on d zeros or pending_on u zeros) → ⊥
    unmarked (inl g) = let k = g.0 in let z = byte-zeros 0 in omega arith
    unmarked (inr g) = let k = g.0 in let z = byte-zeros 0 in omega arith
