-- Marks and homes: a mark says whether the key is of the set, and where no key of the set is at home nothing goes and no PUK is unlocked.
use mathlib.Core.Bool.{Bool, true, false, cond, not, beq, ◌&&◌, ◌||◌, and-false}
use mathlib.Core.Path.{◌≡◌, refl, sym, ◌∙◌}
use mathlib.Core.List.{List, [], ◌∷◌}
use Prim.Native.Nat.{ℕ, suc, ◌+◌, ◌≤◌, ◌<◌}
use native.Mathlib.Omega.{arith}
use borrow.Author.Tests.{eq-eqb, ne_eqb}
use lib.Dec.{eqb}
use lib.ListN.{length, get_or}
use Rattle.std.proofs.lemmas.List.{get_or_past}
use Rattle.std.specs.Int.{from_bool}
use Rattle.paper.specs.Bytes.{byte}
use Rattle.paper.specs.Form.{Rec, Form, ◌equals◌, ◌=<◌, ◌and◌, test, exists}
use Rattle.paper.specs.Records.{records, kind, own, session, parent, state, SESSION, CLOSED, PUK, POLICY, KEY, PENDING}
use Rattle.paper.specs.Closing.{Keys as Set, key_goes, policy_goes, puk_goes, session_goes, key_unlocked, puk_unlocked}
use Rattle.paper.proofs.Forms.{both, cases, contrary}
use Rattle.effect_plan.specs.declared.Homes.{Homes}
use Rattle.effect_plan.specs.declared.Homes.TheVariants.{Few}
use Rattle.effect_plan.specs.declared.Under.TheVariants.{Policy, Session}
use Rattle.effect_plan.specs.declared.Lot.TheVariants.{Unlocked}
use Rattle.effect_plan.specs.declared.Under.{Under}
use Rattle.effect_plan.specs.declared.Fate.TheVariants.{Stays, Freed, KeyCleared, PukCleared, MadeStale}
use Rattle.effect_plan.specs.Fate.{fate}
use Rattle.effect_plan.specs.Sets.{mark, Marked, homes_of, Widened, Extended, AtHome, AllHome, home_of, under, turned, policy_so, parent_goes}
use Rattle.effect_plan.proofs.Scans.{puk_unlocked_lem}

pub never_true : (b : Bool) → (b ≡ true → ⊥) → b ≡ false
never_true true n = absurd (n refl)
never_true false n = refl

-- ---- marks

mark-is : (b : Bool) → eqb (cond b 1 0) 1 ≡ b
mark-is true = refl
mark-is false = refl

-- a record's mark, by its kind
module _ (d : Set) (x : Rec) where
  pub mark_key : kind x ≡ KEY → from_bool (d (own x)) ≡ mark d x
  unfolding mark
  mark_key e = rw e (go (d (own x)))
    where
      go : (a : Bool) → from_bool a ≡ cond (a || false) 1 0
      go true = refl
      go false = refl

  pub mark_pending : kind x ≡ PENDING → from_bool (d (parent x)) ≡ mark d x
  unfolding mark
  mark_pending e = rw e (go (d (parent x)))
    where
      go : (a : Bool) → from_bool a ≡ cond a 1 0
      go true = refl
      go false = refl

  pub mark_other : (kind x ≡ KEY → ⊥) → (kind x ≡ PENDING → ⊥) → 0 ≡ mark d x
  unfolding mark
  mark_other e f = rw (ne_eqb (kind x) KEY e, ne_eqb (kind x) PENDING f)

-- a marked key is one of the set
pub marked_key : {d : Set} {rs : List Rec} {m : List ℕ} → Marked d rs m → (j : ℕ) → j < length rs
    → (eqb (byte j m) 1 && eqb (kind (get_or rs j [])) KEY) ≡ test (key_goes d rs (get_or rs j []))
unfolding mark
marked_key {d} {rs} {m} w j l = rw (w.at j l, mark-is) (cases (kind (get_or rs j []) equals KEY) (λ e. rw e (go (d (own (get_or rs j []))))) (λ n. rw (ne_eqb (kind (get_or rs j [])) KEY n, and-false)))
  where
    go : (a : Bool) → ((a || false) && true) ≡ a
    go true = refl
    go false = refl

-- a key of a policy or a session is a record of the store
pub key_there : (u : Under) (rs : List Rec) (i : ℕ) → test (under u (get_or rs i [])) ≡ true → i < length rs
unfolding byte
key_there u rs i t = cases (length rs =< i) (λ h. absurd (none u (rw (get_or_past rs i [] h) at t))) (λ n. omega arith)
  where
    none : (v : Under) → test (under v []) ≡ true → ⊥
    none (Policy p s) e = contrary (sym e)
    none (Session s) e = contrary (sym e)

-- a key that goes where it is asked whether it goes, or stays where it is asked whether it stays
pub gone_or_kept : (gone : Bool) (φ : Form) → beq (test φ) gone ≡ test (turned gone φ)
gone_or_kept true φ = go (test φ)
  where
    go : (b : Bool) → beq b true ≡ b
    go true = refl
    go false = refl
gone_or_kept false φ = go (test φ)
  where
    go : (b : Bool) → beq b false ≡ not b
    go true = refl
    go false = refl

-- what becomes of a record, by its kind and its marks
module _ (d u : Set) (rs : List Rec) (x : Rec) where
  pub fate_key : (a b : ℕ) → kind x ≡ KEY → a ≡ mark d x → b ≡ mark u x → cond (eqb a 1) Freed (cond (eqb b 1) KeyCleared Stays) ≡ fate d u rs x
  unfolding fate mark
  fate_key a b e f g = rw (f, g, e) (go (d (own x)) (u (own x)))
    where
      go : (a b : Bool) → cond (eqb (cond (a || false) 1 0) 1) Freed (cond (eqb (cond (b || false) 1 0) 1) KeyCleared Stays) ≡ cond (a || false) Freed (cond b KeyCleared Stays)
      go true b = refl
      go false true = refl
      go false false = refl

  pub fate_pending : (a b : ℕ) → kind x ≡ PENDING → a ≡ mark d x → b ≡ mark u x → cond (eqb a 1 || eqb b 1) MadeStale Stays ≡ fate d u rs x
  unfolding fate mark
  fate_pending a b e f g = rw (f, g, e, mark-is, mark-is)

  pub fate-parent : (kind x ≡ KEY → ⊥) → (kind x ≡ PENDING → ⊥) → cond (test (parent_goes d rs x)) Freed (cond (test (puk_unlocked u rs x)) PukCleared Stays) ≡ fate d u rs x
  unfolding fate
  fate-parent e f = rw (ne_eqb (kind x) KEY e, ne_eqb (kind x) PENDING f)

-- ---- homes

module _ (a b c s : ℕ) where
  pub first_free : a ≡ b → Widened s (homes_of (Few a b c)) (homes_of (Few s b c))
  first_free e = record { kept = λ k. rw e (go (eqb k s) (eqb k b) (eqb k c)); added = rw (eq-eqb s s refl) }
    where
      go : (x y z : Bool) → ((y || y) || z) ≡ true → ((x || y) || z) ≡ true
      go true y z h = refl
      go false true z h = refl
      go false false z h = h

  pub second_free : b ≡ c → Widened s (homes_of (Few a b c)) (homes_of (Few a s c))
  second_free e = record { kept = λ k. rw e (go (eqb k a) (eqb k s) (eqb k c)); added = rw (eq-eqb s s refl) (last (eqb s a) (eqb s c)) }
    where
      go : (x y z : Bool) → ((x || z) || z) ≡ true → ((x || y) || z) ≡ true
      go true y z h = refl
      go false true z h = refl
      go false false true h = refl
      go false false false h = h

      last : (x y : Bool) → ((x || true) || y) ≡ true
      last true y = refl
      last false y = refl

-- the sessions of the keys among the first i records
abbrev pub HomesTo : List ℕ → List ℕ → Homes → ℕ → Type 0
HomesTo t m hs i = (d : Set) → Marked d (records t) m → (j : ℕ) → j < i → j < length (records t) → test (key_unlocked d (get_or (records t) j [])) ≡ true → homes_of hs (session (get_or (records t) j [])) ≡ true

pub home_next : (t m : List ℕ) (hs gs : Homes) (i : ℕ) → HomesTo t m hs i
    → Extended (eqb (byte i m) 1 && eqb (kind (get_or (records t) i [])) KEY) (session (get_or (records t) i [])) (homes_of hs) (homes_of gs) → HomesTo t m gs (i + 1)
home_next t m hs gs i inv w = λ d k j l n q. cases (j equals i) (λ f. rw f (w.added (marked_key k i (rw f at n) ∙ rw f at q))) (λ f. w.kept _ (inv d k j (omega arith) n q))

pub homes_done : (t m : List ℕ) (hs : Homes) (i : ℕ) → HomesTo t m hs i → length (records t) ≤ i → AllHome (records t) m hs
homes_done t m hs i inv h = λ d k. record { at = λ j l q. inv d k j (omega arith) l q }

-- ---- where no key of the set is at home

exists_false : (p : Rec → Bool) → ((x : Rec) → p x ≡ false) → (rs : List Rec) → exists p rs ≡ false
exists_false p h [] = refl
exists_false p h (x ∷ rs) = rw (h x, exists_false p h rs)

pub exists_nowhere : (p : Rec → Bool) (rs : List Rec) → ((j : ℕ) → j < length rs → p (get_or rs j []) ≡ false) → exists p rs ≡ false
exists_nowhere p [] h = refl
exists_nowhere p (x ∷ rs) h = rw (h 0 (omega arith), exists_nowhere p rs (λ j l. h (suc j) (omega arith)))

module _ {d : Set} {rs : List Rec} {h : Set} (w : AtHome d rs h) (s : ℕ) (e : h s ≡ false) where
  no_key : (such : Rec → Form) → ((x : Rec) → test (such x) ≡ true → session x ≡ s) → exists (λ x. test (such x) && test (key_goes d rs x)) rs ≡ false
  no_key such f = exists_nowhere _ rs (λ j l. go (get_or rs j []) (w.at j l))
    where
      go : (x : Rec) → (test (key_unlocked d x) ≡ true → h (session x) ≡ true) → (test (such x) && test (key_goes d rs x)) ≡ false
      go x g = never_true _ (λ t. let z : ◌≡◌ {A = Bool} true false = sym (g (right (test (such x)) (test (key_goes d rs x)) t)) ∙ rw (f x (left (test (such x)) (test (key_goes d rs x)) t)) e in let y : ◌≡◌ {A = ℕ} 0 1 = cc in omega arith)
        where
          left : (a b : Bool) → (a && b) ≡ true → a ≡ true
          left true b q = refl
          left false b q = q

          right : (a b : Bool) → (a && b) ≡ true → b ≡ true
          right true b q = q
          right false b q = cc

  far_policy : (r : Rec) → session r ≡ s → test (policy_goes d rs r) ≡ false
  far_policy r q = let φ : Rec → Form = λ x. kind x equals KEY and parent x equals own r and session x equals session r in rw (no_key φ (λ x t. ((both (φ x)).0 t).1.1 ∙ q)) (and-false (eqb (kind r) POLICY))

  far_session : (r : Rec) → own r ≡ s → test (session_goes d rs r) ≡ false
  far_session r q = let φ : Rec → Form = λ x. kind x equals KEY and session x equals own r in rw (no_key φ (λ x t. ((both (φ x)).0 t).1 ∙ q), and-false (eqb (state r) CLOSED)) (and-false (eqb (kind r) SESSION))

  far_puk : (r : Rec) → session r ≡ s → test (puk_goes d rs r) ≡ false
  far_puk r q = rw (exists_false (λ x. test (φ x) && test (policy_goes d rs x)) (λ x. go x (test (φ x)) refl) rs) (and-false (eqb (kind r) PUK))
    where
      φ : Rec → Form
      φ x = kind x equals POLICY and parent x equals own r and session x equals session r

      go : (x : Rec) (b : Bool) → test (φ x) ≡ b → (b && test (policy_goes d rs x)) ≡ false
      go x true t = far_policy x (((both (φ x)).0 t).1.1 ∙ q)
      go x false t = refl

  pub far_unlocked : (r : Rec) → session r ≡ s → test (puk_unlocked d rs r) ≡ false
  far_unlocked r q = puk_unlocked_lem d rs r ∙ rw (exists_false (λ p. test (policy_so d rs (own r) (session r) Unlocked p)) (λ p. rw (no_key (under (Policy (own p) (session r))) (λ x t. ((both (under (Policy (own p) (session r)) x)).0 t).1.1 ∙ q)) (and-false (test (kind p equals POLICY and parent p equals own r and session p equals session r)))) rs) (and-false (eqb (kind r) PUK))

pub far_parent : {d : Set} {rs : List Rec} {h : Set} → AtHome d rs h → (r : Rec) → h (home_of r) ≡ false → test (parent_goes d rs r) ≡ false
far_parent {d} {rs} {h} w r e = cases (kind r equals SESSION) is-session no_session
  where
    no_policy : kind r ≡ SESSION → test (policy_goes d rs r) ≡ false
    no_policy k = rw k

    no_puk : kind r ≡ SESSION → test (puk_goes d rs r) ≡ false
    no_puk k = rw k

    is-session : kind r ≡ SESSION → test (parent_goes d rs r) ≡ false
    is-session k = let f : h (own r) ≡ false = rw k at e in rw (no_policy k, no_puk k, far_session w (own r) f r refl)

    no_session : (kind r ≡ SESSION → ⊥) → test (parent_goes d rs r) ≡ false
    no_session n = let k = ne_eqb (kind r) SESSION n in let f : h (session r) ≡ false = rw k at e in rw (far_policy w (session r) f r refl, far_puk w (session r) f r refl, k)
