-- What a session call comes to, as one edit of every record and one new record; and to whom that keeps.
use mathlib.Core.Path.{◌≡◌, refl, sym, ap, ◌∙◌, subst}
use mathlib.Core.Bool.{Bool, true, false, cond}
use mathlib.Core.List.Memᴰ
use mathlib.Core.List.{List, map, Memᴰ}
use mathlib.Core.Option.{Option, none, some as just}
use mathlib.Core.Logic.{◌⊎◌, inl, inr}
use Prim.Native.Nat.{ℕ}
use native.Mathlib.Omega.{arith}
use Rattle.paper.specs.Form.{Rec, Form, ◌equals◌, some, Fact, only, keep, seek}
use Rattle.paper.specs.Records.{own, session, bears, zeros, is_free, room}
use Rattle.paper.specs.Closing.{closing, holds}
use Rattle.paper.specs.Act.{Act, refuse, inside, close, perform, wiped, placed, fits_in}
use Rattle.paper.proofs.Forms.{both, cases}
use Rattle.laws.proofs.Choice.{fails, only-is, only_out}
use Rattle.laws.proofs.Edits.{shut-state}
use Rattle.laws.proofs.Stores.{Whole}
use Rattle.laws.proofs.Inserting.{byte-zeros, four-zeros, free_is, free_zeros, mem_insert, keep-insert, seek-insert}
use Rattle.rule.proofs.KeepsToSession.{Mild, Born, KeepsTo}
use Rattle.rule.proofs.ClosedRecord.{struck, closing-is, closing_out, sealed-is, shut-session}
use Rattle.rule.proofs.SessionFate.{live, gentle_of, effect_harmless, effect-session}
use Rattle.rule.proofs.LocalEffect.{Keeps, effect_free}

abbrev pub edit_of : ℕ → Act → List Rec → Rec → Rec
edit_of s (refuse n) rs = only (bears s) (λ r. zeros)
edit_of s (inside h t g new) rs = only (bears s) g
edit_of s (close t) rs = closing s rs

abbrev pub new_of : Act → Option Rec
new_of (refuse n) = none
new_of (inside h t g new) = new
new_of (close t) = none

abbrev pub Closing : Act → Type 0
Closing (refuse n) = ⊥
Closing (inside h t g new) = ⊥
Closing (close t) = Unit {0}

abbrev pub Roomy : Act → List Rec → Type 0
Roomy act rs = fits_in (new_of act) rs ≡ true

abbrev pub outcome : ℕ → Act → List Rec → List Rec
outcome s act rs = placed (new_of act) (map (edit_of s act rs) rs)

-- ---- performing

module _ (s : ℕ) where
  pub roomy : (act : Act) (rs : List Rec) → ((perform s act rs).status ≡ 2 → ⊥) → Roomy act rs
  unfolding perform
  roomy (refuse n) rs h = refl
  roomy (close t) rs h = refl
  roomy (inside k t g new) rs h = go (fits_in new rs) h
    where
      go : (b : Bool) → ((cond b (record { status = 0; handle = k; attestation = t; store = placed new (map (only (bears s) g) rs) }) (wiped s 2 rs)).status ≡ 2 → ⊥) → b ≡ true
      go true i = refl
      go false i = absurd (i refl)

  pub store_is : (act : Act) (rs : List Rec) → Roomy act rs → (perform s act rs).store ≡ outcome s act rs
  unfolding perform
  store_is (refuse n) rs h = refl
  store_is (close t) rs h = refl
  store_is (inside k t g new) rs h = rw h

  -- the reply does not hang on the store
  pub reply_is : (act : Act) (rs rs' : List Rec) → Roomy act rs → Roomy act rs'
      → ((perform s act rs).status ≡ (perform s act rs').status) × ((perform s act rs).handle ≡ (perform s act rs').handle) × ((perform s act rs).attestation ≡ (perform s act rs').attestation)
  unfolding perform
  reply_is (refuse n) rs rs' h h' = (refl, refl, refl)
  reply_is (close t) rs rs' h h' = (refl, refl, refl)
  reply_is (inside k t g new) rs rs' h h' = rw (h, h') (refl, refl, refl)

-- ---- to whom an edit keeps

module _ (s : ℕ) (asks : ℕ → Type 0) where
  pub edit_away : (act : Act) → (Closing act → ⊥) → (rs : List Rec) (x : Rec) → (session x ≡ s → ⊥) → edit_of s act rs x ≡ x
  edit_away (refuse n) c rs x h = only_out (bears s) (λ r. zeros) x h
  edit_away (inside k t g new) c rs x h = only_out (bears s) g x h
  edit_away (close t) c rs x h = absurd (c tt)

  abbrev Same' : Rec → Rec → Type 0
  Same' x y = (session y ≡ session x) ⊎ (y ≡ zeros)

  own-session : (g : Rec → Rec) (new : Option Rec) → (((x : Rec) → g x ≡ zeros) × (new ≡ none)) ⊎ (((x : Rec) → Mild x (g x)) × Born s asks new) → (x : Rec) → Same' x (g x)
  own-session g new (inl (z, n)) x = inr (z x)
  own-session g new (inr (m, n)) x = inl (m x).session=

  pub edit_session : (act : Act) → KeepsTo s asks act → (rs : List Rec) (x : Rec) → (session (edit_of s act rs x) ≡ session x) ⊎ (edit_of s act rs x ≡ zeros)
  edit_session (refuse n) t rs x = only-is (Same' x) (bears s) (λ r. zeros) x (λ i. inr refl) (λ i. inl refl)
  edit_session (inside k t' g new) t rs x = only-is (Same' x) (bears s) g x (λ i. own-session g new t x) (λ i. inl refl)
  edit_session (close t') t rs x = closing-is s rs (Same' x) x
      (λ e. sealed-is s rs (Same' x) x (λ k. inr refl) (λ k h. inl (shut-session x)) (λ k h. inr refl) (λ i j. inl refl))
      (λ n. effect-session (holds s 50 rs) (holds s 51 rs) rs x)

  pub edit_free : (s ≡ 0 → ⊥) → (act : Act) (rs : List Rec) → edit_of s act rs zeros ≡ zeros
  edit_free z (refuse n) rs = only_out (bears s) (λ r. zeros) zeros (λ e. z (sym e ∙ four-zeros 8))
  edit_free z (inside k t g new) rs = only_out (bears s) g zeros (λ e. z (sym e ∙ four-zeros 8))
  edit_free z (close t) rs = closing_out s rs zeros (λ e. z (sym e ∙ four-zeros 8)) ∙ effect_free (holds s 50 rs) (holds s 51 rs) rs

  pub born : (act : Act) → KeepsTo s asks act → Born s asks (new_of act)
  born (refuse n) t = tt
  born (close t') t = tt
  born (inside k t' g new) (inl (z, n)) = rw n tt
  born (inside k t' g new) (inr (m, n)) = n

  -- an edit keeps to what it does not touch
  pub edit_keeps : (act : Act) → KeepsTo s asks act → (φ : Rec → Form) → ((x : Rec) → Fact (φ x) → session x ≡ s → ⊥) → (Fact (φ zeros) → ⊥) → (rs rs' : List Rec)
      → ((x : Rec) → Memᴰ x rs → Fact (φ x) → edit_of s act rs' x ≡ x)
      → ((x : Rec) → Memᴰ x rs → (session x ≡ s → ⊥) → Fact (φ (edit_of s act rs' x)) → Fact (φ x)) → Keeps φ (edit_of s act rs') rs
  edit_keeps act t φ off z rs rs' stay back x m = (stay x m, λ p. cases (session x equals s) (λ e. absurd (own e p (edit_session act t rs' x))) (λ n. back x m n p))
    where
      own : session x ≡ s → Fact (φ (edit_of s act rs' x)) → Same' x (edit_of s act rs' x) → ⊥
      own e p (inl i) = off (edit_of s act rs' x) p (i ∙ e)
      own e p (inr i) = z (subst (λ y. Fact (φ y)) i p)

-- a new record of which the statement does not hold
pub keep-placed : (φ : Rec → Form) (n : Option Rec) (s : ℕ) (asks : ℕ → Type 0) → Born s asks n → ((x : Rec) → Fact (φ x) → session x ≡ s → ⊥) → (Fact (φ zeros) → ⊥)
    → (rs : List Rec) → keep φ (placed n rs) ≡ keep φ rs
keep-placed φ none s asks b off z rs = refl
keep-placed φ (just n) s asks b off z rs = keep-insert φ n rs (fails (φ n) (λ p. off n p b.session=)) (fails (φ zeros) z)

pub seek-placed : (φ : Rec → Form) (n : Option Rec) (s : ℕ) (asks : ℕ → Type 0) → Born s asks n → ((x : Rec) → Fact (φ x) → session x ≡ s → ⊥) → (Fact (φ zeros) → ⊥)
    → (rs : List Rec) → seek φ (placed n rs) ≡ seek φ rs
seek-placed φ none s asks b off z rs = refl
seek-placed φ (just n) s asks b off z rs = seek-insert φ n rs (fails (φ n) (λ p. off n p b.session=)) (fails (φ zeros) z)

-- who is there afterwards
pub mem_placed : (n : Option Rec) (rs : List Rec) {x : Rec} → Memᴰ x (placed n rs) → (n ≡ just x) ⊎ Memᴰ x rs
mem_placed none rs m = inr m
mem_placed (just n) rs {x} m = go (mem_insert n rs m)
  where
    go : (x ≡ n) ⊎ Memᴰ x rs → (◌≡◌ {A = Option Rec} (just n) (just x)) ⊎ Memᴰ x rs
    go (inl e) = inl (ap just (sym e))
    go (inr w) = inr w

-- room stays where free places stay free
pub room-map : (f : Rec → Rec) → f zeros ≡ zeros → (n : Option Rec) (rs : List Rec) → fits_in n rs ≡ true → fits_in n (map f rs) ≡ true
room-map f e none rs h = refl
room-map f e (just n) rs h =
    let w = (both (room rs)).0 h in
    (both (room (map f rs))).1 (f w.0, Memᴰ.map f w.1, ap is_free (ap f (free_is w.0 w.2) ∙ e) ∙ free_zeros)

-- ---- no act opens a session

module _ (s a : ℕ) (asks : ℕ → Type 0) (rs : List Rec) (whole : Whole rs) where
  abbrev Before : Rec → Rec → Type 0
  Before x y = Fact (live a y) → Fact (live a x)

  free_shut : (x : Rec) → Before x zeros
  free_shut x p = absurd (let i = p.0.0 in let j = byte-zeros 0 in omega arith)

  edit_opens : (act : Act) → KeepsTo s asks act → (x : Rec) → Memᴰ x rs → Before x (edit_of s act rs x)
  edit_opens (refuse n) t x m = only-is (Before x) (bears s) (λ r. zeros) x (λ i. free_shut x) (λ i p. p)
  edit_opens (inside k t' g new) t x m = only-is (Before x) (bears s) g x (λ i. inner t) (λ i p. p)
    where
      inner : (((x : Rec) → g x ≡ zeros) × (new ≡ none)) ⊎ (((x : Rec) → Mild x (g x)) × Born s asks new) → Before x (g x)
      inner (inl (z, n)) = rw (z x) (free_shut x)
      inner (inr (w, n)) = λ p.
          let m = w x in
          let k = sym m.kind= ∙ p.0.0 in
          ((k, (sym m.own= ∙ p.0.1.0, sym m.session= ∙ p.0.1.1)), sym (m.state= k) ∙ p.1)
  edit_opens (close t') t x m = closing-is s rs (Before x) x
      (λ e. sealed-is s rs (Before x) x (λ k. free_shut x) (λ k h p. absurd (let c = shut-state x (let l = whole x m in omega arith) in let o = p.1 in omega arith))
      (λ k h. free_shut x) (λ i j p. p))
      (λ n. (gentle_of a (struck s rs) rs whole (λ y l. effect_harmless (holds s 50 rs) (holds s 51 rs) rs y)).opens x m)

  pub outcome_opens : (act : Act) → KeepsTo s asks act → Fact (some (outcome s act rs) (live a)) → Fact (some rs (live a))
  outcome_opens act t (y, m, p) = go (new_of act) (born s asks act t) (mem_placed (new_of act) (map (edit_of s act rs) rs) m)
    where
      old : Memᴰ y (map (edit_of s act rs) rs) → Fact (some rs (live a))
      old w = let o = Memᴰ.of_map (edit_of s act rs) rs w in (o.0, o.1, edit_opens act t o.0 o.1 (subst (λ z. Fact (live a z)) (sym o.2) p))

      D : Option Rec → Type 0
      D none = Unit {0}
      D (just x) = ⊥

      go : (n : Option Rec) → Born s asks n → (n ≡ just y) ⊎ Memᴰ y (map (edit_of s act rs) rs) → Fact (some rs (live a))
      go n b (inr w) = old w
      go none b (inl e) = absurd (subst D e tt)
      go (just n) b (inl e) = absurd (let l = (subst (λ (o : Option Rec). Born s asks o) e b).least in let k = p.0.0 in omega arith)
