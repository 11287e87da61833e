-- The two readings of a statement agree: its test computes to true exactly where its fact holds. One law a connective.
use mathlib.Core.Path.{◌≡◌, refl, sym, subst}
use mathlib.Core.Bool.{Bool, true, false, not, ◌&&◌, ◌||◌, cond}
use mathlib.Core.List.Memᴰ
use mathlib.Core.List.{List, [], ◌∷◌, Memᴰ}
use mathlib.Core.Logic.{◌⊎◌, inl, inr}
use Prim.Native.Nat.{ℕ}
use borrow.Author.Tests.{eqb-true, eq-eqb, leb-true, le-leb}
use Rattle.paper.specs.Form.{Rec, Form, ◌equals◌, ◌=<◌, say, no, ◌and◌, ◌or◌, ◌then◌, each, some, apart, every, exists, pairs, Pairs, test, Fact, Fault, ◌gives◌, settle}

pub contrary {ℓ} : {C : Type ℓ} → true ≡ false → C
contrary e = absurd (subst D e tt)
  where
    D : Bool → Type 0
    D true = Unit {0}
    D false = ⊥

-- a test and a fact that stand for the same
abbrev pub Agree : Bool → Type 0 → Type 0
Agree b P = (b ≡ true → P) × (P → b ≡ true)

-- a test is true or false, and the fact holds or not
pub decided : {P C : Type 0} (b : Bool) → Agree b P → (P → C) → ((P → ⊥) → C) → C
decided true a f g = f (a.0 refl)
decided false a f g = g (λ p. contrary (sym (a.1 p)))

pub agree_not : {P : Type 0} (b : Bool) → Agree b P → Agree (not b) (P → ⊥)
agree_not true a = ((λ e p. contrary (sym e)), λ n. absurd (n (a.0 refl)))
agree_not false a = ((λ e p. contrary (sym (a.1 p))), λ n. refl)

pub agree_and : {P Q : Type 0} (b c : Bool) → Agree b P → Agree c Q → Agree (b && c) (P × Q)
agree_and true c a d = ((λ e. (a.0 refl, d.0 e)), λ p. d.1 p.1)
agree_and false c a d = ((λ e. contrary (sym e)), λ p. a.1 p.0)

pub agree_or : {P Q : Type 0} (b c : Bool) → Agree b P → Agree c Q → Agree (b || c) (P ⊎ Q)
agree_or {P} {Q} b c a d = (into b a, from b a)
  where
    into : (t : Bool) → Agree t P → (t || c) ≡ true → P ⊎ Q
    into true i e = inl (i.0 refl)
    into false i e = inr (d.0 e)

    right : (t : Bool) → c ≡ true → (t || c) ≡ true
    right true e = refl
    right false e = e

    from : (t : Bool) → Agree t P → P ⊎ Q → (t || c) ≡ true
    from t i (inl p) = rw (i.1 p)
    from t i (inr q) = right t (d.1 q)

pub agree_then : {P Q : Type 0} (b c : Bool) → Agree b P → Agree c Q → Agree (not b || c) (P → Q)
agree_then true c a d = ((λ e p. d.0 e), λ f. d.1 (f (a.0 refl)))
agree_then false c a d = ((λ e p. contrary (sym (a.1 p))), λ f. refl)

module _ (p : Rec → Bool) (P : Rec → Type 0) (h : (x : Rec) → Agree (p x) (P x)) where
  pub agree_every : (xs : List Rec) → Agree (every p xs) ((x : Rec) → Memᴰ x xs → P x)
  agree_every [] = ((λ e x m. absurd (Memᴰ.not-nil m)), λ f. refl)
  agree_every (y ∷ ys) =
      let both = agree_and (p y) (every p ys) (h y) (agree_every ys) in
      ((λ e x m. at (both.0 e) x (Memᴰ.cases_cons m)), λ f. both.1 (f y (Memᴰ.head refl), λ x m. f x (Memᴰ.tail m)))
    where
      at : P y × ((x : Rec) → Memᴰ x ys → P x) → (x : Rec) → (x ≡ y) ⊎ Memᴰ x ys → P x
      at w x (inl e) = subst P (sym e) w.0
      at w x (inr m) = w.1 x m

  pub agree_exists : (xs : List Rec) → Agree (exists p xs) ((x : Rec) × Memᴰ x xs × P x)
  agree_exists [] = ((λ e. contrary (sym e)), λ w. absurd (Memᴰ.not-nil w.1))
  agree_exists (y ∷ ys) =
      let both = agree_or (p y) (exists p ys) (h y) (agree_exists ys) in
      ((λ e. out (both.0 e)), λ w. both.1 (into w.0 w.2 (Memᴰ.cases_cons w.1)))
    where
      out : P y ⊎ ((x : Rec) × Memᴰ x ys × P x) → (x : Rec) × Memᴰ x (y ∷ ys) × P x
      out (inl q) = (y, Memᴰ.head refl, q)
      out (inr w) = (w.0, Memᴰ.tail w.1, w.2)

      into : (x : Rec) → P x → (x ≡ y) ⊎ Memᴰ x ys → P y ⊎ ((z : Rec) × Memᴰ z ys × P z)
      into x q (inl e) = inl (subst P e q)
      into x q (inr m) = inr (x, m, q)

pub agree_pairs : (p : Rec → Rec → Bool) (P : Rec → Rec → Type 0) → ((x y : Rec) → Agree (p x y) (P x y))
    → (xs : List Rec) → Agree (pairs p xs) (Pairs P xs)
agree_pairs p P h [] = ((λ e. tt), λ f. refl)
agree_pairs p P h (x ∷ xs) =
    agree_and (every (p x) xs) (pairs p xs) (agree_every (p x) (P x) (h x) xs) (agree_pairs p P h xs)

-- the two readings of every statement
pub both : (f : Form) → Agree (test f) (Fact f)
both (a equals b) = (eqb-true a b, eq-eqb a b)
both (a =< b) = (leb-true a b, le-leb a b)
both (say b) = ((λ e. e), λ e. e)
both (no f) = agree_not (test f) (both f)
both (f and g) = agree_and (test f) (test g) (both f) (both g)
both (f or g) = agree_or (test f) (test g) (both f) (both g)
both (f then g) = agree_then (test f) (test g) (both f) (both g)
both (each xs p) = agree_every (λ x. test (p x)) (λ x. Fact (p x)) (λ x. both (p x)) xs
both (some xs p) = agree_exists (λ x. test (p x)) (λ x. Fact (p x)) (λ x. both (p x)) xs
both (apart xs p) = agree_pairs (λ x y. test (p x y)) (λ x y. Fact (p x y)) (λ x y. both (p x y)) xs

-- a case by a statement
pub cases : {C : Type 0} (f : Form) → (Fact f → C) → ((Fact f → ⊥) → C) → C
cases f g h = decided (test f) (both f) g h

-- no statement of the list holds
abbrev pub Clear : List Fault → Type 0
Clear [] = Unit {0}
Clear ((φ gives n) ∷ fs) = (Fact φ → ⊥) × Clear fs

-- whatever holds of every refusal, and of what is done where none applies, holds of the outcome
pub settled : {A : Type 0} (P : A → Type 0) (fs : List Fault) (a : ℕ → A) (b : A)
    → ((n : ℕ) → P (a n)) → (Clear fs → P b) → P (settle fs a b)
settled P [] a b refused done = done tt
settled {A} P ((φ gives n) ∷ fs) a b refused done = go (test φ) (both φ) (λ m. settled P fs a b refused (λ c. done (m, c)))
  where
    go : (t : Bool) → Agree t (Fact φ) → ((Fact φ → ⊥) → P (settle fs a b)) → P (cond t (a n) (settle fs a b))
    go true i k = refused n
    go false i k = k (λ p. contrary (sym (i.1 p)))
