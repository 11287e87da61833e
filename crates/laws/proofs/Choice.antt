-- Choices by a test: what holds on either side holds of the outcome.
use mathlib.Core.Path.{◌≡◌, refl, sym}
use mathlib.Core.Bool.{Bool, true, false, cond}
use Rattle.paper.specs.Form.{Rec, Form, test, Fact, only}
use Rattle.paper.proofs.Forms.{Agree, both, cases, contrary}

-- a choice by a statement
pub choose : {A : Type 0} (P : A → Type 0) (φ : Form) (x y : A) → (Fact φ → P x) → ((Fact φ → ⊥) → P y) → P (cond (test φ) x y)
choose P φ x y f g = go (test φ) (both φ)
  where
    go : (b : Bool) → Agree b (Fact φ) → P (cond b x y)
    go true a = f (a.0 refl)
    go false a = g (λ p. contrary (sym (a.1 p)))

-- a choice by a test
pub chosen : {A : Type 0} (P : A → Type 0) (b : Bool) (x y : A) → (b ≡ true → P x) → (b ≡ false → P y) → P (cond b x y)
chosen P true x y f g = f refl
chosen P false x y f g = g refl

-- a test, both ways
pub either {ℓ} : {C : Type ℓ} (b : Bool) → (b ≡ true → C) → (b ≡ false → C) → C
either true f g = f refl
either false f g = g refl

-- a statement that does not fail
pub holds : (φ : Form) → ((Fact φ → ⊥) → ⊥) → Fact φ
holds φ h = cases φ (λ p. p) (λ n. absurd (h n))

-- the test of a statement that fails
pub fails : (φ : Form) → (Fact φ → ⊥) → test φ ≡ false
fails φ n = either (test φ) (λ e. absurd (n ((both φ).0 e))) (λ e. e)

-- tests that are true together
pub same_true : (x y : Bool) → (x ≡ true → y ≡ true) → (y ≡ true → x ≡ true) → x ≡ y
same_true true y h g = sym (h refl)
same_true false true h g = g refl
same_true false false h g = refl

-- tests of statements that say the same
pub same_test : (φ ψ : Form) → (Fact φ → Fact ψ) → (Fact ψ → Fact φ) → test φ ≡ test ψ
same_test φ ψ a b = same_true (test φ) (test ψ) (λ e. (both ψ).1 (a ((both φ).0 e))) (λ e. (both φ).1 (b ((both ψ).0 e)))

-- what an edit of some records makes of one
pub only-is : (P : Rec → Type 0) (φ : Rec → Form) (e : Rec → Rec) (x : Rec) → (Fact (φ x) → P (e x)) → ((Fact (φ x) → ⊥) → P x) → P (only φ e x)
unfolding only
only-is P φ e x a b = choose P (φ x) (e x) x a b

pub only_in : (φ : Rec → Form) (e : Rec → Rec) (x : Rec) → Fact (φ x) → only φ e x ≡ e x
only_in φ e x p = only-is (λ y. y ≡ e x) φ e x (λ q. refl) (λ n. absurd (n p))

pub only_out : (φ : Rec → Form) (e : Rec → Rec) (x : Rec) → (Fact (φ x) → ⊥) → only φ e x ≡ x
only_out φ e x n = only-is (λ y. y ≡ x) φ e x (λ p. absurd (n p)) (λ q. refl)
