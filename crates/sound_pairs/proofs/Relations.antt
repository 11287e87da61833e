-- Statements that hold together have the same test; and a record that is not concerned says nothing of any other.
use mathlib.Core.Bool.{Bool, true, false, and-true}
use mathlib.Core.Path.{◌≡◌, refl, sym, ◌∙◌}
use mathlib.Core.Logic.{inl, inr}
use borrow.Author.Tests.{ne_eqb}
use Rattle.paper.specs.Form.{Rec, Form, ◌equals◌, test, Fact}
use Rattle.paper.specs.Records.{kind, SESSION, POLICY, KEY}
use Rattle.paper.specs.Sound.{related, target_pinned, below_counter}
use Rattle.paper.proofs.Forms.{both, cases, contrary}
use Rattle.sound_pairs.specs.Kinds.{concerned}

-- statements that hold together have the same test
pub same_test : (f g : Form) → (Fact f → Fact g) → (Fact g → Fact f) → test f ≡ test g
same_test f g to from = go (test f) (test g) (both f) (both g)
  where
    go : (a b : Bool) → (a ≡ true → Fact f) × (Fact f → a ≡ true) → (b ≡ true → Fact g) × (Fact g → b ≡ true) → a ≡ b
    go true b i j = sym (j.1 (to (i.0 refl)))
    go false true i j = i.1 (from (j.0 refl))
    go false false i j = refl

pub not_fact : (f : Form) → test f ≡ false → Fact f → ⊥
not_fact f e p = contrary (sym ((both f).1 p) ∙ e)

module _ (x y : Rec) where
  of_key : kind x ≡ KEY → test (related x y) ≡ test (target_pinned x y)
  of_key k = simp k

  of_counter : (kind x ≡ SESSION → ⊥) → (kind x ≡ POLICY → ⊥) → (kind x ≡ KEY → ⊥) → test (related x y) ≡ test (below_counter x y)
  of_counter n1 n3 n4 = simp (ne_eqb (kind x) SESSION n1, ne_eqb (kind x) POLICY n3, ne_eqb (kind x) KEY n4, and-true)

  -- who is not concerned says nothing of any other
  pub unconcerned : test (concerned x) ≡ false → test (related x y) ≡ true
  unconcerned e =
      let n = not_fact (concerned x) e in
      cases (kind x equals KEY)
      (λ k. of_key k ∙ (both (target_pinned x y)).1 (λ l q p o z. n (inr (inr (inl (k, z))))))
      (λ k. of_counter (λ l. n (inl l)) (λ l. n (inr (inl l))) k ∙ (both (below_counter x y)).1 (λ l. absurd (n (inr (inr (inr l))))))
