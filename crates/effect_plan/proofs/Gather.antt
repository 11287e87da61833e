-- The keys that a session holds, gathered record by record.
use mathlib.Core.Bool.{Bool, false, ◌||◌, or-false, or_self, or_assoc}
use mathlib.Core.Path.{◌≡◌, refl, sym, ap, ◌∙◌, fun_ext}
use mathlib.Core.List.{List, [], ◌∷◌}
use mathlib.Core.Logic.{inl, inr}
use Prim.Native.Nat.{ℕ, zero, suc, ◌+◌, ◌≤◌, ◌<◌}
use lib.ListN.{length, get_or, drop, drop_of_length-le}
use lib.Seq.{drop-cons}
use native.Mathlib.Numerals.{add-one}
use Rattle.paper.specs.Form.{Rec, test, some, exists}
use Rattle.paper.specs.Closing.{holds}
use Rattle.effect_plan.specs.declared.Keys.{Keys}
use Rattle.effect_plan.specs.Sets.{keys_of, holding, Joined}

-- what is among the last records is among all
among : (p : Rec → Bool) (i : ℕ) (rs : List Rec) → (exists p rs || exists p (drop i rs)) ≡ exists p rs
among p zero rs = or_self (exists p rs)
among p (suc i) [] = refl
among p (suc i) (x ∷ rs) = or_assoc (p x) (exists p rs) (exists p (drop i rs)) ∙ ap (λ (b : Bool). p x || b) (among p i rs)

-- what is gathered and what is still to come make up the whole
abbrev pub Gathered : ℕ → ℕ → List Rec → Keys → ℕ → Type 0
Gathered s op rs ks i = (k : ℕ) → (keys_of ks rs k || test (some (drop i rs) (holding s op k))) ≡ test (some rs (holding s op k))

module _ (s op : ℕ) (rs : List Rec) (i : ℕ) where
  split : (p : Rec → Bool) → i < length rs → exists p (drop i rs) ≡ (p (get_or rs i []) || exists p (drop (i + 1) rs))
  split p h = rw (drop-cons rs i [] h, add-one)

  pub gathered_next : (ks js : Keys) (q : Rec) → Gathered s op rs ks i → i < length rs → q ≡ get_or rs i [] → Joined s op (λ k. test (holding s op k q)) ks js → Gathered s op rs js (i + 1)
  unfolding holds
  gathered_next ks js q g h e (inl f) = λ k. rw f (among (λ x. test (holding s op k x)) (i + 1) rs)
  gathered_next ks js q g h e (inr f) = λ k. rw (f rs k, e) (or_assoc (keys_of ks rs k) (test (holding s op k (get_or rs i []))) _ ∙ ap (λ (b : Bool). keys_of ks rs k || b) (sym (split (λ x. test (holding s op k x)) h)) ∙ g k)

  pub gathered_end : (ks : Keys) → Gathered s op rs ks i → length rs ≤ i → keys_of ks rs ≡ holds s op rs
  unfolding holds
  gathered_end ks g h = fun_ext (λ k. sym (or-false (keys_of ks rs k)) ∙ ap (λ (b : Bool). keys_of ks rs k || b) (none (λ x. test (holding s op k x))) ∙ g k)
    where
      none : (p : Rec → Bool) → false ≡ exists p (drop i rs)
      none p = rw (drop_of_length-le rs h)
