-- A fresh store is sound: the counter, and free records.
use mathlib.Core.Path.{◌≡◌, refl, sym, ap, ◌∙◌, subst}
use mathlib.Core.Bool.{true}
use mathlib.Core.List.Memᴰ
use mathlib.Core.List.{List, ◌∷◌, Memᴰ}
use mathlib.Core.Logic.{◌⊎◌, inl, inr}
use Prim.Native.Nat.{ℕ, zero, suc, ◌≤◌}
use native.Mathlib.Omega.{arith}
use lib.ListN.{replicate}
use Rattle.paper.specs.Bytes.{byte, two, four, part, all_within}
use Rattle.paper.specs.Form.{Rec, Pairs}
use Rattle.paper.specs.Records.{kind, FREE, SESSION, PENDING, COUNTER, zeros}
use Rattle.paper.specs.Table.{obeys_table}
use Rattle.paper.specs.Answer.{fresh_counter}
use Rattle.laws.proofs.Inserting.{byte-zeros}
use Rattle.laws.proofs.Facts.{Alone, Distinct, Facts}
use Rattle.rule.proofs.Alone.{alone-counter, alone-zeros}

kind-counter : kind fresh_counter ≡ COUNTER
unfolding fresh_counter byte
kind-counter = refl

tabled-counter : obeys_table fresh_counter ≡ true
unfolding fresh_counter obeys_table byte part two four all_within
tabled-counter = refl

all_free : (n : ℕ) (x : Rec) → Memᴰ x (replicate n zeros) → x ≡ zeros
all_free zero x m = absurd (Memᴰ.not-nil m)
all_free (suc n) x m = go (Memᴰ.cases_cons m) (λ k. all_free n x k)
  where
    go : (x ≡ zeros) ⊎ Memᴰ x (replicate n zeros) → (Memᴰ x (replicate n zeros) → x ≡ zeros) → x ≡ zeros
    go (inl e) h = e
    go (inr k) h = h k

-- two records of which the second is free
free_distinct : (x y : Rec) → kind y ≡ FREE → Distinct x y
free_distinct x y k =
    record {
      one_counter = λ a b. omega arith;
      handles_differ = λ a b. let c = b.0 in absurd (omega arith);
      ids_differ = λ a b. let c = b.0 in absurd (omega arith);
      clients_differ = λ a b. absurd (omega arith);
      one_pending = λ a b. absurd (omega arith);
    }

free_pairs : (n : ℕ) → Pairs Distinct (replicate n zeros)
free_pairs zero = tt
free_pairs (suc n) = ((λ y m. free_distinct zeros y (ap kind (all_free n y m) ∙ byte-zeros 0)), free_pairs n)

module _ (n : ℕ) where
  abbrev pub fresh_store : List Rec
  fresh_store = fresh_counter ∷ replicate n zeros

  -- every record is the counter or free
  which : (x : Rec) → Memᴰ x fresh_store → (x ≡ fresh_counter) ⊎ (x ≡ zeros)
  which x m = go (Memᴰ.cases_cons m)
    where
      go : (x ≡ fresh_counter) ⊎ Memᴰ x (replicate n zeros) → (x ≡ fresh_counter) ⊎ (x ≡ zeros)
      go (inl e) = inl e
      go (inr k) = inr (all_free n x k)

  nobody : {C : Type 0} (x : Rec) → Memᴰ x fresh_store → SESSION ≤ kind x → kind x ≤ PENDING → C
  nobody {C} x m a b = go (which x m)
    where
      go : (x ≡ fresh_counter) ⊎ (x ≡ zeros) → C
      go (inl e) = let k = ap kind e ∙ kind-counter in absurd (omega arith)
      go (inr e) = let k = ap kind e ∙ byte-zeros 0 in absurd (omega arith)

  alone' : (x : Rec) → (x ≡ fresh_counter) ⊎ (x ≡ zeros) → Alone x
  alone' x (inl e) = subst Alone (sym e) (alone-counter fresh_counter tabled-counter kind-counter)
  alone' x (inr e) = subst Alone (sym e) alone-zeros

  pub fresh_facts : Facts fresh_store
  fresh_facts =
      record {
        counter = (fresh_counter, Memᴰ.head refl, kind-counter);
        alone = λ x m. alone' x (which x m);
        distinct = ((λ y m. free_distinct fresh_counter y (ap kind (all_free n y m) ∙ byte-zeros 0)), free_pairs n);
        related = λ x mx y my.
            record {
              below_next = λ a. nobody x mx (omega arith) (omega arith);
              below_counter = λ a b. nobody y my (omega arith) (omega arith);
              puk_for_protection = λ g. let a = g.0 in nobody x mx (omega arith) (omega arith);
              key_counts = λ g. let a = g.0 in nobody x mx (omega arith) (omega arith);
              paths_set = λ g. let a = g.0 in nobody x mx (omega arith) (omega arith);
              pending_open = λ a. nobody x mx (omega arith) (omega arith);
              target_managed = λ a. nobody x mx (omega arith) (omega arith);
              target_pinned = λ a. nobody x mx (omega arith) (omega arith);
            };
        housed = λ y m.
            record {
              session_there = λ o. let a = o.0 in let b = o.1 in nobody y m (omega arith) (omega arith);
              puk_there = λ a. nobody y m (omega arith) (omega arith);
              policy_there = λ a. nobody y m (omega arith) (omega arith);
              key_there = λ g. let a = g.0 in nobody y m (omega arith) (omega arith);
              target_there = λ a. nobody y m (omega arith) (omega arith);
            };
        used = λ x m y my.
            record {
              puk = λ g. let a = g.0 in nobody x m (omega arith) (omega arith);
              policy = λ g. let a = g.0 in nobody x m (omega arith) (omega arith);
            };
        shares = λ p mp x mx y my a. nobody p mp (omega arith) (omega arith);
      }
