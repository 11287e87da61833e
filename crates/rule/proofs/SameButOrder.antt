-- Lists of records that are the same but for their order and for free records: the same statements hold of some record of them, the
-- same records are found in them, and the same edits and new records leave such lists again.
use mathlib.Core.Path.{◌≡◌, refl, sym, ap, subst, ◌∙◌, fun_ext}
use mathlib.Core.Bool.{Bool, true, false, not, ◌&&◌, ◌||◌, cond}
use mathlib.Core.List.{List, [], ◌∷◌, map, Memᴰ}
use mathlib.Core.Option.{Option}
use Prim.Native.Nat.{ℕ, ◌+◌, ◌≤◌}
use native.Mathlib.Omega.{arith}
use lib.Dec.{leb}
use borrow.Author.Tests.{le-leb}
use Rattle.hmac.specs.Same.{same}
use Rattle.hmac.proofs.Sameness.{same_eq, eq_same}
use Rattle.paper.specs.Form.{Rec, Form, ◌equals◌, say, no, some, test, Fact, exists, keep}
use Rattle.paper.specs.Records.{kind, SESSION, PENDING, COUNTER, is, at, zeros, is_free}
use Rattle.paper.specs.Sessions.{counter}
use Rattle.paper.specs.Act.{placed, fits_in}
use Rattle.paper.proofs.Forms.{both, cases}
use Rattle.laws.proofs.Choice.{fails, either}
use Rattle.laws.proofs.Facts.{Facts}
use Rattle.laws.proofs.Handles.{one-counter, at-is}
use Rattle.laws.proofs.Inserting.{free_is, free_zeros, byte-zeros}
use Rattle.laws.proofs.Lists.{sought, at_found, at_none}
use Rattle.rule.specs.Bags.{bit, count, SameRecords}
use Rattle.rule.specs.Congruence.{filled}
use Rattle.rule.proofs.Bags.{count_map, count_same, count-placed}

-- as many of every record that a free one is not
pub record Even (xs ys : List Rec) : Type 0 where
  pub counts : (p : Rec → Bool) → p zeros ≡ false → count p xs ≡ count p ys

pub even_back : {xs ys : List Rec} → Even xs ys → Even ys xs
even_back E = record { counts = λ p z. sym (E.counts p z) }

-- ---- the same as: as many of every record among those that are not free

count-keep : (φ : Rec → Form) (p : Rec → Bool) (xs : List Rec) → count p (keep φ xs) ≡ count (λ x. test (φ x) && p x) xs
count-keep φ p [] = refl
count-keep φ p (x ∷ xs) = go (test (φ x)) (count-keep φ p xs)
  where
    go : (b : Bool) → count p (keep φ xs) ≡ count (λ y. test (φ y) && p y) xs
        → count p (cond b (x ∷ keep φ xs) (keep φ xs)) ≡ bit (b && p x) + count (λ y. test (φ y) && p y) xs
    go true e = ap (λ (n : ℕ). bit (p x) + n) e
    go false e = omega arith

abbrev full : Rec → Form
full r = no (say (is_free r))

count-filled : (p : Rec → Bool) → p zeros ≡ false → (xs : List Rec) → count p (filled xs) ≡ count p xs
count-filled p z xs = count-keep full p xs ∙ count_same (λ x. not (is_free x) && p x) p xs (λ x m.
    either (is_free x) (λ e. rw e (sym (ap p (free_is x e) ∙ z))) (λ e. rw e))

pub even_of : (xs ys : List Rec) → SameRecords (filled xs) (filled ys) → Even xs ys
even_of xs ys S = record { counts = λ p z. sym (count-filled p z xs) ∙ S.counts p ∙ count-filled p z ys }

pub of_even : (xs ys : List Rec) → Even xs ys → SameRecords (filled xs) (filled ys)
of_even xs ys E =
    record { counts = λ p. count-keep full p xs ∙ E.counts (λ x. not (is_free x) && p x) (rw free_zeros) ∙ sym (count-keep full p ys) }

-- ---- what holds of some record

exists-count : (p : Rec → Bool) (xs : List Rec) → exists p xs ≡ leb 1 (count p xs)
exists-count p [] = refl
exists-count p (x ∷ xs) = go (p x) (exists-count p xs)
  where
    go : (b : Bool) → exists p xs ≡ leb 1 (count p xs) → (b || exists p xs) ≡ leb 1 (bit b + count p xs)
    go true e = sym (le-leb 1 (1 + count p xs) (omega arith))
    go false e = let n : 0 + count p xs ≡ count p xs = omega arith in rw n e

module _ (xs ys : List Rec) (E : Even xs ys) where
  pub some_even : (φ ψ : Rec → Form) → ((x : Rec) → test (φ x) ≡ test (ψ x)) → (Fact (φ zeros) → ⊥) → test (some xs φ) ≡ test (some ys ψ)
  some_even φ ψ e z =
      exists-count (λ x. test (φ x)) xs ∙ ap (leb 1) (E.counts (λ x. test (φ x)) (fails (φ zeros) z)) ∙ sym (exists-count (λ x. test (φ x)) ys)
      ∙ ap (λ (p : Rec → Bool). exists p ys) (fun_ext e)

  pub some_same : (φ : Rec → Form) → (Fact (φ zeros) → ⊥) → test (some xs φ) ≡ test (some ys φ)
  some_same φ z = some_even φ φ (λ x. refl) z

  pub mem_even : (x : Rec) → Memᴰ x xs → 1 ≤ kind x → Memᴰ x ys
  mem_even x m k =
      let e = some_same (λ y. say (same x y)) (λ q. let z = ap kind (same_eq x zeros q) ∙ byte-zeros 0 in omega arith) in
      let w = (both (some ys (λ y. say (same x y)))).0 (sym e ∙ (both (some xs (λ y. say (same x y)))).1 (x, m, eq_same x x refl)) in
      subst (λ y. Memᴰ y ys) (sym (same_eq x w.0 w.2)) w.1

  -- ---- edits, new records, and some of the records

  pub map_even : (f g : Rec → Rec) → ((x : Rec) → f x ≡ g x) → f zeros ≡ zeros → Even (map f xs) (map g ys)
  map_even f g e z =
      record {
        counts = λ p n.
            count_map p f xs ∙ E.counts (λ x. p (f x)) (ap p z ∙ n) ∙ sym (count_map p f ys) ∙ ap (λ (k : Rec → Rec). count p (map k ys)) (fun_ext e);
      }

  pub placed_even : (n : Option Rec) → fits_in n xs ≡ true → fits_in n ys ≡ true → Even (placed n xs) (placed n ys)
  placed_even n a b =
      record { counts = λ p z. let u = count-placed p n xs a in let v = count-placed p n ys b in let e = E.counts p z in omega arith }

  pub keep_even : (φ : Rec → Form) → Even (keep φ xs) (keep φ ys)
  keep_even φ =
      record { counts = λ p z. count-keep φ p xs ∙ E.counts (λ x. test (φ x) && p x) (rw z (last (test (φ zeros)))) ∙ sym (count-keep φ p ys) }
    where
      last : (b : Bool) → (b && false) ≡ false
      last true = refl
      last false = refl

-- ---- look-ups in sound stores

module _ (xs ys : List Rec) (E : Even xs ys) (F : Facts xs) (G : Facts ys) where
  pub at_even : (k o s : ℕ) → SESSION ≤ k → k ≤ PENDING → at k o s xs ≡ at k o s ys
  at_even k o s a b = cases (some xs (is k o s))
      (λ w.
      let f = at_found k o s xs w in
      let j = f.1.0 in
      sym (at-is ys G k o s (at k o s xs) a b (mem_even xs ys E (at k o s xs) f.0 (omega arith)) f.1))
      (λ n. at_none k o s xs n ∙ sym (at_none k o s ys (λ w. n (back w))))
    where
      back : Fact (some ys (is k o s)) → Fact (some xs (is k o s))
      back w = let j = w.2.0 in (w.0, mem_even ys xs (even_back E) w.0 w.1 (omega arith), w.2)

  pub counter_even : counter xs ≡ counter ys
  counter_even =
      let f = sought (λ r. kind r equals COUNTER) xs F.counter in
      let g = sought (λ r. kind r equals COUNTER) ys G.counter in
      let j = f.1 in
      one-counter ys G (counter xs) (counter ys) (mem_even xs ys E (counter xs) f.0 (omega arith)) g.0 f.1 g.1
