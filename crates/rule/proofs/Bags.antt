-- Counts of records: through an edit of each and through a new record at the lowest free place; two actions one after the other;
-- and that lists with equal counts are one another's shuffles.
use mathlib.Core.Path.{◌≡◌, refl, sym, ap, ap₂}
use mathlib.Core.Bool.{Bool, true, false, cond, ◌||◌}
use mathlib.Core.List.{List, [], ◌∷◌, ◌++◌, map, Memᴰ}
use mathlib.Core.Option.{Option, none, some as just}
use Prim.Native.Nat.{ℕ, ◌+◌, ◌≤◌}
use native.Mathlib.Omega.{arith}
use Rattle.hmac.specs.Same.{same}
use Rattle.hmac.proofs.Sameness.{same_eq, eq_same}
use Rattle.paper.specs.Form.{Rec, exists}
use Rattle.paper.specs.Records.{zeros, is_free, insert}
use Rattle.paper.specs.Act.{placed, fits_in}
use Rattle.paper.proofs.Forms.{contrary}
use Rattle.laws.proofs.Inserting.{free_is}
use Rattle.rule.specs.Bags.{bit, count, SameRecords, Shuffled, nothing, found}

pub count_map : (p : Rec → Bool) (f : Rec → Rec) (xs : List Rec) → count p (map f xs) ≡ count (λ x. p (f x)) xs
count_map p f [] = refl
count_map p f (x ∷ xs) = ap (λ (n : ℕ). bit (p (f x)) + n) (count_map p f xs)

pub count_same : (p q : Rec → Bool) (xs : List Rec) → ((x : Rec) → Memᴰ x xs → p x ≡ q x) → count p xs ≡ count q xs
count_same p q [] h = refl
count_same p q (x ∷ xs) h = ap₂ (λ (b : Bool) (n : ℕ). bit b + n) (h x (Memᴰ.head refl)) (count_same p q xs (λ y m. h y (Memᴰ.tail m)))

-- a new record takes the place of a free one
pub count-insert : (p : Rec → Bool) (n : Rec) (xs : List Rec) → exists is_free xs ≡ true → count p (insert n xs) + bit (p zeros) ≡ count p xs + bit (p n)
count-insert p n [] e = contrary (sym e)
count-insert p n (x ∷ xs) e = go (is_free x) refl e (count-insert p n xs)
  where
    go : (b : Bool) → is_free x ≡ b → (b || exists is_free xs) ≡ true → (exists is_free xs ≡ true → count p (insert n xs) + bit (p zeros) ≡ count p xs + bit (p n))
        → count p (cond b (n ∷ xs) (x ∷ insert n xs)) + bit (p zeros) ≡ bit (p x) + count p xs + bit (p n)
    go true f h i = let z = ap (λ (r : Rec). bit (p r)) (free_is x f) in omega arith
    go false f h i = let z = i h in omega arith

abbrev pub ones : (Rec → Bool) → Option Rec → ℕ
ones p none = 0
ones p (just n) = bit (p n)

abbrev pub taken : (Rec → Bool) → Option Rec → ℕ
taken p none = 0
taken p (just n) = bit (p zeros)

abbrev pub Fixes : (Rec → Rec) → Option Rec → Type 0
Fixes f none = Unit {0}
Fixes f (just n) = f n ≡ n

pub count-placed : (p : Rec → Bool) (n : Option Rec) (xs : List Rec) → fits_in n xs ≡ true → count p (placed n xs) + taken p n ≡ count p xs + ones p n
count-placed p none xs h = refl
count-placed p (just n) xs h = count-insert p n xs h

-- two actions, an edit of each record and a new record each, in either order
module _ (f f' g g' : Rec → Rec) (m n : Option Rec) (xs : List Rec) where
  pub either_order : ((x : Rec) → Memᴰ x xs → g' (f x) ≡ f' (g x)) → f' zeros ≡ zeros → g' zeros ≡ zeros → Fixes f' n → Fixes g' m
      → fits_in m (map f xs) ≡ true → fits_in n (map g xs) ≡ true → fits_in n (map g' (placed m (map f xs))) ≡ true → fits_in m (map f' (placed n (map g xs))) ≡ true
      → SameRecords (placed n (map g' (placed m (map f xs)))) (placed m (map f' (placed n (map g xs))))
  either_order swap fz gz fn gm rm rn rn' rm' = record { counts = same_counts }
    where
      taken_fix : (p : Rec → Bool) (h : Rec → Rec) (k : Option Rec) → h zeros ≡ zeros → taken (λ x. p (h x)) k ≡ taken p k
      taken_fix p h none e = refl
      taken_fix p h (just k) e = ap (λ (r : Rec). bit (p r)) e

      ones_fix : (p : Rec → Bool) (h : Rec → Rec) (k : Option Rec) → Fixes h k → ones (λ x. p (h x)) k ≡ ones p k
      ones_fix p h none e = refl
      ones_fix p h (just k) e = ap (λ (r : Rec). bit (p r)) e

      same_counts : (p : Rec → Bool) → count p (placed n (map g' (placed m (map f xs)))) ≡ count p (placed m (map f' (placed n (map g xs))))
      same_counts p =
          let l = count-placed p n (map g' (placed m (map f xs))) rn' in
          let l1 = count_map p g' (placed m (map f xs)) in
          let l2 = count-placed (λ x. p (g' x)) m (map f xs) rm in
          let l3 = count_map (λ x. p (g' x)) f xs in
          let r = count-placed p m (map f' (placed n (map g xs))) rm' in
          let r1 = count_map p f' (placed n (map g xs)) in
          let r2 = count-placed (λ x. p (f' x)) n (map g xs) rn in
          let r3 = count_map (λ x. p (f' x)) g xs in
          let e = count_same (λ x. p (g' (f x))) (λ x. p (f' (g x))) xs (λ x i. ap p (swap x i)) in
          let t1 = taken_fix p g' m gz in
          let t2 = taken_fix p f' n fz in
          let o1 = ones_fix p g' m gm in
          let o2 = ones_fix p f' n fn in
          omega arith

-- ---- equal counts, and shuffles

count-append : (p : Rec → Bool) (xs ys : List Rec) → count p (xs ++ ys) ≡ count p xs + count p ys
count-append p [] ys = omega arith
count-append p (x ∷ xs) ys = let e = count-append p xs ys in omega arith

-- a record that is counted stands somewhere
pick : (x : Rec) (ys : List Rec) → 1 ≤ count (same x) ys → (before : List Rec) × (behind : List Rec) × (ys ≡ before ++ (x ∷ behind))
pick x [] h = absurd (omega arith)
pick x (y ∷ ys) h = go (same x y) refl h (λ l. pick x ys l)
  where
    go : (b : Bool) → same x y ≡ b → 1 ≤ bit b + count (same x) ys
        → (1 ≤ count (same x) ys → (before : List Rec) × (behind : List Rec) × (ys ≡ before ++ (x ∷ behind)))
        → (before : List Rec) × (behind : List Rec) × (y ∷ ys ≡ before ++ (x ∷ behind))
    go true e l i = ([], ys, ap (λ (r : Rec). r ∷ ys) (sym (same_eq x y e)))
    go false e l i = let w = i (omega arith) in (y ∷ w.0, w.1, ap (λ (rs : List Rec). y ∷ rs) w.2)

shuffle : (xs ys : List Rec) → ((p : Rec → Bool) → count p xs ≡ count p ys) → Shuffled xs ys
shuffle [] [] h = nothing
shuffle [] (y ∷ ys) h = absurd (let e = h (λ x. true) in omega arith)
shuffle (x ∷ xs) ys h = go (pick x ys one) (λ zs i. shuffle xs zs i)
  where
    one : 1 ≤ count (same x) ys
    one = let e = h (same x) in let s = ap bit (eq_same x x refl) in omega arith

    go : (before : List Rec) × (behind : List Rec) × (ys ≡ before ++ (x ∷ behind))
        → ((zs : List Rec) → ((p : Rec → Bool) → count p xs ≡ count p zs) → Shuffled xs zs) → Shuffled (x ∷ xs) ys
    go (before, behind, e) i = rw e (found x xs before behind (i (before ++ behind) rest))
      where
        rest : (p : Rec → Bool) → count p xs ≡ count p (before ++ behind)
        rest p =
            let a = h p in
            let b = ap (count p) e in
            let c = count-append p before (x ∷ behind) in
            let d = count-append p before behind in
            omega arith

pub shuffled : (xs ys : List Rec) → SameRecords xs ys → Shuffled xs ys
shuffled xs ys s = shuffle xs ys s.counts

-- and back
pub counted : {xs ys : List Rec} → Shuffled xs ys → SameRecords xs ys
counted s = record { counts = λ p. go p s }
  where
    go : (p : Rec → Bool) {xs ys : List Rec} → Shuffled xs ys → count p xs ≡ count p ys
    go p nothing = refl
    go p (found x xs before behind s) =
        let a = go p s in
        let c = count-append p before (x ∷ behind) in
        let d = count-append p before behind in
        omega arith
