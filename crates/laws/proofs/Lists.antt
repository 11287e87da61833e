-- Tests over lists of records: through an edit of each, through keeping some, and the first record of which a statement holds.
use mathlib.Core.Path.{◌≡◌, refl, sym, ap, ◌∙◌, subst}
use mathlib.Core.Bool.{Bool, true, false, cond}
use mathlib.Core.List.Memᴰ
use mathlib.Core.List.{List, [], ◌∷◌, map, Memᴰ}
use mathlib.Core.Logic.{◌⊎◌, inl, inr}
use Prim.Native.Nat.{ℕ, suc}
use lib.ListN.{length}
use Rattle.paper.specs.Bytes.{byte}
use Rattle.paper.specs.Form.{Rec, Form, some, test, Fact, every, exists, Pairs, keep, seek}
use Rattle.paper.specs.Records.{is, at, block, bears}
use Rattle.paper.proofs.Forms.{both, cases}
use Rattle.laws.proofs.Choice.{choose, either}

-- ---- an edit of every record

pub every_map : (p : Rec → Bool) (f : Rec → Rec) (rs : List Rec) → every p (map f rs) ≡ every (λ x. p (f x)) rs
every_map p f [] = refl
every_map p f (x ∷ rs) = rw (every_map p f rs)

pub exists-map : (p : Rec → Bool) (f : Rec → Rec) (rs : List Rec) → exists p (map f rs) ≡ exists (λ x. p (f x)) rs
exists-map p f [] = refl
exists-map p f (x ∷ rs) = rw (exists-map p f rs)

pub map_all : (P : Rec → Type 0) (f : Rec → Rec) (rs : List Rec) → ((x : Rec) → Memᴰ x rs → P (f x)) → (y : Rec) → Memᴰ y (map f rs) → P y
map_all P f rs h y m = let w = Memᴰ.of_map f rs m in subst P w.2 (h w.0 w.1)

pub map-map : (g f : Rec → Rec) (rs : List Rec) → map g (map f rs) ≡ map (λ x. g (f x)) rs
map-map g f [] = refl
map-map g f (x ∷ rs) = rw (map-map g f rs)

pub map_same : (f g : Rec → Rec) (rs : List Rec) → ((x : Rec) → Memᴰ x rs → f x ≡ g x) → map f rs ≡ map g rs
map_same f g [] h = refl
map_same f g (x ∷ rs) h = rw (h x (Memᴰ.head refl), map_same f g rs (λ y m. h y (Memᴰ.tail m)))

pub length-map : (f : Rec → Rec) (rs : List Rec) → length (map f rs) ≡ length rs
length-map f [] = refl
length-map f (x ∷ rs) = ap suc (length-map f rs)

pub pairs-map : (P Q : Rec → Rec → Type 0) (f : Rec → Rec) (rs : List Rec)
    → ((x y : Rec) → Memᴰ x rs → Memᴰ y rs → P x y → Q (f x) (f y)) → Pairs P rs → Pairs Q (map f rs)
pairs-map P Q f [] h p = tt
pairs-map P Q f (x ∷ rs) h p = (
  map_all (λ z. Q (f x) z) f rs (λ y m. h x y (Memᴰ.head refl) (Memᴰ.tail m) (p.0 y m)),
  pairs-map P Q f rs (λ a b ma mb. h a b (Memᴰ.tail ma) (Memᴰ.tail mb)) p.1,
)

-- two records at hand are one, or stand at different places
pub pairs_cases : (P : Rec → Rec → Type 0) (rs : List Rec) → Pairs P rs → (x y : Rec) → Memᴰ x rs → Memᴰ y rs → (x ≡ y) ⊎ (P x y ⊎ P y x)
pairs_cases P [] p x y mx my = absurd (Memᴰ.not-nil mx)
pairs_cases P (z ∷ rs) p x y mx my = go (Memᴰ.cases_cons mx) (Memᴰ.cases_cons my) (λ a b. pairs_cases P rs p.1 x y a b)
  where
    go : (x ≡ z) ⊎ Memᴰ x rs → (y ≡ z) ⊎ Memᴰ y rs → (Memᴰ x rs → Memᴰ y rs → (x ≡ y) ⊎ (P x y ⊎ P y x)) → (x ≡ y) ⊎ (P x y ⊎ P y x)
    go (inl a) (inl b) h = inl (a ∙ sym b)
    go (inl a) (inr b) h = inr (inl (rw a (p.0 y b)))
    go (inr a) (inl b) h = inr (inr (rw b (p.0 x a)))
    go (inr a) (inr b) h = h a b

-- ---- the records of which a statement holds

module _ (φ : Rec → Form) where
  pub mem_keep : (rs : List Rec) {x : Rec} → Memᴰ x (keep φ rs) → Memᴰ x rs × Fact (φ x)
  mem_keep [] m = absurd (Memᴰ.not-nil m)
  mem_keep (y ∷ ys) {x} m =
      choose (λ l. Memᴰ x l → Memᴰ x (y ∷ ys) × Fact (φ x)) (φ y) (y ∷ keep φ ys) (keep φ ys)
      (λ p n. first p (λ w. mem_keep ys w) (Memᴰ.cases_cons n)) (λ p n. later (mem_keep ys n)) m
    where
      later : Memᴰ x ys × Fact (φ x) → Memᴰ x (y ∷ ys) × Fact (φ x)
      later w = (Memᴰ.tail w.0, w.1)

      first : Fact (φ y) → (Memᴰ x (keep φ ys) → Memᴰ x ys × Fact (φ x)) → (x ≡ y) ⊎ Memᴰ x (keep φ ys) → Memᴰ x (y ∷ ys) × Fact (φ x)
      first p h (inl i) = (Memᴰ.head i, subst (λ z. Fact (φ z)) (sym i) p)
      first p h (inr n) = later (h n)

  pub keep_mem : (rs : List Rec) {x : Rec} → Memᴰ x rs → Fact (φ x) → Memᴰ x (keep φ rs)
  keep_mem [] m p = absurd (Memᴰ.not-nil m)
  keep_mem (y ∷ ys) {x} m p =
      choose (λ l. Memᴰ x l) (φ y) (y ∷ keep φ ys) (keep φ ys) (λ q. yes (λ w. keep_mem ys w p) (Memᴰ.cases_cons m))
      (λ q. no_y q (λ w. keep_mem ys w p) (Memᴰ.cases_cons m))
    where
      yes : (Memᴰ x ys → Memᴰ x (keep φ ys)) → (x ≡ y) ⊎ Memᴰ x ys → Memᴰ x (y ∷ keep φ ys)
      yes h (inl i) = Memᴰ.head i
      yes h (inr n) = Memᴰ.tail (h n)

      no_y : (Fact (φ y) → ⊥) → (Memᴰ x ys → Memᴰ x (keep φ ys)) → (x ≡ y) ⊎ Memᴰ x ys → Memᴰ x (keep φ ys)
      no_y q h (inl i) = absurd (q (subst (λ z. Fact (φ z)) i p))
      no_y q h (inr n) = h n

  -- ---- the first of them

  pub sought : (rs : List Rec) → Fact (some rs φ) → Memᴰ (seek φ rs) rs × Fact (φ (seek φ rs))
  sought [] w = absurd (Memᴰ.not-nil w.1)
  sought (x ∷ xs) w =
      choose (λ y. Memᴰ y (x ∷ xs) × Fact (φ y)) (φ x) x (seek φ xs) (λ p. (Memᴰ.head refl, p)) (λ n.
      let r = sought xs (rest n (Memᴰ.cases_cons w.1)) in
      (Memᴰ.tail r.0, r.1))
    where
      rest : (Fact (φ x) → ⊥) → (w.0 ≡ x) ⊎ Memᴰ w.0 xs → Fact (some xs φ)
      rest n (inl e) = absurd (n (subst (λ y. Fact (φ y)) e w.2))
      rest n (inr m) = (w.0, m, w.2)

  pub unsought : (rs : List Rec) → (Fact (some rs φ) → ⊥) → seek φ rs ≡ []
  unsought [] n = refl
  unsought (x ∷ xs) n =
      choose (λ y. y ≡ []) (φ x) x (seek φ xs) (λ p. absurd (n (x, Memᴰ.head refl, p)))
      (λ q. unsought xs (λ w. n (w.0, Memᴰ.tail w.1, w.2)))

  -- a byte other than 0 tells that one was found
  pub sought_byte : (rs : List Rec) (j : ℕ) → (byte j (seek φ rs) ≡ 0 → ⊥) → Fact (some rs φ)
  sought_byte rs j n = cases (some rs φ) (λ p. p) (λ q. absurd (n (ap (byte j) (unsought rs q) ∙ (unfold byte in refl))))

-- among some records the same one is found as among all, if all that it may be are among them
pub seek-keep : (φ ψ : Rec → Form) (rs : List Rec) → ((x : Rec) → Fact (φ x) → Fact (ψ x)) → seek φ (keep ψ rs) ≡ seek φ rs
seek-keep φ ψ [] h = refl
seek-keep φ ψ (x ∷ xs) h =
    choose (λ l. seek φ l ≡ seek φ (x ∷ xs)) (ψ x) (x ∷ keep ψ xs) (keep ψ xs) (λ p. yes (seek-keep φ ψ xs h)) (λ n.
    choose (λ y. seek φ (keep ψ xs) ≡ y) (φ x) x (seek φ xs) (λ q. absurd (n (h x q))) (λ q. seek-keep φ ψ xs h))
  where
    yes : seek φ (keep ψ xs) ≡ seek φ xs → seek φ (x ∷ keep ψ xs) ≡ seek φ (x ∷ xs)
    yes e = rw e

-- ---- kept and sought records through an edit of each

-- the edit changes nothing of the statement
pub keep-map : (φ : Rec → Form) (f : Rec → Rec) (rs : List Rec) → ((x : Rec) → Memᴰ x rs → test (φ (f x)) ≡ test (φ x))
    → keep φ (map f rs) ≡ map f (keep φ rs)
keep-map φ f [] h = refl
keep-map φ f (x ∷ rs) h = rw (h x (Memᴰ.head refl)) (go (test (φ x)) (keep-map φ f rs (λ y m. h y (Memᴰ.tail m))))
  where
    go : (b : Bool) → keep φ (map f rs) ≡ map f (keep φ rs) → cond b (f x ∷ keep φ (map f rs)) (keep φ (map f rs)) ≡ map f (cond b (x ∷ keep φ rs) (keep φ rs))
    go true e = rw e
    go false e = e

pub seek-map : (φ : Rec → Form) (f : Rec → Rec) (rs : List Rec) → f [] ≡ [] → ((x : Rec) → Memᴰ x rs → test (φ (f x)) ≡ test (φ x))
    → seek φ (map f rs) ≡ f (seek φ rs)
seek-map φ f [] z h = sym z
seek-map φ f (x ∷ rs) z h = rw (h x (Memᴰ.head refl)) (go (test (φ x)) (seek-map φ f rs z (λ y m. h y (Memᴰ.tail m))))
  where
    go : (b : Bool) → seek φ (map f rs) ≡ f (seek φ rs) → cond b (f x) (seek φ (map f rs)) ≡ f (cond b x (seek φ rs))
    go true e = refl
    go false e = e

-- the edit changes none of the records of which the statement holds, and makes no others
pub keep_still : (φ : Rec → Form) (f : Rec → Rec) (rs : List Rec) → ((x : Rec) → Memᴰ x rs → Fact (φ x) → f x ≡ x)
    → ((x : Rec) → Memᴰ x rs → Fact (φ (f x)) → Fact (φ x))
    → keep φ (map f rs) ≡ keep φ rs
keep_still φ f [] h g = refl
keep_still φ f (x ∷ rs) h g = cases (φ x)
    (λ p. rw (h x (Memᴰ.head refl) p, (both (φ x)).1 p) (ap (λ (l : List Rec). x ∷ l) (keep_still φ f rs (λ y m. h y (Memᴰ.tail m)) (λ y m. g y (Memᴰ.tail m)))))
    (λ n. rw (no_test x n, no_test (f x) (λ p. n (g x (Memᴰ.head refl) p))) (keep_still φ f rs (λ y m. h y (Memᴰ.tail m)) (λ y m. g y (Memᴰ.tail m))))
  where
    no_test : (y : Rec) → (Fact (φ y) → ⊥) → test (φ y) ≡ false
    no_test y n = either (test (φ y)) (λ e. absurd (n ((both (φ y)).0 e))) (λ e. e)

-- ---- look-ups, and a session's own records

pub block_in : (s : ℕ) (rs : List Rec) {x : Rec} → Memᴰ x rs → Fact (bears s x) → Memᴰ x (block s rs)
unfolding block
block_in s rs m e = keep_mem (bears s) rs m e

pub block_out : (s : ℕ) (rs : List Rec) {x : Rec} → Memᴰ x (block s rs) → Memᴰ x rs × Fact (bears s x)
unfolding block
block_out s rs m = mem_keep (bears s) rs m

pub at_block : (k o s : ℕ) (rs : List Rec) → at k o s (block s rs) ≡ at k o s rs
unfolding at block
at_block k o s rs = seek-keep (is k o s) (bears s) rs (λ x p. p.1.1)

pub at_found : (k o s : ℕ) (rs : List Rec) → Fact (some rs (is k o s)) → Memᴰ (at k o s rs) rs × Fact (is k o s (at k o s rs))
unfolding at
at_found k o s rs w = sought (is k o s) rs w

pub at_none : (k o s : ℕ) (rs : List Rec) → (Fact (some rs (is k o s)) → ⊥) → at k o s rs ≡ []
unfolding at
at_none k o s rs n = unsought (is k o s) rs n

pub at_byte : (k o s : ℕ) (rs : List Rec) (j : ℕ) → (byte j (at k o s rs) ≡ 0 → ⊥) → Fact (some rs (is k o s))
unfolding at
at_byte k o s rs j n = sought_byte (is k o s) rs j n
