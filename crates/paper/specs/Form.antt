-- A small language of statements about records. A statement is written once and read twice: as a test that computes, which the
-- code promises, and as the fact that proofs use. That the two readings agree is proved in proofs/Forms.antt.
use Rattle.std.specs.Prelude.{◌≡◌, Bool, true, false, not, ◌&&◌, ◌||◌, cond, ◌⊎◌, ℕ, ◌≤◌, eqb, leb}
use mathlib.Core.List.{List, [], ◌∷◌, Memᴰ}

-- A record is a list of bytes.
abbrev pub Rec : Type 0
Rec = List ℕ

infix 50 ◌equals◌
infix 50 ◌=<◌
infixr 40 ◌and◌
infixr 35 ◌or◌
infixr 30 ◌then◌
pub data Form : Type 0 where
  ◌equals◌ ◌=<◌ : ℕ → ℕ → Form
  say : Bool → Form
  no : Form → Form
  ◌and◌ ◌or◌ ◌then◌ : Form → Form → Form
  each some : List Rec → (Rec → Form) → Form
  -- any two records at different places
  apart : List Rec → (Rec → Rec → Form) → Form

-- The test of every record, of some record, and of each record with every later one.
abbrev pub every : (Rec → Bool) → List Rec → Bool
every p [] = true
every p (x ∷ xs) = p x && every p xs

abbrev pub exists : (Rec → Bool) → List Rec → Bool
exists p [] = false
exists p (x ∷ xs) = p x || exists p xs

abbrev pub pairs : (Rec → Rec → Bool) → List Rec → Bool
pairs p [] = true
pairs p (x ∷ xs) = every (p x) xs && pairs p xs

abbrev pub Pairs : (Rec → Rec → Type 0) → List Rec → Type 0
Pairs P [] = Unit {0}
Pairs P (x ∷ xs) = ((y : Rec) → Memᴰ y xs → P x y) × Pairs P xs

abbrev pub test : Form → Bool
test (a equals b) = eqb a b
test (a =< b) = leb a b
test (say b) = b
test (no f) = not (test f)
test (f and g) = test f && test g
test (f or g) = test f || test g
test (f then g) = not (test f) || test g
test (each xs p) = every (λ x. test (p x)) xs
test (some xs p) = exists (λ x. test (p x)) xs
test (apart xs p) = pairs (λ x y. test (p x y)) xs

abbrev pub Fact : Form → Type 0
Fact (a equals b) = a ≡ b
Fact (a =< b) = a ≤ b
Fact (say b) = b ≡ true
Fact (no f) = Fact f → ⊥
Fact (f and g) = Fact f × Fact g
Fact (f or g) = Fact f ⊎ Fact g
Fact (f then g) = Fact f → Fact g
Fact (each xs p) = (x : Rec) → Memᴰ x xs → Fact (p x)
Fact (some xs p) = (x : Rec) × Memᴰ x xs × Fact (p x)
Fact (apart xs p) = Pairs (λ x y. Fact (p x y)) xs

-- An edit of those records only of which a statement holds.
unfoldable pub only : (Rec → Form) → (Rec → Rec) → Rec → Rec
only φ e x = cond (test (φ x)) (e x) x

-- The records of which a statement holds; the first such, or the empty record, whose every byte reads 0.
abbrev pub keep : (Rec → Form) → List Rec → List Rec
keep φ [] = []
keep φ (x ∷ xs) = cond (test (φ x)) (x ∷ keep φ xs) (keep φ xs)

abbrev pub seek : (Rec → Form) → List Rec → Rec
seek φ [] = []
seek φ (x ∷ xs) = cond (test (φ x)) x (seek φ xs)

-- The order of refusals is a list of statements with the status that each gives: the first that holds decides.
infix 20 ◌gives◌
pub data Fault : Type 0 where
  ◌gives◌ : Form → ℕ → Fault

abbrev pub settle : {A : Type 0} → List Fault → (ℕ → A) → A → A
settle [] refused done = done
settle ((φ gives n) ∷ fs) refused done = cond (test φ) (refused n) (settle fs refused done)
