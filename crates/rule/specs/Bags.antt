-- The same records, perhaps at other places, said in two ways: whatever is tested, as many records pass in the one list as in the
-- other; and the one list is the other in another order. Proved to be one and the same in proofs/Bags.antt.
use Rattle.std.specs.Prelude.{◌≡◌, Bool, cond, List, [], ◌∷◌, ◌++◌, ℕ, ◌+◌}
use Rattle.paper.specs.Form.{Rec}

abbrev pub bit : Bool → ℕ
bit b = cond b 1 0

abbrev pub count : (Rec → Bool) → List Rec → ℕ
count p [] = 0
count p (x ∷ xs) = bit (p x) + count p xs

pub record SameRecords (xs ys : List Rec) : Type 0 where
  pub counts : (p : Rec → Bool) → count p xs ≡ count p ys

-- Each record of the first list is found in the second, and what is left of both is so again.
pub data Shuffled : List Rec → List Rec → Type 0 where
  nothing : Shuffled [] []
  found : (x : Rec) (xs before behind : List Rec) → Shuffled xs (before ++ behind) → Shuffled (x ∷ xs) (before ++ (x ∷ behind))
