-- "Both sides of each line": the cases marked P, one table under one statement.
use mathlib.Core.Path.{◌≡◌, refl}
use mathlib.Core.Bool.{Bool, true, false, not, ◌&&◌, cond}
use mathlib.Core.List.{List, [], ◌∷◌}
use Prim.Native.Nat.{ℕ}
use Prim.Native.String.{String}
use lib.Dec.{eqb}
use Rattle.paper.specs.Bytes.{ascii, all_within}
use Rattle.paper.specs.Records.{handle}
use Rattle.paper.specs.Text.{format_fits, pattern_fits, alphanumeric, utf8_from, two_equal_from, three_equal_from, rising_from, falling_from}

-- what is asked, and the paper's answer
pub data Line : Type 0 where
  handled : (session object answer : ℕ) → Line
  patterned : (patterns : ℕ) (pin : String) (passes : Bool) → Line
  formatted : (format : ℕ) (pin : String) (passes : Bool) → Line

abbrev agrees : Bool → Bool → Bool
agrees a b = cond a b (not b)

abbrev holds : Line → Bool
holds (handled n o answer) = eqb (handle n o) answer
holds (patterned p pin passes) = agrees (pattern_fits p (ascii pin)) passes
holds (formatted f pin passes) = agrees (format_fits f (ascii pin)) passes

abbrev all_hold : List Line → Bool
all_hold [] = true
all_hold (l ∷ ls) = holds l && all_hold ls

pub lines :
    all_hold
    (handled 1 0 65536 ∷ handled 2 3 131075
    ∷ patterned 4 "1234" false ∷ patterned 4 "4321" false ∷ patterned 4 "1245" true ∷ patterned 4 "7" true
    ∷ patterned 1 "1123" false ∷ patterned 1 "1212" true
    ∷ patterned 2 "5111" false ∷ patterned 2 "1122" true
    ∷ formatted 1 "A9" true ∷ formatted 1 "a9" false
    ∷ [])
    ≡ true
unfolding all_within format_fits pattern_fits alphanumeric utf8_from two_equal_from three_equal_from rising_from falling_from
lines = refl
