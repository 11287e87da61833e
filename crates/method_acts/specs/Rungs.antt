-- A list of refusals as a status: that of the first that holds, or 0. And what code tells, as the same status.
use Rattle.std.specs.Prelude.{Bool, true, false, ◌&&◌, List, [], ◌∷◌, ℕ, zero, suc, Result, Ok, Err}
use Rattle.paper.specs.Form.{Fault, ◌gives◌, settle}
use Rattle.paper.specs.Refusal.{number}
use Rattle.paper.specs.declared.Refusal.{Refusal}

unfoldable pub status : List Fault → ℕ
status fs = settle fs (λ n. n) 0

-- The status that a function which refuses tells: the number of its refusal, or 0.
abbrev pub number_of : Result (Unit {0}) Refusal → ℕ
number_of (Ok u) = 0
number_of (Err e) = number e

-- No refusal has the status 0.
abbrev pub is_number : ℕ → Bool
is_number zero = false
is_number (suc n) = true

abbrev pub proper : List Fault → Bool
proper [] = true
proper ((φ gives s) ∷ fs) = is_number s && proper fs
