-- The runs of n neighbours in a text, as `windows(n)` gives them, and the rules that ask each of them.
use mathlib.Core.Path.{◌≡◌, refl, ◌∙◌}
use mathlib.Core.Bool.{Bool, true, false, ◌&&◌, cond}
use mathlib.Core.List.{List, [], ◌∷◌}
use Prim.Native.Nat.{ℕ, suc, ◌≤◌, ◌<◌}
use native.Mathlib.Omega.{arith}
use borrow.Author.Tests.{le-leb, lt-leb}
use lib.Dec.{eqb, leb}
use lib.ListN.{length, get_or, take, drop}
use Rattle.std.specs.declared.slice.Windows.{Windows}
use Rattle.std.specs.List.{list_all, list_any}
use Rattle.std.specs.Slice.Iter.{windows_rest, windows_size, windows_steps}
use Rattle.std.proofs.lemmas.Iterator.{YieldsList}
use Rattle.std.proofs.lemmas.Iterator.Splits.{YieldsList-from_shown_while}
use Rattle.paper.specs.Text.{two_equal, two_equal_from, three_equal, three_equal_from, rising_from, falling_from}
use Rattle.call_text.specs.Runs.{is_next, is_run}

abbrev pub windows : ℕ → List ℕ → List (List ℕ)
windows n [] = []
windows n (x ∷ v) = cond (leb n (suc (length v))) (take n (x ∷ v) ∷ windows n v) []

windows_none : (n : ℕ) (v : List ℕ) → length v < n → length (windows n v) ≡ 0
windows_none n [] h = refl
windows_none n (x ∷ v) h = rw (lt-leb n (suc (length v)) h)

windows_more : (n : ℕ) (v : List ℕ) → 0 < n → n ≤ length v → windows n v ≡ take n v ∷ windows n (drop 1 v)
windows_more n [] p h = absurd (omega arith)
windows_more n (x ∷ v) p h = rw (le-leb n (suc (length v)) h)

-- What a chain from `windows(n)` goes over.
pub YieldsList-from_windows : {s : Windows ℕ} (n : ℕ) (v : List ℕ) → 0 < n → windows_size s ≡ n → windows_rest s ≡ v → YieldsList windows_steps (λ w. w.now) s (windows n v)
YieldsList-from_windows {s} n v p e h =
    rw (← h) (YieldsList-from_shown_while windows_steps (λ w. w.now) (λ t. windows n (windows_rest t)) (λ t. windows_size t ≡ n)
    (λ t u z k. windows_none n (windows_rest t) (omega (arith, k.1.0)))
    (λ t x u z k. (k.0 ∙ z, windows_more n (windows_rest t) p (omega (arith, k.1.0)) ∙ cc (k.1.1, k.1.2)))
    s e)

-- What each rule asks of a window.
abbrev pub are_two_equal : List ℕ → Bool
are_two_equal w = eqb (get_or w 0 0) (get_or w 1 0)

abbrev pub are_three_equal : List ℕ → Bool
are_three_equal w = eqb (get_or w 0 0) (get_or w 1 0) && eqb (get_or w 1 0) (get_or w 2 0)

abbrev pub are_next : Bool → List ℕ → Bool
are_next up w = is_next up (get_or w 0 0) (get_or w 1 0)

two_long : {A : Type 0} (v : List A) → leb 2 (suc (suc (length v))) ≡ true
two_long v = le-leb 2 (suc (suc (length v))) (omega arith)

pub two_windows : (v : List ℕ) → list_any are_two_equal (windows 2 v) ≡ two_equal v
unfolding two_equal_from
two_windows [] = refl
two_windows (x ∷ []) = refl
two_windows (x ∷ y ∷ v) = rw (two_long v, two_windows (y ∷ v))

pub three_windows : (v : List ℕ) → list_any are_three_equal (windows 3 v) ≡ three_equal v
unfolding three_equal_from
three_windows [] = refl
three_windows (x ∷ []) = refl
three_windows (x ∷ y ∷ []) = refl
three_windows (x ∷ y ∷ z ∷ v) =
    let long = le-leb 3 (suc (suc (suc (length v)))) (omega arith) in
    rw (long, three_windows (y ∷ z ∷ v))

pub run_windows : (up : Bool) (v : List ℕ) → list_all (are_next up) (windows 2 v) ≡ is_run up v
unfolding rising_from falling_from
run_windows up [] = refl
run_windows true (x ∷ []) = refl
run_windows false (x ∷ []) = refl
run_windows true (x ∷ y ∷ v) = rw (two_long v, run_windows true (y ∷ v))
run_windows false (x ∷ y ∷ v) = rw (two_long v, run_windows false (y ∷ v))
