-- Never again: a handle once given is not given again, whatever calls come between, and whether or not what it named is still there.
-- Only format is no call. Proved in proofs/NeverAgain.antt.
use Rattle.std.specs.Prelude.{◌≡◌, true, List, [], ◌∷◌, ℕ, ◌≤◌}
use Rattle.paper.specs.Bytes.{four, all_within}
use Rattle.paper.specs.Sound.{sound}
use Rattle.rule.specs.Runs.{Call, answered, after}

-- The call is answered 0 with this handle in bytes 1-4 of its reply. Methods 2, 8, 9 and 10 give a handle, all others 0.
pub record Gives (h : ℕ) (s : List ℕ) (q : Call) : Type 0 where
  pub status : (answered s q).status ≡ 0
  pub handle : four 1 (answered s q).reply ≡ h

-- Each byte of each call is at most 255.
abbrev pub AreBytes : List Call → Type 0
AreBytes [] = Unit {0}
AreBytes (q ∷ qs) = (all_within 0 255 q.bytes ≡ true) × AreBytes qs

-- Calls leave a sound store sound (Rule.antt), so the first of the two may itself stand anywhere along the calls.
abbrev pub NeverAgain : Type 0
NeverAgain =
    (s : List ℕ) (h : ℕ) → sound s ≡ true → 1 ≤ h → (first : Call) (between : List Call) (second : Call) → AreBytes (first ∷ second ∷ between)
    → Gives h s first → Gives h (after s (first ∷ between)) second → ⊥
