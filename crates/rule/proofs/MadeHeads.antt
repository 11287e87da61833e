-- New records: their first sixteen bytes read back, and that they have 256.
use mathlib.Core.Path.{◌≡◌, refl, ap, ◌∙◌}
use mathlib.Core.List.{List, [], ◌∷◌}
use Prim.Native.Nat.{ℕ, ◌+◌, ◌≤◌, ◌<◌}
use native.Mathlib.Omega.{arith}
use lib.ListN.{length, length-append, length-replicate}
use Rattle.paper.specs.Bytes.{byte, two, four, enc4, zeros_of, padded_text, string_at}
use Rattle.paper.specs.Form.{Rec}
use Rattle.paper.specs.Records.{kind, own, session, parent}
use Rattle.paper.specs.Act.{flat}
use Rattle.laws.proofs.CallStrings.{string_short}
use Rattle.laws.proofs.Strings.{length-padded}

module _ (k a b c o s p : ℕ) (vs : List (List ℕ)) where
  -- kind, three bytes, own handle, session's handle, parent handle, and the rest
  abbrev pub newly : Rec
  newly = flat ((k ∷ []) ∷ (a ∷ []) ∷ (b ∷ []) ∷ (c ∷ []) ∷ enc4 o ∷ enc4 s ∷ enc4 p ∷ vs)

  pub newly_kind : kind newly ≡ k
  unfolding byte
  newly_kind = refl

  pub newly_own : o < 4294967296 → own newly ≡ o
  unfolding byte four
  newly_own l = omega arith

  pub newly_session : s < 4294967296 → session newly ≡ s
  unfolding byte four
  newly_session l = omega arith

  pub newly_parent : p < 4294967296 → parent newly ≡ p
  unfolding byte four
  newly_parent l = omega arith

-- lengths
abbrev pub total : List (List ℕ) → ℕ
total [] = 0
total (v ∷ vs) = length v + total vs

pub length-flat : (vs : List (List ℕ)) → length (flat vs) ≡ total vs
length-flat [] = refl
length-flat (v ∷ vs) = length-append v (flat vs) ∙ ap (λ (n : ℕ). length v + n) (length-flat vs)

pub length-zeros_of : (n : ℕ) → length (zeros_of n) ≡ n
length-zeros_of n = length-replicate {A = ℕ} n 0

-- a string of a call in the room that a record has for it
pub length_kept : (i n : ℕ) (c : List ℕ) → two i c ≤ n → length (padded_text n (string_at i c)) ≡ n + 1
length_kept i n c h = let s = string_short i c in let a = length-padded n (string_at i c) (omega arith) in omega arith
