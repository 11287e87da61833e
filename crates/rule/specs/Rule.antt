-- The rule: from a sound store every call, whatever its bytes, leaves a sound store; format makes one; an unsound store is never
-- changed by a call. Proved in proofs/Rule.antt.
use Rattle.std.specs.Prelude.{◌≡◌, true, false, List, ℕ}
use Rattle.paper.specs.Bytes.{all_within}
use Rattle.paper.specs.Sound.{sound, length_fits}
use Rattle.paper.specs.Answer.{answer, formatted}

-- A byte is at most 255; nothing else is asked of the call, and nothing of the chip bytes and the reply.
abbrev pub Kept : Type 0
Kept =
    (s c chip reply : List ℕ) → all_within 0 255 c ≡ true → sound s ≡ true → sound (answer s c chip reply).store ≡ true

abbrev pub FormatSound : Type 0
FormatSound = (s : List ℕ) → length_fits s ≡ true → sound (formatted s).store ≡ true

abbrev pub UnsoundSame : Type 0
UnsoundSame = (s c chip reply : List ℕ) → sound s ≡ false → (answer s c chip reply).store ≡ s
