-- What is asked of a byte of a PIN, and of a byte and the one before it.
use Rattle.std.specs.Prelude.{Bool, true, ◌||◌, cond, List, [], ◌∷◌, ℕ, ◌+◌, ◌-◌, eqb}
use Rattle.paper.specs.Bytes.{within}
use Rattle.paper.specs.Text.{leads, rising_from, falling_from}

-- A byte of format 1.
abbrev pub in_alphabet : ℕ → Bool
in_alphabet b = within 0x30 0x39 b || within 0x41 0x5A b

-- How many bytes 80-BF follow a lead byte; 4 if it leads nothing.
abbrev pub followers : ℕ → ℕ
followers b = cond (leads 0 b) 0 (cond (leads 1 b) 1 (cond (leads 2 b) 2 (cond (leads 3 b) 3 4)))

-- How many are to come behind a byte, if n were before it; 4 if the text is broken there.
abbrev pub to_come : ℕ → ℕ → ℕ
to_come n b = cond (eqb n 0) (followers b) (cond (within 0x80 0xBF b) (n - 1) 4)

-- A run upwards or downwards by one.
abbrev pub is_next : Bool → ℕ → ℕ → Bool
is_next up x y = cond up (eqb y (x + 1)) (eqb x (y + 1))

abbrev pub is_run : Bool → List ℕ → Bool
is_run up [] = true
is_run up (x ∷ v) = cond up (rising_from x v) (falling_from x v)
