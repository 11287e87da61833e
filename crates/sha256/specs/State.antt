-- What a state stands for: the bytes taken since the start, however many.
use Rattle.std.specs.Prelude.{◌≡◌, ℕ, ◌-◌, ◌*◌, ◌/◌, ◌%◌, ◌^◌, List, ◌++◌, length, drop, replicate}
use Rattle.sha256.specs.declared.State.{State}
use Rattle.sha256.specs.declared.Words.{Words}
use Rattle.sha256.specs.Sha256.{after}

-- The count is the number of bytes modulo 2^64, the hash value that of the whole blocks, and the buffer has the bytes behind them, then
-- zeros: the bytes taken determine the state.
pub record Stands (s : State) (m : List ℕ) : Type 0 where
  pub count : s.count ≡ length m % 2 ^ 64
  pub hash : s.hash ≡ after m (length m / 64)
  pub rest : s.rest ≡ drop (length m / 64 * 64) m ++ replicate (64 - length m % 64) 0

-- One block is taken, whose hash value is x.
abbrev pub resumed : Words → State
resumed x = record { hash = x; rest = replicate 64 0; count = 64 }
