-- Four rounds more, as a turn of the loop does them.
use Rattle.std.proofs.Common.{◌≡◌, ℕ, suc, ◌+◌, List, get_or, arith}
use Rattle.sha256.specs.declared.Words.{Words}
use Rattle.sha256.specs.Sha256.{rounds, round, constants}

round_more : (ws : List ℕ) (x : Words) (t n : ℕ) → n ≡ suc t → rounds ws x n ≡ round (rounds ws x t) (get_or constants t 0) (get_or ws t 0)
unfolding rounds
round_more ws x t n p = rw p

pub four_more : (ws : List ℕ) (x : Words) (t : ℕ) {v v₁ v₂ v₃ v₄ : Words}
    → v ≡ rounds ws x t
    → v₁ ≡ round v (get_or constants t 0) (get_or ws t 0)
    → v₂ ≡ round v₁ (get_or constants (t + 1) 0) (get_or ws (t + 1) 0)
    → v₃ ≡ round v₂ (get_or constants (t + 2) 0) (get_or ws (t + 2) 0)
    → v₄ ≡ round v₃ (get_or constants (t + 3) 0) (get_or ws (t + 3) 0)
    → v₄ ≡ rounds ws x (t + 4)
four_more ws x t p p₁ p₂ p₃ p₄ =
    cc (
      round_more ws x t (t + 1) (omega arith),
      round_more ws x (t + 1) (t + 2) (omega arith),
      round_more ws x (t + 2) (t + 3) (omega arith),
      round_more ws x (t + 3) (t + 4) (omega arith),
    )
