-- A call as it is made: its bytes, its chip bytes and the reply buffer; the paper's answer to it; and the store that a list of
-- calls leaves.
use Rattle.std.specs.Prelude.{List, [], ◌∷◌, ℕ}
use Rattle.paper.specs.Answer.{Answer, answer}

pub record Call : Type 0 where
  pub bytes : List ℕ
  pub chip : List ℕ
  pub reply : List ℕ

abbrev pub answered : List ℕ → Call → Answer
answered s q = answer s q.bytes q.chip q.reply

abbrev pub after : List ℕ → List Call → List ℕ
after s [] = s
after s (q ∷ qs) = after (answered s q).store qs
