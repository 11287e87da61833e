-- The refusals as code names them, and the number that each has in the reply's status. The paper's lists of refusals give numbers; a
-- function that refuses promises that its refusal has the number that the list gives.
use Rattle.std.specs.Prelude.{ℕ}
use Rattle.paper.specs.declared.Refusal.{Refusal}
use Rattle.paper.specs.declared.Refusal.TheVariants.{Wrong, NoRoom, MacDiffers, NotVerified, NotOpen, NotFit, NoKey, NoAlgorithm, NoForm, BreaksRule, Unsound, NoParent, ShortReply}

abbrev pub number : Refusal → ℕ
number Wrong = 1
number NoRoom = 2
number MacDiffers = 3
number NotVerified = 4
number NotOpen = 5
number NotFit = 6
number NoKey = 7
number NoAlgorithm = 8
number NoForm = 16
number BreaksRule = 17
number Unsound = 19
number NoParent = 20
number ShortReply = 21
