-- The clauses of two records, then what each record asks of the others (`both_agree`).
use Rattle.std.proofs.Common.{rules}
use Rattle.paper.specs.Form.{test}
use Rattle.paper.specs.Records.{records}
use Rattle.sound_store.specs.Whole.{paired}
use Rattle.sound_store.proofs.Agreeing.{both_agree}
use mathlib.Core.Bool.{true}
use mathlib.Core.Path.{◌≡◌, ◌∙◌}
use Rattle.sound_store.proofs.agree.Goals as goal

pub returns : goal.returns
returns c = let p : test (paired (records c.args.s.now)) ≡ true = search rules in
    c.all_settled.ensures ∙ rw p at (both_agree (records c.args.s.now))
