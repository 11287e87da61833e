-- Who must be there is there; most records ask no more (`unasked`); else one pass over all (`met-settled`).
use Rattle.std.proofs.Common.{rules}
use Rattle.paper.specs.Form.{test}
use Rattle.paper.specs.Records.{records}
use Rattle.store_records.proofs.Shown.{all-records}
use Rattle.sound_kin.specs.Settled.{met}
use Rattle.sound_kin.proofs.Settling.{met-settled, unasked}
use borrow.Author.Tests.{tests}
use mathlib.Core.Path.{◌∙◌, sym}
use Rattle.sound_kin.proofs.is_settled.Goals as goal

pub returns-then-not-is_closed-is_kind : goal.returns-then-not-is_closed-is_kind
returns-then-not-is_closed-is_kind c = let a = c.args in sym (unasked a.x.now (records a.s.now) (search rules) (search rules))

pub returns : goal.returns
returns c = let a = c.args in
    all-records (λ y. test (met (records a.s.now) a.x.now c.first-f.result.now y)) c.records.ensures (λ x b q k. search (rules, tests)) c.all.ensures.ran
    ∙ met-settled a.x.now (records a.s.now) (search rules) _ (search rules)
