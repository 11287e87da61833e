-- The three tests in the paper's order, each asked of all records with the session in the statement (`some_block`).
use borrow.Author.Tests.{tests}
use mathlib.Core.Path.{◌∙◌}
use Rattle.std.proofs.Common.{rules}
use Rattle.paper.specs.Form.{Rec, Form, ◌equals◌, ◌and◌, test}
use Rattle.paper.specs.Records.{KEY, PENDING, records, kind, path_set, is_stale, bears, block}
use Rattle.paper.specs.Sound.{childless}
use Rattle.store_records.proofs.Shown.{any-records}
use Rattle.method_acts.proofs.Blocks.{some_block}
use Rattle.method_session.proofs.is_unfit.Goals as goal

pub returns : goal.returns
returns c =
    let t = c.args.t in
    let rs = records c.args.s.now in
    let φ : Rec → Form = λ r. kind r equals KEY and path_set r equals 0 in
    let ψ : Rec → Form = childless (block t rs) in
    let χ : Rec → Form = λ r. kind r equals PENDING and is_stale r equals 1 in
    let a = any-records (λ r. test (bears t r and φ r)) c.records.ensures (λ y b q k. search (rules, tests)) c.any-pathless.ensures.ran ∙ some_block t φ rs in
    let b = any-records (λ r. test (bears t r and ψ r)) c.records-2.ensures (λ y b q k. search (rules, tests)) c.any-childless.ensures.ran ∙ some_block t ψ rs in
    let d = any-records (λ r. test (bears t r and χ r)) c.records-3.ensures (λ y b q k. search (rules, tests)) c.any-stale.ensures.ran ∙ some_block t χ rs in
    rw (a, b, d)
