-- Whose key it is, and then its mark (`marked_key`, `gone_or_kept`).
use mathlib.Core.Path.{◌≡◌}
use mathlib.Core.Bool.{true}
use mathlib.Core.List.{[]}
use lib.ListN.{get_or}
use Rattle.paper.specs.Form.{test}
use Rattle.paper.specs.Records.{records}
use Rattle.paper.specs.Closing.{key_goes}
use Rattle.effect_plan.proofs.Near.{marked_key, key_there, gone_or_kept}
use Rattle.effect_plan.specs.Sets.{under}
use Rattle.store_records.proofs.Places.{told}
use Rattle.effect_plan.proofs.is_key_so.Goals as goal

pub returns-then-is_under : goal.returns-then-is_under
returns-then-is_under c = λ d w.
    let rs = records c.args.store.now in
    let x = get_or rs c.args.i [] in
    let t : test (under c.args.u x) ≡ true = told (under c.args.u) c.record_at.ensures c.is_under.ensures c.if-is_under.true in
    rw (t, c.is_key_at.ensures, marked_key w c.args.i (key_there c.args.u rs c.args.i t)) (gone_or_kept c.args.gone (key_goes d rs x))
