-- By places: past the last record no key is asked for.
use Rattle.std.proofs.Common.{rules}
use Rattle.std.proofs.lemmas.Iterator.{YieldsList-from_range}
use Rattle.std.proofs.lemmas.Iterator.Search.{any_from_yields_List}
use mathlib.Core.List.{[]}
use mathlib.Core.Path.{◌∙◌, refl}
use native.Mathlib.Omega.{arith}
use lib.ListN.{length, get_or}
use Rattle.paper.specs.Form.{test}
use Rattle.paper.specs.Records.{records}
use Rattle.effect_plan.specs.Sets.{key_so}
use Rattle.effect_plan.proofs.Scans.{any-places}
use borrow.Author.Tests.{tests}
use Rattle.effect_plan.proofs.some_key.Goals as goal

pub returns : goal.returns
returns c = λ d w.
    let rs = records c.args.store.now in
    let φ = key_so d rs c.args.u c.args.gone in
    any_from_yields_List (λ i. test (φ (get_or rs i []))) _ _ _ c.any.ensures.ran (YieldsList-from_range 0 _ (length rs) refl (omega arith)) (λ x b q k. search (rules, tests))
    ∙ any-places (λ r. test (φ r)) rs
