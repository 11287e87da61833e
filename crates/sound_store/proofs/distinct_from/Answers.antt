-- A chain over the records behind a place (store_records' Shown.antt).
use Rattle.std.proofs.Common.{rules}
use Rattle.std.proofs.lemmas.Iterator.Adapters.{YieldsList-from_skip}
use Rattle.std.proofs.lemmas.Iterator.Search.{all_from_yields_List}
use Rattle.paper.specs.Form.{test}
use Rattle.paper.specs.Records.{records}
use Rattle.paper.specs.Sound.{distinct}
use Rattle.store_records.proofs.Shown.{all-every, yields}
use borrow.Author.Tests.{tests}
use lib.ListN.{drop}
use mathlib.Core.Path.{◌∙◌}
use Rattle.sound_store.proofs.distinct_from.Goals as goal

pub returns : goal.returns
returns c = let a = c.args in
    all_from_yields_List (λ y. test (distinct a.x.now y)) _ _ _ c.all.ensures.ran
    (YieldsList-from_skip a.from (yields a.s.now _ (rw c.skip.ensures.source c.records.ensures)) c.skip.ensures.count)
    (λ x b q k. search (rules, tests))
    ∙ all-every (λ y. test (distinct a.x.now y)) (drop a.from (records a.s.now))
