-- All places of the store (`shown`).
use Rattle.std.proofs.Common.{rules, refl}
use Rattle.std.proofs.lemmas.Iterator.{YieldsList-from_range}
use Rattle.std.proofs.lemmas.Iterator.Search.{all_from_yields_List}
use Rattle.paper.specs.Form.{test}
use Rattle.paper.specs.Records.{records}
use Rattle.sound_store.specs.Shown.{sited_at}
use Rattle.sound_store.proofs.Showing.{shown}
use borrow.Author.Tests.{tests}
use lib.ListN.{length}
use mathlib.Core.Path.{◌∙◌, sym}
use native.Mathlib.Omega.{arith}
use Rattle.sound_store.proofs.all_sited.Goals as goal

pub returns : goal.returns
returns c = let a = c.args in λ e. shown a.s.now a.up.now a.over.now a.under.now a.m
    (sym (all_from_yields_List (λ i. test (sited_at (records a.s.now) a.m a.up.now a.over.now a.under.now i)) _ _ _ c.all.ensures.ran
    (YieldsList-from_range 0 c.count.result (length (records a.s.now)) refl (omega arith)) (λ x b q k. search (rules, tests))) ∙ e)
