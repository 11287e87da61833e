-- Each two neighbours are asked whether they are equal.
use mathlib.Core.Path.{◌∙◌}
use borrow.Author.Tests.{tests}
use Rattle.std.proofs.Common.{rules, lit<}
use Rattle.std.proofs.lemmas.Iterator.Search.{any_from_yields_List}
use Rattle.call_text.proofs.Windows.{YieldsList-from_windows, are_two_equal, two_windows}
use Rattle.call_text.proofs.has_two_equal.Goals as goal

pub returns : goal.returns
returns c =
    let v = c.args.v.now in
    any_from_yields_List are_two_equal _ _ _ c.any.ensures.ran (YieldsList-from_windows 2 v (lit< tt) (cc) (cc)) (λ x b q k. search (rules, tests)) ∙ two_windows v
