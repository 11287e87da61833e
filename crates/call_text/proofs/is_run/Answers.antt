-- Each two neighbours are asked whether the second may stand behind the first.
use mathlib.Core.Path.{◌∙◌}
use borrow.Author.Tests.{tests}
use Rattle.std.proofs.Common.{rules, lit<}
use Rattle.std.proofs.lemmas.Iterator.Search.{all_from_yields_List}
use Rattle.call_text.proofs.Windows.{YieldsList-from_windows, are_next, run_windows}
use Rattle.call_text.proofs.is_run.Goals as goal

pub returns : goal.returns
returns c =
    all_from_yields_List (are_next c.args.up) _ _ _ c.all.ensures.ran (YieldsList-from_windows 2 c.args.v.now (lit< tt) (cc) (cc)) (λ x b q k. search (rules, tests))
    ∙ run_windows c.args.up c.args.v.now
