-- Each byte is asked whether it is in the alphabet.
use mathlib.Core.Path.{◌∙◌}
use borrow.Author.Tests.{tests}
use Rattle.std.proofs.Common.{rules}
use Rattle.std.proofs.lemmas.Iterator.{YieldsList-from_slice}
use Rattle.std.proofs.lemmas.Iterator.Search.{all_from_yields_List}
use Rattle.call_text.specs.Runs.{in_alphabet}
use Rattle.call_text.proofs.Steps.{alphanumeric_all}
use Rattle.call_text.proofs.is_alphanumeric.Goals as goal

pub returns : goal.returns
returns c =
    let v = c.args.v.now in
    all_from_yields_List in_alphabet _ _ _ c.all.ensures.ran (YieldsList-from_slice v (cc)) (λ x b q k. search (rules, tests)) ∙ alphanumeric_all v
