-- A length that no store has (`formatted_not`), or all free and then the counter (`formatted-done`).
use borrow.Author.Tests.{not-true, not-false}
use mathlib.Core.Path.{sym, ◌∙◌}
use Rattle.token.proofs.Steps.{formatted_not, formatted-done}
use Rattle.token.proofs.format.Goals as goal

pub returns-then-not-length_fits : goal.returns-then-not-length_fits
returns-then-not-length_fits c = formatted_not c.args.store.now (sym c.length_fits.ensures ∙ not-true _ c.if-not-length_fits.true-raw)

pub returns : goal.returns
returns c =
    let args = c.args in
    formatted-done args.store.now (sym c.length_fits.ensures ∙ not-false _ c.if-not-length_fits.false-raw) (c.fill.ensures.after (λ y e. e)) (rw (← c.counter-r.ensures) c.put.ensures)
