-- Without a free place the call is refused (`placed_not`); else the counters move on and the record is put in (`placed_by`).
use mathlib.Core.Path.{◌∙◌, sym}
use borrow.Author.Tests.{not-true, not-false}
use Rattle.paper.specs.Records.{records}
use Rattle.method_acts.proofs.Moving.{placed_not, placed_by}
use Rattle.method_acts.proofs.place.Goals as goal

pub returns-then-not-has : goal.returns-then-not-has
returns-then-not-has c = rw (placed_not c.args.t (records c.args.s.now) c.args.handle c.args.attestation c.args.used c.args.r.now (sym c.has.ensures ∙ not-true _ c.if-not-has.true-raw)) c.reject.ensures

pub returns : goal.returns
returns c = placed_by c.args.t c.args.handle c.args.attestation c.args.used c.args.r.now (sym c.has.ensures ∙ not-false _ c.if-not-has.false-raw) c.advance.ensures c.insert.ensures
