-- The range first, then the refusals (`ended_not`), then the close itself (`closed`).
use Rattle.paper.specs.Records.{records}
use Rattle.store_session.specs.Decoded.{value_of}
use Rattle.method_acts.proofs.Methods.{too_long, in_range_lem}
use Rattle.effect_deeds.proofs.Outcomes.{not_long}
use Rattle.method_session.specs.Ends.{ended}
use Rattle.method_session.proofs.Ending.{ended_not, closed}
use Rattle.method_session.proofs.close.Goals as goal

pub returns-then-s-gt-MOST_RECORDS : goal.returns-then-s-gt-MOST_RECORDS
returns-then-s-gt-MOST_RECORDS c =
    let args = c.args in
    rw c.refused.ensures (too_long (ended (value_of args.x) args.c.now args.chip.now) args.s.now c.if-s-gt-MOST_RECORDS.true)

pub returns-in-Err : goal.returns-in-Err
returns-in-Err c =
    let args = c.args in
    let if1 = c.if-s-gt-MOST_RECORDS in
    let four-at = c.four_at-t in
    in_range_lem (ended (value_of args.x) args.c.now args.chip.now) args.s.now if1.false (rw (ended_not (value_of args.x) args.c.now args.chip.now (records args.s.now) c.in-Err.e c.in-Err.ensures, ← four-at.ensures) c.reject.ensures)

pub returns : goal.returns
returns c =
    let args = c.args in
    let if1 = c.if-s-gt-MOST_RECORDS in
    let four-at = c.four_at-t in
    let attested-close = c.attested_close-a in
    in_range_lem (ended (value_of args.x) args.c.now args.chip.now) args.s.now if1.false
    (closed (value_of args.x) args.c.now args.chip.now four-at.result attested-close.result c.in_default.ensures four-at.ensures (rw c.new.ensures at attested-close.ensures) (not_long args.s.now _ if1.false c.close.ensures))
