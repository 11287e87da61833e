-- A reply too short (`answered_not`), or the answer written once (`answered`).
use mathlib.Core.Path.{ap, ◌∙◌}
use Rattle.paper.specs.Bytes.{over}
use Rattle.token.proofs.Steps.{answered_not, answered}
use Rattle.token.proofs.call.Goals as goal

pub returns-then-reply-lt-REPLY_BYTES : goal.returns-then-reply-lt-REPLY_BYTES
returns-then-reply-lt-REPLY_BYTES c =
    let args = c.args in
    answered_not args.store.now args.call.now args.chip.now args.reply.now c.if-reply-lt-REPLY_BYTES.true

pub returns : goal.returns
returns c =
    let args = c.args in
    answered args.store.now args.call.now args.chip.now args.reply.now c.if-reply-lt-REPLY_BYTES.false c.judge-r.ensures (c.write_attestation.ensures ∙ ap (over 5 c.judge-r.result.attestation) c.write_head.ensures)
