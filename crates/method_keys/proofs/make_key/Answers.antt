-- Refused by its status (`key_not`), or the record is placed (`key_done`). The policy is found among all records (`at_block`).
use mathlib.Core.Path.{◌∙◌, sym}
use Rattle.paper.specs.Records.{POLICY, records}
use Rattle.paper.specs.Calls.{subject, key_in}
use Rattle.laws.proofs.Lists.{at_block}
use Rattle.store_session.specs.Decoded.{value_of}
use Rattle.method_acts.proofs.Climbs.{no-zero}
use Rattle.method_keys.proofs.Makes.{key_not, key_done}
use Rattle.method_keys.proofs.make_key.Goals as goal

pub returns-in-Err : goal.returns-in-Err
returns-in-Err c =
    let args = c.args in
    let pin = c.pin-v in
    let that = c.that-pol in
    let four-at = c.four_at-t in
    let key-fields = c.key_fields-q in
    let rs = records args.s.now in
    let told = rw (pin.ensures, that.ensures, four-at.ensures, key-fields.ensures, ← at_block POLICY (key_in args.c.now args.chip.now).policy (subject args.c.now) rs) at c.in-Err.ensures in
    rw (key_not (value_of args.x) args.c.now args.chip.now rs (λ z. no-zero c.in-Err.e (told ∙ z)))
    (rw (told, four-at.ensures) at c.reject.ensures)

pub returns : goal.returns
returns c =
    let args = c.args in
    let pin = c.pin-v in
    let that = c.that-pol in
    let four-at = c.four_at-t in
    let key-fields = c.key_fields-q in
    let key-record = c.key_record-r in
    let attested-key = c.attested_key-a in
    let fresh = c.fresh in
    let rs = records args.s.now in
    let told = rw (pin.ensures, that.ensures, four-at.ensures, key-fields.ensures, ← at_block POLICY (key_in args.c.now args.chip.now).policy (subject args.c.now) rs) at c.in_default.ensures in
    rw (key_done (value_of args.x) args.c.now args.chip.now rs (sym told))
    (rw (key-record.ensures, attested-key.ensures, c.new.ensures, fresh.ensures, pin.ensures, that.ensures, four-at.ensures, key-fields.ensures, ← at_block POLICY (key_in args.c.now args.chip.now).policy (subject args.c.now) rs) at c.place.ensures)
