-- Refused by its status (`path_not`), or the counter moves on and the key is certified (`path_by`).
use mathlib.Core.Path.{◌∙◌, sym}
use Rattle.paper.specs.Records.{KEY, records}
use Rattle.paper.specs.Calls.{subject, path_in}
use Rattle.laws.proofs.Lists.{at_block}
use Rattle.store_session.specs.Decoded.{value_of}
use Rattle.method_acts.proofs.Climbs.{no-zero}
use Rattle.method_keys.proofs.Paths.{path_not, path_by}
use Rattle.method_keys.proofs.set_path.Goals as goal

pub returns-in-Err : goal.returns-in-Err
returns-in-Err c =
    let args = c.args in
    let that = c.that in
    let four-at = c.four_at-t in
    let path-fields = c.path_fields-q in
    let rs = records args.s.now in
    let told = rw (that.ensures, four-at.ensures, path-fields.ensures, ← at_block KEY (path_in args.c.now).key (subject args.c.now) rs) at c.in-Err.ensures in
    rw (path_not (value_of args.x) args.c.now args.chip.now rs (λ z. no-zero c.in-Err.e (told ∙ z)))
    (rw (told, four-at.ensures) at c.reject.ensures)

pub returns : goal.returns
returns c =
    let args = c.args in
    let that = c.that in
    let four-at = c.four_at-t in
    let path-fields = c.path_fields-q in
    let advance = c.advance in
    let first-digest = c.first_digest-d in
    let rs = records args.s.now in
    let told = rw (that.ensures, four-at.ensures, path-fields.ensures, ← at_block KEY (path_in args.c.now).key (subject args.c.now) rs) at c.in_default.ensures in
    rw c.bare.ensures
    (path_by (value_of args.x) args.c.now args.chip.now (sym told) (rw four-at.ensures at advance.ensures) (rw (first-digest.ensures, four-at.ensures, path-fields.ensures) at c.certify.ensures))
