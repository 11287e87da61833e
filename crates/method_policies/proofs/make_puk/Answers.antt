-- Refused by its status (`told_not`), or the record is placed (`told-done`), which is whole (`puk_laid`).
use mathlib.Core.Path.{refl, sym}
use Rattle.paper.specs.Act.{refuse}
use Rattle.paper.specs.Calls.{subject}
use Rattle.paper.specs.Objects.{make_puk_by}
use Rattle.store_session.specs.Decoded.{value_of}
use Rattle.method_acts.proofs.Climbs.{told_not, told-done}
use Rattle.method_policies.proofs.Makes.{puk_laid}
use Rattle.method_policies.proofs.make_puk.Goals as goal

pub returns-in-Err : goal.returns-in-Err
unfolding make_puk_by
returns-in-Err c = rw (told_not _ refuse _ refl c.in-Err.e c.in-Err.ensures) (rw c.four_at-t.ensures at c.reject.ensures)

pub returns : goal.returns
unfolding make_puk_by
returns c = let a = c.args in
    rw (told-done _ refuse _ refl c.in_default.ensures)
    (rw (c.puk_record-r.ensures, c.fresh.ensures, c.puk_fields-q.ensures, c.four_at-t.ensures, puk_laid a.c.now a.chip.now (subject a.c.now) (value_of a.x) _ (sym c.in_default.ensures)) at c.place.ensures)
