-- The refusals first (`refused`), then the counter moves on and the record is put in (`created`).
use mathlib.Core.Path.{sym, ap, ◌∙◌}
use Prim.Native.Nat.{ℕ}
use Rattle.paper.specs.Records.{records, handle}
use Rattle.method_session.proofs.Making.{refused, created, number_fits}
use Rattle.method_session.proofs.create.Goals as goal

pub create_status-requires : goal.create_status-requires
create_status-requires c = (c.next_session-number.ensures, c.create_fields-q.ensures)

pub returns-in-Err : goal.returns-in-Err
returns-in-Err c =
    let args = c.args in
    rw c.refused.ensures (refused args.c.now args.chip.now args.s.now c.in-Err.e c.in-Err.ensures)

pub handle_of-h-requires : goal.handle_of-h-requires
handle_of-h-requires c =
    let args = c.args in
    rw c.next_session-number.ensures (number_fits args.c.now args.chip.now (records args.s.now) (sym c.in_default.ensures))

pub session_record-r-requires : goal.session_record-r-requires
session_record-r-requires c =
    let create-fields = c.create_fields-q in
    create-fields.ensures

pub returns : goal.returns
returns c =
    let args = c.args in
    let handle_of = c.handle_of-h in
    let session-record = c.session_record-r in
    let next-session = c.next_session-number in
    let count = c.count in
    created args.c.now args.chip.now handle_of.result session-record.result (sym c.in_default.ensures) (handle_of.ensures ∙ ap (λ (n : ℕ). handle n 0) next-session.ensures) session-record.ensures count.ensures c.insert.ensures
