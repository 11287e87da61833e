-- A part of the store where there is such a record, nothing past the last.
use Rattle.store_records.proofs.Views.{none_shown, shown}
use Rattle.store_records.proofs.record_at.Goals as goal

pub returns-then-s-i : goal.returns-then-s-i
returns-then-s-i c = none_shown c.args.s.now _ c.if-s-i.true

pub returns : goal.returns
returns c = shown c.args.s.now _ c.if-s-i.false
