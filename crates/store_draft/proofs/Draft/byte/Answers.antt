-- A byte goes behind those held (`byte_fits`), or is left out where the record is full (`past`).
use mathlib.Core.List.{[], ◌∷◌}
use Rattle.store_draft.proofs.Laying.{byte_fits, past, shows, whole}
use Rattle.store_draft.proofs.Draft.byte.Goals as goal

pub invariant_of-self : goal.invariant_of-self
invariant_of-self c = whole (byte_fits c.self.invariant c.args.v c.if-self-lt-RECORD_BYTES.true)

pub returns-then-self-lt-RECORD_BYTES : goal.returns-then-self-lt-RECORD_BYTES
returns-then-self-lt-RECORD_BYTES c = rw (← c.self.view_is) (shows (byte_fits c.self.invariant c.args.v c.if-self-lt-RECORD_BYTES.true))

pub returns-else-self-lt-RECORD_BYTES : goal.returns-else-self-lt-RECORD_BYTES
returns-else-self-lt-RECORD_BYTES c = rw (← c.self.view_is) (shows (past c.self.invariant (c.args.v ∷ []) c.if-self-lt-RECORD_BYTES.false))
