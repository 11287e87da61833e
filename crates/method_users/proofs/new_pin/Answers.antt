-- It stands behind what is typed.
use mathlib.Core.Path.{ap}
use Rattle.call_fields.specs.declared.TypedFields.{TypedFields}
use Rattle.method_users.proofs.new_pin.Goals as goal

pub returns : goal.returns
returns c = rw (← ap (λ (q : TypedFields). q.second) c.typed_fields-q.ensures) c.string_in.ensures
