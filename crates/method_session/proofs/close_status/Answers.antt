-- The list in two halves (`half_refused`, `half_passed`), so that a refused call does not pay for the MAC.
use mathlib.Core.Path.{refl}
use Rattle.std.proofs.Common.{rules}
use Rattle.method_acts.proofs.Halves.{half_refused, half_passed}
use Rattle.method_session.proofs.close_status.Goals as goal

pub returns-in_err-close_rules : goal.returns-in_err-close_rules
returns-in_err-close_rules c = half_refused _ _ c.in_err-close_rules.field-0.0 (search rules) c.in_err-close_rules.ensures

pub returns : goal.returns
returns c = half_passed _ _ refl c.in_ok-close_rules.ensures c.close_seal.ensures
