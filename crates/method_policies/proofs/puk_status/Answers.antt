-- The list in halves (`half_refused`, `half_passed`).
use mathlib.Core.Path.{refl}
use Rattle.std.proofs.Common.{rules}
use Rattle.method_acts.proofs.Halves.{half_refused, half_passed}
use Rattle.method_policies.proofs.puk_status.Goals as goal

pub returns-in_err-puk_rules : goal.returns-in_err-puk_rules
returns-in_err-puk_rules c = half_refused _ _ c.in_err-puk_rules.field-0.0 (search rules) c.in_err-puk_rules.ensures

pub returns : goal.returns
returns c = half_passed _ _ refl c.in_ok-puk_rules.ensures c.puk_seal.ensures
