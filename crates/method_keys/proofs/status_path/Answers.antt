-- The list in halves (`half_refused`, `half_passed`).
use mathlib.Core.Path.{refl}
use Rattle.std.proofs.Common.{rules}
use Rattle.method_acts.proofs.Halves.{half_refused, half_passed}
use Rattle.method_keys.proofs.status_path.Goals as goal

pub returns-in_err-path_rules : goal.returns-in_err-path_rules
returns-in_err-path_rules c = half_refused _ _ c.in_err-path_rules.field-0.0 (search rules) c.in_err-path_rules.ensures

pub returns : goal.returns
returns c = half_passed _ _ refl c.in_ok-path_rules.ensures c.path_seal.ensures
