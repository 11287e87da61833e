-- The number of whole records is the quotient of the length (`length-records`).
use Rattle.store_records.proofs.Views.{length-records}
use mathlib.Core.Path.{sym}
use Rattle.store_records.proofs.count.Goals as goal

pub returns : goal.returns
returns c = sym (length-records _)
