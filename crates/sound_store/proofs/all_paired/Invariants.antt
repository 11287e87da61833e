use Rattle.paper.specs.Form.{test}
use Rattle.paper.specs.Records.{records}
use Rattle.sound_store.specs.Whole.{paired}
use Rattle.sound_store.proofs.Agreeing.{paired_from}
use mathlib.Core.Path.{◌≡◌}
use Rattle.sound_store.proofs.all_paired.Given as goal

abbrev pub invariant-loop-i : goal.invariant-loop-i
invariant-loop-i l = test (paired (records l.s)) ≡ paired_from l.s l.i
