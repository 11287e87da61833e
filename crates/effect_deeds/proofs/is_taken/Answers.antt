-- Outside of the span there is none (`beyond`).
use mathlib.Core.Path.{sym}
use Rattle.paper.specs.Records.{records}
use Rattle.effect_deeds.proofs.Planning.{beyond}
use Rattle.effect_deeds.proofs.is_taken.Goals as goal

pub returns-then-key-s : goal.returns-then-key-s
returns-then-key-s c = λ w. sym (beyond c.args.g (records c.args.store.now) c.args.s c.args.key w c.then-key-s.either)
