-- A plan made and carried out (`enacted`), or nothing done to a store of more records than a plan has room for.
use Rattle.effect_deeds.proofs.Planning.{enacted, left_alone}
use Rattle.effect_deeds.specs.Deeds.{dealt}
use native.Mathlib.Omega.{arith}
use Rattle.effect_deeds.proofs.enact.Goals as goal

pub returns-then-count-gt-MOST_RECORDS : goal.returns-then-count-gt-MOST_RECORDS
returns-then-count-gt-MOST_RECORDS c = left_alone c.args.v.now c.args.d c.args.store.now (omega (arith, c.if-count-gt-MOST_RECORDS.true))

pub returns : goal.returns
unfolding dealt
returns c = enacted c.args.v.now c.args.d c.args.store.now _ _ (omega (arith, c.if-count-gt-MOST_RECORDS.false)) c.plan-p.ensures c.deal_by.ensures
