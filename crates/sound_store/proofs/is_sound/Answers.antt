-- The clauses in the paper's order: the first part that fails decides; a yes of the quick way decides too (`plain-sound`).
use Rattle.std.proofs.Common.{rules}
use Rattle.paper.specs.Form.{test, each}
use Rattle.paper.specs.Records.{records}
use Rattle.paper.specs.Sound.{sound, length_fits, has_counter, alone}
use Rattle.sound_store.proofs.Plain.{plain-sound, at_most}
use mathlib.Core.Bool.{true}
use mathlib.Core.Path.{◌≡◌, sym}
use Rattle.sound_store.proofs.is_sound.Goals as goal

pub returns-then-not-length_fits : goal.returns-then-not-length_fits
unfolding sound
returns-then-not-length_fits c = search rules

pub returns-then-not-has : goal.returns-then-not-has
unfolding sound
returns-then-not-has c = search rules

pub returns-then-not-all_alone : goal.returns-then-not-all_alone
unfolding sound
returns-then-not-all_alone c = search rules

pub is_plain-requires : goal.is_plain-requires
is_plain-requires c = at_most _ (search rules)

pub returns-then-is_plain : goal.returns-then-is_plain
unfolding sound
returns-then-is_plain c = let rs = records c.args.s.now in
    let l : length_fits c.args.s.now ≡ true = search rules in
    let h : test (has_counter rs) ≡ true = search rules in
    let a : test (each rs alone) ≡ true = search rules in
    rw l (sym (plain-sound rs h a (c.is_plain.ensures c.if-is_plain.true)))

pub returns : goal.returns
unfolding sound
returns c = search rules
