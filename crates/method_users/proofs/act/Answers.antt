-- Each deed has its own function.
use Rattle.store_edits.proofs.Puts.{unchanged}
use Rattle.method_users.proofs.act.Goals as goal

pub returns-in-Nothing : goal.returns-in-Nothing
returns-in-Nothing c = rw c.in-Nothing.is (unchanged c.args.store.now)

pub returns-in-Count : goal.returns-in-Count
returns-in-Count c = rw c.in-Count.is c.change.ensures

pub returns-in-Remove : goal.returns-in-Remove
returns-in-Remove c = rw c.in-Remove.is c.carry.ensures

pub returns-in-Clear : goal.returns-in-Clear
returns-in-Clear c = rw c.in-Clear.is c.clear_and_remove.ensures

pub returns-in-Unlock : goal.returns-in-Unlock
returns-in-Unlock c = rw c.in-Unlock.is c.carry-in-Unlock.ensures

pub returns-in-Repin : goal.returns-in-Repin
returns-in-Repin c = rw (c.in-Repin.is, ← c.new_pin.ensures) c.change_pin.ensures
