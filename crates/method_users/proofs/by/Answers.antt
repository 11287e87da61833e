-- The cases of the verdict, one by one.
use Rattle.method_users.proofs.by.Goals as goal

pub returns-in-Locked : goal.returns-in-Locked
returns-in-Locked c = rw c.in-Locked.is

pub returns-in-Wrong : goal.returns-in-Wrong
returns-in-Wrong c = rw c.in-Wrong.is

pub returns-in-Right : goal.returns-in-Right
returns-in-Right c = rw c.in-Right.is
