-- Each way of choosing has its own test.
use Rattle.store_records.proofs.is_chosen.Goals as goal

pub returns-in-Kind : goal.returns-in-Kind
returns-in-Kind c = rw c.in-Kind.is c.is_kind.ensures

pub returns-in-That : goal.returns-in-That
returns-in-That c = rw c.in-That.is c.is_that.ensures

pub returns-in-Limited : goal.returns-in-Limited
returns-in-Limited c = rw c.in-Limited.is c.is_limited.ensures

pub returns-in-Bears : goal.returns-in-Bears
returns-in-Bears c = rw c.in-Bears.is c.bears.ensures

pub returns-in-Of : goal.returns-in-Of
returns-in-Of c = rw c.in-Of.is c.is_of.ensures

pub returns-in-Child : goal.returns-in-Child
returns-in-Child c = rw c.in-Child.is c.is_child.ensures

pub returns-in-Held : goal.returns-in-Held
returns-in-Held c = rw c.in-Held.is c.is_held.ensures

pub returns-in-Free : goal.returns-in-Free
returns-in-Free c = rw c.in-Free.is c.is_free.ensures
