-- The front of the call, the fields behind it, and the MAC. `room` lies too far back for `omega`, so it is listed.
use native.Mathlib.Omega.{arith}
use lib.ListN.{length-append}
use Rattle.paper.specs.Issuing.{key_call}
use Rattle.issuer.proofs.Writing.{◌and_then◌, meant}
use Rattle.issuer.proofs.KeyOrderOrder.write.Goals as goal

pub put_back-at-requires : goal.put_back-at-requires
put_back-at-requires c =
    let front = c.put_front-at in
    let room = c.requires.1 in
    omega (arith, room, front.auto.out, simp length-append at front.ensures.place)

pub put-requires : goal.put-requires
put-requires c =
    let back = c.put_back-at in
    let front = c.put_front-at in
    let room = c.requires.1 in
    omega (arith, room, front.auto.out, back.auto.out, simp length-append at (back.ensures _ _ front.ensures).place)

pub returns : goal.returns
unfolding key_call
returns c =
    c.put_back-at.ensures _ _ c.put_front-at.ensures
    and_then meant c.put.ensures (rw (c.new.ensures, c.key_of-k.ensures, c.flags.ensures) at c.key_under-m.ensures)
