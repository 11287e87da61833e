-- Secret, name and counter are written one behind the other, and the MAC starts with what they fill (`key_joined`).
use mathlib.Core.Path.{ap}
use lib.ListN.{length, replicate}
use Rattle.call_mac.proofs.Pieces.{key_joined, key_room}
use Rattle.call_mac.proofs.keyed.Goals as goal

pub slice_bounds-k-end-3 : goal.slice_bounds-k-end-3
slice_bounds-k-end-3 c = key_room c.args.key.now c.args.name.now _ _ c.told-key c.requires c.copy_from_slice.ensures.after c.copy_from_slice-2.ensures.after

pub returns : goal.returns
returns c =
    let b = c.two_bytes in
    let e = key_joined c.args.key.now c.args.name.now b.result _ _ _ (replicate 32 0) _ _ c.told-key (ap length b.ensures) c.copy_from_slice.ensures.after c.copy_from_slice-2.ensures.after c.copy_from_slice-3.ensures.after in
    rw (← b.ensures, ← e) c.start.ensures
