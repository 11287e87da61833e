-- The part is at most 32 bytes (`short`), and it is copied into zeros (`block_copied`).
use Rattle.std.proofs.Common.{length, length-take-le, sym}
use Rattle.paper.specs.Bytes.{zeros_of}
use Rattle.store_session.proofs.Round.{block_copied, short}
use Rattle.store_session.proofs.block_of.Goals as goal

pub slice_bounds-b-end : goal.slice_bounds-b-end
slice_bounds-b-end c = short c.args.r.now _ c.args.k 32 c.part_of-part.ensures

pub slice_bounds-copy_from_slice-end : goal.slice_bounds-copy_from_slice-end
slice_bounds-copy_from_slice-end c = sym (length-take-le (length c.part_of-part.result.now) (zeros_of 32) (short c.args.r.now _ c.args.k 32 c.part_of-part.ensures))

pub copy_from_slice-requires : goal.copy_from_slice-requires
copy_from_slice-requires c = length-take-le (length c.part_of-part.result.now) (zeros_of 32) (short c.args.r.now _ c.args.k 32 c.part_of-part.ensures)

pub returns : goal.returns
returns c = block_copied c.args.r.now c.part_of-part.result.now _ c.args.k c.part_of-part.ensures (rw c.copy_from_slice.ensures.after)
