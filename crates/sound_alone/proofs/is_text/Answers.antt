-- The length has its range, and what is left of the field is zero (`rest_of_field`).
use Prim.Native.Nat.{◌+◌}
use Rattle.paper.specs.Bytes.{byte}
use Rattle.sound_alone.proofs.Padded.{field_length, rest_of_field}
use borrow.Author.Rules.{rules}
use Rattle.sound_alone.proofs.is_text.Goals as goal

pub blank_behind-requires : goal.blank_behind-requires
blank_behind-requires c = rw c.part_of.ensures (field_length _ _ _ (search rules))

pub returns : goal.returns
returns c =
    let a = c.args in
    rw (c.is_within.ensures, c.blank_behind.ensures, c.part_of.ensures, c.from.ensures, c.byte_at-v.ensures, rest_of_field (a.i + 1) a.n (byte a.i a.r.now) a.r.now)
