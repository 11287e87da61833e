-- The length has its range, what is left of the field is zero, and the bytes have their range (`ident_field`).
use Prim.Native.Nat.{◌+◌}
use Rattle.paper.specs.Bytes.{byte, text_at}
use Rattle.sound_alone.proofs.Padded.{field_length, ident_field}
use borrow.Author.Rules.{rules}
use Rattle.sound_alone.proofs.is_ident.Goals as goal

pub ident_then_blank-requires : goal.ident_then_blank-requires
ident_then_blank-requires c = rw c.part_of.ensures (field_length _ _ _ (search rules))

pub returns : goal.returns
unfolding text_at
returns c =
    let a = c.args in
    rw (c.is_within.ensures, c.ident_then_blank.ensures, c.part_of.ensures, c.from.ensures, c.byte_at-v.ensures) (ident_field (a.i + 1) a.n a.lo (byte a.i a.r.now) a.r.now)
