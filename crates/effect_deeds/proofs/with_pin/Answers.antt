-- The PIN written over zeros (`pin_laid`).
use Rattle.effect_deeds.proofs.Bytes.{pin_laid}
use Rattle.effect_deeds.proofs.with_pin.Goals as goal

pub returns : goal.returns
returns c = rw (c.with_bytes.ensures, c.with_bytes-r-2.ensures, c.with_bytes-r.ensures) (pin_laid c.args.v.now c.args.r)
