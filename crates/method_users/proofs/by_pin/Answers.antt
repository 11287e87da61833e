-- A verdict on the key's own values (`by_verdict`).
use Rattle.paper.specs.Records.{KEY, own, session}
use Rattle.paper.specs.Pin.{pin_check, pin_missed}
use Rattle.store_records.specs.declared.Choice.TheVariants.{That}
use Rattle.store_edits.specs.declared.Edit.TheVariants.{AddOne}
use Rattle.method_users.specs.declared.Deed.TheVariants.{Count}
use Rattle.method_users.proofs.Methods.{by_verdict}
use Rattle.method_users.proofs.by_pin.Goals as goal

pub returns : goal.returns
unfolding pin_check pin_missed
returns c =
    let a = c.args in
    λ w rs. rw (c.by.ensures, c.judge-v.ensures, c.byte_at.ensures, c.byte_at-2.ensures, c.text_at.ensures, c.four_at.ensures, c.four_at-2.ensures) (by_verdict (pin_check a.pol.now a.x.now a.typed.now) (Count (That KEY (own a.x.now) (session a.x.now)) (AddOne 2)) a.right w rs)
