-- A verdict on the PUK's own values (`by_verdict`).
use Rattle.paper.specs.Records.{PUK, own, session}
use Rattle.paper.specs.Pin.{puk_check, puk_missed}
use Rattle.store_records.specs.declared.Choice.TheVariants.{Limited}
use Rattle.store_edits.specs.declared.Edit.TheVariants.{AddOne}
use Rattle.method_users.specs.declared.Deed.TheVariants.{Count}
use Rattle.method_users.proofs.Methods.{by_verdict}
use Rattle.method_users.proofs.by_puk.Goals as goal

pub returns : goal.returns
unfolding puk_check puk_missed
returns c =
    let a = c.args in
    λ w rs. rw (c.by.ensures, c.judge-v.ensures, c.byte_at.ensures, c.byte_at-2.ensures, c.text_at.ensures, c.four_at.ensures, c.four_at-2.ensures) (by_verdict (puk_check a.puk.now a.typed.now) (Count (Limited PUK (own a.puk.now) (session a.puk.now)) (AddOne 3)) a.right w rs)
