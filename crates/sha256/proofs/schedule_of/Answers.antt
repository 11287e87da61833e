use Rattle.std.proofs.Common.{sym, ◌∙◌, arith, length-set, rules}
use Rattle.sha256.specs.Sha256.{schedule}
use Rattle.sha256.proofs.Schedule.{early, late, grow, whole}
use Rattle.sha256.proofs.schedule_of.Goals as goal

pub loop-t-init : goal.loop-t-init
unfolding schedule
loop-t-init c = search rules

pub loop-t-preserved : goal.loop-t-preserved
loop-t-preserved c =
    let l = c.loop-t in (
      simp length-set l.invariant.0,
      grow c.args.b.now l.w l.t c.word_at.result (omega arith) l.invariant.1
          (c.word_at.ensures ∙ sym (early _ _ l.t c.loop-t-test.true)),
    )

pub loop-t-2-preserved : goal.loop-t-2-preserved
loop-t-2-preserved c =
    let l = c.loop-t-2 in (
      simp length-set l.invariant.0,
      grow c.args.b.now l.w l.t c.mix.result (omega arith) l.invariant.1
          (c.mix.ensures ∙ sym (late _ _ l.w l.t (omega arith) l.invariant.1)),
    )

pub returns : goal.returns
returns c =
    let l = c.loop-t-2 in
    whole _ l.w l.t (omega arith) c.loop-t-2-test.false l.invariant.0 l.invariant.1
