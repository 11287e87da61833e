use mathlib.Core.List.{◌++◌}
use mathlib.Core.Path.{◌≡◌, sym, ap, ◌∙◌}
use Prim.Native.Nat.{ℕ, ◌+◌}
use native.Mathlib.Omega.{arith}
use Rattle.paper.specs.Bytes.{behind, two, string}
use Rattle.paper.specs.Calls.{strings}
use Rattle.paper.specs.Mac.{each_string}
use Rattle.call_mac.proofs.Pieces.{certificates_more, certificates_end, string-joined}
use Rattle.call_mac.proofs.with_certificates.Goals as goal

pub loop-init : goal.loop-init
loop-init c =
    let a = c.args in
    ((λ key text h. (text, h, ap (λ (n : ℕ). text ++ each_string (strings n a.k a.c.now)) (omega arith))), omega arith)

pub loop-preserved : goal.loop-preserved
unfolding behind
loop-preserved c =
    let a = c.args in
    let l = c.loop in
    let s = c.string_in-v in
    let next : l.at + (2 + two l.at a.c.now) ≡ behind l.at a.c.now = omega arith in (
      (λ key text h.
          let w = l.invariant.0 key text h in (
            w.0 ++ string s.result.now,
            rw (← string-joined w.0 _ _ c.two_bytes.ensures) (c.update-r.ensures key _ (c.update.ensures key w.0 w.1)),
            rw (s.ensures, c.two_at.ensures.0, next) (sym (certificates_more w.0 a.c.now a.n l.counter l.at c.loop-test.true) ∙ w.2),
          )),
      omega arith,
    )

pub returns : goal.returns
returns c =
    let l = c.loop in
    λ key text h. let w = l.invariant.0 key text h in rw (← w.2, certificates_end w.0 c.args.c.now c.args.n l.counter l.at c.loop-test.false) w.1
