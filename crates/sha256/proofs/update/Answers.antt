-- The block that has begun is filled (`between_full`), or none has (`between_none`); each block of the loop is one more (`between_next`), and what is left waits (`between_end`).
use Rattle.std.proofs.Common.{◌≡◌, ℕ, ◌<◌, List, ◌++◌, length, ap, ◌∙◌, arith, length-append}
use Rattle.std.proofs.lemmas.List.{take_rest}
use Rattle.sha256.proofs.Standing.{stored_part, between_none, between_full, between_next, between_end, tail, tail_next, tail_end}
use Rattle.sha256.proofs.update.Goals as goal
use Rattle.sha256.proofs.update.Goals.{then-k-gt0+else-left-room, else-k-gt0}

pub returns-then-left-room : goal.returns-then-left-room
returns-then-left-room c = λ m h. stored_part c.args.s m c.args.d.now h (omega arith) (omega arith) _ _ c.copy_from_slice.ensures.after (omega arith)

pub loop-b-init : goal.loop-b-init
loop-b-init c =
    let blocks = c.chunks_exact-blocks.ensures in
    let same = c.into_iter-b-iterator.ensures.into_iter_gives in (
      rw same blocks.size,
      rw (same, blocks.rest) (c.remainder-tail.ensures ∙ blocks.remainder),
      λ m h. rw (same, blocks.rest) (elim c.if-k-gt0.branch [
        | then-k-gt0+else-left-room w ↦
            rw (w.hash-is, w.rest-is, w.left-is, w.compress-hash.ensures, take_rest)
            (between_full c.args.s m c.args.d.now _ _ _ h (omega arith) (omega arith) w.copy_from_slice-then-k-gt0.ensures.after (omega arith))
        | else-k-gt0 w ↦ rw (w.hash-is, w.rest-is, w.left-is) (between_none c.args.s m c.args.d.now h w.if-k-gt0.false)
      ]),
    )

pub loop-b-preserved : goal.loop-b-preserved
loop-b-preserved c =
    let l = c.loop-b in
    let b : List ℕ = c.in-Some.b.now in
    let left : List ℕ = c.next.new.self.rest.now in
    let step = c.in-Some.ensures.steps in
    let long : length b ≡ 64 = step.1.1 ∙ l.invariant.0 in (
      step.0 ∙ l.invariant.0,
      l.invariant.1 ∙ ap tail step.1.0 ∙ tail_next b left long,
      λ m h. rw c.compress-hash-in-loop-b.ensures (between_next l.hash _ b left (m ++ c.args.d.now) long (rw step.1.0 at (l.invariant.2 m h))),
    )

pub returns : goal.returns
returns c =
    let l = c.loop-b in
    let left : List ℕ = l.b-iterator.rest.now in
    let step = c.in-None.ensures.steps in
    let lt : length left < 64 = omega (arith, step.1.0, l.invariant.0) in
    let whole : c.remainder-tail.result.now ≡ left = l.invariant.1 ∙ tail_end left lt in
    λ m h.
    between_end l.hash _ left (m ++ c.args.d.now) _ _ _ lt (c.copy_from_slice-2.ensures.after ∙ whole) (ap length whole)
    (omega (arith, h.count, length-append m c.args.d.now)) (l.invariant.2 m h)
