-- Slices of two lengths are not the same, and of one length just where no difference is gathered; a test that is true just of equal lists is `same` (`test-same`).
use mathlib.Core.Path.{◌≡◌, sym, ap, ◌∙◌}
use mathlib.Core.List.{List, [], ◌∷◌, ◌++◌}
use mathlib.Core.Bool.{false}
use Prim.Native.Nat.{ℕ, ◌+◌, ◌<◌, min}
use native.Mathlib.Omega.{arith}
use borrow.Author.Tests.{eqb-true, eq-eqb}
use borrow.Author.Rules.{rules}
use lib.ListN.{length}
use Rattle.std.specs.List.{fold, zip}
use Rattle.std.proofs.lemmas.List.{take_all, length_push}
use Rattle.std.proofs.lemmas.List.Sums.{fold_more}
use Rattle.std.proofs.lemmas.Slice.Zip.{zip_turn, zip_end, length-zip, get_or-zip}
use Rattle.hmac.proofs.Sameness.{test-same, differing, none_differ, same_differ}
use Rattle.hmac.proofs.is_same.Goals as goal

pub returns-then-a-b : goal.returns-then-a-b
returns-then-a-b c = test-same c.args.a.now c.args.b.now false (λ t. cc) (λ e. absurd (c.if-a-b.true (ap length e)))

pub loop-x-preserved : goal.loop-x-preserved
loop-x-preserved c =
    let a : List ℕ = c.args.a.now in
    let b : List ℕ = c.args.b.now in
    let l = c.loop-x in
    let n : ℕ = length l.yielded in
    let s = c.into_iter-x-iterator.result in
    let first : s.a.rest.now ≡ a = search rules in
    let second : s.b.rest.now ≡ b = search rules in
    let turn = zip_turn a b l.yielded s l.x-iterator c.next.new.self c.next.result first second l.yielded_by (c.in-Some.x, c.in-Some.y) c.in-Some.is c.next.ensures.steps in
    let within : n < length (zip a b) = omega (arith, turn.0, turn.1, length-zip a b) in
    let more : length (l.yielded ++ (c.in-Some.x, c.in-Some.y) ∷ []) ≡ n + 1 = length_push l.yielded (c.in-Some.x, c.in-Some.y) in
    rw (more, fold_more differing 0 (zip a b) n (0, 0) within, get_or-zip a b n (0, 0) turn.0 turn.1, turn.2 0, turn.3 0, ← l.invariant)

pub returns : goal.returns
returns c =
    let a : List ℕ = c.args.a.now in
    let b : List ℕ = c.args.b.now in
    let l = c.loop-x in
    let n : ℕ = length l.yielded in
    let s = c.into_iter-x-iterator.result in
    let first : s.a.rest.now ≡ a = search rules in
    let second : s.b.rest.now ≡ b = search rules in
    let end : n ≡ min (length a) (length b) =
    zip_end a b l.yielded s l.x-iterator c.next.new.self c.next.result first second l.yielded_by c.in-None.is c.next.ensures.steps in
    let f : l.differ ≡ fold differing 0 (zip a b) = l.invariant ∙ ap (fold differing 0) (take_all n (zip a b) (omega (arith, length-zip a b))) in
    test-same a b _
    (λ t. (none_differ a b 0 c.if-a-b.false (sym f ∙ eqb-true _ _ t)).1)
    (λ e. eq-eqb _ _ (f ∙ ap (λ (l : List ℕ). fold differing 0 (zip a l)) (sym e) ∙ same_differ a))
