-- Two calls, the first a close, in both orders: what the instances of the two orders share.
use mathlib.Core.Path.{◌≡◌, sym, ap, ◌∙◌}
use mathlib.Core.Bool.{true, false}
use mathlib.Core.List.{List}
use mathlib.Core.Logic.{inl, inr}
use Prim.Native.Nat.{ℕ}
use native.Mathlib.Omega.{arith}
use lib.Dec.{eqb}
use borrow.Author.Tests.{eqb-false}
use Rattle.paper.specs.Bytes.{all_within}
use Rattle.paper.specs.Form.{test, Fact}
use Rattle.paper.specs.Records.{records}
use Rattle.paper.specs.Sound.{sound}
use Rattle.paper.specs.Calls.{method, subject, is_session_call}
use Rattle.paper.specs.Answer.{Answer, is_open}
use Rattle.paper.proofs.Forms.{both}
use Rattle.rule.specs.Runs.{Call, answered}
use Rattle.rule.specs.Stands.{Holds}
use Rattle.rule.specs.Orders.{CallOn, asks, names, NamesOnlyThose, Wants, NoTwo, Premises}

-- the premises of the two orders, but for the names of the second call
pub record ButNames (s : List ℕ) (a b : ℕ) (p q : Call) : Type 0 where
  pub is_sound : sound s ≡ true
  pub different : a ≡ b → ⊥
  pub open_a : Fact (is_open a (records s))
  pub open_b : Fact (is_open b (records s))
  pub on_a : CallOn a p
  pub on_b : CallOn b q
  pub names_a : NamesOnlyThose a p s
  pub not_both : (k : ℕ) → Wants a p k s → Wants b q k s → ⊥
  pub room_ab : NoTwo s p q
  pub room_ba : NoTwo s q p

pub with_names : (s : List ℕ) (a b : ℕ) (p q : Call) → ButNames s a b p q → NamesOnlyThose b q s → Premises s a b p q
with_names s a b p q w n =
    record {
      is_sound = w.is_sound;
      different = w.different;
      open_a = w.open_a;
      open_b = w.open_b;
      on_a = w.on_a;
      on_b = w.on_b;
      names_a = w.names_a;
      names_b = n;
      not_both = w.not_both;
      room_ab = w.room_ab;
      room_ba = w.room_ba;
    }

-- a close asks for nothing and names nothing
module _ (p : Call) (is_close : method p.bytes ≡ 3) where
  unasked : (k : ℕ) → Fact (asks p k) → ⊥
  unasked k (inl e, w) = omega arith
  unasked k (inr e, w) = omega arith

  silent : (h : ℕ) → Fact (names p h) → ⊥
  silent h (inl w) = let e = w.0 in omega arith
  silent h (inr (inl w)) = let e = w.0 in omega arith
  silent h (inr (inr (inl w))) = let e = w.0 in omega arith
  silent h (inr (inr (inr w))) = unasked h w

  pub close_first : (s : List ℕ) (a b : ℕ) (q : Call) → sound s ≡ true → (a ≡ b → ⊥) → Fact (is_open a (records s)) → Fact (is_open b (records s))
      → CallOn a p → CallOn b q → ((k : ℕ) → Holds a k s → Wants b q k s → ⊥) → NoTwo s p q → NoTwo s q p → ButNames s a b p q
  close_first s a b q e ne oa ob ca cb free ab ba =
      record { is_sound = e; different = ne; open_a = oa; open_b = ob; on_a = ca; on_b = cb; names_a = λ h w. absurd (silent h w); not_both = apart; room_ab = ab; room_ba = ba }
    where
      apart : (k : ℕ) → Wants a p k s → Wants b q k s → ⊥
      apart k (inl h) v = free k h v
      apart k (inr w) v = unasked k w

-- a session call, by tests that compute
pub on_session_lem : (a : ℕ) (q : Call) → all_within 0 255 q.bytes ≡ true → test (is_session_call q.bytes) ≡ true → subject q.bytes ≡ a → CallOn a q
on_session_lem a q b t e = record { are_bytes = b; on_session = (both (is_session_call q.bytes)).0 t; its_handle = e }

-- two steps of a story, one after the other
module _ (s : List ℕ) (p q : Call) {x y : Answer} (first : answered s p ≡ x) (second : answered x.store q ≡ y) where
  pub status_second : (answered (answered s p).store q).status ≡ y.status
  status_second = ap (λ (a : Answer). (answered a.store q).status) first ∙ ap (λ (a : Answer). a.status) second

  pub no_two : eqb x.status 2 ≡ false → eqb y.status 2 ≡ false → NoTwo s p q
  no_two u v =
      record {
        at_first = λ e. eqb-false x.status 2 u (sym (ap (λ (a : Answer). a.status) first) ∙ e);
        at_second = λ e. eqb-false y.status 2 v (sym status_second ∙ e);
      }
