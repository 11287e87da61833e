-- The edits that look at the whole store, in stores with the same records: the same for every record, and none touches a free one.
use mathlib.Core.Path.{◌≡◌, refl, ap, ap₂, fun_ext}
use mathlib.Core.Bool.{Bool, not, ◌&&◌}
use mathlib.Core.List.{List, map}
use mathlib.Core.Logic.{inl, inr}
use Prim.Native.Nat.{ℕ, ◌≤◌}
use native.Mathlib.Omega.{arith}
use Rattle.paper.specs.Form.{Rec, Form, ◌equals◌, no, ◌and◌, some, test, Fact, only}
use Rattle.paper.specs.Records.{kind, PUK, POLICY, KEY, PENDING, own, session, parent, bears, operation, is_stale, path_set, zeros}
use Rattle.paper.specs.Sound.{child, childless}
use Rattle.paper.specs.Pin.{clear, the_key, pin_hit}
use Rattle.paper.specs.Closing.{Keys, lost, key_goes, policy_goes, goes, key_unlocked, puk_unlocked, stale, effect, held, holds, sealed, closing}
use Rattle.paper.specs.Sessions.{unfit}
use Rattle.paper.specs.Users.{given_pin, new_pin, changed}
use Rattle.laws.proofs.Choice.{choose, only_out}
use Rattle.laws.proofs.Inserting.{byte-zeros, four-zeros}
use Rattle.laws.proofs.Losses.{keys_under, policies_under, keys_in}
use Rattle.rule.proofs.LocalEffect.{effect_free}
use Rattle.rule.proofs.SameButOrder.{Even, some_even, some_same, map_even}

-- a free record is of no kind and of no session
pub no_kind : (k : ℕ) → 1 ≤ k → kind zeros ≡ k → ⊥
no_kind k l e = let z = byte-zeros 0 in omega arith

pub no_session : (s : ℕ) → 1 ≤ s → session zeros ≡ s → ⊥
no_session s l e = let z = four-zeros 8 in omega arith

pub only_same : (φ ψ : Rec → Form) (e : Rec → Rec) (x : Rec) → test (φ x) ≡ test (ψ x) → only φ e x ≡ only ψ e x
unfolding only
only_same φ ψ e x q = rw q

pub pin_hit_zeros : (x : Rec) → pin_hit x zeros ≡ zeros
unfolding pin_hit
pin_hit_zeros x = only_out (the_key x) (clear 2) zeros (λ w. no_kind KEY (omega arith) w.0)

module _ (xs ys : List Rec) (E : Even xs ys) where
  lost_even : (such gone gone' : Rec → Form) → ((x : Rec) → test (gone x) ≡ test (gone' x)) → (Fact (such zeros) → ⊥)
      → test (lost xs such gone) ≡ test (lost ys such gone')
  lost_even such gone gone' e z =
      ap₂ (λ (a b : Bool). a && not b)
      (some_even xs ys E (λ x. such x and gone x) (λ x. such x and gone' x) (λ x. rw (e x)) (λ w. z w.0))
      (some_even xs ys E (λ x. such x and no (gone x)) (λ x. such x and no (gone' x)) (λ x. rw (e x)) (λ w. z w.0))

  pub child_even : (k : ℕ) → 1 ≤ k → (p : Rec) → test (child xs k p) ≡ test (child ys k p)
  child_even k l p = some_same xs ys E (λ x. kind x equals k and parent x equals own p and session x equals session p) (λ w. no_kind k l w.0)

  -- ---- keys removed and unlocked
  module _ (d u : Keys) where
    policy_even : (r : Rec) → test (policy_goes d xs r) ≡ test (policy_goes d ys r)
    policy_even r = rw (lost_even (keys_under r) (key_goes d xs) (key_goes d ys) (λ x. refl) (λ w. no_kind KEY (omega arith) w.0))

    goes_even : (r : Rec) → test (goes d xs r) ≡ test (goes d ys r)
    goes_even r =
        rw (
          policy_even r,
          lost_even (policies_under r) (policy_goes d xs) (policy_goes d ys) policy_even (λ w. no_kind POLICY (omega arith) w.0),
          lost_even (keys_in r) (key_goes d xs) (key_goes d ys) (λ x. refl) (λ w. no_kind KEY (omega arith) w.0),
        )

    unlocked_even : (r : Rec) → test (puk_unlocked u xs r) ≡ test (puk_unlocked u ys r)
    unlocked_even r = ap (λ (b : Bool). test (kind r equals PUK) && b)
        (some_even xs ys E (over xs) (over ys) (λ p. rw (some_same xs ys E (under p) (λ w. no_kind KEY (omega arith) w.0.0))) (λ w. no_kind POLICY (omega arith) w.0))
      where
        under : Rec → Rec → Form
        under p k = key_unlocked u k and parent k equals own p and session k equals session r

        over : List Rec → Rec → Form
        over l p = kind p equals POLICY and parent p equals own r and session p equals session r and some l (under p)

    pub effect_even : (r : Rec) → effect d u xs r ≡ effect d u ys r
    unfolding effect
    effect_even r = rw (goes_even r, unlocked_even r)

  pub removed_even : (d u : Keys) → Even (map (effect d u xs) xs) (map (effect d u ys) ys)
  removed_even d u = map_even xs ys E (effect d u xs) (effect d u ys) (effect_even d u) (effect_free d u xs)

  -- ---- a close

  pub unfit_even : test (unfit xs) ≡ test (unfit ys)
  unfit_even =
      rw (
        some_same xs ys E (λ r. kind r equals KEY and path_set r equals 0) (λ w. no_kind KEY (omega arith) w.0),
        some_even xs ys E (childless xs) (childless ys) (λ y. rw (child_even POLICY (omega arith) y, child_even KEY (omega arith) y)) bare,
        some_same xs ys E (λ r. kind r equals PENDING and is_stale r equals 1) (λ w. no_kind PENDING (omega arith) w.0),
      )
    where
      bare : Fact (childless xs zeros) → ⊥
      bare (inl w) = no_kind PUK (omega arith) w.0
      bare (inr w) = no_kind POLICY (omega arith) w.0

  holds_even : (s op : ℕ) → holds s op xs ≡ holds s op ys
  unfolding holds
  holds_even s op = fun_ext (λ k. some_same xs ys E (λ q. held s k q and operation q equals op) (λ w. no_kind PENDING (omega arith) w.0.0))

  sealed_even : (s : ℕ) (r : Rec) → sealed s xs r ≡ sealed s ys r
  unfolding sealed
  sealed_even s r = rw (some_same xs ys E (λ x. kind x equals KEY and session x equals s) (λ w. no_kind KEY (omega arith) w.0))

  closing_even : (s : ℕ) (r : Rec) → closing s xs r ≡ closing s ys r
  unfolding closing
  closing_even s r = rw (sealed_even s r, holds_even s 50, holds_even s 51, effect_even (holds s 50 ys) (holds s 51 ys) r)

  closing-zeros : (s : ℕ) → 1 ≤ s → closing s xs zeros ≡ zeros
  unfolding closing
  closing-zeros s l =
      choose (λ y. y ≡ zeros) (bears s zeros) (sealed s xs zeros) (effect (holds s 50 xs) (holds s 51 xs) xs zeros) (λ e. absurd (no_session s l e))
      (λ n. effect_free (holds s 50 xs) (holds s 51 xs) xs)

  pub closed_even : (s : ℕ) → 1 ≤ s → Even (map (closing s xs) xs) (map (closing s ys) ys)
  closed_even s l = map_even xs ys E (closing s xs) (closing s ys) (closing_even s) (closing-zeros s l)

  -- ---- a new PIN

  pub changed_even : (x pol : Rec) (v : List ℕ) → Even (map (changed x pol v xs) xs) (map (changed x pol v ys) ys)
  unfolding changed
  changed_even x pol v = map_even xs ys E (changed x pol v xs) (changed x pol v ys) (λ r. only_same (marks xs) (marks ys) stale (news r) (rw (some_same xs ys E (λ y. given_pin x pol y and own y equals parent (news r)) (λ w. keyless w.0)))) still
    where
      news : Rec → Rec
      news r = pin_hit x (only (given_pin x pol) (new_pin v) r)

      marks : List Rec → Rec → Form
      marks l q = kind q equals PENDING and some l (λ y. given_pin x pol y and own y equals parent q)

      keyless : Fact (given_pin x pol zeros) → ⊥
      keyless (inl w) = no_kind KEY (omega arith) w.0
      keyless (inr w) = no_kind KEY (omega arith) w.1.1.0

      still : only (marks xs) stale (news zeros) ≡ zeros
      still =
          rw (only_out (given_pin x pol) (new_pin v) zeros keyless, pin_hit_zeros x)
          (only_out (marks xs) stale zeros (λ w. no_kind PENDING (omega arith) w.0))
