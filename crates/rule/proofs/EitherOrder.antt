-- Two sessions' acts in either order: every record ends the same, and so do the stores.
use mathlib.Core.Path.{◌≡◌, refl, sym, ap, ap₂, ◌∙◌, subst}
use mathlib.Core.Bool.{true, or_comm}
use mathlib.Core.List.Memᴰ
use mathlib.Core.List.{List, [], map, Memᴰ}
use mathlib.Core.Option.{Option, none, some as just}
use mathlib.Core.Logic.{◌⊎◌, inl, inr}
use Prim.Native.Nat.{ℕ}
use native.Mathlib.Omega.{arith}
use lib.Dec.{lit≤}
use Rattle.paper.specs.Form.{Rec, ◌equals◌, Fact}
use Rattle.paper.specs.Records.{kind, SESSION, KEY, PENDING, own, session, parent, session_of, bears, block, zeros}
use Rattle.paper.specs.Sound.{has_handle}
use Rattle.paper.specs.Closing.{Keys, holds, closing, shut, effect}
use Rattle.paper.specs.Act.{Act, refuse, inside, close}
use Rattle.paper.proofs.Forms.{cases}
use Rattle.laws.proofs.Choice.{only_in, only_out}
use Rattle.laws.proofs.Inserting.{byte-zeros, four-zeros}
use Rattle.laws.proofs.Places.{four_kept}
use Rattle.laws.proofs.Edits.{shut_at, shut-same}
use Rattle.rule.specs.Bags.{SameRecords}
use Rattle.laws.proofs.Losses.{goes_among}
use Rattle.rule.proofs.Bags.{Fixes, either_order}
use Rattle.rule.proofs.KeepsToSession.{Mild, Newborn, Born, KeepsTo}
use Rattle.rule.proofs.ClosedRecord.{struck, closing_in, closing_out, sealed-is, shut-kind}
use Rattle.rule.proofs.LocalEffect.{Homed, effect_still, holds_local, sealed_local, effect_local}
use Rattle.rule.proofs.TwoEffects.{effect_none, is_pending, effect_twice, ◌or-else◌}
use Rattle.rule.proofs.ActsAsEdits.{edit_of, new_of, Closing, Roomy, outcome, edit_away, edit_session, edit_free, born, mem_placed, room-map}
use Rattle.rule.proofs.TwoSessions.{Two, swap_two, real_a, real_b, not_held, holds-zero, off_open, homed, session-own, borne, pending_spared, edit_spares, block_a, block_t, holds-held}

-- a record that is no session and no object
pub effect_other : (d u : Keys) (rs : List Rec) (x : Rec) → (Fact (has_handle x) → ⊥) → effect d u rs x ≡ x
effect_other d u rs x n = effect_none d u rs x (λ g. let w = goes_among d rs x g in n (w.0, let h = w.1 in omega arith)) (λ i. n (rw i.0 (lit≤ tt, lit≤ tt)))
    (λ i. n (rw i.0 (lit≤ tt, lit≤ tt))) (λ i. n (rw (is_pending d u rs x i) (lit≤ tt, lit≤ tt)))

-- ---- a record of session a: b's act comes to it no more after a's own than before
module _ (rs : List Rec) (a b : ℕ) (wa wb : ℕ → Type 0) (T : Two rs a b wa wb) (A : Act) (t_a : KeepsTo a wa A) where
  abbrev rs_a : List Rec
  rs_a = outcome a A rs

  abbrev f : Rec → Rec
  f = edit_of a A rs

  -- a record of session a that nothing that b holds concerns
  record Safe (y : Rec) : Type 0 where
    key : kind y ≡ KEY → session_of (own y) ≡ a
    ses : kind y ≡ SESSION → own y ≡ a
    pending : kind y ≡ PENDING → (op : ℕ) → holds b op rs (parent y) ≡ true → ⊥

  safe_free : Safe zeros
  safe_free =
      let z = byte-zeros 0 in
      record { key = λ k. absurd (omega arith); ses = λ k. absurd (omega arith); pending = λ k. absurd (omega arith) }

  safe_old : (x : Rec) → Memᴰ x rs → session x ≡ a → Safe x
  safe_old x m e =
      record {
        key = λ k. homed rs T.facts a x m k e;
        ses = λ k. session-own rs T.facts x m k ∙ e;
        pending = λ k op. pending_spared rs a b wa wb T op x m k e;
      }

  safe_own : (x : Rec) → Memᴰ x rs → session x ≡ a → Safe (f x)
  safe_own x m e = go A t_a
    where
      mild : (y : Rec) → Mild x y → Safe y
      mild y w =
          let o = safe_old x m e in
          record {
            key = λ k. ap session_of w.own= ∙ o.key (sym w.kind= ∙ k);
            ses = λ k. w.own= ∙ o.ses (sym w.kind= ∙ k);
            pending = λ k op h. o.pending (sym w.kind= ∙ k) op (ap (holds b op rs) (sym w.parent=) ∙ h);
          }

      inner : (g : Rec → Rec) (new : Option Rec) → (((x : Rec) → g x ≡ zeros) × (new ≡ none)) ⊎ (((x : Rec) → Mild x (g x)) × Born a wa new) → Safe (g x)
      inner g new (inl (z, n)) = rw (z x) safe_free
      inner g new (inr (w, n)) = mild (g x) (w x)

      shut_safe : kind x ≡ SESSION → Safe (shut x)
      shut_safe k =
          let c = shut-kind x in
          record {
            key = λ i. absurd (omega arith);
            ses = λ i. four_kept shut_at x (shut x) (shut-same x) 4 refl ∙ (safe_old x m e).ses k;
            pending = λ i. absurd (omega arith);
          }

      go : (A : Act) → KeepsTo a wa A → Safe (edit_of a A rs x)
      go (refuse n) t = rw (only_in (bears a) (λ r. zeros) x e) safe_free
      go (inside h t' g new) t = rw (only_in (bears a) g x e) (inner g new t)
      go (close t') t = rw (closing_in a rs x e) (sealed-is a rs Safe x (λ k. safe_free) (λ k h. shut_safe k) (λ k h. safe_free) (λ i j. safe_old x m e))

  safe_new : (n : Rec) → Newborn a wa n → Safe n
  safe_new n w =
      record {
        key = λ k. w.home;
        ses = λ k. absurd (let l = w.least in omega arith);
        pending = λ k op. not_held rs a b wa wb T op (parent n) (inr (w.asked k));
      }

  homed_after : Homed a rs_a
  homed_after y m k e = go (mem_placed (new_of A) (map f rs) m)
    where
      new_is : (n : Option Rec) → Born a wa n → n ≡ just y → session_of (own y) ≡ a
      new_is none w i = absurd (none_just i)
        where
          D : Option Rec → Type 0
          D none = Unit {0}
          D (just x) = ⊥

          none_just : ◌≡◌ {A = Option Rec} none (just y) → ⊥
          none_just j = subst D j tt
      new_is (just n) w i = (subst (λ (o : Option Rec). Born a wa o) i w).home

      old_is : (x : Rec) → Memᴰ x rs → f x ≡ y → session_of (own y) ≡ a
      old_is x mx i = own_of (edit_session a wa A t_a rs x)
        where
          own_of : (session (f x) ≡ session x) ⊎ (f x ≡ zeros) → session_of (own y) ≡ a
          own_of (inl j) = (subst Safe i (safe_own x mx (sym j ∙ ap session i ∙ e))).key k
          own_of (inr j) = absurd (let z = ap kind (sym i ∙ j) ∙ byte-zeros 0 in omega arith)

      go : (new_of A ≡ just y) ⊎ Memᴰ y (map f rs) → session_of (own y) ≡ a
      go (inl i) = new_is (new_of A) (born a wa A t_a) i
      go (inr w) = let o = Memᴰ.of_map f rs w in old_is o.0 o.1 o.2

  -- b's records, seen from a's outcome
  block_b : block b rs_a ≡ block b rs
  block_b = block_a rs b a wb wa (swap_two rs a b wa wb T) A t_a

  holds_after : (op : ℕ) → holds b op rs_a ≡ holds b op rs
  holds_after op = holds_local b op rs_a rs block_b

  struck_after : struck b rs_a ≡ effect (holds b 50 rs) (holds b 51 rs) rs_a
  struck_after = ap₂ (λ (d u : Keys). effect d u rs_a) (holds_after 50) (holds_after 51)

  module _ (B : Act) (t_b : KeepsTo b wb B) where
    abbrev rs_b : List Rec
    rs_b = outcome b B rs

    spare_after : (y : Rec) → session y ≡ a → Safe y → edit_of b B rs_a y ≡ y
    spare_after y e s = go B t_b
      where
        go : (B : Act) → KeepsTo b wb B → edit_of b B rs_a y ≡ y
        go (refuse n) t = edit_away b wb (refuse n) (λ c. c) rs_a y (λ i. T.other (sym e ∙ i))
        go (inside h t' g new) t = edit_away b wb (inside h t' g new) (λ c. c) rs_a y (λ i. T.other (sym e ∙ i))
        go (close t') t = closing_out b rs_a y (λ i. T.other (sym e ∙ i)) ∙ ap (λ (h : Rec → Rec). h y) struck_after
            ∙ effect_still a (holds b 50 rs) (holds b 51 rs) rs_a homed_after (off_open rs T.facts a T.open_a b 50) (off_open rs T.facts a T.open_a b 51) y e
            s.key s.ses (λ k. (s.pending k 50, s.pending k 51))

    -- a's own edit is the same before and after b's act
    own_same : (x : Rec) → session x ≡ a → edit_of a A rs_b x ≡ f x
    own_same x e = go A
      where
        go : (A : Act) → edit_of a A rs_b x ≡ edit_of a A rs x
        go (refuse n) = refl
        go (inside h t' g new) = refl
        go (close t') = closing_in a rs_b x e ∙ sealed_local a rs_b rs (block_a rs a b wa wb T B t_b) x ∙ sym (closing_in a rs x e)

    pub swap_own : (x : Rec) → Memᴰ x rs → session x ≡ a → edit_of b B rs_a (f x) ≡ edit_of a A rs_b (edit_of b B rs x)
    swap_own x m e = first (edit_session a wa A t_a rs x) ∙ sym (ap (edit_of a A rs_b) (edit_spares rs a b wa wb T B x m e) ∙ own_same x e)
      where
        first : (session (f x) ≡ session x) ⊎ (f x ≡ zeros) → edit_of b B rs_a (f x) ≡ f x
        first (inl i) = spare_after (f x) (i ∙ e) (safe_own x m e)
        first (inr i) = ap (edit_of b B rs_a) i ∙ edit_free b wb (real_b rs a b wa wb T) B rs_a ∙ sym i

    pub fixes_new : Fixes (edit_of b B rs_a) (new_of A)
    fixes_new = go (new_of A) (born a wa A t_a)
      where
        go : (n : Option Rec) → Born a wa n → Fixes (edit_of b B rs_a) n
        go none w = tt
        go (just n) w = spare_after n w.session= (safe_new n w)

-- ---- a record of a third session

module _ (rs : List Rec) (a b : ℕ) (wa wb : ℕ → Type 0) (T : Two rs a b wa wb) where
  -- a's act, which is no close, and b's close
  mixed : (A : Act) → KeepsTo a wa A → (Closing A → ⊥) → (t : List ℕ) → (x : Rec) → Memᴰ x rs → (session x ≡ a → ⊥) → (session x ≡ b → ⊥)
      → closing b (outcome a A rs) (edit_of a A rs x) ≡ edit_of a A (outcome b (close t) rs) (closing b rs x)
  mixed A t_a c t x m na nb =
      ap (closing b rs_a') (edit_away a wa A c rs x na) ∙ closing_out b rs_a' x nb ∙ ap (λ (h : Rec → Rec). h x) (struck_after rs a b wa wb T A t_a)
      ∙ here ∙ sym (closing_out b rs x nb) ∙ sym (edit_away a wa A c (outcome b (close t) rs) (closing b rs x) (away (edit_session b wb (close t) tt rs x)))
    where
      rs_a' : List Rec
      rs_a' = outcome a A rs

      here : effect (holds b 50 rs) (holds b 51 rs) rs_a' x ≡ struck b rs x
      here = cases (has_handle x)
          (λ h. effect_local (holds b 50 rs) (holds b 51 rs) rs_a' rs x (block_t rs b a wb wa (swap_two rs a b wa wb T) A t_a c (session x) na (borne rs T.facts x m h))
          (session-own rs T.facts x m))
          (λ n. effect_other (holds b 50 rs) (holds b 51 rs) rs_a' x n ∙ sym (effect_other (holds b 50 rs) (holds b 51 rs) rs x n))

      away : (session (closing b rs x) ≡ session x) ⊎ (closing b rs x ≡ zeros) → session (closing b rs x) ≡ a → ⊥
      away (inl i) e = na (sym i ∙ e)
      away (inr i) e = real_a rs a b wa wb T (sym e ∙ ap session i ∙ four-zeros 8)

  -- both close: b's close after a's is the effect of what both hold
  closed_both : (x : Rec) → Memᴰ x rs → (session x ≡ a → ⊥) → (session x ≡ b → ⊥)
      → closing b (map (closing a rs) rs) (closing a rs x) ≡ effect (◌or-else◌ (holds a 50 rs) (holds b 50 rs)) (◌or-else◌ (holds a 51 rs) (holds b 51 rs)) rs x
  closed_both x m na nb =
      closing_out b rs_a' (closing a rs x) (away (edit_session a wa (close []) tt rs x)) ∙ ap (λ (h : Rec → Rec). h (closing a rs x)) (struck_after rs a b wa wb T (close []) tt)
      ∙ ap (effect (holds b 50 rs) (holds b 51 rs) rs_a') (closing_out a rs x na) ∙ here
    where
      rs_a' : List Rec
      rs_a' = map (closing a rs) rs

      away : (session (closing a rs x) ≡ session x) ⊎ (closing a rs x ≡ zeros) → session (closing a rs x) ≡ b → ⊥
      away (inl i) e = nb (sym i ∙ e)
      away (inr i) e = real_b rs a b wa wb T (sym e ∙ ap session i ∙ four-zeros 8)

      handled : Fact (has_handle x)
          → effect (holds b 50 rs) (holds b 51 rs) rs_a' (struck a rs x) ≡ effect (◌or-else◌ (holds a 50 rs) (holds b 50 rs)) (◌or-else◌ (holds a 51 rs) (holds b 51 rs)) rs x
      handled h = effect_twice (session x) (holds a 50 rs) (holds a 51 rs) (holds b 50 rs) (holds b 51 rs) rs rs_a'
          (λ k i j. T.apart k (λ z. holds-zero rs T.facts a 50 (ap (holds a 50 rs) (sym z) ∙ i)) (inl (holds-held rs T.facts a 50 k i)) (inl (holds-held rs T.facts b 51 k j)))
          came went (holds-zero rs T.facts b 50) (holds-zero rs T.facts b 51) x refl (session-own rs T.facts x m) (λ k. let l = T.whole x m in omega arith)
        where
          came : (y : Rec) → Memᴰ y rs_a' → session y ≡ session x → (z : Rec) × Memᴰ z rs × (session z ≡ session x) × (y ≡ struck a rs z)
          came y my e =
              let o = Memᴰ.of_map (closing a rs) rs my in
              from o.0 o.1 o.2 (edit_session a wa (close []) tt rs o.0)
            where
              from : (z : Rec) → Memᴰ z rs → closing a rs z ≡ y → (session (closing a rs z) ≡ session z) ⊎ (closing a rs z ≡ zeros)
                  → (z : Rec) × Memᴰ z rs × (session z ≡ session x) × (y ≡ struck a rs z)
              from z mz i (inl j) = let s = sym j ∙ ap session i ∙ e in (z, mz, s, sym i ∙ closing_out a rs z (λ q. na (sym s ∙ q)))
              from z mz i (inr j) = absurd (borne rs T.facts x m h (sym e ∙ ap session (sym i ∙ j) ∙ four-zeros 8))

          went : (z : Rec) → Memᴰ z rs → session z ≡ session x → Memᴰ (struck a rs z) rs_a'
          went z mz e = subst (λ y. Memᴰ y rs_a') (closing_out a rs z (λ q. na (sym e ∙ q))) (Memᴰ.map (closing a rs) mz)

      here : effect (holds b 50 rs) (holds b 51 rs) rs_a' (struck a rs x) ≡ effect (◌or-else◌ (holds a 50 rs) (holds b 50 rs)) (◌or-else◌ (holds a 51 rs) (holds b 51 rs)) rs x
      here = cases (has_handle x) handled (λ n.
          ap (effect (holds b 50 rs) (holds b 51 rs) rs_a') (effect_other (holds a 50 rs) (holds a 51 rs) rs x n) ∙ effect_other (holds b 50 rs) (holds b 51 rs) rs_a' x n
          ∙ sym (effect_other (◌or-else◌ (holds a 50 rs) (holds b 50 rs)) (◌or-else◌ (holds a 51 rs) (holds b 51 rs)) rs x n))

or_turn : (d e : Keys) → ◌or-else◌ d e ≡ ◌or-else◌ e d
or_turn d e = λ i k. or_comm (d k) (e k) i

-- ---- together

module _ (rs : List Rec) (a b : ℕ) (wa wb : ℕ → Type 0) (T : Two rs a b wa wb) where
  T' : Two rs b a wb wa
  T' = swap_two rs a b wa wb T

  third : (A B : Act) → KeepsTo a wa A → KeepsTo b wb B → (x : Rec) → Memᴰ x rs → (session x ≡ a → ⊥) → (session x ≡ b → ⊥)
      → edit_of b B (outcome a A rs) (edit_of a A rs x) ≡ edit_of a A (outcome b B rs) (edit_of b B rs x)
  third (close t) (close t') t_a t_b x m na nb =
      closed_both rs a b wa wb T x m na nb
      ∙ ap₂ (λ (d u : Keys). effect d u rs x) (or_turn (holds a 50 rs) (holds b 50 rs)) (or_turn (holds a 51 rs) (holds b 51 rs))
      ∙ sym (closed_both rs b a wb wa T' x m nb na)
  third (refuse n) (close t) t_a t_b x m na nb = mixed rs a b wa wb T (refuse n) t_a (λ c. c) t x m na nb
  third (inside h t' g new) (close t) t_a t_b x m na nb = mixed rs a b wa wb T (inside h t' g new) t_a (λ c. c) t x m na nb
  third (close t) (refuse n) t_a t_b x m na nb = sym (mixed rs b a wb wa T' (refuse n) t_b (λ c. c) t x m nb na)
  third (close t) (inside h t' g new) t_a t_b x m na nb = sym (mixed rs b a wb wa T' (inside h t' g new) t_b (λ c. c) t x m nb na)
  third (refuse n) (refuse n') t_a t_b x m na nb = rw (only_out (bears a) (λ r. zeros) x na, only_out (bears b) (λ r. zeros) x nb, only_out (bears a) (λ r. zeros) x na)
  third (refuse n) (inside h t' g new) t_a t_b x m na nb = rw (only_out (bears a) (λ r. zeros) x na, only_out (bears b) g x nb, only_out (bears a) (λ r. zeros) x na)
  third (inside h t' g new) (refuse n') t_a t_b x m na nb = rw (only_out (bears a) g x na, only_out (bears b) (λ r. zeros) x nb, only_out (bears a) g x na)
  third (inside h t' g new) (inside h'' t'' g'' new'') t_a t_b x m na nb = rw (only_out (bears a) g x na, only_out (bears b) g'' x nb, only_out (bears a) g x na)

  pub same-records : (A B : Act) → KeepsTo a wa A → KeepsTo b wb B → Roomy A rs → Roomy B rs → Roomy B (outcome a A rs) → Roomy A (outcome b B rs)
      → SameRecords (outcome b B (outcome a A rs)) (outcome a A (outcome b B rs))
  same-records A B t_a t_b r_a r_b r_ba r_ab =
      either_order (edit_of a A rs) (edit_of a A (outcome b B rs)) (edit_of b B rs) (edit_of b B (outcome a A rs)) (new_of A) (new_of B) rs swap
      (edit_free a wa za A (outcome b B rs)) (edit_free b wb zb B (outcome a A rs)) (fixes_new rs b a wb wa T' B t_b A t_a) (fixes_new rs a b wa wb T A t_a B t_b)
      (room-map (edit_of a A rs) (edit_free a wa za A rs) (new_of A) rs r_a) (room-map (edit_of b B rs) (edit_free b wb zb B rs) (new_of B) rs r_b)
      (room-map (edit_of b B (outcome a A rs)) (edit_free b wb zb B (outcome a A rs)) (new_of B) (outcome a A rs) r_ba)
      (room-map (edit_of a A (outcome b B rs)) (edit_free a wa za A (outcome b B rs)) (new_of A) (outcome b B rs) r_ab)
    where
      za : a ≡ 0 → ⊥
      za = real_a rs a b wa wb T

      zb : b ≡ 0 → ⊥
      zb = real_b rs a b wa wb T

      swap : (x : Rec) → Memᴰ x rs → edit_of b B (outcome a A rs) (edit_of a A rs x) ≡ edit_of a A (outcome b B rs) (edit_of b B rs x)
      swap x m = cases (session x equals a) (λ e. swap_own rs a b wa wb T A t_a B t_b x m e) (λ na.
          cases (session x equals b) (λ e. sym (swap_own rs b a wb wa T' B t_b A t_a x m e)) (λ nb. third A B t_a t_b x m na nb))
