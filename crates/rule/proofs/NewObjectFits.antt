-- A new PUK, PIN policy, key or pending is fit to enter, by what its method has made sure of.
use mathlib.Core.Path.{◌≡◌, sym, ap, ◌∙◌}
use mathlib.Core.Bool.{true}
use mathlib.Core.List.{List, Memᴰ}
use Prim.Native.Nat.{ℕ, ◌+◌, ◌≤◌}
use native.Mathlib.Omega.{arith}
use Rattle.paper.specs.Limits.{most_objects, pin_width, id_width}
use Rattle.paper.specs.Bytes.{part}
use Rattle.paper.specs.Form.{Rec, Fact}
use Rattle.paper.specs.Records.{kind, SESSION, PUK, POLICY, KEY, PENDING, CLOSED, own, session, parent, session_of, state, key_management, grouping, puk_errors, min_length, max_length, value_length, key_errors, delete_protection, certificate_digest, operation, is_stale}
use Rattle.paper.specs.Table.{is_blank}
use Rattle.paper.specs.Sound.{has_id, is_in, governs}
use Rattle.rule.proofs.Alone.{Carries, alone_puk, alone_policy, alone_key, alone_pending}
use Rattle.rule.proofs.MadeRecords.{Head}
use Rattle.rule.proofs.NewObject.{Sprout}

module _ (s N : ℕ) (rs : List Rec) (lo : 1 ≤ N) (hi : N ≤ most_objects) (n : Rec) where
  -- no record of the session has the new one's ID
  abbrev pub Unnamed : Type 0
  Unnamed = (x : Rec) → Memᴰ x rs → Fact (has_id x) → session x ≡ s → part 16 id_width x ≡ part 16 id_width n → ⊥

  carried : (k p : ℕ) → Head k (s + N) s p n → Carries n
  carried k p H = let a = H.own= in let b = H.session= in (omega arith, omega arith)

  pub sprout_puk : Head PUK (s + N) s 0 n → puk_errors n ≡ 0 → Unnamed → Sprout s N n rs
  sprout_puk H z free =
      let k = H.kind= in
      record {
        object = (omega arith, omega arith);
        own= = H.own=;
        session= = H.session=;
        alone = alone_puk n H.tabled k (carried PUK 0 H) (omega arith);
        named = λ x i a b. free x i a;
        held = λ x i a b. absurd (omega arith);
        puk = λ a. absurd (omega arith);
        policy = λ a. absurd (omega arith);
        target = λ a. absurd (omega arith);
        under = λ x i g. let j = g.1.0 in absurd (omega arith);
        alike = λ p y mp my g gn. let j = gn.1.0 in absurd (omega arith);
        pinned = λ x i a b. absurd (omega arith);
        managed = λ x i a b. absurd (omega arith);
      }

  pub sprout_policy : (p : ℕ) → Head POLICY (s + N) s p n → min_length n ≤ max_length n → ((p ≡ 0 → ⊥) → Fact (is_in rs PUK p s)) → Unnamed → Sprout s N n rs
  sprout_policy p H z up free =
      let k = H.kind= in
      record {
        object = (omega arith, omega arith);
        own= = H.own=;
        session= = H.session=;
        alone = alone_policy n H.tabled k (carried POLICY p H) z;
        named = λ x i a b. free x i a;
        held = λ x i a b. absurd (omega arith);
        puk = λ a q. rw (H.parent=, H.session=) (up (λ e. q (H.parent= ∙ e)));
        policy = λ a. absurd (omega arith);
        target = λ a. absurd (omega arith);
        under = λ x i g. let j = g.1.0 in absurd (omega arith);
        alike = λ p y mp my g gn. let j = gn.1.0 in absurd (omega arith);
        pinned = λ x i a b. absurd (omega arith);
        managed = λ x i a b. absurd (omega arith);
      }

  -- a key: its policy is there, or none is named; a PIN exactly with a policy; protection 1 and 2 as they need it; under a shared
  -- policy the PIN of the other keys
  pub sprout_key : (p : ℕ) → Head KEY (s + N) s p n → key_errors n ≡ 0 → is_blank (certificate_digest n) ≡ true
      → (p ≡ 0 → (value_length n ≡ 0) × (delete_protection n ≡ 1 → ⊥) × (delete_protection n ≡ 2 → ⊥)) → ((p ≡ 0 → ⊥) → value_length n ≡ 0 → ⊥)
      → ((p ≡ 0 → ⊥) → Fact (is_in rs POLICY p s))
      → ((x : Rec) → Memᴰ x rs → kind x ≡ POLICY → own x ≡ p → session x ≡ s → delete_protection n ≡ 2 → parent x ≡ 0 → ⊥)
      → ((x y : Rec) → Memᴰ x rs → Memᴰ y rs → kind x ≡ POLICY → own x ≡ p → session x ≡ s → grouping x ≡ 1 → Fact (governs x y) → part 49 pin_width n ≡ part 49 pin_width y)
      → Unnamed → Sprout s N n rs
  sprout_key p H e d none has up two like free =
      let k = H.kind= in
      record {
        object = (omega arith, omega arith);
        own= = H.own=;
        session= = H.session=;
        alone =
            alone_key n H.tabled k (carried KEY p H) (λ z. let w = none (sym H.parent= ∙ z) in (w.0, e, w.1, w.2))
            (λ z. has (λ q. z (H.parent= ∙ q))) (λ z. d);
        named = λ x i a b. free x i a;
        held = λ x i a b. absurd (omega arith);
        puk = λ a. absurd (omega arith);
        policy = λ a q. rw (H.parent=, H.session=) (up (λ z. q (H.parent= ∙ z)));
        target = λ a. absurd (omega arith);
        under = λ x i g. (rw e (omega arith), λ v. two x i g.0 (sym g.1.1.0 ∙ H.parent=) (sym g.1.1.1 ∙ H.session=) v);
        alike = λ q y mq my g gn gy. like q y mq my gn.0 (sym gn.1.1.0 ∙ H.parent=) (sym gn.1.1.1 ∙ H.session=) g gy;
        pinned = λ x i a b. absurd (omega arith);
        managed = λ x i a b. absurd (omega arith);
      }

  -- a pending: its target is a key of a closed session with a KeyManagementKey, for 51 with a policy, and not yet held by this session
  pub sprout_pending : (p : ℕ) → Head PENDING (s + N) s p n → (p ≡ 0 → ⊥) → is_stale n ≡ 0 → Fact (is_in rs KEY p (session_of p))
      → ((x : Rec) → Memᴰ x rs → kind x ≡ KEY → own x ≡ p → operation n ≡ 51 → parent x ≡ 0 → ⊥)
      → ((x : Rec) → Memᴰ x rs → kind x ≡ SESSION → own x ≡ session_of p → (state x ≡ CLOSED) × (key_management x ≡ 1))
      → ((x : Rec) → Memᴰ x rs → kind x ≡ PENDING → session x ≡ s → parent x ≡ p → ⊥) → Sprout s N n rs
  sprout_pending p H z u up pin aim once =
      let k = H.kind= in
      record {
        object = (omega arith, omega arith);
        own= = H.own=;
        session= = H.session=;
        alone = alone_pending n H.tabled k (carried PENDING p H) (λ b. absurd (omega arith)) (λ b. absurd (z (sym H.parent= ∙ b)));
        named = λ x i a b. absurd (omega arith);
        held = λ x i a b e q. absurd (once x i a e (q ∙ H.parent=));
        puk = λ a. absurd (omega arith);
        policy = λ a. absurd (omega arith);
        target = λ a q. rw H.parent= up;
        under = λ x i g. let j = g.1.0 in absurd (omega arith);
        alike = λ p y mp my g gn. let j = gn.1.0 in absurd (omega arith);
        pinned = λ x i a b q t. pin x i a (sym q ∙ H.parent=) t;
        managed = λ x i a b q r. aim x i a (r ∙ ap session_of H.parent=);
      }
