-- What soundness asks of one record, kind by kind; and what an edited record inherits from what it was.
use mathlib.Core.Path.{◌≡◌, refl}
use mathlib.Core.Bool.{true}
use Prim.Native.Nat.{suc, ◌+◌, ◌%◌, ◌≤◌}
use native.Mathlib.Omega.{arith}
use Rattle.paper.specs.Limits.{handle_step, most_objects}
use Rattle.paper.specs.Bytes.{byte, part, all_within}
use Rattle.paper.specs.Form.{Rec}
use Rattle.paper.specs.Records.{kind, FREE, SESSION, PUK, POLICY, KEY, PENDING, COUNTER, CLOSED, own, session, parent, state, mac_counter, key_limit, session_key, retry_limit, puk_errors, min_length, max_length, path_set, value_length, key_errors, delete_protection, certificate_digest, is_stale, zeros}
use Rattle.paper.specs.Table.{obeys_table, is_blank}
use Rattle.laws.proofs.Inserting.{byte-zeros}
use Rattle.laws.proofs.Facts.{Alone}
use Rattle.rule.proofs.Kin.{Kin}

-- an object's handle carries its session's number
abbrev pub Carries : Rec → Type 0
Carries r = (suc (session r) ≤ own r) × (own r ≤ session r + most_objects)

-- a key without policy has no PIN, no errors and no protection that needs one
abbrev pub Bare : Rec → Type 0
Bare r = (value_length r ≡ 0) × (key_errors r ≡ 0) × (delete_protection r ≡ 1 → ⊥) × (delete_protection r ≡ 2 → ⊥)

module _ (r : Rec) (t : obeys_table r ≡ true) where
  pub alone-session : kind r ≡ SESSION → own r ≡ session r → handle_step ≤ own r → own r % handle_step ≡ 0 → mac_counter r ≤ key_limit r
      → (state r ≡ CLOSED → is_blank (session_key r) ≡ true) → Alone r
  alone-session k a b c m w =
      record {
        tabled = t;
        session_carries = λ j. (a, (b, c));
        object_carries = λ j. absurd (omega arith);
        bare_key = λ j. absurd (omega arith);
        pinned_key = λ j. absurd (omega arith);
        puk_counts = λ j. absurd (omega arith);
        mac_counts = λ j. m;
        lengths_rise = λ j. absurd (omega arith);
        no_digest = λ j. absurd (omega arith);
        key_wiped = λ j. w j.1;
        target_unless_stale = λ j. absurd (omega arith);
      }

  -- the kinds that are no session
  other : (kind r ≡ SESSION → ⊥) → (PUK ≤ kind r → kind r ≤ PENDING → Carries r)
      → (kind r ≡ PUK → puk_errors r ≤ retry_limit r)
      → (kind r ≡ POLICY → min_length r ≤ max_length r)
      → (kind r ≡ KEY → (parent r ≡ 0 → Bare r) × ((parent r ≡ 0 → ⊥) → value_length r ≡ 0 → ⊥) × (path_set r ≡ 0 → is_blank (certificate_digest r) ≡ true))
      → (kind r ≡ PENDING → (is_stale r ≡ 1 → parent r ≡ 0) × (parent r ≡ 0 → is_stale r ≡ 1))
      → Alone r
  other n carries puk policy key pending =
      record {
        tabled = t;
        session_carries = λ j. absurd (n j);
        object_carries = λ j. let w = carries j.0 j.1 in (w.0, w.1);
        bare_key = λ j z. let b = (key j).0 z in (b.0, (b.1, (b.2, b.3)));
        pinned_key = λ j. (key j).1;
        puk_counts = puk;
        mac_counts = λ j. absurd (n j);
        lengths_rise = policy;
        no_digest = λ j. (key j).2;
        key_wiped = λ j. absurd (n j.0);
        target_unless_stale = λ j. let w = pending j in (w.0, w.1);
      }

  pub alone_puk : kind r ≡ PUK → Carries r → puk_errors r ≤ retry_limit r → Alone r
  alone_puk k c h = other (λ j. omega arith) (λ a b. c) (λ j. h) (λ j. absurd (omega arith)) (λ j. absurd (omega arith)) (λ j. absurd (omega arith))

  pub alone_policy : kind r ≡ POLICY → Carries r → min_length r ≤ max_length r → Alone r
  alone_policy k c h =
      other (λ j. omega arith) (λ a b. c) (λ j. absurd (omega arith)) (λ j. h) (λ j. absurd (omega arith)) (λ j. absurd (omega arith))

  pub alone_key : kind r ≡ KEY → Carries r → (parent r ≡ 0 → Bare r) → ((parent r ≡ 0 → ⊥) → value_length r ≡ 0 → ⊥)
      → (path_set r ≡ 0 → is_blank (certificate_digest r) ≡ true) → Alone r
  alone_key k c a b d =
      other (λ j. omega arith) (λ x y. c) (λ j. absurd (omega arith)) (λ j. absurd (omega arith)) (λ j. (a, b, d)) (λ j. absurd (omega arith))

  pub alone_pending : kind r ≡ PENDING → Carries r → (is_stale r ≡ 1 → parent r ≡ 0) → (parent r ≡ 0 → is_stale r ≡ 1) → Alone r
  alone_pending k c a b =
      other (λ j. omega arith) (λ x y. c) (λ j. absurd (omega arith)) (λ j. absurd (omega arith)) (λ j. absurd (omega arith)) (λ j. (a, b))

  pub alone-counter : kind r ≡ COUNTER → Alone r
  alone-counter k =
      other (λ j. omega arith) (λ x y. absurd (omega arith)) (λ j. absurd (omega arith)) (λ j. absurd (omega arith)) (λ j. absurd (omega arith))
      (λ j. absurd (omega arith))

  pub alone_free : kind r ≡ FREE → Alone r
  alone_free k =
      other (λ j. omega arith) (λ x y. absurd (omega arith)) (λ j. absurd (omega arith)) (λ j. absurd (omega arith)) (λ j. absurd (omega arith))
      (λ j. absurd (omega arith))

pub alone-zeros : Alone zeros
alone-zeros = alone_free zeros obeys (byte-zeros 0)
  where
    obeys : obeys_table zeros ≡ true
    obeys = unfold obeys_table zeros byte part all_within in refl

-- kin of an object carries its session's number too
pub carries_kin : (x x' : Rec) → Alone x → Kin x x' → PUK ≤ kind x → kind x ≤ PENDING → Carries x'
carries_kin x x' A K a b =
    let o = A.object_carries (a, b) in
    let e = K.own= b in
    let s = K.session= in
    (omega arith, omega arith)
