-- Each edit of a record leaves it kin to what it was, and right by itself.
use mathlib.Core.Path.{◌≡◌, refl, sym, ap, ◌∙◌}
use mathlib.Core.Bool.{true}
use mathlib.Core.List.{List}
use Prim.Native.Nat.{ℕ, suc, ◌+◌, ◌≤◌}
use native.Mathlib.Omega.{arith}
use lib.ListN.{length}
use lib.Dec.{leb, lit≤}
use borrow.Author.Tests.{leb-true, le-leb}
use Rattle.paper.specs.Limits.{most_objects, handle_step, longest_pin, pin_width}
use Rattle.paper.specs.Bytes.{part, enc4, over, within, padded_text, all_within}
use Rattle.paper.specs.Form.{Rec}
use Rattle.paper.specs.Records.{kind, SESSION, PUK, POLICY, KEY, PENDING, COUNTER, parent, next_object, next_session, mac_counter, key_limit, retry_limit, puk_errors, key_errors}
use Rattle.paper.specs.Table.{obeys_table, is_blank, fields_of, text}
use Rattle.paper.specs.Closing.{stale, shut}
use Rattle.paper.specs.Act.{moved}
use Rattle.paper.specs.Objects.{certified}
use Rattle.paper.specs.Users.{new_pin}
use Rattle.laws.proofs.Bytes.{split}
use Rattle.laws.proofs.Places.{Same, from, two_kept, part_kept}
use Rattle.laws.proofs.Strings.{text_length}
use Rattle.laws.proofs.Building.{right_part, right_text}
use Rattle.laws.proofs.Fields.{tabled_kept, tabled-length, tabled_field, retest}
use Rattle.laws.proofs.Edits.{stale-same, stale-parent, stale-mark, stale_at, moved_same, moved_next, moved-mac, moved_at, onward_same, onward_next, certified-same, certified_path, certified_at, shut-same, shut-state, shut_key, shut-mac, shut_at, pin_same, pin_is}
use Rattle.laws.proofs.Facts.{Alone}
use Rattle.rule.proofs.Kin.{Kin, kin_key, kin_puk, kin_pending, kin_session, kin_counter}
use Rattle.rule.proofs.Alone.{alone-session, alone_puk, alone_key, alone_pending, alone-counter, carries_kin}

-- numbers that the table bounds
pub within_of : (lo hi n : ℕ) → within lo hi n ≡ true → (lo ≤ n) × (n ≤ hi)
within_of lo hi n e = let w = split (leb lo n) (leb n hi) e in (leb-true lo n w.0, leb-true n hi w.1)

pub of_within : (lo hi n : ℕ) → lo ≤ n → n ≤ hi → within lo hi n ≡ true
of_within lo hi n a b = rw (le-leb lo n a, le-leb n hi b)

module _ (x : Rec) (A : Alone x) where
  pub long : length x ≡ 256
  long = tabled-length x A.tabled

  pub next_range : kind x ≡ SESSION → (1 ≤ next_object x) × (next_object x ≤ suc most_objects)
  next_range k = within_of 1 (suc most_objects) (next_object x) (tabled_field 2 SESSION x k A.tabled)

  pub limit_range : kind x ≡ SESSION → key_limit x ≤ 65535
  limit_range k = (within_of 1 65535 (key_limit x) (tabled_field 10 SESSION x k A.tabled)).1

  pub number_range : kind x ≡ COUNTER → (1 ≤ next_session x) × (next_session x ≤ handle_step)
  number_range k = within_of 1 handle_step (next_session x) (tabled_field 2 COUNTER x k A.tabled)

  pub policy_range : kind x ≡ POLICY → (1 ≤ retry_limit x) × (retry_limit x ≤ 255)
  policy_range k = within_of 1 255 (retry_limit x) (tabled_field 2 POLICY x k A.tabled)

  -- ---- counts of errors

  module _ (x' : Rec) (S : Same (from 2 1) x x') (k : kind x ≡ KEY) where
    pub kin_count : Kin x x'
    kin_count = kin_key (from 2 1) x x' S refl refl refl refl k refl refl

    pub alone-count : (parent x ≡ 0 → key_errors x' ≡ 0) → Alone x'
    alone-count z =
        let K = kin_count in
        alone_key x' (tabled_kept (from 2 1) x x' S KEY k (K.kind= ∙ k) refl A.tabled refl) (K.kind= ∙ k)
        (carries_kin x x' A K (omega arith) (omega arith))
        (λ p. let B = A.bare_key k (sym (K.parent= k) ∙ p) in (S.at 49 refl ∙ B.0, z (sym (K.parent= k) ∙ p), (λ d. B.1.1.0 (sym (S.at 3 refl) ∙ d)), λ d. B.1.1.1 (sym (S.at 3 refl) ∙ d)))
        (λ p v. A.pinned_key k (λ q. p (K.parent= k ∙ q)) (sym (S.at 49 refl) ∙ v))
        (λ p. ap is_blank (part_kept (from 2 1) x x' S 179 32 refl) ∙ A.no_digest k (sym (S.at 1 refl) ∙ p))

  module _ (x' : Rec) (S : Same (from 3 1) x x') (k : kind x ≡ PUK) where
    pub kin_puk_count : Kin x x'
    kin_puk_count = kin_puk (from 3 1) x x' S refl refl refl refl k

    pub alone_puk_count : puk_errors x' ≤ retry_limit x → Alone x'
    alone_puk_count z =
        let K = kin_puk_count in
        alone_puk x' (tabled_kept (from 3 1) x x' S PUK k (K.kind= ∙ k) refl A.tabled refl) (K.kind= ∙ k)
        (carries_kin x x' A K (omega arith) (omega arith))
        (rw (S.at 2 refl) z)

  -- ---- a pending marked stale

  pub kin_stale : kind x ≡ PENDING → Kin x (stale x)
  kin_stale k = kin_pending stale_at x (stale x) (stale-same x) refl refl refl refl k refl (stale-parent x (rw long (lit≤ tt)))

  pub alone-stale : kind x ≡ PENDING → Alone (stale x)
  alone-stale k =
      let K = kin_stale k in
      alone_pending (stale x)
      (tabled_kept stale_at x (stale x) (stale-same x) PENDING k (K.kind= ∙ k) refl A.tabled (rw (stale-mark x (rw long (lit≤ tt)))))
      (K.kind= ∙ k)
      (carries_kin x (stale x) A K (omega arith) (omega arith)) (λ e. stale-parent x (rw long (lit≤ tt))) (λ e. stale-mark x (rw long (lit≤ tt)))

  -- ---- a session's counters moved on

  module _ (objects used : ℕ) (k : kind x ≡ SESSION) (room : next_object x + objects ≤ suc most_objects) (left : mac_counter x + used ≤ key_limit x) where
    next_moved : next_object (moved objects used x) ≡ next_object x + objects
    next_moved = moved_next objects used x (rw long (lit≤ tt)) (omega arith)

    mac-moved : mac_counter (moved objects used x) ≡ mac_counter x + used
    mac-moved = moved-mac objects used x (rw long (lit≤ tt)) (let l = limit_range k in omega arith)

    pub kin_moved : Kin x (moved objects used x)
    kin_moved =
        kin_session moved_at x (moved objects used x) (moved_same objects used x) refl refl refl refl k refl refl (rw next_moved (omega arith))
        (λ e. (moved_same objects used x).at 1 refl ∙ e)

    pub alone-moved : Alone (moved objects used x)
    alone-moved =
        let K = kin_moved in
        let C = A.session_carries k in
        let o = K.own= (omega arith) in
        let s = K.session= in
        let c0 = C.0 in
        let c1 = C.1.0 in
        let c2 = C.1.1 in
        alone-session (moved objects used x) table (K.kind= ∙ k) (omega arith) (omega arith) (omega arith)
        (rw (mac-moved, two_kept moved_at x (moved objects used x) (moved_same objects used x) 116 refl) left)
        (λ e. ap is_blank (part_kept moved_at x (moved objects used x) (moved_same objects used x) 82 32 refl) ∙ A.key_wiped (k, sym ((moved_same objects used x).at 1 refl) ∙ e))
      where
        table : obeys_table (moved objects used x) ≡ true
        table =
            tabled_kept moved_at x (moved objects used x) (moved_same objects used x) SESSION k ((moved_same objects used x).at 0 refl ∙ k) refl
            A.tabled
            (let n = next_range k in rw (of_within 1 (suc most_objects) (next_object (moved objects used x)) (rw next_moved (omega arith)) (rw next_moved room)))

  -- ---- a session closed

  module _ (k : kind x ≡ SESSION) where
    pub kin_shut : Kin x (shut x)
    kin_shut =
        kin_session shut_at x (shut x) (shut-same x) refl refl refl refl k refl refl
        (rw (two_kept shut_at x (shut x) (shut-same x) 2 refl) (omega arith)) (λ e. shut-state x (rw long (lit≤ tt)))

    pub alone-shut : mac_counter x + 2 ≤ key_limit x → Alone (shut x)
    alone-shut left =
        let K = kin_shut in
        let C = A.session_carries k in
        let o = K.own= (omega arith) in
        let s = K.session= in
        let c0 = C.0 in
        let c1 = C.1.0 in
        let c2 = C.1.1 in
        let l = limit_range k in
        alone-session (shut x)
        (tabled_kept shut_at x (shut x) (shut-same x) SESSION k (K.kind= ∙ k) refl A.tabled (rw (shut-state x (rw long (lit≤ tt)))))
        (K.kind= ∙ k) (omega arith) (omega arith) (omega arith)
        (rw (shut-mac x (rw long (lit≤ tt)) (omega arith), two_kept shut_at x (shut x) (shut-same x) 116 refl) left)
        (λ e. ap is_blank (shut_key x (rw long (lit≤ tt))) ∙ (unfold all_within in refl))

  -- ---- the counter

  module _ (k : kind x ≡ COUNTER) where
    abbrev onward : Rec
    onward = over 4 (enc4 (next_session x + 1)) x

    pub next_onward : next_session onward ≡ next_session x + 1
    next_onward = onward_next x (rw long (lit≤ tt)) (let n = number_range k in omega arith)

    pub kin_onward : Kin x onward
    kin_onward = kin_counter (from 4 4) x onward (onward_same x) refl refl refl k (rw next_onward (omega arith))

    pub alone_onward : next_session x + 1 ≤ handle_step → Alone onward
    alone_onward h =
        let K = kin_onward in
        alone-counter onward
        (tabled_kept (from 4 4) x onward (onward_same x) COUNTER k (K.kind= ∙ k) refl A.tabled
        (rw (of_within 1 handle_step (next_session onward) (rw next_onward (omega arith)) (rw next_onward h)))) (K.kind= ∙ k)

  -- ---- a key's path

  module _ (d : List ℕ) (l : length d ≡ 32) (k : kind x ≡ KEY) where
    abbrev S : Same certified_at x (certified d x)
    S = certified-same d l x

    pub kin_certified : Kin x (certified d x)
    kin_certified = kin_key certified_at x (certified d x) S refl refl refl refl k refl refl

    pub alone-certified : Alone (certified d x)
    alone-certified =
        let K = kin_certified in
        let t = certified_path d l x (rw long (lit≤ tt)) in
        alone_key (certified d x) (tabled_kept certified_at x (certified d x) S KEY k (K.kind= ∙ k) refl A.tabled (rw t)) (K.kind= ∙ k)
        (carries_kin x (certified d x) A K (omega arith) (omega arith))
        (λ p. let B = A.bare_key k (sym (K.parent= k) ∙ p) in (S.at 49 refl ∙ B.0, S.at 2 refl ∙ B.1.0, (λ d. B.1.1.0 (sym (S.at 3 refl) ∙ d)), λ d. B.1.1.1 (sym (S.at 3 refl) ∙ d)))
        (λ p v. A.pinned_key k (λ q. p (K.parent= k ∙ q)) (sym (S.at 49 refl) ∙ v))
        (λ p. absurd (omega arith))

  -- ---- a key's new PIN

  module _ (v : List ℕ) (least : 1 ≤ length v) (most : length v ≤ longest_pin) (k : kind x ≡ KEY) (pinned : parent x ≡ 0 → ⊥) where
    abbrev N : Same (from 49 17) x (new_pin v x)
    N = pin_same v most x

    pub kin_new_pin : Kin x (new_pin v x)
    kin_new_pin = kin_key (from 49 17) x (new_pin v x) N refl refl refl refl k refl refl

    pub now_pin : part 49 pin_width (new_pin v x) ≡ padded_text longest_pin v
    now_pin = pin_is v most x (rw long (lit≤ tt))

    pub alone_new_pin : Alone (new_pin v x)
    alone_new_pin =
        let K = kin_new_pin in
        let e = text_length 49 longest_pin (new_pin v x) v now_pin most (lit≤ tt) in
        alone_key (new_pin v x) (tabled_kept (from 49 17) x (new_pin v x) N KEY k (K.kind= ∙ k) refl A.tabled table) (K.kind= ∙ k)
        (carries_kin x (new_pin v x) A K (omega arith) (omega arith))
        (λ p. absurd (pinned (sym (K.parent= k) ∙ p)))
        (λ p z. omega arith)
        (λ p. ap is_blank (part_kept (from 49 17) x (new_pin v x) N 179 32 refl) ∙ A.no_digest k (sym (N.at 1 refl) ∙ p))
      where
        table : retest (from 49 17) (fields_of KEY) 0 (new_pin v x) ≡ true
        table =
            rw
            (right_part (text longest_pin 0) 49 (new_pin v x) (padded_text longest_pin v) now_pin (rw (N.long, long) (lit≤ tt)) (right_text longest_pin 0 v (omega arith) most (lit≤ tt)))
