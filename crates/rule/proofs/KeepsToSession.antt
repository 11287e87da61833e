-- What a session call comes to keeps to its session: it refuses, closes, frees the session's records, or edits them mildly and puts
-- in at most one new record of the session.
use mathlib.Core.Path.{◌≡◌, refl, sym, ◌∙◌}
use mathlib.Core.Bool.{true}
use mathlib.Core.List.{List, [], ◌∷◌, Memᴰ}
use mathlib.Core.Option.{Option, none, some as just}
use mathlib.Core.Logic.{◌⊎◌, inl, inr}
use Prim.Native.Nat.{ℕ, ◌+◌, ◌*◌, ◌/◌, ◌%◌, ◌≤◌, ◌<◌, ◌-◌}
use Prim.Native.String.{String}
use native.Mathlib.Omega.{arith}
use lib.ListN.{length}
use lib.Dec.{lit≤, lit<}
use Rattle.sha256.specs.Sha256.{SHA256}
use Rattle.paper.specs.Limits.{longest_id, longest_pin, longest_public_key, bytes_from, pin_end}
use Rattle.paper.specs.Bytes.{two, four, over, padded_text, zeros_of, string_at}
use Rattle.paper.specs.Form.{Rec, ◌equals◌, ◌=<◌, say, ◌and◌, ◌or◌, Fact, only}
use Rattle.paper.specs.Records.{by_value, kind, SESSION, PUK, POLICY, KEY, PENDING, own, session, parent, state, max_length, min_length, is, at, session_of, block, zeros}
use Rattle.paper.specs.Sound.{is_object}
use Rattle.paper.specs.Records.{format, patterns}
use Rattle.paper.specs.Calls.{method, subject, is_session_call, puk_in, puk_form, policy_in, policy_form, Key, key_in, key_form, path_in, post_in, post_form}
use Rattle.paper.specs.Act.{Act, refuse, inside, close, moved, advance, fresh}
use Rattle.paper.specs.Objects.{puk_faults, puk_record, policy_faults, policy_record, pin_of, key_faults, key_record, certified, not_there}
use Rattle.paper.specs.Posting.{look, is_target, post_faults, pending_record}
use Rattle.paper.specs.Answer.{session_act, is_open}
use Rattle.paper.proofs.Forms.{both, cases, Clear}
use Rattle.laws.proofs.Choice.{holds, only-is}
use Rattle.laws.proofs.CallForms.{puk_clauses, policy_clauses, key_clauses}
use Rattle.laws.proofs.Methods.{by_act}
use Rattle.laws.proofs.Bytes.{length_over, byte-over_other, four-over_other}
use Rattle.laws.proofs.Places.{Same, four_kept}
use Rattle.laws.proofs.Edits.{moved_at, moved_same}
use Rattle.laws.proofs.Strings.{length-padded}
use Rattle.laws.proofs.Lists.{at_found, at_byte}
use Rattle.laws.proofs.Facts.{Facts}
use Rattle.rule.proofs.MadeHeads.{newly, newly_kind, newly_own, newly_session, newly_parent, total, length-flat, length-zeros_of, length_kept}
use Rattle.rule.proofs.MakingObjects.{found, short}
use Rattle.rule.proofs.SessionHandles.{Seat, seat_of, object-home}

-- ---- edits of a session's own records

pub record Mild (x y : Rec) : Type 0 where
  pub long : length y ≡ length x
  pub kind= : kind y ≡ kind x
  pub own= : own y ≡ own x
  pub session= : session y ≡ session x
  pub parent= : parent y ≡ parent x
  pub state= : kind x ≡ SESSION → state y ≡ state x
  -- all but sessions and keys stay as they are
  pub others : (kind x ≡ SESSION → ⊥) → (kind x ≡ KEY → ⊥) → y ≡ x

pub mild_refl : (x : Rec) → Mild x x
mild_refl x = record { long = refl; kind= = refl; own= = refl; session= = refl; parent= = refl; state= = λ k. refl; others = λ a b. refl }

mild_advance : (s objects used : ℕ) (x : Rec) → Mild x (advance s objects used x)
unfolding advance
mild_advance s objects used x = only-is (Mild x) (is SESSION s s) (moved objects used) x (λ i. turn i.0 (moved_same objects used x)) (λ n. mild_refl x)
  where
    turn : {y : Rec} → kind x ≡ SESSION → Same moved_at x y → Mild x y
    turn {y} k w =
        record {
          long = w.long;
          kind= = w.at 0 refl;
          own= = four_kept moved_at x y w 4 refl;
          session= = four_kept moved_at x y w 8 refl;
          parent= = four_kept moved_at x y w 12 refl;
          state= = λ e. w.at 1 refl;
          others = λ a b. absurd (a k);
        }

mild_certified : (k s : ℕ) (d : List ℕ) (x y : Rec) → Mild x y → Mild x (only (is KEY k s) (certified d) y)
mild_certified k s d x y w = only-is (Mild x) (is KEY k s) (certified d) y (λ i. turn i.0) (λ n. w)
  where
    turn : kind y ≡ KEY → Mild x (certified d y)
    turn e =
        unfold certified in
        record {
          long = length_over 1 (1 ∷ []) (over 179 d y) ∙ length_over 179 d y ∙ w.long;
          kind= = byte-over_other 1 0 (1 ∷ []) (over 179 d y) (inr (lit< tt)) ∙ byte-over_other 179 0 d y (inr (lit< tt)) ∙ w.kind=;
          own= = low 4 (lit≤ tt) (lit≤ tt) ∙ w.own=;
          session= = low 8 (lit≤ tt) (lit≤ tt) ∙ w.session=;
          parent= = low 12 (lit≤ tt) (lit≤ tt) ∙ w.parent=;
          state= = λ k. absurd (let a = w.kind= in omega arith);
          others = λ a b. absurd (b (sym w.kind= ∙ e));
        }
      where
        low : (i : ℕ) → 2 ≤ i → i + 4 ≤ 179 → four i (over 1 (1 ∷ []) (over 179 d y)) ≡ four i y
        low i a b = four-over_other 1 i (1 ∷ []) (over 179 d y) (inl a) ∙ four-over_other 179 i d y (inr b)

-- ---- new records

pub record Newborn (s : ℕ) (asks : ℕ → Type 0) (n : Rec) : Type 0 where
  pub long : length n ≡ 256
  pub least : PUK ≤ kind n
  pub most : kind n ≤ PENDING
  pub session= : session n ≡ s
  pub home : session_of (own n) ≡ s
  pub asked : kind n ≡ PENDING → asks (parent n)

abbrev pub Born : ℕ → (ℕ → Type 0) → Option Rec → Type 0
Born s asks none = Unit {0}
Born s asks (just n) = Newborn s asks n

abbrev pub KeepsTo : ℕ → (ℕ → Type 0) → Act → Type 0
KeepsTo s asks (refuse n) = Unit {0}
KeepsTo s asks (close t) = Unit {0}
KeepsTo s asks (inside h t g new) = (((x : Rec) → g x ≡ zeros) × (new ≡ none)) ⊎ (((x : Rec) → Mild x (g x)) × Born s asks new)

-- the call asks for key k: a decoded 50 or 51 that names it
abbrev pub Asking : List ℕ → List ℕ → ℕ → Type 0
Asking c chip k = Fact ((method c equals 50 or method c equals 51) and post_form c chip) × ((post_in c chip).key ≡ k)

module _ (c chip : List ℕ) (rs : List Rec) (F : Facts rs) (is_on : Fact (is_open (subject c) rs)) where
  abbrev s : ℕ
  s = subject c

  abbrev blk : List Rec
  blk = block s rs

  abbrev ses : Rec
  ses = at SESSION s s blk

  abbrev Keeps : Act → Type 0
  Keeps a = KeepsTo s (Asking c chip) a

  sits : Seat s
  sits = seat_of rs F s is_on

  carries : (s o : ℕ) → Seat s → o ≤ 999 → (s + o < 4294967296) × ((s + o) / 65536 * 65536 ≡ s)
  carries s o t h = let a = t.round in let b = t.most in (omega arith, round s o a h)
    where
      round : (s o : ℕ) → s % 65536 ≡ 0 → o ≤ 999 → (s + o) / 65536 * 65536 ≡ s
      round s o a b = omega arith

  -- a record with this head, in an open session that has an object number left
  module _ (k a b d p : ℕ) (vs : List (List ℕ)) where
    born : PUK ≤ k → k ≤ PENDING → two 2 ses ≤ 999 → total vs ≡ 240 → p < 4294967296 → (k ≡ PENDING → Asking c chip p) → Newborn s (Asking c chip) (newly k a b d (fresh s (by_value ses)) s p vs)
    born lo hi left w pl ask =
        record {
          long = let l = length-flat vs in omega arith;
          least = rw (newly_kind k a b d (fresh s (by_value ses)) s p vs) lo;
          most = rw (newly_kind k a b d (fresh s (by_value ses)) s p vs) hi;
          session= = newly_session k a b d (fresh s (by_value ses)) s p vs (let t = sits.most in omega arith);
          home = rw (newly_own k a b d (fresh s (by_value ses)) s p vs (carries s (two 2 ses) sits left).0) (carries s (two 2 ses) sits left).1;
          asked = λ e. rw (newly_parent k a b d (fresh s (by_value ses)) s p vs pl) (ask (sym (newly_kind k a b d (fresh s (by_value ses)) s p vs) ∙ e));
        }

  -- an object's handle is small, and so is a handle that the session's refusals let pass
  object_small : (x : Rec) → Memᴰ x rs → Fact (is_object x) → own x < 4294967296
  object_small x m i = under (own x) (session x) ((F.alone x m).object_carries i).1 (object-home rs F x m i).1
    where
      under : (p t : ℕ) → p ≤ t + 999 → Seat t → p < 4294967296
      under p t a b = let m = b.most in omega arith

  small : (k o : ℕ) → PUK ≤ k → k ≤ PENDING → (Fact (not_there k (at k o s blk) o) → ⊥) → o < 4294967296
  small k o lo hi n = cases (o equals 0) (λ z. omega arith) (λ z.
      let w = found s rs k o (omega arith) n z in
      let e = w.1.1.0 in
      let l = object_small (at k o s blk) w.0 (rw w.1.0 (lo, hi)) in
      omega arith)

  -- and a key's that a look finds
  looked : (k : ℕ) → (look k rs).there ≡ true → k < 4294967296
  unfolding look
  looked k e =
      let t = (both (is_target k rs)).0 e in
      let w = at_found KEY k (session_of k) rs (at_byte KEY k (session_of k) rs 0 (λ z. omega arith)) in
      let o = w.1.1.0 in
      let l = object_small (at KEY k (session_of k) rs) w.0 (rw w.1.0 (lit≤ tt, lit≤ tt)) in
      omega arith

  -- ---- method by method

  puk_born : Clear (puk_faults c chip (puk_in c chip) (puk_in c chip).value (by_value ses) blk) → Newborn s (Asking c chip) (puk_record s (puk_in c chip) (puk_in c chip).value (by_value ses))
  unfolding puk_record
  puk_born w =
      let W = puk_clauses c chip (holds (puk_form c chip) (search)) in
      born PUK (puk_in c chip).format (puk_in c chip).retry 0 0
      (padded_text longest_id (string_at 5 c) ∷ padded_text longest_pin chip ∷ zeros_of (bytes_from pin_end) ∷ []) (lit≤ tt) (lit≤ tt) (holds (two 2 ses =< 999) (search))
      (let i = length_kept 5 longest_id c W.id.most in let v = length-padded longest_pin chip W.most in let z = length-zeros_of (bytes_from pin_end) in omega arith)
      (lit< tt) (λ e. absurd (omega arith))

  policy_born : Clear (policy_faults c chip (policy_in c) (at PUK (policy_in c).puk s blk) (by_value ses) blk) → Newborn s (Asking c chip) (policy_record s (policy_in c) (by_value ses))
  unfolding policy_record
  policy_born w =
      let W = policy_clauses c chip (holds (policy_form c chip) (search)) in
      let q = policy_in c in
      born POLICY q.format q.retry q.grouping q.puk
      (padded_text longest_id (string_at 5 c) ∷ (q.defined ∷ []) ∷ (q.modifiable ∷ []) ∷ (q.patterns ∷ []) ∷ (q.min_length ∷ []) ∷ (q.max_length ∷ []) ∷ zeros_of (bytes_from 54) ∷ [])
      (lit≤ tt) (lit≤ tt) (holds (two 2 ses =< 999) (search)) (let i = length_kept 5 longest_id c W.id.most in let z = length-zeros_of (bytes_from 54) in omega arith)
      (small PUK q.puk (lit≤ tt) (lit≤ tt) (search)) (λ e. absurd (omega arith))

  abbrev q : Key
  q = key_in c chip

  abbrev pol : Rec
  pol = at POLICY q.policy s blk

  key_born : Clear (key_faults c chip q (pin_of q pol) pol (by_value ses) blk) → Newborn s (Asking c chip) (key_record s q (pin_of q pol) (by_value ses))
  unfolding key_record
  key_born w =
      let W = key_clauses c chip (holds (key_form c chip) (search)) in
      born KEY 0 0 q.deletion q.policy
      (padded_text longest_id (string_at 5 c) ∷ padded_text longest_pin (pin_of q pol) ∷ zeros_of (82 - pin_end) ∷ padded_text longest_public_key (string_at 0 chip) ∷ zeros_of 32 ∷ (q.caching ∷ []) ∷
      (q.export ∷ []) ∷ (q.usage ∷ []) ∷ zeros_of (bytes_from 214) ∷ [])
      (lit≤ tt) (lit≤ tt) (holds (two 2 ses =< 999) (search))
      (let i = length_kept 5 longest_id c W.id.most in
      let v = length-padded longest_pin (pin_of q pol) (short c chip rs F (search) (search)) in
      let y = length_kept 0 longest_public_key chip W.most in
      let z = length-zeros_of (82 - pin_end) in
      let z' = length-zeros_of 32 in
      let z'' = length-zeros_of (bytes_from 214) in
      omega arith)
      (small POLICY q.policy (lit≤ tt) (lit≤ tt) (search)) (λ e. absurd (omega arith))

  post_born : (op : ℕ) (name : String) → (Fact (post_form c chip) → Asking c chip (post_in c chip).key)
      → Clear (post_faults op name c chip (post_in c chip) (by_value ses) blk (look (post_in c chip).key rs)) → Newborn s (Asking c chip) (pending_record op s (post_in c chip).key (by_value ses))
  unfolding pending_record
  post_born op name ask w =
      born PENDING op 0 0 (post_in c chip).key (zeros_of (bytes_from 16) ∷ []) (lit≤ tt) (lit≤ tt) (holds (two 2 ses =< 999) (search)) (let z = length-zeros_of (bytes_from 16) in omega arith)
      (looked (post_in c chip).key (holds (say (look (post_in c chip).key rs).there) (search))) (λ e. ask (holds (post_form c chip) (search)))

  -- every session call
  pub keeps_to : Fact (is_session_call c) → Keeps (session_act c chip blk (look (post_in c chip).key rs))
  keeps_to h =
      by_act c chip blk (look (post_in c chip).key rs) Keeps
      (record {
        refused = λ n l. tt;
        close = λ e w. tt;
        abort = λ e. inl ((λ x. refl), refl);
        puk = λ e w. inr (mild_advance s 1 1, puk_born w);
        policy = λ e w. inr (mild_advance s 1 1, policy_born w);
        key = λ e w. inr (mild_advance s 1 2, key_born w);
        path = λ e w. inr ((λ x. mild_certified (path_in c).key s (SHA256 (path_in c).first) x (advance s 0 1 x) (mild_advance s 0 1 x)), tt);
        post = λ op name lo hi m w. inr (mild_advance s 1 1, post_born op name (λ f. ((asked (m h) lo hi, f), refl)) w);
      })
    where
      asked : {op : ℕ} → method c ≡ op → 50 ≤ op → op ≤ 51 → Fact (method c equals 50 or method c equals 51)
      asked e lo hi = holds (method c equals 50 or method c equals 51) (λ n. n (inr (holds (method c equals 51) (λ m. n (inl (omega arith))))))
