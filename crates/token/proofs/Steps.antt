-- Which method a step is, what a sound store grants it, and the answer put together.
use mathlib.Core.Path.{◌≡◌, refl, sym, ap, ◌∙◌}
use mathlib.Core.Bool.{true, false}
use mathlib.Core.List.{List, ◌∷◌}
use Prim.Native.Nat.{ℕ, zero, suc, ◌+◌, ◌*◌, ◌-◌, ◌/◌, ◌%◌, ◌≤◌, ◌<◌}
use native.Mathlib.Omega.{arith}
use borrow.Author.Tests.{eqb-true, ne_eqb, leb-true, le-leb, lt-ltb, le-ltb}
use lib.Dec.{eqb, leb}
use lib.ListN.{length, drop, set, replicate, length-replicate}
use Rattle.std.specs.Int.{w64, to_be_bytes}
use Rattle.std.proofs.lemmas.List.{take-replicate, drop-replicate}
use Rattle.paper.specs.Limits.{record_bytes}
use Rattle.paper.specs.Bytes.{enc4, over, within, zeros_of}
use Rattle.paper.specs.Form.{Rec, test, Fact}
use Rattle.paper.specs.Records.{SessionValue, records_of, records, block, zeros}
use Rattle.paper.specs.Sound.{length_fits, Sound, sound}
use Rattle.paper.specs.Calls.{method, subject, is_session_call, post_in}
use Rattle.paper.specs.Act.{Out, Act, perform, itself}
use Rattle.paper.specs.Objects.{make_puk_by, make_policy_by, make_key_by, set_path_by}
use Rattle.paper.specs.Posting.{look, post_by}
use Rattle.paper.specs.Sessions.{create_session, close_by, abort_session}
use Rattle.paper.specs.Users.{delete_key, unlock_key, change_pin, use_key}
use Rattle.paper.specs.Answer.{session_act, session_step, user_step, step, early_faults, judged, told, written, answer, fresh_counter, formatted}
use Rattle.paper.proofs.Forms.{both, contrary}
use Rattle.laws.proofs.Bytes.{split}
use Rattle.store_records.specs.View.{Becomes}
use Rattle.store_records.proofs.Views.{length-records, whole}
use Rattle.paper.specs.Refusal.{number}
use Rattle.paper.specs.declared.Refusal.{Refusal}
use Rattle.method_acts.specs.Rungs.{status}
use Rattle.method_acts.specs.declared.Reply.{Reply}
use Rattle.method_acts.specs.Answers.{Answers, bare_reply}
use Rattle.method_acts.proofs.Climbs.{told_not, told-done}
use Rattle.method_acts.specs.Range.{in_range}
use Rattle.token.specs.Early.{making}
use Rattle.token.specs.Said.{known, made}
use Rattle.token.specs.Said.{told as said-so}

-- ---- a sound store

module _ (s : List ℕ) (h : sound s ≡ true) where
  fitting : length_fits s ≡ true
  unfolding sound
  fitting = (split (length_fits s) (test (Sound (records s))) h).0

  pub tested : test (Sound (records s)) ≡ true
  unfolding sound
  tested = (split (length_fits s) (test (Sound (records s))) h).1

  pub proper_store : Fact (Sound (records s))
  proper_store = (both (Sound (records s))).0 tested

-- its length, as format asks it
module _ (s : List ℕ) (h : length_fits s ≡ true) where
  pub even : length s % 256 ≡ 0
  unfolding length_fits
  even = eqb-true (length s % record_bytes) 0 (split (eqb (length s % record_bytes) 0) (within 2 256 (length s / record_bytes)) h).0

  pub not_few : 2 ≤ length s / 256
  unfolding length_fits
  not_few = leb-true 2 (length s / 256) (split (leb 2 (length s / 256)) (leb (length s / 256) 256) (split (eqb (length s % record_bytes) 0) (within 2 256 (length s / record_bytes)) h).1).0

  pub not_many : length s / 256 ≤ 256
  unfolding length_fits
  not_many = leb-true (length s / 256) 256 (split (leb 2 (length s / 256)) (leb (length s / 256) 256) (split (eqb (length s % record_bytes) 0) (within 2 256 (length s / record_bytes)) h).1).1

-- so that no method finds it too long
pub ranged : (f : List Rec → Out) {s t : List ℕ} {r : Reply} → sound s ≡ true → Answers (in_range f (records s)) r s t → Answers (f (records s)) r s t
unfolding in_range
ranged f {s} h a = rw (length-records s, le-leb (length s / 256) 256 (not_many s (fitting s h))) at a

-- ---- the method of a step

module _ (m : ℕ) where
  pub makes_12 : making m ≡ true → (m ≡ 8 → ⊥) → (m ≡ 9 → ⊥) → (m ≡ 10 → ⊥) → m ≡ 12
  makes_12 e h8 h9 h10 = eqb-true m 12 (rw (ne_eqb m 8 h8, ne_eqb m 9 h9, ne_eqb m 10 h10) at e)

  pub makes_not : making m ≡ false → (n : ℕ) → making n ≡ true → m ≡ n → ⊥
  makes_not e n f z = contrary (sym f ∙ ap making (sym z) ∙ e)

module _ (c chip : List ℕ) (rs : List Rec) {x : SessionValue} (e : x ≡ itself c (block (subject c) rs)) where
  -- the session's value is the paper's
  by : (f : SessionValue → Act) → perform (subject c) (f (itself c (block (subject c) rs))) rs ≡ perform (subject c) (f x) rs
  by f = ap (λ (y : SessionValue). perform (subject c) (f y) rs) (sym e)

  pub step_3 : method c ≡ 3 → session_step c chip rs ≡ perform (subject c) (close_by x c chip (block (subject c) rs)) rs
  unfolding session_step session_act
  step_3 m = rw m (by (λ y. close_by y c chip (block (subject c) rs)))

  pub step_8 : method c ≡ 8 → session_step c chip rs ≡ perform (subject c) (make_puk_by x c chip (block (subject c) rs)) rs
  unfolding session_step session_act
  step_8 m = rw m (by (λ y. make_puk_by y c chip (block (subject c) rs)))

  pub step_9 : method c ≡ 9 → session_step c chip rs ≡ perform (subject c) (make_policy_by x c chip (block (subject c) rs)) rs
  unfolding session_step session_act
  step_9 m = rw m (by (λ y. make_policy_by y c chip (block (subject c) rs)))

  pub step_10 : method c ≡ 10 → session_step c chip rs ≡ perform (subject c) (make_key_by x c chip (block (subject c) rs)) rs
  unfolding session_step session_act
  step_10 m = rw m (by (λ y. make_key_by y c chip (block (subject c) rs)))

  pub step_12 : method c ≡ 12 → session_step c chip rs ≡ perform (subject c) (set_path_by x c chip (block (subject c) rs)) rs
  unfolding session_step session_act
  step_12 m = rw m (by (λ y. set_path_by y c chip (block (subject c) rs)))

  pub step_50 : method c ≡ 50 → session_step c chip rs ≡ perform (subject c) (post_by 50 "postDeleteKey" x c chip (block (subject c) rs) (look (post_in c chip).key rs)) rs
  unfolding session_step session_act
  step_50 m = rw m (by (λ y. post_by 50 "postDeleteKey" y c chip (block (subject c) rs) (look (post_in c chip).key rs)))

  pub step_51 : (method c ≡ 3 → ⊥) → (method c ≡ 5 → ⊥) → (method c ≡ 8 → ⊥) → (method c ≡ 9 → ⊥) → (method c ≡ 10 → ⊥) → (method c ≡ 12 → ⊥)
      → (method c ≡ 50 → ⊥) → session_step c chip rs ≡ perform (subject c) (post_by 51 "postUnlockKey" x c chip (block (subject c) rs) (look (post_in c chip).key rs)) rs
  unfolding session_step session_act
  step_51 h3 h5 h8 h9 h10 h12 h50 =
      rw (ne_eqb (method c) 3 h3, ne_eqb (method c) 5 h5, ne_eqb (method c) 8 h8, ne_eqb (method c) 9 h9, ne_eqb (method c) 10 h10, ne_eqb (method c) 12 h12, ne_eqb (method c) 50 h50)
      (by (λ y. post_by 51 "postUnlockKey" y c chip (block (subject c) rs) (look (post_in c chip).key rs)))

module _ (c chip : List ℕ) (rs : List Rec) where
  pub step_5 : method c ≡ 5 → session_step c chip rs ≡ perform (subject c) (abort_session c chip) rs
  unfolding session_step session_act
  step_5 m = rw m

  pub step_80 : method c ≡ 80 → user_step c chip rs ≡ delete_key c chip rs
  unfolding user_step
  step_80 e = rw e

  pub step_82 : method c ≡ 82 → user_step c chip rs ≡ unlock_key c chip rs
  unfolding user_step
  step_82 e = rw e

  pub step_83 : method c ≡ 83 → user_step c chip rs ≡ change_pin c chip rs
  unfolding user_step
  step_83 e = rw e

  pub step_100 : (method c ≡ 80 → ⊥) → (method c ≡ 82 → ⊥) → (method c ≡ 83 → ⊥) → user_step c chip rs ≡ use_key c chip rs
  unfolding user_step
  step_100 h80 h82 h83 = rw (ne_eqb (method c) 80 h80, ne_eqb (method c) 82 h82, ne_eqb (method c) 83 h83)

  pub of_session_lem : test (is_session_call c) ≡ true → step c chip rs ≡ session_step c chip rs
  unfolding step
  of_session_lem e = rw e

  pub step_2 : test (is_session_call c) ≡ false → method c ≡ 2 → step c chip rs ≡ create_session c chip rs
  unfolding step
  step_2 e m = rw (e, m)

  pub of_user : test (is_session_call c) ≡ false → (method c ≡ 2 → ⊥) → step c chip rs ≡ user_step c chip rs
  unfolding step
  of_user e h = rw (e, ne_eqb (method c) 2 h)

-- ---- before the method

module _ (s c chip : List ℕ) where
  pub judged_not : (e : Refusal) → number e ≡ status (early_faults s c) → known (bare_reply (number e)) s ≡ judged s c chip
  unfolding judged
  judged_not e f = rw (told_not (early_faults s c) _ (told (step c chip (records s))) refl e f)

  pub judged-done : {r : Reply} {t : List ℕ} → sound s ≡ true → 0 ≡ status (early_faults s c) → Answers (step c chip (records s)) r s t → known r t ≡ judged s c chip
  unfolding judged
  judged-done {r} {t} h z a =
      rw (told-done (early_faults s c) _ (told (step c chip (records s))) refl z, a.reply, whole (step c chip (records s)).store s t (even s (fitting s h)) a.store)

-- ---- the reply, and format

module _ (s c chip b : List ℕ) where
  pub answered_not : length b < 37 → said-so 21 s b ≡ answer s c chip b
  unfolding answer
  answered_not h = rw (lt-ltb (length b) 37 h)

  pub answered : {r : Reply} {t d : List ℕ} → 37 ≤ length b → known r t ≡ judged s c chip → d ≡ over 5 r.attestation (over 0 (r.status ∷ enc4 r.handle) b)
      → said-so r.status t d ≡ answer s c chip b
  unfolding answer written over
  answered h e f = rw (le-ltb (length b) 37 h, ← e, f)

-- the low four bytes of a handle
pub low_four : (h : ℕ) → drop 4 (to_be_bytes w64 h) ≡ enc4 h
low_four h =
    let a : h / 16777216 % 256 ≡ h / 256 / 256 / 256 % 256 = omega arith in
    let b : h / 65536 % 256 ≡ h / 256 / 256 % 256 = omega arith in
    rw (a, b)

-- a store of zeros, and the counter put in its first place
blank_of : (n : ℕ) → records_of n (zeros_of (256 * n)) ≡ replicate n zeros
unfolding records_of zeros
blank_of zero = refl
blank_of (suc n) =
    let e : 256 * suc n ≡ 256 + 256 * n = omega arith in
    let d : 256 + 256 * n - 256 ≡ 256 * n = omega arith in
    rw (e, take-replicate {X = ℕ} 256 (256 + 256 * n) 0 (omega arith), drop-replicate {X = ℕ} 256 (256 + 256 * n) 0, d, blank_of n)

blank : (s : List ℕ) → length s % 256 ≡ 0 → records (zeros_of (length s)) ≡ replicate (length s / 256) zeros
unfolding records
blank s h = let e : length s ≡ 256 * (length s / 256) = omega arith in rw (length-replicate {A = ℕ} (length s) 0) (ap (λ (n : ℕ). records_of (length s / 256) (zeros_of n)) e ∙ blank_of (length s / 256))

first_anew : (x : Rec) (n : ℕ) → 1 ≤ n → set (replicate n zeros) 0 x ≡ x ∷ replicate (n - 1) zeros
first_anew x zero h = absurd (omega arith)
first_anew x (suc n) h = let e : suc n - 1 ≡ n = omega arith in rw e

module _ (s : List ℕ) where
  pub formatted_not : length_fits s ≡ false → made 19 s ≡ formatted s
  unfolding formatted
  formatted_not e = rw e

  pub formatted-done : {u t : List ℕ} → length_fits s ≡ true → u ≡ zeros_of (length s) → Becomes (set (records u) 0 fresh_counter) u t → made 0 t ≡ formatted s
  unfolding formatted
  formatted-done {u} {t} e z b =
      let h = not_few s e in
      let k : length u ≡ length s = rw z (length-replicate {A = ℕ} (length s) 0) in
      rw (e, whole _ u t (rw k (even s e)) b, z, blank s (even s e), first_anew fresh_counter (length s / 256) (omega arith))
