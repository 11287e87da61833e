-- The rule: a sound store stays sound under every call, format makes one, and an unsound store is never changed by a call.
use mathlib.Core.Path.{◌≡◌, refl, sym, ap, ◌∙◌}
use mathlib.Core.Bool.{true, false}
use mathlib.Core.List.{List}
use Prim.Native.Nat.{ℕ, ◌-◌, ◌*◌, ◌/◌, ◌%◌, ◌≤◌}
use native.Mathlib.Omega.{arith}
use lib.ListN.{length, length-replicate}
use lib.Dec.{eqb, ltb}
use borrow.Author.Tests.{eqb-true, eq-eqb}
use Rattle.paper.specs.Limits.{record_bytes, fewest_records, most_records, reply_bytes}
use Rattle.paper.specs.Bytes.{within, all_within}
use Rattle.paper.specs.Form.{Rec, say, no, ◌and◌, test, Fact}
use Rattle.paper.specs.Records.{records, joined, zeros}
use Rattle.paper.specs.Sound.{length_fits, Sound, sound}
use Rattle.paper.specs.Calls.{subject, is_session_call}
use Rattle.paper.specs.Act.{no_attestation}
use Rattle.paper.specs.Answer.{step, is_open, early_faults, Judged, judged, Answer, answer, formatted}
use Rattle.paper.proofs.Forms.{settled, contrary}
use Rattle.laws.proofs.Bytes.{split}
use Rattle.laws.proofs.Choice.{chosen, holds}
use Rattle.laws.proofs.Fields.{joint}
use Rattle.laws.proofs.Methods.{by_step}
use Rattle.laws.proofs.Stores.{Whole, length-joined, records-joined, length-records}
use Rattle.rule.specs.Rule.{Kept, FormatSound, UnsoundSame}
use Rattle.laws.proofs.Facts.{Facts, facts_of, reify}
use Rattle.rule.proofs.RecordEdits.{within_of, of_within, long}
use Rattle.rule.proofs.UserCalls.{Stays, user_kept}
use Rattle.rule.proofs.SessionCalls.{session_kept}
use Rattle.rule.proofs.NewSession.{create_kept}
use Rattle.rule.proofs.StoreLength.{step-length}
use Rattle.rule.proofs.Formatting.{fresh_store, fresh_facts}

-- ---- the store's length

abbrev Fits : ℕ → Type 0
Fits n = (fewest_records ≤ n) × (n ≤ most_records)

pub fits_of : (s : List ℕ) → length_fits s ≡ true → (length s % record_bytes ≡ 0) × Fits (length s / record_bytes)
unfolding length_fits
fits_of s e =
    let w = split (eqb (length s % record_bytes) 0) (within fewest_records most_records (length s / record_bytes)) e in
    let v = within_of fewest_records most_records (length s / record_bytes) w.1 in
    (eqb-true (length s % record_bytes) 0 w.0, (v.0, v.1))

of_fits : (s : List ℕ) (n : ℕ) → length s ≡ n * record_bytes → Fits n → length_fits s ≡ true
unfolding length_fits
of_fits s n e f =
    joint (eqb (length s % record_bytes) 0) (within fewest_records most_records (length s / record_bytes))
    (eq-eqb (length s % record_bytes) 0 (omega arith))
    (of_within fewest_records most_records (length s / record_bytes) (let a = f.0 in omega arith) (let b = f.1 in omega arith))

-- ---- sound stores and sound records

sound-fits : (s : List ℕ) → sound s ≡ true → Fits (length (records s))
unfolding sound
sound-fits s e = rw (length-records s) (fits_of s (split (length_fits s) (test (Sound (records s))) e).0).1

pub sound_of : (rs : List Rec) → Facts rs → Fits (length rs) → sound (joined rs) ≡ true
unfolding sound
sound_of rs F f =
    joint (length_fits (joined rs)) (test (Sound (records (joined rs)))) (of_fits (joined rs) (length rs) (length-joined rs whole) f)
    (ap (λ (l : List Rec). test (Sound l)) (records-joined rs whole) ∙ reify rs F)
  where
    whole : Whole rs
    whole x m = long x (F.alone x m)

-- ---- a call

module _ (s c chip : List ℕ) (bytes : all_within 0 255 c ≡ true) (e : sound s ≡ true) where
  pub step_kept : (Fact (is_session_call c) → Fact (is_open (subject c) (records s))) → Stays (step c chip (records s))
  step_kept opened =
      let F = facts_of s e in
      by_step c chip (records s) Stays
      (record {
        session = λ i. session_kept c chip bytes (records s) F (opened i);
        create = create_kept c chip bytes (records s) F;
        user = user_kept c chip (records s) F;
      })

  pub judged_kept : sound (judged s c chip).store ≡ true
  unfolding judged
  judged_kept =
      settled (λ (j : Judged). sound j.store ≡ true) (early_faults s c)
      (λ n. record { status = n; handle = 0; attestation = no_attestation; store = s }) _ (λ n. e) (λ g.
      let early : Fact (is_session_call c and no (is_open (subject c) (records s))) → ⊥ = search in
      sound_of (step c chip (records s)).store (step_kept (λ i. holds (is_open (subject c) (records s)) (λ n. early (i, n))))
      (rw (step-length (records s) c chip) (sound-fits s e)))

pub kept : Kept
unfolding answer
kept s c chip reply bytes e =
    chosen (λ (a : Answer). sound a.store ≡ true) (ltb (length reply) reply_bytes) _ _ (λ i. e) (λ i. judged_kept s c chip bytes e)

-- ---- an unsound store

judged-same : (s c chip : List ℕ) → sound s ≡ false → (judged s c chip).store ≡ s
unfolding judged
judged-same s c chip e =
    settled (λ (j : Judged). j.store ≡ s) (early_faults s c) (λ n. record { status = n; handle = 0; attestation = no_attestation; store = s }) _
    (λ n. refl) (λ g.
    contrary (sym (holds (say (sound s)) (search)) ∙ e))

pub unsound_same : UnsoundSame
unfolding answer
unsound_same s c chip reply e = chosen (λ (a : Answer). a.store ≡ s) (ltb (length reply) reply_bytes) _ _ (λ i. refl) (λ i. judged-same s c chip e)

-- ---- format

pub format-sound : FormatSound
unfolding formatted
format-sound s e =
    let f = (fits_of s e).1 in
    let l = length-replicate (length s / record_bytes - 1) zeros in
    rw e (sound_of (fresh_store (length s / record_bytes - 1)) (fresh_facts (length s / record_bytes - 1)) (let a = f.0 in let b = f.1 in (omega arith, omega arith)))
