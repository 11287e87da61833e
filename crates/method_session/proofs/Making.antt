-- What status 0 of method 2 tells of the call: the number fits and the record has 256 bytes. And the paper's outcome by the status.
use mathlib.Core.Path.{◌≡◌, refl, subst}
use mathlib.Core.List.{List, map}
use Prim.Native.Nat.{ℕ, ◌+◌, ◌≤◌}
use native.Mathlib.Omega.{arith}
use lib.ListN.{length, length-append, length-replicate}
use Rattle.paper.specs.Limits.{longest_id, key_bytes}
use Rattle.paper.specs.Bytes.{two, behind, part}
use Rattle.paper.specs.Form.{Rec, ◌=<◌, Fact}
use Rattle.paper.specs.Records.{records, handle, next_session, insert}
use Rattle.paper.specs.Calls.{create_in, create_form, server_at, times_at}
use Rattle.paper.specs.Act.{plain, no_attestation}
use Rattle.paper.specs.Sessions.{counter, session_record, counted, create_session}
use Rattle.paper.proofs.Forms.{Clear}
use Rattle.laws.proofs.Bytes.{length_part}
use Rattle.laws.proofs.Choice.{holds}
use Rattle.laws.proofs.CallStrings.{behind-is, string_short}
use Rattle.store_records.specs.View.{Becomes}
use Rattle.store_records.proofs.Views.{after}
use Rattle.store_edits.proofs.Puts.{unchanged}
use Rattle.store_draft.specs.Drafts.{laid}
use Rattle.store_draft.proofs.Laying.{laid_whole}
use Rattle.paper.specs.Refusal.{number}
use Rattle.paper.specs.declared.Refusal.{Refusal}
use Rattle.method_acts.specs.Rungs.{status}
use Rattle.method_acts.specs.Answers.{Answers, bare_reply}
use Rattle.method_acts.proofs.Climbs.{cleared, settle-done, told_not}
use Rattle.method_session.specs.Births.{faults2}

module _ (c chip : List ℕ) where
  -- the record of a call that has its form is whole
  record_whole : (h : ℕ) → Fact (create_form c chip) → length (session_record h (create_in c chip)) ≡ 256
  unfolding session_record
  record_whole h f =
      let server : two (server_at c) c ≤ longest_id = search in
      let timed : times_at c + 10 ≡ length c = search in
      let client : two key_bytes chip ≤ longest_id = search in
      let chipped : behind key_bytes chip ≡ length chip = search in
      let a = string_short (server_at c) c in
      let b = string_short 32 chip in
      let d = behind-is 32 chip in
      let k : length (part 0 32 chip) ≡ 32 = length_part 0 32 chip (omega arith) in
      let t : length (part (times_at c) 8 c) ≡ 8 = length_part (times_at c) 8 c (omega arith) in
      simp (length-append, length-replicate, k, t) (omega arith)

  module _ (rs : List Rec) where
    module _ (z : status (faults2 c chip rs) ≡ 0) where
      free : Clear (faults2 c chip rs)
      free = cleared (faults2 c chip rs) refl z

      pub number_fits : next_session (counter rs) ≤ 65535
      number_fits =
          let w = free in
          holds (next_session (counter rs) =< 65535) (search)

      pub laid-session : (h : ℕ) → laid (session_record h (create_in c chip)) ≡ session_record h (create_in c chip)
      laid-session h =
          let w = free in
          laid_whole (session_record h (create_in c chip)) (record_whole h (holds (create_form c chip) (search)))

      pub create_done : create_session c chip rs ≡ record {
        status = 0;
        handle = handle (next_session (counter rs)) 0;
        attestation = no_attestation;
        store = insert (session_record (handle (next_session (counter rs)) 0) (create_in c chip)) (map counted rs);
      }
      unfolding create_session
      create_done = settle-done (faults2 c chip rs) (λ n. plain n rs) _ refl z

    pub create_not : (e : Refusal) → number e ≡ status (faults2 c chip rs) → create_session c chip rs ≡ plain (number e) rs
    unfolding create_session
    create_not e f = told_not (faults2 c chip rs) (λ n. plain n rs) _ refl e f

-- refused: nothing changes
pub refused : (c chip s : List ℕ) (e : Refusal) → number e ≡ status (faults2 c chip (records s)) → Answers (create_session c chip (records s)) (bare_reply (number e)) s s
refused c chip s e f = rw (create_not c chip (records s) e f) (record { reply = refl; store = unchanged s })

-- counted, and then the record put in
pub created : (c chip : List ℕ) {s t u : List ℕ} (h : ℕ) (r : Rec) → status (faults2 c chip (records s)) ≡ 0 → h ≡ handle (next_session (counter (records s))) 0
    → r ≡ laid (session_record h (create_in c chip)) → Becomes (map counted (records s)) s t → Becomes (insert r (records t)) t u
    → Answers (create_session c chip (records s)) (record { status = 0; handle = h; attestation = no_attestation }) s u
created c chip {s} {t} {u} h r z e f a b =
    rw (create_done c chip (records s) z, ← e, ← laid-session c chip (records s) z h, ← f)
    (record { reply = refl; store = subst (λ (ts : List Rec). Becomes (insert r ts) s u) a.view (after a b) })
