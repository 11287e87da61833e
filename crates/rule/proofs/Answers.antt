-- The answer taken apart: an early refusal, which leaves the store as it is, or the step of a sound store.
use mathlib.Core.Path.{◌≡◌, refl}
use mathlib.Core.Bool.{Bool, true, false}
use mathlib.Core.List.{List, []}
use Prim.Native.Nat.{ℕ, ◌≤◌}
use lib.ListN.{length}
use lib.Dec.{ltb, lit≤}
use borrow.Author.Tests.{ltb-false}
use Rattle.paper.specs.Limits.{reply_bytes}
use Rattle.paper.specs.Form.{say, no, ◌and◌, Fact}
use Rattle.paper.specs.Records.{records}
use Rattle.paper.specs.Sound.{sound}
use Rattle.paper.specs.Calls.{subject, is_session_call, known}
use Rattle.paper.specs.Act.{no_attestation}
use Rattle.paper.specs.Answer.{Answer, answer, Judged, judged, told, written, step, is_open, early_faults}
use Rattle.laws.proofs.Choice.{chosen, holds}
use Rattle.laws.proofs.Methods.{settled_by_number}
use Rattle.rule.specs.Refusals.{Taken}
use Rattle.rule.proofs.Refusals.{same, judged_unknown, judged_unopened, judged-taken}

abbrev pub stepped : List ℕ → List ℕ → List ℕ → Judged
stepped s c chip = told (step c chip (records s))

module _ (P : Answer → Type 0) (s c chip reply : List ℕ) where
  pub answer-is : ((n : ℕ) (r : List ℕ) → 1 ≤ n → P (record { status = n; store = s; reply = r }))
      → (Taken s c reply → P (record { status = (stepped s c chip).status; store = (stepped s c chip).store; reply = written (stepped s c chip) reply }))
      → P (answer s c chip reply)
  unfolding answer judged
  answer-is early done =
      chosen P (ltb (length reply) reply_bytes) (record { status = 21; store = s; reply = reply })
      (record { status = (judged s c chip).status; store = (judged s c chip).store; reply = written (judged s c chip) reply })
      (λ e. early 21 reply (lit≤ tt))
      (λ e.
      settled_by_number (λ (j : Judged). P (record { status = j.status; store = j.store; reply = written j reply })) (early_faults s c) (same s) (stepped s c chip) refl
      (λ n l. early n (written (same s n) reply) l) (λ w.
      let late : Fact (is_session_call c and no (is_open (subject c) (records s))) → ⊥ = search in
      done
      (record {
        long = ltb-false (length reply) reply_bytes e;
        sound = holds (say (sound s)) (search);
        known = holds (known c) (search);
        opened = λ i. holds (is_open (subject c) (records s)) (λ n. late (i, n));
      })))

-- ---- the four ways of a session call

-- an early refusal
abbrev pub refused_with : ℕ → List ℕ → List ℕ → Answer
refused_with n s reply = record { status = n; store = s; reply = written (record { status = n; handle = 0; attestation = no_attestation; store = [] }) reply }

abbrev pub too_short : List ℕ → Bool
too_short reply = ltb (length reply) reply_bytes

pub answer_short : (s c chip reply : List ℕ) → too_short reply ≡ true → answer s c chip reply ≡ record { status = 21; store = s; reply = reply }
unfolding answer
answer_short s c chip reply e = rw e

module _ (s c chip reply : List ℕ) (long : too_short reply ≡ false) (e : sound s ≡ true) where
  judged-answer : (j : Judged) → judged s c chip ≡ j → answer s c chip reply ≡ record { status = j.status; store = j.store; reply = written j reply }
  unfolding answer
  judged-answer j i = rw (long, i)

  pub answer_unknown : (Fact (known c) → ⊥) → answer s c chip reply ≡ refused_with 16 s reply
  unfolding written
  answer_unknown n = judged-answer (same s 16) (judged_unknown s c chip e n)

  pub answer-shut : Fact (known c) → Fact (is_session_call c) → (Fact (is_open (subject c) (records s)) → ⊥) → answer s c chip reply ≡ refused_with 5 s reply
  unfolding written
  answer-shut k i n = judged-answer (same s 5) (judged_unopened s c chip e k i n)

  pub answer-step : Fact (known c) → (Fact (is_session_call c) → Fact (is_open (subject c) (records s)))
      → answer s c chip reply ≡ record { status = (stepped s c chip).status; store = (stepped s c chip).store; reply = written (stepped s c chip) reply }
  answer-step k o = judged-answer (stepped s c chip) (judged-taken s c chip e k o)
