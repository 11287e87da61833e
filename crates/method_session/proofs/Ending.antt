-- Children in a session's own records are found among all; and what methods 3 and 5 come to, by their status.
use mathlib.Core.Path.{◌≡◌, refl, sym, ap, subst, ◌∙◌}
use mathlib.Core.Bool.{Bool, true, false, not, ◌&&◌, ◌||◌, or-false}
use mathlib.Core.List.{List, map}
use Prim.Native.Nat.{ℕ}
use lib.Dec.{eqb}
use borrow.Author.Tests.{ne_eqb}
use Rattle.paper.specs.Form.{Rec, ◌equals◌, ◌and◌, test, some, exists}
use Rattle.paper.specs.Records.{SessionValue, records, kind, PUK, POLICY, KEY, own, session, parent, block}
use Rattle.paper.specs.Sound.{child, childless}
use Rattle.paper.specs.Calls.{subject, close_in, abort_form}
use Rattle.paper.specs.Mac.{attestation, close_attested}
use Rattle.paper.specs.Closing.{closing}
use Rattle.paper.specs.Act.{refuse, perform, wiped}
use Rattle.paper.specs.Act as act
use Rattle.paper.specs.Sessions.{abort_session, close_by}
use Rattle.store_records.specs.View.{Becomes}
use Rattle.store_records.specs.Choices.{chosen}
use Rattle.store_records.specs.declared.Choice.TheVariants.{Child}
use Rattle.method_acts.proofs.Blocks.{some_block}
use Rattle.paper.specs.Refusal.{number}
use Rattle.paper.specs.declared.Refusal.{Refusal}
use Rattle.method_acts.specs.Rungs.{status}
use Rattle.method_acts.specs.Answers.{Answers}
use Rattle.method_acts.proofs.Climbs.{told_not, told-done}
use Rattle.method_session.specs.Ends.{faults3, ended, aborted}

again : (a b c : Bool) → (c && (a && (b && c))) ≡ (a && (b && c))
again true true true = refl
again true true false = refl
again true false true = refl
again true false false = refl
again false b true = refl
again false b false = refl

-- a child bears its parent's session, so that it is looked for among all records
child-at : (t k : ℕ) (rs : List Rec) (y : Rec) → session y ≡ t → test (child (block t rs) k y) ≡ test (some rs (chosen (Child k (own y) t)))
child-at t k rs y e =
    subst (λ (n : ℕ). test (some (block t rs) (λ x. kind x equals k and parent x equals own y and session x equals n)) ≡ test (some rs (chosen (Child k (own y) t)))) (sym e)
    (sym (some_block t (λ x. kind x equals k and parent x equals own y and session x equals t) rs)
    ∙ ap (λ (p : Rec → Bool). exists p rs) (λ i x. again (eqb (kind x) k) (eqb (parent x) (own y)) (eqb (session x) t) i))

pub childless-at : (t : ℕ) (rs : List Rec) (y : Rec) → session y ≡ t
    → test (childless (block t rs) y)
    ≡ ((eqb (kind y) PUK && not (test (some rs (chosen (Child POLICY (own y) t))))) || (eqb (kind y) POLICY && not (test (some rs (chosen (Child KEY (own y) t))))))
childless-at t rs y e = rw (child-at t POLICY rs y e, child-at t KEY rs y e)

-- a PUK, a policy, and any other record
module _ (t : ℕ) (rs : List Rec) (y : Rec) (e : session y ≡ t) where
  pub childless_puk : kind y ≡ PUK → not (test (some rs (chosen (Child POLICY (own y) t)))) ≡ test (childless (block t rs) y)
  childless_puk k = sym (childless-at t rs y e ∙ rw k (or-false _))

  pub childless_policy : kind y ≡ POLICY → not (test (some rs (chosen (Child KEY (own y) t)))) ≡ test (childless (block t rs) y)
  childless_policy k = sym (childless-at t rs y e ∙ rw k)

module _ (x : SessionValue) (c chip : List ℕ) (rs : List Rec) where
  pub ended_not : (e : Refusal) → number e ≡ status (faults3 x c chip rs) → ended x c chip rs ≡ perform (subject c) (refuse (number e)) rs
  unfolding close_by
  ended_not e f = rw (told_not (faults3 x c chip rs) refuse (act.close (attestation x (close_attested (close_in c)))) refl e f)

  pub ended-done : 0 ≡ status (faults3 x c chip rs)
      → ended x c chip rs ≡ record { status = 0; handle = 0; attestation = attestation x (close_attested (close_in c)); store = map (closing (subject c) rs) rs }
  unfolding close_by perform
  ended-done z = rw (told-done (faults3 x c chip rs) refuse (act.close (attestation x (close_attested (close_in c)))) refl z)

pub closed : (x : SessionValue) (c chip : List ℕ) {s u : List ℕ} (t : ℕ) (a : List ℕ) → 0 ≡ status (faults3 x c chip (records s)) → t ≡ subject c
    → a ≡ attestation x (close_attested (close_in c)) → Becomes (map (closing t (records s)) (records s)) s u
    → Answers (ended x c chip (records s)) (record { status = 0; handle = 0; attestation = a }) s u
closed x c chip {s} t a z f h b = rw (ended-done x c chip (records s) z, ← f, ← h) (record { reply = refl; store = b })

-- method 5 frees its session, and tells whether the call has its form
module _ (c chip : List ℕ) (rs : List Rec) where
  pub aborted_not : test (abort_form c chip) ≡ false → aborted c chip rs ≡ perform (subject c) (refuse 16) rs
  unfolding abort_session
  aborted_not e = rw e

  pub aborted-done : test (abort_form c chip) ≡ true → aborted c chip rs ≡ wiped (subject c) 0 rs
  unfolding abort_session perform
  aborted-done e = rw e
