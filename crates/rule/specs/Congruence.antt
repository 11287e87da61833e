-- Congruence: what a call is answered and what it leaves behind depend on the records in the store alone, not on their places nor
-- on how many places there are, status 2 apart. Proved in proofs/Congruence.antt.
use Rattle.std.specs.Prelude.{◌≡◌, true, List, ℕ}
use Rattle.paper.specs.Bytes.{all_within}
use Rattle.paper.specs.Form.{Rec, say, no, keep}
use Rattle.paper.specs.Records.{records, is_free}
use Rattle.paper.specs.Sound.{sound}
use Rattle.rule.specs.Bags.{SameRecords}
use Rattle.rule.specs.Runs.{Call, answered}

-- The records that are not free.
abbrev pub filled : List Rec → List Rec
filled rs = keep (λ r. no (say (is_free r))) rs

-- Two stores, perhaps of different lengths, with as many of every record that is not free.
abbrev pub SameContent : List ℕ → List ℕ → Type 0
SameContent s s' = SameRecords (filled (records s)) (filled (records s'))

-- The call has the same answer on both, and leaves such stores again.
pub record AnsweredAlike (s s' : List ℕ) (q : Call) : Type 0 where
  pub status : (answered s q).status ≡ (answered s' q).status
  pub reply : (answered s q).reply ≡ (answered s' q).reply
  pub content : SameContent (answered s q).store (answered s' q).store

-- Any call, each byte at most 255, any chip bytes and any reply.
abbrev pub Congruence : Type 0
Congruence =
    (s s' : List ℕ) (q : Call) → all_within 0 255 q.bytes ≡ true → sound s ≡ true → sound s' ≡ true → SameContent s s'
    → ((answered s q).status ≡ 2 → ⊥) → ((answered s' q).status ≡ 2 → ⊥) → AnsweredAlike s s' q
