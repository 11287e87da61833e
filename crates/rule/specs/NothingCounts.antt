-- Nothing counts until a session closes: a session call other than a close answered 0 changes no record outside its own session, but
-- for a free place that a new record of the session fills. So no key of a closed session is changed, removed or unlocked by it.
use Rattle.std.specs.Prelude.{◌≡◌, true, List, [], ◌⊎◌, ℕ, ◌≤◌, get_or}
use Rattle.paper.specs.Bytes.{all_within}
use Rattle.paper.specs.Form.{Rec, Fact}
use Rattle.paper.specs.Records.{records, session, zeros}
use Rattle.paper.specs.Calls.{method, subject, is_session_call}
use Rattle.paper.specs.Answer.{answer}
use Rattle.rule.specs.Refusals.{Taken}

-- Place i of the store before and after.
abbrev pub before : List ℕ → ℕ → Rec
before s i = get_or (records s) i []

abbrev pub after : List ℕ → List ℕ → List ℕ → List ℕ → ℕ → Rec
after s c chip reply i = get_or (records (answer s c chip reply).store) i []

abbrev pub NothingCounts : Type 0
NothingCounts =
    (s c chip reply : List ℕ) → all_within 0 255 c ≡ true → Taken s c reply → Fact (is_session_call c)
    → (method c ≡ 3 → 1 ≤ (answer s c chip reply).status) → (i : ℕ)
    → (after s c chip reply i ≡ before s i)
    ⊎ ((session (before s i) ≡ subject c)
    ⊎ ((before s i ≡ zeros) × (session (after s c chip reply i) ≡ subject c)))
