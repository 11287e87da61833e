-- The first close stands: where two sessions hold one key, at most one of them closes with status 0, whatever calls come before,
-- between and after. Every method may come, a new session's too; only format is no call. Proved in proofs/Stands.antt.
use Rattle.std.specs.Prelude.{◌≡◌, true, List, [], ◌∷◌, ◌⊎◌, ℕ}
use Rattle.paper.specs.Form.{some, Fact}
use Rattle.paper.specs.Records.{records}
use Rattle.paper.specs.Sound.{sound}
use Rattle.paper.specs.Closing.{held}
use Rattle.paper.specs.Calls.{method, subject}
use Rattle.rule.specs.Runs.{Call, answered, after}

-- A session holds a key while it has an unstale pending on it.
abbrev pub Holds : ℕ → ℕ → List ℕ → Type 0
Holds a k s = Fact (some (records s) (held a k))

-- The call is a close of session a.
abbrev pub IsClose : ℕ → Call → Type 0
IsClose a q = (method q.bytes ≡ 3) × (subject q.bytes ≡ a)

-- Somewhere along the calls a close of session a answers 0.
abbrev pub Closes : ℕ → List ℕ → List Call → Type 0
Closes a s [] = ⊥
Closes a s (q ∷ qs) = (IsClose a q × ((answered s q).status ≡ 0)) ⊎ Closes a (answered s q).store qs

-- The strong form: not both.
abbrev pub NotBoth : Type 0
NotBoth =
    (s : List ℕ) (a b k : ℕ) → sound s ≡ true → (a ≡ b → ⊥) → Holds a k s → Holds b k s
    → (qs : List Call) → Closes a s qs → Closes b s qs → ⊥

-- The demand's words: one session closes with status 0; then no later close of the other succeeds.
abbrev pub FirstStands : Type 0
FirstStands =
    (s : List ℕ) (a b k : ℕ) → sound s ≡ true → (a ≡ b → ⊥) → Holds a k s → Holds b k s
    → (first : Call) → IsClose a first → (answered s first).status ≡ 0
    → (between : List Call) (second : Call) → IsClose b second → (answered (after s (first ∷ between)) second).status ≡ 0 → ⊥
