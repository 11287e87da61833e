-- What is known of store and call once none of the early refusals holds, step by step: for a session call its session is open, and the
-- session's value is read off its record.
use Rattle.std.specs.Prelude.{◌≡◌, Bool, true, ◌||◌, List, ℕ, eqb}
use Rattle.paper.specs.Form.{Fact}
use Rattle.paper.specs.Records.{SESSION, SessionValue, records, is, block}
use Rattle.paper.specs.Sound.{sound}
use Rattle.paper.specs.Calls.{subject, is_session_call}
use Rattle.paper.specs.Act.{itself}
use Rattle.paper.specs.Answer.{is_open}
use Rattle.store_records.specs.View.{index}

-- The place of the session that a call names, or the number of records.
abbrev pub place_of : List ℕ → List ℕ → ℕ
place_of s c = index (is SESSION (subject c) (subject c)) (records s)

pub record Passed (s c : List ℕ) : Type 0 where
  pub whole : sound s ≡ true
  pub opened : Fact (is_session_call c) → Fact (is_open (subject c) (records s))

pub record Open (s c : List ℕ) : Type 0 where
  pub whole : sound s ≡ true
  pub opened : Fact (is_open (subject c) (records s))

pub record Found (s c : List ℕ) (x : SessionValue) : Type 0 where
  pub whole : sound s ≡ true
  pub value : x ≡ itself c (block (subject c) (records s))

-- The methods that make a PUK, a PIN policy or a key, or give a key its path.
abbrev pub making : ℕ → Bool
making m = eqb m 8 || (eqb m 9 || (eqb m 10 || eqb m 12))
