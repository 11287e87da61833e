-- What the refusals of methods 80, 82, 83 and 100 look at: the key that the call names and its session, looked up once.
use Rattle.std.specs.Prelude.{List, ◌≡◌, ℕ}
use Rattle.paper.specs.Form.{Rec, Form, ◌equals◌, ◌and◌, ◌or◌}
use Rattle.paper.specs.Records.{kind, KEY, POLICY, CLOSED, state, parent}
use Rattle.paper.specs.Calls.{subject}
use Rattle.paper.specs.Posting.{target, home as home_of}

-- The records x and h are the key that the call c names among rs, and its session.
pub record Seen (c : List ℕ) (rs : List Rec) (x h : Rec) : Type 0 where
  pub key : x ≡ target (subject c) rs
  pub home : h ≡ home_of (subject c) rs

-- A key of a closed session.
abbrev pub reached : Rec → Rec → Form
reached x h = kind x equals KEY and state h equals CLOSED

-- 82: the key has no policy, or its policy no PUK.
abbrev pub without_puk : Rec → Rec → Form
without_puk x pol = parent x equals 0 or (kind pol equals POLICY and parent pol equals 0)
