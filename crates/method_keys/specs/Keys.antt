-- A key that has another PIN than a new one under the same policy; and what is kept of a record that would be longer than 256 bytes.
use Rattle.std.specs.Prelude.{List, ℕ}
use Rattle.std.proofs.Math.Option.{none, some as just}
use Rattle.hmac.specs.Same.{same}
use Rattle.paper.specs.Form.{Rec, Form, say, no, ◌and◌}
use Rattle.paper.specs.Records.{bears, value}
use Rattle.paper.specs.Sound.{governs}
use Rattle.paper.specs.Act.{Act, refuse, inside, close}
use Rattle.store_draft.specs.Drafts.{laid}

-- A key under the policy that has another PIN; the same of the session's own records.
abbrev pub other_pin : Rec → List ℕ → Rec → Form
other_pin pol pin x = governs pol x and no (say (same (value x) pin))

abbrev pub unlike_in : ℕ → Rec → List ℕ → Rec → Form
unlike_in t pol pin x = bears t x and other_pin pol pin x

-- A new record is laid in 256 bytes. Where the record has 256 bytes this changes nothing (proofs/Whole.antt).
abbrev pub cut : Act → Act
cut (refuse n) = refuse n
cut (inside h a edit none) = inside h a edit none
cut (inside h a edit (just r)) = inside h a edit (just (laid r))
cut (close a) = close a
