-- The clauses about one record and another, sorted by the first one's kind: of a session, of a PIN policy, of a key, of the counter.
-- No other record says anything of another, and neither does a key that has a policy.
use Rattle.paper.specs.Form.{Rec, Form, ◌equals◌, ◌and◌, ◌or◌}
use Rattle.paper.specs.Records.{kind, SESSION, POLICY, KEY, COUNTER}
use Rattle.paper.specs.Sound.{parentless, below_next, puk_for_protection, key_counts, paths_set, pending_open, target_managed}

abbrev pub of_session : Rec → Rec → Form
of_session x y = below_next x y and paths_set x y and pending_open x y and target_managed x y

abbrev pub of_policy : Rec → Rec → Form
of_policy x y = puk_for_protection x y and key_counts x y

abbrev pub concerned : Rec → Form
concerned x = kind x equals SESSION or kind x equals POLICY or (kind x equals KEY and parentless x) or kind x equals COUNTER
