-- Which records a look-up or an edit is about, as the paper's statements of one record.
use Rattle.paper.specs.Form.{Rec, Form, ◌equals◌, say, no, ◌and◌}
use Rattle.paper.specs.Records.{kind, parent, session, retry_limit, is, bears, is_free}
use Rattle.paper.specs.Closing.{held}
use Rattle.store_records.specs.declared.Choice.{Choice}
use Rattle.store_records.specs.declared.Choice.TheVariants.{Kind, That, Limited, Bears, Of, Child, Held, Free}

abbrev pub chosen : Choice → Rec → Form
chosen (Kind k) r = kind r equals k
chosen (That k o s) r = is k o s r
chosen (Limited k o s) r = is k o s r and no (retry_limit r equals 0)
chosen (Bears s) r = bears s r
chosen (Of k s) r = kind r equals k and session r equals s
chosen (Child k p s) r = kind r equals k and parent r equals p and session r equals s
chosen (Held s k) r = held s k r
chosen Free r = say (is_free r)
