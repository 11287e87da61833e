-- What an edit makes of a record, as the paper's edits.
use Rattle.paper.specs.Form.{Rec}
use Rattle.paper.specs.Records.{zeros}
use Rattle.paper.specs.Pin.{clear, add_one}
use Rattle.store_edits.specs.declared.Edit.{Edit}
use Rattle.store_edits.specs.declared.Edit.TheVariants.{Free, Clear, AddOne}

abbrev pub edited : Edit → Rec → Rec
edited Free r = zeros
edited (Clear i) r = clear i r
edited (AddOne i) r = add_one i r
