-- Refused by its status (`told_not`), or the pending is placed (`told-done`).
use mathlib.Core.Path.{refl}
use Rattle.paper.specs.Act.{refuse}
use Rattle.paper.specs.Posting.{post_by}
use Rattle.method_acts.proofs.Climbs.{told_not, told-done}
use Rattle.method_posts.proofs.post.Goals as goal

pub returns-in-Err : goal.returns-in-Err
unfolding post_by
returns-in-Err c = rw (told_not _ refuse _ refl c.in-Err.e c.in-Err.ensures) (rw c.four_at-t.ensures at c.reject.ensures)

pub returns : goal.returns
unfolding post_by
returns c = rw (told-done _ refuse _ refl c.in_default.ensures) (rw (c.pending_record-r.ensures, c.post_fields-q.ensures, c.four_at-t.ensures) at c.place.ensures)
