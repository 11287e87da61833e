-- What a user's call comes to: the code's verdict for the paper's, what each verdict tells, and what a deed makes of the records.
use Rattle.std.specs.Prelude.{List, map, ℕ, Result, Ok, Err}
use Rattle.paper.specs.Form.{Rec, only}
use Rattle.paper.specs.Records.{PUK, is}
use Rattle.paper.specs.Pin.{Verdict as Said, locked, wrong, right, clear}
use Rattle.paper.specs.Act.{Out, plain}
use Rattle.paper.specs.Users.{removed, unlocked}
use Rattle.paper.specs.declared.Refusal.{Refusal}
use Rattle.paper.specs.declared.Refusal.TheVariants as refusal
use Rattle.method_acts.specs.Rungs.{number_of}
use Rattle.store_records.specs.Choices.{chosen}
use Rattle.store_edits.specs.Edits.{edited}
use Rattle.effect_deeds.specs.Outcome.{repinned, unless_long}
use Rattle.method_users.specs.declared.Verdict.{Verdict}
use Rattle.method_users.specs.declared.Verdict.TheVariants.{Locked, Wrong, Right}
use Rattle.method_users.specs.declared.Deed.{Deed}
use Rattle.method_users.specs.declared.Deed.TheVariants.{Nothing, Count, Remove, Clear, Unlock, Repin}
use Rattle.method_users.specs.declared.Step.{Step}

abbrev pub case_of : Said → Verdict
case_of locked = Locked
case_of wrong = Wrong
case_of right = Right

-- What a call that tried a value tells.
abbrev pub told : Verdict → Result (Unit {0}) Refusal
told Locked = Err refusal.Wrong
told Wrong = Err refusal.Wrong
told Right = Ok tt

-- What a verdict comes to, where a wrong value and a right one have these deeds.
abbrev pub deed_by : Verdict → Deed → Deed → Deed
deed_by Locked missed hit = Nothing
deed_by Wrong missed hit = missed
deed_by Right missed hit = hit

abbrev pub step_by : Verdict → Deed → Deed → Step
step_by v missed hit = record { status = told v; deed = deed_by v missed hit }

-- The key k is removed; and the same after the count of the PUK of this handle and session became 0.
abbrev pub lost : ℕ → List Rec → List Rec
lost k rs = unless_long rs (removed k rs)

abbrev pub lost_with_puk : ℕ → ℕ → ℕ → List Rec → List Rec
lost_with_puk k o s rs = lost k (map (only (is PUK o s) (clear 3)) rs)

-- What a deed makes of the records; w is the new PIN.
abbrev pub done_by : Deed → List ℕ → List Rec → List Rec
done_by Nothing w rs = rs
done_by (Count c e) w rs = map (only (chosen c) (edited e)) rs
done_by (Remove k) w rs = lost k rs
done_by (Clear k o s) w rs = lost_with_puk k o s rs
done_by (Unlock k) w rs = unless_long rs (unlocked k rs)
done_by (Repin g) w rs = unless_long rs (map (repinned g w rs) rs)

abbrev pub out_of : Step → List ℕ → List Rec → Out
out_of s w rs = plain (number_of s.status) (done_by s.deed w rs)
