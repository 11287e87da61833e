-- What method 10 comes to, by its status: refused with it, or a new record laid in 256 bytes.
use mathlib.Core.Path.{◌≡◌, refl, ap}
use mathlib.Core.List.{List}
use mathlib.Core.Option.{some as just}
use Prim.Native.Nat.{ℕ}
use Rattle.paper.specs.Form.{Rec, Fault}
use Rattle.paper.specs.Records.{SessionValue, POLICY, at, block}
use Rattle.paper.specs.Calls.{subject, key_in}
use Rattle.paper.specs.Mac.{attestation, key_attested}
use Rattle.paper.specs.Act.{refuse, inside, advance, fresh}
use Rattle.paper.specs.Objects.{pin_of, key_faults, key_record, make_key_by}
use Rattle.store_draft.specs.Drafts.{laid}
use Rattle.method_acts.specs.Rungs.{status}
use Rattle.method_acts.proofs.Climbs.{settle-done, settle_not}
use Rattle.method_keys.specs.Keys.{cut}

-- The policy that the call names, the PIN of the new key, and the refusals.
abbrev pub its_policy : List ℕ → List ℕ → List Rec → Rec
its_policy c chip rs = at POLICY (key_in c chip).policy (subject c) (block (subject c) rs)

abbrev pub its_pin : List ℕ → List ℕ → List Rec → List ℕ
its_pin c chip rs = pin_of (key_in c chip) (its_policy c chip rs)

abbrev pub key_ladder : SessionValue → List ℕ → List ℕ → List Rec → List Fault
key_ladder x c chip rs = key_faults c chip (key_in c chip) (its_pin c chip rs) (its_policy c chip rs) x (block (subject c) rs)

module _ (x : SessionValue) (c chip : List ℕ) (rs : List Rec) where
  pub key_not : (status (key_ladder x c chip rs) ≡ 0 → ⊥) → cut (make_key_by x c chip (block (subject c) rs)) ≡ refuse (status (key_ladder x c chip rs))
  unfolding make_key_by
  key_not h = ap cut (settle_not (key_ladder x c chip rs) refuse _ refl h)

  pub key_done : status (key_ladder x c chip rs) ≡ 0
      → cut (make_key_by x c chip (block (subject c) rs))
      ≡ inside (fresh (subject c) x) (attestation x (key_attested (key_in c chip))) (advance (subject c) 1 2)
      (just (laid (key_record (subject c) (key_in c chip) (its_pin c chip rs) x)))
  unfolding make_key_by
  key_done z = ap cut (settle-done (key_ladder x c chip rs) refuse _ refl z)
