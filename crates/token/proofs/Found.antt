-- The session of a call in a sound store: it is open, so it is there; it obeys the table, so its decoded value tells what its record does.
use mathlib.Core.Path.{◌≡◌, refl, sym}
use mathlib.Core.Bool.{true}
use mathlib.Core.List.{List, []}
use Prim.Native.Nat.{ℕ, ◌≤◌}
use native.Mathlib.Omega.{arith}
use borrow.Author.Tests.{leb-true}
use lib.Dec.{leb}
use lib.ListN.{get_or}
use Rattle.paper.specs.Bytes.{byte, text_at, within}
use Rattle.paper.specs.Form.{Rec, Fact, say, no, ◌and◌, some}
use Rattle.paper.specs.Records.{SESSION, records, kind, state, is, at}
use Rattle.paper.specs.Table.{obeys_table, is_text, printable}
use Rattle.paper.specs.Sound.{sound}
use Rattle.paper.specs.Calls.{subject, is_session_call}
use Rattle.paper.specs.Answer.{is_open, early_faults}
use Rattle.paper.proofs.Forms.{cases, Clear}
use Rattle.laws.proofs.Bytes.{split}
use Rattle.laws.proofs.Facts.{reflect}
use Rattle.laws.proofs.Fields.{tabled_field, tabled-length}
use Rattle.laws.proofs.Lists.{at_block, at_found, at_none}
use Rattle.store_records.proofs.Places.{seek-index}
use Rattle.store_session.specs.Decoded.{decoded, value_of}
use Rattle.store_session.proofs.Round.{decoded-value}
use Rattle.method_acts.specs.Rungs.{status}
use Rattle.method_acts.proofs.Climbs.{cleared}
use Rattle.token.specs.Early.{place_of, Passed, Open, Found}
use Rattle.token.proofs.Steps.{tested}

-- none of the early refusals holds
pub passed : (s c : List ℕ) → 0 ≡ status (early_faults s c) → Passed s c
passed s c z = go (cleared (early_faults s c) refl (sym z))
  where
    go : Clear (early_faults s c) → Passed s c
    go w =
        let sounds : Fact (no (say (sound s))) → ⊥ = search in
        let opens : Fact (is_session_call c and no (is_open (subject c) (records s))) → ⊥ = search in
        record {
          whole = cases (say (sound s)) (λ p. p) (λ n. absurd (sounds n));
          opened = λ m. cases (is_open (subject c) (records s)) (λ p. p) (λ n. absurd (opens (m, n)));
        }

-- the place tells the record
pub placed : (s c : List ℕ) → get_or (records s) (place_of s c) [] ≡ at SESSION (subject c) (subject c) (records s)
unfolding at
placed s c = sym (seek-index (is SESSION (subject c) (subject c)) (records s))

-- a session's record as the table has it
client_short : (r : Rec) → kind r ≡ SESSION → obeys_table r ≡ true → byte 49 r ≤ 32
client_short r k t =
    let a = split (is_text 32 1 49 r) (printable (text_at 49 r)) (tabled_field 7 SESSION r k t) in
    let b = split (within 1 32 (byte 49 r)) _ a.0 in
    leb-true (byte 49 r) 32 (split (leb 1 (byte 49 r)) (leb (byte 49 r) 32) b.0).1

nothing_open : state [] ≡ 1 → ⊥
unfolding byte
nothing_open e = omega arith

module _ (s c : List ℕ) (o : Open s c) where
  there : Fact (some (records s) (is SESSION (subject c) (subject c)))
  there =
      cases (some (records s) (is SESSION (subject c) (subject c))) (λ w. w)
      (λ n. absurd (nothing_open (rw (at_none SESSION (subject c) (subject c) (records s) n) at o.opened)))

  pub found : Found s c (value_of (decoded (get_or (records s) (place_of s c) [])))
  found =
      let r = at SESSION (subject c) (subject c) (records s) in
      let f = at_found SESSION (subject c) (subject c) (records s) there in
      let t = ((reflect (records s) (tested s o.whole)).alone r f.0).tabled in
      record {
        whole = o.whole;
        value =
            rw (placed s c, at_block SESSION (subject c) (subject c) (records s))
            (decoded-value r (tabled-length r t) (client_short r f.1.0 t));
      }
