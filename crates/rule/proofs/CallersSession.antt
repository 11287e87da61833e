-- A session call that comes to its method: the session's own record, what its refusals leave behind, and what a new object's entry asks.
use mathlib.Core.Path.{◌≡◌, sym, ap, ◌∙◌}
use mathlib.Core.List.{List, map, Memᴰ}
use mathlib.Core.Option.{Option, some as just}
use Prim.Native.Nat.{ℕ, ◌+◌, ◌≤◌, ◌<◌}
use native.Mathlib.Omega.{arith}
use lib.ListN.{length}
use lib.Dec.{lit≤, lit<}
use Rattle.hmac.proofs.Sameness.{eq_same}
use Rattle.paper.specs.Limits.{most_objects, longest_id, id_width}
use Rattle.paper.specs.Bytes.{part, padded_text}
use Rattle.paper.specs.Form.{Rec, Fact, only}
use Rattle.paper.specs.Records.{kind, SESSION, OPEN, own, session, id, at, block, bears, state, next_object, mac_counter, key_limit}
use Rattle.paper.specs.Sound.{has_id}
use Rattle.paper.specs.Act.{refuse, inside, perform, placed, fits_in, wiped, advance}
use Rattle.paper.specs.Objects.{taken}
use Rattle.paper.specs.Answer.{is_open}
use Rattle.laws.proofs.Choice.{chosen}
use Rattle.laws.proofs.Strings.{text_of}
use Rattle.laws.proofs.Lists.{at_block, at_found, at_byte, block_in}
use Rattle.laws.proofs.Facts.{Facts}
use Rattle.laws.proofs.Handles.{unique}
use Rattle.rule.proofs.RecordEdits.{long, number_range}
use Rattle.rule.proofs.RemovedSession as wiping
use Rattle.rule.proofs.NewObject.{Sprout, Ready, sprouted}
use Rattle.rule.proofs.MadeRecords.{word}
use Rattle.rule.proofs.UserCalls.{Stays}

module _ (s : ℕ) (rs : List Rec) (F : Facts rs) (O : Fact (is_open s rs)) where
  abbrev blk : List Rec
  blk = block s rs

  abbrev ses : Rec
  ses = at SESSION s s blk

  pub here : Memᴰ ses rs × ((kind ses ≡ SESSION) × ((own ses ≡ s) × (session ses ≡ s)))
  here = rw (at_block SESSION s s rs) (at_found SESSION s s rs (at_byte SESSION s s rs 1 (λ z. let e = O in omega arith)))

  pub me : (x : Rec) → Memᴰ x rs → kind x ≡ SESSION → own x ≡ s → x ≡ ses
  me x i k e = let h = here in let a = h.1.0 in unique rs F x ses i h.0 (omega arith, omega arith) (omega arith, omega arith) (e ∙ sym h.1.1.0)

  pub opened : (z : Rec) → Memᴰ z rs → kind z ≡ SESSION → own z ≡ s → state z ≡ OPEN
  opened z i k e = ap state (me z i k e ∙ at_block SESSION s s rs) ∙ O

  pub some_number : 1 ≤ s
  some_number = let h = here in let l = ((F.alone ses h.0).session_carries h.1.0).1.0 in let e = h.1.1.0 in omega arith

  -- every handle of the session has four bytes
  pub small : (N : ℕ) → N ≤ most_objects → s + N < word
  small N l =
      let h = here in
      let e = h.1.1.0 in
      let v = ((F.alone ses h.0).session_carries h.1.0).1.1 in
      let c = F.counter in
      let b = (F.related c.0 c.1 ses h.0).below_counter c.2 h.1.0 in
      let r = (number_range c.0 (F.alone c.0 c.1) c.2).1 in
      omega arith

  -- a refusal removes the session
  pub refused : (n : ℕ) → Stays (wiped s n rs)
  refused n = wiping.wiped s rs F some_number opened

  pub refuse_kept : (n : ℕ) → Stays (perform s (refuse n) rs)
  unfolding perform
  refuse_kept n = refused n

  pub inside_kept : (h : ℕ) (t : List ℕ) (edit : Rec → Rec) (new : Option Rec) → Facts (placed new (map (only (bears s) edit) rs))
      → Stays (perform s (inside h t edit new) rs)
  unfolding perform
  inside_kept h t edit new X =
      chosen Stays (fits_in new rs) (record { status = 0; handle = h; attestation = t; store = placed new (map (only (bears s) edit) rs) })
      (wiped s 2 rs) (λ e. X) (λ e. refused 2)

  -- the session has room for one object more and for so many uses
  pub ready : (used : ℕ) → next_object ses ≤ most_objects → mac_counter ses + used ≤ key_limit ses → Ready s (next_object ses) used rs
  ready used a b =
      record {
        here = let h = here in (ses, h.0, h.1);
        this = λ x i k e. let q = me x i k e in (opened x i k e, ap next_object q, a, rw q b);
      }

  pub made : (h : ℕ) (t : List ℕ) (used : ℕ) (n : Rec) → Ready s (next_object ses) used rs → Sprout s (next_object ses) n rs
      → Stays (perform s (inside h t (advance s 1 used) (just n)) rs)
  made h t used n R S = inside_kept h t (advance s 1 used) (just n) (sprouted s (next_object ses) used rs F R n S)

  -- an ID that is not taken is not borne
  pub unnamed : (v : List ℕ) → length v ≤ longest_id → (Fact (taken v blk) → ⊥) → (n : Rec) → part 16 id_width n ≡ padded_text longest_id v
      → (x : Rec) → Memᴰ x rs → Fact (has_id x) → session x ≡ s → part 16 id_width x ≡ part 16 id_width n → ⊥
  unnamed v l free n e x i k t q =
      free (x, block_in s rs i t, (k, eq_same (id x) v (text_of 16 longest_id x v (q ∙ e) l (lit< tt) (rw (long x (F.alone x i)) (lit≤ tt)))))
