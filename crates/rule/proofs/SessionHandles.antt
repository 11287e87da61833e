-- What a sound store says of sessions: where they sit among the handles, whose handles carry them, and that one handle is one session.
use mathlib.Core.Path.{◌≡◌, subst}
use mathlib.Core.List.{List, Memᴰ}
use Prim.Native.Nat.{ℕ, suc, ◌+◌, ◌*◌, ◌/◌, ◌%◌, ◌≤◌}
use native.Mathlib.Omega.{arith}
use Rattle.paper.specs.Form.{Rec, Fact}
use Rattle.paper.specs.Records.{kind, SESSION, OPEN, own, session, state, at, session_of, next_session}
use Rattle.paper.specs.Sound.{is_object}
use Rattle.paper.specs.Answer.{is_open}
use Rattle.laws.proofs.Bytes.{most}
use Rattle.laws.proofs.Lists.{at_found, at_byte}
use Rattle.laws.proofs.Facts.{Facts}
use Rattle.rule.proofs.RecordEdits.{number_range}

-- a session's handle
pub record Seat (s : ℕ) : Type 0 where
  pub least : 65536 ≤ s
  pub round : s % 65536 ≡ 0
  pub most : s + 65536 ≤ 4294967296

-- a record of an open session
pub record Opened (s : ℕ) (rs : List Rec) (y : Rec) : Type 0 where
  pub there : Memᴰ y rs
  pub kind= : kind y ≡ SESSION
  pub own= : own y ≡ s
  pub session= : session y ≡ s
  pub state= : state y ≡ OPEN

pub opened : (s : ℕ) (rs : List Rec) → Fact (is_open s rs) → Opened s rs (at SESSION s s rs)
opened s rs e =
    let w = at_found SESSION s s rs (at_byte SESSION s s rs 1 (λ z. omega arith)) in
    record { there = w.0; kind= = w.1.0; own= = w.1.1.0; session= = w.1.1.1; state= = e }

module _ (rs : List Rec) (F : Facts rs) where
  pub seat : (y : Rec) → Memᴰ y rs → kind y ≡ SESSION → Seat (own y)
  seat y m k =
      let w = F.counter in
      let b = (F.related w.0 w.1 y m).below_counter w.2 k in
      let n = (number_range w.0 (F.alone w.0 w.1) w.2).1 in
      let c = (F.alone y m).session_carries k in
      record { least = c.1.0; round = c.1.1; most = room (own y) (next_session w.0) b n c.1.1 }
    where
      room : (o n : ℕ) → suc o ≤ n * 65536 → n ≤ 65536 → o % 65536 ≡ 0 → o + 65536 ≤ 4294967296
      room o n a b c = omega arith

  pub seat_of : (s : ℕ) → Fact (is_open s rs) → Seat s
  seat_of s e = let o = opened s rs e in subst Seat o.own= (seat (at SESSION s s rs) o.there o.kind=)

  -- the session of an object
  pub object-home : (x : Rec) → Memᴰ x rs → Fact (is_object x) → (session_of (own x) ≡ session x) × Seat (session x)
  object-home x m i =
      let w = (F.housed x m).session_there i in
      let t = subst Seat w.2.1.0 (seat w.0 w.1 w.2.0) in
      let c = (F.alone x m).object_carries i in
      (home (own x) (session x) t.round c.0 c.1, t)
    where
      home : (o s : ℕ) → s % 65536 ≡ 0 → suc s ≤ o → o ≤ s + 999 → o / 65536 * 65536 ≡ s
      home o s a b c = omega arith
