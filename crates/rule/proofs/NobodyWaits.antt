-- A session call decides on its session's own records and on closed sessions: two stores that agree on these answer it alike.
use mathlib.Core.Path.{◌≡◌, refl, sym, ap, ap₂, subst, ◌∙◌}
use mathlib.Core.Bool.{Bool, true, false, cond}
use mathlib.Core.List.{List, [], ◌∷◌, map, Memᴰ}
use mathlib.Core.Logic.{◌⊎◌, inl, inr}
use Prim.Native.Nat.{ℕ, ◌≤◌}
use Prim.Native.String.{String}
use native.Mathlib.Omega.{arith}
use lib.Dec.{lit≤}
use Rattle.paper.specs.Form.{Rec, Form, ◌equals◌, no, ◌and◌, some, test, Fact, only, keep}
use Rattle.paper.specs.Records.{records, kind, SESSION, KEY, OPEN, CLOSED, own, session, state, bears, block, is, at, session_of}
use Rattle.paper.specs.Sound.{sound}
use Rattle.paper.specs.Calls.{subject, post_in, post_form}
use Rattle.paper.specs.Posting.{target, home, is_target, Look, look, post_as, post_by}
use Rattle.paper.specs.Act.{Out, Act, refuse, inside, close as closes, placed, fits_in, wiped, perform}
use Rattle.paper.specs.Answer.{Answer, step, session_step, session_act, written}
use Rattle.paper.proofs.Forms.{cases}
use Rattle.laws.proofs.Choice.{fails, choose}
use Rattle.laws.proofs.Lists.{mem_keep, keep_mem, at_found, at_byte}
use Rattle.laws.proofs.Facts.{Facts, facts_of}
use Rattle.laws.proofs.Handles.{unique, at-is}
use Rattle.rule.specs.NobodyWaits.{another's, aside, NobodyWaits}
use Rattle.rule.proofs.CallersSession.{some_number}
use Rattle.rule.proofs.Refusals.{taken-answer, status-is, session-step}

-- among the records of which ψ holds, those of which φ holds, where φ says ψ of every record there
keep-keep : (φ ψ : Rec → Form) (rs : List Rec) → ((x : Rec) → Memᴰ x rs → Fact (φ x) → Fact (ψ x)) → keep φ (keep ψ rs) ≡ keep φ rs
keep-keep φ ψ [] h = refl
keep-keep φ ψ (x ∷ xs) h =
    let rest = keep-keep φ ψ xs (λ y m. h y (Memᴰ.tail m)) in
    choose (λ l. keep φ l ≡ keep φ (x ∷ xs)) (ψ x) (x ∷ keep ψ xs) (keep ψ xs)
    (λ p. ap (λ (l : List Rec). cond (test (φ x)) (x ∷ l) l) rest)
    (λ n. rest ∙ sym (dropped (λ q. n (h x (Memᴰ.head refl) q))))
  where
    dropped : (Fact (φ x) → ⊥) → keep φ (x ∷ xs) ≡ keep φ xs
    dropped n = choose (λ l. l ≡ keep φ xs) (φ x) (x ∷ keep φ xs) (keep φ xs) (λ q. absurd (n q)) (λ q. refl)

abbrev shown : ℕ → List Rec → Rec → Form
shown t rs r = no (session r equals 0) and no (another's t rs r)

-- the session's own records are shown
block-aside : (t : ℕ) (rs : List Rec) → 1 ≤ t → block t (aside t rs) ≡ block t rs
unfolding block
block-aside t rs l = keep-keep (bears t) (shown t rs) rs (λ x m e. ((λ z. omega arith), λ w. w.0 e))

-- a key of a closed session is shown with its session, so a store that shows the same has it too
module _ (t : ℕ) (rs rs' : List Rec) (F : Facts rs) (F' : Facts rs') (e : aside t rs ≡ aside t rs') (k : ℕ) where
  abbrev h : ℕ
  h = session_of k

  pub same_target : Fact (is_target k rs) → (target k rs' ≡ target k rs) × (home k rs' ≡ home k rs)
  same_target w =
      let x = at_found KEY k h rs (at_byte KEY k h rs 0 (λ z. let a = w.0 in omega arith)) in
      let z = at_found SESSION h h rs (at_byte SESSION h h rs 1 (λ q. let a = w.1 in omega arith)) in
      let l = ((F.alone (home k rs) z.0).session_carries z.1.0).1.0 in
      let o = z.1.1.0 in (
        at-is rs' F' KEY k h (target k rs) (lit≤ tt) (lit≤ tt) (crosses (target k rs) x.0 x.1.1.1 z.0 z.1 w.1 (omega arith)) x.1,
        at-is rs' F' SESSION h h (home k rs) (lit≤ tt) (lit≤ tt) (crosses (home k rs) z.0 z.1.1.1 z.0 z.1 w.1 (omega arith)) z.1,
      )
    where
      crosses : (y : Rec) → Memᴰ y rs → session y ≡ h → Memᴰ (home k rs) rs → Fact (is SESSION h h (home k rs)) → state (home k rs) ≡ CLOSED → 1 ≤ h
          → Memᴰ y rs'
      crosses y m q mz iz cz p =
          (mem_keep (shown t rs') rs' (subst (λ (l : List Rec). Memᴰ y l) e (keep_mem (shown t rs) rs m ((λ n. omega arith), λ a. open_not a.1)))).0
        where
          open_not : Fact (some rs (λ v. kind v equals SESSION and state v equals OPEN and own v equals session y)) → ⊥
          open_not v =
              let kv = v.2.0 in
              let kz = iz.0 in
              let i : v.0 ≡ home k rs = unique rs F v.0 (home k rs) v.1 mz (omega arith, omega arith) (omega arith, omega arith) (v.2.1.1 ∙ q ∙ sym iz.1.0) in
              let a : state (home k rs) ≡ OPEN = ap state (sym i) ∙ v.2.1.0 in
              omega arith

-- ---- what the call comes to

-- a post on no key of a closed session is refused before anything more is seen of it
post_nowhere : (op : ℕ) (name : String) (c chip : List ℕ) (blk : List Rec) (l : Look) → l.there ≡ false
    → post_as op name c chip blk l ≡ cond (test (no (post_form c chip))) (refuse 16) (refuse 7)
unfolding post_by
post_nowhere op name c chip blk l e = rw e

act_nowhere : (c chip : List ℕ) (blk : List Rec) (l l' : Look) → l.there ≡ false → l'.there ≡ false → session_act c chip blk l ≡ session_act c chip blk l'
unfolding session_act
act_nowhere c chip blk l l' e e' =
    rw (post_nowhere 50 "postDeleteKey" c chip blk l e, post_nowhere 51 "postUnlockKey" c chip blk l e, post_nowhere 50 "postDeleteKey" c chip blk l' e', post_nowhere 51 "postUnlockKey" c chip blk l' e')

module _ (t : ℕ) (rs rs' : List Rec) (F : Facts rs) (F' : Facts rs') (e : aside t rs ≡ aside t rs') (k : ℕ) where
  -- the same key is seen in both, or none is there in either
  looks : (look k rs ≡ look k rs') ⊎ (((look k rs).there ≡ false) × ((look k rs').there ≡ false))
  unfolding look
  looks = cases (is_target k rs)
      (λ w. let q = same_target t rs rs' F F' e k w in inl (sym (rw (q.0, q.1))))
      (λ n. inr (fails (is_target k rs) n, fails (is_target k rs') (λ w. n (back w))))
    where
      back : Fact (is_target k rs') → Fact (is_target k rs)
      back w = let q = same_target t rs' rs F' F (sym e) k w in (ap kind q.0 ∙ w.0, ap state q.1 ∙ w.1)

same_act : (c chip : List ℕ) (rs rs' : List Rec) → Facts rs → Facts rs' → 1 ≤ subject c → aside (subject c) rs ≡ aside (subject c) rs'
    → session_act c chip (block (subject c) rs) (look (post_in c chip).key rs) ≡ session_act c chip (block (subject c) rs') (look (post_in c chip).key rs')
same_act c chip rs rs' F F' l e = go (looks (subject c) rs rs' F F' e (post_in c chip).key)
  where
    blocks : block (subject c) rs ≡ block (subject c) rs'
    blocks = sym (block-aside (subject c) rs l) ∙ ap (block (subject c)) e ∙ block-aside (subject c) rs' l

    go : (look (post_in c chip).key rs ≡ look (post_in c chip).key rs') ⊎ (((look (post_in c chip).key rs).there ≡ false) × ((look (post_in c chip).key rs').there ≡ false))
        → session_act c chip (block (subject c) rs) (look (post_in c chip).key rs) ≡ session_act c chip (block (subject c) rs') (look (post_in c chip).key rs')
    go (inl q) = ap₂ (session_act c chip) blocks q
    go (inr q) =
        act_nowhere c chip (block (subject c) rs) (look (post_in c chip).key rs) (look (post_in c chip).key rs') q.0 q.1
        ∙ ap (λ (b : List Rec). session_act c chip b (look (post_in c chip).key rs')) blocks

-- ---- what it is answered

pub record Told (o o' : Out) : Type 0 where
  pub status : o.status ≡ o'.status
  pub handle : o.handle ≡ o'.handle
  pub attestation : o.attestation ≡ o'.attestation

same-told : (t : ℕ) (a : Act) (rs rs' : List Rec) → ((perform t a rs).status ≡ 2 → ⊥) → ((perform t a rs').status ≡ 2 → ⊥) → Told (perform t a rs) (perform t a rs')
unfolding perform
same-told t (refuse n) rs rs' p q = record { status = refl; handle = refl; attestation = refl }
same-told t (closes w) rs rs' p q = record { status = refl; handle = refl; attestation = refl }
same-told t (inside n w g new) rs rs' p q = go (fits_in new rs) (fits_in new rs') p q
  where
    yes : List Rec → Out
    yes xs = record { status = 0; handle = n; attestation = w; store = placed new (map (only (bears t) g) xs) }

    go : (b b' : Bool) → ((cond b (yes rs) (wiped t 2 rs)).status ≡ 2 → ⊥) → ((cond b' (yes rs') (wiped t 2 rs')).status ≡ 2 → ⊥)
        → Told (cond b (yes rs) (wiped t 2 rs)) (cond b' (yes rs') (wiped t 2 rs'))
    go true true u v = record { status = refl; handle = refl; attestation = refl }
    go true false u v = absurd (v refl)
    go false b' u v = absurd (u refl)

pub nobody_waits : NobodyWaits
unfolding session_step written
nobody_waits s s' c chip reply T T' h e p q =
    let rs : List Rec = records s in
    let rs' : List Rec = records s' in
    let F = facts_of s T.sound in
    let F' = facts_of s' T'.sound in
    let a = same_act c chip rs rs' F F' (some_number (subject c) rs F (T.opened h)) e in
    let i : step c chip rs ≡ perform (subject c) (session_act c chip (block (subject c) rs) (look (post_in c chip).key rs)) rs = session-step c chip rs h in
    let j : step c chip rs' ≡ perform (subject c) (session_act c chip (block (subject c) rs) (look (post_in c chip).key rs)) rs' =
    session-step c chip rs' h ∙ ap (λ (b : Act). perform (subject c) b rs') (sym a) in
    let w = same-told (subject c) _ rs rs' (λ z. p (status-is s c chip reply T ∙ ap (λ (o : Out). o.status) i ∙ z)) (λ z. q (status-is s' c chip reply T' ∙ ap (λ (o : Out). o.status) j ∙ z)) in
    let u = taken-answer s c chip reply T in
    let v = taken-answer s' c chip reply T' in
    let st = ap (λ (o : Out). o.status) i ∙ w.status ∙ sym (ap (λ (o : Out). o.status) j) in
    let ha = ap (λ (o : Out). o.handle) i ∙ w.handle ∙ sym (ap (λ (o : Out). o.handle) j) in
    let at = ap (λ (o : Out). o.attestation) i ∙ w.attestation ∙ sym (ap (λ (o : Out). o.attestation) j) in (
      status-is s c chip reply T ∙ st ∙ sym (status-is s' c chip reply T'),
      ap (λ (x : Answer). x.reply) u ∙ (rw (st, ha, at)) ∙ sym (ap (λ (x : Answer). x.reply) v),
    )
