-- What a session call that does not close leaves at each place of the store.
use mathlib.Core.Path.{◌≡◌, refl, sym, ap, subst, ◌∙◌}
use mathlib.Core.Bool.{Bool, true, false, cond}
use mathlib.Core.List.{List, [], ◌∷◌, map}
use mathlib.Core.Logic.{◌⊎◌, inl, inr}
use mathlib.Core.Option.{Option, none, some as just}
use Prim.Native.Nat.{ℕ, zero, suc, ◌≤◌, ◌<◌}
use native.Mathlib.Omega.{arith}
use lib.ListN.{get_or}
use Rattle.paper.specs.Bytes.{part, enc4, all_within}
use Rattle.paper.specs.Form.{Rec, Fact, only}
use Rattle.paper.specs.Records.{records, SESSION, at, block, bears, session, zeros, is_free, insert}
use Rattle.paper.specs.Calls.{method, subject, post_in}
use Rattle.paper.specs.Objects.{puk_record, policy_record, key_record}
use Rattle.paper.specs.Posting.{Look, look, pending_record}
use Rattle.paper.specs.Act.{Out, no_attestation, Act, refuse, inside, close as closes, placed, fits_in, wiped, perform}
use Rattle.paper.specs.Answer.{answer, step, session_step, session_act}
use Rattle.paper.proofs.Forms.{cases}
use Rattle.laws.proofs.Choice.{only_out, chosen}
use Rattle.laws.proofs.Bytes.{four_of, four_most}
use Rattle.laws.proofs.Inserting.{free_is}
use Rattle.laws.proofs.Methods.{by_act}
use Rattle.laws.proofs.Stores.{records-joined}
use Rattle.rule.specs.NothingCounts.{NothingCounts}
use Rattle.rule.proofs.RecordEdits.{long}
use Rattle.rule.proofs.Rule.{step_kept}
use Rattle.rule.proofs.Refusals.{status-is, store_is, session-step}

-- what stands at a place after an edit of each record, and after a new one
place_map : (f : Rec → Rec) (xs : List Rec) (i : ℕ) → (get_or (map f xs) i [] ≡ f (get_or xs i [])) ⊎ (get_or (map f xs) i [] ≡ get_or xs i [])
place_map f [] i = inr refl
place_map f (x ∷ xs) zero = inl refl
place_map f (x ∷ xs) (suc i) = place_map f xs i

place_insert : (n : Rec) (xs : List Rec) (i : ℕ) → (get_or (insert n xs) i [] ≡ get_or xs i []) ⊎ ((get_or xs i [] ≡ zeros) × (get_or (insert n xs) i [] ≡ n))
place_insert n [] i = inl refl
place_insert n (x ∷ xs) i = go (is_free x) refl i (λ j. place_insert n xs j)
  where
    go : (b : Bool) → is_free x ≡ b → (j : ℕ) → ((k : ℕ) → (get_or (insert n xs) k [] ≡ get_or xs k []) ⊎ ((get_or xs k [] ≡ zeros) × (get_or (insert n xs) k [] ≡ n)))
        → (get_or (cond b (n ∷ xs) (x ∷ insert n xs)) j [] ≡ get_or (x ∷ xs) j []) ⊎ ((get_or (x ∷ xs) j [] ≡ zeros) × (get_or (cond b (n ∷ xs) (x ∷ insert n xs)) j [] ≡ n))
    go true e zero h = inr (free_is x e, refl)
    go true e (suc j) h = inl refl
    go false e zero h = inl refl
    go false e (suc j) h = h j

-- a place after an act: the same, or the session's, or a free one that now holds a record of the session
module _ (t : ℕ) (rs : List Rec) where
  abbrev At : List Rec → ℕ → Type 0
  At xs i = (get_or xs i [] ≡ get_or rs i []) ⊎ ((session (get_or rs i []) ≡ t) ⊎ ((get_or rs i [] ≡ zeros) × (session (get_or xs i []) ≡ t)))

  edited : (g : Rec → Rec) (i : ℕ) → (session (get_or rs i []) ≡ t) ⊎ (get_or (map (only (bears t) g) rs) i [] ≡ get_or rs i [])
  edited g i = cases (bears t (get_or rs i [])) (λ p. inl p) (λ n. inr (go n (place_map (only (bears t) g) rs i)))
    where
      go : (Fact (bears t (get_or rs i [])) → ⊥)
          → (get_or (map (only (bears t) g) rs) i [] ≡ only (bears t) g (get_or rs i [])) ⊎ (get_or (map (only (bears t) g) rs) i [] ≡ get_or rs i [])
          → get_or (map (only (bears t) g) rs) i [] ≡ get_or rs i []
      go n (inl e) = e ∙ only_out (bears t) g (get_or rs i []) n
      go n (inr e) = e

  -- a new record is the session's
  abbrev Own : Option Rec → Type 0
  Own none = Unit {0}
  Own (just n) = session n ≡ t

  at-placed : (g : Rec → Rec) (new : Option Rec) → Own new → (i : ℕ) → At (placed new (map (only (bears t) g) rs)) i
  at-placed g none o i = go (edited g i)
    where
      go : (session (get_or rs i []) ≡ t) ⊎ (get_or (map (only (bears t) g) rs) i [] ≡ get_or rs i []) → At (map (only (bears t) g) rs) i
      go (inl p) = inr (inl p)
      go (inr e) = inl e
  at-placed g (just n) o i = go (edited g i) (place_insert n (map (only (bears t) g) rs) i)
    where
      xs : List Rec
      xs = map (only (bears t) g) rs

      go : (session (get_or rs i []) ≡ t) ⊎ (get_or xs i [] ≡ get_or rs i [])
          → (get_or (insert n xs) i [] ≡ get_or xs i []) ⊎ ((get_or xs i [] ≡ zeros) × (get_or (insert n xs) i [] ≡ n)) → At (insert n xs) i
      go (inl p) w = inr (inl p)
      go (inr e) (inl q) = inl (q ∙ e)
      go (inr e) (inr q) = inr (inr (sym e ∙ q.0, ap session q.1 ∙ o))

  -- the acts that do not close
  abbrev Still : Act → Type 0
  Still (refuse n) = Unit {0}
  Still (inside n w g new) = Own new
  Still (closes w) = ⊥

  at_performed : (a : Act) → Still a → (i : ℕ) → At (perform t a rs).store i
  unfolding perform
  at_performed (refuse n) k i = at-placed (λ r. zeros) none tt i
  at_performed (closes w) k i = absurd k
  at_performed (inside n w g new) k i =
      chosen (λ (o : Out). At o.store i) (fits_in new rs) _ (wiped t 2 rs) (λ e. at-placed g new k i) (λ e. at-placed (λ r. zeros) none tt i)

-- ---- method by method

module _ (c chip : List ℕ) (bytes : all_within 0 255 c ≡ true) (rs : List Rec) where
  abbrev t : ℕ
  t = subject c

  abbrev blk : List Rec
  blk = block t rs

  abbrev ses : Rec
  ses = at SESSION t t blk

  small : t < 4294967296
  small = four_most c bytes 1

  -- a close is refused
  abbrev Calm : Act → Type 0
  Calm a = (method c ≡ 3 → 1 ≤ (perform t a rs).status) → (i : ℕ) → At t rs (perform t a rs).store i

  quiet : (a : Act) → Still t rs a → Calm a
  quiet a q h i = at_performed t rs a q i

  -- a new record of the session
  born : (n : ℕ) (w : List ℕ) (g : Rec → Rec) (r : Rec) → part 8 4 r ≡ enc4 t → Calm (inside n w g (just r))
  born n w g r e = quiet (inside n w g (just r)) (four_of 8 r t e small)

  closed-zero : (w : List ℕ) → method c ≡ 3 → Calm (closes w)
  unfolding perform
  closed-zero w e h i = let z = h e in absurd (omega arith)

  act_calm : (l : Look) → Calm (session_act c chip blk l)
  act_calm l =
      by_act c chip blk l Calm
      (record {
        refused = λ n l. quiet (refuse n) tt;
        close = λ e k. closed-zero _ e;
        abort = λ e. quiet (inside 0 no_attestation (λ r. zeros) none) tt;
        puk = λ e k. born _ _ _ _ (unfold part puk_record in refl);
        policy = λ e k. born _ _ _ _ (unfold part policy_record in refl);
        key = λ e k. born _ _ _ _ (unfold part key_record in refl);
        path = λ e k. quiet (inside 0 no_attestation _ none) tt;
        post = λ op name a b h k. born _ _ _ _ (unfold part pending_record in refl);
      })

pub nothing_counts : NothingCounts
unfolding session_step
nothing_counts s c chip reply bytes taken h left i =
    let rs : List Rec = records s in
    let F = step_kept s c chip bytes taken.sound taken.opened in
    let e : records (answer s c chip reply).store ≡ (step c chip rs).store =
    ap records (store_is s c chip reply taken) ∙ records-joined (step c chip rs).store (λ x m. long x (F.alone x m)) in
    let w = session-step c chip rs h in
    subst (λ (xs : List Rec). At (subject c) rs xs i) (sym (e ∙ ap (λ (o : Out). o.store) w))
    (act_calm c chip bytes rs (look (post_in c chip).key rs) (λ m. subst (λ (n : ℕ). 1 ≤ n) (status-is s c chip reply taken ∙ ap (λ (o : Out). o.status) w) (left m)) i)
