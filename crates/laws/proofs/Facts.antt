-- Soundness as facts, each clause by its name, and that the facts and the test say the same.
use mathlib.Core.Path.{◌≡◌}
use mathlib.Core.Bool.{true}
use mathlib.Core.List.{List, [], ◌∷◌, Memᴰ}
use mathlib.Core.Logic.{inl, inr}
use Prim.Native.Nat.{ℕ}
use Rattle.hmac.specs.Same.{same}
use Rattle.paper.specs.Limits.{pin_width}
use Rattle.paper.specs.Bytes.{part}
use Rattle.paper.specs.Form.{Rec, test, Fact, Pairs}
use Rattle.paper.specs.Records.{records, kind, PUK, POLICY, KEY, own, session, grouping}
use Rattle.paper.specs.Table.{obeys_table}
use Rattle.paper.specs.Sound.{has_counter, one_counter, handles_differ, session_carries, object_carries, below_next, below_counter, ids_differ, clients_differ, session_there, puk_there, policy_there, bare_key, pinned_key, governs, puk_for_protection, key_counts, puk_counts, mac_counts, lengths_rise, no_digest, closed, key_there, paths_set, child, policies_used, key_wiped, pending_open, target_unless_stale, target_there, target_managed, target_pinned, one_pending, alone, distinct, related, housed, Sound, length_fits, sound}
use Rattle.paper.proofs.Forms.{both}
use Rattle.laws.proofs.Bytes.{split}
use Rattle.laws.proofs.Choice.{holds}

-- ---- of one record

pub record Alone (r : Rec) : Type 0 where
  pub tabled : obeys_table r ≡ true
  pub session_carries : Fact (session_carries r)
  pub object_carries : Fact (object_carries r)
  pub bare_key : Fact (bare_key r)
  pub pinned_key : Fact (pinned_key r)
  pub puk_counts : Fact (puk_counts r)
  pub mac_counts : Fact (mac_counts r)
  pub lengths_rise : Fact (lengths_rise r)
  pub no_digest : Fact (no_digest r)
  pub key_wiped : Fact (key_wiped r)
  pub target_unless_stale : Fact (target_unless_stale r)

pub alone_of : (r : Rec) → Fact (alone r) → Alone r
alone_of r (a, (b, (c, (d, (e, (f, (g, (h, (i, (j, k)))))))))) =
    record {
      tabled = a;
      session_carries = b;
      object_carries = c;
      bare_key = d;
      pinned_key = e;
      puk_counts = f;
      mac_counts = g;
      lengths_rise = h;
      no_digest = i;
      key_wiped = j;
      target_unless_stale = k;
    }

of_alone : (r : Rec) → Alone r → Fact (alone r)
of_alone r A =
    (A.tabled, (A.session_carries, (A.object_carries, (A.bare_key, (A.pinned_key, (A.puk_counts, (A.mac_counts, (A.lengths_rise, (A.no_digest, (A.key_wiped, A.target_unless_stale))))))))))

-- ---- of two records at different places

pub record Distinct (x y : Rec) : Type 0 where
  pub one_counter : Fact (one_counter x y)
  pub handles_differ : Fact (handles_differ x y)
  pub ids_differ : Fact (ids_differ x y)
  pub clients_differ : Fact (clients_differ x y)
  pub one_pending : Fact (one_pending x y)

distinct_of : (x y : Rec) → Fact (distinct x y) → Distinct x y
distinct_of x y (a, (b, (c, (d, e)))) = record { one_counter = a; handles_differ = b; ids_differ = c; clients_differ = d; one_pending = e }

of_distinct : (x y : Rec) → Distinct x y → Fact (distinct x y)
of_distinct x y D = (D.one_counter, (D.handles_differ, (D.ids_differ, (D.clients_differ, D.one_pending))))

-- ---- of one record and another

pub record Related (x y : Rec) : Type 0 where
  pub below_next : Fact (below_next x y)
  pub below_counter : Fact (below_counter x y)
  pub puk_for_protection : Fact (puk_for_protection x y)
  pub key_counts : Fact (key_counts x y)
  pub paths_set : Fact (paths_set x y)
  pub pending_open : Fact (pending_open x y)
  pub target_managed : Fact (target_managed x y)
  pub target_pinned : Fact (target_pinned x y)

pub related_of : (x y : Rec) → Fact (related x y) → Related x y
related_of x y (a, (b, (c, (d, (e, (f, (g, h))))))) =
    record {
      below_next = a;
      below_counter = b;
      puk_for_protection = c;
      key_counts = d;
      paths_set = e;
      pending_open = f;
      target_managed = g;
      target_pinned = h;
    }

of_related : (x y : Rec) → Related x y → Fact (related x y)
of_related x y R =
    (R.below_next, (R.below_counter, (R.puk_for_protection, (R.key_counts, (R.paths_set, (R.pending_open, (R.target_managed, R.target_pinned)))))))

-- ---- of what must be there

pub record Housed (rs : List Rec) (r : Rec) : Type 0 where
  pub session_there : Fact (session_there rs r)
  pub puk_there : Fact (puk_there rs r)
  pub policy_there : Fact (policy_there rs r)
  pub key_there : Fact (key_there rs r)
  pub target_there : Fact (target_there rs r)

housed_of : (rs : List Rec) (r : Rec) → Fact (housed rs r) → Housed rs r
housed_of rs r (a, (b, (c, (d, e)))) = record { session_there = a; puk_there = b; policy_there = c; key_there = d; target_there = e }

of_housed : (rs : List Rec) (r : Rec) → Housed rs r → Fact (housed rs r)
of_housed rs r H = (H.session_there, (H.puk_there, (H.policy_there, (H.key_there, H.target_there))))

-- in a closed session, what has no child: nothing
pub record Used (rs : List Rec) (x y : Rec) : Type 0 where
  pub puk : Fact (closed x) → session y ≡ own x → kind y ≡ PUK → Fact (child rs POLICY y)
  pub policy : Fact (closed x) → session y ≡ own x → kind y ≡ POLICY → Fact (child rs KEY y)

used_of : (rs : List Rec) (x y : Rec) → Fact (policies_used rs x y) → Used rs x y
used_of rs x y h =
    record {
      puk = λ c e k. holds (child rs POLICY y) (λ n. h c e (inl (k, n)));
      policy = λ c e k. holds (child rs KEY y) (λ n. h c e (inr (k, n)));
    }

of_used : (rs : List Rec) (x y : Rec) → Used rs x y → Fact (policies_used rs x y)
of_used rs x y U c e (inl w) = w.1 (U.puk c e w.0)
of_used rs x y U c e (inr w) = w.1 (U.policy c e w.0)

-- keys under a shared policy
abbrev pub Shares : Rec → Rec → Rec → Type 0
Shares p x y = kind p ≡ POLICY → grouping p ≡ 1 → Fact (governs p x) → Fact (governs p y) → same (part 49 pin_width x) (part 49 pin_width y) ≡ true

-- ---- together

pub record Facts (rs : List Rec) : Type 0 where
  pub counter : Fact (has_counter rs)
  pub alone : (r : Rec) → Memᴰ r rs → Alone r
  pub distinct : Pairs Distinct rs
  pub related : (x : Rec) → Memᴰ x rs → (y : Rec) → Memᴰ y rs → Related x y
  pub housed : (r : Rec) → Memᴰ r rs → Housed rs r
  pub used : (x : Rec) → Memᴰ x rs → (y : Rec) → Memᴰ y rs → Used rs x y
  pub shares : (p : Rec) → Memᴰ p rs → (x : Rec) → Memᴰ x rs → (y : Rec) → Memᴰ y rs → Shares p x y

pairs-turn : (P Q : Rec → Rec → Type 0) → ((x y : Rec) → P x y → Q x y) → (rs : List Rec) → Pairs P rs → Pairs Q rs
pairs-turn P Q h [] p = tt
pairs-turn P Q h (x ∷ rs) p = ((λ y m. h x y (p.0 y m)), pairs-turn P Q h rs p.1)

pub reflect : (rs : List Rec) → test (Sound rs) ≡ true → Facts rs
reflect rs e = go ((both (Sound rs)).0 e)
  where
    go : Fact (Sound rs) → Facts rs
    go (a, (b, (c, (d, (h, (u, s)))))) =
        record {
          counter = a;
          alone = λ r m. alone_of r (b r m);
          distinct = pairs-turn (λ x y. Fact (distinct x y)) Distinct distinct_of rs c;
          related = λ x mx y my. related_of x y (d x mx y my);
          housed = λ r m. housed_of rs r (h r m);
          used = λ x mx y my. used_of rs x y (u x mx y my);
          shares = λ p mp x mx y my k g gx gy. s p mp k g x mx gx y my gy;
        }

pub reify : (rs : List Rec) → Facts rs → test (Sound rs) ≡ true
reify rs F =
    (both (Sound rs)).1 (
      F.counter,
      (
        (λ r m. of_alone r (F.alone r m)),
        (
          pairs-turn Distinct (λ x y. Fact (distinct x y)) of_distinct rs F.distinct,
          (
            (λ x mx y my. of_related x y (F.related x mx y my)),
            (
              (λ r m. of_housed rs r (F.housed r m)),
              ((λ x mx y my. of_used rs x y (F.used x mx y my)), λ p mp k g x mx gx y my gy. F.shares p mp x mx y my k g gx gy),
            ),
          ),
        ),
      ),
    )

-- a sound store, as facts
pub facts_of : (s : List ℕ) → sound s ≡ true → Facts (records s)
unfolding sound
facts_of s e = reflect (records s) (split (length_fits s) (test (Sound (records s))) e).1
