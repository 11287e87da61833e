-- The session calls keep the store sound, whatever they answer.
use mathlib.Core.Path.{◌≡◌}
use mathlib.Core.Bool.{true}
use mathlib.Core.List.{List}
use mathlib.Core.Logic.{inl, inr}
use mathlib.Core.Option.{none}
use Prim.Native.Nat.{ℕ, ◌+◌, ◌≤◌}
use native.Mathlib.Omega.{arith}
use Rattle.sha256.specs.Sha256.{SHA256}
use Rattle.paper.specs.Bytes.{all_within}
use Rattle.paper.specs.Form.{Rec, ◌equals◌, ◌=<◌, Fact, only}
use Rattle.paper.specs.Records.{SESSION, POLICY, KEY, at, block, is, mac_counter, key_limit, path_set, zeros}
use Rattle.paper.specs.Sound.{child}
use Rattle.paper.specs.Calls.{subject, post_in, path_in}
use Rattle.paper.specs.Act.{Act, close as closes, perform, no_attestation, advance}
use Rattle.paper.specs.Objects.{certified}
use Rattle.paper.specs.Posting.{look}
use Rattle.paper.specs.Sessions.{unfit}
use Rattle.paper.specs.Answer.{is_open, session_step}
use Rattle.laws.proofs.Choice.{holds}
use Rattle.laws.proofs.Fields.{tabled_field}
use Rattle.laws.proofs.CallStrings.{length_hash}
use Rattle.laws.proofs.Lists.{block_in, block_out}
use Rattle.laws.proofs.Methods.{by_act}
use Rattle.laws.proofs.Facts.{Facts}
use Rattle.rule.proofs.RecordEdits.{within_of, next_range}
use Rattle.rule.proofs.OwnEdits.{path_kept}
use Rattle.rule.proofs.Sealing.{Fit}
use Rattle.rule.proofs.Closes.{close_kept}
use Rattle.rule.proofs.UserCalls.{Stays}
use Rattle.rule.proofs.CallersSession.{me, opened, some_number, refused, refuse_kept, inside_kept}
use Rattle.rule.proofs.MakingObjects.{puk_kept, policy_kept, key_kept}
use Rattle.rule.proofs.Posting.{post_kept}

module _ (c chip : List ℕ) (bytes : all_within 0 255 c ≡ true) (rs : List Rec) (F : Facts rs) (O : Fact (is_open (subject c) rs)) where
  abbrev s : ℕ
  s = subject c

  abbrev blk : List Rec
  blk = block s rs

  abbrev ses : Rec
  ses = at SESSION s s blk

  abbrev Kept : Act → Type 0
  Kept a = Stays (perform s a rs)

  -- what is not unfit fits

  fit : mac_counter ses + 2 ≤ key_limit ses → (Fact (unfit blk) → ⊥) → Fit s rs
  fit left n =
      record {
        counts = λ x i k e. rw (me s rs F O x i k e) left;
        paths = λ y i k e.
            let r = within_of 0 1 (path_set y) (tabled_field 1 KEY y k (F.alone y i).tabled) in
            holds (path_set y equals 1) (λ z. n (inl (y, block_in s rs i e, (k, omega arith))));
        puks = λ y i k e.
            let w = holds (child blk POLICY y) (λ z. n (inr (inl (y, block_in s rs i e, inl (k, z))))) in
            (w.0, (block_out s rs w.1).0, w.2);
        policies = λ y i k e.
            let w = holds (child blk KEY y) (λ z. n (inr (inl (y, block_in s rs i e, inr (k, z))))) in
            (w.0, (block_out s rs w.1).0, w.2);
      }

  closes_kept : (t : List ℕ) → Fit s rs → Kept (closes t)
  unfolding perform
  closes_kept t G = close_kept s rs F G (some_number s rs F O) (opened s rs F O)

  pub session_kept : Stays (session_step c chip rs)
  unfolding session_step
  session_kept =
      by_act c chip blk (look (post_in c chip).key rs) Kept
      (record {
        refused = λ n l. refuse_kept s rs F O n;
        close = λ e g.
            let left = holds (mac_counter ses + 2 =< key_limit ses) (search) in
            let n : Fact (unfit blk) → ⊥ = search in
            closes_kept _ (fit left n);
        abort = λ e. inside_kept s rs F O 0 no_attestation (λ r. zeros) none (refused s rs F O 0);
        puk = λ e g. puk_kept c chip rs F bytes O g _ _;
        policy = λ e g. policy_kept c chip rs F bytes O g _ _;
        key = λ e g. key_kept c chip rs F bytes O g _ _;
        path = λ e g.
            let left = holds (mac_counter ses + 1 =< key_limit ses) (search) in
            inside_kept s rs F O 0 no_attestation (λ r. only (is KEY (path_in c).key s) (certified (SHA256 (path_in c).first)) (advance s 0 1 r)) none
            (path_kept (path_in c).key s (SHA256 (path_in c).first) (length_hash (path_in c).first) rs F (λ x i k e.
            let r = next_range x (F.alone x i) k in
            (omega arith, rw (me s rs F O x i k e) left)));
        post = λ op name lo hi h g. post_kept c chip bytes rs F O op name lo hi g _ _;
      })
