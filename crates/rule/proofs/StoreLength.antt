-- No call changes the number of records.
use mathlib.Core.Path.{◌≡◌, refl, ◌∙◌}
use mathlib.Core.List.{List, map}
use mathlib.Core.Option.{Option, none, some as just}
use Prim.Native.Nat.{ℕ}
use lib.ListN.{length}
use Rattle.paper.specs.Form.{Rec, only}
use Rattle.paper.specs.Records.{bears, zeros}
use Rattle.paper.specs.Calls.{subject, create_in}
use Rattle.paper.specs.Pin.{puk_hit}
use Rattle.paper.specs.Closing.{closing}
use Rattle.paper.specs.Act.{Out, plain, Act, refuse, inside, close, placed, fits_in, wiped, perform}
use Rattle.paper.specs.Posting.{target}
use Rattle.paper.specs.Sessions.{create_faults, counted, create_session}
use Rattle.paper.specs.Users.{policy_of, puk_of}
use Rattle.paper.specs.Answer.{session_step, step}
use Rattle.paper.proofs.Forms.{settled}
use Rattle.laws.proofs.Choice.{chosen}
use Rattle.laws.proofs.Inserting.{length-insert}
use Rattle.laws.proofs.Lists.{length-map}
use Rattle.laws.proofs.Methods.{by_user, by_step}

module _ (rs : List Rec) where
  abbrev Same : Out → Type 0
  Same o = length o.store ≡ length rs

  length-placed : (new : Option Rec) (l : List Rec) → length (placed new l) ≡ length l
  length-placed none l = refl
  length-placed (just r) l = length-insert r l

  perform-length : (s : ℕ) (a : Act) → Same (perform s a rs)
  unfolding perform
  perform-length s (refuse n) = length-map (only (bears s) (λ r. zeros)) rs
  perform-length s (close t) = length-map (closing s rs) rs
  perform-length s (inside h t edit new) =
      chosen Same (fits_in new rs) (record { status = 0; handle = h; attestation = t; store = placed new (map (only (bears s) edit) rs) })
      (wiped s 2 rs)
      (λ e. length-placed new (map (only (bears s) edit) rs) ∙ length-map (only (bears s) edit) rs) (λ e. length-map (only (bears s) (λ r. zeros)) rs)

  mapped : (f : Rec → Rec) → length (map f rs) ≡ length rs
  mapped f = length-map f rs

  pub step-length : (c chip : List ℕ) → Same (step c chip rs)
  unfolding session_step create_session
  step-length c chip =
      by_step c chip rs Same
      (record {
        session = λ e. perform-length (subject c) _;
        create = settled Same (create_faults c chip (create_in c chip) rs) (λ n. plain n rs) _ (λ n. refl) (λ g. length-insert _ (map counted rs) ∙ mapped counted);
        user = by_user c chip rs Same
            (record {
              stays = λ n. refl;
              pin_wrong = λ a l. mapped _;
              puk_wrong = λ l. mapped _;
              removes = mapped _;
              removes_by_puk = length-map _ (map (puk_hit puk) rs) ∙ mapped (puk_hit puk);
              unlocks = mapped _;
              changes = λ g. mapped _;
              uses = mapped _;
            });
      })
    where
      puk : Rec
      puk = puk_of (policy_of (target (subject c) rs) rs) rs
