-- The clauses of a call's form, by name: of methods 2, 8, 9 and 10, whose fields go into new records.
use mathlib.Core.Path.{◌≡◌}
use mathlib.Core.Bool.{true}
use mathlib.Core.List.{List}
use Prim.Native.Nat.{ℕ, ◌+◌, ◌≤◌}
use native.Mathlib.Omega.{arith}
use lib.ListN.{length}
use Rattle.paper.specs.Limits.{longest_id, longest_pin, longest_public_key, key_bytes}
use Rattle.paper.specs.Bytes.{byte, two, string_at, behind}
use Rattle.paper.specs.Form.{Fact}
use Rattle.paper.specs.Table.{printable}
use Rattle.paper.specs.Calls.{id_at, privacy_at, server_at, ephemeral_at, issuer_at, management_at, times_at, create_form, behind_id, puk_form, policy_form, seed_at, policy_at, flags_at, friendly_at, key_algorithm_at, parameters_at, key_form}
use Rattle.laws.proofs.CallStrings.{behind-is}

-- an ID that stands at place k
pub record IdClauses (k : ℕ) (c : List ℕ) : Type 0 where
  pub least : 1 ≤ two k c
  pub most : two k c ≤ longest_id
  pub prints : printable (string_at k c) ≡ true
  pub ends : behind k c ≤ length c

id_clauses : (k : ℕ) (c : List ℕ) → Fact (id_at k c) → behind k c ≤ length c → IdClauses k c
id_clauses k c w e = record { least = w.0.0; most = w.0.1; prints = w.1; ends = e }

module _ (c chip : List ℕ) where
  pub record CreateClauses : Type 0 where
    pub privacy : byte (privacy_at c) c ≤ 1
    pub server : IdClauses (server_at c) c
    pub ends : times_at c + 10 ≡ length c
    pub client : IdClauses key_bytes chip
    pub key : key_bytes ≤ length chip

  pub create_clauses : Fact (create_form c chip) → CreateClauses
  create_clauses (f, (s, (a, (b, (d, (e, (i, z))))))) =
      let b1 = behind-is (ephemeral_at c) c in
      let b2 = behind-is (issuer_at c) c in
      let b3 = behind-is (management_at c) c in
      let b4 = behind-is key_bytes chip in
      record { privacy = f; server = id_clauses (server_at c) c s (omega arith); ends = e; client = id_clauses key_bytes chip i (omega arith); key = omega arith }

  pub record PukClauses : Type 0 where
    pub id : IdClauses 5 c
    -- the opened value
    pub least : 1 ≤ length chip
    pub most : length chip ≤ longest_pin

  pub puk_clauses : Fact (puk_form c chip) → PukClauses
  puk_clauses (i, (a, (e, (l, m)))) = let b = behind-is (behind_id c) c in record { id = id_clauses 5 c i (omega arith); least = l; most = m }

  pub record PolicyClauses : Type 0 where
    pub id : IdClauses 5 c
    pub defined : byte (behind_id c + 4) c ≤ 1
    pub modifiable : byte (behind_id c + 5) c ≤ 1

  pub policy_clauses : Fact (policy_form c chip) → PolicyClauses
  policy_clauses (i, (d, (m, (e, z)))) = record { id = id_clauses 5 c i (omega arith); defined = d; modifiable = m }

  pub record KeyClauses : Type 0 where
    pub id : IdClauses 5 c
    pub caching : byte (flags_at c) c ≤ 1
    -- the public key, of the chip
    pub least : 1 ≤ two 0 chip
    pub most : two 0 chip ≤ longest_public_key
    pub public : behind 0 chip ≤ length chip

  pub key_clauses : Fact (key_form c chip) → KeyClauses
  key_clauses (i, (s, (v, (f, (n, (p, (e, (k, (o, z))))))))) =
      let b1 = behind-is (behind_id c) c in
      let b2 = behind-is (seed_at c) c in
      let b3 = behind-is (policy_at c + 4) c in
      let b4 = behind-is (friendly_at c) c in
      let b5 = behind-is (key_algorithm_at c) c in
      let b6 = behind-is (parameters_at c) c in
      let b7 = behind-is (behind 0 chip) chip in
      record { id = id_clauses 5 c i (omega arith); caching = f; least = k.0; most = k.1; public = omega arith }
