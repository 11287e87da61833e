-- A lent store as its records: the place of a record, and what its bytes are once its records are others.
use Rattle.std.specs.Prelude.{cond, ◌≡◌, List, [], ◌∷◌, ◌++◌, ℕ, suc, ◌*◌, ◌/◌, length, drop}
use Rattle.std.specs.declared.slice.ChunksExact.{ChunksExact}
use Rattle.std.specs.Slice.Iter.{chunks_exact_rest, chunks_exact_size}
use Rattle.paper.specs.Limits.{record_bytes}
use Rattle.paper.specs.Form.{Rec, Form, test}
use Rattle.paper.specs.Records.{records, joined}

-- The place of the first record of which a statement holds, or the number of records.
unfoldable pub index : (Rec → Form) → List Rec → ℕ
index φ [] = 0
index φ (r ∷ rs) = cond (test (φ r)) 0 (suc (index φ rs))

-- A store of any length is its whole records and then a rest of fewer than 256 bytes, which nothing ever writes.
unfoldable pub rest : List ℕ → List ℕ
rest s = drop (record_bytes * (length s / record_bytes)) s

unfoldable pub remade : List Rec → List ℕ → List ℕ
remade rs s = joined rs ++ rest s

-- The store s has become t: its records are rs now, and its rest is what it was. The second line says that they are whole records.
pub record Becomes (rs : List Rec) (s t : List ℕ) : Type 0 where
  pub bytes : t ≡ remade rs s
  pub view : records t ≡ rs

-- An iterator that gives the records of the store s, from the first to the last: 256 bytes at a time, with nothing taken yet.
abbrev pub Shows : ChunksExact ℕ → List ℕ → Type 0
Shows it s = (chunks_exact_rest it ≡ s) × (chunks_exact_size it ≡ record_bytes)
