-- What a draft holds, and the record that it comes to.
use Rattle.std.specs.Prelude.{◌≡◌, List, ◌++◌, ℕ, ◌-◌, length, take}
use Rattle.paper.specs.Limits.{record_bytes}
use Rattle.paper.specs.Bytes.{zeros_of}
use Rattle.paper.specs.Form.{Rec}
use Rattle.store_draft.specs.declared.Draft.TheInside.{Inside}

-- The bytes laid in a record: its first 256, or all of them with zeros behind.
unfoldable pub laid : List ℕ → Rec
laid w = take record_bytes w ++ zeros_of (record_bytes - length w)

-- What a record has room for of the bytes w.
unfoldable pub kept : List ℕ → List ℕ
kept w = take record_bytes w

-- The draft holds the bytes w, and the next goes behind them, or is left out behind the record.
pub record Drafts (d : Inside) (w : List ℕ) : Type 0 where
  pub bytes : d.bytes ≡ laid w
  pub next : d.at ≡ length (take record_bytes w)

-- What a caller sees of a draft: the bytes before the place of the next.
abbrev pub held : Inside → List ℕ
held d = take d.at d.bytes
