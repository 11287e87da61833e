-- What a MAC under way stands for: its key, and the bytes taken since the start.
use Rattle.std.specs.Prelude.{List, ◌++◌, ℕ}
use Rattle.sha256.specs.State.{Stands, resumed}
use Rattle.hmac.specs.declared.Mac.{Mac}
use Rattle.hmac.specs.Hmac.{xored, key_block}

pub record Keyed (s : Mac) (k text : List ℕ) : Type 0 where
  pub inner : Stands s.inner (xored 0x36 (key_block k) ++ text)
  pub outer : Stands (resumed s.outer) (xored 0x5c (key_block k))
