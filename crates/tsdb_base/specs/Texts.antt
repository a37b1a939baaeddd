-- How the bytes of a text are kept: a few in the text itself, more in a list.
use Rattle.std.specs.Prelude.{ℕ, ◌≤◌, List, length, take}
use Rattle.tsdb_base.specs.Limits.{max_text_bytes}
use Rattle.tsdb_base.specs.declared.text.Bytes.{Bytes}
use Rattle.tsdb_base.specs.declared.text.Bytes.TheVariants as kept

abbrev pub bytes_kept : Bytes → List ℕ
bytes_kept (kept.Short len room) = take len room
bytes_kept (kept.Long bytes) = bytes.items

abbrev pub IsKeptText : Bytes → Type 0
IsKeptText (kept.Short len room) = len ≤ 22
IsKeptText (kept.Long bytes) = length bytes.items ≤ max_text_bytes
