-- What the tokens of files in memory say.
use Rattle.std.specs.Prelude.{◌≡◌, ℕ, List, [], ◌∷◌, length, true, Some}
use Rattle.std.specs.Arc.{arc_value}
use Rattle.std.proofs.Common.{arith}
use Rattle.tsdb_outside.specs.Files.{NamedFile, Store, Tells}
use Rattle.mem_outside.specs.declared.entry.StoredEntry.{StoredEntry}
use Rattle.mem_outside.specs.declared.entry.MemSealed.{MemSealed}
use Rattle.mem_outside.specs.declared.entry.MemRight.{MemRight}
use Rattle.mem_outside.specs.Entry.{named_file}

-- the store that was taken up from this directory, which tells what its files hold
abbrev pub store_of : List ℕ → Store
store_of directory = record { directory = directory; tells = true }

-- the node of the record of the file
abbrev pub sealed_node : MemSealed → List StoredEntry
sealed_node sealed = sealed.node

-- the store of the file
abbrev pub sealed_store : MemSealed → Store
sealed_store sealed = store_of (arc_value sealed.directory).items

-- the file that it names
abbrev pub sealed_file : MemSealed → NamedFile
sealed_file sealed = named_file (sealed_store sealed) sealed.node

-- how many rights are out
abbrev pub sealed_rights : MemSealed → ℕ
sealed_rights sealed = sealed.rights

-- a token with one node tells its bytes
pub tells_node : (store : Store) (node : List StoredEntry) → length node ≡ 1 → store.tells ≡ true
    → Tells (named_file store node)
tells_node store [] one told = let no_node : ⊥ = omega (arith, one) in absurd no_node
tells_node store (entry ∷ rest) one told = told

-- the bytes that may be read
abbrev pub right_bytes : MemRight → List ℕ
right_bytes right = (arc_value right.bytes).items

-- the file that may be read
abbrev pub right_file : MemRight → NamedFile
right_file right = record {
  store = store_of (arc_value right.directory).items;
  number = right.number;
  bytes = Some (right_bytes right);
}
