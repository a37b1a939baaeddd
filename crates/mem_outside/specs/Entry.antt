-- Stored files in memory, and what a stop leaves of them.
use Rattle.std.specs.Prelude.{◌≡◌, ℕ, ◌-◌, ◌/◌, Bool, true, false, ◌&&◌, ◌||◌, max, nat_eq, nat_le, nat_lt, List, [], ◌∷◌, ◌++◌, length}
use Rattle.std.specs.Prelude.{take, map, filter, None, Some, Vec}
use Rattle.mem_outside.specs.declared.record.StopKind.{StopKind}
use Rattle.mem_outside.specs.declared.record.StopKind.TheVariants.{Written, Unwritten, Scrambled}
use Rattle.std.specs.declared.option.Option.{Option}
use Rattle.std.specs.List.{fold}
use Rattle.std.specs.declared.alloc.Global.{Global}
use Rattle.tsdb_base.specs.declared.ids.FileNumber.{FileNumber}
use Rattle.std.specs.Arc.{arc_value}
use Rattle.tsdb_outside.specs.Files.{Store, StoredFile, NamedFile}
use Rattle.mem_outside.specs.declared.entry.StoredEntry.{StoredEntry}

-- the file of an entry
abbrev pub entry_file : StoredEntry → StoredFile
entry_file entry = record { number = entry.number; bytes = (arc_value entry.bytes).items }

-- a file that is handed in
abbrev pub handed_in : FileNumber × Vec ℕ Global → StoredFile
handed_in file = record { number = file.0.0; bytes = file.1.items }

-- the files of these entries
abbrev pub entry_files : List StoredEntry → List StoredFile
entry_files entries = map entry_file entries

-- what a token of this store with this node names
abbrev pub named_file : Store → List StoredEntry → NamedFile
named_file store [] = record { store = store; number = 0; bytes = None }
named_file store (entry ∷ rest) =
    record { store = store; number = entry.number; bytes = Some (arc_value entry.bytes).items }

-- it is not removed by the call at this place or an earlier one
abbrev pub is_kept_at : ℕ → Option ℕ → Bool
is_kept_at moment None = true
is_kept_at moment (Some at) = nat_lt moment at

-- a stop behind this many counted calls leaves it: it was put before, and not yet handed to `remove`
abbrev pub is_there : ℕ → StoredEntry → Bool
is_there moment entry = nat_le entry.put_at moment && is_kept_at moment entry.removed_at

-- the call that put it failed, and removed it again
abbrev pub failed_at : ℕ → Option ℕ → Bool
failed_at put None = false
failed_at put (Some at) = nat_eq at put

-- A stop of this kind behind this many counted calls leaves the file whole. One that leaves what was there before a write
-- leaves what was there before a removal, too, and the file of a put that failed.
abbrev pub is_left : StopKind → ℕ → StoredEntry → Bool
is_left Written moment entry = is_there moment entry
is_left Unwritten moment entry = nat_le entry.put_at moment
is_left Scrambled moment entry = is_there moment entry

-- a stop that scrambles leaves a part of the file: its put has failed, or is the next call
abbrev pub is_cut : StopKind → ℕ → StoredEntry → Bool
is_cut Written moment entry = false
is_cut Unwritten moment entry = false
is_cut Scrambled moment entry =
    nat_eq (entry.put_at - moment) 1 || nat_le entry.put_at moment && failed_at entry.put_at entry.removed_at

-- the first half of the file of an entry
abbrev pub half_file : StoredEntry → StoredFile
half_file entry = record {
  number = entry.number;
  bytes = take (length (arc_value entry.bytes).items / 2) (arc_value entry.bytes).items;
}

-- what such a stop leaves of these entries
abbrev pub files_left : StopKind → ℕ → List StoredEntry → List StoredFile
files_left kind moment entries =
    entry_files (filter (is_left kind moment) entries) ++ map half_file (filter (is_cut kind moment) entries)

-- the greatest place in the row that it has
abbrev pub later_place : ℕ → Option ℕ → ℕ
later_place put None = put
later_place put (Some at) = max put at

abbrev pub last_place : StoredEntry → ℕ
last_place entry = later_place entry.put_at entry.removed_at

-- the greatest place in the row of these entries, or 0
abbrev pub last_of : List StoredEntry → ℕ
last_of entries = fold (λ last entry. max last (last_place entry)) 0 entries

-- the entry, removed by the call at this place
abbrev pub removed : ℕ → StoredEntry → StoredEntry
removed at entry = record entry { removed_at = Some at }

-- the node of the first file with this number is taken out, and the others stay in their order
pub record TakesFileNode (number : ℕ) (node old new : List StoredEntry) : Type 0 where
  pub before : List StoredEntry
  pub entry : StoredEntry
  pub after : List StoredEntry
  pub node_is : node ≡ entry ∷ []
  pub number_is : entry.number ≡ number
  pub old_is : old ≡ before ++ entry ∷ after
  pub new_is : new ≡ before ++ after
