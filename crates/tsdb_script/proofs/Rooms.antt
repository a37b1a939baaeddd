-- How many bytes a device leaves for the name of a measurement.
use Rattle.std.proofs.Common.{◌≡◌, ℕ, ◌-◌, ◌<◌, ◌≤◌, List, [], ◌∷◌, length, arith, length-append}
use Rattle.std.specs.Prelude.{◌↔◌, All, map}
use Rattle.std.specs.List.{AllByRecursion, flat_map}
use Rattle.std.proofs.lemmas.List.Elements.{All-head, All-tail, All-cons, All-nil}
use Rattle.tsdb_path.specs.Nodes.{dot, IsName, IsPath, child_of, node_count}
use Rattle.tsdb_path.proofs.Bytes.{IsNode-dotless}
use Rattle.tsdb_path.proofs.Parts.{IsPath-child, node_count-child, parts_from_path}
use Rattle.tsdb_script.specs.Types.{SyntaxColumn}
use Rattle.tsdb_script.specs.Meaning.{IsGood, Node, aggregate_role, column_role}
use Rattle.tsdb_script.proofs.WordLists.{AllByRecursion-split}

-- a device has this room: its child of a name is a path exactly where the name has no more bytes
abbrev pub HasRoom : List ℕ → ℕ → Type 0
HasRoom device room = (name : List ℕ) → IsName name → IsPath (child_of device name) ↔ (length name ≤ room)

pub has_room : (device : List ℕ) (room : ℕ) → IsPath device → node_count device < 16 → room ≡ 254 - length device → HasRoom device room
has_room device room path few is = λ name named.
    let long = length-append device (dot ∷ name) in (
      (λ child. omega (arith, long, child.1.short)),
      (λ short. IsPath-child device name path named.node few (omega (arith, long, named.node.some))),
    )

pub has_no_room : (device : List ℕ) → 16 ≤ node_count device → HasRoom device 0
has_no_room device full = λ name named. (
  (λ child. absurd (omega (arith, node_count-child device name (IsNode-dotless name named.node), (parts_from_path (child_of device name) child).few))),
  (λ short. absurd (omega (arith, named.node.some))),
)

abbrev pub IsShort : ℕ → SyntaxColumn → Type 0
IsShort room column = length column.measurement ≤ room

-- the measurements of all columns are short exactly where the device takes them
pub all_fit : (device : List ℕ) (room : ℕ) (columns : List SyntaxColumn) → HasRoom device room → AllByRecursion IsGood (flat_map column_role columns)
    → All (IsShort room) columns ↔ AllByRecursion (λ name. IsPath (child_of device name)) (map (λ column. column.measurement) columns)
all_fit device room [] fits good = ((λ short. tt), (λ all. All-nil (IsShort room)))
all_fit device room (column ∷ columns) fits good =
    let parts = AllByRecursion-split IsGood (column_role column) (flat_map column_role columns) good in
    let named : IsName column.measurement = (AllByRecursion-split IsGood (aggregate_role column.aggregate) (Node column.measurement ∷ []) parts.0).1.0 in
    let rest = all_fit device room columns fits parts.1 in (
      (λ short. ((fits column.measurement named).1 (All-head (IsShort room) column columns short), rest.0 (All-tail (IsShort room) column columns short))),
      (λ all. All-cons (IsShort room) column columns ((fits column.measurement named).0 all.0) (rest.1 all.1)),
    )
