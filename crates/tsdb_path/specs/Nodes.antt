-- What a node, a name and a path are, as facts on bytes. Nothing here scans: a path is what some list of
-- nodes makes when it is joined by dots, and `parts` is that list, read back from the bytes.
use Rattle.std.specs.Prelude.{◌≡◌, ℕ, ◌-◌, ◌<◌, ◌≤◌, ◌==◌, ◌||◌, Bool, IsTrue, List, [], ◌∷◌, ◌++◌, length, take, codes}
use Rattle.std.specs.Prelude.{slice_index_or, All}
use Rattle.std.specs.Char.{is_ascii_alphanumeric, is_ascii_digit}
use Rattle.std.specs.List.{join_with_byte, slice_split}

-- the dot between nodes
abbrev pub dot : ℕ
dot = 46

-- an ASCII letter, an ASCII digit or `_`
abbrev pub is_node_byte : ℕ → Bool
is_node_byte b = is_ascii_alphanumeric b || b == 95

-- a byte of a node, or a dot
abbrev pub is_path_byte : ℕ → Bool
is_path_byte b = is_node_byte b || b == dot

-- one or more ASCII letters, digits and `_`, not all of them digits
pub record IsNode (bytes : List ℕ) : Type 0 where
  pub some : 0 < length bytes
  pub letters : All (λ b. IsTrue (is_node_byte b)) bytes
  pub not_digits : ¬ All (λ b. IsTrue (is_ascii_digit b)) bytes

-- a node of at most 255 bytes
pub record IsName (bytes : List ℕ) : Type 0 where
  pub node : IsNode bytes
  pub short : length bytes ≤ 255

-- the first node is `root`
abbrev pub IsRooted : List (List ℕ) → Type 0
IsRooted [] = ⊥
IsRooted (first ∷ others) = first ≡ codes "root"

-- these bytes are these nodes, joined by dots: 1 to 16 nodes, the first of them `root`, and at most 255 bytes
pub record IsPathOf (nodes : List (List ℕ)) (bytes : List ℕ) : Type 0 where
  pub rooted : IsRooted nodes
  pub good : All IsNode nodes
  pub few : length nodes ≤ 16
  pub bytes_are : join_with_byte dot nodes ≡ bytes
  pub short : length bytes ≤ 255

-- some list of nodes makes these bytes
abbrev pub IsPath : List ℕ → Type 0
IsPath bytes = (nodes : List (List ℕ)) × IsPathOf nodes bytes

-- the parts between the dots, in order: of a path its nodes
abbrev pub parts : List ℕ → List (List ℕ)
parts bytes = slice_split (λ b. b == dot) bytes

-- how many nodes a path has
abbrev pub node_count : List ℕ → ℕ
node_count bytes = length (parts bytes)

-- all nodes but the last, joined by dots
abbrev pub device_of : List ℕ → List ℕ
device_of bytes = join_with_byte dot (take (node_count bytes - 1) (parts bytes))

-- the last node
abbrev pub measurement_of : List ℕ → List ℕ
measurement_of bytes = slice_index_or (parts bytes) (node_count bytes - 1) []

-- the bytes of a path with one node more
abbrev pub child_of : List ℕ → List ℕ → List ℕ
child_of path name = path ++ dot ∷ name
