-- The order of the series of a tree: by the bytes of the device, and then by those of the measurement.
use Rattle.std.specs.Prelude.{◌≡◌, ◌⊎◌, ℕ, cond, nat_lt, List, [], ◌∷◌, length}
use Rattle.std.specs.Cmp.Lexicographic.{slice_cmp}
use Rattle.std.specs.List.{AllAdjacentBelow}
use Rattle.std.specs.Ordering.{nat_cmp, on, ordering_then, then_cmp}
use Rattle.std.specs.declared.cmp.Ordering.{Ordering}
use Rattle.std.specs.declared.cmp.Ordering.TheVariants.{Less}
use Rattle.tsdb_base.specs.Lists.{EachPair}
use Rattle.tsdb_path.specs.Nodes.{child_of, device_of, measurement_of, node_count}

-- how names stand to other names, the devices first
abbrev pub names_cmp : List ℕ × List ℕ → List ℕ × List ℕ → Ordering
names_cmp a b = ordering_then (slice_cmp nat_cmp a.0 b.0) (slice_cmp nat_cmp a.1 b.1)

-- the device comes first in the order of bytes, and for one device the measurement does
abbrev pub AreNamesBefore : List ℕ × List ℕ → List ℕ × List ℕ → Type 0
AreNamesBefore a b = (slice_cmp nat_cmp a.0 b.0 ≡ Less) ⊎ ((a.0 ≡ b.0) × (slice_cmp nat_cmp a.1 b.1 ≡ Less))

-- the names of each item come before those of each later one
abbrev pub AreInNameOrder : {A : Type 0} → (A → List ℕ × List ℕ) → List A → Type 0
AreInNameOrder names items = EachPair (λ a b. AreNamesBefore (names a) (names b)) items

-- the names by which a tree is ordered, the device's and the measurement's; a path of one node is a device by itself
abbrev pub tree_names : List ℕ → List ℕ × List ℕ
tree_names path = cond (nat_lt (node_count path) 2) (path, []) (device_of path, measurement_of path)

-- the path with these names: a device alone, where the measurement is empty
abbrev pub joined_names : List ℕ → List ℕ → List ℕ
joined_names device [] = device
joined_names device (byte ∷ name) = child_of device (byte ∷ name)

-- how a path stands to another in the order of a tree: by the bytes of the device, and then by those of the measurement
abbrev pub tree_cmp : List ℕ → List ℕ → Ordering
tree_cmp = then_cmp (on (λ path. (tree_names path).0) (slice_cmp nat_cmp))
    (on (λ path. (tree_names path).1) (slice_cmp nat_cmp))

-- each path comes before the next
abbrev pub AreInTreeOrder : List (List ℕ) → Type 0
AreInTreeOrder paths = AllAdjacentBelow (λ path next. tree_cmp path next ≡ Less) paths (length paths)
