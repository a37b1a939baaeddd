-- What the laws of the plain model speak of.
use Rattle.std.specs.Prelude.{◌≡◌, ◌⊎◌, ℕ, List, [], ◌∷◌}
use Rattle.tsdb_model.specs.declared.command.Cell.{Cell}
use Rattle.tsdb_path.specs.Nodes.{child_of}

-- a path is that of one of the cells
abbrev pub IsCellPath : List ℕ → List Cell → List ℕ → Type 0
IsCellPath device [] path = ⊥
IsCellPath device (cell ∷ cells) path = (path ≡ child_of device cell.measurement) ⊎ IsCellPath device cells path
