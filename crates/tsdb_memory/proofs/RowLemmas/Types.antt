-- Bytes that are no path are those of no series.
use Rattle.std.proofs.Common.{◌≡◌, ◌∙◌, ℕ, List, Option, Some, None, map, refl, subst}
use Rattle.std.specs.Prelude.{All}
use Rattle.tsdb_model.specs.declared.command.Schema.{Schema}
use Rattle.tsdb_memory.proofs.Numbers.{schema_at}
use Rattle.tsdb_memory.proofs.Raises.{all_at}
use Rattle.tsdb_memory.proofs.Types.{type_found, type_of_number}
use Rattle.tsdb_memory.specs.Model.{IsFormed}
use Rattle.tsdb_memory.specs.StateOfMemory.{series_entry, number_of}
use Rattle.tsdb_path.specs.Nodes.{IsPath}
use Rattle.tsdb_state.specs.Worlds.{type_at}

pub no_path : (series : List Schema) (path : List ℕ) → All IsFormed series → ¬ IsPath path
    → type_at (map series_entry series) path ≡ None
no_path series path formed bad = type_found series path ∙ by (number_of series path) refl
  where
    by : (o : Option ℕ) → number_of series path ≡ o → type_of_number series o ≡ None
    by None e = refl
    by (Some n) e =
        let found = schema_at series path n e in
        absurd (bad (subst IsPath found.of_path (all_at IsFormed series n found.schema formed found.at).path))
