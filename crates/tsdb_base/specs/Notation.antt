-- How scripts and the output write an aggregate, and a text between quotes.
use Rattle.std.specs.Prelude.{ℕ, ◌==◌, List, [], ◌∷◌, codes, if◌then◌else◌}
use Rattle.std.specs.List.{flat_map}
use Rattle.tsdb_base.specs.declared.answers.Aggregate.{Aggregate}
use Rattle.tsdb_base.specs.declared.answers.Aggregate.TheVariants.{Count, FirstValue, LastValue, MinValue, MaxValue}
use Rattle.tsdb_base.specs.declared.answers.Aggregate.TheVariants.{MinTime, MaxTime, Sum}

-- the name of an aggregate
abbrev pub aggregate_name : Aggregate → List ℕ
aggregate_name Count = codes "count"
aggregate_name FirstValue = codes "first_value"
aggregate_name LastValue = codes "last_value"
aggregate_name MinValue = codes "min_value"
aggregate_name MaxValue = codes "max_value"
aggregate_name MinTime = codes "min_time"
aggregate_name MaxTime = codes "max_time"
aggregate_name Sum = codes "sum"

-- the bytes of a text's content, with each quote doubled
abbrev pub escape : ℕ → List ℕ → List ℕ
escape quote content = flat_map (λ b. if b == quote then b ∷ b ∷ [] else b ∷ []) content
