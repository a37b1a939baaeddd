use Rattle.std.specs.List.{AllWithin}
use Rattle.tsdb_plan.specs.Steps.{Reaches}
use Rattle.tsdb_plan.proofs.cross_plan.first_reaching.Given as goal

abbrev pub invariant-loop-place : goal.invariant-loop-place
invariant-loop-place l = AllWithin (λ file. Reaches file.hulls l.hulls → ⊥) l.files 0 l.place
