-- One field written behind another.
use Rattle.std.proofs.Common.{◌≡◌, ℕ, List, ◌++◌, Ok, Err, ap, ◌∙◌, append_assoc}
use Rattle.std.specs.Prelude.{Result, OnOk, OnErr}
use Rattle.tsdb_base.specs.Growth.{GrewByPrefix}
use Rattle.tsdb_base.proofs.GrowthLemmas.{grew_behind}

pub both_written : {T E : Type 0} (result : Result T E) (old first second middle new : List ℕ) → middle ≡ old ++ first → OnOk result (new ≡ middle ++ second) → OnOk result (new ≡ old ++ (first ++ second))
both_written (Ok x) old first second middle new before behind = behind ∙ ap (λ (l : List ℕ). l ++ second) before ∙ append_assoc old first second
both_written (Err y) old first second middle new before behind = behind

pub second_cut : {T E : Type 0} (result : Result T E) (old first second middle new : List ℕ) → middle ≡ old ++ first → OnErr result (GrewByPrefix middle second new) → OnErr result (GrewByPrefix old (first ++ second) new)
second_cut (Ok x) old first second middle new before behind = behind
second_cut (Err y) old first second middle new before behind = grew_behind old first second middle new before behind
