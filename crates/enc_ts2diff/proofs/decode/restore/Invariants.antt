use Rattle.std.proofs.Common.{◌≡◌, ◌++◌, ◌∷◌, List, ℤ, take, drop}
use Rattle.enc_ts2diff.specs.Steps.{Continues, Restores}
use Rattle.enc_ts2diff.proofs.decode.restore.Given as goal

abbrev pub invariant-loop-offset : goal.invariant-loop-offset
invariant-loop-offset l = record {
  restores : Restores l.base l.first l.previous (take l.offset-index l.above) l.values.items;
  follows : (values : List ℤ) → Continues l.base l.first l.above values → (rest : List ℤ) × Continues l.base l.previous (drop l.offset-index l.above) rest × (l.first ∷ values ≡ l.values.items ++ rest);
}
