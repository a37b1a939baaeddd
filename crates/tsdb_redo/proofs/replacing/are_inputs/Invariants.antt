use Rattle.std.specs.Prelude.{◌↔◌, drop}
use Rattle.tsdb_redo.specs.Lists.{AreInputs}
use Rattle.tsdb_redo.proofs.replacing.are_inputs.Given as goal

abbrev pub invariant-loop-place : goal.invariant-loop-place
invariant-loop-place l = record {
  rest : AreInputs l.files l.numbers l.born ↔ AreInputs (drop l.place l.files) (drop l.place l.numbers) l.born;
}
