use Rattle.std.proofs.Common.{◌≡◌, map, take}
use Rattle.std.specs.List.{AllByRecursion}
use Rattle.tsdb_script.specs.Meaning.{IsGood, Measurement}
use Rattle.tsdb_script.proofs.meaning.measurements.Given as goal

abbrev pub invariant-loop-word : goal.invariant-loop-word
invariant-loop-word l = record {
  found : l.names.items ≡ take l.word-index l.words;
  good : AllByRecursion IsGood (map (Measurement l.device) (take l.word-index l.words));
}
