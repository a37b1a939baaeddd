use Rattle.std.proofs.Common.{◌≡◌, ◌++◌, ◌≤◌, length, take, drop, replicate, vec_len}
use Rattle.std.specs.Prelude.{map}
use Rattle.std.specs.List.{flat_map}
use Rattle.enc_rle.specs.Spelling.{maximal_runs, run_bytes, spelling}
use Rattle.enc_rle.proofs.encode.append.Given as goal

abbrev pub invariant-loop-value : goal.invariant-loop-value
invariant-loop-value g l = record {
  few : l.count ≤ l.value-index;
  to_come : l.into.items ++ flat_map run_bytes (maximal_runs (replicate l.count l.last ++ map g.T.Coded.code_of (drop l.value-index l.values))) ≡ l.fn.into.items ++ spelling g.T.Coded.code_of l.values;
  longer : length l.fn.into.items ≤ length l.into.items;
  kept : take (vec_len l.fn.into) l.into.items ≡ l.fn.into.items;
}
