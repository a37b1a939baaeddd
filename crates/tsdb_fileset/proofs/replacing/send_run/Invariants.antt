use Rattle.std.proofs.Common.{◌≡◌, ◌+◌, ◌≤◌, ◌++◌, map, take}
use Rattle.std.specs.Vec.{vec_capacity, vec_len}
use Rattle.tsdb_fileset.specs.Replacing.{leaving}
use Rattle.tsdb_fileset.proofs.replacing.send_run.Given as goal

abbrev pub invariant-loop-entry : goal.invariant-loop-entry
invariant-loop-entry l = record {
  items : l.outgoing.items ≡ l.initial.outgoing.items ++ map leaving (take l.entry-index l.entries);
  len : vec_len l.outgoing ≡ vec_len l.initial.outgoing + l.entry-index;
  capacity : vec_capacity l.initial.outgoing ≤ vec_capacity l.outgoing;
}
