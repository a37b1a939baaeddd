use Rattle.std.proofs.Common.{◌≡◌, ◌-◌, ◌*◌, ◌^◌, ◌<◌, ◌++◌, take}
use Rattle.tsdb_bits.specs.Leb.{leb}
use Rattle.tsdb_bits.proofs.leb.write_groups.Given as goal

abbrev pub invariant-loop-i : goal.invariant-loop-i
invariant-loop-i l = record {
  small : l.rest < 2 ^ (64 - 7 * l.i);
  groups : take l.i l.room ++ leb l.rest ≡ leb l.value;
}
