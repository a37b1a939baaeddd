use Rattle.std.proofs.Common.{◌≡◌, ◌++◌, length, take}
use Rattle.std.specs.Vec.Iter.{into_iter_items}
use Rattle.tsdb_pages.specs.Pages.{times_of as times_in, values_of as values_in}
use Rattle.tsdb_pages.proofs.body.join.Given as goal

abbrev pub invariant-loop-value : goal.invariant-loop-value
invariant-loop-value l = record {
  times : times_in l.points.items ≡ take (length l.points.items) l.times.items;
  values : values_in l.points.items ++ into_iter_items l.value-iterator ≡ l.fn.values.items;
}
