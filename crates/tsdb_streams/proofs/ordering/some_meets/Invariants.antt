use Rattle.std.proofs.Common.{◌≡◌, false, map, take}
use Rattle.tsdb_streams.specs.Clean.{any_meets}
use Rattle.tsdb_streams.specs.Cleaning.{page_times}
use Rattle.tsdb_streams.proofs.ordering.some_meets.Given as goal

abbrev pub invariant-loop-page : goal.invariant-loop-page
invariant-loop-page l = any_meets l.times (map page_times (take l.page-index l.pages)) ≡ false
