use Rattle.std.proofs.Common.{◌≡◌, take}
use Rattle.std.specs.Prelude.{All, FitsSigned}
use Rattle.std.specs.Int.{w64}
use Rattle.tsdb_pages.specs.Pages.{times_of as times_in}
use Rattle.tsdb_pages.proofs.body.times_of.Given as goal

abbrev pub invariant-loop-point : goal.invariant-loop-point
invariant-loop-point l = record { same : l.times.items ≡ times_in (take l.point-index l.points); fit : All (FitsSigned w64) l.times.items }
