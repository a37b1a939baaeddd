use Rattle.std.proofs.Common.{◌≡◌, ◌-◌, take, length}
use Rattle.std.specs.List.{filter}
use Rattle.tsdb_marks.specs.Model.{has_version}
use Rattle.tsdb_marks.proofs.marks.Marks.only.Given as goal

abbrev pub invariant-loop-place : goal.invariant-loop-place
invariant-loop-place l = l.only.marks ≡ filter (has_version (take l.place l.versions.items)) l.self.marks

abbrev pub decreases-loop-place : goal.decreases-loop-place
decreases-loop-place l = length l.versions.items - l.place
