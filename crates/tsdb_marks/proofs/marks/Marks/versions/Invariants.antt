use Rattle.std.proofs.Common.{◌≡◌, take}
use Rattle.tsdb_marks.proofs.OnlyLemmas.{versions_in}
use Rattle.tsdb_marks.proofs.marks.Marks.versions.Given as goal

abbrev pub invariant-loop-path : goal.invariant-loop-path
invariant-loop-path l = l.versions.items ≡ versions_in (take l.path-index l.series) l.self.marks
