use Rattle.std.proofs.Common.{◌≡◌, ◌++◌, take}
use Rattle.std.specs.List.{filter}
use Rattle.tsdb_marks.specs.Model.{is_mark_of, versions_of}
use Rattle.tsdb_marks.proofs.marks.push_versions.Given as goal

abbrev pub invariant-loop-mark : goal.invariant-loop-mark
invariant-loop-mark l = l.versions.items ≡ l.fn.versions.items ++ versions_of (filter (is_mark_of l.series) (take l.mark-index l.marks))
