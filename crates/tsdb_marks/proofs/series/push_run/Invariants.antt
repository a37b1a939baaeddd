use Rattle.std.proofs.Common.{◌≡◌, ℕ, ◌<◌, max, map, vec_len, vec_capacity}
use Rattle.std.specs.List.{All}
use Rattle.tsdb_marks.specs.Steps.{IsMarkRun, newest_at, steps_of, version_at}
use Rattle.tsdb_marks.proofs.series.push_run.Given as goal

abbrev pub invariant-loop-last : goal.invariant-loop-last
invariant-loop-last l = record {
  room : vec_len l.runs < vec_capacity l.runs;
  good : All IsMarkRun l.runs.items;
  last : IsMarkRun l.run;
  same : (moment : ℕ) → max (newest_at (map steps_of l.runs.items) moment) (version_at (steps_of l.run) moment)
      ≡ max (newest_at (map steps_of l.fn.runs.items) moment) (version_at (steps_of l.fn.run) moment);
}

abbrev pub decreases-loop-last : goal.decreases-loop-last
decreases-loop-last l = vec_len l.runs
