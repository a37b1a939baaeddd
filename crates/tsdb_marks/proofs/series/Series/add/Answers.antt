use Rattle.std.proofs.Common.{sym, subst}
use Rattle.std.specs.List.{All}
use Rattle.tsdb_marks.specs.declared.series.Series.TheInside.{Inside}
use Rattle.tsdb_marks.specs.Steps.{IsMarkRun}
use Rattle.tsdb_marks.proofs.series.Series.add.Goals as goal
use Rattle.tsdb_marks.proofs.series.Series.add.Goals.{then-from-to+in_ok-run, else-from-to}

pub invariant_of-self-in_err-reserve-2 : goal.invariant_of-self-in_err-reserve-2
invariant_of-self-in_err-reserve-2 c = record { runs = subst (All IsMarkRun) (sym c.reserve-2.ensures.items) c.self.invariant.runs }

pub invariant_of-self-in_err-run : goal.invariant_of-self-in_err-run
invariant_of-self-in_err-run c = record { runs = subst (All IsMarkRun) (sym c.reserve-2.ensures.items) c.self.invariant.runs }

pub push_run-requires-clause-runs : goal.push_run-requires-clause-runs
push_run-requires-clause-runs c = subst (All IsMarkRun) (sym c.reserve-2.ensures.items) c.self.invariant.runs

pub invariant_of-self-2 : goal.invariant_of-self-2
invariant_of-self-2 c =
    let P : Inside → Type 0 = λ i. All IsMarkRun i.runs.items in
    record {
      runs = elim c.if-from-to.branch [
        | then-from-to+in_ok-run w ↦ subst P (sym w.self-inside-is) w.push_run.ensures.runs
        | else-from-to w ↦ subst P (sym w.self-inside-is) (subst (All IsMarkRun) (sym c.reserve-2.ensures.items) c.self.invariant.runs)
      ];
    }
