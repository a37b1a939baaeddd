use Rattle.std.proofs.Common.{◌∷◌, [], inl}
use Rattle.tsdb_script.specs.Meaning.{SeriesPath}
use Rattle.tsdb_script.proofs.WordLists.{bad_behind, bad_later, passed_on}
use Rattle.tsdb_script.proofs.meaning.delete.Goals as goal

pub returns-in_err-series-clause-bad : goal.returns-in_err-series-clause-bad
returns-in_err-series-clause-bad c = passed_on _ _ _ _ c.from_residual.ensures.1 c.in_err-series.ensures.bad (λ kind bad. inl (bad_behind [] _ _ kind tt bad))

pub returns-in_err-range-clause-bad : goal.returns-in_err-range-clause-bad
returns-in_err-range-clause-bad c =
    let bad = rw c.items.ensures at c.in_err-range.ensures.bad in
    passed_on _ _ _ _ c.from_residual-in_err-range.ensures.1 bad (λ kind bad. inl (bad_later (SeriesPath _ ∷ []) _ kind (c.in_ok-series.ensures.found.1, tt) bad))
