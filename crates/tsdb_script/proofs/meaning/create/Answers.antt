use Rattle.std.proofs.Common.{◌∷◌, [], inl}
use Rattle.tsdb_script.specs.Meaning.{SeriesPath, TypeName}
use Rattle.tsdb_script.proofs.WordLists.{bad_behind, passed_on}
use Rattle.tsdb_script.proofs.meaning.create.Goals as goal

pub returns-in_err-path-clause-bad : goal.returns-in_err-path-clause-bad
returns-in_err-path-clause-bad c = passed_on _ _ _ _ c.from_residual.ensures.1 c.in_err-path.ensures.bad (λ kind bad. inl (bad_behind [] _ _ kind tt bad))

pub returns-in_err-data_type-clause-bad : goal.returns-in_err-data_type-clause-bad
returns-in_err-data_type-clause-bad c =
    passed_on _ _ _ _ c.from_residual-in_err-data_type.ensures.1 c.in_err-data_type.ensures.bad
    (λ kind bad. inl (bad_behind (SeriesPath _ ∷ []) _ _ kind (c.in_ok-path.ensures.found.1, tt) bad))

pub returns-in_err-encoding-clause-bad : goal.returns-in_err-encoding-clause-bad
returns-in_err-encoding-clause-bad c =
    passed_on _ _ _ _ c.from_residual-in_err-encoding.ensures.1 c.in_err-encoding.ensures.bad
    (λ kind bad. inl (bad_behind (SeriesPath _ ∷ TypeName _ ∷ []) _ _ kind (c.in_ok-path.ensures.found.1, ((c.in_ok-data_type.data_type, c.in_ok-data_type.ensures.found), tt)) bad))
