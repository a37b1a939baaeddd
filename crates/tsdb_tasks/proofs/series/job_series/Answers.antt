use Rattle.std.proofs.Common.{List, ℕ, ap, map, ◌∙◌}
use Rattle.std.specs.List.{filter, flat_map}
use Rattle.tsdb_tasks.proofs.Schemas.{of_job}
use Rattle.tsdb_tasks.specs.Series.{input_path, run_paths, schemas_at}
use Rattle.tsdb_tasks.specs.declared.series.InputSeries.{InputSeries}
use Rattle.tsdb_marks.specs.Lists.{Marks, is_of}
use Rattle.tsdb_tasks.proofs.series.job_series.Goals as goal

pub returns : goal.returns
returns g c =
    let store = c.args.memory.now in
    let series = c.in_ok-series.series.items in
    of_job (run_paths c.args.runs c.args.files.now) store series _ c.sound.ensures c.in_ok-series.ensures.all
    c.in_ok-series.ensures.order
    (c.in_ok-only.ensures ∙ ap (λ (ps : List (List ℕ)). filter (is_of ps) c.marks.result.now.marks)
    (c.as_slice-2.ensures.value ∙ c.in_ok-paths.ensures ∙ ap (map input_path) c.as_slice.ensures.value)
    ∙ ap (λ (m : Marks). filter (is_of (map input_path series)) m.marks) c.marks.ensures)
    (c.in_ok-schemas_of.ensures ∙ ap (flat_map (λ (one : InputSeries). schemas_at store.series (input_path one)))
    c.as_slice-3.ensures.value)
