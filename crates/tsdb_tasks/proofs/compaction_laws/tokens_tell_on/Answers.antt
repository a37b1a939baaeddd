use Rattle.std.proofs.Common.{refl, ap, ◌∙◌}
use Rattle.tsdb_tasks.proofs.InState.{file_changed}
use Rattle.tsdb_tasks.proofs.Telling.{tell_on, tell_with}
use Rattle.tsdb_tasks.specs.Inputs.{input_numbers}
use Rattle.tsdb_fileset.specs.Files.{kept_file}
use Rattle.tsdb_fileset.specs.Places.{file_at, place_of_number}
use Rattle.tsdb_base.specs.Lists.{count}
use Rattle.tsdb_pin.specs.Changes.{fewer_rights, more_rights}
use Rattle.tsdb_tasks.proofs.compaction_laws.tokens_tell_on.Goals as goal

pub returns-clause-begun : goal.returns-clause-begun
returns-clause-begun g c = λ space output runs old new kept tells begun.
    tell_on kept old new (λ n. more_rights (count n (input_numbers c.args._taken.now.inputs))) (λ n file. refl)
    (λ n. ap (kept_file n) begun.claimed ∙ begun.all.more.files n) tells

pub returns-clause-given_up : goal.returns-clause-given_up
returns-clause-given_up g c = λ old new kept told file tells output up.
    tell_with kept told old new c.args._job.now.output.0 file
    (λ n. fewer_rights (count n (input_numbers c.args._job.now.inputs))) (λ n one. refl) output up.here
    (λ n apart. ap file_at (up.others n apart)
    ∙ file_changed (fewer_rights (count n (input_numbers c.args._job.now.inputs))) (place_of_number n old.places)) tells

pub returns-clause-finished : goal.returns-clause-finished
returns-clause-finished g c = λ runs old new kept told file tells output up.
    tell_with kept told old new c.args._job.now.output.0 file
    (λ n. fewer_rights (count n (input_numbers c.args._job.now.inputs))) (λ n one. refl) output up.here
    (λ n apart. ap file_at (up.others n apart)
    ∙ file_changed (fewer_rights (count n (input_numbers c.args._job.now.inputs))) (place_of_number n old.places)) tells
