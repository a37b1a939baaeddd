use Rattle.std.proofs.Common.{◌∙◌, subst, sym}
use Rattle.tsdb_run.proofs.Ends.{calm, ends_script, memory_no_source}
use Rattle.tsdb_run.proofs.PutLemmas.{memory_is_no_failure, same_error}
use Rattle.tsdb_run.specs.Steps.{EndsInput}
use Rattle.tsdb_run.specs.declared.status.Status.TheVariants.{Memory, Source}
use Rattle.tsdb_script.specs.Reading.{RefusesScript}
use Rattle.tsdb_run.proofs.input.read_input.Goals as goal

pub returns-in_default-clause-status : goal.returns-in_default-clause-status
returns-in_default-clause-status g c = λ good. c.in_default.ensures.none good.0 good.1

pub returns-clause-status : goal.returns-clause-status
returns-clause-status g c =
    let left = g.S.Source.left c.args.script.now in
    subst (EndsInput c.args.words.now left) (sym c.status_of.ensures)
    (ends_script c.args.words.now left (g.S.Source.left c.take_script.new.script) c.in-Ok.bytes.items c.in-Err.fault
    (c.in-Some.asked, c.in-Some.ensures.found) c.in-Ok.ensures.script
    (subst (λ bytes. RefusesScript bytes c.in-Err.fault) c.deref.ensures.value c.in-Err.ensures.bad))

pub returns-in-Err-Memory-clause-source : goal.returns-in-Err-Memory-clause-source
returns-in-Err-Memory-clause-source g c =
    calm Source Memory _ _ memory_no_source (c.in-Err-Memory.ensures.count
    (λ failed. memory_is_no_failure (sym c.in-Err-Memory.field-0-is ∙ same_error _ failed)))
