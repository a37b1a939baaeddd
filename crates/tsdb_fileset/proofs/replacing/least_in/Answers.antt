use Rattle.std.proofs.Common.{drop, sym, ap, ◌∙◌}
use Rattle.tsdb_fileset.proofs.Replaced.{least_put, rest_of}
use Rattle.tsdb_fileset.specs.Replacing.{entry_borns, stamps_of}
use Rattle.tsdb_flush.specs.Least.{least_with}
use Rattle.tsdb_fileset.proofs.replacing.least_in.Goals as goal

pub returns : goal.returns
returns c = λ these is.
    c.least_of.ensures
    ∙ ap (λ rest. least_with c.least_and-least.result (entry_borns rest)) (rest_of c.args.run.end c.args.entries.now)
    ∙ ap (λ l. least_with l (entry_borns (drop c.args.run.end c.args.entries.now)))
    (c.least_and-least.ensures ∙ ap (λ l. least_with l (stamps_of c.args.born)) c.least_of-least.ensures)
    ∙ sym (least_put c.args.least c.args.run c.args.entries.now c.args.born these is)
