use Rattle.std.proofs.Common.{◌+◌, ◌∙◌, Some, drop, refl, sym, ap}
use Rattle.tsdb_memory.specs.Least.{least_with}
use Rattle.tsdb_redo.proofs.Leasts.{at_end, at_next}
use Rattle.tsdb_redo.specs.Lists.{borns_of_files, listed_files}
use Rattle.tsdb_redo.proofs.lists.least_with.Goals as goal

pub loop-file-init : goal.loop-file-init
loop-file-init c = record { rest = refl }

pub loop-file-preserved : goal.loop-file-preserved
loop-file-preserved c = record {
  rest = ap (λ s. least_with (Some s) (borns_of_files (listed_files (drop (c.loop-file.file-index + 1) c.args.files.now))))
      c.lesser.ensures
      ∙ sym (at_next c.args.files.now c.loop-file.file-index _ c.loop-file.least c.loop-file-test.true)
      ∙ c.loop-file.invariant.rest;
}

pub returns : goal.returns
returns c = sym (at_end c.args.files.now c.loop-file.file-index c.loop-file.least c.loop-file-test.false)
    ∙ c.loop-file.invariant.rest
