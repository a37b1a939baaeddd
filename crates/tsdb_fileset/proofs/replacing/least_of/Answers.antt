use Rattle.std.proofs.Common.{◌+◌, ◌∙◌, Some, drop, map, refl, sym, ap}
use Rattle.tsdb_fileset.proofs.Replaced.{least_end, least_next}
use Rattle.tsdb_flush.specs.Least.{least_with}
use Rattle.tsdb_plan.specs.declared.entry.FileEntry.{FileEntry}
use Rattle.tsdb_fileset.proofs.replacing.least_of.Goals as goal

pub loop-entry-init : goal.loop-entry-init
loop-entry-init c = record { rest = refl }

pub loop-entry-preserved : goal.loop-entry-preserved
loop-entry-preserved c = record {
  rest = ap (λ s. least_with (Some s) (map (λ (e : FileEntry). e.born.0)
      (drop (c.loop-entry.entry-index + 1) c.args.entries.now))) c.lesser.ensures
      ∙ sym (least_next c.args.entries.now c.loop-entry.entry-index c.entry-item.result c.loop-entry.least
      c.loop-entry-test.true c.entry-item.is)
      ∙ c.loop-entry.invariant.rest;
}

pub returns : goal.returns
returns c = sym (least_end c.args.entries.now c.loop-entry.entry-index c.loop-entry.least c.loop-entry-test.false)
    ∙ c.loop-entry.invariant.rest
