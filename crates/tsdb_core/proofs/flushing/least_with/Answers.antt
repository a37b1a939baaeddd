use Rattle.std.proofs.Common.{Some, subst, sym, ◌∙◌}
use Rattle.tsdb_base.specs.declared.ids.Stamp.{Stamp}
use Rattle.tsdb_core.proofs.Oldest.{least_with_job, least_without, not_none}
use Rattle.tsdb_core.specs.Ending.{IsLeastWith}
use Rattle.tsdb_core.proofs.flushing.least_with.Goals as goal

pub returns : goal.returns
returns c borns is = subst (λ (s : Stamp). IsLeastWith (Some s) c.args.job.now borns) (sym c.lesser.ensures)
    (least_with_job c.args.least c.args.job.now borns (not_none c.count_drawn.result _ c.count_drawn.ensures c.if-count_drawn-eq0.false)
    is)

pub returns-then-count_drawn-eq0 : goal.returns-then-count_drawn-eq0
returns-then-count_drawn-eq0 c borns is =
    least_without c.args.least c.args.job.now borns (sym c.count_drawn.ensures ∙ c.if-count_drawn-eq0.true) is
