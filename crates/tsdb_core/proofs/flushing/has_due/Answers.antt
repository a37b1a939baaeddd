use Rattle.std.proofs.Common.{ap, sym, ◌∙◌}
use Rattle.std.specs.Option.{option_copied}
use Rattle.tsdb_core.proofs.Oldest.{due_pair, none_due}
use Rattle.tsdb_core.proofs.flushing.has_due.Goals as goal

pub returns-in-Some : goal.returns-in-Some
returns-in-Some c = due_pair c.args.frozen.now c.in-Some.oldest.now c.born.result.0 c.args.upto.0 c.is_reached.result
    (sym (ap option_copied c.in-Some.is) ∙ c.first.ensures.value) c.born.ensures c.is_reached.ensures

pub returns-in-None : goal.returns-in-None
returns-in-None c = none_due c.args.frozen.now c.args.upto.0 (sym (ap option_copied c.in-None.is) ∙
    c.first.ensures.value)
