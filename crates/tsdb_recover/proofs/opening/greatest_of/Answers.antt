use Rattle.std.proofs.Common.{◌∙◌}
use Rattle.tsdb_recover.proofs.Greatest.{last_greatest}
use Rattle.tsdb_recover.proofs.opening.greatest_of.Goals as goal

pub returns : goal.returns
returns c = last_greatest c.args.numbers.now c.copied.result (c.copied.ensures ∙ c.last.ensures.value) c.requires
