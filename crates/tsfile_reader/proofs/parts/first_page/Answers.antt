use Rattle.std.proofs.Common.{refl, sym, subst, rules}
use Rattle.tsfile_reader.specs.Page.{AreGood}
use Rattle.tsfile_reader.proofs.Later.{first_read, sum_in}
use Rattle.tsfile_reader.proofs.parts.first_page.Goals as goal

pub returns : goal.returns
returns c = λ t e page same good.
    let stats = c.in_ok-stats.stats in
    first_read c.args.version t e c.args.place page c.args.points.now _ (record { place = c.args.place; stats = c.in_ok-copy.field-0 }) same good c.in_ok-stats.ensures.found
    (sum_in c.args.version t c.args.points.now stats good.0 c.in_ok-stats.ensures.sum) refl c.in_ok-copy.ensures (search rules)
