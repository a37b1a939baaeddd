use Rattle.std.proofs.Common.{rules, ◌≡◌, length, sym, ◌∙◌}
use Rattle.std.specs.Prelude.{IfSome}
use Rattle.tsdb_base.specs.Points.{IsRising}
use Rattle.tsdb_merge.proofs.SourceLemmas.{count_is, lists_rising}
use Rattle.tsdb_merge.proofs.merge.Merge.new.Goals as goal

pub returns-clause-merged : goal.returns-clause-merged
returns-clause-merged g c = λ lists told.
    let each : (p : g.row.P.Denot) → IfSome (g.P.Points.left p) IsRising = λ p. search rules in
    let both = lists_rising g.P.Points.left c.args.sources.items lists each told in
    let long : c.len.result ≡ length c.args.sources.items = c.len.ensures ∙ count_is c.args.sources in
    rw told (c.in_ok-lazy.ensures.merged lists (both.1 ∙ sym long) both.0)
