use Rattle.std.proofs.Common.{◌≡◌, ℕ, ap, subst, ◌∙◌, rules}
use Rattle.std.specs.Prelude.{FitsSigned}
use Rattle.std.specs.Int.{w64}
use Rattle.std.proofs.lemmas.Int.{to_z-of_z}
use Rattle.std.proofs.lemmas.Result.{on_ok_weaker}
use Rattle.tsdb_marks.specs.Index.{at}
use Rattle.tsdb_marks.specs.Moments.{moment}
use Rattle.tsdb_marks.specs.Series.{AddsMark}
use Rattle.tsdb_marks.proofs.ModelLemmas.{exact_added}
use Rattle.tsdb_marks.proofs.marks.index_mark.Goals as goal

pub returns-clause-added : goal.returns-clause-added
returns-clause-added c =
    let mark = c.args.mark.now in
    let from : FitsSigned w64 mark.from = search rules in
    let to : FitsSigned w64 mark.to = search rules in
    let f : c.moment-from.result ≡ moment mark.from = c.moment-from.ensures ∙ ap moment (to_z-of_z w64 mark.from from) in
    let t : c.moment-to.result ≡ moment mark.to = c.moment-to.ensures ∙ ap moment (to_z-of_z w64 mark.to to) in
    let old = at c.args.index.now.series.entries mark.path in
    let new = at c.add.new.self.series.entries mark.path in
    on_ok_weaker c.add.result (λ adds. λ marks floor exact.
    let there = subst (λ (x : ℕ). AddsMark old new x (moment mark.to) mark.version.0) f (subst (λ (y : ℕ). AddsMark old new c.moment-from.result y mark.version.0) t adds) in
    exact_added marks mark floor c.args.index.now.series.entries c.add.new.self.series.entries exact there c.add.ensures.others) c.add.ensures.added
