use Rattle.std.proofs.Common.{not, rules, subst, sym}
use Rattle.std.proofs.lemmas.Map.Made.{map_same_pairs, filter_same_pairs}
use Rattle.tsdb_marks.specs.Index.{at}
use Rattle.tsdb_marks.specs.Series.{SeriesMarks, DropsOld, has_none, without_old}
use Rattle.tsdb_marks.proofs.IndexLemmas.{dropped_at}
use Rattle.tsdb_marks.proofs.RunLemmas.{drops_old}
use Rattle.tsdb_marks.proofs.index.Index.drop_old.Goals as goal

pub returns : goal.returns
returns c = λ path.
    let mapped = map_same_pairs _ (without_old c.args.version) _ (λ k v b w f' t. search rules) _ _ c.retain.ensures.filtered in
    let full = filter_same_pairs _ (λ e. not (has_none e.1)) _ (λ k v b w f' t. search rules) _ _ c.retain-2.ensures.filtered in
    let P : SeriesMarks → Type 0 = λ s. DropsOld (at c.args.self.now.series.entries path) s c.args.version in
    subst P (sym (dropped_at c.args.version path _ _ _ mapped full c.retain.ensures.ordered)) (drops_old c.args.version (at c.args.self.now.series.entries path))
