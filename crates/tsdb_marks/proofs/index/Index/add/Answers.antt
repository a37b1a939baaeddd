use Rattle.std.proofs.Common.{◌≡◌, List, ℕ, Option, Some, refl, ap, sym, subst, ◌∙◌}
use Rattle.std.specs.Prelude.{IsSome}
use Rattle.std.specs.Map.{lookup}
use Rattle.std.proofs.lemmas.Result.{on_err_weaker}
use Rattle.tsdb_marks.specs.Series.{SeriesMarks}
use Rattle.tsdb_marks.specs.Index.{at, is_path}
use Rattle.tsdb_marks.proofs.IndexLemmas.{at_other, at_same}
use Rattle.tsdb_marks.proofs.index.Index.add.Goals as goal

pub returns-in-Some-clause-others : goal.returns-in-Some-clause-others
returns-in-Some-clause-others c = λ other ne.
    let P : Option SeriesMarks → Type 0 = λ o. IsSome o in
    let had : IsSome (lookup (is_path c.args.path.now) c.args.self.now.series.entries) = subst P c.in-Some.ensures.value refl in
    let updates = (c.get_mut.follows.holds c.add.new.self).3 had in
    at_other c.args.path.now other (is_path c.args.path.now other) _ _ c.add.new.self refl ne (updates.0 other)

pub returns-in-Some-clause-memory : goal.returns-in-Some-clause-memory
returns-in-Some-clause-memory c = on_err_weaker c.add.result (λ kept. λ other.
    let P : Option SeriesMarks → Type 0 = λ o. IsSome o in
    let had : IsSome (lookup (is_path c.args.path.now) c.args.self.now.series.entries) = subst P c.in-Some.ensures.value refl in
    let updates = (c.get_mut.follows.holds c.add.new.self).3 had in
    let Q : List ℕ → Type 0 = λ path. lookup (is_path path) c.args.self.now.series.entries ≡ Some c.add.new.self in
    let here : Q c.args.path.now = sym c.in-Some.ensures.value ∙ ap Some (sym kept) in
    at_same c.args.path.now other (is_path c.args.path.now other) _ _ c.add.new.self refl (λ same. subst Q same here) (updates.0 other)) c.add.ensures.memory

pub returns-clause-others : goal.returns-clause-others
returns-clause-others c = λ other ne.
    at_other c.in_ok-copy.field-0 other (is_path c.in_ok-copy.field-0 other) _ _ _ refl (λ e. ne (sym c.in_ok-copy.ensures ∙ e)) (c.in_ok-insert.ensures.updates.0 other)
    ∙ ap (λ m. at m.entries other) c.get_mut.follows.holds-at-none
