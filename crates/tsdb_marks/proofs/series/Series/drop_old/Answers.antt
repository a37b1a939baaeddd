use Rattle.std.proofs.Common.{◌≡◌, ◌∙◌, List, map, ap, rules}
use Rattle.std.specs.Prelude.{ℕ, nat_lt}
use Rattle.std.proofs.lemmas.Fn.{filter_same}
use Rattle.std.proofs.lemmas.List.Elements.{All-filter}
use Rattle.tsdb_marks.specs.declared.run.Run.{Run}
use Rattle.tsdb_marks.specs.declared.run.Step.{Step}
use Rattle.tsdb_marks.specs.Series.{SeriesMarks, without_old}
use Rattle.tsdb_marks.specs.Steps.{IsMarkRun, steps_of}
use Rattle.tsdb_marks.proofs.RunLemmas.{told_newest}
use Rattle.tsdb_marks.proofs.series.Series.drop_old.Goals as goal

pub invariant_of-self : goal.invariant_of-self
invariant_of-self c =
    let kept = filter_same _ (λ (r : Run). nat_lt c.args.version r.newest) _ (λ x b f' t. search rules) c.self.inside.runs.items c.retain-2.new.self.items c.retain-2.ensures.filtered in
    record { runs = rw kept (All-filter (λ (r : Run). nat_lt c.args.version r.newest) IsMarkRun c.self.inside.runs.items c.self.invariant.runs) }

pub returns : goal.returns
returns c =
    let kept = filter_same _ (λ (r : Run). nat_lt c.args.version r.newest) _ (λ x b f' t. search rules) c.self.inside.runs.items c.retain-2.new.self.items c.retain-2.ensures.filtered in
    let versions = filter_same _ (nat_lt c.args.version) _ (λ x b f' t. search rules) c.self.inside.versions.items c.retain.new.self.items c.retain.ensures.filtered in
    let runs = ap (λ (rs : List Run). map steps_of rs) kept ∙ told_newest c.args.version c.self.inside.runs.items c.self.invariant.runs in
    let made : List ℕ → List (List Step) → SeriesMarks = λ vs rs. record { versions = vs; runs = rs } in
    let same : made c.retain.new.self.items (map steps_of c.retain-2.new.self.items) ≡ without_old c.args.version (made c.self.inside.versions.items (map steps_of c.self.inside.runs.items)) = cc (versions, runs) in
    same ∙ ap (without_old c.args.version) c.self.view_is
