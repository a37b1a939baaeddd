use Rattle.std.proofs.Common.{◌≡◌, ◌∙◌, ◌++◌, ◌∷◌, ◌-◌, [], List, length, take, map, subst, sym, ap, arith}
use Rattle.std.specs.List.{All}
use Rattle.std.proofs.lemmas.List.Elements.{All-get_or, All-push, All-take}
use Rattle.tsdb_marks.specs.declared.run.Run.{Run}
use Rattle.tsdb_marks.specs.Steps.{IsMarkRun, newest_at, steps_of}
use Rattle.tsdb_marks.proofs.RunLemmas.{last_split, newest_runs}
use Rattle.tsdb_marks.proofs.series.push_run.Goals as goal

pub merge-requires-clause-first : goal.merge-requires-clause-first
merge-requires-clause-first c =
    let item = c.in-Some.ensures.item in
    let runs = c.deref.result.now in
    let all : All IsMarkRun runs = subst (All IsMarkRun) (sym c.deref.ensures.value) c.loop-last.invariant.good in
    subst IsMarkRun (sym item.1) (All-get_or IsMarkRun runs (length runs - 1) c.in-Some.last.now (omega (arith, item.3.0)) all)

pub loop-last-preserved : goal.loop-last-preserved
loop-last-preserved c =
    let item = c.in-Some.ensures.item in
    let runs = c.deref.result.now in
    let items = c.loop-last.runs.items in
    let front : c.pop.new.self.items ≡ take (length runs - 1) runs =
    c.pop.ensures.rest ∙ ap (λ n. take (n - 1) items) (sym c.deref.ensures.len) ∙ ap (λ (xs : List Run). take (length runs - 1) xs) (sym c.deref.ensures.value)
    in
    let split : items ≡ c.pop.new.self.items ++ c.in-Some.last.now ∷ [] = sym c.deref.ensures.value ∙ last_split runs c.pop.new.self.items c.in-Some.last.now item.3.0 item.1 front in
    record {
      room = omega (arith, c.pop.ensures.len, c.pop.ensures.capacity, c.loop-last.invariant.room);
      good = rw c.pop.ensures.rest (All-take IsMarkRun _ items c.loop-last.invariant.good);
      last = c.in-Ok.ensures.run;
      same = λ m.
          let was = c.loop-last.invariant.same m in
          let now = ap (λ (xs : List Run). newest_at (map steps_of xs) m) split ∙ newest_runs c.pop.new.self.items c.in-Some.last.now m in
          let one = c.in-Ok.ensures.versions m in
          omega (arith, was, now, one);
    }

pub returns-clause-runs : goal.returns-clause-runs
returns-clause-runs c = rw c.in-Ok-push.ensures.items (All-push IsMarkRun c.loop-last.runs.items c.loop-last.run c.loop-last.invariant.good c.loop-last.invariant.last)

pub returns-clause-moments : goal.returns-clause-moments
returns-clause-moments c = λ m. ap (λ (xs : List Run). newest_at (map steps_of xs) m) c.in-Ok-push.ensures.items ∙ newest_runs c.loop-last.runs.items c.loop-last.run m ∙ c.loop-last.invariant.same m
