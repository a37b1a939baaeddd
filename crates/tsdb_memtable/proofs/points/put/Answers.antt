use Rattle.std.proofs.lemmas.Grind.{common_steps}
use Rattle.std.proofs.Common.{rules, ◌≡◌, ◌≢◌, ◌<◌, List, take, drop, get_or, length, subst, sym, ap, set, ◌∙◌, arith}
use Rattle.std.proofs.lemmas.Int.{to_z-of_z}
use Rattle.std.proofs.lemmas.Bool.{false≢true}
use Rattle.std.proofs.lemmas.List.{get_or_default}
use Rattle.std.specs.Prelude.{FitsSigned}
use Rattle.std.specs.Int.{w64}
use Rattle.std.specs.List.{filter}
use Rattle.tsdb_base.specs.declared.point.Point.{Point}
use Rattle.tsdb_base.specs.Points.{IsRising}
use Rattle.tsdb_memtable.specs.Points.{is_before, with_point}
use Rattle.tsdb_memtable.specs.Steps.{is_from}
use Rattle.tsdb_memtable.proofs.PointLemmas.{with_point-inserted, with_point-replaced, with_point-rising}
use Rattle.tsdb_memtable.proofs.points.put.Goals as goal
use Rattle.tsdb_memtable.proofs.points.put.Goals.{Joined-replaced, In-Ok, else-at-len-via-then-at-len+else-is_at, else-at-len-via-else-at-len}

replaced : (c : Joined-replaced) → set c.args.points.now.items c.count_before-at.result c.replace-replaced.new.dest ≡ with_point c.args.point c.args.points.now.items
replaced c =
    let fits : FitsSigned w64 c.args.point.time = search rules in
    let is = c.as_slice.ensures.value in
    let front = c.count_before-at.ensures.front in
    let back = c.count_before-at.ensures.back in
    let at = c.count_before-at.result in
    let time = c.args.point.time in
    let Front : List Point → Type 0 = λ xs. take at xs ≡ filter (is_before time) xs in
    let Back : List Point → Type 0 = λ xs. drop at xs ≡ filter (is_from time) xs in
    let there = c.is_at.ensures.0 c.if-is_at.true in
    let within : at < length c.args.points.now.items = search rules in
    let here : c.index.result.now ≡ get_or c.args.points.now.items at c.args.point = search (rules, get_or_default) in
    ap (set c.args.points.now.items at) c.replace-replaced.ensures.after
    ∙ with_point-replaced c.args.point c.args.points.now.items at c.requires.rising within (subst Front is (simp to_z-of_z at front)) (subst Back is (simp to_z-of_z at back)) (ap (λ (p : Point). p.time) (sym here) ∙ simp to_z-of_z at there)

inserted : (c : In-Ok) → c.insert.new.self.items ≡ with_point c.args.point c.args.points.now.items
inserted c =
    let fits : FitsSigned w64 c.args.point.time = search rules in
    let is = c.as_slice.ensures.value in
    let front = c.count_before-at.ensures.front in
    let back = c.count_before-at.ensures.back in
    let at = c.count_before-at.result in
    let time = c.args.point.time in
    let items = c.args.points.now.items in
    let Front : List Point → Type 0 = λ xs. take at xs ≡ filter (is_before time) xs in
    let Back : List Point → Type 0 = λ xs. drop at xs ≡ filter (is_from time) xs in
    let none : at < length items → (get_or items at c.args.point).time ≢ time = λ lt same.
    elim c.else-at-len.branch [
      | else-at-len-via-then-at-len+else-is_at w ↦
          let here = w.index.ensures ∙ get_or_default items at w.index.result.now c.args.point lt in
          let tells = simp to_z-of_z at w.is_at.ensures in
          false≢true (sym w.if-is_at.false ∙ tells.1 (ap (λ (p : Point). p.time) here ∙ same))
      | else-at-len-via-else-at-len w ↦ absurd (omega (arith, w.if-at-len.false, c.len.ensures))
    ]
    in
    c.in-Ok.ensures.items ∙ with_point-inserted c.args.point items at c.requires.rising (search rules) (subst Front is (simp to_z-of_z at front)) (subst Back is (simp to_z-of_z at back)) none

pub returns-then-is_at-clause-items : goal.returns-then-is_at-clause-items
returns-then-is_at-clause-items c = replaced c

pub returns-then-is_at-clause-rising : goal.returns-then-is_at-clause-rising
returns-then-is_at-clause-rising c = subst IsRising (sym (replaced c)) (with_point-rising c.args.point c.args.points.now.items c.requires.rising)

pub returns-clause-items : goal.returns-clause-items
returns-clause-items c = inserted c

pub returns-clause-rising : goal.returns-clause-rising
returns-clause-rising c = subst IsRising (sym (inserted c)) (with_point-rising c.args.point c.args.points.now.items c.requires.rising)

pub returns-then-is_at-clause-bytes : goal.returns-then-is_at-clause-bytes
returns-then-is_at-clause-bytes c = grind (arith, common_steps)
