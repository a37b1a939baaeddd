use Rattle.std.proofs.Common.{◌≡◌, sym, ◌∙◌, subst, rules, w64, to_z, of_z}
use Rattle.std.specs.Prelude.{IfOk}
use Rattle.std.proofs.lemmas.Int.{to_z-of_z}
use Rattle.tsdb_map.proofs.PointLemmas.{get-series, lt-bits, within-before, within-behind, within-there}
use Rattle.tsdb_map.proofs.series.Series.value_at.Goals as goal

pub returns-then-time-from : goal.returns-then-time-from
returns-then-time-from c =
    let from : to_z w64 (of_z w64 c.args.range.now.from) ≡ c.args.range.now.from = to_z-of_z w64 c.args.range.now.from (search rules) in
    let time : to_z w64 (of_z w64 c.args.time) ≡ c.args.time = to_z-of_z w64 c.args.time c.ranges.time in
    sym (within-before c.args.range.now c.args.self.now.points c.args.time (lt-bits c.args.time c.args.range.now.from _ _ _ time from c.if-time-from.true))

pub returns-then-to-time : goal.returns-then-to-time
returns-then-to-time c =
    let to : to_z w64 (of_z w64 c.args.range.now.to) ≡ c.args.range.now.to = to_z-of_z w64 c.args.range.now.to (search rules) in
    let time : to_z w64 (of_z w64 c.args.time) ≡ c.args.time = to_z-of_z w64 c.args.time c.ranges.time in
    sym (within-behind c.args.range.now c.args.self.now.points c.args.time (lt-bits c.args.range.now.to c.args.time _ _ _ to time c.if-to-time.true))

pub returns : goal.returns
returns c =
    let from : to_z w64 (of_z w64 c.args.range.now.from) ≡ c.args.range.now.from = to_z-of_z w64 c.args.range.now.from (search rules) in
    let to : to_z w64 (of_z w64 c.args.range.now.to) ≡ c.args.range.now.to = to_z-of_z w64 c.args.range.now.to (search rules) in
    let time : to_z w64 (of_z w64 c.args.time) ≡ c.args.time = to_z-of_z w64 c.args.time c.ranges.time in
    subst (λ o. IfOk c.copy_option.result (λ v. v ≡ o))
    (c.get.ensures.value ∙ get-series _ c.self.inside.points c.args.self.now c.args.time _ c.self.view_is time
    ∙ sym (within-there c.args.range.now c.args.self.now.points c.args.time
    (lt-bits c.args.time c.args.range.now.from _ _ _ time from c.if-time-from.false) (lt-bits c.args.range.now.to c.args.time _ _ _ to time c.if-to-time.false)))
    c.copy_option.ensures
