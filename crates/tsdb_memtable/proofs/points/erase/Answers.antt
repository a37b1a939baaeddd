use Rattle.std.proofs.Common.{rules, ◌≡◌, length, ap, subst, sym, ◌∙◌, arith, refl}
use Rattle.std.specs.List.{filter}
use Rattle.std.specs.Prelude.{◌<ℤ◌}
use Rattle.std.proofs.lemmas.Fn.{filter_same}
use Rattle.std.proofs.lemmas.List.Filters.{sum_by-filter_both}
use Rattle.std.proofs.lemmas.List.Kept.{AllPairs-filter}
use Rattle.tsdb_base.specs.declared.point.Point.{Point}
use Rattle.tsdb_base.specs.Points.{IsRising}
use Rattle.tsdb_memtable.specs.Points.{is_outside, is_point_within, point_bytes, counted_bytes}
use Rattle.tsdb_memtable.proofs.PointLemmas.{none-within}
use Rattle.tsdb_memtable.proofs.points.erase.Goals as goal

kept : (c : goal.After-retain) → c.retain.new.self.items ≡ filter (is_outside c.args.range.now) c.args.points.now.items
kept c = filter_same _ (is_outside c.args.range.now) _ (λ x b f' t. search rules) c.args.points.now.items c.retain.new.self.items c.retain.ensures.filtered

pub bytes_of-bytes-requires : goal.bytes_of-bytes-requires
bytes_of-bytes-requires c =
    let items = c.args.points.now.items in
    let found = ap counted_bytes (c.slice-within.ensures ∙ ap (filter (is_point_within c.args.range.now)) c.as_slice.ensures.value) in
    let both = sum_by-filter_both (is_point_within c.args.range.now) (is_outside c.args.range.now) (λ _. refl) point_bytes items in
    omega (arith, found, both, c.requires.most)

pub returns-then-is_empty-clause-items : goal.returns-then-is_empty-clause-items
returns-then-is_empty-clause-items c =
    let found = c.slice-within.ensures ∙ ap (filter (is_point_within c.args.range.now)) c.as_slice.ensures.value in
    let none : length c.slice-within.result.now ≡ 0 = search rules in
    sym (none-within c.args.range.now c.args.points.now.items (sym (ap length found) ∙ none))

pub returns-clause-items : goal.returns-clause-items
returns-clause-items c = kept c

pub returns-clause-rising : goal.returns-clause-rising
returns-clause-rising c = subst IsRising (sym (kept c)) (AllPairs-filter (λ (a b : Point). a.time <ℤ b.time) (is_outside c.args.range.now) c.args.points.now.items c.requires.rising)

pub returns-clause-bytes : goal.returns-clause-bytes
returns-clause-bytes c =
    let items = c.args.points.now.items in
    let found = c.bytes_of-bytes.ensures ∙ ap counted_bytes (c.slice-within.ensures ∙ ap (filter (is_point_within c.args.range.now)) c.as_slice.ensures.value) in
    let both = sum_by-filter_both (is_point_within c.args.range.now) (is_outside c.args.range.now) (λ _. refl) point_bytes items in
    omega (arith, found, both, ap counted_bytes (kept c))
