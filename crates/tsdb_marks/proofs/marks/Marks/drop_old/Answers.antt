use Rattle.std.proofs.Common.{◌≡◌, ℕ, ◌<◌, ap, sym, subst, ◌∙◌, rules, arith, List, length, take, ◌-◌, refl, zero, suc, vec_len}
use Rattle.std.proofs.lemmas.Bool.{eqb-false}
use Rattle.std.specs.List.{filter}
use Rattle.std.proofs.lemmas.List.Elements.{All-filter}
use Rattle.std.proofs.lemmas.Fn.{filter_same}
use Rattle.std.proofs.lemmas.List.Kept.{AllPairs-filter}
use Rattle.tsdb_marks.specs.declared.marks.Mark.{Mark}
use Rattle.tsdb_marks.specs.Model.{HasTimes, IsIndexOf}
use Rattle.tsdb_marks.specs.Lists.{Marks, is_newer_than}
use Rattle.tsdb_marks.proofs.ModelLemmas.{exact_dropped, floor_kept, prefix_kept, kept_few}
use Rattle.tsdb_marks.proofs.marks.Marks.drop_old.Goals as goal

by_zero : (n : ℕ) → (n ≡ 0 → ⊥) → 0 < n
by_zero zero h = absurd (h refl)
by_zero (suc n) h = omega arith

pub returns-then-is_empty-clause-marks : goal.returns-then-is_empty-clause-marks
returns-then-is_empty-clause-marks c =
    let kept = filter_same _ (is_newer_than c.args.version) _ (λ x b f' t. search rules) c.self.inside.marks.items c.retain.new.self.items c.retain.ensures.filtered in
    kept ∙ ap (λ (v : Marks). filter (is_newer_than c.args.version) v.marks) c.self.view_is

pub invariant_of-self-2 : goal.invariant_of-self-2
invariant_of-self-2 c =
    let old = c.self.inside in
    let v = c.args.version in
    let marks = old.marks.items in
    let new = c.retain.new.self.items in
    let kept : new ≡ filter (is_newer_than v) marks = filter_same _ (is_newer_than v) _ (λ x b f' t. search rules) marks new c.retain.ensures.filtered in
    let len = ap (λ (ms : List Mark). length ms) kept in
    let fewer : c.saturating_sub-self-inside.result ≡ old.indexed - (length marks - length (filter (is_newer_than v) marks)) =
    omega (arith, len, c.saturating_sub-self-inside.ensures, c.len.ensures, c.len-count.ensures, old.marks.ok, c.retain.new.self.ok)
    in
    let full = eqb-false (vec_len c.retain.new.self) 0 (sym c.is_empty.ensures ∙ c.if-is_empty.false) in
    let some : 0 < length (filter (is_newer_than v) marks) = by_zero _ (λ none. full (omega (arith, len, none, c.retain.new.self.ok))) in
    let prefix = prefix_kept v old.indexed c.saturating_sub-self-inside.result marks c.self.invariant.rising fewer in
    let Exact : List Mark → Type 0 = λ ms. IsIndexOf ms c.max-self-inside.result c.drop_old.new.self.series.entries in
    record {
      times = rw kept (All-filter (is_newer_than v) HasTimes marks c.self.invariant.times);
      rising = rw kept (AllPairs-filter (λ (a b : Mark). a.version.0 < b.version.0) (is_newer_than v) marks c.self.invariant.rising);
      indexed = omega (arith, fewer, len, c.self.invariant.indexed, kept_few v marks);
      exact = subst Exact (sym (ap (take c.saturating_sub-self-inside.result) kept ∙ prefix))
          (exact_dropped v old.floor c.max-self-inside.result (take old.indexed marks) old.index.series.entries c.drop_old.new.self.series.entries c.max-self-inside.ensures c.self.invariant.exact c.drop_old.ensures);
      newer = rw kept (floor_kept old.floor v c.max-self-inside.result marks c.max-self-inside.ensures c.self.invariant.newer some);
      places = omega (arith, c.retain.ensures.bound, c.retain.ensures.capacity, c.self.invariant.places);
    }

pub returns-clause-marks : goal.returns-clause-marks
returns-clause-marks c =
    let kept = filter_same _ (is_newer_than c.args.version) _ (λ x b f' t. search rules) c.self.inside.marks.items c.retain.new.self.items c.retain.ensures.filtered in
    kept ∙ ap (λ (v : Marks). filter (is_newer_than c.args.version) v.marks) c.self.view_is
