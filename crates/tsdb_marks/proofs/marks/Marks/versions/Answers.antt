use Rattle.std.proofs.lemmas.Grind.{common_steps}
use Rattle.std.proofs.Common.{◌≡◌, ◌∙◌, ◌++◌, ℕ, List, ap, sym, subst, take, drop, length, ◌-◌, arith}
use Rattle.std.specs.Prelude.{nat_eq}
use Rattle.std.specs.List.{filter}
use Rattle.std.proofs.lemmas.List.{take_all}
use Rattle.std.proofs.lemmas.List.Sorted.{IsNonDecreasingBy-from_sort, list_any-IsPermutation}
use Rattle.tsdb_marks.specs.declared.marks.Mark.{Mark}
use Rattle.tsdb_marks.specs.Lists.{Marks}
use Rattle.tsdb_marks.specs.Model.{has_version, is_mark_of, versions_of}
use Rattle.tsdb_marks.proofs.ModelLemmas.{rest_is}
use Rattle.tsdb_marks.proofs.OnlyLemmas.{Rising, gathered, versions_in, versions_in-has}
use Rattle.tsdb_marks.proofs.marks.Marks.versions.Goals as goal

pub loop-path-preserved : goal.loop-path-preserved
loop-path-preserved c =
    let old = c.self.inside in
    let path = c.path-item.result in
    let same : old.marks.items ≡ c.args.self.now.marks = ap (λ (v : Marks). v.marks) c.self.view_is in
    let behind = versions_of (filter (is_mark_of path) (take (length c.deref.result.now - old.indexed) (drop old.indexed c.deref.result.now))) in
    let back : behind ≡ versions_of (filter (is_mark_of path) (drop old.indexed c.args.self.now.marks)) =
    ap (λ (ms : List Mark). versions_of (filter (is_mark_of path) ms)) (rest_is old.indexed c.deref.result.now ∙ ap (drop old.indexed) (c.deref.ensures.value ∙ same))
    in
    let front = c.versions.ensures ∙ c.self.invariant.exact.versions path ∙ ap (λ (ms : List Mark). versions_of (filter (is_mark_of path) (take old.indexed ms))) same in
    c.in_ok-push_versions.ensures ∙ ap (λ (vs : List ℕ). vs ++ behind) c.in_ok-extend_from_slice.ensures.items
    ∙ gathered c.args.series.now c.loop-path.path-index old.indexed path c.args.self.now.marks c.loop-path.versions.items _ behind c.loop-path-test.true c.path-item.is c.loop-path.invariant front back

pub returns-clause-sorted : goal.returns-clause-sorted
returns-clause-sorted c = IsNonDecreasingBy-from_sort (λ x. x) c.sort_unstable.new.self.items c.sort_unstable.ensures.sorted

pub returns-clause-has : goal.returns-clause-has
returns-clause-has c = λ mark there.
    let P : Marks → Type 0 = λ v. Rising v.marks in
    let rising : Rising c.args.self.now.marks = subst P c.self.view_is c.self.invariant.rising in
    sym (list_any-IsPermutation (λ v. nat_eq v mark.version.0) c.loop-path.versions.items c.sort_unstable.new.self.items c.sort_unstable.ensures.permutation)
    ∙ ap (λ vs. has_version vs mark) c.loop-path.invariant
    ∙ ap (λ ps. has_version (versions_in ps c.args.self.now.marks) mark) (take_all c.loop-path.path-index c.args.series.now c.loop-path-test.false)
    ∙ versions_in-has c.args.series.now c.args.self.now.marks mark rising there

pub returns-in_err-extend_from_slice-clause-rising : goal.returns-in_err-extend_from_slice-clause-rising
returns-in_err-extend_from_slice-clause-rising c = grind (arith, common_steps)

pub returns-in_err-push_versions-clause-rising : goal.returns-in_err-push_versions-clause-rising
returns-in_err-push_versions-clause-rising c = grind (arith, common_steps)

pub returns-clause-rising : goal.returns-clause-rising
returns-clause-rising c = grind (arith, common_steps)
