use Rattle.std.proofs.Common.{◌≡◌, ◌∙◌, ap, sym, None, Some, List, max}
use Rattle.tsdb_marks.specs.declared.run.Step.{Step}
use Rattle.tsdb_marks.specs.Cursors.{next_start}
use Rattle.tsdb_marks.specs.Merging.{lesser_moment}
use Rattle.tsdb_marks.specs.Steps.{version_at}
use Rattle.tsdb_marks.proofs.MergeLemmas.{reached, lesser-low, lesser-high, merged_more, merged_same, merge_falls, merged_whole}
use Rattle.tsdb_marks.proofs.run.Run.merge.Goals as goal

pub loop-start-smaller-then-greater-version : goal.loop-start-smaller-then-greater-version
loop-start-smaller-then-greater-version c =
    let was = c.loop-start.invariant.merged in
    let is : lesser_moment (next_start c.loop-start.first) (next_start c.loop-start.second) ≡ Some c.in-Some.start =
    ap (λ o. lesser_moment o (next_start c.loop-start.second)) (sym c.next.ensures) ∙ ap (λ o. lesser_moment c.next.result o) (sym c.next-in-loop-start.ensures) ∙ sym c.lesser.ensures ∙ c.in-Some.is
    in
    merge_falls was is (c.go_to.ensures was.bound was.first_read (reached was is) (lesser-low _ _ _ is)) (c.go_to-in-Some.ensures was.bound was.second_read (reached was is) (lesser-high _ _ _ is))

pub loop-start-preserved-then-greater-version : goal.loop-start-preserved-then-greater-version
loop-start-preserved-then-greater-version c =
    let was = c.loop-start.invariant.merged in
    let is : lesser_moment (next_start c.loop-start.first) (next_start c.loop-start.second) ≡ Some c.in-Some.start =
    ap (λ o. lesser_moment o (next_start c.loop-start.second)) (sym c.next.ensures) ∙ ap (λ o. lesser_moment c.next.result o) (sym c.next-in-loop-start.ensures) ∙ sym c.lesser.ensures ∙ c.in-Some.is
    in
    let one = c.go_to.ensures was.bound was.first_read (reached was is) (lesser-low _ _ _ is) in
    let two = c.go_to-in-Some.ensures was.bound was.second_read (reached was is) (lesser-high _ _ _ is) in
    record {
      one = one.steps ∙ c.loop-start.invariant.one;
      two = two.steps ∙ c.loop-start.invariant.two;
      merged = rw c.in_ok-push.ensures.items (merged_more was is one two c.max-greater.result c.max-newest.result c.max-greater.ensures c.max-newest.ensures);
    }

pub loop-start-smaller : goal.loop-start-smaller
loop-start-smaller c =
    let was = c.loop-start.invariant.merged in
    let is : lesser_moment (next_start c.loop-start.first) (next_start c.loop-start.second) ≡ Some c.in-Some.start =
    ap (λ o. lesser_moment o (next_start c.loop-start.second)) (sym c.next.ensures) ∙ ap (λ o. lesser_moment c.next.result o) (sym c.next-in-loop-start.ensures) ∙ sym c.lesser.ensures ∙ c.in-Some.is
    in
    merge_falls was is (c.go_to.ensures was.bound was.first_read (reached was is) (lesser-low _ _ _ is)) (c.go_to-in-Some.ensures was.bound was.second_read (reached was is) (lesser-high _ _ _ is))

pub loop-start-preserved : goal.loop-start-preserved
loop-start-preserved c =
    let was = c.loop-start.invariant.merged in
    let is : lesser_moment (next_start c.loop-start.first) (next_start c.loop-start.second) ≡ Some c.in-Some.start =
    ap (λ o. lesser_moment o (next_start c.loop-start.second)) (sym c.next.ensures) ∙ ap (λ o. lesser_moment c.next.result o) (sym c.next-in-loop-start.ensures) ∙ sym c.lesser.ensures ∙ c.in-Some.is
    in
    let one = c.go_to.ensures was.bound was.first_read (reached was is) (lesser-low _ _ _ is) in
    let two = c.go_to-in-Some.ensures was.bound was.second_read (reached was is) (lesser-high _ _ _ is) in
    record {
      one = one.steps ∙ c.loop-start.invariant.one;
      two = two.steps ∙ c.loop-start.invariant.two;
      merged = merged_same was is one two (sym c.max-greater.ensures ∙ c.if-greater-version.false);
    }

pub returns-clause-versions : goal.returns-clause-versions
returns-clause-versions c = λ moment.
    let was = c.loop-start.invariant.merged in
    let is : lesser_moment (next_start c.loop-start.first) (next_start c.loop-start.second) ≡ None =
    ap (λ o. lesser_moment o (next_start c.loop-start.second)) (sym c.next.ensures) ∙ ap (λ o. lesser_moment c.next.result o) (sym c.next-in-loop-start.ensures) ∙ sym c.lesser.ensures ∙ c.in_default.is
    in
    merged_whole was is moment ∙ ap (λ (xs : List Step). max (version_at xs moment) (version_at c.loop-start.second.steps.now moment)) c.loop-start.invariant.one
    ∙ ap (λ (xs : List Step). max (version_at c.args.self.now.steps.items moment) (version_at xs moment)) c.loop-start.invariant.two
