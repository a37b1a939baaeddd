use Rattle.std.proofs.Common.{◌≡◌, ◌∙◌, ◌++◌, ◌∷◌, [], ◌<◌, List, ap, sym, subst, take, length, get_or, arith}
use Rattle.std.specs.List.{All, filter}
use Rattle.std.specs.Option.{option_copied, option_to_list}
use Rattle.std.proofs.lemmas.List.{get_or_default, take_all}
use Rattle.tsdb_marks.specs.declared.marks.Mark.{Mark}
use Rattle.tsdb_marks.specs.Lists.{Marks, is_of}
use Rattle.tsdb_marks.specs.Model.{has_version}
use Rattle.tsdb_marks.proofs.OnlyLemmas.{again_here, below_here, filter_nothing, filter_all_agree, kept_below, newer_some, none_before, take_next}
use Rattle.tsdb_marks.proofs.marks.Marks.only.Goals as goal
use Rattle.tsdb_marks.proofs.marks.Marks.only.Goals.{then-place-eq0-via-then-place-eq0, then-place-eq0-via-else-place-eq0+then-index-version, then-place-eq0+in_ok-add_copy, else-place-eq0+else-index-version}

pub loop-place-init : goal.loop-place-init
loop-place-init c = ap (λ (v : Marks). v.marks) c.new-only.ensures ∙ filter_nothing c.args.self.now.marks

pub add_copy-requires : goal.add_copy-requires
add_copy-requires c =
    let versions = c.in_ok-versions.versions.items in
    let place = c.loop-place.place in
    let within : place < length versions = omega (arith, c.loop-place-test.true, c.in_ok-versions.versions.ok) in
    let v = c.index-version.result.now in
    let below : All (λ x. x < v) (take place versions) = elim c.then-place-eq0.branch [
      | then-place-eq0-via-then-place-eq0 w ↦ none_before versions place v w.if-place-eq0.true
      | then-place-eq0-via-else-place-eq0+then-index-version w ↦
          below_here versions place v w.index.result.now c.in_ok-versions.ensures.sorted within w.index.ensures w.if-index-version.true
    ]
    in
    let Below : List Mark → Type 0 = λ ms. All (λ (kept : Mark). kept.version.0 < v) ms in
    newer_some c.mark_with.result v c.loop-place.only.marks c.mark_with.ensures.version
    (subst Below (sym c.loop-place.invariant) (kept_below (take place versions) v c.args.self.now.marks below))

pub loop-place-preserved : goal.loop-place-preserved
loop-place-preserved c =
    let versions = c.in_ok-versions.versions.items in
    let place = c.loop-place.place in
    let within : place < length versions = omega (arith, c.loop-place-test.true, c.in_ok-versions.versions.ok) in
    let v = c.index-version.result.now in
    let marks = c.args.self.now.marks in
    elim c.if-place-eq0.branch [
      | then-place-eq0+in_ok-add_copy w ↦
          let below : All (λ x. x < v) (take place versions) = elim w.then-place-eq0.branch [
            | then-place-eq0-via-then-place-eq0 u ↦ none_before versions place v u.if-place-eq0.true
            | then-place-eq0-via-else-place-eq0+then-index-version u ↦
                below_here versions place v u.index.result.now c.in_ok-versions.ensures.sorted within u.index.ensures u.if-index-version.true
          ]
          in
          let same : w.as_slice.result.now ≡ marks = w.as_slice.ensures.value ∙ ap (λ (m : Marks). m.marks) c.self.view_is in
          let Next : List Mark → Type 0 = λ ms. filter (has_version (take place versions ++ v ∷ [])) ms ≡ filter (has_version (take place versions)) ms ++ option_to_list (option_copied w.mark_with.result) in
          ap (λ (m : Marks). m.marks) w.only-is ∙ w.in_ok-add_copy.ensures ∙ ap (λ (ms : List Mark). ms ++ option_to_list (option_copied w.mark_with.result)) c.loop-place.invariant
          ∙ sym (subst Next same (w.mark_with.ensures.next (take place versions) below))
          ∙ ap (λ vs. filter (has_version vs) marks) (sym (take_next versions place v within c.index-version.ensures))
      | else-place-eq0+else-index-version w ↦
          ap (λ (m : Marks). m.marks) w.only-is ∙ c.loop-place.invariant
          ∙ sym (again_here versions place v w.index.result.now marks c.in_ok-versions.ensures.sorted within w.if-place-eq0.false c.index-version.ensures w.index.ensures w.if-index-version.false)
    ]

pub returns : goal.returns
returns c =
    let versions = c.in_ok-versions.versions.items in
    let marks = c.args.self.now.marks in
    c.loop-place.invariant ∙ ap (λ vs. filter (has_version vs) marks) (take_all c.loop-place.place versions (omega (arith, c.loop-place-test.false)))
    ∙ filter_all_agree (has_version versions) (is_of c.args.series.now) marks (λ k d lt. c.in_ok-versions.ensures.has (get_or marks k d) (k, lt, get_or_default marks k (get_or marks k d) d lt))
