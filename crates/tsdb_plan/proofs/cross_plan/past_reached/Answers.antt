use Rattle.std.proofs.Common.{◌≡◌, ◌+◌, ◌-◌, arith, subst, sym, ap, ◌∙◌, get_or, ⊎_elim}
use Rattle.std.proofs.lemmas.List.{get_or_read}
use Rattle.std.proofs.lemmas.Bool.{iff_false, cases_eq}
use Rattle.tsdb_plan.specs.declared.entry.FileEntry.{FileEntry}
use Rattle.tsdb_plan.specs.Steps.{Reaches}
use Rattle.tsdb_plan.proofs.cross_plan.past_reached.Goals as goal

pub returns-then-reaches_up_to : goal.returns-then-reaches_up_to
returns-then-reaches_up_to c =
    let files = c.args.files.now in
    let place = c.loop-place.place in
    let hulls = c.args.hulls.now in
    let file = c.index-files-place.result in
    let e : place - 1 + 1 - 1 ≡ place - 1 = omega arith in
    let meets : Reaches hulls file.hulls = subst (λ xs. Reaches hulls xs) (c.items.ensures ∙ ap (λ (f : FileEntry). f.hulls) (sym c.index-files-place.is)) (c.reaches_up_to.ensures.0 c.if-reaches_up_to.true) in
    record {
      within = omega arith;
      none_behind = λ k d low high. c.loop-place.invariant k d (omega arith) high;
      there = λ l d. subst (λ n. Reaches hulls (get_or files n d).hulls) (sym e) (subst (λ (f : FileEntry). Reaches hulls f.hulls) (get_or_read files (place - 1) file (omega arith) c.index-files-place.is d) meets);
    }

pub loop-place-preserved : goal.loop-place-preserved
loop-place-preserved c =
    let files = c.args.files.now in
    let place = c.loop-place.place in
    let hulls = c.args.hulls.now in
    let file = c.index-files-place.result in
    let apart = iff_false c.reaches_up_to.ensures c.if-reaches_up_to.false in
    λ k d low high r.
    ⊎_elim
    (λ (e : k ≡ place - 1).
    let here : Reaches hulls (get_or files (place - 1) d).hulls = subst (λ n. Reaches hulls (get_or files n d).hulls) e r in
    let read : Reaches hulls file.hulls = subst (λ (f : FileEntry). Reaches hulls f.hulls) (sym (get_or_read files (place - 1) file (omega arith) c.index-files-place.is d)) here in
    apart (subst (λ xs. Reaches hulls xs) (sym (c.items.ensures ∙ ap (λ (f : FileEntry). f.hulls) (sym c.index-files-place.is))) read))
    (λ other. c.loop-place.invariant k d (omega arith) high r)
    (cases_eq k (place - 1))

pub returns : goal.returns
returns c = record {
  within = omega arith;
  none_behind = λ k d low high. c.loop-place.invariant k d (omega arith) high;
  there = λ l. absurd (omega arith);
}
