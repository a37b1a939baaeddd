use Rattle.std.proofs.Common.{arith, subst, sym, ap, ◌∙◌}
use Rattle.std.proofs.lemmas.List.{get_or_read}
use Rattle.std.proofs.lemmas.List.Elements.{AllWithin-more}
use Rattle.std.proofs.lemmas.Bool.{iff_false}
use Rattle.tsdb_plan.specs.declared.entry.FileEntry.{FileEntry}
use Rattle.tsdb_plan.specs.Steps.{Reaches}
use Rattle.tsdb_plan.proofs.cross_plan.first_reaching.Goals as goal

pub loop-place-preserved : goal.loop-place-preserved
loop-place-preserved c =
    let files = c.args.files.now in
    let place = c.loop-place.place in
    let hulls = c.args.hulls.now in
    let apart = iff_false c.reaches_from.ensures c.if-reaches_from.false in
    AllWithin-more (λ file. Reaches file.hulls hulls → ⊥) files 0 place c.loop-place.invariant
    (λ d r. apart (subst (λ xs. Reaches xs hulls) (sym (c.items.ensures ∙ ap (λ (f : FileEntry). f.hulls) (get_or_read files place c.index-files-place.result (omega arith) c.index-files-place.is d))) r))

pub returns : goal.returns
returns c = record {
  within = omega arith;
  none_before = λ k d low high. c.loop-place.invariant k d low (omega arith);
  there = λ l. absurd (omega arith);
}
