use Rattle.std.proofs.Common.{◌≡◌, ap, sym, ◌∙◌, subst, map}
use Rattle.std.specs.Prelude.{IfOk}
use Rattle.std.specs.List.{reduce}
use Rattle.std.specs.Map.Iter.{deref_pair}
use Rattle.std.proofs.lemmas.Map.Iter.{iter_end}
use Rattle.tsdb_model.specs.Folds.{greater, as_number, numbers}
use Rattle.tsdb_map.specs.Model.{better, points_of_entries}
use Rattle.tsdb_map.proofs.FoldLemmas.{reduce-more}
use Rattle.tsdb_map.proofs.fold.greatest_number.Goals as goal

pub returns : goal.returns
returns c =
    let all : map deref_pair c.loop-value.yielded ≡ c.args.points =
    (iter_end deref_pair c.args.points c.loop-value.yielded c.into_iter-value-iterator.result c.loop-value.value-iterator c.next.new.self c.next.result
    c.into_iter-value-iterator.ensures.into_iter_gives c.loop-value.yielded_by c.in-None.is c.next.ensures.steps).0 in
    subst (λ o. IfOk c.copy_option.result (λ v. v ≡ o)) (c.loop-value.invariant ∙ ap (λ es. reduce greater (numbers (points_of_entries es))) all) c.copy_option.ensures

pub loop-value-preserved : goal.loop-value-preserved
loop-value-preserved c =
    c.greater-greatest.ensures ∙ ap (λ o. better greater (as_number c.in-Some.value.now) o c.in-Some.value.now) c.loop-value.invariant
    ∙ sym (reduce-more greater c.loop-value.yielded (c.in-Some.field-0-0, c.in-Some.value))
