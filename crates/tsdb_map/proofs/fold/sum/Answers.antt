use Rattle.std.proofs.Common.{◌≡◌, ap, sym, ◌∙◌, map}
use Rattle.std.specs.Map.Iter.{deref_pair}
use Rattle.std.proofs.lemmas.Map.Iter.{iter_end}
use Rattle.tsdb_model.specs.Folds.{as_number, sum_of}
use Rattle.tsdb_map.specs.Model.{add_number, points_of_entries}
use Rattle.tsdb_map.proofs.FoldLemmas.{sum-more}
use Rattle.tsdb_map.proofs.fold.sum.Goals as goal

pub returns : goal.returns
returns c =
    let all : map deref_pair c.loop-value.yielded ≡ c.args.points =
    (iter_end deref_pair c.args.points c.loop-value.yielded c.into_iter-value-iterator.result c.loop-value.value-iterator c.next.new.self c.next.result
    c.into_iter-value-iterator.ensures.into_iter_gives c.loop-value.yielded_by c.in-None.is c.next.ensures.steps).0 in
    c.loop-value.invariant ∙ ap (λ es. sum_of (points_of_entries es)) all

pub loop-value-preserved : goal.loop-value-preserved
loop-value-preserved c =
    c.in_ok-sum.ensures ∙ ap (λ n. add_number c.loop-value.sum n) c.number_of.ensures
    ∙ ap (λ s. add_number s (as_number c.in-Some.value.now)) c.loop-value.invariant
    ∙ sym (sum-more c.loop-value.yielded (c.in-Some.field-0-0, c.in-Some.value))
