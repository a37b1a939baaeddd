use Rattle.std.proofs.Common.{rules, ◌∙◌, ap, sym, arith}
use Rattle.std.proofs.lemmas.Bool.{ltb-false, ltb-true}
use Rattle.std.proofs.lemmas.List.Sorted.{IsPartitionPoint-from_clause}
use Rattle.tsdb_aggregate.specs.Pieces.{overlap}
use Rattle.tsdb_streams.proofs.OrderFacts.{ends_before, none_meets, one_meets, parted}
use Rattle.tsdb_streams.proofs.ordering.first_meets.Goals as goal

pub returns-in-Some : goal.returns-in-Some
returns-in-Some c =
    let pages = c.args.pages.now in
    let place = c.partition_point-place.result in
    let lookup = c.in-Some.ensures.lookup in
    let below = ltb-true _ _ (sym lookup.0) in
    let point = IsPartitionPoint-from_clause (ends_before c.args.times.now) _ _ c.partition_point-place.ensures.partitioned (parted c.args.times.now pages c.requires.order) (λ a r q k. search rules) in
    c.overlap.ensures ∙ ap (λ r. overlap r c.args.times.now) c.times_of.ensures
    ∙ one_meets pages c.args.times.now place c.in-Some.page.now c.requires.order below lookup.1 (λ k d low. point.0 k d (omega arith) low) (point.1 place c.in-Some.page.now (omega arith) below)

pub returns-in-None : goal.returns-in-None
returns-in-None c =
    let pages = c.args.pages.now in
    let past = ltb-false _ _ (sym c.in-None.ensures.lookup.0) in
    let point = IsPartitionPoint-from_clause (ends_before c.args.times.now) _ _ c.partition_point-place.ensures.partitioned (parted c.args.times.now pages c.requires.order) (λ a r q k. search rules) in
    sym (none_meets pages c.args.times.now (λ k d low. point.0 k d (omega arith) (omega (arith, low, past))))
