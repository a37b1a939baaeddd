use Rattle.std.proofs.Common.{rules, arith}
use Rattle.std.proofs.lemmas.List.Sorted.{IsNonDecreasingBy-from_sort_by_key}
use Rattle.tsdb_aggregate.specs.declared.entry.PieceEntry.{PieceEntry}
use Rattle.tsdb_aggregate.proofs.group.by_source.Goals as goal

pub returns-clause-order : goal.returns-clause-order
returns-clause-order c =
    let rise = IsNonDecreasingBy-from_sort_by_key (λ (e : PieceEntry). e.piece.now.source) _ c.in_ok-sort_by_key.ensures.sorted (λ a r q k. search rules) in
    λ i j d l m. rise i j d (omega arith) m
