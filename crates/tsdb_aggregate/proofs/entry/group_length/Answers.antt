use Rattle.std.proofs.lemmas.Grind.{common_steps}
use Rattle.std.proofs.Common.{rules, ◌≡◌, false, inl, inr, refl, arith}
use Rattle.tsdb_aggregate.proofs.EntryLemmas.{all_later, cut_at, cut_first, one_more}
use Rattle.tsdb_aggregate.specs.declared.entry.PieceEntry.{PieceEntry}
use Rattle.tsdb_aggregate.proofs.entry.group_length.Goals.{then-piece-via-then-piece, then-piece-via-else-piece+then-begins_after}
use Rattle.tsdb_aggregate.proofs.entry.group_length.Goals as goal

pub returns-then-first-clause-cut : goal.returns-then-first-clause-cut
returns-then-first-clause-cut c = λ order. cut_first c.args.entries.now c.index-entries-0.result c.requires.some c.index-entries-0.is order c.if-first.true

pub returns-then-piece-clause-cut : goal.returns-then-piece-clause-cut
returns-then-piece-clause-cut c = λ order.
    cut_at c.args.entries.now c.loop-place.place c.index-entries-place.result _ (omega arith) c.index-entries-place.is order c.loop-place.invariant.0
    (elim c.then-piece.branch [ then-piece-via-then-piece w ↦ inl w.if-piece.true | then-piece-via-else-piece+then-begins_after w ↦ inr (w.begins_after.ensures.0 w.if-begins_after.true) ])

pub loop-place-preserved : goal.loop-place-preserved
loop-place-preserved c = (
  all_later c.args.entries.now c.loop-place.place c.index-entries-place.result _ _ c.later_end-end.result _ (omega arith) c.index-entries-place.is refl (search rules) c.later_end-end.ensures c.loop-place.invariant.0,
  one_more (λ (e : PieceEntry). e.piece.now.clean ≡ false) c.args.entries.now c.loop-place.place c.index-entries-place.result (omega arith) c.index-entries-place.is c.loop-place.invariant.1 c.if-piece.false,
)

pub loop-place-init : goal.loop-place-init
loop-place-init c = grind (arith, common_steps)

pub returns-clause-cut : goal.returns-clause-cut
returns-clause-cut c = grind (arith, common_steps)
