use Rattle.std.proofs.Common.{rules, ◌≡◌, ◌<◌, ◌∙◌, length, refl, sym, ap, arith}
use Rattle.std.proofs.lemmas.Fn.{always_returns_same}
use Rattle.std.proofs.lemmas.List.Sorted.{All-permutation}
use Rattle.tsdb_aggregate.proofs.EntryLemmas.{all_sorted, starts_rise, with_entry, without_entry}
use Rattle.tsdb_aggregate.specs.Pieces.{hull, overlap}
use Rattle.tsdb_aggregate.specs.declared.entry.PieceEntry.{PieceEntry}
use Rattle.tsdb_aggregate.proofs.entry.pieces_meeting.Goals.{then-overlap+in_ok-push, else-overlap}
use Rattle.tsdb_aggregate.proofs.entry.pieces_meeting.Goals as goal

pub loop-place-preserved : goal.loop-place-preserved
loop-place-preserved c =
    let piece = c.index-pieces-place.result in
    let meet : overlap c.args.range.now (hull piece) ≡ c.overlap.result = sym (c.overlap.ensures ∙ ap (overlap c.args.range.now) c.hull.ensures) in
    elim c.if-overlap.branch [
      | then-overlap+in_ok-push w ↦ with_entry c.args.range.now c.args.pieces.now c.loop-place.place c.loop-place.entries.items c.if-overlap.entries.items _ piece (omega arith) c.index-pieces-place.is
          (ap (λ v. v.items) w.entries-is ∙ w.in_ok-push.ensures.items) refl refl (meet ∙ w.if-overlap.true) c.loop-place.invariant
      | else-overlap w ↦ without_entry c.args.range.now c.args.pieces.now c.loop-place.place c.loop-place.entries.items c.if-overlap.entries.items piece (omega arith) c.index-pieces-place.is
          (ap (λ v. v.items) w.entries-is) (meet ∙ w.if-overlap.false) c.loop-place.invariant
    ]

pub returns-clause-places : goal.returns-clause-places
returns-clause-places c = All-permutation (λ (e : PieceEntry). e.place < length c.args.pieces.now) _ _ c.in_ok-sort_by_key.ensures.permutation c.loop-place.invariant.0

pub returns-clause-all : goal.returns-clause-all
returns-clause-all c = λ held same. all_sorted c.args.range.now c.args.pieces.now held c.loop-place.place _ _ same (omega arith) c.in_ok-sort_by_key.ensures.permutation (c.loop-place.invariant.1 held same)

pub returns-clause-order : goal.returns-clause-order
returns-clause-order c =
    starts_rise (λ (e : PieceEntry). e.piece.now.stats.start) _ (c.in_ok-sort_by_key.ensures.sorted (λ (e : PieceEntry). e.piece.now.stats.start) (always_returns_same _ _ _ (λ a r q k. search rules)))
