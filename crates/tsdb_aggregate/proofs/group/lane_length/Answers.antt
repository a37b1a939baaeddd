use Rattle.std.proofs.lemmas.Grind.{common_steps}
use Rattle.std.proofs.Common.{rules, ◌≡◌, get_or, refl, arith}
use Rattle.tsdb_aggregate.proofs.EntryLemmas.{all_later, one_more}
use Rattle.tsdb_aggregate.proofs.RowLemmas.{row_more}
use Rattle.tsdb_aggregate.specs.declared.entry.PieceEntry.{PieceEntry}
use Rattle.tsdb_aggregate.proofs.group.lane_length.Goals as goal

pub loop-place-preserved : goal.loop-place-preserved
loop-place-preserved c =
    let entries = c.args.entries.now in
    let x = c.index-entries-place.result in
    let source = (get_or entries 0 c.index-entries-0.result).piece.now.source in
    let here = get_or entries c.loop-place.place x in
    let goes = c.goes_on.ensures c.if-not-goes_on.false in
    let own : here.piece.now.source ≡ source = goes.0 in (
      all_later entries c.loop-place.place x _ _ c.later_end-end.result _ (omega arith) c.index-entries-place.is refl (search rules) c.later_end-end.ensures c.loop-place.invariant.0,
      one_more (λ (e : PieceEntry). e.piece.now.source ≡ source) entries c.loop-place.place x (omega arith) c.index-entries-place.is c.loop-place.invariant.1 own,
      row_more entries c.loop-place.place x source _ (omega arith) c.index-entries-place.is c.loop-place.invariant.1 c.loop-place.invariant.0 own goes.1 c.loop-place.invariant.2,
    )

pub bounds-entries-0 : goal.bounds-entries-0
bounds-entries-0 c = search rules

pub bounds-entries-0-2 : goal.bounds-entries-0-2
bounds-entries-0-2 c = search rules

pub loop-place-init : goal.loop-place-init
loop-place-init c = grind (arith, common_steps)

pub offset_bounds-entries-place : goal.offset_bounds-entries-place
offset_bounds-entries-place c = search rules

pub bounds-entries-place : goal.bounds-entries-place
bounds-entries-place c = search rules

pub bounds-entries-place-in-loop-place : goal.bounds-entries-place-in-loop-place
bounds-entries-place-in-loop-place c = search rules

pub returns-then-not-goes_on-clause-some : goal.returns-then-not-goes_on-clause-some
returns-then-not-goes_on-clause-some c = search rules

pub returns-then-not-goes_on-clause-within : goal.returns-then-not-goes_on-clause-within
returns-then-not-goes_on-clause-within c = search rules

pub returns-then-not-goes_on-clause-row : goal.returns-then-not-goes_on-clause-row
returns-then-not-goes_on-clause-row c = search rules

pub returns-clause-some : goal.returns-clause-some
returns-clause-some c = search rules

pub returns-clause-within : goal.returns-clause-within
returns-clause-within c = search rules

pub returns-clause-row : goal.returns-clause-row
returns-clause-row c = search rules
