use Rattle.std.proofs.Common.{append-nil, ap, sym, ◌∙◌, rules, arith}
use Rattle.std.proofs.lemmas.Bool.{ltb-false, ltb-true, ne_eqb}
use Rattle.std.proofs.lemmas.List.{get_or_default}
use Rattle.std.proofs.lemmas.List.Sorted.{IsPartitionPoint-from_clause}
use Rattle.tsdb_marks.specs.declared.marks.Mark.{Mark}
use Rattle.tsdb_marks.proofs.OnlyLemmas.{is_older, no_version, parted_marks, with_none, with_one}
use Rattle.tsdb_marks.proofs.marks.mark_with.Goals as goal

pub returns-in_err-mark-clause-next : goal.returns-in_err-mark-clause-next
returns-in_err-mark-clause-next c = λ versions below.
    let marks = c.args.marks.now in
    let point = IsPartitionPoint-from_clause (is_older c.args.version) _ _ c.partition_point-place.ensures.partitioned (parted_marks c.args.version marks c.requires) (λ a r q k. search rules) in
    let past = ltb-false _ _ (sym c.in_err-mark.ensures.lookup.0) in
    rw c.from_residual.ensures (with_none versions c.args.version marks (no_version c.args.version marks c.partition_point-place.result c.requires point (λ d lt. absurd (omega (arith, lt, past)))) ∙ sym (append-nil _))

pub returns-then-mark-version-clause-next : goal.returns-then-mark-version-clause-next
returns-then-mark-version-clause-next c = λ versions below.
    let lookup = c.in_ok-mark.ensures.lookup in
    with_one versions c.args.version c.args.marks.now c.partition_point-place.result c.in_ok-mark.mark.now c.requires below (ltb-true _ _ (sym lookup.0)) lookup.1 c.if-mark-version.true

pub returns-else-mark-version-clause-next : goal.returns-else-mark-version-clause-next
returns-else-mark-version-clause-next c = λ versions below.
    let marks = c.args.marks.now in
    let place = c.partition_point-place.result in
    let lookup = c.in_ok-mark.ensures.lookup in
    let point = IsPartitionPoint-from_clause (is_older c.args.version) _ _ c.partition_point-place.ensures.partitioned (parted_marks c.args.version marks c.requires) (λ a r q k. search rules) in
    with_none versions c.args.version marks (no_version c.args.version marks place c.requires point (λ d lt.
    ne_eqb c.args.version _ (λ e. c.if-mark-version.false (ap (λ (m : Mark). m.version.0) (lookup.1 ∙ get_or_default marks place c.in_ok-mark.mark.now d lt) ∙ sym e)))) ∙ sym (append-nil _)
