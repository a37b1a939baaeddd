use Rattle.std.proofs.Common.{◌≡◌, ◌∙◌, Some, slice_get, sym}
use Rattle.std.proofs.lemmas.Bool.{false≢true}
use Rattle.tsdb_memory.proofs.Later.{oldest_of}
use Rattle.tsdb_memory.specs.Model.{frozen_in}
use Rattle.tsdb_redo.proofs.Flushing.{flush_of, no_new_names, same_bool}
use Rattle.tsdb_redo.proofs.opening.Opening.flushed_born.Goals as goal

pub returns-then-not-can_name-clause-none : goal.returns-then-not-can_name-clause-none
returns-then-not-can_name-clause-none c = λ none.
    no_new_names c.args.self.now c.args.sequence.0 c.args.unsequence.0
    (λ can. false≢true (sym c.if-not-can_name.true ∙ c.can_name.ensures.1 can))

pub returns-clause-some : goal.returns-clause-some
returns-clause-some c =
    let at : slice_get c.frozen.result.now 0 ≡ Some c.in_ok-oldest.oldest.now =
    sym c.in_ok-oldest.ensures.value in
    let split = oldest_of c.frozen.result.now c.in_ok-oldest.oldest.now at in
    flush_of c.args.self.now c.args.sequence.0 c.args.unsequence.0 (frozen_in c.in_ok-oldest.oldest.now)
    split.rest (sym c.frozen.ensures.value ∙ split.are)
    c.oldest_has.result c.oldest_has-2.result c.oldest_has.ensures c.oldest_has-2.ensures c.born.result c.born.ensures
    (sym c.ne.ensures ∙ same_bool c.ne.result c.oldest_has.result c.if-ne-oldest_has.false)
    (sym c.ne-2.ensures ∙ same_bool c.ne-2.result c.oldest_has-2.result c.if-ne-oldest_has-2.false)
    (c.can_name.ensures.0 c.if-not-can_name.false)
