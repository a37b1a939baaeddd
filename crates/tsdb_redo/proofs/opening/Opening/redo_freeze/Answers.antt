use Rattle.std.proofs.Common.{◌∙◌, refl, subst, sym}
use Rattle.std.proofs.lemmas.Bool.{false≢true}
use Rattle.tsdb_log.specs.declared.record.LogRecord.TheVariants.{Freeze}
use Rattle.tsdb_memory.specs.Fits.{HasNoPairPoint}
use Rattle.tsdb_memtable.specs.Pairs.{Pair}
use Rattle.tsdb_redo.proofs.Following.{names_nothing, shows_after, without_replay}
use Rattle.tsdb_redo.specs.declared.opening.Opening.{Opening}
use Rattle.tsdb_redo.proofs.opening.Opening.redo_freeze.Goals as goal

pub returns-then-not-can_freeze : goal.returns-then-not-can_freeze
returns-then-not-can_freeze c = (
  without_replay c.args.self.now Freeze (λ recorded is can. false≢true (sym c.if-not-can_freeze.true
      ∙ (c.can_freeze.ensures.decides recorded.store is.memory).1 can)),
  refl,
)

pub returns : goal.returns
returns c =
    let old : Opening = c.args.self.now in
    let new : Opening = record old { memory = c.finish_freeze.new.self } in
    shows_after old new Freeze
    (λ recorded is. (c.can_freeze.ensures.decides recorded.store is.memory).0 c.if-not-can_freeze.false)
    (λ recorded is. c.finish_freeze.ensures.effect recorded.store (c.in_ok-freezing.ensures.same recorded.store is.memory))
    (λ recorded is. record { sequence = is.files.sequence; unsequence = is.files.unsequence; least = is.files.least })
    (names_nothing old.named)

pub finish_freeze-requires-clause-some : goal.finish_freeze-requires-clause-some
finish_freeze-requires-clause-some c = subst (λ (p : Pair). ¬ HasNoPairPoint p) (sym c.in_ok-freezing.ensures.working)
    (c.can_freeze.ensures.some c.if-not-can_freeze.false)
