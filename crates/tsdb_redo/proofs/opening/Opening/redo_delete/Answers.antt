use Rattle.std.proofs.Common.{◌∙◌, refl, sym}
use Rattle.std.proofs.lemmas.Bool.{false≢true}
use Rattle.tsdb_log.specs.declared.record.LogRecord.TheVariants.{Delete}
use Rattle.tsdb_redo.proofs.Deciding.{deletion}
use Rattle.tsdb_redo.proofs.Following.{names_nothing, shows_after, without_replay}
use Rattle.tsdb_redo.specs.declared.opening.Opening.{Opening}
use Rattle.tsdb_redo.proofs.opening.Opening.redo_delete.Goals as goal

pub returns-then-not-can_delete : goal.returns-then-not-can_delete
returns-then-not-can_delete c = (
  without_replay c.args.self.now (Delete c.args.path c.args.range.now)
      (λ recorded is can. false≢true (sym c.if-not-can_delete.true ∙ c.can_delete.ensures.1
      ((deletion c.args.self.now.memory recorded.store is.memory c.args.path).1 can))),
  refl,
)

pub returns : goal.returns
returns c =
    let old : Opening = c.args.self.now in
    let new : Opening = record old { memory = c.finish_delete.new.self } in
    shows_after old new (Delete c.args.path c.args.range.now)
    (λ recorded is. (deletion old.memory recorded.store is.memory c.args.path).0 (c.can_delete.ensures.0 c.if-not-can_delete.false))
    (λ recorded is. c.finish_delete.ensures.effect recorded.store (c.prepare_delete.ensures.same recorded.store is.memory)
    is.files.least)
    (λ recorded is. record { sequence = is.files.sequence; unsequence = is.files.unsequence; least = is.files.least })
    (names_nothing old.named)
