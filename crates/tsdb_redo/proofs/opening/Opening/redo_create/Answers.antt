use Rattle.std.proofs.Common.{◌∙◌, refl, sym}
use Rattle.std.proofs.lemmas.Bool.{false≢true}
use Rattle.tsdb_log.specs.declared.record.LogRecord.TheVariants.{Create}
use Rattle.tsdb_redo.proofs.Deciding.{creation}
use Rattle.tsdb_redo.proofs.Following.{names_nothing, shows_after, without_replay}
use Rattle.tsdb_redo.specs.declared.opening.Opening.{Opening}
use Rattle.tsdb_redo.proofs.opening.Opening.redo_create.Goals as goal

pub returns-then-not-can_create : goal.returns-then-not-can_create
returns-then-not-can_create c = (
  without_replay c.args.self.now (Create c.args.schema.path c.args.schema.data_type c.args.schema.encoding)
      (λ recorded is can. false≢true (sym c.if-not-can_create.true ∙ c.can_create.ensures.1
      ((creation c.args.self.now.memory recorded.store is.memory c.args.schema).1 can))),
  refl,
)

pub returns : goal.returns
returns c =
    let old : Opening = c.args.self.now in
    let new : Opening = record old { memory = c.finish_create.new.self } in
    shows_after old new (Create c.args.schema.path c.args.schema.data_type c.args.schema.encoding)
    (λ recorded is. (creation old.memory recorded.store is.memory c.args.schema).0 (c.can_create.ensures.0 c.if-not-can_create.false))
    (λ recorded is. c.finish_create.ensures.effect recorded.store (c.prepare_create.ensures.same recorded.store is.memory))
    (λ recorded is. record { sequence = is.files.sequence; unsequence = is.files.unsequence; least = is.files.least })
    (names_nothing old.named)
