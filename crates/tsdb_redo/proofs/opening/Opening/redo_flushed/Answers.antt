use Rattle.std.proofs.lemmas.Result.{err_from_is_err_and}
use Rattle.tsdb_log.specs.declared.record.LogRecord.TheVariants.{Flushed}
use Rattle.tsdb_redo.proofs.Flushing.{shows_flushed}
use Rattle.tsdb_redo.proofs.Following.{kept_lists, out_of_memory, shows_same}
use Rattle.tsdb_redo.specs.declared.opening.Opening.{Opening}
use Rattle.tsdb_redo.proofs.opening.Opening.redo_flushed.Goals as goal

pub returns-in_err-name : goal.returns-in_err-name
returns-in_err-name c =
    let old : Opening = c.args.self.now in
    let new : Opening = record old { files = c.reserve.new.self; named = c.name.new.self } in
    let fault = err_from_is_err_and c.from_residual-in_err-name.result c.from_residual-in_err-name.ensures.1 in
    out_of_memory old new (Flushed c.args.sequence c.args.unsequence) c.from_residual-in_err-name.result fault.0 fault.1 fault.2
    (shows_same old new (λ state is. is)
    (λ state. kept_lists old.files c.reserve.new.self state c.in_ok-reserve.ensures.kept) c.in_err-name.ensures.memory)

pub returns : goal.returns
returns c =
    let old : Opening = c.args.self.now in
    let new : Opening = record old {
      memory = c.finish_flushed.new.self;
      files = c.add_flushed.new.self;
      named = c.name.new.self;
    } in
    shows_flushed old new c.reserve.new.self c.args.sequence c.args.unsequence c.in-Some.born c.in-Some.ensures.some
    c.in_ok-reserve.ensures.kept c.add_flushed.ensures c.finish_flushed.ensures.effect c.in_ok-name.ensures.named
