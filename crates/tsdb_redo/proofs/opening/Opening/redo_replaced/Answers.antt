use Rattle.std.proofs.Common.{◌∙◌, refl, subst, sym}
use Rattle.std.proofs.lemmas.Bool.{false≢true}
use Rattle.std.proofs.lemmas.Result.{err_from_is_err_and}
use Rattle.tsdb_redo.proofs.Replaced.{replacing, shows_replaced}
use Rattle.tsdb_redo.proofs.Following.{kept_lists, kept_state, out_of_memory, shows_same, without_replay}
use Rattle.tsdb_redo.specs.Lists.{CanReplaceIn, replacement_of}
use Rattle.tsdb_redo.specs.FileRecords.{replaced_record}
use Rattle.tsdb_redo.specs.declared.opening.Opening.{Opening}
use Rattle.tsdb_redo.proofs.opening.Opening.redo_replaced.Goals as goal

pub returns-then-not-can_replace : goal.returns-then-not-can_replace
returns-then-not-can_replace c = (
  without_replay c.args.self.now (replaced_record c.args.item.now)
      (λ recorded is can. false≢true (sym c.if-not-can_replace.true
      ∙ c.can_replace.ensures.1 ((replacing c.args.self.now c.args.item.now recorded is).1 can))),
  refl,
)

pub returns-in_err-name : goal.returns-in_err-name
returns-in_err-name c =
    let old : Opening = c.args.self.now in
    let new : Opening = record old { files = c.reserve.new.self; named = c.name.new.self } in
    let fault = err_from_is_err_and c.from_residual-in_err-name.result c.from_residual-in_err-name.ensures.1 in
    out_of_memory old new (replaced_record c.args.item.now) c.from_residual-in_err-name.result fault.0 fault.1 fault.2
    (shows_same old new (λ state is. is)
    (λ state. kept_lists old.files c.reserve.new.self state c.in_ok-reserve.ensures.kept) c.in_err-name.ensures.memory)

pub replace-requires-clause-inputs : goal.replace-requires-clause-inputs
replace-requires-clause-inputs c = subst (CanReplaceIn c.args.item.now.space (replacement_of c.args.item.now))
    (kept_state c.args.self.now.files c.reserve.new.self c.in_ok-reserve.ensures.kept)
    (c.can_replace.ensures.0 c.if-not-can_replace.false).inputs

pub returns : goal.returns
returns c =
    let old : Opening = c.args.self.now in
    let new : Opening = record old {
      memory = c.finish_replaced.new.self;
      files = c.replace.new.self;
      named = c.name.new.self;
    } in
    shows_replaced old new c.reserve.new.self c.args.item.now (c.can_replace.ensures.0 c.if-not-can_replace.false)
    c.in_ok-reserve.ensures.kept c.replace.ensures c.finish_replaced.ensures.effect c.in_ok-name.ensures.named
