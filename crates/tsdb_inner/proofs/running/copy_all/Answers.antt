use Rattle.std.proofs.Common.{◌≡◌, ◌∙◌, ◌<◌, ◌≤◌, get_or, length, refl, sym, subst, arith}
use Rattle.std.specs.List.{AllByRecursion as Each}
use Rattle.std.proofs.lemmas.List.{take_all}
use Rattle.std.proofs.lemmas.Result.{err_from_is_err_and}
use Rattle.tsdb_inner.proofs.All.{HasCopied, copied_all, copied_more, copied_none, may_add, schema_among}
use Rattle.tsdb_inner.proofs.Series.{cause_ok, cause_then, same_cause}
use Rattle.tsdb_inner.specs.Inputs.{IsInputOf}
use Rattle.tsdb_base.proofs.Lists.{each_among}
use Rattle.tsdb_model.specs.Commands.{IsSchema}
use Rattle.tsdb_inner.proofs.running.copy_all.Goals as goal

pub loop-schema-init : goal.loop-schema-init
loop-schema-init g c = (copied_none g.F.Right.ReadRight.file c.args.job.now _ c.new-part.ensures, omega arith, refl)

pub copy_one-requires-clause-among : goal.copy_one-requires-clause-among
copy_one-requires-clause-among g c = λ lifetimes lives.
    let same = c.items-schema-items.ensures in
    let below = subst (λ l. c.loop-schema.schema-index < length l) same c.loop-schema-test.true in
    let at = subst (λ l. c.schema-item.result ≡ get_or l c.loop-schema.schema-index c.schema-item.result) same
    c.schema-item.is in
    schema_among g.F.Right.ReadRight.file c.args.job.now c.loop-schema.schema-index c.schema-item.result below at

pub copy_one-requires-clause-opened : goal.copy_one-requires-clause-opened
copy_one-requires-clause-opened g c = λ lifetimes lives. c.requires.opened

pub copy_one-requires-clause-of_store : goal.copy_one-requires-clause-of_store
copy_one-requires-clause-of_store g c = λ lifetimes lives.
    subst (λ s. Each (IsInputOf g.F.Right.ReadRight.file s) c.args.job.now.inputs) (sym c.loop-schema.invariant.2)
    c.requires.of_store

pub copy_one-requires-clause-follows : goal.copy_one-requires-clause-follows
copy_one-requires-clause-follows g c = λ lifetimes lives.
    let same = c.items-schema-items.ensures in
    let below = subst (λ l. c.loop-schema.schema-index < length l) same c.loop-schema-test.true in
    let at = subst (λ l. c.schema-item.result ≡ get_or l c.loop-schema.schema-index c.schema-item.result) same
    c.schema-item.is in
    may_add g.F.Right.ReadRight.file c.args.job.now c.loop-schema.schema-index c.schema-item.result c.loop-schema.part
    c.requires.formed.rising below at c.loop-schema.invariant.0

pub loop-schema-preserved : goal.loop-schema-preserved
loop-schema-preserved g c =
    let same = c.items-schema-items.ensures in
    let below = subst (λ l. c.loop-schema.schema-index < length l) same c.loop-schema-test.true in
    let at = subst (λ l. c.schema-item.result ≡ get_or l c.loop-schema.schema-index c.schema-item.result) same
    c.schema-item.is in
    let among = schema_among g.F.Right.ReadRight.file c.args.job.now c.loop-schema.schema-index c.schema-item.result below at in
    let schema = each_among IsSchema c.args.job.now.schemas c.schema-item.result c.requires.formed.schemas among in
    let inv = c.loop-schema.invariant in
    let done = c.in_ok-copy_one.ensures in (
      copied_more g.F.Right.ReadRight.file c.args.job.now c.loop-schema.schema-index c.schema-item.result c.loop-schema.part
          c.copy_one.new.part c.requires.formed.rising (omega (arith, schema.series)) below at inv.0 done.copied,
      omega (arith, inv.1, done.later),
      done.same_store ∙ inv.2,
    )

pub returns-in_err-copy_one-clause-cause : goal.returns-in_err-copy_one-clause-cause
returns-in_err-copy_one-clause-cause g c = λ told truth.
    let p = err_from_is_err_and c.from_residual.result c.from_residual.ensures.1 in
    rw (p.1, p.2) (same_cause _ _ c.in_err-copy_one.field-0.0
    (cause_then _ _ _ _ c.loop-schema.invariant.1 (c.in_err-copy_one.ensures.cause told truth)))

pub returns-in_err-copy_one-clause-later : goal.returns-in_err-copy_one-clause-later
returns-in_err-copy_one-clause-later g c = omega (arith, c.loop-schema.invariant.1, c.in_err-copy_one.ensures.later)

pub returns-in_err-copy_one-clause-same_store : goal.returns-in_err-copy_one-clause-same_store
returns-in_err-copy_one-clause-same_store g c = c.in_err-copy_one.ensures.same_store ∙ c.loop-schema.invariant.2

pub returns-clause-copied : goal.returns-clause-copied
returns-clause-copied g c =
    let below = subst (λ l. length l ≤ c.loop-schema.schema-index) c.items-schema-items.ensures c.loop-schema-test.false in
    copied_all g.F.Right.ReadRight.file c.args.job.now c.loop-schema.part
    (subst (λ l. HasCopied g.F.Right.ReadRight.file c.args.job.now l c.loop-schema.part)
    (take_all c.loop-schema.schema-index c.args.job.now.schemas below) c.loop-schema.invariant.0)

pub returns-clause-cause : goal.returns-clause-cause
returns-clause-cause g c = λ told truth. cause_ok _ _ _ c.loop-schema.invariant.1

pub returns-clause-later : goal.returns-clause-later
returns-clause-later g c = c.loop-schema.invariant.1

pub returns-clause-same_store : goal.returns-clause-same_store
returns-clause-same_store g c = c.loop-schema.invariant.2
