use Rattle.std.proofs.Common.{rules, ◌≡◌, ◌∙◌, ◌⊎◌, false, true, map, subst, arith}
use Rattle.std.specs.List.{AllByRecursion as Each}
use Rattle.std.proofs.lemmas.Result.{err_from_is_err_and}
use Rattle.tsdb_streams.specs.IndexedFiles.{source_of}
use Rattle.tsdb_inner.proofs.Opened.{indexed_of, lent_of}
use Rattle.tsdb_inner.proofs.Series.{cause_ok, copies_winners, damage_cause, inputs_of_store, told_cause}
use Rattle.tsdb_inner.specs.Inputs.{TellsBytes}
use Rattle.tsdb_base.proofs.Lists.{each_among}
use Rattle.tsdb_model.specs.Commands.{IsSchema}
use Rattle.tsdb_base.specs.Causes.{Rose}
use Rattle.tsdb_inner.proofs.running.copy_one.Goals as goal

pub copy_series-requires-clause-schema : goal.copy_series-requires-clause-schema
copy_series-requires-clause-schema g c = λ lifetimes lives.
    each_among IsSchema c.args.job.now.schemas c.args.schema.now c.requires.formed.schemas c.requires.among

pub copy_series-requires-clause-of_store : goal.copy_series-requires-clause-of_store
copy_series-requires-clause-of_store g c = λ lifetimes lives.
    let zip = lent_of g.F.Right.ReadRight.file c.args.job.now.inputs c.args.files.now c.requires.opened in
    inputs_of_store g.F.Right.ReadRight.file c.args.job.now _ (map source_of c.args.files.now) zip c.requires.of_store

pub copy_series-requires-clause-indexed : goal.copy_series-requires-clause-indexed
copy_series-requires-clause-indexed g c = λ lifetimes lives.
    indexed_of g.F.Right.ReadRight.file c.args.job.now.inputs c.args.files.now c.requires.opened

pub returns-in_err-copy_series-clause-cause : goal.returns-in_err-copy_series-clause-cause
returns-in_err-copy_series-clause-cause g c =
    let p = err_from_is_err_and c.from_residual.result c.from_residual.ensures.1 in
    let zip = lent_of g.F.Right.ReadRight.file c.args.job.now.inputs c.args.files.now c.requires.opened in
    let schema = each_among IsSchema c.args.job.now.schemas c.args.schema.now c.requires.formed.schemas c.requires.among in
    rw (p.1, p.2) (told_cause g.F.Right.ReadRight.file c.args.job.now c.args.schema.now (omega (arith, schema.series))
    (map source_of c.args.files.now) zip _ _ c.in_err-copy_series.field-0.0 c.in_err-copy_series.ensures.reason)

pub returns-then-branch-clause-copied : goal.returns-then-branch-clause-copied
returns-then-branch-clause-copied g c =
    let zip = lent_of g.F.Right.ReadRight.file c.args.job.now.inputs c.args.files.now c.requires.opened in
    let schema = each_among IsSchema c.args.job.now.schemas c.args.schema.now c.requires.formed.schemas c.requires.among in
    let whole : c.in_ok-copy_series.field-0 ≡ true = search rules in
    copies_winners g.F.Right.ReadRight.file c.args.job.now c.args.schema.now (omega (arith, schema.series))
    (map source_of c.args.files.now) zip _ _ (c.in_ok-copy_series.ensures.copied whole)

pub returns-then-branch-clause-cause : goal.returns-then-branch-clause-cause
returns-then-branch-clause-cause g c = λ told truth. cause_ok _ _ _ c.in_ok-copy_series.ensures.later

pub returns-clause-cause : goal.returns-clause-cause
returns-clause-cause g c =
    let zip = lent_of g.F.Right.ReadRight.file c.args.job.now.inputs c.args.files.now c.requires.opened in
    let schema = each_among IsSchema c.args.job.now.schemas c.args.schema.now c.requires.formed.schemas c.requires.among in
    let damaged : c.in_ok-copy_series.field-0 ≡ false = search rules in
    damage_cause g.F.Right.ReadRight.file c.args.job.now c.args.schema.now (omega (arith, schema.series))
    (map source_of c.args.files.now) zip _ _ _ c.requires.formed c.requires.among c.in_ok-copy_series.ensures.later
    c.count_damage.ensures.later (subst (λ l. (Each (TellsBytes g.F.Right.ReadRight.file) l)
    ⊎ Rose (g.F.Port.Counted.faults c.copy_series.new.port) (g.F.Port.Counted.faults c.count_damage.new.port))
    c.items.ensures c.count_damage.ensures.counted) (c.in_ok-copy_series.ensures.damaged damaged)

pub returns-clause-later : goal.returns-clause-later
returns-clause-later g c = omega (arith, c.in_ok-copy_series.ensures.later, c.count_damage.ensures.later)

pub returns-clause-same_store : goal.returns-clause-same_store
returns-clause-same_store g c = c.count_damage.ensures.same_store ∙ c.in_ok-copy_series.ensures.same_store
