use Rattle.std.proofs.Common.{rules, ◌∙◌, ap, sym, subst, arith}
use Rattle.std.specs.List.{AllZip}
use Rattle.std.proofs.lemmas.List.Elements.{All-from_recursion}
use Rattle.tsdb_base.specs.Points.{IsRising}
use Rattle.std.proofs.lemmas.Result.{err_from_is_err_and}
use Rattle.tsdb_streams.proofs.Reasons.{reason_memory, reason_ok, reason_then}
use Rattle.tsdb_pins.proofs.Counted.{lent_read, most_then, told_lists}
use Rattle.tsdb_pins.proofs.Draining.{ok_then}
use Rattle.tsdb_pins.proofs.Tallied.{value_none, value_of}
use Rattle.tsdb_pins.proofs.Lent.{all_left, all_told, of_store_lent, told_lent, true_lent}
use Rattle.tsdb_pins.specs.Clean.{read_for}
use Rattle.tsdb_pins.specs.Reading.{IsLentAs}
use Rattle.tsdb_pins.proofs.folding.read_value.Goals as goal

pub fold_points-requires-clause-of_store : goal.fold_points-requires-clause-of_store
fold_points-requires-clause-of_store g c = λ lifetimes lives.
    of_store_lent g.F.Right.ReadRight.file _ c.args.column.now.sources c.in_ok-sources.sources.items
    (subst (λ l. AllZip IsLentAs l c.in_ok-sources.sources.items) c.items.ensures c.in_ok-sources.ensures) c.requires.of_store

pub returns-clause-read : goal.returns-clause-read
returns-clause-read g c = λ pages truth.
    let file = g.F.Right.ReadRight.file in
    let path = c.args.column.now.schema.path in
    let zip = subst (λ l. AllZip IsLentAs l c.in_ok-sources.sources.items) c.items.ensures c.in_ok-sources.ensures in
    ok_then _ _ (λ answer folded lists told rising.
    value_of c.args.column.now.aggregate c.in-Some.name _ answer c.in-Some.is (folded lists _ (all_told file pages path c.args.column.now.sources c.in_ok-sources.sources.items lists zip told) (All-from_recursion IsRising lists rising) (all_left file pages path c.args.pin.now.range c.args.pin.now.marks.marks c.args.column.now.sources c.in_ok-sources.sources.items lists zip told)))
    c.fold_points.result (c.fold_points.ensures.folded (pages path) (true_lent file pages path c.args.column.now.sources c.in_ok-sources.sources.items zip truth))

pub returns-clause-reason : goal.returns-clause-reason
returns-clause-reason g c = λ pages truth.
    let file = g.F.Right.ReadRight.file in
    let path = c.args.column.now.schema.path in
    let zip = subst (λ l. AllZip IsLentAs l c.in_ok-sources.sources.items) c.items.ensures c.in_ok-sources.ensures in
    reason_then _ _ _ _ _ _ (told_lent file pages path c.args.column.now.sources c.in_ok-sources.sources.items zip) (omega arith)
    (c.fold_points.ensures.reason (pages path) (true_lent file pages path c.args.column.now.sources c.in_ok-sources.sources.items zip truth))

pub returns-in_err-sources-clause-reason : goal.returns-in_err-sources-clause-reason
returns-in_err-sources-clause-reason g c = λ pages truth.
    let p = err_from_is_err_and c.from_residual.result c.from_residual.ensures.1 in
    rw p.1 (reason_memory _ _ _ _ (omega arith) p.2)

pub returns-in_default-clause-read : goal.returns-in_default-clause-read
returns-in_default-clause-read g c = λ pages truth lists told rising. value_none c.args.column.now.aggregate _ (search rules)

pub returns-in_default-clause-reason : goal.returns-in_default-clause-reason
returns-in_default-clause-reason g c = λ pages truth. reason_ok _ _ _ _ (omega arith)

pub returns-clause-counted : goal.returns-clause-counted
returns-clause-counted g c = c.fold_points.ensures.counted

pub returns-clause-most : goal.returns-clause-most
returns-clause-most g c = λ told truth tells.
    let file = g.F.Right.ReadRight.file in
    let path = c.args.column.now.schema.path in
    let sources = c.args.column.now.sources in
    let zip = subst (λ l. AllZip IsLentAs l c.in_ok-sources.sources.items) c.items.ensures c.in_ok-sources.ensures in
    let lists = told_lists file told path sources tells in
    most_then _ _ _ _ (lent_read file told path c.in-Some.name c.args.pin.now.range c.args.pin.now.marks.marks sources c.in_ok-sources.sources.items zip
    ∙ ap (λ a. read_for file told a c.args.pin.now.range c.args.pin.now.marks.marks c.args.column.now) (sym c.in-Some.is))
    (c.fold_points.ensures.most (told path) lists.0 (true_lent file told path sources c.in_ok-sources.sources.items zip truth) (all_told file told path sources c.in_ok-sources.sources.items lists.0 zip lists.1))

pub returns-in_err-sources-clause-most : goal.returns-in_err-sources-clause-most
returns-in_err-sources-clause-most g c = λ told truth tells. omega arith

pub returns-in_default-clause-most : goal.returns-in_default-clause-most
returns-in_default-clause-most g c = λ told truth tells. omega arith
