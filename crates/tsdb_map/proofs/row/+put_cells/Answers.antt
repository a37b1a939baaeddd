use Rattle.std.proofs.lemmas.Grind.{common_steps}
use Rattle.std.proofs.Common.{◌≡◌, ◌∷◌, ◌-◌, ap, ◌∙◌, true, take, drop, length, rules, arith}
use Rattle.tsdb_model.specs.Apply.{all_fit}
use Rattle.tsdb_map.proofs.PlainLemmas.{first_fits, on_err, put_there, rest_fits, split_first, taken_back}
use Rattle.tsdb_map.proofs.row.+put_cells.Goals as goal
use Rattle.tsdb_path.specs.Nodes.{child_of}

pub put_cells-requires : goal.put_cells-requires
put_cells-requires t c =
    let rest = take (length c.args.cells.now - 1) (drop 1 c.args.cells.now) in
    let all : all_fit c.args.catalog.now c.args.device.now (c.cell-item.result ∷ rest) ≡ true =
    ap (all_fit c.args.catalog.now c.args.device.now) (split_first c.args.cells.now c.cell-item.result c.in-len1-up.len_at_least c.cell-item.is) ∙ c.requires.fit in
    (search rules, (rest_fits c.args.catalog.now c.put_cell.new.catalog c.args.device.now _ c.cell-item.result rest all c.in_ok-old.ensures.put, search rules))

pub returns-then-is_err-clause-memory : goal.returns-then-is_err-clause-memory
returns-then-is_err-clause-memory t c =
    let rest = take (length c.args.cells.now - 1) (drop 1 c.args.cells.now) in
    let all : all_fit c.args.catalog.now c.args.device.now (c.cell-item.result ∷ rest) ≡ true =
    ap (all_fit c.args.catalog.now c.args.device.now) (split_first c.args.cells.now c.cell-item.result c.in-len1-up.len_at_least c.cell-item.is) ∙ c.requires.fit in
    let same : c.put_cells.new.catalog ≡ c.put_cell.new.catalog = on_err c.put_cells.result c.if-is_err.ensures.value c.put_cells.ensures.memory in
    let first = first_fits c.args.catalog.now c.args.device.now c.cell-item.result rest all in
    taken_back c.args.catalog.now c.put_cells.new.catalog c.take_back.new.catalog (child_of c.args.device.now c.cell-item.result.measurement) _ c.cell-item.result.value c.in_ok-old.old
    first (same ∙ c.in_ok-old.ensures.put) c.in_ok-old.ensures.old
    (c.take_back.ensures (put_there c.args.catalog.now c.put_cells.new.catalog (child_of c.args.device.now c.cell-item.result.measurement) _ c.cell-item.result.value first (same ∙ c.in_ok-old.ensures.put)))

pub put_cell-requires : goal.put_cell-requires
put_cell-requires t c = grind (arith, common_steps)

pub returns-clause-put : goal.returns-clause-put
returns-clause-put t c = grind (arith, common_steps)

pub returns-clause-olds : goal.returns-clause-olds
returns-clause-olds t c = grind (arith, common_steps)

pub returns-clause-len : goal.returns-clause-len
returns-clause-len t c = grind (arith, common_steps)

pub returns-clause-capacity : goal.returns-clause-capacity
returns-clause-capacity t c = grind (arith, common_steps)
