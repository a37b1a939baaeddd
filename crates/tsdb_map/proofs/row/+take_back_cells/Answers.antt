use Rattle.std.proofs.Common.{◌≡◌, ◌∷◌, ◌++◌, ◌-◌, ap, sym, ◌∙◌, w64, to_z, of_z, take, drop, length}
use Rattle.std.proofs.lemmas.Int.{to_z-of_z}
use Rattle.std.specs.Option.{option_to_list}
use Rattle.tsdb_model.specs.Apply.{all_fit, put_cells}
use Rattle.tsdb_map.specs.Pending.{old_values}
use Rattle.tsdb_map.proofs.PlainLemmas.{cells_back, split_first}
use Rattle.tsdb_map.proofs.row.+take_back_cells.Goals as goal

pub returns : goal.returns
returns t c = λ before fit put stood.
    let device = c.args.device.now in
    let rest = take (length c.args.cells.now - 1) (drop 1 c.args.cells.now) in
    let time : to_z w64 (of_z w64 c.args.time) ≡ c.args.time = to_z-of_z w64 c.args.time c.ranges.time in
    let split : c.cell-item.result ∷ rest ≡ c.args.cells.now = split_first c.args.cells.now c.cell-item.result c.in-len1-up.len_at_least c.cell-item.is in
    cells_back before c.args.catalog.now c.take_back_cells.new.catalog c.take_back.new.catalog device (to_z w64 (of_z w64 c.args.time)) c.cell-item.result rest c.pop.new.self.items c.in-Some.old
    (ap (all_fit before device) split ∙ fit)
    (put ∙ ap (put_cells before device c.args.time) (sym split) ∙ ap (λ t. put_cells before device t (c.cell-item.result ∷ rest)) (sym time))
    (ap (λ o. c.pop.new.self.items ++ option_to_list o) (sym c.in-Some.is) ∙ sym c.pop.ensures.items ∙ stood
    ∙ ap (old_values before device c.args.time) (sym split) ∙ ap (λ t. old_values before device t (c.cell-item.result ∷ rest)) (sym time))
    c.take_back_cells.ensures c.take_back.ensures
