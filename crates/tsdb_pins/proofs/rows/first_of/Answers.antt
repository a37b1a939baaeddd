use Rattle.std.proofs.Common.{rules, w64, Some, subst, sym}
use Rattle.std.proofs.Math.Facts.{to_z-of_z}
use Rattle.tsdb_pins.proofs.RowLemmas.{first_gone, first_there}
use Rattle.tsdb_pins.specs.Rows.{IsTimeOfFirst}
use Rattle.tsdb_pins.proofs.rows.first_of.Goals as goal

pub returns-in-Some : goal.returns-in-Some
returns-in-Some c = subst (λ t. IsTimeOfFirst c.args.column.now.items (Some t)) (sym (to_z-of_z {w = w64} (search rules)))
    (first_there c.args.column.now.items c.in-Some.point.now (search rules) (search rules))

pub returns-in-None : goal.returns-in-None
returns-in-None c = first_gone c.args.column.now.items (λ low. search (rules, low))
