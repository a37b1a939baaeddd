use Rattle.std.proofs.Common.{rules, w64}
use Rattle.std.proofs.Math.Facts.{to_z-of_z}
use Rattle.tsdb_pins.proofs.RowLemmas.{all_lines, begins_with, fewer_left, line_more}
use Rattle.tsdb_pins.proofs.rows.rows_of.Goals as goal

pub loop-time-init : goal.loop-time-init
loop-time-init c = begins_with _ _ _ c.in_ok-left.ensures (search rules)

pub loop-time-preserved : goal.loop-time-preserved
loop-time-preserved c = line_more _ _ _ _ _ _ _ _ _ _ c.loop-time.invariant (search rules) c.first_time.ensures c.in-Some.is (to_z-of_z {w = w64} (search rules)) c.in_ok-take_line.ensures (search rules)

pub loop-time-smaller : goal.loop-time-smaller
loop-time-smaller c = fewer_left _ _ _ _ _ _ _ (search rules) c.first_time.ensures c.in-Some.is (to_z-of_z {w = w64} (search rules)) c.in_ok-take_line.ensures

pub returns : goal.returns
returns c = record { rows = all_lines _ _ _ _ _ c.loop-time.invariant (search rules) c.first_time.ensures (search rules) }
