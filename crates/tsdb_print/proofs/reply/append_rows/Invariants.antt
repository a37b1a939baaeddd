use Rattle.std.proofs.Common.{◌≡◌, ◌++◌, take}
use Rattle.std.specs.List.{flat_map}
use Rattle.tsdb_print.specs.Text.{line, row_text}
use Rattle.tsdb_print.proofs.reply.append_rows.Given as goal

abbrev pub invariant-loop-row : goal.invariant-loop-row
invariant-loop-row l = l.into.items ≡ l.initial.into.items ++ flat_map (λ row. line (row_text row)) (take l.row-index l.rows)
