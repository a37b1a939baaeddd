use Rattle.std.proofs.Common.{◌≡◌, ◌≤ℤ◌, false, take}
use Rattle.std.specs.Prelude.{All}
use Rattle.tsdb_aggregate.proofs.entry.group_length.Given as goal

abbrev pub invariant-loop-place : goal.invariant-loop-place
invariant-loop-place l = All (λ entry. entry.piece.now.stats.end ≤ℤ l.end) (take l.place l.entries) × All (λ entry. entry.piece.now.clean ≡ false) (take l.place l.entries)
