use Rattle.std.proofs.Common.{◌≡◌, ◌+◌, length, take}
use Rattle.tsdb_base.specs.Limits.{max_entries}
use Rattle.tsdb_pages.specs.Trees.{chunks_of}
use Rattle.tsdb_pages.proofs.check.have_few_chunks.Given as goal

abbrev pub invariant-loop-group : goal.invariant-loop-group
invariant-loop-group l = l.room + length (chunks_of (take l.group-index l.groups)) ≡ max_entries
