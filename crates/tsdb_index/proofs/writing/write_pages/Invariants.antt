use Rattle.std.proofs.Common.{◌≡◌, ◌++◌, take}
use Rattle.std.specs.List.{flat_map}
use Rattle.tsdb_index.specs.Spelling.{page_entry_field}
use Rattle.tsdb_index.proofs.writing.write_pages.Given as goal

abbrev pub invariant-loop-page : goal.invariant-loop-page
invariant-loop-page l = l.into.items ≡ l.fn.into.items ++ flat_map page_entry_field (take l.page-index l.pages)
