use Rattle.std.proofs.Common.{◌≡◌, map, take}
use Rattle.tsdb_streams.specs.Clean.{others}
use Rattle.tsdb_streams.specs.Cleaning.{is_clean_page, lane_hulls}
use Rattle.tsdb_streams.proofs.cleaning.clean_pages.Given as goal

abbrev pub invariant-loop-page : goal.invariant-loop-page
invariant-loop-page g l = l.flags.items ≡ map (is_clean_page l.name l.kept (others l.place (map lane_hulls l.lanes)) l.pages.born.0) (take l.page-index l.page-items)
