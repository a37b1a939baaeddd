use Rattle.std.proofs.Common.{◌≡◌}
use Rattle.use_tsfile.proofs.reading.read_pages.Given as goal

abbrev pub invariant-loop-page : goal.invariant-loop-page
invariant-loop-page g l = g.P.Port.store l.port ≡ g.P.Port.store l.fn.port
