use Rattle.std.proofs.Common.{◌≡◌, length}
use Rattle.std.specs.Prelude.{All}
use Rattle.tsdb_bench.proofs.stored.end_all.Given as goal

abbrev pub invariant-loop-sealed : goal.invariant-loop-sealed
invariant-loop-sealed g l =
    All (λ sealed. (g.F.Sealed.SealedFile.rights sealed ≡ 0)
    × ((g.F.Sealed.SealedFile.file sealed).store ≡ g.F.Files.store l.fn.files)) l.tokens.items
    × (g.F.Files.store l.files ≡ g.F.Files.store l.fn.files)
    × (g.F.Port.Port.store l.port ≡ g.F.Port.Port.store l.fn.port)

abbrev pub decreases-loop-sealed : goal.decreases-loop-sealed
decreases-loop-sealed g l = length l.tokens.items
