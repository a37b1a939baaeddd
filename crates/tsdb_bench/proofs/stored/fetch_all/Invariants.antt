use Rattle.std.proofs.Common.{◌≡◌}
use Rattle.std.specs.Prelude.{All}
use Rattle.tsdb_bench.proofs.stored.fetch_all.Given as goal

abbrev pub invariant-loop-number : goal.invariant-loop-number
invariant-loop-number g l =
    All (λ sealed. (g.F.Sealed.SealedFile.rights sealed ≡ 0)
    × ((g.F.Sealed.SealedFile.file sealed).store ≡ g.F.Files.store l.fn.files)) l.tokens.items
    × (g.F.Files.store l.files ≡ g.F.Files.store l.fn.files)
