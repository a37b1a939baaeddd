use Rattle.std.proofs.Common.{◌≡◌, ℕ, length, arith, [], ◌∷◌}
use Rattle.std.proofs.lemmas.List.{length-take-le}
use Rattle.outside_tests.proofs.copying.read_shared.Goals as goal

pub read-requires-clause-range : goal.read-requires-clause-range
read-requires-clause-range g c = λ bytes told.
    let all : c.in-Ok.size ≡ length bytes = c.in-Ok.ensures.length bytes told in
    omega (
      arith,
      length-take-le {A = ℕ} c.min-count.result (0 ∷ 0 ∷ 0 ∷ 0 ∷ []) (omega (arith, c.min-count.ensures)),
      c.min-at.ensures,
      c.min-count.ensures,
      all,
    )
