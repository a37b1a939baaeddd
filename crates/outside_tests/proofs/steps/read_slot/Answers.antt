use Rattle.std.proofs.Common.{◌≡◌, ◌≤◌, length, take, sym, ◌∙◌, arith, List, ℕ, [], ◌∷◌}
use Rattle.std.proofs.lemmas.List.{length-take-le}
use Rattle.tsdb_outside.specs.Disk.{in_slot}
use Rattle.outside_tests.proofs.steps.read_slot.Goals as goal

within : (xs : List ℕ) (n m : ℕ) → n ≤ length xs → n ≤ m → length (take n xs) ≤ m
within xs n m le small = omega (arith, length-take-le n xs le, small)

pub read_at-requires : goal.read_at-requires
read_at-requires g c = λ image told.
    let all : c.in_ok-length.length ≡ length (in_slot c.args.slot image) =
    c.in_ok-length.ensures.length image (sym c.length.ensures.keeps.seen ∙ told) in
    omega (
      arith,
      within (0 ∷ 0 ∷ 0 ∷ 0 ∷ []) c.min-count.result (length (in_slot c.args.slot image))
          (omega (arith, c.min-count.ensures)) (omega (arith, c.min-count.ensures, all)),
    )
