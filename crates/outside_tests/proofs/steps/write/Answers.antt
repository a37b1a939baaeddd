use Rattle.std.proofs.Common.{◌≡◌, length, sym, ◌∙◌, arith}
use Rattle.tsdb_outside.specs.Disk.{in_slot}
use Rattle.outside_tests.proofs.steps.write.Goals as goal

pub write_at-requires : goal.write_at-requires
write_at-requires g c = λ image told.
    let all : c.in-Ok.length ≡ length (in_slot c.args.slot image) =
    c.in-Ok.ensures.length image (sym c.length.ensures.keeps.seen ∙ told) in
    omega (arith, all)
