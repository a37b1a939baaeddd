use Rattle.std.specs.Option.{option_copied}
use Rattle.tsfile_writer.proofs.Driving.{bare_from}
use Rattle.files_tests.proofs.built.put_all.Goals as goal

pub put_points-requires : goal.put_points-requires
put_points-requires c =
    bare_from _ _ _ c.loop-series.builder _ (option_copied c.loop-series.last) c.loop-series.invariant c.in_ok-series.ensures.ok
