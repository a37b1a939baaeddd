use Rattle.std.specs.Option.{option_copied}
use Rattle.tsfile_writer.proofs.Driving.{Stands}
use Rattle.files_tests.proofs.built.put_all.Given as goal

abbrev pub invariant-loop-series : goal.invariant-loop-series
invariant-loop-series l = Stands l.builder (option_copied l.last)
