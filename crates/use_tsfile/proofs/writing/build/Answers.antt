use Rattle.std.proofs.Common.{None}
use Rattle.tsdb_base.specs.declared.value.DataType.TheVariants.{Int64}
use Rattle.tsdb_base.specs.declared.value.Encoding.TheVariants.{Ts2diff}
use Rattle.tsfile_writer.proofs.Driving.{bare_from}
use Rattle.use_tsfile.proofs.writing.build.Goals as goal

pub fill-requires : goal.fill-requires
fill-requires c = bare_from c.args.path.now Int64 Ts2diff c.new-builder.result c.series.new.self None c.new-builder.ensures c.in_ok-series.ensures.ok
