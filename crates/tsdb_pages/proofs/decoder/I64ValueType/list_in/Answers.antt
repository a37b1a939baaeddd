use Rattle.std.proofs.Common.{FitsSigned}
use Rattle.std.specs.Int.{w64}
use Rattle.tsdb_base.specs.declared.value.Encoding.TheVariants.{Plain, Rle, Ts2diff}
use Rattle.tsdb_base.specs.declared.value.Value.TheVariants as value
use Rattle.tsdb_base.specs.Plain.{plain_i64}
use Rattle.tsdb_bits.specs.Zigzag.{zigzag}
use Rattle.enc_plain.specs.Spelling as plain
use Rattle.enc_rle.specs.Spelling as rle
use Rattle.enc_ts2diff.specs.Spelling as ts2diff
use Rattle.tsdb_pages.proofs.OneType.{found_by, none_by, plain_int64, rle_int64, ts2diff_int64}
use Rattle.tsdb_pages.proofs.decoder.I64ValueType.list_in.Goals as goal

pub returns-in-Plain-clause-found : goal.returns-in-Plain-clause-found
returns-in-Plain-clause-found c = found_by (λ list. list.items) value.I64 (plain.spelling plain_i64) (FitsSigned w64) c.args.encoding Plain c.in-Plain.is plain_int64 c.args.bytes.now c.decode_i64.result c.decode_i64.ensures.found

pub returns-in-Plain-clause-bad : goal.returns-in-Plain-clause-bad
returns-in-Plain-clause-bad c = λ is_bad. none_by value.I64 (plain.spelling plain_i64) (FitsSigned w64) c.args.encoding Plain c.in-Plain.is plain_int64 c.args.bytes.now (c.decode_i64.ensures.bad is_bad)

pub returns-in-Rle-clause-found : goal.returns-in-Rle-clause-found
returns-in-Rle-clause-found c = found_by (λ list. list.items) value.I64 (rle.spelling zigzag) (FitsSigned w64) c.args.encoding Rle c.in-Rle.is rle_int64 c.args.bytes.now c.decode_i64-in-Rle.result c.decode_i64-in-Rle.ensures.found

pub returns-in-Rle-clause-bad : goal.returns-in-Rle-clause-bad
returns-in-Rle-clause-bad c = λ is_bad. none_by value.I64 (rle.spelling zigzag) (FitsSigned w64) c.args.encoding Rle c.in-Rle.is rle_int64 c.args.bytes.now (c.decode_i64-in-Rle.ensures.bad is_bad)

pub returns-in-Ts2diff-clause-found : goal.returns-in-Ts2diff-clause-found
returns-in-Ts2diff-clause-found c = found_by (λ list. list.items) value.I64 ts2diff.spelling (FitsSigned w64) c.args.encoding Ts2diff c.in-Ts2diff.is ts2diff_int64 c.args.bytes.now c.decode_i64-in-Ts2diff.result c.decode_i64-in-Ts2diff.ensures.found

pub returns-in-Ts2diff-clause-bad : goal.returns-in-Ts2diff-clause-bad
returns-in-Ts2diff-clause-bad c = λ is_bad. none_by value.I64 ts2diff.spelling (FitsSigned w64) c.args.encoding Ts2diff c.in-Ts2diff.is ts2diff_int64 c.args.bytes.now (c.decode_i64-in-Ts2diff.ensures.bad is_bad)
