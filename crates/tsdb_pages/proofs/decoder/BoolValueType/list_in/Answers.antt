use Rattle.tsdb_base.specs.declared.value.Encoding.TheVariants.{Plain, Rle}
use Rattle.tsdb_base.specs.declared.value.Value.TheVariants as value
use Rattle.tsdb_base.specs.Plain.{plain_bool}
use Rattle.enc_plain.specs.Spelling as plain
use Rattle.enc_rle.specs.Spelling as rle
use Rattle.tsdb_pages.proofs.OneType.{found_by, none_by, plain_booleans, rle_booleans}
use Rattle.tsdb_pages.proofs.decoder.BoolValueType.list_in.Goals as goal

pub returns-in-Plain-clause-found : goal.returns-in-Plain-clause-found
returns-in-Plain-clause-found c = found_by (λ list. list.items) value.Bool (plain.spelling plain_bool) (λ _. Unit {0}) c.args.encoding Plain c.in-Plain.is plain_booleans c.args.bytes.now c.decode_bool.result c.decode_bool.ensures.found

pub returns-in-Plain-clause-bad : goal.returns-in-Plain-clause-bad
returns-in-Plain-clause-bad c = λ is_bad. none_by value.Bool (plain.spelling plain_bool) (λ _. Unit {0}) c.args.encoding Plain c.in-Plain.is plain_booleans c.args.bytes.now (c.decode_bool.ensures.bad is_bad)

pub returns-in-Rle-clause-found : goal.returns-in-Rle-clause-found
returns-in-Rle-clause-found c = found_by (λ list. list.items) value.Bool (rle.spelling rle.bool_code) (λ _. Unit {0}) c.args.encoding Rle c.in-Rle.is rle_booleans c.args.bytes.now c.decode_bool-in-Rle.result c.decode_bool-in-Rle.ensures.found

pub returns-in-Rle-clause-bad : goal.returns-in-Rle-clause-bad
returns-in-Rle-clause-bad c = λ is_bad. none_by value.Bool (rle.spelling rle.bool_code) (λ _. Unit {0}) c.args.encoding Rle c.in-Rle.is rle_booleans c.args.bytes.now (c.decode_bool-in-Rle.ensures.bad is_bad)
