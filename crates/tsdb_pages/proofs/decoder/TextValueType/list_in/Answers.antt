use Rattle.tsdb_base.specs.declared.value.Encoding.TheVariants.{Plain, Dictionary}
use Rattle.tsdb_base.specs.declared.value.Value.TheVariants as value
use Rattle.tsdb_base.specs.Plain.{plain_text, IsText}
use Rattle.enc_plain.specs.Spelling as plain
use Rattle.enc_dict.specs.Spelling as dict
use Rattle.tsdb_pages.proofs.OneType.{found_by, none_by, plain_texts, dictionary_texts}
use Rattle.tsdb_pages.proofs.decoder.TextValueType.list_in.Goals as goal

pub returns-in-Plain-clause-found : goal.returns-in-Plain-clause-found
returns-in-Plain-clause-found c = found_by (λ list. list.items) value.Text (plain.spelling plain_text) IsText c.args.encoding Plain c.in-Plain.is plain_texts c.args.bytes.now c.decode_text.result c.decode_text.ensures.found

pub returns-in-Plain-clause-bad : goal.returns-in-Plain-clause-bad
returns-in-Plain-clause-bad c = λ is_bad. none_by value.Text (plain.spelling plain_text) IsText c.args.encoding Plain c.in-Plain.is plain_texts c.args.bytes.now (c.decode_text.ensures.bad is_bad)

pub returns-in-Dictionary-clause-found : goal.returns-in-Dictionary-clause-found
returns-in-Dictionary-clause-found c = found_by (λ list. list.items) value.Text dict.spelling IsText c.args.encoding Dictionary c.in-Dictionary.is dictionary_texts c.args.bytes.now c.decode_text-in-Dictionary.result c.decode_text-in-Dictionary.ensures.found

pub returns-in-Dictionary-clause-bad : goal.returns-in-Dictionary-clause-bad
returns-in-Dictionary-clause-bad c = λ is_bad. none_by value.Text dict.spelling IsText c.args.encoding Dictionary c.in-Dictionary.is dictionary_texts c.args.bytes.now (c.decode_text-in-Dictionary.ensures.bad is_bad)
