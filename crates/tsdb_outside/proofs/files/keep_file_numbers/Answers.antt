use Rattle.std.proofs.Common.{rules}
use Rattle.std.proofs.lemmas.List.Elements.{filter_from_retain}
use Rattle.tsdb_outside.specs.Files.{is_number}
use Rattle.tsdb_outside.proofs.files.keep_file_numbers.Goals as goal

pub returns : goal.returns
returns c = record {
  kept = filter_from_retain _ is_number (λ p x b q r. search rules) _ _ _ c.retain.ensures.filtered;
}
