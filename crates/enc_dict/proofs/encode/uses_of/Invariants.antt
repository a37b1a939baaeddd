use Rattle.std.proofs.Common.{take}
use Rattle.enc_dict.specs.Spelling.{first_uses, lent}
use Rattle.enc_dict.specs.Steps.{IsDictionary}
use Rattle.enc_dict.proofs.FirstUses.{Numbered}
use Rattle.enc_dict.proofs.encode.uses_of.Given as goal

abbrev pub invariant-loop-text : goal.invariant-loop-text
invariant-loop-text l = record {
  numbered : Numbered l.texts.items l.places.items (take l.text-index (lent l.values));
  dictionary : IsDictionary (first_uses (take l.text-index (lent l.values))) l.dictionary;
}
