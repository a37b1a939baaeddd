use Rattle.std.proofs.Common.{◌≡◌, map, take}
use Rattle.enc_dict.specs.Spelling.{lent}
use Rattle.tsdb_pages.specs.ListSpelling.{text_of}
use Rattle.tsdb_pages.proofs.encoder.texts_of.Given as goal

abbrev pub invariant-loop-item : goal.invariant-loop-item
invariant-loop-item g l = lent l.texts.items ≡ map (λ item. text_of (g.T.HasValue.value_of item)) (take l.item-index l.items)
