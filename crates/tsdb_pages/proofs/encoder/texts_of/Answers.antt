use Rattle.std.proofs.Common.{ap, ◌∙◌, arith}
use Rattle.std.proofs.lemmas.Grind.{common_steps}
use Rattle.std.proofs.lemmas.List.{map_push}
use Rattle.enc_dict.specs.Spelling.{lent}
use Rattle.tsdb_pages.proofs.encoder.texts_of.Goals as goal

pub loop-item-preserved : goal.loop-item-preserved
loop-item-preserved g c =
    let more = ap lent c.in_ok-push.ensures.items ∙ map_push (λ text. text.now) c.loop-item.texts.items _ in
    grind (arith, common_steps, more)

pub returns : goal.returns
returns g c = grind (arith, common_steps)
