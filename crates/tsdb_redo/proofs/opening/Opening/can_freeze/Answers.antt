use Rattle.std.proofs.Common.{◌∙◌, ap, length, sym}
use Rattle.std.proofs.lemmas.List.{length-map}
use Rattle.tsdb_memory.specs.Model.{frozen_in}
use Rattle.tsdb_redo.proofs.Deciding.{no_place, unless_idle}
use Rattle.tsdb_redo.proofs.opening.Opening.can_freeze.Goals as goal

pub returns-then-frozen-ge-MAX_FROZEN : goal.returns-then-frozen-ge-MAX_FROZEN
returns-then-frozen-ge-MAX_FROZEN c = no_place c.args.self.now.memory (length c.frozen.result.now)
    (sym (length-map c.frozen.result.now frozen_in) ∙ ap length c.frozen.ensures.value) c.if-frozen-ge-MAX_FROZEN.true

pub returns : goal.returns
returns c = unless_idle c.args.self.now.memory (length c.frozen.result.now)
    (sym (length-map c.frozen.result.now frozen_in) ∙ ap length c.frozen.ensures.value) c.if-frozen-ge-MAX_FROZEN.false
    c.is_idle.result c.is_idle.ensures.state c.is_idle.ensures.some
