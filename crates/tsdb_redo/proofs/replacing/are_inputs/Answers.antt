use Rattle.std.proofs.Common.{◌∙◌, inl, inr, refl, rules, sym}
use Rattle.std.proofs.lemmas.Bool.{false≢true}
use Rattle.tsdb_redo.proofs.Inputs.{apart_by, inputs_end, inputs_fail, inputs_next, same_by}
use Rattle.tsdb_redo.proofs.replacing.are_inputs.Goals as goal

pub loop-place-init : goal.loop-place-init
loop-place-init c = record { rest = (λ are. are, λ are. are) }

pub returns-then-ne : goal.returns-then-ne
returns-then-ne c = (
  λ yes. absurd (false≢true yes),
  λ are. absurd (inputs_fail c.args.files.now c.args.numbers.now c.args.born c.loop-place.place _ _ (search rules)
      c.loop-place-test.true c.loop-place.invariant.rest (inl (apart_by _ _ (sym c.ne.ensures ∙ c.if-ne.true))) are),
)

pub returns-then-file-born : goal.returns-then-file-born
returns-then-file-born c = (
  λ yes. absurd (false≢true yes),
  λ are. absurd (inputs_fail c.args.files.now c.args.numbers.now c.args.born c.loop-place.place _ (record { 0 = 0 }) (search rules)
      c.loop-place-test.true c.loop-place.invariant.rest (inr c.if-file-born.true) are),
)

pub loop-place-preserved : goal.loop-place-preserved
loop-place-preserved c = record {
  rest = inputs_next c.args.files.now c.args.numbers.now c.args.born c.loop-place.place _ _ (search rules)
      c.loop-place-test.true c.loop-place.invariant.rest (same_by _ _ (sym c.ne.ensures ∙ c.if-ne.false)) c.if-file-born.false;
}

pub returns : goal.returns
returns c = (
  λ yes. inputs_end c.args.files.now c.args.numbers.now c.args.born c.loop-place.place (search rules)
      c.loop-place-test.false c.loop-place.invariant.rest,
  λ are. refl,
)
