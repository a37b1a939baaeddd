use Rattle.std.proofs.lemmas.Grind.{common_steps}
use Rattle.std.proofs.Common.{◌≡◌, ◌≤◌, length, refl, arith, ap, ◌∙◌}
use Rattle.tsdb_script.specs.Meaning.{Measurement}
use Rattle.tsdb_script.proofs.WordLists.{bad_at, good_next, next, passed_on}
use Rattle.tsdb_script.proofs.meaning.measurements.Goals as goal

pub returns-in_err-name-clause-bad : goal.returns-in_err-name-clause-bad
returns-in_err-name-clause-bad c =
    passed_on _ _ _ _ c.from_residual-in_err-name.ensures.1 c.in_err-name.ensures.bad
    (λ kind bad. bad_at (Measurement c.args.device.now) _ _ _ kind c.loop-word-test.true c.word-item.is c.loop-word.invariant.good ((λ good. bad.0 good.0), bad.1))

pub returns-then-bytes-room-clause-bad : goal.returns-then-bytes-room-clause-bad
returns-then-bytes-room-clause-bad c =
    let same : length c.bytes.result.now ≡ length c.word-item.result = ap length (c.bytes.ensures.value ∙ c.in_ok-name.ensures.found.0) in
    bad_at (Measurement c.args.device.now) _ _ _ 4 c.loop-word-test.true c.word-item.is c.loop-word.invariant.good
    ((λ good. omega (arith, (c.room_of-room.ensures c.word-item.result good.0).0 good.1)), refl)

pub loop-word-preserved : goal.loop-word-preserved
loop-word-preserved c =
    let same : length c.bytes.result.now ≡ length c.word-item.result = ap length (c.bytes.ensures.value ∙ c.in_ok-name.ensures.found.0) in
    let short : length c.word-item.result ≤ c.room_of-room.result = omega arith in
    record {
      found = rw (next c.args.words.now c.loop-word.word-index c.word-item.result c.loop-word-test.true c.word-item.is, c.in_ok-push.ensures.items, c.in_ok-name.ensures.found.0, c.loop-word.invariant.found) refl;
      good = good_next (Measurement c.args.device.now) _ _ _ c.loop-word-test.true c.word-item.is c.loop-word.invariant.good
          (c.in_ok-name.ensures.found.1, (c.room_of-room.ensures c.word-item.result c.in_ok-name.ensures.found.1).1 short);
    }

pub returns-clause-found : goal.returns-clause-found
returns-clause-found c = grind (arith, common_steps)
