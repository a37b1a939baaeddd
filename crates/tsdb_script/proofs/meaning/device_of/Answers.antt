use Rattle.std.proofs.Common.{refl, sym, ◌∙◌, true≢false}
use Rattle.tsdb_script.proofs.Rooms.{all_fit}
use Rattle.tsdb_script.proofs.WordLists.{passed_on}
use Rattle.tsdb_script.proofs.meaning.device_of.Goals as goal

pub returns-in_err-device-clause-bad : goal.returns-in_err-device-clause-bad
returns-in_err-device-clause-bad c = passed_on _ _ _ _ c.from_residual.ensures.1 c.in_err-device.ensures.bad (λ kind bad. ((λ good. bad.0 (good.0, good.1)), bad.1))

pub returns-then-are_short-clause-found : goal.returns-then-are_short-clause-found
returns-then-are_short-clause-found c =
    let room = rw c.in_ok-device.ensures.found.0 at c.room_of.ensures in
    let fits = all_fit c.args.word.now c.room_of.result c.args.columns.now room c.requires in
    let good = c.in_ok-device.ensures.found in
    (good.0, (good.1.0, good.1.1, fits.0 (c.are_short.ensures.0 c.if-are_short.true)))

pub returns-else-are_short-clause-bad : goal.returns-else-are_short-clause-bad
returns-else-are_short-clause-bad c =
    let room = rw c.in_ok-device.ensures.found.0 at c.room_of.ensures in
    let fits = all_fit c.args.word.now c.room_of.result c.args.columns.now room c.requires in
    ((λ good. true≢false (sym (c.are_short.ensures.1 (fits.1 good.2)) ∙ c.if-are_short.false)), refl)
