use Rattle.std.proofs.Common.{◌≡◌, ◌∷◌, [], false, rules, inl, inr, refl, sym, ◌∙◌, true≢false}
use Rattle.tsdb_script.specs.Meaning.{DeviceOf}
use Rattle.tsdb_script.proofs.Objections.{select_words}
use Rattle.tsdb_script.proofs.WordLists.{bad_behind, bad_earlier, bad_later, passed_on}
use Rattle.tsdb_script.proofs.meaning.select.Goals as goal

pub returns-in_err-items-clause-bad : goal.returns-in_err-items-clause-bad
returns-in_err-items-clause-bad c =
    let bad = rw c.items.ensures at c.in_err-items.ensures.bad in
    passed_on _ _ _ _ c.from_residual.ensures.1 bad (λ kind bad. inl (bad_earlier _ _ kind bad))

pub returns-in_err-device-clause-bad : goal.returns-in_err-device-clause-bad
returns-in_err-device-clause-bad c =
    let good = rw c.items.ensures at c.in_ok-items.ensures.good in
    let bad = rw c.items-3.ensures at c.in_err-device.ensures.bad in
    passed_on _ _ _ _ c.from_residual-in_err-device.ensures.1 bad (λ kind bad. inl (bad_behind _ _ _ kind good bad))

pub returns-in_err-range-clause-bad : goal.returns-in_err-range-clause-bad
returns-in_err-range-clause-bad c =
    let good = rw c.items.ensures at c.in_ok-items.ensures.good in
    let path = rw c.items-3.ensures at c.in_ok-device.ensures.found.1 in
    let bad = rw c.items-4.ensures at c.in_err-range.ensures.bad in
    passed_on _ _ _ _ c.from_residual-in_err-range.ensures.1 bad (λ kind bad. inl (bad_later _ _ kind good (bad_later (DeviceOf _ _ ∷ []) _ kind (path, tt) bad)))

pub returns-then-not-are_alike-clause-bad : goal.returns-then-not-are_alike-clause-bad
returns-then-not-are_alike-clause-bad c =
    let a = c.args in
    let good = rw c.items.ensures at c.in_ok-items.ensures.good in
    let path = rw c.items-3.ensures at c.in_ok-device.ensures.found.1 in
    let ranged = rw c.items-4.ensures at c.in_ok-range.ensures.good in
    inr (select_words a.columns.now a.device.now a.conditions.now good path ranged, (λ is. (let unlike : c.are_alike.result ≡ false = search rules in true≢false (sym (c.are_alike.ensures.1 (rw c.items-5.ensures is)) ∙ unlike))), refl)

pub returns-clause-found : goal.returns-clause-found
returns-clause-found c =
    let a = c.args in
    let good = rw c.items.ensures at c.in_ok-items.ensures.good in
    let items = rw c.items.ensures at c.in_ok-items.ensures.found in
    let path = rw c.items-3.ensures at c.in_ok-device.ensures.found.1 in
    let range = rw c.items-4.ensures at c.in_ok-range.ensures.found in
    let ranged = rw c.items-4.ensures at c.in_ok-range.ensures.good in
    let alike = rw c.items-5.ensures at (c.are_alike.ensures.0 c.if-not-are_alike.false) in
    record {
      words = select_words a.columns.now a.device.now a.conditions.now good path ranged;
      balanced = alike;
      says = (c.in_ok-device.ensures.found.0, rw c.of-items.ensures items, range);
    }
