use Rattle.std.proofs.Common.{◌≡◌, ◌∷◌, [], true, false, true≢false, inl, sym, ◌∙◌, rules}
use Rattle.std.specs.Prelude.{FitsSigned}
use Rattle.std.specs.Int.{w64}
use Rattle.std.proofs.lemmas.Int.{to_z-of_z}
use Rattle.tsdb_script.specs.Meaning.{DevicePath}
use Rattle.tsdb_script.proofs.Objections.{bad_value, insert_means, insert_whole}
use Rattle.tsdb_script.proofs.WordLists.{bad_behind, bad_earlier, bad_later, passed_on}
use Rattle.tsdb_script.proofs.meaning.insert.Goals as goal

pub returns-in_err-device-clause-bad : goal.returns-in_err-device-clause-bad
returns-in_err-device-clause-bad c = passed_on _ _ _ _ c.from_residual.ensures.1 c.in_err-device.ensures.bad (λ kind bad. inl (bad_behind [] _ _ kind tt bad))

pub returns-in_err-names-clause-bad : goal.returns-in_err-names-clause-bad
returns-in_err-names-clause-bad c =
    let bad = rw (c.items.ensures, c.in_ok-device.ensures.found.0) at c.in_err-names.ensures.bad in
    passed_on _ _ _ _ c.from_residual-in_err-names.ensures.1 bad
    (λ kind bad. inl (bad_later (DevicePath _ ∷ []) _ kind (c.in_ok-device.ensures.found.1, tt) (bad_earlier _ _ kind bad)))

pub returns-in_err-time-clause-bad : goal.returns-in_err-time-clause-bad
returns-in_err-time-clause-bad c =
    let named = rw (c.items.ensures, c.in_ok-device.ensures.found.0) at c.in_ok-names.ensures.found.1 in
    passed_on _ _ _ _ c.from_residual-in_err-time.ensures.1 c.in_err-time.ensures.bad
    (λ kind bad. inl (bad_later (DevicePath _ ∷ []) _ kind (c.in_ok-device.ensures.found.1, tt) (bad_behind _ _ _ kind named bad)))

pub returns-in_err-check_values-clause-bad : goal.returns-in_err-check_values-clause-bad
returns-in_err-check_values-clause-bad c =
    let named = rw (c.items.ensures, c.in_ok-device.ensures.found.0) at c.in_ok-names.ensures.found.1 in
    let bad = rw c.items-then-not-branch.ensures at c.in_err-check_values.ensures.bad in
    passed_on _ _ _ _ c.from_residual-in_err-check_values.ensures.1 bad
    (λ kind bad. inl (bad_value _ _ _ _ kind c.in_ok-device.ensures.found.1 named (c.in_ok-time.time, c.in_ok-time.ensures.found) bad))

pub returns-then-not-branch-clause-bad : goal.returns-then-not-branch-clause-bad
returns-then-not-branch-clause-bad c =
    let a = c.args in
    let named = rw (c.items.ensures, c.in_ok-device.ensures.found.0) at c.in_ok-names.ensures.found.1 in
    let said = rw c.items-then-not-branch.ensures at c.in_ok-check_values.ensures.good in
    let paired = rw (c.as_slice.ensures.value, c.items-2.ensures, c.in_ok-names.ensures.found.0, c.items.ensures) at c.in_ok-are_paired.ensures in
    insert_whole a.device.now a.names.now a.time.now a.values.now c.in_ok-device.ensures.found.1 named (c.in_ok-time.time, c.in_ok-time.ensures.found) said
    (λ is. (let unpaired : c.in_ok-are_paired.field-0 ≡ false = search rules in true≢false (sym (paired.1 is) ∙ unpaired)))

pub returns-in_err-cells-clause-bad : goal.returns-in_err-cells-clause-bad
returns-in_err-cells-clause-bad c =
    let named = rw (c.items.ensures, c.in_ok-device.ensures.found.0) at c.in_ok-names.ensures.found.1 in
    let bad = rw c.items-3.ensures at c.in_err-cells.ensures.bad in
    passed_on _ _ _ _ c.from_residual-in_err-cells.ensures.1 bad
    (λ kind bad. inl (bad_value _ _ _ _ kind c.in_ok-device.ensures.found.1 named (c.in_ok-time.time, c.in_ok-time.ensures.found) bad))

pub returns-clause-found : goal.returns-clause-found
returns-clause-found c =
    let a = c.args in
    let named = rw (c.items.ensures, c.in_ok-device.ensures.found.0) at c.in_ok-names.ensures.found.1 in
    let paired = rw (c.as_slice.ensures.value, c.items-2.ensures, c.in_ok-names.ensures.found.0, c.items.ensures) at c.in_ok-are_paired.ensures in
    let is : c.in_ok-are_paired.field-0 ≡ true = search rules in
    let fits : FitsSigned w64 c.in_ok-time.time = c.in_ok-time.ensures.found.fits in
    let measured = rw (← c.of-cells.ensures, c.in_ok-names.ensures.found.0, c.items.ensures) at c.in_ok-cells.ensures.names in
    let said = rw (← c.of-cells.ensures, c.items-3.ensures) at c.in_ok-cells.ensures.values in
    simp to_z-of_z (insert_means a.device.now a.names.now a.time.now a.values.now c.in_ok-device.device c.in_ok-time.time c.of-cells.result
    c.in_ok-device.ensures.found.0 c.in_ok-device.ensures.found.1 named c.in_ok-time.ensures.found (paired.0 is) measured said)
