use Rattle.std.proofs.Common.{◌≡◌, ◌∙◌, refl}
use Rattle.std.specs.Arc.{arc_value}
use Rattle.std.specs.String.{string_bytes}
use Rattle.std.proofs.lemmas.Result.{IfOk-from_err}
use Rattle.fs_outside.proofs.place.open_parts.Goals as goal

pub returns-in_default-clause-path : goal.returns-in_default-clause-path
returns-in_default-clause-path g c = tt

pub returns-in_default-clause-store : goal.returns-in_default-clause-store
returns-in_default-clause-store g c = tt

pub returns-in_default-clause-faults : goal.returns-in_default-clause-faults
returns-in_default-clause-faults g c = tt

pub returns-then-is_empty-clause-path : goal.returns-then-is_empty-clause-path
returns-then-is_empty-clause-path g c = tt

pub returns-then-is_empty-clause-store : goal.returns-then-is_empty-clause-store
returns-then-is_empty-clause-store g c = tt

pub returns-then-is_empty-clause-faults : goal.returns-then-is_empty-clause-faults
returns-then-is_empty-clause-faults g c = tt

pub returns-in_err-from_str-clause-path : goal.returns-in_err-from_str-clause-path
returns-in_err-from_str-clause-path g c = IfOk-from_err c.from_residual.result _ c.from_residual.ensures.0

pub returns-in_err-from_str-clause-store : goal.returns-in_err-from_str-clause-store
returns-in_err-from_str-clause-store g c = IfOk-from_err c.from_residual.result _ c.from_residual.ensures.0

pub returns-in_err-from_str-clause-faults : goal.returns-in_err-from_str-clause-faults
returns-in_err-from_str-clause-faults g c = IfOk-from_err c.from_residual.result _ c.from_residual.ensures.0

pub returns-in_err-path-clause-path : goal.returns-in_err-path-clause-path
returns-in_err-path-clause-path g c = IfOk-from_err c.from_residual-in_err-path.result _ c.from_residual-in_err-path.ensures.0

pub returns-in_err-path-clause-store : goal.returns-in_err-path-clause-store
returns-in_err-path-clause-store g c = IfOk-from_err c.from_residual-in_err-path.result _ c.from_residual-in_err-path.ensures.0

pub returns-in_err-path-clause-faults : goal.returns-in_err-path-clause-faults
returns-in_err-path-clause-faults g c = IfOk-from_err c.from_residual-in_err-path.result _ c.from_residual-in_err-path.ensures.0

pub returns-in_err-store-clause-path : goal.returns-in_err-store-clause-path
returns-in_err-store-clause-path g c = IfOk-from_err c.from_residual-in_err-store.result _ c.from_residual-in_err-store.ensures.0

pub returns-in_err-store-clause-store : goal.returns-in_err-store-clause-store
returns-in_err-store-clause-store g c = IfOk-from_err c.from_residual-in_err-store.result _ c.from_residual-in_err-store.ensures.0

pub returns-in_err-store-clause-faults : goal.returns-in_err-store-clause-faults
returns-in_err-store-clause-faults g c = IfOk-from_err c.from_residual-in_err-store.result _ c.from_residual-in_err-store.ensures.0

pub returns-in_err-directory-clause-path : goal.returns-in_err-directory-clause-path
returns-in_err-directory-clause-path g c = IfOk-from_err c.from_residual-in_err-directory.result _ c.from_residual-in_err-directory.ensures.0

pub returns-in_err-directory-clause-store : goal.returns-in_err-directory-clause-store
returns-in_err-directory-clause-store g c = IfOk-from_err c.from_residual-in_err-directory.result _ c.from_residual-in_err-directory.ensures.0

pub returns-in_err-directory-clause-faults : goal.returns-in_err-directory-clause-faults
returns-in_err-directory-clause-faults g c = IfOk-from_err c.from_residual-in_err-directory.result _ c.from_residual-in_err-directory.ensures.0

pub returns-in_err-guard-clause-path : goal.returns-in_err-guard-clause-path
returns-in_err-guard-clause-path g c = IfOk-from_err c.from_residual-in_err-guard.result _ c.from_residual-in_err-guard.ensures.0

pub returns-in_err-guard-clause-store : goal.returns-in_err-guard-clause-store
returns-in_err-guard-clause-store g c = IfOk-from_err c.from_residual-in_err-guard.result _ c.from_residual-in_err-guard.ensures.0

pub returns-in_err-guard-clause-faults : goal.returns-in_err-guard-clause-faults
returns-in_err-guard-clause-faults g c = IfOk-from_err c.from_residual-in_err-guard.result _ c.from_residual-in_err-guard.ensures.0

pub returns-in_err-clone-clause-path : goal.returns-in_err-clone-clause-path
returns-in_err-clone-clause-path g c = IfOk-from_err c.from_residual-in_err-clone.result _ c.from_residual-in_err-clone.ensures.0

pub returns-in_err-clone-clause-store : goal.returns-in_err-clone-clause-store
returns-in_err-clone-clause-store g c = IfOk-from_err c.from_residual-in_err-clone.result _ c.from_residual-in_err-clone.ensures.0

pub returns-in_err-clone-clause-faults : goal.returns-in_err-clone-clause-faults
returns-in_err-clone-clause-faults g c = IfOk-from_err c.from_residual-in_err-clone.result _ c.from_residual-in_err-clone.ensures.0

pub returns-in_err-try_clone-clause-path : goal.returns-in_err-try_clone-clause-path
returns-in_err-try_clone-clause-path g c = IfOk-from_err c.from_residual-in_err-try_clone.result _ c.from_residual-in_err-try_clone.ensures.0

pub returns-in_err-try_clone-clause-store : goal.returns-in_err-try_clone-clause-store
returns-in_err-try_clone-clause-store g c = IfOk-from_err c.from_residual-in_err-try_clone.result _ c.from_residual-in_err-try_clone.ensures.0

pub returns-in_err-try_clone-clause-faults : goal.returns-in_err-try_clone-clause-faults
returns-in_err-try_clone-clause-faults g c = IfOk-from_err c.from_residual-in_err-try_clone.result _ c.from_residual-in_err-try_clone.ensures.0

pub returns-clause-path : goal.returns-clause-path
returns-clause-path g c = rw c.in_ok-path.ensures.ok (c.in_ok-from_str.ensures.ok ∙ c.in-Ok.ensures.cases.0)

pub returns-clause-store : goal.returns-clause-store
returns-clause-store g c =
    let path : string_bytes (arc_value c.in_ok-path.path) ≡ c.args.dir.now =
    rw c.in_ok-path.ensures.ok (c.in_ok-from_str.ensures.ok ∙ c.in-Ok.ensures.cases.0) in
    c.new-files.ensures.store ∙ rw (c.in_ok-try_clone.ensures, path) refl

pub returns-clause-faults : goal.returns-clause-faults
returns-clause-faults g c = (c.new-3.ensures.faults, c.new-files.ensures.faults)
