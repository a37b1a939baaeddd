use Rattle.std.proofs.Common.{rules}
use Rattle.std.proofs.lemmas.Result.{IfOk-from_err}
use Rattle.fs_outside.proofs.NameLemmas.{number_is}
use Rattle.fs_outside.proofs.file_name.number_of_name.Goals.{else-is_file_number-via-then-is_file_number+in_ok-name_of_number+else-eq, else-is_file_number-via-else-is_file_number}
use Rattle.fs_outside.proofs.file_name.number_of_name.Goals as goal

pub returns-clause-none : goal.returns-clause-none
returns-clause-none c = λ none n fits named.
    let same = number_is c.args.name.now c.in-Some.digits.now c.number_in.result c.in-Some-number_in.number n c.in-Some.ensures c.number_in.ensures c.in-Some-number_in.is fits named in
    elim c.else-is_file_number.branch [
      | else-is_file_number-via-then-is_file_number+in_ok-name_of_number+else-eq w ↦ search (same, named, rules)
      | else-is_file_number-via-else-is_file_number w ↦ search (same, fits, rules)
    ]

pub returns-in_default-clause-number : goal.returns-in_default-clause-number
returns-in_default-clause-number c = tt

pub returns-in_default-clause-name : goal.returns-in_default-clause-name
returns-in_default-clause-name c = tt

pub returns-in_default-number_in-clause-number : goal.returns-in_default-number_in-clause-number
returns-in_default-number_in-clause-number c = tt

pub returns-in_default-number_in-clause-name : goal.returns-in_default-number_in-clause-name
returns-in_default-number_in-clause-name c = tt

pub returns-clause-number : goal.returns-clause-number
returns-clause-number c = tt

pub returns-clause-name : goal.returns-clause-name
returns-clause-name c = tt

pub returns-in_err-name_of_number-clause-number : goal.returns-in_err-name_of_number-clause-number
returns-in_err-name_of_number-clause-number c = IfOk-from_err c.from_residual.result _ c.from_residual.ensures.0

pub returns-in_err-name_of_number-clause-name : goal.returns-in_err-name_of_number-clause-name
returns-in_err-name_of_number-clause-name c = IfOk-from_err c.from_residual.result _ c.from_residual.ensures.0

pub returns-in_err-name_of_number-clause-none : goal.returns-in_err-name_of_number-clause-none
returns-in_err-name_of_number-clause-none c = IfOk-from_err c.from_residual.result _ c.from_residual.ensures.0
