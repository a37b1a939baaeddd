use Rattle.std.proofs.Common.{◌≡◌, ◌↔◌, ℕ, List, filter, ◌∙◌, subst, sym}
use Rattle.std.specs.Prelude.{All, Contains, IfOk}
use Rattle.std.specs.List.Sorted.{IsStrictlyIncreasing}
use Rattle.std.proofs.lemmas.List.Kept.{IsStrictlyIncreasing-filter}
use Rattle.std.proofs.lemmas.Result.{IfOk-weaker}
use Rattle.tsdb_outside.specs.Files.{IsFileNumber, is_number, plain_numbers}
use Rattle.tsdb_outside.proofs.ListOfNumbers.{all_are_numbers, are_there, Contains-from_filter}
use Rattle.tsdb_outside.proofs.files.list_of_numbers.Goals as goal

pub returns-clause-numbers : goal.returns-clause-numbers
returns-clause-numbers c =
    let sorted = c.sort_once.new.numbers.items in
    IfOk-weaker c.into_file_numbers.result (λ list. plain_numbers list.items ≡ c.keep_file_numbers.new.numbers.items) (λ list. All IsFileNumber (plain_numbers list.items))
    (λ list is. subst (λ ns. All IsFileNumber ns) (sym (is ∙ c.keep_file_numbers.ensures.kept)) (all_are_numbers sorted))
    c.into_file_numbers.ensures

pub returns-clause-rising : goal.returns-clause-rising
returns-clause-rising c =
    let sorted = c.sort_once.new.numbers.items in
    IfOk-weaker c.into_file_numbers.result (λ list. plain_numbers list.items ≡ c.keep_file_numbers.new.numbers.items) (λ list. IsStrictlyIncreasing (plain_numbers list.items))
    (λ list is. subst (λ ns. IsStrictlyIncreasing ns) (sym (is ∙ c.keep_file_numbers.ensures.kept)) (IsStrictlyIncreasing-filter is_number sorted c.sort_once.ensures.rising))
    c.into_file_numbers.ensures

pub returns-clause-exact : goal.returns-clause-exact
returns-clause-exact c =
    let sorted = c.sort_once.new.numbers.items in
    IfOk-weaker c.into_file_numbers.result (λ list. plain_numbers list.items ≡ c.keep_file_numbers.new.numbers.items) (λ list. (n : ℕ) → IsFileNumber n → Contains (plain_numbers list.items) n ↔ Contains c.args.numbers.items n)
    (λ list is n fits. subst (λ ns. Contains ns n ↔ Contains c.args.numbers.items n) (sym (is ∙ c.keep_file_numbers.ensures.kept)) (
      λ h. c.sort_once.ensures.adds_none n (Contains-from_filter is_number sorted n h),
      λ h. are_there sorted n fits (c.sort_once.ensures.keeps n h),
    ))
    c.into_file_numbers.ensures
