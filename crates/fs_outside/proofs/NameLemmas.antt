-- The name of a file of a store is read as its number.
use Rattle.std.proofs.Common.{◌≡◌, ℕ, ◌^◌, ◌<◌, List, ◌++◌, sym, ◌∙◌, arith}
use Rattle.std.specs.Prelude.{Some, codes}
use Rattle.std.specs.declared.option.Option.{Option}
use Rattle.std.specs.Fmt.{decimal}
use Rattle.std.proofs.lemmas.List.{append_cancel_right}
use Rattle.tsdb_outside.specs.Files.{IsFileNumber}
use Rattle.fs_outside.specs.FileName.{file_name}

-- What digits before the suffix are read as is the number whose name this is, where one has it.
pub number_is : (name digits : List ℕ) (found : Option ℕ) (number n : ℕ) → name ≡ digits ++ codes ".tsfile"
    → ((m : ℕ) → m < 2 ^ 64 → digits ≡ decimal m → found ≡ Some m) → found ≡ Some number
    → IsFileNumber n → name ≡ file_name n → number ≡ n
number_is name digits found number n before reads is fits named =
    let digits_are : digits ≡ decimal n = append_cancel_right digits (decimal n) (codes ".tsfile") (sym before ∙ named) in
    let same : Some number ≡ Some n = sym is ∙ reads n (omega (arith, fits.high)) digits_are in
    cc same
