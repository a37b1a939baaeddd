-- The bytes of an integer are a text.
use Rattle.std.proofs.Common.{◌≡◌, ℕ, ℤ, List, [], ◌∷◌, drop, Bor, Option, None, Result, Ok, Err, eqb, arith}
use Rattle.std.specs.Str.{IsAscii, IsUtf8, IsValidUpTo, valid_up_to}
use Rattle.std.specs.Result.{MatchResult, result_ok}
use Rattle.std.specs.declared.str.Utf8Error.{Utf8Error}
use Rattle.std.specs.Str.Parse.{AllDigits, without_leading_sign}
use Rattle.std.proofs.lemmas.Bool.{cond_both, eqb-true}
use Rattle.std.proofs.lemmas.Fmt.{IsAscii-from_digits}
use Rattle.std.proofs.lemmas.Str.{IsUtf8-from_ascii}
use Rattle.std.proofs.lemmas.Str.Ascii.{IsAscii-cons, IsAscii-nil}
use Rattle.tsdb_script.specs.Meaning.{IsInteger}

ascii : (bytes : List ℕ) → AllDigits 10 (without_leading_sign bytes) → IsAscii bytes
ascii [] digits = IsAscii-nil
ascii (b ∷ bytes) digits =
    cond_both (eqb b 45) _ _ (λ (l : List ℕ). AllDigits 10 l → IsAscii (b ∷ bytes))
    (λ e h. IsAscii-cons b bytes (omega (arith, eqb-true b 45 e)) (IsAscii-from_digits bytes h))
    (λ other. cond_both (eqb b 43) 1 0 (λ n. AllDigits 10 (drop n (b ∷ bytes)) → IsAscii (b ∷ bytes))
    (λ e h. IsAscii-cons b bytes (omega (arith, eqb-true b 43 e)) (IsAscii-from_digits bytes h))
    (λ other h. IsAscii-from_digits (b ∷ bytes) h)) digits

-- an integer is a text
pub IsUtf8-integer : (bytes : List ℕ) (number : ℤ) → IsInteger bytes number → IsUtf8 bytes
IsUtf8-integer bytes number is = IsUtf8-from_ascii bytes (ascii bytes is.digits.1)

-- bytes of which no text was made are none
pub no_text : (bytes : List ℕ) (text : Result (Bor (List ℕ)) Utf8Error) (found : Option (Bor (List ℕ)))
    → MatchResult text (λ s. (s.now ≡ bytes) × IsUtf8 bytes) (λ e. ¬ (IsUtf8 bytes) × IsValidUpTo bytes (valid_up_to e)) → found ≡ None → found ≡ result_ok text → ¬ (IsUtf8 bytes)
no_text bytes (Ok s) found cases none is = cc
no_text bytes (Err e) found cases none is = cases.0
