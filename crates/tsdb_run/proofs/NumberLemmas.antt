-- Bytes that are no number.
use Rattle.std.proofs.Common.{◌≡◌, ℕ, ◌<◌, ◌^◌, true≢false, Bool, false, List, Bor, Option, None, Some, Result, Ok, Err, sym, ap, ◌∙◌, arith, subst}
use Rattle.std.specs.Prelude.{◌↔◌, IfNone, IsTrue, slice_index}
use Rattle.std.specs.Str.{IsUtf8, IsValidUpTo, valid_up_to}
use Rattle.std.specs.Str.Parse.{AllDigits, IsNumeral, ParsesUnsigned, digits_value, without_leading_plus}
use Rattle.std.specs.Result.{MatchResult, result_ok}
use Rattle.std.specs.declared.str.Utf8Error.{Utf8Error}
use Rattle.std.proofs.lemmas.Fmt.{IsAscii-from_digits}
use Rattle.std.proofs.lemmas.Str.{IsUtf8-from_ascii}
use Rattle.std.proofs.lemmas.Str.Parse.{digits_value_short, numerals_by_value, tells_digits, without_leading_plus_none}
use Rattle.tsdb_run.specs.Words.{IsNumber}

-- bytes that are no text are no number
pub no_text : (bytes : List ℕ) (text : Result (Bor (List ℕ)) Utf8Error) (found : Option (Bor (List ℕ)))
    → MatchResult text (λ s. (s.now ≡ bytes) × IsUtf8 bytes) (λ e. ¬ (IsUtf8 bytes) × IsValidUpTo bytes (valid_up_to e))
    → found ≡ None → found ≡ result_ok text → (number : ℕ) → ¬ IsNumber bytes number
no_text bytes (Ok s) found cases none is number it = cc
no_text bytes (Err e) found cases none is number it = cases.0 (IsUtf8-from_ascii bytes (IsAscii-from_digits bytes it.digits.1))

-- a text of bytes has these bytes
pub text_is : (bytes : List ℕ) (text : Result (Bor (List ℕ)) Utf8Error) (found : Option (Bor (List ℕ))) (s : Bor (List ℕ))
    → MatchResult text (λ s. (s.now ≡ bytes) × IsUtf8 bytes) (λ e. ¬ (IsUtf8 bytes) × IsValidUpTo bytes (valid_up_to e))
    → found ≡ Some s → found ≡ result_ok text → s.now ≡ bytes
text_is bytes (Ok t) found s cases some is = let same : t ≡ s = cc in ap (λ (b : Bor (List ℕ)). b.now) (sym same) ∙ cases.0
text_is bytes (Err e) found s cases some is = cc

value_short : (bytes : List ℕ) (number : ℕ) → IsNumber bytes number → digits_value 10 bytes < 10000000
value_short bytes number it = digits_value_short (numerals_by_value (AllDigits 10) tells_digits) bytes 7 it.digits.1 it.short

-- a text that is not parsed is no number
pub not_parsed : {E : Type 0} (bytes text : List ℕ) (parsed : Result ℕ E) (found : Option ℕ) (plus : Bool) → text ≡ bytes → ParsesUnsigned 64 10 text parsed
    → (IsTrue plus ↔ (slice_index bytes 0 ≡ 43)) → plus ≡ false → found ≡ result_ok parsed → IfNone found ((number : ℕ) → ¬ IsNumber bytes number)
not_parsed bytes text parsed (Some n) plus same parses begins plain is = tt
not_parsed bytes text (Ok n) None plus same parses begins plain is = cc
not_parsed bytes text (Err e) None plus same parses begins plain is = λ number it.
    parses (subst (λ l. IsNumeral 10 l × (digits_value 10 l < 2 ^ 64))
    (sym (ap without_leading_plus same ∙ without_leading_plus_none bytes (λ e. true≢false (sym (begins.1 e) ∙ plain))))
    (it.digits, omega (arith, value_short bytes number it)))
