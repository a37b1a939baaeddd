-- Words and numbers, followed by a byte that ends them.
use Rattle.std.proofs.Common.{◌≡◌, ◌≢◌, ℕ, suc, ◌+◌, ◌%◌, ◌^◌, ◌<◌, ◌≤◌, List, [], ◌∷◌, ◌++◌, length, get_or, drop, refl, ap, sym, subst, ◌∙◌, arith}
use Rattle.std.specs.Prelude.{ℤ, pos, negsuc, FitsSigned}
use Rattle.std.specs.Int.{w64, w128}
use Rattle.std.specs.Fmt.{decimal, signed_decimal}
use Rattle.std.specs.Str.Parse.{digits_value}
use Rattle.std.proofs.lemmas.Fmt.{decimal_by_steps_wide, decimal_injective, decimal_is_IsNumeral_wide}
use Rattle.std.proofs.lemmas.Int.{ints}

pub head_of : (b c : ℕ) (x y : List ℕ) → b ∷ x ≡ c ∷ y → b ≡ c
head_of b c x y e = ap (λ l. get_or l 0 0) e

pub tail_of : (b c : ℕ) (x y : List ℕ) → b ∷ x ≡ c ∷ y → x ≡ y
tail_of b c x y e = cc

-- it begins with a byte that ends a word: a comma, a space, a line feed or a parenthesis, and no quote
abbrev pub Stops : List ℕ → Type 0
Stops [] = ⊥
Stops (b ∷ bs) = (b < 45) × (b ≢ 39)

abbrev pub IsWord : List ℕ → Type 0
IsWord [] = Unit {0}
IsWord (b ∷ bs) = (44 < b) × IsWord bs

-- bytes of numbers: digits and `-`
abbrev pub IsNumber : List ℕ → Type 0
IsNumber [] = Unit {0}
IsNumber (b ∷ bs) = (44 < b) × (b < 58) × IsNumber bs

-- two words that are followed alike are the same
pub same_word : (a b x y : List ℕ) → IsWord a → IsWord b → Stops x → Stops y → a ++ x ≡ b ++ y → (a ≡ b) × (x ≡ y)
same_word [] [] x y wa wb sx sy e = (refl, e)
same_word [] (c ∷ b) [] y wa wb sx sy e = absurd sx
same_word [] (c ∷ b) (d ∷ x) y wa wb sx sy e =
    let first : d ≡ c = cc in
    absurd (omega (arith, sx.0, wb.0))
same_word (c ∷ a) [] x [] wa wb sx sy e = absurd sy
same_word (c ∷ a) [] x (d ∷ y) wa wb sx sy e =
    let first : c ≡ d = cc in
    absurd (omega (arith, sy.0, wa.0))
same_word (c ∷ a) (d ∷ b) x y wa wb sx sy e =
    let first : c ≡ d = cc in
    let others : a ++ x ≡ b ++ y = cc in
    let same = same_word a b x y wa.1 wb.1 sx sy others in
    let rest : a ≡ b = same.0 in
    (cc, same.1)

pub IsWord-number : (text : List ℕ) → IsNumber text → IsWord text
IsWord-number [] number = tt
IsWord-number (b ∷ bs) number = (number.0, IsWord-number bs number.2)

IsNumber-append : (a b : List ℕ) → IsNumber a → IsNumber b → IsNumber (a ++ b)
IsNumber-append [] b na nb = nb
IsNumber-append (c ∷ a) b na nb = (na.0, na.1, IsNumber-append a b na.2 nb)

-- a number of at most 64 digits
decimal_number : (n : ℕ) → n < 10 ^ 64 → IsNumber (decimal n)
decimal_number n small =
    decimal_by_steps_wide (λ n ds. IsNumber ds) (λ n h. (omega arith, omega arith, tt))
    (λ n ds h front. IsNumber-append ds ((48 + n % 10) ∷ []) front (omega arith, omega arith, tt)) n small

pub decimal_word : (n : ℕ) → n < 2 ^ 64 → IsWord (decimal n)
decimal_word n small = IsWord-number (decimal n) (decimal_number n (omega arith))

-- a number of 64 bits has 128
pub fits_wide : (z : ℤ) → FitsSigned w64 z → FitsSigned w128 z
fits_wide z fits = omega (arith, ints)

pub signed_number : (z : ℤ) → FitsSigned w128 z → IsNumber (signed_decimal z)
signed_number (pos n) fits = decimal_number n (omega (arith, ints))
signed_number (negsuc n) fits = (omega arith, omega arith, decimal_number (suc n) (omega (arith, ints)))

pub signed_word : (z : ℤ) → FitsSigned w128 z → IsWord (signed_decimal z)
signed_word z fits = IsWord-number (signed_decimal z) (signed_number z fits)

same_decimal : (m n : ℕ) → m < 10 ^ 64 → n < 10 ^ 64 → decimal m ≡ decimal n → m ≡ n
same_decimal m n fm fn e = sym (decimal_is_IsNumeral_wide m fm).1 ∙ ap (digits_value 10) e ∙ (decimal_is_IsNumeral_wide n fn).1

-- it begins with a digit
abbrev BeginsWithDigit : List ℕ → Type 0
BeginsWithDigit [] = ⊥
BeginsWithDigit (b ∷ bs) = 48 ≤ b

digit_then : (a b : List ℕ) → BeginsWithDigit a → BeginsWithDigit (a ++ b)
digit_then [] b begins = absurd begins
digit_then (c ∷ a) b begins = begins

first_digit : (n : ℕ) → n < 10 ^ 64 → BeginsWithDigit (decimal n)
first_digit n small =
    decimal_by_steps_wide (λ n ds. BeginsWithDigit ds) (λ n h. omega arith) (λ n ds h front. digit_then ds ((48 + n % 10) ∷ []) front) n small

no_minus : (n : ℕ) (rest : List ℕ) → n < 10 ^ 64 → decimal n ≡ 45 ∷ rest → ⊥
no_minus n rest small e =
    let begins : 48 ≤ 45 = subst BeginsWithDigit e (first_digit n small) in
    omega (arith, begins)

pub same_signed : (y z : ℤ) → FitsSigned w128 y → FitsSigned w128 z → signed_decimal y ≡ signed_decimal z → y ≡ z
same_signed (pos m) (pos n) fy fz e = ap pos (same_decimal m n (omega (arith, ints)) (omega (arith, ints)) e)
same_signed (pos m) (negsuc n) fy fz e = absurd (no_minus m (decimal (suc n)) (omega (arith, ints)) e)
same_signed (negsuc m) (pos n) fy fz e = absurd (no_minus n (decimal (suc m)) (omega (arith, ints)) (sym e))
same_signed (negsuc m) (negsuc n) fy fz e =
    let same : suc m ≡ suc n = same_decimal (suc m) (suc n) (omega (arith, ints)) (omega (arith, ints)) (ap (drop 1) e) in
    ap negsuc (omega (arith, same))

-- an unsigned number, and what follows it
pub after_decimal : (m n : ℕ) (x y : List ℕ) → m < 2 ^ 64 → n < 2 ^ 64 → Stops x → Stops y → decimal m ++ x ≡ decimal n ++ y → (m ≡ n) × (x ≡ y)
after_decimal m n x y sm sn sx sy e =
    let same = same_word (decimal m) (decimal n) x y (decimal_word m sm) (decimal_word n sn) sx sy e in
    (decimal_injective m n sm sn same.0, same.1)

-- a signed number, and what follows it
pub after_signed : (m n : ℤ) (x y : List ℕ) → FitsSigned w128 m → FitsSigned w128 n → Stops x → Stops y → signed_decimal m ++ x ≡ signed_decimal n ++ y → (m ≡ n) × (x ≡ y)
after_signed m n x y sm sn sx sy e =
    let same = same_word (signed_decimal m) (signed_decimal n) x y (signed_word m sm) (signed_word n sn) sx sy e in
    (same_signed m n sm sn same.0, same.1)

-- a number that something follows does not begin with a letter
pub no_letter : (text x rest : List ℕ) (letter : ℕ) → IsNumber text → Stops x → 58 ≤ letter → letter ∷ rest ≡ text ++ x → ⊥
no_letter [] [] rest letter number stops high e = absurd stops
no_letter [] (d ∷ x) rest letter number stops high e = let first : letter ≡ d = cc in omega (arith, stops.0)
no_letter (c ∷ text) x rest letter number stops high e = let first : letter ≡ c = cc in omega (arith, number.1)

pub not_empty : (z : ℤ) → FitsSigned w128 z → 0 < length (signed_decimal z)
not_empty (pos n) fits = (decimal_is_IsNumeral_wide n (omega (arith, ints))).0.0
not_empty (negsuc n) fits = omega arith

-- a text begins with a word and this byte
pub record Begins (stop : ℕ) (text : List ℕ) : Type 0 where
  pub word : List ℕ
  pub rest : List ℕ
  pub letters : IsWord word
  pub is : text ≡ word ++ stop ∷ rest

-- texts that begin with words and different bytes that end them differ
pub apart_by_stop : (m n : ℕ) (text other : List ℕ) → Begins m text → Begins n other → Stops (m ∷ []) → Stops (n ∷ []) → m ≢ n → text ≡ other → ⊥
apart_by_stop m n text other a b sm sn differ e =
    let same = same_word a.word b.word (m ∷ a.rest) (n ∷ b.rest) a.letters b.letters sm sn (sym a.is ∙ e ∙ b.is) in
    differ (head_of m n a.rest b.rest same.1)
