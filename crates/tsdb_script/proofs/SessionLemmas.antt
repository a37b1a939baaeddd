-- Words that are sessions, and the different ones of many.
use Rattle.std.proofs.Common.{◌≡◌, ℕ, zero, suc, get_or, true≢false, ◌+◌, ◌<◌, ◌≤◌, ◌^◌, Bool, true, false, cond, ◌||◌, List, [], ◌∷◌, ◌++◌, length, drop, Bor, Option, None, Some, Result, Ok, Err, eqb, refl, sym, ap, ◌∙◌, arith, subst, length-append, inl, inr}
use Rattle.std.specs.Prelude.{◌⊎◌, IfNone}
use Rattle.std.specs.Fmt.{decimal}
use Rattle.std.specs.List.{IsDistinct, list_any}
use Rattle.std.specs.Set.{is_member}
use Rattle.std.specs.Str.{IsUtf8, IsValidUpTo, valid_up_to}
use Rattle.std.specs.Str.Parse.{AllDigits, IsNumeral, ParsesUnsigned, digits_value, without_leading_plus}
use Rattle.std.specs.Result.{MatchResult, result_ok}
use Rattle.std.specs.declared.str.Utf8Error.{Utf8Error}
use Rattle.std.proofs.Math.Bool.{or-false}
use Rattle.std.proofs.lemmas.Bool.{eqb-true, eq-eqb, cases_Bool}
use Rattle.std.proofs.lemmas.Cmp.{nat_eq_equiv}
use Rattle.std.proofs.lemmas.Fmt.{IsAscii-from_digits, decimal-digits_value}
use Rattle.std.proofs.lemmas.List.{length-map, map-append}
use Rattle.std.proofs.lemmas.List.Folds.{list_any-append}
use Rattle.std.proofs.lemmas.Map.Keys.{IsDistinct-push}
use Rattle.std.proofs.lemmas.Map.Made.{length-from_keys}
use Rattle.std.proofs.lemmas.Str.{IsUtf8-from_ascii}
use Rattle.std.proofs.lemmas.Str.Parse.{digits_value_short, numerals_by_value, tells_digits}
use Rattle.tsdb_script.specs.Types.{Numbered}
use Rattle.tsdb_script.specs.LineSteps.{AreDifferentOf, HasSessionRoom}
use Rattle.tsdb_script.specs.Reading.{IsSession, session_count, sessions_of}
use Rattle.tsdb_script.specs.Tokens.{starts}

-- ---- words

no_plus : (bytes : List ℕ) → starts (λ b. eqb b 43) bytes ≡ false → without_leading_plus bytes ≡ bytes
no_plus [] e = refl
no_plus (b ∷ bytes) e = ap (λ t. drop (cond t 1 0) (b ∷ bytes)) e

-- a session is a text
pub IsUtf8-session : (bytes : List ℕ) (session : ℕ) → IsSession bytes session → IsUtf8 bytes
IsUtf8-session bytes session it = IsUtf8-from_ascii bytes (IsAscii-from_digits bytes it.digits.1)

-- a text of bytes has these bytes
pub text_is : (bytes : List ℕ) (text : Result (Bor (List ℕ)) Utf8Error) (found : Option (Bor (List ℕ))) (s : Bor (List ℕ))
    → MatchResult text (λ s. (s.now ≡ bytes) × IsUtf8 bytes) (λ e. ¬ (IsUtf8 bytes) × IsValidUpTo bytes (valid_up_to e))
    → found ≡ Some s → found ≡ result_ok text → s.now ≡ bytes
text_is bytes (Ok t) found s cases some is = let same : t ≡ s = cc in ap (λ (b : Bor (List ℕ)). b.now) (sym same) ∙ cases.0
text_is bytes (Err e) found s cases some is = cc

pub value_short : (bytes : List ℕ) (session : ℕ) → IsSession bytes session → digits_value 10 bytes < 1000
value_short bytes session it = digits_value_short (numerals_by_value (AllDigits 10) tells_digits) bytes 3 it.digits.1 it.short

no_zero_first : (word : List ℕ) → 0 < length word → starts (λ b. eqb b 48) word ≡ false → get_or word 0 0 ≡ 48 → ⊥
no_zero_first [] some plain e = absurd (omega (arith, some))
no_zero_first (b ∷ word) some plain e = true≢false (sym (eq-eqb b 48 e) ∙ plain)

decimal_zero : decimal 0 ≡ 48 ∷ []
decimal_zero = decimal-digits_value (numerals_by_value (AllDigits 10) tells_digits) (48 ∷ []) (omega arith, tt) (omega arith) (λ e. refl) (omega arith)

-- a session is a number from 1 to 999
pub session_number : (word : List ℕ) (session : ℕ) → IsSession word session → (1 ≤ session) × (session ≤ 999)
session_number word session it = (at_least session refl, omega (arith, it.value, value_short word session it))
  where
    at_least : (n : ℕ) → session ≡ n → 1 ≤ n
    at_least zero none =
        let is = decimal-digits_value (numerals_by_value (AllDigits 10) tells_digits) word it.digits.1 it.digits.0 (λ e. absurd (no_zero_first word it.digits.0 it.no_zero e)) (omega (arith, value_short word session it)) in
        let word_is : 48 ∷ [] ≡ word = sym decimal_zero ∙ ap decimal (sym none ∙ it.value) ∙ is in
        absurd (true≢false (ap (starts (λ b. eqb b 48)) word_is ∙ it.no_zero))
    at_least (suc n) some = omega arith

-- a text that is not parsed is no session
pub not_parsed : {E : Type 0} (bytes text : List ℕ) (parsed : Result ℕ E) (found : Option ℕ) → text ≡ bytes → ParsesUnsigned 16 10 text parsed
    → starts (λ b. eqb b 43) bytes ≡ false → found ≡ result_ok parsed → IfNone found ((session : ℕ) → ¬ IsSession bytes session)
not_parsed bytes text parsed (Some n) same parses plain is = tt
not_parsed bytes text (Ok n) None same parses plain is = cc
not_parsed bytes text (Err e) None same parses plain is = λ session it.
    parses (subst (λ l. IsNumeral 10 l × (digits_value 10 l < 2 ^ 16)) (sym (ap without_leading_plus same ∙ no_plus bytes plain))
    (it.digits, omega (arith, value_short bytes session it)))

-- ---- the different ones of many

abbrev eq : ℕ → ℕ → Bool
eq = λ a b. eqb a b

-- a list has what it is asked for, whichever side it stands on
pub contains_is : (xs : List ℕ) (x : ℕ) → list_any (λ y. eqb y x) xs ≡ is_member eq xs x
contains_is [] x = refl
contains_is (y ∷ xs) x = ap (λ t. t || list_any (λ y. eqb y x) xs) (nat_eq_equiv.symm y x) ∙ ap (λ t. eqb x y || t) (contains_is xs x)

-- one more session, which is among them
same-known : (different sessions : List ℕ) (session q : ℕ) → is_member eq different session ≡ true
    → ((q : ℕ) → is_member eq different q ≡ is_member eq sessions q) → is_member eq different q ≡ is_member eq (sessions ++ session ∷ []) q
same-known different sessions session q known same =
    same q ∙ by_first (eqb q session) refl ∙ sym (list_any-append (eq q) sessions (session ∷ []))
  where
    by_first : (t : Bool) → eqb q session ≡ t → is_member eq sessions q ≡ (is_member eq sessions q || (eqb q session || false))
    by_first true e =
        let is : is_member eq sessions q ≡ true = sym (same q) ∙ ap (is_member eq different) (eqb-true q session e) ∙ known in
        is ∙ sym (ap (λ t. t || (eqb q session || false)) is)
    by_first false e = sym (ap (λ t. is_member eq sessions q || (t || false)) e ∙ or-false (is_member eq sessions q))

-- and one that is new
same-new : (different sessions : List ℕ) (session q : ℕ) → ((q : ℕ) → is_member eq different q ≡ is_member eq sessions q)
    → is_member eq (different ++ session ∷ []) q ≡ is_member eq (sessions ++ session ∷ []) q
same-new different sessions session q same =
    list_any-append (eq q) different (session ∷ []) ∙ ap (λ t. t || (eqb q session || false)) (same q) ∙ sym (list_any-append (eq q) sessions (session ∷ []))

pub count-known : (different sessions : List ℕ) (session : ℕ) → AreDifferentOf different sessions → is_member eq different session ≡ true
    → session_count (sessions ++ session ∷ []) ≡ length different
count-known different sessions session d known =
    sym (length-from_keys nat_eq_equiv different (sessions ++ session ∷ []) d.distinct (λ q. same-known different sessions session q known d.same))

pub count-new : (different sessions : List ℕ) (session : ℕ) → AreDifferentOf different sessions → is_member eq different session ≡ false
    → session_count (sessions ++ session ∷ []) ≡ length different + 1
count-new different sessions session d new =
    sym (length-from_keys nat_eq_equiv (different ++ session ∷ []) (sessions ++ session ∷ []) (IsDistinct-push nat_eq_equiv different session d.distinct new)
    (λ q. same-new different sessions session q d.same)) ∙ length-append different (session ∷ [])

-- the different ones with one more that is among them
pub different-known : (different sessions : List ℕ) (session : ℕ) → AreDifferentOf different sessions → is_member eq different session ≡ true
    → AreDifferentOf different (sessions ++ session ∷ [])
different-known different sessions session d known = record { distinct = d.distinct; same = λ q. same-known different sessions session q known d.same; few = d.few }

-- and with one that is new
pub different-new : (different sessions : List ℕ) (session : ℕ) → AreDifferentOf different sessions → is_member eq different session ≡ false
    → HasSessionRoom sessions session → AreDifferentOf (different ++ session ∷ []) (sessions ++ session ∷ [])
different-new different sessions session d new room = record {
  distinct = IsDistinct-push nat_eq_equiv different session d.distinct new;
  same = λ q. same-new different sessions session q d.same;
  few = omega (arith, room.1, count-new different sessions session d new, length-append different (session ∷ []));
}

-- a session has room where there are fewer than 8, or it is among them
pub room : (different sessions : List ℕ) (session : ℕ) → AreDifferentOf different sessions → length sessions < 1000000
    → (length different < 8) ⊎ (is_member eq different session ≡ true) → HasSessionRoom sessions session
room different sessions session d few which = elim (cases_Bool (is_member eq different session)) [
  | inl known ↦ (few, omega (arith, d.few, count-known different sessions session d known))
  | inr new ↦ elim which [
    | inl less ↦ (few, omega (arith, count-new different sessions session d new))
    | inr known ↦ (few, omega (arith, d.few, count-known different sessions session d known))
  ]
]

-- and where there are 8 it is among them
pub room_known : (different sessions : List ℕ) (session : ℕ) → AreDifferentOf different sessions → 8 ≤ length different
    → HasSessionRoom sessions session → is_member eq different session ≡ true
room_known different sessions session d many has = elim (cases_Bool (is_member eq different session)) [
  | inl known ↦ known
  | inr new ↦ absurd (omega (arith, has.1, count-new different sessions session d new))
]

-- a command has one session
pub as_many : (script : List Numbered) → length (sessions_of script) ≡ length script
as_many script = length-map script (λ (numbered : Numbered). numbered.session)

pub sessions-push : (script : List Numbered) (numbered : Numbered) → sessions_of (script ++ numbered ∷ []) ≡ sessions_of script ++ numbered.session ∷ []
sessions-push script numbered = map-append (λ (numbered : Numbered). numbered.session) script (numbered ∷ [])

-- one more command, and the different sessions with its own
pub pushed-new : (different grown : List ℕ) (script pushed : List Numbered) (numbered : Numbered) (contains : Bool)
    → AreDifferentOf different (sessions_of script) → HasSessionRoom (sessions_of script) numbered.session → contains ≡ list_any (λ y. eqb y numbered.session) different → contains ≡ false
    → grown ≡ different ++ numbered.session ∷ [] → pushed ≡ script ++ numbered ∷ [] → AreDifferentOf grown (sessions_of pushed)
pushed-new different grown script pushed numbered contains d has is new grows pushes =
    subst (λ l. AreDifferentOf l (sessions_of pushed)) (sym grows)
    (subst (AreDifferentOf (different ++ numbered.session ∷ [])) (sym (ap sessions_of pushes ∙ sessions-push script numbered))
    (different-new different (sessions_of script) numbered.session d (sym (contains_is different numbered.session) ∙ sym is ∙ new) has))

pub pushed-known : (different : List ℕ) (script pushed : List Numbered) (numbered : Numbered) (contains : Bool)
    → AreDifferentOf different (sessions_of script) → contains ≡ list_any (λ y. eqb y numbered.session) different → contains ≡ true
    → pushed ≡ script ++ numbered ∷ [] → AreDifferentOf different (sessions_of pushed)
pushed-known different script pushed numbered contains d is known pushes =
    subst (AreDifferentOf different) (sym (ap sessions_of pushes ∙ sessions-push script numbered))
    (different-known different (sessions_of script) numbered.session d (sym (contains_is different numbered.session) ∙ sym is ∙ known))

pub none_different : AreDifferentOf [] []
unfolding IsDistinct
none_different = record { distinct = tt; same = λ q. refl; few = omega arith }
