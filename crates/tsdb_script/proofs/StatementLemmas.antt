-- The parser finds exactly the statements whose forms the tokens fit.
use Rattle.std.proofs.Common.{◌≡◌, ◌<◌, ℕ, ◌||◌, Bool, true, false, true≢false, cond, inl, inr, List, [], ◌∷◌, length, drop, Option, None, Some, Result, Ok, Err, option_map, refl, sym, ap, ◌∙◌, subst, codes}
use Rattle.std.specs.Prelude.{◌⊎◌, ◌&&◌, not, IsTrue, IfOk, IfErr}
use Rattle.std.specs.List.{list_any}
use Rattle.std.specs.Str.{bytes_eq, str_to_ascii_lowercase}
use Rattle.std.proofs.lemmas.Bool.{and_parts, cond_both, not-true, or_parts}
use Rattle.std.proofs.lemmas.Option.{same_Some}
use Rattle.std.proofs.lemmas.Slice.Eq.{bytes_eq-Decides}
use Rattle.tsdb_script.specs.Types.{Form, LineFault, SyntaxPart, FormPlace, Syntax, Token}
use Rattle.tsdb_script.specs.declared.form.Form.TheVariants as form
use Rattle.tsdb_script.specs.declared.form.Keyword.TheVariants as key
use Rattle.tsdb_script.specs.declared.form.FormPlace.TheVariants as place
use Rattle.tsdb_script.specs.declared.syntax.SyntaxPart.TheVariants as part
use Rattle.tsdb_script.specs.declared.fault.LineFault.TheVariants.{Bad, Memory}
use Rattle.tsdb_script.specs.declared.form.TheConstants.{FORMS}
use Rattle.tsdb_script.specs.declared.token.Token.TheVariants.{Word, Close, Semicolon}
use Rattle.tsdb_script.specs.Forms.{is_at, keyword_text, places, first_names, first_values, first_columns, statement_of, Standing, AreConditions, AreListed, IsNameAt, IsValueAt, IsColumnAt, StandsAtPlace, Stand, HasNeededParts, Fits, HasNoForm}
use Rattle.tsdb_script.specs.Parse.{ParsesTo, Tokens, ◌>>=◌, stands_at, fixed_at, word_at, end_at, operand_at, column_at, list_at, conditions_at, part_at, before_parts, parts_at, is_keyword_place, begins_at, form_at, statement_at}
use Rattle.tsdb_script.specs.Steps.{FaultsWith}
use Rattle.tsdb_script.specs.Tokens.{is_keyword, starts}
use Rattle.tsdb_script.proofs.FormLemmas.{step, leads, mapped, fixed_found, fixed_again, word_found, finds_name, finds_value, finds_column, list_found, list_again, some_listed, conditions_found, conditions_again}

-- ---- the table: keywords tell the forms apart, and no list goes on with what stands behind it

-- a word is one keyword at most
other_keyword : (w name other : List ℕ) → is_keyword w name ≡ true → is_keyword name other ≡ false → is_keyword w other ≡ false
other_keyword w name other is apart =
    ap (λ l. bytes_eq l (str_to_ascii_lowercase other)) ((bytes_eq-Decides (str_to_ascii_lowercase w) (str_to_ascii_lowercase name)).0 is) ∙ apart

-- two forms begin with other keywords
abbrev pub differ : List FormPlace → List FormPlace → Bool
differ (place.Keyword a ∷ p) (place.Keyword b ∷ q) = not (is_keyword (keyword_text a) (keyword_text b)) || differ p q
differ p q = false

-- what stands here ends a list
abbrev pub ends_list : List FormPlace → Bool
ends_list [] = true
ends_list (place.Close ∷ behind) = true
ends_list (place.Keyword k ∷ behind) = not (is_keyword (keyword_text k) (codes "where") || is_keyword (keyword_text k) (codes "and"))
ends_list behind = false

abbrev pub is_list : FormPlace → Bool
is_list place.Names = true
is_list place.Values = true
is_list place.Columns = true
is_list place.Where = true
is_list other = false

abbrev pub are_ended : List FormPlace → Bool
are_ended [] = true
are_ended (at ∷ behind) = cond (is_list at) (ends_list behind) true && are_ended behind

all_ended : (f : Form) → are_ended (places f) ≡ true
all_ended form.Create = refl
all_ended _ = refl

all_differ : (f g : Form) → (f ≡ g) ⊎ (differ (places f) (places g) ≡ true)
all_differ form.Create form.Create = inl refl
all_differ form.Insert form.Insert = inl refl
all_differ form.Delete form.Delete = inl refl
all_differ form.Select form.Select = inl refl
all_differ form.Flush form.Flush = inl refl
all_differ form.CompactSequence form.CompactSequence = inl refl
all_differ form.CompactUnsequence form.CompactUnsequence = inl refl
all_differ form.CompactCross form.CompactCross = inl refl
all_differ form.ShowFiles form.ShowFiles = inl refl
all_differ _ _ = inr refl

abbrev pub Has : Form → List Form → Type 0
Has f [] = ⊥
Has f (g ∷ forms) = (f ≡ g) ⊎ Has f forms

pub has_all : (f : Form) → Has f FORMS.now
has_all form.Insert = inl refl
has_all form.Select = inr (inl refl)
has_all form.Delete = inr (inr (inl refl))
has_all form.Create = inr (inr (inr (inl refl)))
has_all form.Flush = inr (inr (inr (inr (inl refl))))
has_all form.CompactSequence = inr (inr (inr (inr (inr (inl refl)))))
has_all form.CompactUnsequence = inr (inr (inr (inr (inr (inr (inl refl))))))
has_all form.CompactCross = inr (inr (inr (inr (inr (inr (inr (inl refl)))))))
has_all form.ShowFiles = inr (inr (inr (inr (inr (inr (inr (inr (inl refl))))))))

apart : (p q : List FormPlace) (tokens : Tokens) → differ p q ≡ true → begins_at p tokens ≡ true → ¬ (begins_at q tokens ≡ true)
apart (place.Keyword a ∷ p) (place.Keyword b ∷ q) [] d h k = true≢false (sym h)
apart (place.Keyword a ∷ p) (place.Keyword b ∷ q) (Word w ∷ rest) d h k =
    let one = and_parts (is_keyword w (keyword_text a)) (begins_at p rest) h in
    let other = and_parts (is_keyword w (keyword_text b)) (begins_at q rest) k in
    elim (is_keyword (keyword_text a) (keyword_text b)) as (λ t. is_keyword (keyword_text a) (keyword_text b) ≡ t → (not t || differ p q) ≡ true → ⊥) [
      | true ↦ λ same d. apart p q rest d one.1 other.1
      | false ↦ λ not_same d. true≢false (sym other.0 ∙ other_keyword w (keyword_text a) (keyword_text b) one.0 not_same)
    ] refl d
apart (place.Keyword a ∷ p) (place.Keyword b ∷ q) (_ ∷ rest) d h k = true≢false (sym h)
apart _ _ tokens d h k = true≢false (sym d)

-- ---- places

fixed_place : (at : FormPlace) (tokens : Tokens) (r : Option SyntaxPart × Tokens) (others : List SyntaxPart) → (fixed_at at tokens >>= (λ rest. Some (None, rest))) ≡ Some r
    → (fixed : Token) × (tokens ≡ fixed ∷ r.1) × IsTrue (is_at at fixed) × (before_parts r.0 others ≡ others)
fixed_place at tokens r others e =
    let a = step _ _ _ e in
    let f = fixed_found at tokens a.0 a.1 in
    let is : ◌≡◌ {A = Option SyntaxPart × Tokens} (None, a.0) r = same_Some _ r a.2 in
    (f.0, f.1 ∙ ap (λ (r : Option SyntaxPart × Tokens). f.0 ∷ r.1) is, f.2, ap (λ (r : Option SyntaxPart × Tokens). before_parts r.0 others) (sym is))

-- a place that gives a part
part_found : {X : Type 0} (make : X → SyntaxPart) (Is : Standing X) (item : Tokens → Option (X × Tokens)) (tokens : Tokens) → ((r : X × Tokens) → item tokens ≡ Some r → Is r.0 tokens r.1)
    → (r : Option SyntaxPart × Tokens) (others : List SyntaxPart) → (item tokens >>= (λ x. Some (Some (make x.0), x.1))) ≡ Some r
    → (x : X) × Is x tokens r.1 × (before_parts r.0 others ≡ make x ∷ others)
part_found {X} make Is item tokens found r others e =
    let a = step _ _ _ e in
    let is : ◌≡◌ {A = Option SyntaxPart × Tokens} (Some (make a.0.0), a.0.1) r = same_Some _ r a.2 in
    subst (λ (r : Option SyntaxPart × Tokens). (x : X) × Is x tokens r.1 × (before_parts r.0 others ≡ make x ∷ others)) is (a.0.0, found a.0 a.1, refl)

place_found : (at : FormPlace) (tokens : Tokens) (r : Option SyntaxPart × Tokens) (others : List SyntaxPart) → part_at at tokens ≡ Some r → StandsAtPlace at tokens r.1 (before_parts r.0 others) others
unfolding part_at
place_found place.Word tokens r others e = part_found part.Word IsNameAt word_at tokens (word_found tokens) r others e
place_found place.Names tokens r others e =
    part_found part.Names (AreListed place.Comma IsNameAt) (list_at place.Comma word_at) tokens (list_found place.Comma IsNameAt word_at finds_name tokens) r others e
place_found place.Values tokens r others e =
    part_found part.Values (AreListed place.Comma IsValueAt) (list_at place.Comma operand_at) tokens (list_found place.Comma IsValueAt operand_at finds_value tokens) r others e
place_found place.Columns tokens r others e =
    part_found part.Columns (AreListed place.Comma IsColumnAt) (list_at place.Comma column_at) tokens (list_found place.Comma IsColumnAt column_at finds_column tokens) r others e
place_found place.Where tokens r others e = part_found part.Conditions AreConditions conditions_at tokens (conditions_found tokens) r others e
place_found at tokens r others e = fixed_place at tokens r others e

-- no list goes on with these tokens
record Ends (rest : Tokens) : Type 0 where
  no_comma : stands_at place.Comma rest ≡ false
  no_open : stands_at place.Open rest ≡ false
  no_where : stands_at (place.Keyword key.Where) rest ≡ false
  no_and : stands_at (place.Keyword key.And) rest ≡ false

-- what a place gives, found again
abbrev pub GivesAgain : FormPlace → Tokens → Tokens → List SyntaxPart → List SyntaxPart → Type 0
GivesAgain at tokens rest parts others = (found : Option SyntaxPart) × (part_at at tokens ≡ Some (found, rest)) × (parts ≡ before_parts found others)

place_again : (at : FormPlace) (tokens rest : Tokens) (parts others : List SyntaxPart) → (is_list at ≡ true → Ends rest) → StandsAtPlace at tokens rest parts others → GivesAgain at tokens rest parts others
unfolding part_at
place_again place.Word tokens rest parts others ends h = (Some (part.Word h.0), leads (word_at tokens) (h.0, rest) _ _ (ap word_at h.1) refl, h.2)
place_again place.Names tokens rest parts others ends h =
    (Some (part.Names h.0), leads _ (h.0, rest) _ _ (list_again place.Comma IsNameAt word_at finds_name refl rest (ends refl).no_comma (ends refl).no_open h.0 tokens h.1) refl, h.2)
place_again place.Values tokens rest parts others ends h =
    (Some (part.Values h.0), leads _ (h.0, rest) _ _ (list_again place.Comma IsValueAt operand_at finds_value refl rest (ends refl).no_comma (ends refl).no_open h.0 tokens h.1) refl, h.2)
place_again place.Columns tokens rest parts others ends h =
    (Some (part.Columns h.0), leads _ (h.0, rest) _ _ (list_again place.Comma IsColumnAt column_at finds_column refl rest (ends refl).no_comma (ends refl).no_open h.0 tokens h.1) refl, h.2)
place_again place.Where tokens rest parts others ends h =
    (Some (part.Conditions h.0), leads _ (h.0, rest) _ _ (conditions_again h.0 tokens rest (ends refl).no_where (ends refl).no_and (ends refl).no_open h.1) refl, h.2)
place_again at tokens rest parts others ends h =
    (None, leads {B = Option SyntaxPart × Tokens} (fixed_at at tokens) rest (λ rest. Some (None, rest)) _ (fixed_again at h.0 tokens rest h.1 h.2) refl, h.3)

-- what stands behind a list ends it
ends_at : (behind : List FormPlace) (rest : Tokens) (parts : List SyntaxPart) → ends_list behind ≡ true → Stand behind rest parts → Ends rest
ends_at [] rest parts e (inl is, _) = subst Ends (sym is) (record { no_comma = refl; no_open = refl; no_where = refl; no_and = refl })
ends_at [] rest parts e (inr is, _) = subst Ends (sym is) (record { no_comma = refl; no_open = refl; no_where = refl; no_and = refl })
ends_at (place.Close ∷ behind) rest parts e h = subst Ends (sym h.2.1) (closed h.2.0 h.0 h.2.2)
  where
    closed : (t : Token) (more : Tokens) → IsTrue (is_at place.Close t) → Ends (t ∷ more)
    closed Close more is = record { no_comma = refl; no_open = refl; no_where = refl; no_and = refl }
    closed _ more is = absurd (true≢false (sym is))
ends_at (place.Keyword k ∷ behind) rest parts e h = subst Ends (sym h.2.1) (worded h.2.0 h.0 h.2.2)
  where
    worded : (t : Token) (more : Tokens) → IsTrue (is_at (place.Keyword k) t) → Ends (t ∷ more)
    worded (Word w) more is =
        let other = or_parts (is_keyword (keyword_text k) (codes "where")) (is_keyword (keyword_text k) (codes "and")) (not-true _ e) in
        record { no_comma = refl; no_open = refl; no_where = other_keyword w (keyword_text k) (codes "where") is other.0; no_and = other_keyword w (keyword_text k) (codes "and") is other.1 }
    worded _ more is = absurd (true≢false (sym is))
ends_at (_ ∷ behind) rest parts e h = absurd (true≢false (sym e))

-- ---- forms

end_is : (tokens : Tokens) (u : Unit {0}) → end_at tokens ≡ Some u → (tokens ≡ []) ⊎ (tokens ≡ Semicolon ∷ [])
end_is [] u e = inl refl
end_is (Semicolon ∷ []) u e = inr refl
end_is _ u e = cc

end_again : (tokens : Tokens) → (tokens ≡ []) ⊎ (tokens ≡ Semicolon ∷ []) → end_at tokens ≡ Some tt
end_again tokens (inl e) = ap end_at e
end_again tokens (inr e) = ap end_at e

read_found : (row : List FormPlace) (tokens : Tokens) (parts : List SyntaxPart) → parts_at row tokens ≡ Some parts → Stand row tokens parts
read_found [] tokens parts e =
    let a = step {A = Unit {0}} (end_at tokens) (λ _. Some []) parts e in (end_is tokens a.0 a.1, sym (same_Some [] parts a.2))
read_found (at ∷ row) tokens parts e =
    let a = step _ _ _ e in
    let s = mapped (before_parts a.0.0) (parts_at row a.0.1) parts a.2 in
    (a.0.1, s.0, subst (λ (l : List SyntaxPart). StandsAtPlace at tokens a.0.1 l s.0) s.2 (place_found at tokens a.0 s.0 a.1), read_found row a.0.1 s.0 s.1)

read_again : (row : List FormPlace) (tokens : Tokens) (parts : List SyntaxPart) → are_ended row ≡ true → Stand row tokens parts → parts_at row tokens ≡ Some parts
read_again [] tokens parts ended h = leads {A = Unit {0}} (end_at tokens) tt (λ _. Some []) _ (end_again tokens h.0) (ap (λ (l : List SyntaxPart). Some l) (sym h.1))
read_again (at ∷ row) tokens parts ended h =
    let two = and_parts (cond (is_list at) (ends_list row) true) (are_ended row) ended in
    let ends : is_list at ≡ true → ends_list row ≡ true = λ is. sym (ap (λ t. cond t (ends_list row) true) is) ∙ two.0 in
    let a = place_again at tokens h.0 parts h.1 (λ is. ends_at row h.0 h.1 (ends is) h.3) h.2 in
    leads (part_at at tokens) (a.0, h.0) _ _ a.1 (ap (option_map (before_parts a.0)) (read_again row h.0 h.1 two.1 h.3) ∙ ap (λ (l : List SyntaxPart). Some l) (sym a.2))

-- where tokens stand at places, they begin with the first keywords
pub begins_again : (row : List FormPlace) (tokens : Tokens) (parts : List SyntaxPart) → Stand row tokens parts → begins_at row tokens ≡ true
begins_again [] tokens parts h = refl
begins_again (place.Keyword k ∷ row) tokens parts h =
    ap (begins_at (place.Keyword k ∷ row)) h.2.1 ∙ ap (λ t. t && begins_at row h.0) h.2.2 ∙ begins_again row h.0 h.1 h.3
begins_again (_ ∷ row) [] parts h = refl
begins_again (_ ∷ row) (t ∷ rest) parts h = refl

-- ---- the first word of a form

all_keyword_first : (f : Form) → starts is_keyword_place (places f) ≡ true
all_keyword_first form.Create = refl
all_keyword_first _ = refl

any_has : (test : Form → Bool) (f : Form) (forms : List Form) → Has f forms → test f ≡ true → list_any test forms ≡ true
any_has test f [] has is = absurd has
any_has test f (g ∷ forms) (inl same) is = ap (λ t. t || list_any test forms) (ap test (sym same) ∙ is)
any_has test f (g ∷ forms) (inr later) is =
    elim (test g) as (λ t. (t || list_any test forms) ≡ true) [ true ↦ refl | false ↦ any_has test f forms later is ]

row_begins : (row : List FormPlace) (tokens : Tokens) → starts is_keyword_place row ≡ true → begins_at row tokens ≡ true
    → (t : Token) × (rest : Tokens) × (tokens ≡ t ∷ rest) × (starts (λ place. is_at place t) row ≡ true)
row_begins [] tokens first begins = absurd (true≢false (sym first))
row_begins (at ∷ row) [] first begins = absurd (true≢false (sym begins ∙ ap (λ t. cond t false true) first))
row_begins (at ∷ row) (t ∷ rest) first begins =
    (t, rest, refl, (and_parts (is_at at t) (begins_at row rest) (sym (ap (λ b. cond b (is_at at t && begins_at row rest) true) first) ∙ begins)).0)

-- a statement begins with a word that a form begins with
pub form_begins : (tokens : Tokens) (syntax : Syntax) → Fits tokens syntax → (t : Token) × (rest : Tokens) × (tokens ≡ t ∷ rest) × (list_any (λ f. starts (λ place. is_at place t) (places f)) FORMS.now ≡ true)
form_begins tokens syntax h =
    let b = row_begins (places h.form) tokens (all_keyword_first h.form) (begins_again (places h.form) tokens h.parts h.stand) in
    (b.0, b.1, b.2, any_has (λ f. starts (λ place. is_at place b.0) (places f)) h.form FORMS.now (has_all h.form) b.3)

form_again : (forms : List Form) (f : Form) (tokens : Tokens) → Has f forms → begins_at (places f) tokens ≡ true → form_at forms tokens ≡ Some f
form_again [] f tokens has begins = absurd has
form_again (g ∷ forms) f tokens has begins =
    cond_both (begins_at (places g) tokens) (Some g) (form_at forms tokens) (λ o. o ≡ Some f)
    (λ too. elim (all_differ f g) [
      | inl same ↦ ap (λ (f : Form). Some f) (sym same)
      | inr other ↦ absurd (apart (places f) (places g) tokens other begins too)
    ])
    (λ out. elim has [
      | inl same ↦ absurd (true≢false (sym begins ∙ ap (λ f. begins_at (places f) tokens) same ∙ out))
      | inr later ↦ form_again forms f tokens later begins
    ])

statement_found : (tokens : Tokens) (syntax : Syntax) → statement_at tokens ≡ Some syntax → Fits tokens syntax
unfolding statement_at
statement_found tokens syntax e =
    let a = step (form_at FORMS.now tokens) (λ f. parts_at (places f) tokens >>= (λ parts. Some (statement_of f parts))) syntax e in
    let b = step (parts_at (places a.0) tokens) (λ parts. Some (statement_of a.0 parts)) syntax a.2 in
    record { form = a.0; parts = b.0; stand = read_found (places a.0) tokens b.0 b.1; says = same_Some _ syntax b.2 }

statement_again : (tokens : Tokens) (syntax : Syntax) → Fits tokens syntax → statement_at tokens ≡ Some syntax
unfolding statement_at
statement_again tokens syntax h =
    leads (form_at FORMS.now tokens) h.form _ _ (form_again FORMS.now h.form tokens (has_all h.form) (begins_again (places h.form) tokens h.parts h.stand))
    (leads (parts_at (places h.form) tokens) h.parts _ _ (read_again (places h.form) tokens h.parts (all_ended h.form) h.stand) (ap (λ (s : Syntax). Some s) h.says))

-- ---- what the parser returns

pub statement_ok : (tokens : List Token) (result : Result Syntax LineFault) → ParsesTo (λ syntax. syntax) result (statement_at tokens) → IfOk result (Fits tokens)
statement_ok tokens (Ok syntax) found = statement_found tokens syntax found
statement_ok tokens (Err e) found = tt

pub statement_err : (tokens : List Token) (result : Result Syntax LineFault) → ParsesTo (λ syntax. syntax) result (statement_at tokens) → IfErr result (FaultsWith (HasNoForm tokens))
statement_err tokens (Ok syntax) found = tt
statement_err tokens (Err (Bad kind)) found = (λ syntax fits. (let e : Some syntax ≡ None = sym (statement_again tokens syntax fits) ∙ found.0 in cc), found.1)
statement_err tokens (Err Memory) found = tt

-- tokens fit the form of at most one statement
pub same_statement : (tokens : List Token) (one other : Syntax) → Fits tokens one → Fits tokens other → one ≡ other
same_statement tokens one other h k = let e : Some one ≡ Some other = sym (statement_again tokens one h) ∙ statement_again tokens other k in cc

-- ---- lists have parts

-- no list among the parts of a row is empty
abbrev HasFullLists : List FormPlace → List SyntaxPart → Type 0
HasFullLists [] parts = Unit {0}
HasFullLists (place.Word ∷ row) parts = HasFullLists row (drop 1 parts)
HasFullLists (place.Names ∷ row) parts = (0 < length (first_names parts)) × HasFullLists row (drop 1 parts)
HasFullLists (place.Values ∷ row) parts = (0 < length (first_values parts)) × HasFullLists row (drop 1 parts)
HasFullLists (place.Columns ∷ row) parts = (0 < length (first_columns parts)) × HasFullLists row (drop 1 parts)
HasFullLists (place.Where ∷ row) parts = HasFullLists row (drop 1 parts)
HasFullLists (other ∷ row) parts = HasFullLists row parts

filled : (row : List FormPlace) (tokens : Tokens) (parts : List SyntaxPart) → Stand row tokens parts → HasFullLists row parts
filled [] tokens parts h = tt
filled (place.Word ∷ row) tokens parts h = subst (HasFullLists (place.Word ∷ row)) (sym h.2.2) (filled row h.0 h.1 h.3)
filled (place.Names ∷ row) tokens parts h =
    subst (HasFullLists (place.Names ∷ row)) (sym h.2.2) (some_listed place.Comma IsNameAt h.2.0 tokens h.0 h.2.1, filled row h.0 h.1 h.3)
filled (place.Values ∷ row) tokens parts h =
    subst (HasFullLists (place.Values ∷ row)) (sym h.2.2) (some_listed place.Comma IsValueAt h.2.0 tokens h.0 h.2.1, filled row h.0 h.1 h.3)
filled (place.Columns ∷ row) tokens parts h =
    subst (HasFullLists (place.Columns ∷ row)) (sym h.2.2) (some_listed place.Comma IsColumnAt h.2.0 tokens h.0 h.2.1, filled row h.0 h.1 h.3)
filled (place.Where ∷ row) tokens parts h = subst (HasFullLists (place.Where ∷ row)) (sym h.2.2) (filled row h.0 h.1 h.3)
filled (_ ∷ row) tokens parts h = subst (HasFullLists row) (sym h.2.3) (filled row h.0 h.1 h.3)

with_parts : (f : Form) (parts : List SyntaxPart) → HasFullLists (places f) parts → HasNeededParts (statement_of f parts)
with_parts form.Insert parts h = (h.0, h.1.0)
with_parts form.Select parts h = h.0
with_parts _ parts h = tt

pub has_parts : (tokens : Tokens) (syntax : Syntax) → Fits tokens syntax → HasNeededParts syntax
has_parts tokens syntax h = subst HasNeededParts h.says (with_parts h.form h.parts (filled (places h.form) tokens h.parts h.stand))

pub parts_ok : (tokens : List Token) (result : Result Syntax LineFault) → IfOk result (Fits tokens) → IfOk result HasNeededParts
parts_ok tokens (Ok syntax) fits = has_parts tokens syntax fits
parts_ok tokens (Err e) fits = tt
