-- The parser finds what stands in the tokens, and finds it again whatever stands behind.
use Rattle.std.proofs.Common.{◌≡◌, ◌≤◌, ◌<◌, ℕ, zero, suc, true, false, true≢false, List, [], ◌∷◌, length, Option, None, Some, option_map, refl, sym, ap, ◌∙◌, subst, arith}
use Rattle.std.specs.Prelude.{IsTrue}
use Rattle.std.proofs.lemmas.Bool.{cond_both, cond-false, cond-true}
use Rattle.std.proofs.lemmas.Option.{cond_some, same_Some}
use Rattle.tsdb_script.specs.Types.{SyntaxColumn, Comparison, Condition, Operand, FormPlace, Token}
use Rattle.tsdb_script.specs.declared.form.Keyword.TheVariants as key
use Rattle.tsdb_script.specs.declared.form.FormPlace.TheVariants as place
use Rattle.tsdb_script.specs.declared.syntax.Comparison.TheVariants as compared
use Rattle.tsdb_script.specs.declared.syntax.Operand.TheVariants as operand
use Rattle.tsdb_script.specs.declared.token.Token.TheVariants.{Word, Text, Open, Close, Equal, Less, LessEqual, Greater, GreaterEqual}
use Rattle.tsdb_script.specs.Forms.{is_at, comparison_token, Standing, IsNameAt, IsValueAt, Called, IsColumnAt, Behind, IsCondition, AreRow, AreListed, AreConditions}
use Rattle.tsdb_script.specs.Parse.{Tokens, ◌>>=◌, stands_at, fixed_at, word_at, operand_at, comparison_at, condition_at, called_at, column_at, items_at, list_at, conditions_at}
use Rattle.tsdb_script.specs.Steps.{onto}

-- how a step went that led on
pub step : {A B : Type 0} (o : Option A) (f : A → Option B) (y : B) → (o >>= f) ≡ Some y → (x : A) × (o ≡ Some x) × (f x ≡ Some y)
step None f y e = cc
step (Some x) f y e = (x, refl, e)

-- a step that leads on
pub leads : {A B : Type 0} (o : Option A) (x : A) (f : A → Option B) (y : Option B) → o ≡ Some x → f x ≡ y → (o >>= f) ≡ y
leads o x f y e h = ap (λ o. o >>= f) e ∙ h

pub mapped : {A B : Type 0} (f : A → B) (o : Option A) (y : B) → option_map f o ≡ Some y → (x : A) × (o ≡ Some x) × (f x ≡ y)
mapped f None y e = cc
mapped f (Some x) y e = (x, refl, same_Some (f x) y e)

-- the token that a place asks for

pub fixed_found : (at : FormPlace) (tokens rest : Tokens) → fixed_at at tokens ≡ Some rest → (fixed : Token) × (tokens ≡ fixed ∷ rest) × IsTrue (is_at at fixed)
fixed_found at [] rest e = cc
fixed_found at (t ∷ more) rest e = let is = cond_some (is_at at t) more rest e in (t, ap (λ l. t ∷ l) is.1, is.0)

pub fixed_again : (at : FormPlace) (fixed : Token) (tokens rest : Tokens) → tokens ≡ fixed ∷ rest → IsTrue (is_at at fixed) → fixed_at at tokens ≡ Some rest
fixed_again at fixed tokens rest e is = ap (fixed_at at) e ∙ cond-true (is_at at fixed) _ _ is

pub stands_again : (at : FormPlace) (fixed : Token) (tokens rest : Tokens) → tokens ≡ fixed ∷ rest → IsTrue (is_at at fixed) → stands_at at tokens ≡ true
stands_again at fixed tokens rest e is = ap (stands_at at) e ∙ is

parenthesis_is : (t : Token) → (IsTrue (is_at place.Open t) → t ≡ Open) × (IsTrue (is_at place.Close t) → t ≡ Close)
parenthesis_is Open = (λ is. refl, λ is. absurd (true≢false (sym is)))
parenthesis_is Close = (λ is. absurd (true≢false (sym is)), λ is. refl)
parenthesis_is _ = (λ is. absurd (true≢false (sym is)), λ is. absurd (true≢false (sym is)))

-- what stands where another mark is asked for does not open a parenthesis
closes : (at : FormPlace) (t : Token) → IsTrue (is_at at t) → is_at at Open ≡ false → is_at place.Open t ≡ false
closes at Open is other = absurd (true≢false (sym is ∙ other))
closes at _ is other = refl

-- a function on tokens that finds what stands in them
pub record Finds {X : Type 0} (Is : Standing X) (item : Tokens → Option (X × Tokens)) : Type 0 where
  pub found : (tokens : Tokens) (r : X × Tokens) → item tokens ≡ Some r → Is r.0 tokens r.1
  pub again : (x : X) (tokens rest : Tokens) → Is x tokens rest → stands_at place.Open rest ≡ false → item tokens ≡ Some (x, rest)
  pub shrinks : (x : X) (tokens rest : Tokens) → Is x tokens rest → length rest < length tokens

pub word_found : (tokens : Tokens) (r : List ℕ × Tokens) → word_at tokens ≡ Some r → tokens ≡ Word r.0 ∷ r.1
word_found (Word w ∷ rest) r e = ap (λ (r : List ℕ × Tokens). Word r.0 ∷ r.1) (same_Some (w, rest) r e)
word_found _ r e = cc

pub finds_name : Finds IsNameAt word_at
finds_name = record {
  found = word_found;
  again = λ x tokens rest e calm. ap word_at e;
  shrinks = λ x tokens rest e. (let long = ap length e in omega (arith, long));
}

pub finds_value : Finds IsValueAt operand_at
finds_value = record { found = found; again = again; shrinks = shrinks }
  where
    found : (tokens : Tokens) (r : Operand × Tokens) → operand_at tokens ≡ Some r → IsValueAt r.0 tokens r.1
    found (Word w ∷ rest) r e = subst (λ (r : Operand × Tokens). IsValueAt r.0 (Word w ∷ rest) r.1) (same_Some (operand.Word w, rest) r e) refl
    found (Text t ∷ rest) r e = subst (λ (r : Operand × Tokens). IsValueAt r.0 (Text t ∷ rest) r.1) (same_Some (operand.Text t, rest) r e) refl
    found _ r e = cc

    again : (x : Operand) (tokens rest : Tokens) → IsValueAt x tokens rest → stands_at place.Open rest ≡ false → operand_at tokens ≡ Some (x, rest)
    again (operand.Word w) tokens rest e calm = ap operand_at e
    again (operand.Text t) tokens rest e calm = ap operand_at e

    shrinks : (x : Operand) (tokens rest : Tokens) → IsValueAt x tokens rest → length rest < length tokens
    shrinks (operand.Word w) tokens rest e = let long = ap length e in omega (arith, long)
    shrinks (operand.Text t) tokens rest e = let long = ap length e in omega (arith, long)

comparison_is : (tokens : Tokens) (r : Comparison × Tokens) → comparison_at tokens ≡ Some r → tokens ≡ comparison_token r.0 ∷ r.1
comparison_is (Less ∷ rest) r e = ap (λ (r : Comparison × Tokens). comparison_token r.0 ∷ r.1) (same_Some (compared.Less, rest) r e)
comparison_is (LessEqual ∷ rest) r e = ap (λ (r : Comparison × Tokens). comparison_token r.0 ∷ r.1) (same_Some (compared.LessEqual, rest) r e)
comparison_is (Greater ∷ rest) r e = ap (λ (r : Comparison × Tokens). comparison_token r.0 ∷ r.1) (same_Some (compared.Greater, rest) r e)
comparison_is (GreaterEqual ∷ rest) r e = ap (λ (r : Comparison × Tokens). comparison_token r.0 ∷ r.1) (same_Some (compared.GreaterEqual, rest) r e)
comparison_is (Equal ∷ rest) r e = ap (λ (r : Comparison × Tokens). comparison_token r.0 ∷ r.1) (same_Some (compared.Equal, rest) r e)
comparison_is _ r e = cc

comparison_again : (c : Comparison) (tokens rest : Tokens) → tokens ≡ comparison_token c ∷ rest → comparison_at tokens ≡ Some (c, rest)
comparison_again compared.Less tokens rest e = ap comparison_at e
comparison_again _ tokens rest e = ap comparison_at e

condition_found : (tokens : Tokens) (r : Condition × Tokens) → condition_at tokens ≡ Some r → IsCondition r.0 tokens r.1
unfolding condition_at
condition_found tokens r e =
    let a = step _ _ _ e in
    let b = step _ _ _ a.2 in
    let c = step _ _ _ b.2 in
    let f = fixed_found (place.Keyword key.Time) tokens a.0 a.1 in
    let is : ◌≡◌ {A = Condition × Tokens} (record { comparison = b.0.0; number = c.0.0 }, c.0.1) r = same_Some _ r c.2 in
    subst (λ (r : Condition × Tokens). IsCondition r.0 tokens r.1) is
    (f.0, a.0, f.1, f.2, comparison_is a.0 b.0 b.1 ∙ ap (λ (l : Tokens). comparison_token b.0.0 ∷ l) (word_found b.0.1 c.0 c.1))

condition_again : (x : Condition) (tokens rest : Tokens) → IsCondition x tokens rest → stands_at place.Open rest ≡ false → condition_at tokens ≡ Some (x, rest)
unfolding condition_at
condition_again x tokens rest h calm =
    leads (fixed_at (place.Keyword key.Time) tokens) h.1 _ _ (fixed_again (place.Keyword key.Time) h.0 tokens h.1 h.2 h.3)
    (leads (comparison_at h.1) (x.comparison, Word x.number ∷ rest) _ _ (comparison_again x.comparison h.1 (Word x.number ∷ rest) h.4) refl)

pub finds_condition : Finds IsCondition condition_at
finds_condition = record {
  found = condition_found;
  again = condition_again;
  shrinks = λ x tokens rest h. (let outer = ap length h.2 in let inner = ap length h.4 in omega (arith, outer, inner));
}

called_found : (name : List ℕ) (tokens : Tokens) (r : SyntaxColumn × Tokens) (from : Tokens) → from ≡ Word name ∷ tokens → called_at name tokens ≡ Some r → IsColumnAt r.0 from r.1
unfolding called_at
called_found name tokens r from begins e =
    let a = step _ _ _ e in
    let b = step _ _ _ a.2 in
    let c = step _ _ _ b.2 in
    let o = fixed_found place.Open tokens a.0 a.1 in
    let d = fixed_found place.Close b.0.1 c.0 c.1 in
    let is : ◌≡◌ {A = SyntaxColumn × Tokens} (record { aggregate = Some name; measurement = b.0.0 }, c.0) r = same_Some _ r c.2 in
    subst (λ (r : SyntaxColumn × Tokens). IsColumnAt r.0 from r.1) is
    (begins ∙ ap (λ (l : Tokens). Word name ∷ l) (o.1 ∙ ap (λ t. t ∷ a.0) ((parenthesis_is o.0).0 o.2) ∙ ap (λ (l : Tokens). Open ∷ l)
    (word_found a.0 b.0 b.1 ∙ ap (λ (l : Tokens). Word b.0.0 ∷ l) (d.1 ∙ ap (λ t. t ∷ c.0) ((parenthesis_is d.0).1 d.2)))))

column_found : (tokens : Tokens) (r : SyntaxColumn × Tokens) → column_at tokens ≡ Some r → IsColumnAt r.0 tokens r.1
unfolding column_at
column_found tokens r e =
    let a = step _ _ _ e in
    cond_both (stands_at place.Open a.0.1) _ _ (λ o. o ≡ Some r → IsColumnAt r.0 tokens r.1)
    (λ opened. called_found a.0.0 a.0.1 r tokens (word_found tokens a.0 a.1))
    (λ none e. subst (λ (r : SyntaxColumn × Tokens). IsColumnAt r.0 tokens r.1) (same_Some _ r e) (word_found tokens a.0 a.1)) a.2

column_again : (aggregate : Option (List ℕ)) (measurement : List ℕ) (tokens rest : Tokens) → Called aggregate measurement tokens rest → stands_at place.Open rest ≡ false
    → column_at tokens ≡ Some (record { aggregate = aggregate; measurement = measurement }, rest)
unfolding column_at called_at
column_again None measurement tokens rest e calm =
    leads (word_at tokens) (measurement, rest) _ _ (ap word_at e) (cond-false (stands_at place.Open rest) _ _ calm)
column_again (Some name) measurement tokens rest e calm = leads (word_at tokens) (name, Open ∷ Word measurement ∷ Close ∷ rest) _ _ (ap word_at e) refl

column_shrinks : (aggregate : Option (List ℕ)) (measurement : List ℕ) (tokens rest : Tokens) → Called aggregate measurement tokens rest → length rest < length tokens
column_shrinks None measurement tokens rest e = let long = ap length e in omega (arith, long)
column_shrinks (Some name) measurement tokens rest e = let long = ap length e in omega (arith, long)

pub finds_column : Finds IsColumnAt column_at
finds_column = record {
  found = column_found;
  again = λ x tokens rest h calm. column_again x.aggregate x.measurement tokens rest h calm;
  shrinks = λ x tokens rest h. column_shrinks x.aggregate x.measurement tokens rest h;
}

-- lists

module _ {X : Type 0} (between : FormPlace) (Is : Standing X) (item : Tokens → Option (X × Tokens)) (finds : Finds Is item) where
  items_found : (turns : ℕ) (tokens : Tokens) (r : List X × Tokens) → items_at between item turns tokens ≡ Some r → AreRow (Behind between Is) r.0 tokens r.1
  items_found zero tokens r e = subst (λ (r : List X × Tokens). AreRow (Behind between Is) r.0 tokens r.1) (same_Some ([], tokens) r e) refl
  items_found (suc n) tokens r e =
      cond_both (stands_at between tokens) _ _ (λ o. o ≡ Some r → AreRow (Behind between Is) r.0 tokens r.1)
      (λ more e. (let a = step _ _ _ e in
      let b = step _ _ _ a.2 in
      let s = mapped (onto b.0.0) (items_at between item n b.0.1) r b.2 in
      let f = fixed_found between tokens a.0 a.1 in
      subst (λ (r : List X × Tokens). AreRow (Behind between Is) r.0 tokens r.1) s.2
      (b.0.1, (f.0, a.0, f.1, f.2, finds.found a.0 b.0 b.1), items_found n b.0.1 s.0 s.1)))
      (λ over e. subst (λ (r : List X × Tokens). AreRow (Behind between Is) r.0 tokens r.1) (same_Some ([], tokens) r e) refl) e

  pub list_found : (tokens : Tokens) (r : List X × Tokens) → list_at between item tokens ≡ Some r → AreListed between Is r.0 tokens r.1
  list_found tokens r e =
      let a = step _ _ _ e in
      let s = mapped (onto a.0.0) (items_at between item (length a.0.1) a.0.1) r a.2 in
      subst (λ (r : List X × Tokens). AreListed between Is r.0 tokens r.1) s.2 (a.0.1, finds.found tokens a.0 a.1, items_found (length a.0.1) a.0.1 s.0 s.1)

  -- each item takes a token at least
  row_length : (xs : List X) (tokens rest : Tokens) → AreRow (Behind between Is) xs tokens rest → length xs ≤ length tokens
  row_length [] tokens rest h = omega arith
  row_length (x ∷ xs) tokens rest h =
      let outer = ap length h.1.2 in
      let inner = finds.shrinks x h.1.1 h.0 h.1.4 in
      let others = row_length xs h.0 rest h.2 in
      omega (arith, outer, inner, others)

  module _ (mark : is_at between Open ≡ false) (rest : Tokens) (stops : stands_at between rest ≡ false) (calm : stands_at place.Open rest ≡ false) where
    row_calm : (xs : List X) (tokens : Tokens) → AreRow (Behind between Is) xs tokens rest → stands_at place.Open tokens ≡ false
    row_calm [] tokens h = ap (stands_at place.Open) h ∙ calm
    row_calm (x ∷ xs) tokens h = ap (stands_at place.Open) h.1.2 ∙ closes between h.1.0 h.1.3 mark

    items_again : (xs : List X) (turns : ℕ) (tokens : Tokens) → length xs ≤ turns → AreRow (Behind between Is) xs tokens rest → items_at between item turns tokens ≡ Some (xs, rest)
    items_again [] zero tokens enough h = ap (λ (l : Tokens). Some ([], l)) h
    items_again [] (suc n) tokens enough h =
        cond-false (stands_at between tokens) _ _ (ap (stands_at between) h ∙ stops) ∙ ap (λ (l : Tokens). Some ([], l)) h
    items_again (x ∷ xs) zero tokens enough h = absurd (omega (arith, enough))
    items_again (x ∷ xs) (suc n) tokens enough h =
        cond-true (stands_at between tokens) _ _ (stands_again between h.1.0 tokens h.1.1 h.1.2 h.1.3)
        ∙ leads (fixed_at between tokens) h.1.1 _ _ (fixed_again between h.1.0 tokens h.1.1 h.1.2 h.1.3)
        (leads (item h.1.1) (x, h.0) _ _ (finds.again x h.1.1 h.0 h.1.4 (row_calm xs h.0 h.2)) (ap (option_map (onto x)) (items_again xs n h.0 (omega (arith, enough)) h.2)))

    pub list_again : (xs : List X) (tokens : Tokens) → AreListed between Is xs tokens rest → list_at between item tokens ≡ Some (xs, rest)
    list_again [] tokens h = absurd h
    list_again (x ∷ xs) tokens h =
        leads (item tokens) (x, h.0) _ _ (finds.again x tokens h.0 h.1 (row_calm xs h.0 h.2))
        (ap (option_map (onto x)) (items_again xs (length h.0) h.0 (row_length xs h.0 rest h.2) h.2))

pub some_listed : {X : Type 0} (between : FormPlace) (Is : Standing X) (xs : List X) (tokens rest : Tokens)
    → AreListed between Is xs tokens rest → 0 < length xs
some_listed between Is [] tokens rest h = absurd h
some_listed between Is (x ∷ xs) tokens rest h = omega arith

pub conditions_found : (tokens : Tokens) (r : List Condition × Tokens) → conditions_at tokens ≡ Some r → AreConditions r.0 tokens r.1
unfolding conditions_at
conditions_found tokens r e =
    cond_both (stands_at (place.Keyword key.Where) tokens) _ _ (λ o. o ≡ Some r → AreConditions r.0 tokens r.1)
    (λ some e. (let a = step _ _ _ e in
    let f = fixed_found (place.Keyword key.Where) tokens a.0 a.1 in
    behind_where r.0 r.1 f.0 a.0 f.1 f.2 (list_found (place.Keyword key.And) IsCondition condition_at finds_condition a.0 r a.2)))
    (λ none e. subst (λ (r : List Condition × Tokens). AreConditions r.0 tokens r.1) (same_Some ([], tokens) r e) refl) e
  where
    behind_where : (conditions : List Condition) (rest : Tokens) (fixed : Token) (more : Tokens) → tokens ≡ fixed ∷ more → IsTrue (is_at (place.Keyword key.Where) fixed)
        → AreListed (place.Keyword key.And) IsCondition conditions more rest → AreConditions conditions tokens rest
    behind_where [] rest fixed more e is h = absurd h
    behind_where (c ∷ cs) rest fixed more e is h = (fixed, more, e, is, h)

pub conditions_again : (conditions : List Condition) (tokens rest : Tokens) → stands_at (place.Keyword key.Where) rest ≡ false → stands_at (place.Keyword key.And) rest ≡ false
    → stands_at place.Open rest ≡ false → AreConditions conditions tokens rest → conditions_at tokens ≡ Some (conditions, rest)
unfolding conditions_at
conditions_again [] tokens rest no_where no_and calm h =
    cond-false (stands_at (place.Keyword key.Where) tokens) _ _ (ap (stands_at (place.Keyword key.Where)) h ∙ no_where)
    ∙ ap (λ (l : Tokens). Some ([], l)) h
conditions_again (c ∷ cs) tokens rest no_where no_and calm h =
    cond-true (stands_at (place.Keyword key.Where) tokens) _ _ (stands_again (place.Keyword key.Where) h.0 tokens h.1 h.2 h.3)
    ∙ leads (fixed_at (place.Keyword key.Where) tokens) h.1 _ _ (fixed_again (place.Keyword key.Where) h.0 tokens h.1 h.2 h.3)
    (list_again (place.Keyword key.And) IsCondition condition_at finds_condition refl rest no_and calm (c ∷ cs) h.1 h.4)
