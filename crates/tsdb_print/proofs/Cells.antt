-- Values, and rows of values.
use Rattle.std.proofs.Common.{◌≡◌, ◌≢◌, ℕ, ◌<◌, ◌≤◌, true, false, cond, List, [], ◌∷◌, ◌++◌, Option, None, Some, map, length, refl, ap, sym, ◌∙◌, arith, codes, append_assoc, length-append, option_map, get_or, inl, inr, ◌⊎◌}
use Rattle.std.specs.List.{flat_map, AllByRecursion}
use Rattle.std.specs.Fmt.{signed_decimal}
use Rattle.std.specs.Prelude.{ℤ, ◌==◌, FitsSigned, if◌then◌else◌}
use Rattle.std.specs.Int.{w128}
use Rattle.std.proofs.lemmas.Bool.{cases_eq, eq-eqb, ne_eqb}
use Rattle.tsdb_base.specs.declared.answers.Figure.{Figure}
use Rattle.tsdb_base.specs.declared.answers.Figure.TheVariants as figure
use Rattle.tsdb_base.specs.declared.value.Value.{Value}
use Rattle.tsdb_base.specs.declared.value.Value.TheVariants as value
use Rattle.tsdb_model.specs.declared.reply.Line.{Line}
use Rattle.tsdb_print.specs.Text.{cell_text, figure_text, join_with_commas, line, quote, row_text}
use Rattle.tsdb_print.specs.Alike.{shown_figure, shown_figures, shown_row, shown_value, shown_values, IsCellInRange, IsFigureInRange, IsRowInRange}
use Rattle.tsdb_print.proofs.Words.{head_of, tail_of, Stops, IsWord, same_word, signed_word, signed_number, same_signed, after_signed, fits_wide, no_letter, not_empty}

-- a byte of a text, twice where it is a quote
abbrev doubled : ℕ → List ℕ
doubled byte = if byte == 39 then byte ∷ byte ∷ [] else byte ∷ []

-- a quote is doubled, and another byte is not
doubled_cases : (b : ℕ) → ((b ≡ 39) × (doubled b ≡ 39 ∷ 39 ∷ [])) ⊎ ((b ≢ 39) × (doubled b ≡ b ∷ []))
doubled_cases b =
    elim (cases_eq b 39) [
      | inl is ↦ inl (is, ap (λ t. cond t (b ∷ b ∷ []) (b ∷ [])) (eq-eqb b 39 is) ∙ ap (λ c. c ∷ c ∷ []) is)
      | inr other ↦ inr (other, ap (λ t. cond t (b ∷ b ∷ []) (b ∷ [])) (ne_eqb b 39 other))
    ]

stop_quote : (x rest : List ℕ) → Stops x → x ≡ 39 ∷ rest → ⊥
stop_quote [] rest stops e = stops
stop_quote (b ∷ x) rest stops e = stops.1 (head_of b 39 x rest e)

-- a text of quotes and other bytes, and what follows it
pub same_quote : (s t x y : List ℕ) → Stops x → Stops y → flat_map doubled s ++ 39 ∷ x ≡ flat_map doubled t ++ 39 ∷ y → (s ≡ t) × (x ≡ y)
same_quote [] [] x y sx sy e = (refl, cc)
same_quote [] (c ∷ t) x y sx sy e =
    elim (doubled_cases c) [
      | inl q ↦ absurd (stop_quote x (flat_map doubled t ++ 39 ∷ y) sx
          (tail_of 39 39 x (39 ∷ (flat_map doubled t ++ 39 ∷ y)) (e ∙ ap (λ l. l ++ flat_map doubled t ++ 39 ∷ y) q.1)))
      | inr q ↦ absurd (q.0 (sym (head_of 39 c x (flat_map doubled t ++ 39 ∷ y) (e ∙ ap (λ l. l ++ flat_map doubled t ++ 39 ∷ y) q.1))))
    ]
same_quote (b ∷ s) [] x y sx sy e =
    elim (doubled_cases b) [
      | inl q ↦ absurd (stop_quote y (flat_map doubled s ++ 39 ∷ x) sy
          (tail_of 39 39 y (39 ∷ (flat_map doubled s ++ 39 ∷ x)) (sym e ∙ ap (λ l. l ++ flat_map doubled s ++ 39 ∷ x) q.1)))
      | inr q ↦ absurd (q.0 (sym (head_of 39 b y (flat_map doubled s ++ 39 ∷ x) (sym e ∙ ap (λ l. l ++ flat_map doubled s ++ 39 ∷ x) q.1))))
    ]
same_quote (b ∷ s) (c ∷ t) x y sx sy e =
    let left = λ (d : List ℕ). d ++ flat_map doubled s ++ 39 ∷ x in
    let right = λ (d : List ℕ). d ++ flat_map doubled t ++ 39 ∷ y in
    elim (doubled_cases b) [
      | inl p ↦ elim (doubled_cases c) [
        | inl q ↦
            let one = tail_of 39 39 (39 ∷ (flat_map doubled s ++ 39 ∷ x)) (39 ∷ (flat_map doubled t ++ 39 ∷ y)) (sym (ap left p.1) ∙ e ∙ ap right q.1) in
            let two = tail_of 39 39 (flat_map doubled s ++ 39 ∷ x) (flat_map doubled t ++ 39 ∷ y) one in
            let rest = same_quote s t x y sx sy two in
            let same : b ≡ c = p.0 ∙ sym q.0 in
            let others : s ≡ t = rest.0 in
            (cc, rest.1)
        | inr q ↦ absurd (q.0 (sym (head_of 39 c (39 ∷ (flat_map doubled s ++ 39 ∷ x)) (flat_map doubled t ++ 39 ∷ y) (sym (ap left p.1) ∙ e ∙ ap right q.1))))
      ]
      | inr p ↦ elim (doubled_cases c) [
        | inl q ↦ absurd (p.0 (head_of b 39 (flat_map doubled s ++ 39 ∷ x) (39 ∷ (flat_map doubled t ++ 39 ∷ y)) (sym (ap left p.1) ∙ e ∙ ap right q.1)))
        | inr q ↦
            let both = sym (ap left p.1) ∙ e ∙ ap right q.1 in
            let rest = same_quote s t x y sx sy (tail_of b c (flat_map doubled s ++ 39 ∷ x) (flat_map doubled t ++ 39 ∷ y) both) in
            let same : b ≡ c = head_of b c (flat_map doubled s ++ 39 ∷ x) (flat_map doubled t ++ 39 ∷ y) both in
            let others : s ≡ t = rest.0 in
            (cc, rest.1)
      ]
    ]

-- a value of any width up to that of a sum
abbrev IsWide : Option Value → Type 0
IsWide None = Unit {0}
IsWide (Some (value.Bool b)) = Unit {0}
IsWide (Some (value.I32 number)) = FitsSigned w128 number
IsWide (Some (value.I64 number)) = FitsSigned w128 number
IsWide (Some (value.Text bytes)) = Unit {0}

wide_cell : (v : Option Value) → IsCellInRange v → IsWide v
wide_cell None range = tt
wide_cell (Some (value.Bool b)) range = tt
wide_cell (Some (value.I32 number)) range = fits_wide number range
wide_cell (Some (value.I64 number)) range = fits_wide number range
wide_cell (Some (value.Text bytes)) range = tt

wide_cells : (vs : List (Option Value)) → AllByRecursion IsCellInRange vs → AllByRecursion IsWide vs
wide_cells [] range = tt
wide_cells (v ∷ vs) range = (wide_cell v range.0, wide_cells vs range.1)

-- a value that is no text
abbrev IsSimple : Option Value → Type 0
IsSimple None = Unit {0}
IsSimple (Some (value.Bool b)) = Unit {0}
IsSimple (Some (value.I32 number)) = Unit {0}
IsSimple (Some (value.I64 number)) = Unit {0}
IsSimple (Some (value.Text bytes)) = ⊥

simple_word : (a : Option Value) → IsSimple a → IsWide a → IsWord (cell_text a)
simple_word None simple range = (omega arith, (omega arith, (omega arith, (omega arith, tt))))
simple_word (Some (value.Bool true)) simple range = (omega arith, (omega arith, (omega arith, (omega arith, tt))))
simple_word (Some (value.Bool false)) simple range = (omega arith, (omega arith, (omega arith, (omega arith, (omega arith, tt)))))
simple_word (Some (value.I32 number)) simple range = signed_word number range
simple_word (Some (value.I64 number)) simple range = signed_word number range
simple_word (Some (value.Text bytes)) simple range = absurd simple

-- a number is no word that begins with a letter
no_word : (z : ℤ) (letter : ℕ) (rest : List ℕ) → FitsSigned w128 z → 58 ≤ letter → letter ∷ rest ≡ signed_decimal z → ⊥
no_word z letter rest fits high e =
    no_letter (signed_decimal z) (10 ∷ []) (rest ++ 10 ∷ []) letter (signed_number z fits) (omega arith, λ h. omega (arith, h)) high (ap (λ l. l ++ 10 ∷ []) e)

-- two such values with one text show the same
same_simple : (a b : Option Value) → IsSimple a → IsSimple b → IsWide a → IsWide b → cell_text a ≡ cell_text b → option_map shown_value a ≡ option_map shown_value b
same_simple None None sa sb ra rb e = refl
same_simple None (Some (value.Bool true)) sa sb ra rb e = let first : 110 ≡ 116 = ap (λ l. get_or l 0 0) e in absurd (omega (arith, first))
same_simple None (Some (value.Bool false)) sa sb ra rb e = let first : 110 ≡ 102 = ap (λ l. get_or l 0 0) e in absurd (omega (arith, first))
same_simple None (Some (value.I32 n)) sa sb ra rb e = absurd (no_word n 110 (codes "ull") rb (omega arith) e)
same_simple None (Some (value.I64 n)) sa sb ra rb e = absurd (no_word n 110 (codes "ull") rb (omega arith) e)
same_simple None (Some (value.Text n)) sa sb ra rb e = absurd sb
same_simple (Some (value.Bool true)) None sa sb ra rb e = let first : 116 ≡ 110 = ap (λ l. get_or l 0 0) e in absurd (omega (arith, first))
same_simple (Some (value.Bool true)) (Some (value.Bool true)) sa sb ra rb e = refl
same_simple (Some (value.Bool true)) (Some (value.Bool false)) sa sb ra rb e = let first : 116 ≡ 102 = ap (λ l. get_or l 0 0) e in absurd (omega (arith, first))
same_simple (Some (value.Bool true)) (Some (value.I32 n)) sa sb ra rb e = absurd (no_word n 116 (codes "rue") rb (omega arith) e)
same_simple (Some (value.Bool true)) (Some (value.I64 n)) sa sb ra rb e = absurd (no_word n 116 (codes "rue") rb (omega arith) e)
same_simple (Some (value.Bool true)) (Some (value.Text n)) sa sb ra rb e = absurd sb
same_simple (Some (value.Bool false)) None sa sb ra rb e = let first : 102 ≡ 110 = ap (λ l. get_or l 0 0) e in absurd (omega (arith, first))
same_simple (Some (value.Bool false)) (Some (value.Bool true)) sa sb ra rb e = let first : 102 ≡ 116 = ap (λ l. get_or l 0 0) e in absurd (omega (arith, first))
same_simple (Some (value.Bool false)) (Some (value.Bool false)) sa sb ra rb e = refl
same_simple (Some (value.Bool false)) (Some (value.I32 n)) sa sb ra rb e = absurd (no_word n 102 (codes "alse") rb (omega arith) e)
same_simple (Some (value.Bool false)) (Some (value.I64 n)) sa sb ra rb e = absurd (no_word n 102 (codes "alse") rb (omega arith) e)
same_simple (Some (value.Bool false)) (Some (value.Text n)) sa sb ra rb e = absurd sb
same_simple (Some (value.I32 m)) None sa sb ra rb e = absurd (no_word m 110 (codes "ull") ra (omega arith) (sym e))
same_simple (Some (value.I32 m)) (Some (value.Bool true)) sa sb ra rb e = absurd (no_word m 116 (codes "rue") ra (omega arith) (sym e))
same_simple (Some (value.I32 m)) (Some (value.Bool false)) sa sb ra rb e = absurd (no_word m 102 (codes "alse") ra (omega arith) (sym e))
same_simple (Some (value.I32 m)) (Some (value.I32 n)) sa sb ra rb e = ap (λ z. Some (value.I64 z)) (same_signed m n ra rb e)
same_simple (Some (value.I32 m)) (Some (value.I64 n)) sa sb ra rb e = ap (λ z. Some (value.I64 z)) (same_signed m n ra rb e)
same_simple (Some (value.I32 m)) (Some (value.Text n)) sa sb ra rb e = absurd sb
same_simple (Some (value.I64 m)) None sa sb ra rb e = absurd (no_word m 110 (codes "ull") ra (omega arith) (sym e))
same_simple (Some (value.I64 m)) (Some (value.Bool true)) sa sb ra rb e = absurd (no_word m 116 (codes "rue") ra (omega arith) (sym e))
same_simple (Some (value.I64 m)) (Some (value.Bool false)) sa sb ra rb e = absurd (no_word m 102 (codes "alse") ra (omega arith) (sym e))
same_simple (Some (value.I64 m)) (Some (value.I32 n)) sa sb ra rb e = ap (λ z. Some (value.I64 z)) (same_signed m n ra rb e)
same_simple (Some (value.I64 m)) (Some (value.I64 n)) sa sb ra rb e = ap (λ z. Some (value.I64 z)) (same_signed m n ra rb e)
same_simple (Some (value.I64 m)) (Some (value.Text n)) sa sb ra rb e = absurd sb
same_simple (Some (value.Text m)) b sa sb ra rb e = absurd sa

-- a word is not what begins with a quote
no_quote : (text x rest : List ℕ) → IsWord text → Stops x → 39 ∷ rest ≡ text ++ x → ⊥
no_quote [] [] rest word stops e = absurd stops
no_quote [] (d ∷ x) rest word stops e = stops.1 (cc)
no_quote (c ∷ text) x rest word stops e = let first : 39 ≡ c = cc in omega (arith, word.0)

quote_then : (bytes x : List ℕ) → quote bytes ++ x ≡ 39 ∷ (flat_map doubled bytes ++ 39 ∷ x)
quote_then bytes x = ap (λ l. 39 ∷ l) (append_assoc (flat_map doubled bytes) (39 ∷ []) x)

-- a value or none, and what follows it
pub same_cell : (a b : Option Value) (x y : List ℕ) → IsWide a → IsWide b → Stops x → Stops y
    → cell_text a ++ x ≡ cell_text b ++ y → (option_map shown_value a ≡ option_map shown_value b) × (x ≡ y)
same_cell (Some (value.Text s)) (Some (value.Text t)) x y ra rb sx sy e =
    let inner : flat_map doubled s ++ 39 ∷ x ≡ flat_map doubled t ++ 39 ∷ y = (let whole = sym (quote_then s x) ∙ e ∙ quote_then t y in cc) in
    let same = same_quote s t x y sx sy inner in
    (ap (λ l. Some (value.Text l)) same.0, same.1)
same_cell (Some (value.Text s)) b x y ra rb sx sy e =
    absurd (no_quote (cell_text b) y (flat_map doubled s ++ 39 ∷ x) (simple_word b tt rb) sy (sym (quote_then s x) ∙ e))
same_cell a (Some (value.Text t)) x y ra rb sx sy e =
    absurd (no_quote (cell_text a) x (flat_map doubled t ++ 39 ∷ y) (simple_word a tt ra) sx (sym (quote_then t y) ∙ sym e))
same_cell a b x y ra rb sx sy e =
    let same = same_word (cell_text a) (cell_text b) x y (simple_word a tt ra) (simple_word b tt rb) sx sy e in
    (same_simple a b tt tt ra rb same.0, same.1)

-- values, each behind a comma
abbrev pub behind_commas : List (Option Value) → List ℕ
behind_commas values = flat_map (λ other. 44 ∷ other) (map cell_text values)

-- the lines of rows
abbrev pub rows_lines : List Line → List ℕ
rows_lines rows = flat_map (λ row. line (row_text row)) rows

cells_stop : (values : List (Option Value)) (x : List ℕ) → Stops (behind_commas values ++ 10 ∷ x)
cells_stop [] x = (omega arith, λ h. omega (arith, h))
cells_stop (value ∷ values) x = (omega arith, λ h. omega (arith, h))

-- the values of a row, and what follows its line
pub same_cells : (a b : List (Option Value)) (x y : List ℕ) → AllByRecursion IsWide a → AllByRecursion IsWide b
    → behind_commas a ++ 10 ∷ x ≡ behind_commas b ++ 10 ∷ y → (shown_values a ≡ shown_values b) × (x ≡ y)
same_cells [] [] x y ra rb e = (refl, cc)
same_cells [] (v ∷ b) x y ra rb e = let first : 10 ≡ 44 = ap (λ l. get_or l 0 0) e in absurd (omega (arith, first))
same_cells (u ∷ a) [] x y ra rb e = let first : 44 ≡ 10 = ap (λ l. get_or l 0 0) e in absurd (omega (arith, first))
same_cells (u ∷ a) (v ∷ b) x y ra rb e =
    let split : cell_text u ++ (behind_commas a ++ 10 ∷ x) ≡ cell_text v ++ (behind_commas b ++ 10 ∷ y) =
    sym (append_assoc (cell_text u) (behind_commas a) (10 ∷ x))
    ∙ tail_of 44 44 (cell_text u ++ behind_commas a ++ 10 ∷ x) (cell_text v ++ behind_commas b ++ 10 ∷ y) e
    ∙ append_assoc (cell_text v) (behind_commas b) (10 ∷ y) in
    let first = same_cell u v (behind_commas a ++ 10 ∷ x) (behind_commas b ++ 10 ∷ y) ra.0 rb.0 (cells_stop a x) (cells_stop b y) split in
    let others = same_cells a b x y ra.1 rb.1 first.1 in
    let head : option_map shown_value u ≡ option_map shown_value v = first.0 in
    let tail : shown_values a ≡ shown_values b = others.0 in
    (cc, others.1)

-- no value prints as nothing
pub not_blank : (v : Option Value) → IsWide v → 0 < length (cell_text v)
not_blank None range = omega arith
not_blank (Some (value.Bool true)) range = omega arith
not_blank (Some (value.Bool false)) range = omega arith
not_blank (Some (value.I32 number)) range = not_empty number range
not_blank (Some (value.I64 number)) range = not_empty number range
not_blank (Some (value.Text bytes)) range = omega arith

-- the values of a line by themselves
same_values : (a b : List (Option Value)) → AllByRecursion IsWide a → AllByRecursion IsWide b
    → join_with_commas (map cell_text a) ++ 10 ∷ [] ≡ join_with_commas (map cell_text b) ++ 10 ∷ [] → shown_values a ≡ shown_values b
same_values [] [] ra rb e = refl
same_values [] (v ∷ b) ra rb e = absurd (omega (arith, not_blank v rb.0, ap length e, length-append (cell_text v) (behind_commas b), length-append (cell_text v ++ behind_commas b) (10 ∷ [])))
same_values (u ∷ a) [] ra rb e = absurd (omega (arith, not_blank u ra.0, ap length e, length-append (cell_text u) (behind_commas a), length-append (cell_text u ++ behind_commas a) (10 ∷ [])))
same_values (u ∷ a) (v ∷ b) ra rb e = (same_cells (u ∷ a) (v ∷ b) [] [] ra rb (ap (λ l. 44 ∷ l) e)).0

-- what prints as a figure does
cell_of : Option Figure → Option Value
cell_of None = None
cell_of (Some (figure.Value v)) = Some v
cell_of (Some (figure.Sum sum)) = Some (value.I64 sum)

wide_figures : (fs : List (Option Figure)) → AllByRecursion IsFigureInRange fs → AllByRecursion IsWide (map cell_of fs)
unfolding cell_of
wide_figures [] range = tt
wide_figures (None ∷ fs) range = (tt, wide_figures fs range.1)
wide_figures (Some (figure.Value v) ∷ fs) range = (wide_cell (Some v) range.0, wide_figures fs range.1)
wide_figures (Some (figure.Sum sum) ∷ fs) range = (range.0, wide_figures fs range.1)

cell_of-text : (f : Option Figure) → figure_text f ≡ cell_text (cell_of f)
unfolding cell_of
cell_of-text None = refl
cell_of-text (Some (figure.Value v)) = refl
cell_of-text (Some (figure.Sum sum)) = refl

cells_of-text : (fs : List (Option Figure)) → map figure_text fs ≡ map cell_text (map cell_of fs)
cells_of-text [] = refl
cells_of-text (f ∷ fs) = let head = cell_of-text f in let tail = cells_of-text fs in cc

cell_of-shown : (f : Option Figure) → option_map shown_figure f ≡ option_map figure.Value (option_map shown_value (cell_of f))
unfolding cell_of
cell_of-shown None = refl
cell_of-shown (Some (figure.Value v)) = refl
cell_of-shown (Some (figure.Sum sum)) = refl

cells_of-shown : (fs : List (Option Figure)) → shown_figures fs ≡ map (option_map figure.Value) (shown_values (map cell_of fs))
cells_of-shown [] = refl
cells_of-shown (f ∷ fs) = let head = cell_of-shown f in let tail = cells_of-shown fs in cc

-- the figures of a line by themselves
pub same_figures : (a b : List (Option Figure)) → AllByRecursion IsFigureInRange a → AllByRecursion IsFigureInRange b
    → join_with_commas (map figure_text a) ++ 10 ∷ [] ≡ join_with_commas (map figure_text b) ++ 10 ∷ [] → shown_figures a ≡ shown_figures b
same_figures a b ra rb e =
    let texts = ap (λ ts. join_with_commas ts ++ 10 ∷ []) (sym (cells_of-text a)) ∙ e ∙ ap (λ ts. join_with_commas ts ++ 10 ∷ []) (cells_of-text b) in
    cells_of-shown a ∙ ap (map (option_map figure.Value)) (same_values (map cell_of a) (map cell_of b) (wide_figures a ra) (wide_figures b rb) texts) ∙ sym (cells_of-shown b)

-- a row and what follows its line
row_parts : (row : Line) (x : List ℕ) → line (row_text row) ++ x ≡ signed_decimal row.time ++ (behind_commas row.values ++ 10 ∷ x)
row_parts row x = append_assoc (row_text row) (10 ∷ []) x ∙ append_assoc (signed_decimal row.time) (behind_commas row.values) (10 ∷ x)

first_row : (row : Line) (rows : List Line) (x : List ℕ) → rows_lines (row ∷ rows) ++ x ≡ line (row_text row) ++ (rows_lines rows ++ x)
first_row row rows x = append_assoc (line (row_text row)) (rows_lines rows) x

shown_row-same : (a b : Line) → a.time ≡ b.time → shown_values a.values ≡ shown_values b.values → shown_row a ≡ shown_row b
shown_row-same a b time values = cc

-- rows that are followed by a letter
pub same_rows : (a b : List Line) (x y : List ℕ) → AllByRecursion IsRowInRange a → AllByRecursion IsRowInRange b
    → rows_lines a ++ 114 ∷ x ≡ rows_lines b ++ 114 ∷ y → map shown_row a ≡ map shown_row b
same_rows [] [] x y ra rb e = refl
same_rows [] (v ∷ b) x y ra rb e =
    absurd (no_letter (signed_decimal v.time) (behind_commas v.values ++ 10 ∷ (rows_lines b ++ 114 ∷ y)) x 114 (signed_number v.time (fits_wide v.time rb.0.time)) (cells_stop v.values _) (omega arith)
    (e ∙ first_row v b (114 ∷ y) ∙ row_parts v (rows_lines b ++ 114 ∷ y)))
same_rows (u ∷ a) [] x y ra rb e =
    absurd (no_letter (signed_decimal u.time) (behind_commas u.values ++ 10 ∷ (rows_lines a ++ 114 ∷ x)) y 114 (signed_number u.time (fits_wide u.time ra.0.time)) (cells_stop u.values _) (omega arith)
    (sym e ∙ first_row u a (114 ∷ x) ∙ row_parts u (rows_lines a ++ 114 ∷ x)))
same_rows (u ∷ a) (v ∷ b) x y ra rb e =
    let split = sym (row_parts u (rows_lines a ++ 114 ∷ x)) ∙ sym (first_row u a (114 ∷ x)) ∙ e ∙ first_row v b (114 ∷ y) ∙ row_parts v (rows_lines b ++ 114 ∷ y) in
    let time = after_signed u.time v.time (behind_commas u.values ++ 10 ∷ (rows_lines a ++ 114 ∷ x)) (behind_commas v.values ++ 10 ∷ (rows_lines b ++ 114 ∷ y))
    (fits_wide u.time ra.0.time) (fits_wide v.time rb.0.time) (cells_stop u.values _) (cells_stop v.values _) split in
    let values = same_cells u.values v.values (rows_lines a ++ 114 ∷ x) (rows_lines b ++ 114 ∷ y) (wide_cells u.values ra.0.values) (wide_cells v.values rb.0.values) time.1 in
    let head : shown_row u ≡ shown_row v = shown_row-same u v time.0 values.0 in
    let tail : map shown_row a ≡ map shown_row b = same_rows a b x y ra.1 rb.1 values.1 in
    cc
