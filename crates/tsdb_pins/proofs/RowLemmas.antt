-- The steps of the loops over columns.
use Rattle.std.proofs.Common.{◌≡◌, ℕ, zero, suc, ◌+◌, ◌<◌, ◌≤◌, Bool, true, false, List, [], ◌∷◌, ◌++◌, inl, inr}
use Rattle.std.proofs.Common.{append_assoc, map, length, take, get_or, set, Option, None, Some, refl, sym, ap, subst, ◌∙◌, arith}
use Rattle.std.specs.Prelude.{ℤ, ◌≤ℤ◌, int_lt, if◌then◌else◌}
use Rattle.std.specs.Option.{option_to_list}
use Rattle.std.specs.List.{AllByRecursion as Each}
use Rattle.std.proofs.lemmas.Int.{ints}
use Rattle.std.proofs.lemmas.List.{append-nil, length-map, map-append, take_all, take_more}
use Rattle.std.specs.declared.alloc.Global.{Global}
use Rattle.std.specs.declared.collections.VecDeque.{VecDeque}
use Rattle.tsdb_base.specs.declared.point.Point.{Point}
use Rattle.tsdb_base.specs.declared.value.Value.{Value}
use Rattle.tsdb_base.proofs.Lists.{each_append, each_weaker}
use Rattle.tsdb_pins.specs.Rows.{AreTakenAt, BeginsAt, BeginsFrom, IsFirstTime, IsTakenAt, IsTimeOfFirst, OneBeginsAt, TakesLine, earlier_of, lists_of, vec_lists}
use Rattle.std.specs.declared.vec.Vec.{Vec}
use Rattle.tsdb_model.specs.Folds.{in_order, rows}
use Rattle.tsdb_model.specs.World.{PointMap}
use Rattle.tsdb_model.specs.declared.reply.Line.{Line}
use Rattle.tsdb_base.specs.Points.{IsRising}
use Rattle.tsdb_pins.proofs.Columns.{AreLinesOf, line_first, no_lines, one_taken, points_in, rising_after}
use Rattle.tsdb_pins.proofs.Lines.{are_rows, in_order_rise}

-- ---- the first time

one_left : (t : ℤ) (xs ys : List (List Point)) → OneBeginsAt t xs → OneBeginsAt t (xs ++ ys)
one_left t [] ys one = absurd one
one_left t (x ∷ xs) ys (inl begins) = inl begins
one_left t (x ∷ xs) ys (inr one) = inr (one_left t xs ys one)

one_right : (t : ℤ) (xs ys : List (List Point)) → OneBeginsAt t ys → OneBeginsAt t (xs ++ ys)
one_right t [] ys one = one
one_right t (x ∷ xs) ys one = inr (one_right t xs ys one)

from_earlier : (t u : ℤ) → u ≤ℤ t → (column : List Point) → BeginsFrom t column → BeginsFrom u column
from_earlier t u low [] from = tt
from_earlier t u low (p ∷ column) from = omega (arith, ints, low, from)

from_empty : (t : ℤ) (column : List Point) → column ≡ [] → BeginsFrom t column
from_empty t column is = subst (BeginsFrom t) (sym is) tt

lt_of : (a b : ℤ) → int_lt a b ≡ true → a ≤ℤ b
lt_of a b e = grind (arith, ints)

lt_not : (a b : ℤ) → int_lt a b ≡ false → b ≤ℤ a
lt_not a b e = grind (arith, ints)

le_itself : (a : ℤ) → a ≤ℤ a
le_itself a = omega (arith, ints)

-- one column more
first_then : (columns : List (List Point)) (first : Option ℤ) (column : List Point) (here : Option ℤ) → IsFirstTime columns first → IsTimeOfFirst column here → IsFirstTime (columns ++ column ∷ []) (earlier_of first here)
first_then columns None [] here is next = subst (λ h. IsFirstTime (columns ++ [] ∷ []) (earlier_of None h)) (sym next) (each_append (λ (c : List Point). c ≡ []) columns ([] ∷ []) is (refl, tt))
first_then columns (Some t) [] here is next = subst (λ h. IsFirstTime (columns ++ [] ∷ []) (earlier_of (Some t) h)) (sym next)
    (each_append (BeginsFrom t) columns ([] ∷ []) is.0 (tt, tt), one_left t columns ([] ∷ []) is.1)
first_then columns None (p ∷ points) here is next = subst (λ h. IsFirstTime (columns ++ (p ∷ points) ∷ []) (earlier_of None h)) (sym next) (
  each_append (BeginsFrom p.time) columns ((p ∷ points) ∷ []) (each_weaker (λ (c : List Point). c ≡ []) (BeginsFrom p.time) (λ c e. from_empty p.time c e) columns is) (le_itself p.time, tt),
  one_right p.time columns ((p ∷ points) ∷ []) (inl refl),
)
first_then columns (Some t) (p ∷ points) here is next = subst (λ h. IsFirstTime (columns ++ (p ∷ points) ∷ []) (earlier_of (Some t) h)) (sym next) (by (int_lt p.time t) refl)
  where
    by : (b : Bool) → int_lt p.time t ≡ b → IsFirstTime (columns ++ (p ∷ points) ∷ []) (Some (if b then p.time else t))
    by true e = (
      each_append (BeginsFrom p.time) columns ((p ∷ points) ∷ []) (each_weaker (BeginsFrom t) (BeginsFrom p.time) (λ c h. from_earlier t p.time (lt_of p.time t e) c h) columns is.0) (le_itself p.time, tt),
      one_right p.time columns ((p ∷ points) ∷ []) (inl refl),
    )
    by false e = (each_append (BeginsFrom t) columns ((p ∷ points) ∷ []) is.0 (lt_not p.time t e, tt), one_left t columns ((p ∷ points) ∷ []) is.1)

pub first_more : (columns : List (VecDeque Point Global)) (i : ℕ) (column : VecDeque Point Global) (first here earlier : Option ℤ) → i < length columns → column ≡ get_or columns i column
    → IsFirstTime (lists_of (take i columns)) first → IsTimeOfFirst column.items here → earlier ≡ earlier_of first here → IsFirstTime (lists_of (take (i + 1) columns)) earlier
first_more columns i column first here earlier below at is next same =
    subst (λ l. IsFirstTime l earlier)
    (sym (ap lists_of (take_more columns i column below ∙ ap (λ c. take i columns ++ c ∷ []) (sym at)) ∙ map-append (λ (c : VecDeque Point Global). c.items) (take i columns) (column ∷ [])))
    (subst (IsFirstTime (lists_of (take i columns) ++ column.items ∷ [])) (sym same) (first_then (lists_of (take i columns)) first column.items here is next))

pub first_all : (columns : List (VecDeque Point Global)) (i : ℕ) (first : Option ℤ) → length columns ≤ i → IsFirstTime (lists_of (take i columns)) first → IsFirstTime (lists_of columns) first
first_all columns i first end is = subst (λ l. IsFirstTime (lists_of l) first) (take_all i columns end) is

-- ---- the first point

pub first_there : (items : List Point) (point : Point) → 0 < length items → point ≡ get_or items 0 point → IsTimeOfFirst items (Some point.time)
first_there [] point some is = absurd (omega (arith, some))
first_there (p ∷ items) point some is = ap (λ (q : Point). Some q.time) is

pub first_gone : (items : List Point) → (0 < length items → ⊥) → IsTimeOfFirst items None
first_gone [] none = refl
first_gone (p ∷ items) none = absurd (none (omega arith))

same_some : (a b : ℤ) → Some a ≡ Some b → a ≡ b
same_some a b e = cc

none_some : (a : ℤ) → None ≡ Some a → ⊥
none_some a e = absurd cc

pub begins_of : (items : List Point) (first : Option ℤ) (t time : ℤ) → IsTimeOfFirst items first → first ≡ Some t → t ≡ time → BeginsAt time items
begins_of [] first t time is e same = absurd (none_some t (sym is ∙ e))
begins_of (p ∷ items) first t time is e same = same_some p.time t (sym is ∙ e) ∙ same

pub of_begins : (items : List Point) (first : Option ℤ) (t time : ℤ) → IsTimeOfFirst items first → first ≡ Some t → BeginsAt time items → t ≡ time
of_begins [] first t time is e begins = absurd begins
of_begins (p ∷ items) first t time is e begins = sym (same_some p.time t (sym is ∙ e)) ∙ begins

pub begins_not : (items : List Point) (first : Option ℤ) (time : ℤ) → IsTimeOfFirst items first → first ≡ None → BeginsAt time items → ⊥
begins_not [] first time is e begins = absurd begins
begins_not (p ∷ items) first time is e begins = none_some p.time (sym e ∙ is)

pub take_first : (items after : List Point) (popped : Option Point) (point : Point) (time : ℤ) → BeginsAt time items → items ≡ option_to_list popped ++ after → popped ≡ Some point → IsTakenAt time items (Some point.value) after
take_first [] after popped point time begins is some = absurd begins
take_first (p ∷ items) after popped point time begins is some =
    let split : p ∷ items ≡ point ∷ after = is ∙ ap (λ o. option_to_list o ++ after) some in
    let same : p ≡ point = cc in
    split ∙ ap (λ (t : ℤ). record { time = t; value = point.value } ∷ after) (ap (λ (q : Point). q.time) (sym same) ∙ begins)

pub not_empty : (items : List Point) (time : ℤ) → BeginsAt time items → 0 < length items
not_empty [] time begins = absurd begins
not_empty (p ∷ items) time begins = omega arith

-- ---- a line that is taken, column by column

-- the first columns are taken from, and the others are as they were
abbrev pub AreTakenTo : ℤ → ℕ → List (List Point) → List (Option Value) → List (List Point) → Type 0
AreTakenTo t zero befores [] afters = afters ≡ befores
AreTakenTo t zero befores (v ∷ values) afters = ⊥
AreTakenTo t (suc i) (b ∷ befores) (v ∷ values) (a ∷ afters) = IsTakenAt t b v a × AreTakenTo t i befores values afters
AreTakenTo t (suc i) befores values afters = ⊥

taken_next : (t : ℤ) (i : ℕ) (befores : List (List Point)) (values : List (Option Value)) (afters news : List (List Point)) (d after : List Point) (v : Option Value) → i < length befores
    → AreTakenTo t i befores values afters → IsTakenAt t (get_or afters i d) v after → news ≡ set afters i after → AreTakenTo t (suc i) befores (values ++ v ∷ []) news
taken_next t zero [] values afters news d after v below taken one is = absurd (omega (arith, below))
taken_next t zero (b ∷ befores) (w ∷ values) afters news d after v below taken one is = absurd taken
taken_next t zero (b ∷ befores) [] afters news d after v below taken one is =
    subst (AreTakenTo t (suc zero) (b ∷ befores) (v ∷ [])) (sym (is ∙ ap (λ l. set l 0 after) taken)) (subst (λ l. IsTakenAt t (get_or l 0 d) v after) taken one, refl)
taken_next t (suc i) [] values afters news d after v below taken one is = absurd taken
taken_next t (suc i) (b ∷ befores) [] afters news d after v below taken one is = absurd taken
taken_next t (suc i) (b ∷ befores) (w ∷ values) [] news d after v below taken one is = absurd taken
taken_next t (suc i) (b ∷ befores) (w ∷ values) (a ∷ afters) news d after v below taken one is =
    subst (AreTakenTo t (suc (suc i)) (b ∷ befores) (w ∷ (values ++ v ∷ []))) (sym is)
    (taken.0, taken_next t i befores values afters (set afters i after) d after v (omega (arith, below)) taken.1 one refl)

same_length : (t : ℤ) (i : ℕ) (befores : List (List Point)) (values : List (Option Value)) (afters : List (List Point)) → AreTakenTo t i befores values afters → length afters ≡ length befores
same_length t zero befores [] afters taken = ap length taken
same_length t zero befores (v ∷ values) afters taken = absurd taken
same_length t (suc i) [] values afters taken = absurd taken
same_length t (suc i) (b ∷ befores) [] afters taken = absurd taken
same_length t (suc i) (b ∷ befores) (v ∷ values) [] taken = absurd taken
same_length t (suc i) (b ∷ befores) (v ∷ values) (a ∷ afters) taken = ap (λ n. suc n) (same_length t i befores values afters taken.1)

taken_all : (t : ℤ) (i : ℕ) (befores : List (List Point)) (values : List (Option Value)) (afters : List (List Point)) → length befores ≡ i → AreTakenTo t i befores values afters → AreTakenAt t befores values afters
taken_all t zero [] [] afters end taken = subst (AreTakenAt t [] []) (sym taken) tt
taken_all t zero [] (v ∷ values) afters end taken = absurd taken
taken_all t zero (b ∷ befores) values afters end taken = absurd (omega (arith, end))
taken_all t (suc i) [] values afters end taken = absurd taken
taken_all t (suc i) (b ∷ befores) [] afters end taken = absurd taken
taken_all t (suc i) (b ∷ befores) (v ∷ values) [] end taken = absurd taken
taken_all t (suc i) (b ∷ befores) (v ∷ values) (a ∷ afters) end taken = (taken.0, taken_all t i befores values afters (omega (arith, end)) taken.1)

map-get : (xs : List (VecDeque Point Global)) (i : ℕ) (d : VecDeque Point Global) → get_or (lists_of xs) i d.items ≡ (get_or xs i d).items
map-get [] i d = refl
map-get (x ∷ xs) zero d = refl
map-get (x ∷ xs) (suc i) d = map-get xs i d

map-set : (xs : List (VecDeque Point Global)) (i : ℕ) (y : VecDeque Point Global) → lists_of (set xs i y) ≡ set (lists_of xs) i y.items
map-set [] i y = refl
map-set (x ∷ xs) zero y = refl
map-set (x ∷ xs) (suc i) y = ap (λ l. x.items ∷ l) (map-set xs i y)

-- one column more of a vector
pub column_taken : (t : ℤ) (i : ℕ) (old now new : List (VecDeque Point Global)) (values more : List (Option Value)) (before after : VecDeque Point Global) (v : Option Value) → i < length old
    → AreTakenTo t i (lists_of old) values (lists_of now) → before ≡ get_or now i before → IsTakenAt t before.items v after.items → new ≡ set now i after → more ≡ values ++ v ∷ []
    → AreTakenTo t (i + 1) (lists_of old) more (lists_of new)
column_taken t i old now new values more before after v below taken at one is push =
    let next : suc i ≡ i + 1 = omega arith in
    let long : i < length (lists_of old) = subst (λ n. i < n) (sym (length-map old (λ (c : VecDeque Point Global). c.items))) below in
    subst (λ l. AreTakenTo t (i + 1) (lists_of old) l (lists_of new)) (sym push)
    (subst (λ n. AreTakenTo t n (lists_of old) (values ++ v ∷ []) (lists_of new)) next
    (taken_next t i (lists_of old) values (lists_of now) (lists_of new) before.items after.items v long taken
    (subst (λ l. IsTakenAt t l v after.items) (ap (λ (c : VecDeque Point Global). c.items) at ∙ sym (map-get now i before)) one)
    (ap lists_of is ∙ map-set now i after)))

pub none_taken : (t : ℤ) (old new : List (VecDeque Point Global)) (values : List (Option Value)) → values ≡ [] → new ≡ old → AreTakenTo t 0 (lists_of old) values (lists_of new)
none_taken t old new values none same = subst (λ l. AreTakenTo t 0 (lists_of old) l (lists_of new)) (sym none) (ap lists_of same)

pub all_taken : (t : ℤ) (i : ℕ) (old new : List (VecDeque Point Global)) (values : List (Option Value)) → length old ≤ i → i ≤ length old → AreTakenTo t i (lists_of old) values (lists_of new) → AreTakenAt t (lists_of old) values (lists_of new)
all_taken t i old new values end within taken =
    let long = length-map old (λ (c : VecDeque Point Global). c.items) in
    taken_all t i (lists_of old) values (lists_of new) (omega (arith, long, end, within)) taken

-- a line of the values that were taken
pub line_taken : (u t : ℤ) (i : ℕ) (old new : List (VecDeque Point Global)) (values : List (Option Value)) (line : Line) → u ≡ t → line.time ≡ t → line.values ≡ values → length old ≤ i → i ≤ length old
    → AreTakenTo u i (lists_of old) values (lists_of new) → TakesLine t (lists_of old) line (lists_of new)
line_taken u t i old new values line same at are end within taken = (
  at,
  subst (λ l. AreTakenAt t (lists_of old) l (lists_of new)) (sym are)
      (all_taken t i old new values end within (subst (λ z. AreTakenTo z i (lists_of old) values (lists_of new)) same taken)),
)

-- ---- columns to be taken from

pub one_opened : (all rest later : List (Vec Point Global)) (now new : List (VecDeque Point Global)) (column : Vec Point Global) (opened : VecDeque Point Global)
    → vec_lists all ≡ lists_of now ++ vec_lists rest → rest ≡ column ∷ later → opened.items ≡ column.items → new ≡ now ++ opened ∷ [] → vec_lists all ≡ lists_of new ++ vec_lists later
one_opened all rest later now new column opened was split same push =
    was ∙ ap (λ l. lists_of now ++ vec_lists l) split
    ∙ ap (λ (l : List Point). lists_of now ++ (l ∷ vec_lists later)) (sym same)
    ∙ sym (append_assoc (lists_of now) (opened.items ∷ []) (vec_lists later))
    ∙ ap (λ l. l ++ vec_lists later) (sym (ap lists_of push ∙ map-append (λ (c : VecDeque Point Global). c.items) now (opened ∷ [])))

no_length : {X : Type 0} (xs : List X) → length xs ≡ 0 → xs ≡ []
no_length [] e = refl
no_length (x ∷ xs) e = absurd (omega (arith, e))

pub all_opened : (all rest : List (Vec Point Global)) (now : List (VecDeque Point Global)) → vec_lists all ≡ lists_of now ++ vec_lists rest → length rest ≡ 0 → lists_of now ≡ vec_lists all
all_opened all rest now was end = sym (was ∙ ap (λ l. lists_of now ++ vec_lists l) (no_length rest end) ∙ append-nil (lists_of now))

-- ---- the lines so far

-- the lines so far and those of the points that are left are those of all points
abbrev pub Collects : List (List Point) → List (List Point) → List Line → Type 0
Collects all left lines = Each IsRising all → Each IsRising left × ((more : List Line) → AreLinesOf left more → AreLinesOf all (lines ++ more))

pub begins_with : (all left : List (List Point)) (lines : List Line) → left ≡ all → lines ≡ [] → Collects all left lines
begins_with all left lines same none rising = (
  subst (Each IsRising) (sym same) rising,
  λ more are. subst (λ l. AreLinesOf all (l ++ more)) (sym none) (subst (λ l. AreLinesOf l more) same are),
)

pub line_more : (all : List (List Point)) (slice left after : List (VecDeque Point Global)) (lines new : List Line) (line : Line) (u t : ℤ) (first : Option ℤ) → Collects all (lists_of left) lines
    → slice ≡ left → IsFirstTime (lists_of slice) first → first ≡ Some t → u ≡ t → TakesLine u (lists_of left) line (lists_of after) → new ≡ lines ++ line ∷ [] → Collects all (lists_of after) new
line_more all slice left after lines new line u t first was same is some time takes push rising =
    let old = was rising in
    let taken : TakesLine t (lists_of left) line (lists_of after) = subst (λ z. TakesLine z (lists_of left) line (lists_of after)) time takes in
    let at : IsFirstTime (lists_of left) (Some t) = subst (λ f. IsFirstTime (lists_of left) f) some (subst (λ l. IsFirstTime (lists_of l) first) same is) in (
      rising_after t (lists_of left) line.values (lists_of after) old.0 taken.1,
      λ more are. subst (AreLinesOf all) (sym (ap (λ l. l ++ more) push ∙ append_assoc lines (line ∷ []) more))
          (old.1 (line ∷ more) (line_first t (lists_of left) line (lists_of after) more old.0 at taken are)),
    )

pub fewer_left : (slice left after : List (VecDeque Point Global)) (line : Line) (u t : ℤ) (first : Option ℤ) → slice ≡ left → IsFirstTime (lists_of slice) first → first ≡ Some t
    → u ≡ t → TakesLine u (lists_of left) line (lists_of after) → points_in (lists_of after) < points_in (lists_of left)
fewer_left slice left after line u t first same is some time takes =
    let taken : TakesLine t (lists_of left) line (lists_of after) = subst (λ z. TakesLine z (lists_of left) line (lists_of after)) time takes in
    let at : IsFirstTime (lists_of left) (Some t) = subst (λ f. IsFirstTime (lists_of left) f) some (subst (λ l. IsFirstTime (lists_of l) first) same is) in
    (one_taken t (lists_of left) line.values (lists_of after) at.1 taken.1).1

pub all_lines : (all : List (List Point)) (slice left : List (VecDeque Point Global)) (lines : List Line) (first : Option ℤ) → Collects all (lists_of left) lines
    → slice ≡ left → IsFirstTime (lists_of slice) first → first ≡ None → (points : List PointMap) → all ≡ map in_order points → lines ≡ rows points
all_lines all slice left lines first was same is none points are =
    let at : IsFirstTime (lists_of left) None = subst (λ f. IsFirstTime (lists_of left) f) none (subst (λ l. IsFirstTime (lists_of l) first) same is) in
    let rising : Each IsRising all = subst (Each IsRising) (sym are) (in_order_rise points) in
    let whole = (was rising).1 [] (no_lines (lists_of left) at) in
    are_rows points lines (subst (λ l. AreLinesOf l lines) are (subst (AreLinesOf all) (append-nil lines) whole))
