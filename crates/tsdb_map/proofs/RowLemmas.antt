-- The rows and the aggregates of several series, as they are collected item by item.
use Rattle.std.proofs.Common.{◌≡◌, ℕ, ◌+◌, ◌<◌, ◌≤◌, ℤ, Bool, true, false, cond, ◌||◌, List, [], ◌∷◌, ◌++◌, map, length, take, get_or, Option, None, is_some, refl, sym, ap, ◌∙◌}
use Rattle.std.specs.List.{flat_map, list_all}
use Rattle.std.specs.Ordering.{int_cmp}
use Rattle.std.specs.FinMap.{entries, get, keys, from_entries}
use Rattle.std.specs.FinMap.Entries.{find}
use Rattle.std.specs.BTreeSet as set
use Rattle.std.specs.BTreeSet.{BTreeSet}
use Rattle.std.proofs.lemmas.List.{take_more}
use Rattle.std.proofs.lemmas.List.Concat.{flat_map-append}
use Rattle.std.proofs.lemmas.List.Folds.{list_all_at, list_all-map}
use denote.Bor.{Bor}
use Rattle.tsdb_base.specs.declared.point.Range.{Range}
use Rattle.tsdb_base.specs.declared.value.Value.{Value}
use Rattle.tsdb_model.specs.declared.command.Item.{Item}
use Rattle.tsdb_base.specs.declared.answers.Answer.TheVariants.{NoPath, WrongType}
use Rattle.tsdb_model.specs.declared.reply.Line.{Line}
use Rattle.tsdb_model.specs.declared.reply.Reply.TheVariants.{Lines, Plain, Values}
use Rattle.tsdb_model.specs.World.{points_of_series, PointMap, Series, World}
use Rattle.tsdb_model.specs.Folds.{line_at, rows, within}
use Rattle.tsdb_model.specs.Apply.{any_unfit, are_there, ask_aggregates, columns_of, item_values, select_reply, series_of}
use Rattle.tsdb_map.proofs.PlainLemmas.{whole}
use Rattle.tsdb_model.proofs.TimeLemmas.{Entries, has-append, keys-set}

fused : {A B C : Type 0} (g : B → C) (f : A → B) (xs : List A) → map g (map f xs) ≡ map (λ x. g (f x)) xs
fused g f [] = refl
fused g f (x ∷ xs) = ap (λ l. g (f x) ∷ l) (fused g f xs)

abbrev pub columns_in : Range → List (Bor Series) → List PointMap
columns_in range columns = map (λ column. within range column.now.points) columns

-- a line once all columns were read
pub line-is : (range : Range) (columns : List (Bor Series)) (i : ℕ) (time u : ℤ) (values : List (Option Value)) → length columns ≤ i → u ≡ time
    → values ≡ map (λ column. get (within range column.now.points) time) (take i columns)
    → record { time = u; values = values } ≡ line_at (columns_in range columns) time
line-is range columns i time u values end same is =
    ap (λ t. record { time = t; values = values }) same
    ∙ ap (λ vs. record { time = time; values = vs }) (is ∙ ap (map (λ column. get (within range column.now.points) time)) (whole i columns end)
    ∙ sym (fused (λ points. get points time) (λ (column : Bor Series). within range column.now.points) columns))

abbrev pub entries_in : Range → List (Bor Series) → Entries
entries_in range columns = flat_map (λ column. entries (within range column.now.points)) columns

-- the times of one more column
pub times-more : (range : Range) (columns : List (Bor Series)) (i : ℕ) (column : Bor Series) (old new : BTreeSet ℤ) (q : ℤ) → i < length columns
    → column ≡ get_or columns i column
    → set.contains int_cmp old q ≡ is_some (find int_cmp q (entries_in range (take i columns)))
    → set.contains int_cmp new q ≡ (is_some (get (within range column.now.points) q) || set.contains int_cmp old q)
    → is_some (find int_cmp q (entries (within range column.now.points))) ≡ is_some (get (within range column.now.points) q)
    → set.contains int_cmp new q ≡ is_some (find int_cmp q (entries_in range (take (i + 1) columns)))
times-more range columns i column old new q below is was more same =
    more ∙ ap (λ b. is_some (get (within range column.now.points) q) || b) was
    ∙ swap (is_some (get (within range column.now.points) q)) (is_some (find int_cmp q (entries_in range (take i columns))))
    ∙ ap (λ b. is_some (find int_cmp q (entries_in range (take i columns))) || b) (sym same)
    ∙ sym (has-append (entries_in range (take i columns)) (entries (within range column.now.points)) q)
    ∙ ap (λ (es : Entries). is_some (find int_cmp q (entries_in range (take i columns) ++ es))) (sym (last (entries (within range column.now.points))))
    ∙ ap (λ (es : Entries). is_some (find int_cmp q es)) (sym (flat_map-append (λ (column : Bor Series). entries (within range column.now.points)) (take i columns) (column ∷ [])))
    ∙ ap (λ cs. is_some (find int_cmp q (entries_in range cs)))
    (ap (λ c. take i columns ++ c ∷ []) is ∙ sym (take_more columns i column below))
  where
    swap : (a b : Bool) → (a || b) ≡ (b || a)
    swap true true = refl
    swap true false = refl
    swap false true = refl
    swap false false = refl

    last : (es : Entries) → es ++ [] ≡ es
    last [] = refl
    last (e ∷ es) = ap (λ l. e ∷ l) (last es)

entries-fused : (range : Range) (columns : List (Bor Series)) → entries_in range columns ≡ flat_map entries (columns_in range columns)
entries-fused range [] = refl
entries-fused range (c ∷ columns) = ap (λ l. entries (within range c.now.points) ++ l) (entries-fused range columns)

-- the rows, once the times of all columns are in a set
pub rows-are : (range : Range) (columns : List (Bor Series)) (i : ℕ) (times : BTreeSet ℤ) (seen : List ℤ) (lines : List Line) → length columns ≤ i
    → set.IsOrdered int_cmp times → ((q : ℤ) → set.contains int_cmp times q ≡ is_some (find int_cmp q (entries_in range (take i columns))))
    → lines ≡ map (line_at (columns_in range columns)) seen → seen ≡ times.keys → lines ≡ rows (columns_in range columns)
rows-are range columns i times seen lines end ordered h is all =
    is ∙ ap (map (line_at (columns_in range columns)))
    (all ∙ keys-set times (entries_in range columns) ordered (λ q. h q ∙ ap (λ cs. is_some (find int_cmp q (entries_in range cs))) (whole i columns end))
    ∙ ap (λ (es : Entries). keys (from_entries {R = int_cmp} es)) (entries-fused range columns))

abbrev is_there : World → List ℕ → Item → Bool
is_there world device item = is_some (series_of world device item.measurement)

item_names : (world : World) (device : List ℕ) (items : List Item) → are_there world device (map (λ item. item.measurement) items) ≡ list_all (is_there world device) items
item_names world device items = list_all-map (λ name. is_some (series_of world device name)) (λ (item : Item). item.measurement) items

-- an item whose series is not there
pub item_gone : (world : World) (device : List ℕ) (items : List Item) (i : ℕ) (item : Item) → i < length items → item ≡ get_or items i item
    → series_of world device item.measurement ≡ None → are_there world device (map (λ item. item.measurement) items) ≡ false
item_gone world device items i item below is none =
    item_names world device items ∙ list_all_at (is_there world device) items i item below (ap (is_there world device) (sym is) ∙ ap is_some none)

pub items_there : (world : World) (device : List ℕ) (items : List Item) (i : ℕ) → length items ≤ i → list_all (is_there world device) (take i items) ≡ true
    → are_there world device (map (λ item. item.measurement) items) ≡ true
items_there world device items i end h = item_names world device items ∙ ap (list_all (is_there world device)) (sym (whole i items end)) ∙ h

-- the columns of the items, from their series
pub columns-are : (world : World) (device : List ℕ) (items : List Item) (range : Range) (columns : List (Bor Series))
    → map (λ column. column.now.points) columns ≡ map (λ item. points_of_series (series_of world device item.measurement)) items
    → columns_in range columns ≡ columns_of world device items range
columns-are world device items range columns is =
    sym (fused (within range) (λ (column : Bor Series). column.now.points) columns) ∙ ap (map (within range)) is
    ∙ fused (within range) (λ (item : Item). points_of_series (series_of world device item.measurement)) items

-- the lines of a select without aggregates
pub lines_reply : (world : World) (device : List ℕ) (items : List Item) (range : Range) (lines : List Line)
    → are_there world device (map (λ item. item.measurement) items) ≡ true → ask_aggregates items ≡ false → lines ≡ rows (columns_of world device items range)
    → Lines lines ≡ select_reply world device items range
lines_reply world device items range lines there ask is =
    ap Lines is
    ∙ sym (ap (λ b. cond b (cond (ask_aggregates items) (cond (any_unfit world device items) (Plain WrongType) (Values (item_values world device items range)))
    (Lines (rows (columns_of world device items range)))) (Plain NoPath)) there
    ∙ ap (λ b. cond b (cond (any_unfit world device items) (Plain WrongType) (Values (item_values world device items range))) (Lines (rows (columns_of world device items range)))) ask)
