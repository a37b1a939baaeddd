-- The laws of the plain model.
use Rattle.std.proofs.Common.{◌≡◌, ◌≢◌, ◌⊎◌, ◌&&◌, inl, inr, ℕ, ℤ, zero, suc, Bool, true, false, cond, not, List, [], ◌∷◌, map, Option, None, Some, is_some, refl, sym, ap, ◌∙◌, arith}
use Rattle.std.specs.Prelude.{slice_get}
use Rattle.std.specs.Ordering.{int_cmp, nat_cmp, eq_by_cmp}
use Rattle.std.specs.Cmp.{int_cmp_total}
use Rattle.std.specs.Cmp.Lexicographic.{slice_cmp, nat_list_cmp_total}
use Rattle.std.specs.FinMap.{get, get-empty, get-insert, get-retain_keys, int_cmp-IsAntisymmetric}
use Rattle.std.proofs.lemmas.Map.Views.{tells_apart}
use Rattle.std.proofs.lemmas.Map.Lookups.{exact_bytes, exact_signed}
use Rattle.std.specs.declared.cmp.Ordering.TheVariants.{Equal}
use Rattle.tsdb_base.specs.declared.answers.Answer.{Answer}
use Rattle.tsdb_base.specs.declared.answers.Answer.TheVariants.{Done, NoPath, WrongType, Exists, Device, Memory, Full}
use Rattle.tsdb_base.specs.declared.point.Range.{Range}
use Rattle.tsdb_base.specs.declared.value.Value.{Value}
use Rattle.tsdb_model.specs.declared.command.Cell.{Cell}
use Rattle.tsdb_model.specs.declared.command.Command.TheVariants.{Delete, Insert}
use Rattle.tsdb_model.specs.declared.command.Literal.{Literal}
use Rattle.tsdb_model.specs.declared.command.Row.{Row}
use Rattle.tsdb_model.specs.declared.reply.Reply.TheVariants.{Plain}
use Rattle.tsdb_model.specs.World.{change, change_series, cut, is_in, points_of_series, put, value_at, Series, World}
use Rattle.tsdb_model.specs.Apply.{after_reply, all_fit, fits_series, insert_answer, put_cells, put_literal, put_value, reply_of, series_of, value_of, world_after}
use Rattle.tsdb_model.specs.Commands.{AreDifferent, IsRow}
use Rattle.tsdb_map.specs.Laws.{IsCellPath}
use Rattle.tsdb_map.proofs.PlainLemmas.{cell-put, done_fits, fits, here, here_at, not_done, rest_fits}
use Rattle.tsdb_map.proofs.WorldLemmas.{behind, behind-child}
use Rattle.tsdb_path.specs.Nodes.{child_of}

abbrev same : List ℕ → List ℕ → Bool
same p q = eq_by_cmp (slice_cmp nat_cmp) p q

not_same : (b : Bool) (p q : List ℕ) → p ≢ q → same p q ≡ b → b ≡ false
not_same true p q apart e = absurd (apart (tells_apart exact_bytes p q e))
not_same false p q apart e = refl

-- another series is as it was
elsewhere : (world : World) (p q : List ℕ) (f : Series → Series) (found : Option Series) → q ≢ p → get (change_series world p f found) q ≡ get world q
elsewhere world p q f None apart = refl
elsewhere world p q f (Some s) apart =
    get-insert nat_list_cmp_total world p (f s) q ∙ ap (λ b. cond b (Some (f s)) (get world q)) (not_same _ q p apart refl)

pub other_series : (world : World) (p q : List ℕ) (f : Series → Series) → q ≢ p → get (change world p f) q ≡ get world q
other_series world p q f apart = elsewhere world p q f (get world p) apart

-- a change that leaves a time alone in each series leaves it alone in the world
at_time : (world : World) (p q : List ℕ) (f : Series → Series) (time : ℤ) → ((s : Series) → get (f s).points time ≡ get s.points time)
    → (found : Option Series) → get world p ≡ found → value_at (change_series world p f found) q time ≡ value_at world q time
at_time world p q f time h None is = refl
at_time world p q f time h (Some s) is =
    ap (λ o. get (points_of_series o) time) (get-insert nat_list_cmp_total world p (f s) q)
    ∙ elim (same q p) as (λ b. same q p ≡ b → get (points_of_series (cond b (Some (f s)) (get world q))) time ≡ value_at world q time) [
      | true ↦ λ e. h s ∙ ap (λ o. get (points_of_series o) time) (sym is ∙ ap (get world) (sym (tells_apart exact_bytes q p e)))
      | false ↦ λ e. refl
    ] refl

not_at : (b : Bool) (a c : ℤ) → a ≢ c → eq_by_cmp int_cmp a c ≡ b → b ≡ false
not_at true a c apart e = absurd (apart (tells_apart exact_signed a c e))
not_at false a c apart e = refl

put_elsewhere : (t time : ℤ) (o : Option Value) (s : Series) → time ≢ t → get (put_value t o s).points time ≡ get s.points time
put_elsewhere t time None s apart = refl
put_elsewhere t time (Some v) s apart =
    get-insert int_cmp_total s.points t v time ∙ ap (λ b. cond b (Some v) (get s.points time)) (not_at _ time t apart refl)

cell_stays : (world : World) (p q : List ℕ) (t time : ℤ) (literal : Literal) → (q ≢ p) ⊎ (time ≢ t)
    → value_at (change world p (put_literal t literal)) q time ≡ value_at world q time
cell_stays world p q t time literal (inl apart) = ap (λ o. get (points_of_series o) time) (other_series world p q (put_literal t literal) apart)
cell_stays world p q t time literal (inr apart) =
    at_time world p q (put_literal t literal) time (λ s. put_elsewhere t time (value_of literal s.data_type) s apart) (get world p) refl

first_not : (device path : List ℕ) (cell : Cell) (cells : List Cell) {A : Type 0} → (¬ IsCellPath device (cell ∷ cells) path) ⊎ A → (path ≢ child_of device cell.measurement) ⊎ A
first_not device path cell cells (inl h) = inl (λ e. h (inl e))
first_not device path cell cells (inr a) = inr a

rest_not : (device path : List ℕ) (cell : Cell) (cells : List Cell) {A : Type 0} → (¬ IsCellPath device (cell ∷ cells) path) ⊎ A → (¬ IsCellPath device cells path) ⊎ A
rest_not device path cell cells (inl h) = inl (λ e. h (inr e))
rest_not device path cell cells (inr a) = inr a

cells_stay : (cells : List Cell) (world : World) (device path : List ℕ) (t time : ℤ) → (¬ IsCellPath device cells path) ⊎ (time ≢ t)
    → value_at (put_cells world device t cells) path time ≡ value_at world path time
cells_stay [] world device path t time h = refl
cells_stay (cell ∷ cells) world device path t time h =
    cells_stay cells (change world (child_of device cell.measurement) (put_literal t cell.value)) device path t time (rest_not device path cell cells h)
    ∙ cell_stays world (child_of device cell.measurement) path t time cell.value (first_not device path cell cells h)

after_answer : (world : World) (device : List ℕ) (row : Row) (answer : Answer) (Q : World → Type 0) → Q world → Q (put_cells world device row.time row.cells)
    → Q (after_reply world (Insert device row) (Plain answer))
after_answer world device row Done Q stays written = written
after_answer world device row NoPath Q stays written = stays
after_answer world device row WrongType Q stays written = stays
after_answer world device row Exists Q stays written = stays
after_answer world device row Device Q stays written = stays
after_answer world device row Memory Q stays written = stays
after_answer world device row (Full counter) Q stays written = stays

pub others : (world : World) (device path : List ℕ) (row : Row) (time : ℤ) → (¬ IsCellPath device row.cells path) ⊎ (time ≢ row.time)
    → value_at (world_after world (Insert device row)) path time ≡ value_at world path time
others world device path row time h =
    after_answer world device row (insert_answer world device row.cells) (λ after. value_at after path time ≡ value_at world path time) refl
    (cells_stay row.cells world device path row.time time h)

same_name : (a b : List ℕ) → Some a ≡ Some b → a ≡ b
same_name a b e = cc

one_name : (device a b : List ℕ) → child_of device a ≡ child_of device b → a ≡ b
one_name device a b e = same_name a b (sym (behind-child device a) ∙ ap (behind device) e ∙ behind-child device b)

named_at : (device name : List ℕ) (cells : List Cell) → IsCellPath device cells (child_of device name)
    → (k : ℕ) × (slice_get (map (λ (cell : Cell). cell.measurement) cells) k ≡ Some name)
named_at device name [] h = absurd h
named_at device name (cell ∷ cells) (inl e) = (zero, ap Some (sym (one_name device name cell.measurement e)))
named_at device name (cell ∷ cells) (inr h) = let at = named_at device name cells h in (suc at.0, at.1)

zero_is_not : {A : Type 0} (k : ℕ) → zero ≡ suc k → A
zero_is_not k e = absurd (omega arith)

later : (x : List ℕ) (xs : List (List ℕ)) → AreDifferent (x ∷ xs) → AreDifferent xs
later x xs h i j name a b = down i j (h (suc i) (suc j) name a b)
  where
    down : (i j : ℕ) → suc i ≡ suc j → i ≡ j
    down i j e = omega arith

some_cell : (a b : Cell) → Some a ≡ Some b → a ≡ b
some_cell a b e = cc

written_here : (world : World) (p : List ℕ) (time : ℤ) (literal : Literal) (s : Series) → fits_series literal (get world p) ≡ true → get world p ≡ Some s
    → value_at (change world p (put_literal time literal)) p time ≡ value_of literal s.data_type
written_here world p time literal s fit there =
    let f = fits literal (get world p) fit in
    ap (λ w. value_at w p time) (cell-put world p time literal f)
    ∙ ap (λ o. get (points_of_series o) time) (here world p (put time f.value f.series)) ∙ here_at f.series.points time f.value
    ∙ sym f.is ∙ ap (λ (s : Series). value_of literal s.data_type) (some_series f.series s (sym f.there ∙ there))
  where
    some_series : (a b : Series) → Some a ≡ Some b → a ≡ b
    some_series a b e = cc

first_of : (a b : Bool) → cond a b false ≡ true → a ≡ true
first_of true b e = refl
first_of false b e = e

wins : (cells : List Cell) (world : World) (device : List ℕ) (time : ℤ) (k : ℕ) (cell : Cell) (s : Series)
    → AreDifferent (map (λ (cell : Cell). cell.measurement) cells) → all_fit world device cells ≡ true → slice_get cells k ≡ Some cell
    → series_of world device cell.measurement ≡ Some s
    → value_at (put_cells world device time cells) (child_of device cell.measurement) time ≡ value_of cell.value s.data_type
wins [] world device time k cell s differ fit at there = cc
wins (first ∷ cells) world device time zero cell s differ fit at there =
    let is = some_cell first cell at in
    let p = child_of device cell.measurement in
    ap (λ (c : Cell). value_at (put_cells (change world (child_of device c.measurement) (put_literal time c.value)) device time cells) p time) is
    ∙ cells_stay cells (change world p (put_literal time cell.value)) device p time time
    (inl (λ named. let again = named_at device cell.measurement cells named in
    zero_is_not again.0 (differ zero (suc again.0) cell.measurement (ap (λ (c : Cell). Some c.measurement) is) again.1)))
    ∙ written_here world p time cell.value s (ap (λ (c : Cell). fits_series c.value (series_of world device c.measurement)) (sym is) ∙ first_and _ _ fit) there
  where
    first_and : (a b : Bool) → (a && b) ≡ true → a ≡ true
    first_and true b e = refl
    first_and false b e = e
wins (first ∷ cells) world device time (suc k) cell s differ fit at there =
    wins cells (change world (child_of device first.measurement) (put_literal time first.value)) device time k cell s
    (later first.measurement (map (λ (cell : Cell). cell.measurement) cells) differ)
    (rest_fits world _ device time first cells fit refl) at
    (other_series world (child_of device first.measurement) (child_of device cell.measurement) (put_literal time first.value)
    (λ e. zero_is_not k (differ zero (suc k) first.measurement refl (name_at cells k cell at ∙ ap Some (one_name device cell.measurement first.measurement e))))
    ∙ there)
  where
    name_at : (cells : List Cell) (k : ℕ) (cell : Cell) → slice_get cells k ≡ Some cell → slice_get (map (λ (cell : Cell). cell.measurement) cells) k ≡ Some cell.measurement
    name_at [] k cell e = cc
    name_at (c ∷ cells) zero cell e = ap (λ (c : Cell). Some c.measurement) (some_cell c cell e)
    name_at (c ∷ cells) (suc k) cell e = name_at cells k cell e

plain_is : (a b : Answer) → Plain a ≡ Plain b → a ≡ b
plain_is a b e = cc

pub last_wins : (world : World) (device : List ℕ) (row : Row) (k : ℕ) (cell : Cell) (s : Series) → IsRow row
    → reply_of world (Insert device row) ≡ Plain Done → slice_get row.cells k ≡ Some cell → series_of world device cell.measurement ≡ Some s
    → value_at (world_after world (Insert device row)) (child_of device cell.measurement) row.time ≡ value_of cell.value s.data_type
last_wins world device row k cell s is done at there =
    ap (λ r. value_at (after_reply world (Insert device row) r) (child_of device cell.measurement) row.time) done
    ∙ wins row.cells world device row.time k cell s is.different (done_fits _ _ (plain_is _ _ done)) at there

pub refused : (world : World) (device : List ℕ) (row : Row) → reply_of world (Insert device row) ≢ Plain Done → world_after world (Insert device row) ≡ world
refused world device row h = not_done world (Insert device row) (insert_answer world device row.cells) (λ e. h (ap Plain e))

alike : (p : ℤ → Bool) (q x : ℤ) → int_cmp q x ≡ Equal → p x ≡ p q
alike p q x tied = ap p (sym (int_cmp-IsAntisymmetric q x tied))

get-cut : (range : Range) (s : Series) (time : ℤ) → get (cut range s).points time ≡ cond (not (is_in range time)) (get s.points time) None
get-cut range s time = get-retain_keys s.points (λ t. not (is_in range t)) time (alike (λ t. not (is_in range t)) time)

-- a deletion cuts the series, where it is there
deleted : (world : World) (series : List ℕ) (range : Range) (found : Option Series) → get world series ≡ found
    → after_reply world (Delete series range) (Plain (cond (is_some found) Done NoPath)) ≡ change_series world series (cut range) found
deleted world series range None e = refl
deleted world series range (Some s) e = ap (change_series world series (cut range)) e

pub delete_is : (world : World) (series : List ℕ) (range : Range) → world_after world (Delete series range) ≡ change world series (cut range)
delete_is world series range = deleted world series range (get world series) refl

removed_from : (world : World) (series : List ℕ) (range : Range) (time : ℤ) → is_in range time ≡ true → (found : Option Series) → get world series ≡ found
    → value_at (change_series world series (cut range) found) series time ≡ None
removed_from world series range time inside None e = ap (λ o. get (points_of_series o) time) e ∙ get-empty int_cmp time
removed_from world series range time inside (Some s) e =
    ap (λ o. get (points_of_series o) time) (here world series (cut range s)) ∙ get-cut range s time
    ∙ ap (λ b. cond (not b) (get s.points time) None) inside

pub removes : (world : World) (series : List ℕ) (range : Range) (time : ℤ) → is_in range time ≡ true
    → value_at (world_after world (Delete series range)) series time ≡ None
removes world series range time inside =
    ap (λ w. value_at w series time) (delete_is world series range) ∙ removed_from world series range time inside (get world series) refl

pub keeps : (world : World) (series path : List ℕ) (range : Range) (time : ℤ) → (path ≢ series) ⊎ (is_in range time ≡ false)
    → value_at (world_after world (Delete series range)) path time ≡ value_at world path time
keeps world series path range time (inl apart) =
    ap (λ w. value_at w path time) (delete_is world series range) ∙ ap (λ o. get (points_of_series o) time) (other_series world series path (cut range) apart)
keeps world series path range time (inr outside) =
    ap (λ w. value_at w path time) (delete_is world series range)
    ∙ at_time world series path (cut range) time (λ s. get-cut range s time ∙ ap (λ b. cond (not b) (get s.points time) None) outside) (get world series) refl
