-- What a command answers, and what a row that is written, or taken back, leaves.
use Rattle.std.proofs.Common.{◌≡◌, ℕ, zero, suc, ◌-◌, ◌<◌, ◌≤◌, ◌++◌, length, take, drop, get_or, Result, Ok, Err, is_err, arith, ℤ, Bool, true, false, cond, ◌&&◌, List, [], ◌∷◌, map, Option, None, Some, is_some, refl, sym, ap, ◌∙◌, subst}
use Rattle.std.specs.Prelude.{IfSome, IsSome, OnErr}
use Rattle.std.specs.List.{list_all}
use Rattle.std.specs.Ordering.{nat_cmp, int_cmp, eq_by_cmp}
use Rattle.std.specs.Cmp.{eq_by_cmp_equiv, int_cmp_total}
use Rattle.std.specs.Cmp.Lexicographic.{slice_cmp, nat_list_cmp_total}
use Rattle.std.specs.FinMap.{get, insert, remove, get-insert, get-remove, same_map, slice_cmp-IsAntisymmetric, nat_cmp-IsAntisymmetric, int_cmp-IsAntisymmetric}
use Rattle.std.proofs.lemmas.Bool.{false≢true}
use Rattle.std.proofs.lemmas.List.Folds.{list_all_at, list_all-map}
use Rattle.std.proofs.lemmas.Map.Views.{tells_apart}
use Rattle.std.proofs.lemmas.Map.Lookups.{exact_bytes, exact_signed}
use Rattle.tsdb_base.specs.declared.answers.Answer.{Answer}
use Rattle.tsdb_base.specs.declared.answers.Answer.TheVariants.{Done, NoPath, WrongType, Exists, Device, Memory, Full}
use Rattle.tsdb_base.specs.declared.value.Value.{Value}
use Rattle.tsdb_model.specs.declared.command.Cell.{Cell}
use Rattle.tsdb_model.specs.declared.command.Command.{Command}
use Rattle.tsdb_model.specs.declared.command.Literal.{Literal}
use Rattle.tsdb_model.specs.declared.reply.Reply.TheVariants.{Plain}
use Rattle.tsdb_model.specs.World.{change, change_series, points_of_series, put, value_at, PointMap, Series, World}
use Rattle.tsdb_model.specs.Apply.{after_reply, all_fit, are_there, fits_series, insert_answer, put_cells, put_literal, put_value, series_of, value_of}
use Rattle.tsdb_map.specs.Model.{set_at}
use Rattle.tsdb_map.specs.Pending.{old_values}
use Rattle.tsdb_map.proofs.WorldLemmas.{change-there, insert-same}
use Rattle.tsdb_path.specs.Nodes.{child_of}

abbrev same : List ℕ → List ℕ → Bool
same p q = eq_by_cmp (slice_cmp nat_cmp) p q

first_and : (a b : Bool) → (a && b) ≡ true → a ≡ true
first_and true b e = refl
first_and false b e = e

second_and : (a b : Bool) → (a && b) ≡ true → b ≡ true
second_and true b e = e
second_and false b e = absurd (false≢true e)

-- the series and the value of a literal that fits
pub record Fits (literal : Literal) (found : Option Series) : Type 0 where
  pub series : Series
  pub value : Value
  pub there : found ≡ Some series
  pub is : value_of literal series.data_type ≡ Some value

some_value : (o : Option Value) → is_some o ≡ true → (v : Value) × (o ≡ Some v)
some_value None e = absurd (false≢true e)
some_value (Some v) e = (v, refl)

pub fits : (literal : Literal) (found : Option Series) → fits_series literal found ≡ true → Fits literal found
fits literal None e = absurd (false≢true e)
fits literal (Some s) e =
    let v = some_value (value_of literal s.data_type) e in record { series = s; value = v.0; there = refl; is = v.1 }

pub first_fits : (world : World) (device : List ℕ) (cell : Cell) (cells : List Cell) → all_fit world device (cell ∷ cells) ≡ true
    → fits_series cell.value (series_of world device cell.measurement) ≡ true
first_fits world device cell cells e = first_and _ _ e

same_kind : (time : ℤ) (o : Option Value) (s : Series) → (put_value time o s).data_type ≡ s.data_type
same_kind time None s = refl
same_kind time (Some v) s = refl

after_put : (b : Bool) (literal : Literal) (s t : Series) (o : Option Series) → t.data_type ≡ s.data_type → (b ≡ true → o ≡ Some s)
    → fits_series literal (cond b (Some t) o) ≡ fits_series literal o
after_put true literal s t o kind found =
    ap (λ k. is_some (value_of literal k)) kind ∙ sym (ap (fits_series literal) (found refl))
after_put false literal s t o kind found = refl

-- types stay as they are
fits-after : (world : World) (p q : List ℕ) (time : ℤ) (literal other : Literal) (s : Series) → get world p ≡ Some s
    → fits_series other (get (change world p (put_literal time literal)) q) ≡ fits_series other (get world q)
fits-after world p q time literal other s there =
    ap (λ w. fits_series other (get w q)) (ap (change_series world p (put_literal time literal)) there)
    ∙ ap (fits_series other) (get-insert nat_list_cmp_total world p (put_literal time literal s) q)
    ∙ after_put (same q p) other s (put_literal time literal s) (get world q) (same_kind time (value_of literal s.data_type) s)
    (λ e. ap (get world) (tells_apart exact_bytes q p e) ∙ there)

all-after : (world after : World) (device : List ℕ) (cells : List Cell) → ((other : Literal) (q : List ℕ) → fits_series other (get after q) ≡ fits_series other (get world q))
    → all_fit after device cells ≡ all_fit world device cells
all-after world after device [] h = refl
all-after world after device (cell ∷ cells) h =
    ap (λ b. b && all_fit after device cells) (h cell.value (child_of device cell.measurement))
    ∙ ap (λ b. fits_series cell.value (series_of world device cell.measurement) && b) (all-after world after device cells h)

pub rest_fits : (world after : World) (device : List ℕ) (time : ℤ) (cell : Cell) (cells : List Cell) → all_fit world device (cell ∷ cells) ≡ true
    → after ≡ change world (child_of device cell.measurement) (put_literal time cell.value) → all_fit after device cells ≡ true
rest_fits world after device time cell cells e is =
    let fit = fits cell.value (series_of world device cell.measurement) (first_and _ _ e) in
    ap (λ w. all_fit w device cells) is
    ∙ all-after world _ device cells (λ other q. fits-after world (child_of device cell.measurement) q time cell.value other fit.series fit.there)
    ∙ second_and _ _ e

put_is : (time : ℤ) (o : Option Value) (v : Value) (s : Series) → o ≡ Some v → put_value time o s ≡ put time v s
put_is time o v s e = ap (λ o. put_value time o s) e

-- the world with the value of a cell that fits
pub cell-put : (world : World) (p : List ℕ) (time : ℤ) (literal : Literal) (fit : Fits literal (get world p))
    → change world p (put_literal time literal) ≡ insert world p (put time fit.value fit.series)
cell-put world p time literal fit =
    ap (change_series world p (put_literal time literal)) fit.there ∙ ap (insert world p) (put_is time _ fit.value fit.series fit.is)

pub here : (world : World) (p : List ℕ) (s : Series) → get (insert world p s) p ≡ Some s
here world p s = get-insert nat_list_cmp_total world p s p ∙ ap (λ b. cond b (Some s) (get world p)) ((eq_by_cmp_equiv nat_list_cmp_total).refl p)

pub here_at : (m : PointMap) (t : ℤ) (v : Value) → get (insert m t v) t ≡ Some v
here_at m t v = get-insert int_cmp_total m t v t ∙ ap (λ b. cond b (Some v) (get m t)) ((eq_by_cmp_equiv int_cmp_total).refl t)

-- the time is there once a cell was written
pub put_there : (world after : World) (p : List ℕ) (time : ℤ) (literal : Literal) → fits_series literal (get world p) ≡ true
    → after ≡ change world p (put_literal time literal) → IsSome (value_at after p time)
put_there world after p time literal e is =
    let fit = fits literal (get world p) e in
    ap is_some (ap (λ w. value_at w p time) (is ∙ cell-put world p time literal fit)
    ∙ ap (λ o. get (points_of_series o) time) (here world p (put time fit.value fit.series))
    ∙ here_at fit.series.points time fit.value)

twice : (b : Bool) (x y : Option Value) → cond b x (cond b y x) ≡ x
twice true x y = refl
twice false x y = refl

twice_series : (b : Bool) (x y : Option Series) (o : Option Series) → cond b x (cond b y o) ≡ cond b x o
twice_series true x y o = refl
twice_series false x y o = refl

same_points : (a b : PointMap) → ((q : ℤ) → get a q ≡ get b q) → a ≡ b
same_points a b h = same_map int_cmp_total int_cmp-IsAntisymmetric a b h

back-at : (b : Bool) (v : Value) (o p : Option Value) → (b ≡ true → p ≡ o) → cond b o (cond b (Some v) p) ≡ p
back-at true v o p h = sym (h refl)
back-at false v o p h = refl

-- what stood at the time stands there again
series-back : (s : Series) (time : ℤ) (v : Value) (old : Option Value) → old ≡ get s.points time → set_at time old (put time v s) ≡ s
series-back s time v None e = ap (λ (p : PointMap). record { data_type = s.data_type; points = p }) (same_points (remove (insert s.points time v) time) s.points (λ q.
    get-remove int_cmp_total (insert s.points time v) time q
    ∙ ap (cond (eq_by_cmp int_cmp q time) None) (get-insert int_cmp_total s.points time v q)
    ∙ back-at (eq_by_cmp int_cmp q time) v None (get s.points q) (λ at. ap (get s.points) (tells_apart exact_signed q time at) ∙ sym e)))
series-back s time v (Some w) e = ap (λ (p : PointMap). record { data_type = s.data_type; points = p }) (same_points (insert (insert s.points time v) time w) s.points (λ q.
    get-insert int_cmp_total (insert s.points time v) time w q
    ∙ ap (cond (eq_by_cmp int_cmp q time) (Some w)) (get-insert int_cmp_total s.points time v q)
    ∙ back-at (eq_by_cmp int_cmp q time) v (Some w) (get s.points q) (λ at. ap (get s.points) (tells_apart exact_signed q time at) ∙ sym e)))

insert-twice : (world : World) (p : List ℕ) (s t : Series) → insert (insert world p t) p s ≡ insert world p s
insert-twice world p s t = same_map nat_list_cmp_total (slice_cmp-IsAntisymmetric nat_cmp-IsAntisymmetric) _ _ (λ q.
    get-insert nat_list_cmp_total (insert world p t) p s q
    ∙ ap (cond (same q p) (Some s)) (get-insert nat_list_cmp_total world p t q)
    ∙ twice_series (same q p) (Some s) (Some t) (get world q)
    ∙ sym (get-insert nat_list_cmp_total world p s q))

-- a cell that was written and taken back has changed nothing
pub taken_back : (world after back : World) (p : List ℕ) (time : ℤ) (literal : Literal) (old : Option Value) → fits_series literal (get world p) ≡ true
    → after ≡ change world p (put_literal time literal) → old ≡ value_at world p time → back ≡ change after p (set_at time old) → back ≡ world
taken_back world after back p time literal old e put_so stood is =
    let fit = fits literal (get world p) e in
    let written = put_so ∙ cell-put world p time literal fit in
    is ∙ ap (λ w. change w p (set_at time old)) written
    ∙ sym (change-there (insert world p (put time fit.value fit.series)) p (set_at time old) (put time fit.value fit.series) (set_at time old (put time fit.value fit.series))
    (here world p (put time fit.value fit.series)) refl)
    ∙ ap (insert (insert world p (put time fit.value fit.series)) p)
    (series-back fit.series time fit.value old (stood ∙ ap (λ o. get (points_of_series o) time) fit.there))
    ∙ insert-twice world p fit.series (put time fit.value fit.series) ∙ insert-same world p fit.series fit.there

-- a list with one more at its end
ends-same : {A : Type 0} (xs ys : List A) (a b : A) → xs ++ a ∷ [] ≡ ys ++ b ∷ [] → (xs ≡ ys) × (a ≡ b)
ends-same [] [] a b e = (refl, ap (λ l. get_or l 0 a) e)
ends-same [] (y ∷ []) a b e = cc
ends-same [] (y ∷ z ∷ ys) a b e = cc
ends-same (x ∷ []) [] a b e = cc
ends-same (x ∷ z ∷ xs) [] a b e = cc
ends-same (x ∷ xs) (y ∷ ys) a b e =
    let rest = ends-same xs ys a b (ap (drop 1) e) in (ap (λ l. get_or l 0 x ∷ xs) e ∙ ap (λ l. y ∷ l) rest.0, rest.1)

-- a row that was written and taken back, the last cell first, has changed nothing
pub cells_back : (world catalog between back : World) (device : List ℕ) (time : ℤ) (cell : Cell) (cells : List Cell) (values : List (Option Value)) (old : Option Value)
    → all_fit world device (cell ∷ cells) ≡ true → catalog ≡ put_cells world device time (cell ∷ cells)
    → values ++ old ∷ [] ≡ old_values world device time (cell ∷ cells)
    → ((before : World) → all_fit before device cells ≡ true → catalog ≡ put_cells before device time cells → values ≡ old_values before device time cells → between ≡ before)
    → (IsSome (value_at between (child_of device cell.measurement) time) → back ≡ change between (child_of device cell.measurement) (set_at time old))
    → back ≡ world
cells_back world catalog between back device time cell cells values old fit put stood rest first =
    let path = child_of device cell.measurement in
    let after = change world path (put_literal time cell.value) in
    let ends = ends-same values (old_values after device time cells) old (value_at world path time) stood in
    let fits_first = first_fits world device cell cells fit in
    let same : between ≡ after = rest after (rest_fits world after device time cell cells fit refl) put ends.0 in
    taken_back world between back path time cell.value old fits_first same ends.1 (first (put_there world between path time cell.value fits_first same))

-- Done is answered where all fit
pub done_fits : (there fit : Bool) → cond there (cond fit Done WrongType) NoPath ≡ Done → fit ≡ true
done_fits true true e = refl
done_fits true false e = cc
done_fits false fit e = cc

-- an answer that is not Done changes nothing
pub not_done : (world : World) (command : Command) (answer : Answer) → (answer ≡ Done → ⊥) → after_reply world command (Plain answer) ≡ world
not_done world command Done h = absurd (h refl)
not_done world command NoPath h = refl
not_done world command WrongType h = refl
not_done world command Exists h = refl
not_done world command Device h = refl
not_done world command Memory h = refl
not_done world command (Full counter) h = refl

pub whole : {A : Type 0} (i : ℕ) (xs : List A) → length xs ≤ i → take i xs ≡ xs
whole zero [] h = refl
whole zero (x ∷ xs) h = absurd (omega arith)
whole (suc i) [] h = refl
whole (suc i) (x ∷ xs) h = ap (λ l. x ∷ l) (whole i xs (omega arith))

abbrev is_there : World → List ℕ → Cell → Bool
is_there world device cell = is_some (series_of world device cell.measurement)

all_names : (world : World) (device : List ℕ) (cells : List Cell) → are_there world device (map (λ cell. cell.measurement) cells) ≡ list_all (is_there world device) cells
all_names world device cells = list_all-map (λ name. is_some (series_of world device name)) (λ (cell : Cell). cell.measurement) cells

-- a series that is not there is answered at once
pub no_path : (world : World) (device : List ℕ) (cells : List Cell) (i : ℕ) (cell : Cell) → i < length cells → cell ≡ get_or cells i cell
    → series_of world device cell.measurement ≡ None → NoPath ≡ insert_answer world device cells
no_path world device cells i cell below is none =
    sym (ap (λ b. cond b (cond (all_fit world device cells) Done WrongType) NoPath)
    (all_names world device cells ∙ list_all_at (is_there world device) cells i cell below (ap (is_there world device) (sym is) ∙ ap is_some none)))

-- the answer once all cells were looked at
pub answered : (world : World) (device : List ℕ) (cells : List Cell) (i : ℕ) (fit : Bool) → length cells ≤ i
    → list_all (is_there world device) (take i cells) ≡ true → fit ≡ all_fit world device (take i cells) → insert_answer world device cells ≡ cond fit Done WrongType
answered world device cells i fit end there fits =
    ap (λ b. cond b (cond (all_fit world device cells) Done WrongType) NoPath)
    (all_names world device cells ∙ ap (list_all (is_there world device)) (sym (whole i cells end)) ∙ there)
    ∙ ap (λ b. cond b Done WrongType) (ap (all_fit world device) (sym (whole i cells end)) ∙ sym fits)

-- the first cell and the rest, as a slice has them
pub split_first : (cells : List Cell) (cell : Cell) → 1 ≤ length cells → cell ≡ get_or cells 0 cell → cell ∷ take (length cells - 1) (drop 1 cells) ≡ cells
split_first [] cell some is = absurd (omega arith)
split_first (c ∷ cells) cell some is =
    let n : length (c ∷ cells) - 1 ≡ length cells = omega arith in
    ap (λ n. cell ∷ take n cells) n ∙ ap (λ l. cell ∷ l) (whole (length cells) cells (omega arith)) ∙ ap (λ c. c ∷ cells) is

pub on_err : {A E P : Type 0} (r : Result A E) → true ≡ is_err r → OnErr r P → P
on_err (Ok x) e h = absurd (false≢true (sym e))
on_err (Err y) e h = h

pub at_some : {A : Type 0} (P : A → Type 0) (o : Option A) (x : A) → IfSome o P → o ≡ Some x → P x
at_some P o x h e = subst (λ o. IfSome o P) e h

-- what is written at a path of the catalog is written at the series of the world
pub moved : {A : Type 0} (f : World → List ℕ → A) (catalog world : World) (p path : List ℕ) → catalog ≡ world → p ≡ path → f catalog p ≡ f world path
moved f catalog world p path same joined = ap (λ w. f w p) same ∙ ap (f world) joined
