-- A range that is cut from a pair: fewer points and bytes, and a mark that covers the rest.
use Rattle.std.proofs.Common.{◌≡◌, ℕ, ◌+◌, ◌<◌, ◌≤◌, ℤ, Bool, true, false, cond, T, List, [], ◌∷◌, ◌++◌, length, inl}
use Rattle.std.proofs.Common.{inr, refl}
use Rattle.std.proofs.Common.{sym, ap, ◌∙◌, subst, arith}
use Rattle.std.specs.Prelude.{◌&&◌, not, int_le, int_lt, nat_lt, Option, Some, None, sum_by}
use Rattle.std.specs.FinMap.{empty, entries, entries-from_sorted, entries_sorted, get, get-empty}
use Rattle.std.specs.FinMap.{get-entries}
use Rattle.std.specs.FinMap.{get-from_sorted, get-retain_keys, is_sorted, len, len-entries, retain_keys}
use Rattle.std.specs.FinMap.Entries.{find-where_key, is_sorted-where_key}
use Rattle.std.specs.List.{AllByRecursion as Each, filter}
use Rattle.std.specs.Option.{option_or}
use Rattle.std.specs.declared.cmp.Ordering.TheVariants.{Equal}
use Rattle.std.proofs.lemmas.Bool.Decides.{nat_tests}
use Rattle.std.proofs.lemmas.Int.{ints}
use Rattle.std.proofs.lemmas.List.Sums.{sum_by-cons}
use Rattle.tsdb_base.specs.declared.point.Range.{Range}
use Rattle.tsdb_base.specs.declared.value.Value.{Value}
use Rattle.tsdb_state.proofs.LayerLemmas.JobMarks.{none_by}
use Rattle.tsdb_state.proofs.LayerLemmas.Places.{get_cut, place_cmp-IsAntisymmetric, same_content}
use Rattle.tsdb_state.proofs.LayerLemmas.Tests.{clear_append}
use Rattle.tsdb_state.specs.Layers.{HasPoint, Layer, value_in}
use Rattle.tsdb_state.specs.Marks.{is_over, survives}
use Rattle.tsdb_state.specs.Places.{Content, PointPlace, cut_content, is_path, is_within, place_cmp}
use Rattle.tsdb_model.specs.World.{is_in}
use Rattle.tsdb_marks.specs.declared.marks.Mark.{Mark}
use Rattle.tsdb_memtable.specs.Points.{value_bytes}
use Rattle.tsdb_state.specs.Limit.{IsWithinPairLimit, content_bytes}
use Rattle.tsdb_state.specs.Records.{add_mark, cut_pair}
use Rattle.tsdb_state.specs.State.{PairContent}
use Rattle.tsdb_state.specs.Views.{pair_layers}

module _ (content : Content) (test : PointPlace → Bool) where
  alike : (q x : PointPlace) → place_cmp q x ≡ Equal → test x ≡ test q
  alike q x e = ap test (sym (place_cmp-IsAntisymmetric q x e))

  abbrev kept : List (PointPlace × Value)
  kept = filter (λ entry. test entry.0) (entries content)

  sorted : T (is_sorted place_cmp kept)
  sorted = is_sorted-where_key place_cmp test (entries content) (entries_sorted content)

  -- the entries of a content whose places pass a test
  pub entries_kept : entries (retain_keys content test) ≡ kept
  entries_kept =
      ap entries (same_content _ _ (λ q. get-retain_keys content test q (alike q) ∙ ap (λ o. cond (test q) o None)
      (get-entries content q) ∙ sym (get-from_sorted place_cmp kept q sorted ∙ find-where_key place_cmp test q (alike q)
      (entries content))))
      ∙ entries-from_sorted place_cmp kept sorted

fewer_in : (test : PointPlace × Value → Bool) (points : List (PointPlace × Value)) → length (filter test points) ≤ length points
fewer_in test [] = omega arith
fewer_in test (point ∷ points) = by (test point) (fewer_in test points)
  where
    by : (b : Bool) → length (filter test points) ≤ length points
        → length (cond b (point ∷ filter test points) (filter test points)) ≤ length (point ∷ points)
    by true h = omega arith
    by false h = omega arith

lighter_in : (weight : PointPlace × Value → ℕ) (test : PointPlace × Value → Bool) (points : List (PointPlace × Value))
    → sum_by weight (filter test points) ≤ sum_by weight points
lighter_in weight test [] = omega arith
lighter_in weight test (point ∷ points) = by (test point) (lighter_in weight test points)
  where
    by : (b : Bool) → sum_by weight (filter test points) ≤ sum_by weight points
        → sum_by weight (cond b (point ∷ filter test points) (filter test points)) ≤ sum_by weight (point ∷ points)
    by true h = omega (arith, sum_by-cons weight point (filter test points), sum_by-cons weight point points)
    by false h = omega (arith, sum_by-cons weight point points)

abbrev weight : PointPlace × Value → ℕ
weight entry = 8 + value_bytes entry.1

pub cut_fewer : (path : List ℕ) (range : Range) (content : Content) → len (cut_content path range content) ≤ len content
cut_fewer path range content = subst (λ n. n ≤ len content) (sym (len-entries (cut_content path range content) ∙ ap length
    (entries_kept _ _))) (subst (λ n. length (kept content (λ place. not (is_within path range place))) ≤ n)
    (sym (len-entries content)) (fewer_in _ _))

pub cut_lighter : (path : List ℕ) (range : Range) (content : Content)
    → content_bytes (cut_content path range content) ≤ content_bytes content
cut_lighter path range content = subst (λ points. sum_by weight points ≤ content_bytes content) (sym (entries_kept _ _))
    (lighter_in weight (λ entry. not (is_within path range entry.0)) (entries content))

-- the points of a cut are points

was_there : (b : Bool) (o : Option Value) (value : Value) → cond (not b) o None ≡ Some value → o ≡ Some value
was_there true o value e = absurd (cc)
was_there false o value e = e

pub cut_point : (path : List ℕ) (range : Range) (content : Content) (place : PointPlace) (value : Value)
    → get (cut_content path range content) place ≡ Some value → get content place ≡ Some value
cut_point path range content place value is = was_there _ _ _ (sym (get_cut _ _ _ _) ∙ is)

pub cut_points : (path : List ℕ) (range : Range) (pair : PairContent) (place : PointPlace) (value : Value)
    → HasPoint (pair_layers (cut_pair path range pair)) place value → HasPoint (pair_layers pair) place value
cut_points path range pair place value (inl h) = inl (cut_point _ _ _ _ _ h)
cut_points path range pair place value (inr (inl h)) = inr (inl (cut_point _ _ _ _ _ h))
cut_points path range pair place value (inr (inr h)) = absurd h

empty_cut : (path : List ℕ) (range : Range) (content : Content) → content ≡ empty → cut_content path range content ≡ empty
empty_cut path range content none =
    same_content _ _ (λ q. get_cut _ _ _ q ∙ ap (λ c. cond (not (is_within path range q)) (get c q) None) none
    ∙ ap (λ o. cond (not (is_within path range q)) o None) (get-empty place_cmp q)
    ∙ sym (none_by (not (is_within path range q))) ∙ sym (get-empty place_cmp q))

pub cut_limit : (path : List ℕ) (range : Range) (pair : PairContent) → IsWithinPairLimit pair
    → IsWithinPairLimit (cut_pair path range pair)
cut_limit path range pair (inl none) = inl (empty_cut _ _ _ none.0, empty_cut _ _ _ none.1)
cut_limit path range pair (inr (inl row)) = inr (inl (record {
  device = row.device;
  time = row.time;
  points = λ place value has. row.points place value (cut_points _ _ _ _ _ has);
}))
cut_limit path range pair (inr (inr few)) = inr (inr (record {
  points = omega (arith, few.points, cut_fewer path range pair.sequence, cut_fewer path range pair.unsequence);
  bytes = omega (arith, few.bytes, cut_lighter path range pair.sequence, cut_lighter path range pair.unsequence);
}))

-- the mark covers what is within the range and older

abbrev pub mark_of : List ℕ → Range → ℕ → Mark
mark_of path range version = record { path = path; from = range.from; to = range.to; version = record { 0 = version } }

reversed : (from to time : ℤ) → int_lt to from ≡ true → (int_le from time && int_le time to) ≡ false
reversed from to time e = grind (arith, ints)

newer : (born version : ℕ) → born < version → nat_lt born version ≡ true
newer born version h = grind (arith, nat_tests)

marked_survives : (path : List ℕ) (range : Range) (version : ℕ) (marks : List Mark) (place : PointPlace) (born : ℕ)
    → born < version
    → survives (add_mark path range version marks) place born
    ≡ (survives marks place born && not (is_within path range place))
marked_survives path range version marks place born old = by (int_lt range.to range.from) refl
  where
    whole : (a b : Bool) → (a && (not (b && true) && true)) ≡ (a && not b)
    whole true true = refl
    whole true false = refl
    whole false b = refl

    alone : (a b c : Bool) → b ≡ false → a ≡ (a && not (c && b))
    alone true b true e = ap not (sym e)
    alone true b false e = refl
    alone false b c e = refl

    by : (b : Bool) → int_lt range.to range.from ≡ b
        → survives (cond b marks (marks ++ mark_of path range version ∷ [])) place born
        ≡ (survives marks place born && not (is_within path range place))
    by true e = alone (survives marks place born) (is_in range place.time) (is_path path place.path)
        (reversed range.from range.to place.time e)
    by false e =
        clear_append (nat_lt born) marks (mark_of path range version ∷ []) place
        ∙ ap (λ b. survives marks place born && (not (is_over (mark_of path range version) place && b) && true))
        (newer _ _ old)
        ∙ whole (survives marks place born) (is_within path range place)

-- values of layers older than the mark
pub marked_value : (path : List ℕ) (range : Range) (version : ℕ) (marks : List Mark) (place : PointPlace)
    (layers : List Layer) → Each (λ layer. layer.born < version) layers
    → value_in (add_mark path range version marks) place layers
    ≡ cond (is_within path range place) None (value_in marks place layers)
marked_value path range version marks place [] older = none_by (is_within path range place)
marked_value path range version marks place (layer ∷ layers) older =
    let rest = marked_value path range version marks place layers older.1 in
    let first = ap (λ b. cond b (get layer.content place) None) (marked_survives path range _ marks place _ older.0) in
    (λ i. option_or (rest i) (first i))
    ∙ join (is_within path range place) (survives marks place layer.born) (value_in marks place layers)
    (get layer.content place)
  where
    join : (w s : Bool) (rest here : Option Value)
        → option_or (cond w None rest) (cond (s && not w) here None) ≡ cond w None (option_or rest (cond s here None))
    join true true rest here = refl
    join true false rest here = refl
    join false true rest here = refl
    join false false rest here = refl
