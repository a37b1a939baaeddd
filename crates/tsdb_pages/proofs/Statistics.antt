-- The statistics of points of one type are statistics of that type.
use Rattle.std.proofs.Common.{◌≡◌, ℕ, ◌-◌, ◌<◌, ◌^◌, Bool, true, false, List, [], ◌∷◌, length, get_or, Option, Some, cond, refl, sym, ap, ◌∙◌, subst, arith}
use Rattle.std.specs.Prelude.{ℤ, ◌+ℤ◌, ◌&&◌, None, All, FitsSigned, IfSome, is_some, option_map, slice_get}
use Rattle.std.specs.Int.{w64}
use Rattle.std.specs.List.{cons_option, filter_map, fold, reduce, AllByRecursion}
use Rattle.std.proofs.lemmas.Bool.{false≢true}
use Rattle.std.proofs.lemmas.Option.{slice_get-get_or}
use Rattle.std.proofs.lemmas.List.Elements.{recursion_from_All}
use Rattle.tsdb_base.specs.declared.point.Point.{Point}
use Rattle.tsdb_base.specs.declared.point.Stats.{Stats}
use Rattle.tsdb_base.specs.declared.value.DataType.{DataType}
use Rattle.tsdb_base.specs.declared.value.Value.{Value}
use Rattle.tsdb_base.specs.declared.value.Value.TheVariants as value
use Rattle.tsdb_base.specs.Values.{type_of, IsValue, IsValueOf}
use Rattle.tsdb_stats.specs.Folds.{greater, if_number, is_less, lesser_value, as_number, numbers, sum_of}
use Rattle.tsdb_index.specs.Statistics.{IsExtremeOf, IsStatsOf, IsSumIf, is_numeric}
use Rattle.tsdb_index.specs.Versions.{has_sums}
use Rattle.tsdb_stats.specs.Statistics.{AreStatsOf}
use Rattle.tsdb_stats.proofs.Sums.{sum-fits}
use Rattle.tsdb_pages.specs.File.{HasSum}
use Rattle.tsdb_index.specs.declared.marks.TheConstants.{VERSION}
use Rattle.tsdb_pages.specs.Pages.{ArePoints, IsInRange}

of_type : (t : DataType) (p : Point) → type_of p.value ≡ t → IsInRange p → IsValueOf t p.value
of_type t p typed range = record { typed = typed; fits = range.1 }

-- ---- the least and the greatest

abbrev number_in : Value → Option Value
number_in v = if_number (as_number v) v

-- a value of a type that has numbers is one, and another is none
numeric : (t : DataType) (v : Value) (vs : List Value) → IsValueOf t v → is_numeric t ≡ true → cons_option (number_in v) vs ≡ v ∷ vs
numeric t (value.Bool b) vs is e = absurd (false≢true (ap is_numeric is.typed ∙ e))
numeric t (value.I32 n) vs is e = refl
numeric t (value.I64 n) vs is e = refl
numeric t (value.Text bytes) vs is e = absurd (false≢true (ap is_numeric is.typed ∙ e))

not_numeric : (t : DataType) (v : Value) (vs : List Value) → IsValueOf t v → is_numeric t ≡ false → cons_option (number_in v) vs ≡ vs
not_numeric t (value.Bool b) vs is e = refl
not_numeric t (value.I32 n) vs is e = absurd (false≢true (sym e ∙ sym (ap is_numeric is.typed)))
not_numeric t (value.I64 n) vs is e = absurd (false≢true (sym e ∙ sym (ap is_numeric is.typed)))
not_numeric t (value.Text bytes) vs is e = refl

abbrev IsOf : DataType → Point → Type 0
IsOf t p = IsValueOf t p.value

no_numbers : (t : DataType) (points : List Point) → AllByRecursion (IsOf t) points → is_numeric t ≡ false → numbers points ≡ []
no_numbers t [] are e = refl
no_numbers t (p ∷ ps) are e = not_numeric t p.value (numbers ps) are.0 e ∙ no_numbers t ps are.1 e

all_numbers : (t : DataType) (points : List Point) → AllByRecursion (IsOf t) points → is_numeric t ≡ true → AllByRecursion (IsValueOf t) (numbers points)
all_numbers t [] are e = tt
all_numbers t (p ∷ ps) are e = subst (λ (vs : List Value). AllByRecursion (IsValueOf t) vs) (sym (numeric t p.value (numbers ps) are.0 e)) (are.0, all_numbers t ps are.1 e)

-- one of two
record IsChoice (f : Value → Value → Value) : Type 0 where
  keeps : (t : DataType) (a b : Value) → IsValueOf t a → IsValueOf t b → IsValueOf t (f a b)

chosen : (f : Value → Value → Value) → IsChoice f → (t : DataType) (v : Value) (vs : List Value) → IsValueOf t v → AllByRecursion (IsValueOf t) vs → IsValueOf t (fold f v vs)
chosen f choice t v [] is are = is
chosen f choice t v (w ∷ vs) is are = chosen f choice t (f v w) vs (choice.keeps t v w is are.0) are.1

extreme : (f : Value → Value → Value) → IsChoice f → (t : DataType) (points : List Point) → 0 < length points → AllByRecursion (IsOf t) points → IsExtremeOf t (reduce f (numbers points))
extreme f choice t [] some are = absurd (omega (arith, some))
extreme f choice t (p ∷ ps) some are =
    elim (is_numeric t) as (λ (b : Bool). is_numeric t ≡ b → IsExtremeOf t (reduce f (numbers (p ∷ ps)))) [
      | true ↦ λ e. subst (λ (vs : List Value). IsExtremeOf t (reduce f vs)) (sym (numeric t p.value (numbers ps) are.0 e)) (e, chosen f choice t p.value (numbers ps) are.0 (all_numbers t ps are.1 e))
      | false ↦ λ e. subst (λ (vs : List Value). IsExtremeOf t (reduce f vs)) (sym (no_numbers t (p ∷ ps) are e)) e
    ] refl

lesser-choice : IsChoice lesser_value
lesser-choice = record { keeps = λ t a b is_a is_b. elim (is_less b a) as (λ (c : Bool). IsValueOf t (cond c b a)) [ true ↦ is_b | false ↦ is_a ] }

greater-choice : IsChoice greater
greater-choice = record { keeps = λ t a b is_a is_b. elim (is_less a b) as (λ (c : Bool). IsValueOf t (cond c b a)) [ true ↦ is_b | false ↦ is_a ] }

-- ---- all statistics

-- what the first point and the last give
first_gives : {B : Type 0} (read : Point → B) (points : List Point) (d : Point) (y : B) → 0 < length points → option_map read (slice_get points 0) ≡ Some y → read (get_or points 0 d) ≡ y
first_gives read points d y some is = same (sym (ap (option_map read) (slice_get-get_or points 0 d some)) ∙ is)
  where
    same : Some (read (get_or points 0 d)) ≡ Some y → read (get_or points 0 d) ≡ y
    same e = cc

pub last_gives : {B : Type 0} (read : Point → B) (points : List Point) (d : Point) (y : B) → 0 < length points → option_map read (slice_get points (length points - 1)) ≡ Some y → read (get_or points (length points - 1) d) ≡ y
last_gives read points d y some is = same (sym (ap (option_map read) (slice_get-get_or points (length points - 1) d (omega (arith, some)))) ∙ is)
  where
    same : Some (read (get_or points (length points - 1) d)) ≡ Some y → read (get_or points (length points - 1) d) ≡ y
    same e = cc

-- a sum that is there where it is to be
sum_if : (there : Bool) (points : List Point) (sum : Option ℤ) → is_some sum ≡ there → IfSome sum (λ s. sum_of points ≡ Some s) → All (λ (point : Point). IsValue point.value) points → length points < 2 ^ 64 → IsSumIf there sum
sum_if there points None is sums ranges few = sym is
sum_if there points (Some s) is sums ranges few = (sym is, sum-fits points s ranges few sums)

pub stats_of_type : (version : ℕ) (t : DataType) (points : List Point) (stats : Stats) → 0 < length points → length points < 2 ^ 64 → All (λ point. type_of point.value ≡ t) points → All IsInRange points → AreStatsOf points stats → HasSum version t stats → IsStatsOf (has_sums version) t stats
stats_of_type version t [] stats some few typed ranges are has = absurd (omega (arith, some))
stats_of_type version t (p ∷ ps) stats some few typed ranges are has =
    let points = p ∷ ps in
    let end = length (p ∷ ps) - 1 in
    let inside : length (p ∷ ps) - 1 < length (p ∷ ps) = omega (arith, some) in
    let last = get_or (p ∷ ps) (length (p ∷ ps) - 1) p in
    let each : AllByRecursion (IsOf t) (p ∷ ps) = recursion_from_All (IsOf t) (p ∷ ps) (λ k d lt. of_type t (get_or (p ∷ ps) k d) (typed k d lt) (ranges k d lt)) in
    let starts = first_gives (λ (q : Point). value.I64 q.time) points p (value.I64 stats.start) some are.start in
    let ends = last_gives (λ (q : Point). value.I64 q.time) points p (value.I64 stats.end) some are.end in
    let at_start : p.time ≡ stats.start = cc in
    let at_end : (get_or (p ∷ ps) (length (p ∷ ps) - 1) p).time ≡ stats.end = cc in
    let count = are.count in
    record {
      count = omega (arith, count, few);
      start = subst (FitsSigned w64) at_start (ranges 0 p some).0;
      end = subst (FitsSigned w64) at_end (ranges end p inside).0;
      first = subst (IsValueOf t) (first_gives (λ (q : Point). q.value) points p stats.first some are.first) (of_type t p (typed 0 p some) (ranges 0 p some));
      last = subst (IsValueOf t) (last_gives (λ (q : Point). q.value) points p stats.last some are.last) (of_type t last (typed end p inside) (ranges end p inside));
      least = subst (IsExtremeOf t) are.least (extreme lesser_value lesser-choice t points some each);
      greatest = subst (IsExtremeOf t) are.greatest (extreme greater greater-choice t points some each);
      sum = sum_if (has_sums version && is_numeric t) points stats.sum has are.sum (λ k d lt. (ranges k d lt).1) few;
    }

-- ---- the sum of a page's points

some_number : (v : Value) (t : DataType) (xs : List ℤ) → type_of v ≡ t → is_numeric t ≡ true → is_some (reduce (λ a b. a +ℤ b) (cons_option (as_number v) xs)) ≡ true
some_number (value.Bool b) t xs is e = absurd (false≢true (ap is_numeric is ∙ e))
some_number (value.I32 n) t xs is e = refl
some_number (value.I64 n) t xs is e = refl
some_number (value.Text bytes) t xs is e = absurd (false≢true (ap is_numeric is ∙ e))

no_number : (v : Value) (t : DataType) → type_of v ≡ t → is_numeric t ≡ false → as_number v ≡ None
no_number (value.Bool b) t is e = refl
no_number (value.I32 n) t is e = absurd (false≢true (sym e ∙ sym (ap is_numeric is)))
no_number (value.I64 n) t is e = absurd (false≢true (sym e ∙ sym (ap is_numeric is)))
no_number (value.Text bytes) t is e = refl

no_sum : (t : DataType) (points : List Point) → AllByRecursion (λ (p : Point). type_of p.value ≡ t) points → is_numeric t ≡ false → sum_of points ≡ None
no_sum t [] are e = refl
no_sum t (p ∷ ps) are e = ap (λ (n : Option ℤ). reduce (λ a b. a +ℤ b) (cons_option n (filter_map (λ (q : Point). as_number q.value) ps))) (no_number p.value t are.0 e) ∙ no_sum t ps are.1 e

-- points of a type have a sum exactly where they are numbers
pub sum_there : (t : DataType) (points : List Point) → ArePoints t points → is_some (sum_of points) ≡ is_numeric t
sum_there t [] are = let some = are.some in absurd (omega (arith, some))
sum_there t (p ∷ ps) are =
    let each = recursion_from_All (λ (q : Point). type_of q.value ≡ t) (p ∷ ps) are.typed in
    elim (is_numeric t) as (λ (b : Bool). is_numeric t ≡ b → is_some (sum_of (p ∷ ps)) ≡ b) [
      | true ↦ λ e. some_number p.value t (filter_map (λ (q : Point). as_number q.value) ps) each.0 e
      | false ↦ λ e. ap is_some (no_sum t (p ∷ ps) each e)
    ] refl

pub has_sum : (t : DataType) (points : List Point) (stats : Stats) → ArePoints t points → stats.sum ≡ sum_of points → HasSum VERSION t stats
has_sum t points stats are is = ap is_some is ∙ sum_there t points are
