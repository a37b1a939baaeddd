-- What an ordered map of values has at a time is what the points of a series have there.
use Rattle.std.proofs.Common.{◌≡◌, ◌+◌, ◌<◌, length, ◌⊎◌, inl, inr, ℕ, ℤ, Bool, true, false, cond, not, ◌&&◌, List, [], ◌∷◌, Option, None, Some, is_some, refl, sym, ap, ◌∙◌, subst, arith, Ordering}
use Rattle.std.specs.Prelude.{T, ◌≤ℤ◌, ◌<ℤ◌, int_le, int_lt, filter, IsNone, IsSome}
use Rattle.std.specs.Ordering.{int_cmp, is_lt, is_le, eq_by_cmp}
use Rattle.std.proofs.lemmas.Bool.{false≢true}
use Rattle.std.proofs.lemmas.Int.{ints}
use Rattle.std.proofs.lemmas.Map.Views.{tells_apart}
use Rattle.std.proofs.lemmas.Map.Lookups.{exact_signed}
use lib.Signed.{clash_ℤ, lt_z_no}
use Rattle.std.specs.BTreeMap.Range.{entries_between, range_contains}
use Rattle.std.specs.declared.ops.Bound.TheVariants.{Included, Excluded}
use Rattle.tsdb_base.specs.declared.point.Range.{Range}
use Rattle.tsdb_base.specs.declared.value.DataType.{DataType}
use Rattle.tsdb_model.specs.Folds.{within}
use Rattle.tsdb_map.specs.Model.{series_view, set_at}
use Rattle.std.specs.Cmp.{eq_by_cmp_equiv, int_cmp_total}
use Rattle.std.specs.FinMap.{len, len-entries, get, insert, remove, entries, from_entries, from_sorted, get-from_entries, get-from_sorted, entries-from_sorted, retain_keys, get-entries, entries_sorted, get-retain_keys, get-insert, get-remove, same_map, int_cmp-IsAntisymmetric}
use Rattle.std.specs.FinMap.Entries.{find, below_all, is_sorted, where_key, is_sorted-where_key, find-where_key}
use Rattle.std.specs.List.{AllByRecursion}
use Rattle.std.specs.List.Sorted.{IsStrictlySortedBy}
use Rattle.std.specs.Map.{lookup, keys_of}
use Rattle.std.specs.BTreeMap.{BTreeMap, is_at}
use Rattle.std.specs.BTreeMap as tree
use Rattle.std.specs.declared.cmp.Ordering.TheVariants.{Less, Equal, Greater}
use Rattle.tsdb_base.specs.declared.value.Value.{Value}
use Rattle.tsdb_model.specs.World.{PointMap, Series, cut, is_in}
use Rattle.tsdb_model.proofs.TimeTests.{of_true, le-lt, le-cmp, lt-cmp}

abbrev pub points_of : BTreeMap ℤ Value → PointMap
points_of kept = from_entries kept.entries

pub find-lookup : {K X : Type 0} (R : K → K → Ordering) (es : List (K × X)) (q : K) → find R q es ≡ lookup (is_at (R q)) es
find-lookup R [] q = refl
find-lookup R (e ∷ es) q = ap (cond (is_at (R q) e.0) (Some e.1)) (find-lookup R es q)

-- the value at a time, where there is one
pub get-points_of : (kept : BTreeMap ℤ Value) (q : ℤ) → get (points_of kept) q ≡ tree.get int_cmp kept q
get-points_of kept q = get-from_entries int_cmp_total kept.entries q ∙ find-lookup int_cmp kept.entries q

-- maps that differ at one time stand for points that differ there
pub points_of-put : (m n : BTreeMap ℤ Value) (t : ℤ) (v : Value)
    → ((q : ℤ) → tree.get int_cmp n q ≡ cond (is_at (int_cmp t) q) (Some v) (tree.get int_cmp m q))
    → points_of n ≡ insert (points_of m) t v
points_of-put m n t v h = same_map int_cmp_total int_cmp-IsAntisymmetric _ _ (λ q.
    get-points_of n q ∙ h q
    ∙ ap (λ b. cond b (Some v) (tree.get int_cmp m q)) ((eq_by_cmp_equiv int_cmp_total).symm t q)
    ∙ sym (get-insert int_cmp_total (points_of m) t v q ∙ ap (cond (eq_by_cmp int_cmp q t) (Some v)) (get-points_of m q)))

pub points_of-removed : (m n : BTreeMap ℤ Value) (t : ℤ)
    → ((q : ℤ) → tree.get int_cmp n q ≡ cond (is_at (int_cmp t) q) None (tree.get int_cmp m q))
    → points_of n ≡ remove (points_of m) t
points_of-removed m n t h = same_map int_cmp_total int_cmp-IsAntisymmetric _ _ (λ q.
    get-points_of n q ∙ h q
    ∙ ap (λ b. cond b None (tree.get int_cmp m q)) ((eq_by_cmp_equiv int_cmp_total).symm t q)
    ∙ sym (get-remove int_cmp_total (points_of m) t q ∙ ap (cond (eq_by_cmp int_cmp q t) None) (get-points_of m q)))

is_true : (b c : Bool) → b ≡ true → T c → T (b && c)
is_true true c e h = h
is_true false c e h = cc

rising-first : (x : ℤ) (es : List (ℤ × Value)) → AllByRecursion (λ y. int_cmp x y ≡ Less) (keys_of es) → T (below_all int_cmp x es)
rising-first x [] h = tt
rising-first x (e ∷ es) h = is_true (is_lt (int_cmp x e.0)) (below_all int_cmp x es) (ap is_lt h.0) (rising-first x es h.1)

both : (b c : Bool) → T b → T c → T (b && c)
both true c h k = k
both false c h k = h

rising : (es : List (ℤ × Value)) → IsStrictlySortedBy int_cmp (keys_of es) → T (is_sorted int_cmp es)
unfolding IsStrictlySortedBy
rising [] h = tt
rising (e ∷ es) h = both (below_all int_cmp e.0 es) (is_sorted int_cmp es) (rising-first e.0 es h.0) (rising es h.1)

-- the entries of an ordered map are those of the points, in order of time
pub entries-points_of : (kept : BTreeMap ℤ Value) → tree.IsOrdered int_cmp kept → entries (points_of kept) ≡ kept.entries
entries-points_of kept ordered =
    let sorted : T (is_sorted int_cmp kept.entries) = rising kept.entries ordered in
    ap entries (same_map int_cmp_total int_cmp-IsAntisymmetric (points_of kept) (from_sorted kept.entries) (λ q.
    get-from_entries int_cmp_total kept.entries q ∙ sym (get-from_sorted int_cmp kept.entries q sorted)))
    ∙ entries-from_sorted int_cmp kept.entries sorted

-- a series whose ordered map differs at one time
pub set-removed : (kind : DataType) (m n : BTreeMap ℤ Value) (s : Series) (t u : ℤ) (o : Option Value) → series_view kind m ≡ s → o ≡ None → u ≡ t
    → ((q : ℤ) → tree.get int_cmp n q ≡ cond (is_at (int_cmp u) q) None (tree.get int_cmp m q)) → series_view kind n ≡ set_at t o s
set-removed kind m n s t u o is none same h =
    ap (λ (p : PointMap). record { data_type = kind; points = p }) (points_of-removed m n u h)
    ∙ ap (λ x. set_at x None (series_view kind m)) same ∙ ap (set_at t None) is ∙ ap (λ x. set_at t x s) (sym none)

pub set-put : (kind : DataType) (m n : BTreeMap ℤ Value) (s : Series) (t u : ℤ) (v : Value) (o : Option Value) → series_view kind m ≡ s → o ≡ Some v → u ≡ t
    → ((q : ℤ) → tree.get int_cmp n q ≡ cond (is_at (int_cmp u) q) (Some v) (tree.get int_cmp m q)) → series_view kind n ≡ set_at t o s
set-put kind m n s t u v o is some same h =
    ap (λ (p : PointMap). record { data_type = kind; points = p }) (points_of-put m n u v h)
    ∙ ap (λ x. set_at x (Some v) (series_view kind m)) same ∙ ap (set_at t (Some v)) is ∙ ap (λ x. set_at t x s) (sym some)

-- what the series has at a time
pub get-series : (kind : DataType) (m : BTreeMap ℤ Value) (s : Series) (t u : ℤ) → series_view kind m ≡ s → u ≡ t → tree.get int_cmp m u ≡ get s.points t
get-series kind m s t u is same = sym (get-points_of m u) ∙ ap (get (points_of m)) same ∙ ap (λ (s : Series). get s.points t) is

-- a value at a time that is there, or none, takes no memory
pub no_room : {A : Type 0} (o : Option Value) (v : Value) (found : Option Value) → o ≡ Some v → found ≡ None → IsNone o ⊎ IsSome found → A
no_room o v found some none (inl n) = absurd (false≢true (sym n ∙ ap is_some some))
no_room o v found some none (inr h) = absurd (false≢true (sym (ap is_some none) ∙ h))

both-and : (a b c d : Bool) → a ≡ c → b ≡ d → (a && b) ≡ (c && d)
both-and a b c d e f = ap (λ x. x && b) e ∙ ap (λ x. c && x) f

filter-same : (p r : ℤ → Bool) → ((q : ℤ) → p q ≡ r q) → (es : List (ℤ × Value)) → filter (λ e. p e.0) es ≡ filter (λ e. r e.0) es
filter-same p r h [] = refl
filter-same p r h (e ∷ es) =
    ap (λ b. cond b (e ∷ filter (λ e. p e.0) es) (filter (λ e. p e.0) es)) (h e.0)
    ∙ ap (λ fs. cond (r e.0) (e ∷ fs) fs) (filter-same p r h es)

filter-none : (es : List (ℤ × Value)) → filter (λ e. false) es ≡ []
filter-none [] = refl
filter-none (e ∷ es) = filter-none es

alike : (p : ℤ → Bool) (q x : ℤ) → int_cmp q x ≡ Equal → p x ≡ p q
alike p q x tied = ap p (sym (int_cmp-IsAntisymmetric q x tied))

entries-retain_keys : (points : PointMap) (p : ℤ → Bool) → entries (retain_keys points p) ≡ where_key int_cmp p (entries points)
entries-retain_keys points p =
    let sorted : T (is_sorted int_cmp (where_key int_cmp p (entries points))) = is_sorted-where_key int_cmp p (entries points) (entries_sorted points) in
    ap entries (same_map int_cmp_total int_cmp-IsAntisymmetric (retain_keys points p) (from_sorted (where_key int_cmp p (entries points))) (λ q.
    get-retain_keys points p q (alike p q) ∙ ap (λ o. cond (p q) o None) (get-entries points q)
    ∙ sym (get-from_sorted int_cmp (where_key int_cmp p (entries points)) q sorted ∙ find-where_key int_cmp p q (alike p q) (entries points))))
    ∙ entries-from_sorted int_cmp (where_key int_cmp p (entries points)) sorted

entries-within : (points : PointMap) (range : Range) → entries (within range points) ≡ filter (λ e. is_in range e.0) (entries points)
entries-within points range = entries-retain_keys points (is_in range)

entries_of : (kind : DataType) (m : BTreeMap ℤ Value) (s : Series) (range : Range) → tree.IsOrdered int_cmp m → series_view kind m ≡ s
    → entries (within range s.points) ≡ filter (λ e. is_in range e.0) m.entries
entries_of kind m s range ordered is =
    ap (λ (s : Series). entries (within range s.points)) (sym is) ∙ entries-within (points_of m) range
    ∙ ap (filter (λ e. is_in range e.0)) (entries-points_of m ordered)

-- what a range of the ordered map has
pub entries-range : (kind : DataType) (m : BTreeMap ℤ Value) (s : Series) (range : Range) (a b : ℤ) → tree.IsOrdered int_cmp m → series_view kind m ≡ s
    → a ≡ range.from → b ≡ range.to → entries_between int_cmp (Included a) (Included b) m.entries ≡ entries (within range s.points)
entries-range kind m s range a b ordered is from to =
    filter-same (range_contains int_cmp (Included a) (Included b)) (is_in range)
    (λ q. both-and _ _ _ _ (le-cmp a q ∙ ap (λ x. int_le x q) from) (lt-cmp b q ∙ ap (λ x. int_le q x) to)) m.entries
    ∙ sym (entries_of kind m s range ordered is)

never_both : (b : Bool) → (b && not b) ≡ false
never_both true = refl
never_both false = refl

within_none : (a q b : ℤ) → b <ℤ a → a ≤ℤ q → q ≤ℤ b → ⊥
within_none a q b h k l = omega (arith, ints)

is_in-empty : (range : Range) → range.to <ℤ range.from → (q : ℤ) → is_in range q ≡ false
is_in-empty range h q = elim (int_le range.from q) as (λ t. int_le range.from q ≡ t → (t && int_le q range.to) ≡ false) [
  | true ↦ λ e. elim (int_le q range.to) as (λ u. int_le q range.to ≡ u → u ≡ false) [
    | true ↦ λ f. absurd (within_none range.from q range.to h (record { le = of_true _ e }) (record { le = of_true _ f }))
    | false ↦ λ f. refl
  ] refl
  | false ↦ λ e. refl
] refl

-- an empty range has nothing
pub entries-empty : (kind : DataType) (m : BTreeMap ℤ Value) (s : Series) (range : Range) (a : ℤ) → tree.IsOrdered int_cmp m → series_view kind m ≡ s
    → range.to <ℤ range.from → entries_between int_cmp (Included a) (Excluded a) m.entries ≡ entries (within range s.points)
entries-empty kind m s range a ordered is empty =
    filter-same (range_contains int_cmp (Included a) (Excluded a)) (λ q. false) (λ q. never_both (is_le (int_cmp a q))) m.entries
    ∙ sym (filter-same (is_in range) (λ q. false) (is_in-empty range empty) m.entries)
    ∙ sym (entries_of kind m s range ordered is)

get-within : (points : PointMap) (range : Range) (q : ℤ) → get (within range points) q ≡ cond (is_in range q) (get points q) None
get-within points range q = get-retain_keys points (is_in range) q (alike (is_in range) q)

get-outside : (points : PointMap) (range : Range) (q : ℤ) → get (retain_keys points (λ t. not (is_in range t))) q ≡ cond (not (is_in range q)) (get points q) None
get-outside points range q = get-retain_keys points (λ t. not (is_in range t)) q (alike (λ t. not (is_in range t)) q)

same_points : (a b : PointMap) → ((q : ℤ) → get a q ≡ get b q) → a ≡ b
same_points a b h = same_map int_cmp_total int_cmp-IsAntisymmetric a b h

with_points : (s : Series) (p : PointMap) → p ≡ s.points → record { data_type = s.data_type; points = p } ≡ s
with_points s p e = ap (λ (p : PointMap). record { data_type = s.data_type; points = p }) e

-- where no time is in the range there is nothing to cut
pub cut-none : (range : Range) (s : Series) → entries (within range s.points) ≡ [] → s ≡ cut range s
cut-none range s none = sym (with_points s (retain_keys s.points (λ t. not (is_in range t))) (same_points _ _ (λ q.
    get-outside s.points range q
    ∙ elim (is_in range q) as (λ b. cond b (get s.points q) None ≡ None → cond (not b) (get s.points q) None ≡ get s.points q) [
      | true ↦ λ e. sym e
      | false ↦ λ e. refl
    ] (sym (get-within s.points range q) ∙ get-entries (within range s.points) q ∙ ap (find int_cmp q) none))))

-- the first point in the range is in it, and the series has it
pub first-in : (range : Range) (p : PointMap) (t : ℤ) (v : Value) (rest : List (ℤ × Value)) → entries (within range p) ≡ (t, v) ∷ rest
    → (is_in range t ≡ true) × (get p t ≡ Some v)
first-in range p t v rest first =
    elim (is_in range t) as (λ b. cond b (get p t) None ≡ Some v → (b ≡ true) × (get p t ≡ Some v)) [
      | true ↦ λ e. (refl, e)
      | false ↦ λ e. absurd (false≢true (ap is_some e))
    ] (sym (get-within p range t) ∙ get-entries (within range p) t ∙ ap (find int_cmp t) first
    ∙ ap (λ b. cond b (Some v) (find int_cmp t rest)) ((eq_by_cmp_equiv int_cmp_total).refl t))

removed-in : (b in_range : Bool) (o : Option Value) → (b ≡ true → in_range ≡ true) → cond (not in_range) (cond b None o) None ≡ cond (not in_range) o None
removed-in true in_range o h = ap (λ r. cond (not r) None None) (h refl) ∙ sym (ap (λ r. cond (not r) o None) (h refl))
removed-in false in_range o h = refl

-- a time of the range may go before the cut
pub cut-removed : (range : Range) (s : Series) (t : ℤ) → is_in range t ≡ true → cut range (set_at t None s) ≡ cut range s
cut-removed range s t inside = with_points (cut range s) (retain_keys (remove s.points t) (λ t. not (is_in range t))) (same_points _ _ (λ q.
    get-outside (remove s.points t) range q
    ∙ ap (λ o. cond (not (is_in range q)) o None) (get-remove int_cmp_total s.points t q)
    ∙ removed-in (eq_by_cmp int_cmp q t) (is_in range q) (get s.points q) (λ e. ap (is_in range) (tells_apart exact_signed q t e) ∙ inside)
    ∙ sym (get-outside s.points range q)))

-- how many points a series has
pub len-view : (kind : DataType) (m : BTreeMap ℤ Value) (s : Series) → tree.IsOrdered int_cmp m → series_view kind m ≡ s → len s.points ≡ length m.entries
len-view kind m s ordered is = ap (λ (s : Series). len s.points) (sym is) ∙ len-entries (points_of m) ∙ ap length (entries-points_of m ordered)

pub one_less : (b : Bool) (n m : ℕ) → b ≡ true → n + cond b 1 0 ≡ m → n < m
one_less true n m e h = omega arith
one_less false n m e h = cc

above : (a b : ℤ) → int_le a b ≡ false → b <ℤ a
above a b e = record { lt = lt_of (int_lt b a) (sym (le-lt b a) ∙ e) }
  where
    lt_of : (t : Bool) → not t ≡ false → T t
    lt_of true e = tt
    lt_of false e = cc

pub above_by_test : (range : Range) (a b : ℤ) → a ≡ range.from → b ≡ range.to → int_le a b ≡ false → range.to <ℤ range.from
above_by_test range a b from to e =
    above range.from range.to (ap (λ x. int_le x range.to) (sym from) ∙ ap (int_le a) (sym to) ∙ e)

and-false : (b : Bool) → (b && false) ≡ false
and-false true = refl
and-false false = refl

-- the points of the range at a time: those of the series, where the range has the time
pub within-there : (range : Range) (p : PointMap) (t : ℤ) → int_lt t range.from ≡ false → int_lt range.to t ≡ false → get (within range p) t ≡ get p t
within-there range p t e f =
    get-within p range t ∙ ap (λ b. cond b (get p t) None) (both-and _ _ true true (le-lt t range.from ∙ ap not e) (le-lt range.to t ∙ ap not f))

pub within-before : (range : Range) (p : PointMap) (t : ℤ) → int_lt t range.from ≡ true → get (within range p) t ≡ None
within-before range p t e = get-within p range t ∙ ap (λ b. cond (b && int_le t range.to) (get p t) None) (le-lt t range.from ∙ ap not e)

pub within-behind : (range : Range) (p : PointMap) (t : ℤ) → int_lt range.to t ≡ true → get (within range p) t ≡ None
within-behind range p t e =
    get-within p range t
    ∙ ap (λ b. cond b (get p t) None) (ap (λ b. int_le range.from t && b) (le-lt range.to t ∙ ap not e) ∙ and-false (int_le range.from t))

-- a test of two numbers as they are kept in their bits
pub lt-bits : (a b c d : ℤ) (t : Bool) → c ≡ a → d ≡ b → int_lt c d ≡ t → int_lt a b ≡ t
lt-bits a b c d t e f h = sym (ap (λ x. int_lt x d) e ∙ ap (int_lt a) f) ∙ h
