-- The times of several series, as an ordered set collects them.
use Rattle.std.proofs.Common.{◌≡◌, ℤ, Bool, true, false, cond, ◌&&◌, ◌||◌, List, [], ◌∷◌, ◌++◌, map, Option, None, Some, is_some, refl, sym, ap, ◌∙◌, subst}
use Rattle.std.specs.Prelude.{T}
use Rattle.std.specs.Ordering.{int_cmp, is_lt, eq_by_cmp}
use Rattle.std.specs.Cmp.{eq_by_cmp_equiv, int_cmp_total}
use Rattle.std.specs.FinMap.{keys, entries, from_entries, from_sorted, get-from_entries, get-from_sorted, get-entries, entries-from_sorted, entries_sorted, same_map, int_cmp-IsAntisymmetric}
use Rattle.std.specs.FinMap.Entries.{find, below_all, is_sorted}
use Rattle.std.specs.List.{AllByRecursion, list_any}
use Rattle.std.specs.List.Sorted.{IsStrictlySortedBy}
use Rattle.std.specs.BTreeMap.{is_at}
use Rattle.std.specs.BTreeSet as set
use Rattle.std.specs.BTreeSet.{BTreeSet}
use Rattle.std.specs.Map.Iter.{deref_pair}
use Rattle.std.specs.declared.cmp.Ordering.TheVariants.{Less}
use Rattle.std.proofs.lemmas.List.{map-append}
use denote.Bor.{Bor}
use Rattle.tsdb_base.specs.declared.value.Value.{Value}

abbrev pub Entries : Type 0
Entries = List (ℤ × Value)

or_assoc : (a b c : Bool) → ((a || b) || c) ≡ (a || (b || c))
or_assoc true b c = refl
or_assoc false b c = refl

or_swap : (a b c : Bool) → (a || (b || c)) ≡ ((b || a) || c)
or_swap true true c = refl
or_swap true false c = refl
or_swap false true c = refl
or_swap false false c = refl

has-cond : (b : Bool) (v : Value) (o : Option Value) → is_some (cond b (Some v) o) ≡ (b || is_some o)
has-cond true v o = refl
has-cond false v o = refl

-- a time is in one list or in the other
pub has-append : (xs ys : Entries) (q : ℤ) → is_some (find int_cmp q (xs ++ ys)) ≡ (is_some (find int_cmp q xs) || is_some (find int_cmp q ys))
has-append [] ys q = refl
has-append (x ∷ xs) ys q =
    has-cond (eq_by_cmp int_cmp q x.0) x.1 (find int_cmp q (xs ++ ys))
    ∙ ap (λ b. eq_by_cmp int_cmp q x.0 || b) (has-append xs ys q)
    ∙ sym (or_assoc (eq_by_cmp int_cmp q x.0) (is_some (find int_cmp q xs)) (is_some (find int_cmp q ys)))
    ∙ ap (λ b. b || is_some (find int_cmp q ys)) (sym (has-cond (eq_by_cmp int_cmp q x.0) x.1 (find int_cmp q xs)))

cond-or : (b c : Bool) → cond b true c ≡ (b || c)
cond-or true c = refl
cond-or false c = refl

has-one : (b : Bool) (v : Value) → is_some (cond b (Some v) None) ≡ b
has-one true v = refl
has-one false v = refl

-- one more time is in the set
pub seen-more : (old new : BTreeSet ℤ) (u : ℤ) (time : Bor ℤ) (value : Bor Value) (xs : List (Bor ℤ × Bor Value)) (q : ℤ) (before : Bool) → u ≡ time.now
    → set.contains int_cmp old q ≡ (is_some (find int_cmp q (map deref_pair xs)) || before)
    → set.contains int_cmp new q ≡ cond (is_at (int_cmp u) q) true (set.contains int_cmp old q)
    → set.contains int_cmp new q ≡ (is_some (find int_cmp q (map deref_pair (xs ++ (time, value) ∷ []))) || before)
seen-more old new u time value xs q before same was is =
    is ∙ cond-or (is_at (int_cmp u) q) (set.contains int_cmp old q)
    ∙ ap (λ b. is_at (int_cmp u) q || b) was
    ∙ ap (λ b. b || (is_some (find int_cmp q (map deref_pair xs)) || before)) (ap (λ t. is_at (int_cmp t) q) same ∙ (eq_by_cmp_equiv int_cmp_total).symm time.now q)
    ∙ or_swap (eq_by_cmp int_cmp q time.now) (is_some (find int_cmp q (map deref_pair xs))) before
    ∙ ap (λ b. (is_some (find int_cmp q (map deref_pair xs)) || b) || before) (sym (has-one (eq_by_cmp int_cmp q time.now) value.now))
    ∙ ap (λ b. b || before) (sym (has-append (map deref_pair xs) (map deref_pair ((time, value) ∷ [])) q))
    ∙ ap (λ (es : Entries). is_some (find int_cmp q es) || before) (sym (map-append deref_pair xs ((time, value) ∷ [])))

-- only the keys of entries
abbrev bare : {X : Type 0} → List (ℤ × X) → List (ℤ × Unit {0})
bare es = map (λ e. (e.0, tt)) es

bare-below : {X : Type 0} (x : ℤ) (es : List (ℤ × X)) → below_all int_cmp x (bare es) ≡ below_all int_cmp x es
bare-below x [] = refl
bare-below x (e ∷ es) = ap (λ b. is_lt (int_cmp x e.0) && b) (bare-below x es)

bare-sorted : {X : Type 0} (es : List (ℤ × X)) → is_sorted int_cmp (bare es) ≡ is_sorted int_cmp es
bare-sorted [] = refl
bare-sorted (e ∷ es) = ap (λ b. b && is_sorted int_cmp (bare es)) (bare-below e.0 es) ∙ ap (λ b. below_all int_cmp e.0 es && b) (bare-sorted es)

abbrev mark : Bool → Option (Unit {0})
mark b = cond b (Some tt) None

mark-cond : {X : Type 0} (b : Bool) (x : X) (o : Option X) → cond b (Some tt) (mark (is_some o)) ≡ mark (is_some (cond b (Some x) o))
mark-cond true x o = refl
mark-cond false x o = refl

bare-find : {X : Type 0} (q : ℤ) (es : List (ℤ × X)) → find int_cmp q (bare es) ≡ mark (is_some (find int_cmp q es))
bare-find q [] = refl
bare-find q (e ∷ es) = ap (cond (eq_by_cmp int_cmp q e.0) (Some tt)) (bare-find q es) ∙ mark-cond (eq_by_cmp int_cmp q e.0) e.1 (find int_cmp q es)

bare-keys : {X : Type 0} (es : List (ℤ × X)) → map (λ e. e.0) (bare es) ≡ map (λ e. e.0) es
bare-keys [] = refl
bare-keys (e ∷ es) = ap (λ l. e.0 ∷ l) (bare-keys es)

-- two lists in order with the same keys have them in the same order
same_keys : {X Y : Type 0} (es : List (ℤ × X)) (fs : List (ℤ × Y)) → T (is_sorted int_cmp es) → T (is_sorted int_cmp fs)
    → ((q : ℤ) → is_some (find int_cmp q es) ≡ is_some (find int_cmp q fs)) → map (λ e. e.0) es ≡ map (λ e. e.0) fs
same_keys es fs s t h =
    let p = subst T (sym (bare-sorted es)) s in
    let r = subst T (sym (bare-sorted fs)) t in
    let same : from_sorted {R = int_cmp} (bare es) ≡ from_sorted {R = int_cmp} (bare fs) = same_map int_cmp_total int_cmp-IsAntisymmetric _ _ (λ q.
    get-from_sorted int_cmp (bare es) q p ∙ bare-find q es ∙ ap mark (h q) ∙ sym (get-from_sorted int_cmp (bare fs) q r ∙ bare-find q fs)) in
    sym (bare-keys es) ∙ ap (map (λ e. e.0)) (sym (entries-from_sorted int_cmp (bare es) p) ∙ ap entries same ∙ entries-from_sorted int_cmp (bare fs) r) ∙ bare-keys fs

abbrev marked : List ℤ → List (ℤ × Unit {0})
marked ts = map (λ t. (t, tt)) ts

true_and : (b c : Bool) → b ≡ true → T c → T (b && c)
true_and true c e h = h
true_and false c e h = cc

both : (b c : Bool) → T b → T c → T (b && c)
both true c h k = k
both false c h k = h

marked-below : (x : ℤ) (ts : List ℤ) → AllByRecursion (λ y. int_cmp x y ≡ Less) ts → T (below_all int_cmp x (marked ts))
marked-below x [] h = tt
marked-below x (t ∷ ts) h = true_and (is_lt (int_cmp x t)) (below_all int_cmp x (marked ts)) (ap is_lt h.0) (marked-below x ts h.1)

marked-sorted : (ts : List ℤ) → IsStrictlySortedBy int_cmp ts → T (is_sorted int_cmp (marked ts))
unfolding IsStrictlySortedBy
marked-sorted [] h = tt
marked-sorted (t ∷ ts) h = both (below_all int_cmp t (marked ts)) (is_sorted int_cmp (marked ts)) (marked-below t ts h.0) (marked-sorted ts h.1)

marked-has : (q : ℤ) (ts : List ℤ) → is_some (find int_cmp q (marked ts)) ≡ list_any (is_at (int_cmp q)) ts
marked-has q [] = refl
marked-has q (t ∷ ts) = has-unit (eq_by_cmp int_cmp q t) (find int_cmp q (marked ts)) ∙ ap (λ b. eq_by_cmp int_cmp q t || b) (marked-has q ts)
  where
    has-unit : (b : Bool) (o : Option (Unit {0})) → is_some (cond b (Some tt) o) ≡ (b || is_some o)
    has-unit true o = refl
    has-unit false o = refl

marked-keys : (ts : List ℤ) → map (λ e. e.0) (marked ts) ≡ ts
marked-keys [] = refl
marked-keys (t ∷ ts) = ap (λ l. t ∷ l) (marked-keys ts)

-- a set with these times has them as the map of these entries has its keys
pub keys-set : (s : BTreeSet ℤ) (es : Entries) → set.IsOrdered int_cmp s → ((q : ℤ) → set.contains int_cmp s q ≡ is_some (find int_cmp q es))
    → s.keys ≡ keys (from_entries {R = int_cmp} es)
keys-set s es ordered h =
    sym (marked-keys s.keys)
    ∙ same_keys (marked s.keys) (entries (from_entries {R = int_cmp} es)) (marked-sorted s.keys ordered) (entries_sorted (from_entries es))
    (λ q. marked-has q s.keys ∙ h q ∙ ap is_some (sym (get-from_entries int_cmp_total es q) ∙ get-entries (from_entries es) q))
