-- Finding the entry of one series: by names in order, and one leaf among all.
use Rattle.std.proofs.Common.{◌≡◌, ◌⊎◌, ℕ, zero, suc, ◌+◌, ◌-◌, ◌<◌, ◌≤◌, List, [], ◌∷◌, ◌++◌, length, get_or, map, take, drop, ⊎_elim, Ok, Err, Option, None, Some, refl, sym, ap, subst, ◌∙◌, length-drop, arith}
use Rattle.std.specs.Prelude.{All, MatchOption, SomeIff}
use Rattle.std.specs.List.Sorted.{IsBinarySearchResult, IsNonDecreasingBy}
use Rattle.std.specs.declared.cmp.Ordering.{Ordering}
use Rattle.std.specs.declared.cmp.Ordering.TheVariants.{Less, Equal, Greater}
use Rattle.std.specs.Ordering.{ordering_index}
use Rattle.std.proofs.lemmas.Bool.{cases_lt}
use Rattle.std.proofs.lemmas.List.{get_or-drop, take-append-drop}
use Rattle.std.proofs.lemmas.List.Elements.{All-from_recursion}
use Rattle.tsdb_index.specs.declared.index.IndexEntry.{IndexEntry}
use Rattle.tsdb_index.specs.declared.pointer.Pointer.{Pointer}
use Rattle.tsdb_index.specs.Entries.{AreInOrder, names_of}
use Rattle.tsdb_fields.specs.Order.{AreNamesBefore, names_cmp}
use Rattle.tsdb_index.specs.Finding.{AreBehind, IsEntryFor, IsLeafFor}
use Rattle.tsdb_index.specs.Parts.{IsPointerBefore, next_names, pointer_names}
use Rattle.tsdb_index.specs.Steps.{IsLastFor}
use Rattle.tsdb_index.proofs.Orders.{order_of_map, order_tail}
use Rattle.tsdb_fields.proofs.Order.{Names, before_trans, behind_before, cmp_before, cmp_same, not_itself}

abbrev Leaf : Type 0
Leaf = List IndexEntry

-- ---- a binary search by names

-- of items in order each comes before each later one
pub pairs_in_order : {A : Type 0} (R : A → A → Type 0) (trans : (a b c : A) → R a b → R b c → R a c) (xs : List A) → AreInOrder R xs → (i j : ℕ) (d : A) → i < j → j < length xs → R (get_or xs i d) (get_or xs j d)
pairs_in_order R trans [] order i j d less inside = absurd (omega (arith, inside))
pairs_in_order R trans (x ∷ xs) order i zero d less inside = absurd (omega (arith, less))
pairs_in_order R trans (x ∷ []) order zero (suc j) d less inside = absurd (omega (arith, inside))
pairs_in_order R trans (x ∷ y ∷ ys) order zero (suc zero) d less inside = order.0
pairs_in_order R trans (x ∷ y ∷ ys) order zero (suc (suc j)) d less inside =
    trans x y (get_or (y ∷ ys) (suc j) d) order.0 (pairs_in_order R trans (y ∷ ys) order.1 zero (suc j) d (omega arith) (omega (arith, inside)))
pairs_in_order R trans (x ∷ xs) order (suc i) (suc j) d less inside = pairs_in_order R trans xs (order_tail R x xs order) i j d (omega (arith, less)) (omega (arith, inside))

module _ {A : Type 0} (view : A → Names) where
  abbrev InOrder : List A → Type 0
  InOrder xs = AreInOrder (λ a b. AreNamesBefore (view a) (view b)) xs

  -- the comparisons with names rise along items in order, as a binary search asks
  comparisons_rise : (names : Names) (xs : List A) → InOrder xs → IsNonDecreasingBy (λ x. ordering_index (names_cmp (view x) names)) xs
  comparisons_rise names xs order = λ i j d le inside.
      ⊎_elim
      (λ (less : i < j). ranked_pair (view (get_or xs i d)) (view (get_or xs j d)) (pairs_in_order (λ a b. AreNamesBefore (view a) (view b)) (λ a b c. before_trans (view a) (view b) (view c)) xs order i j d less inside) (names_cmp (view (get_or xs i d)) names) (names_cmp (view (get_or xs j d)) names) refl refl)
      (λ (more : j ≤ i). let same : i ≡ j = omega arith in subst (λ (k : ℕ). ordering_index (names_cmp (view (get_or xs i d)) names) ≤ ordering_index (names_cmp (view (get_or xs k d)) names)) same (omega arith))
      (cases_lt i j)
    where
      ranked_pair : (a b : Names) → AreNamesBefore a b → (o p : Ordering) → names_cmp a names ≡ o → names_cmp b names ≡ p → ordering_index o ≤ ordering_index p
      ranked_pair a b less Less p is_a is_b = omega arith
      ranked_pair a b less o Greater is_a is_b = high o
        where
          high : (q : Ordering) → ordering_index q ≤ 2
          high Less = omega arith
          high Equal = omega arith
          high Greater = omega arith
      ranked_pair a b less Equal Equal is_a is_b = omega arith
      ranked_pair a b less Equal Less is_a is_b =
          let same = cmp_same a names is_a in
          let turned : AreNamesBefore names b = subst (λ (n : Names). AreNamesBefore n b) same less in
          absurd (not_itself b (before_trans b names b (cmp_before b names is_b) turned))
      ranked_pair a b less Greater Equal is_a is_b =
          let same = cmp_same b names is_b in
          let turned : AreNamesBefore a names = subst (λ (n : Names). AreNamesBefore a n) same less in
          absurd (not_itself a (before_trans a names a turned (behind_before a names is_a)))
      ranked_pair a b less Greater Less is_a is_b =
          absurd (not_itself a (before_trans a names a (before_trans a b names less (cmp_before b names is_b)) (behind_before a names is_a)))

  -- what is found by names: an item that has them, or none has, and those from the place on come behind
  pub record IsGap (names : Names) (xs : List A) (at : ℕ) : Type 0 where
    pub before : (k : ℕ) (d : A) → k < at → k < length xs → AreNamesBefore (view (get_or xs k d)) names
    pub behind : (k : ℕ) (d : A) → at ≤ k → k < length xs → AreNamesBefore names (view (get_or xs k d))

  pub gap_found : (names : Names) (xs : List A) (at : ℕ) → InOrder xs → IsBinarySearchResult (λ x. names_cmp (view x) names) xs (Err at) → IsGap names xs at
  gap_found names xs at order found =
      let parted = found (comparisons_rise names xs order) in
      record {
        before = λ k d low inside. cmp_before (view (get_or xs k d)) names (parted.0 k d (omega arith) low);
        behind = λ k d high inside. behind_before (view (get_or xs k d)) names (parted.1 k d high inside);
      }

  pub item_found : (names : Names) (xs : List A) (at : ℕ) (d : A) → IsBinarySearchResult (λ x. names_cmp (view x) names) xs (Ok at) → view (get_or xs at d) ≡ names
  item_found names xs at d found = cmp_same (view (get_or xs at d)) names (found d)

-- ---- an entry among entries

pub entry_there : (d m : List ℕ) (entries slice : List IndexEntry) (at : ℕ) (found : IndexEntry) → slice ≡ entries → at < length slice → IsBinarySearchResult (λ x. names_cmp (names_of x) (d, m)) slice (Ok at) → found ≡ get_or entries at found → IsEntryFor (d, m) entries (Some found)
entry_there d m entries slice at found same inside search_is is =
    ((at, subst (λ (l : List IndexEntry). at < length l) same inside, sym is), ap names_of is ∙ ap (λ (l : List IndexEntry). names_of (get_or l at found)) (sym same) ∙ item_found names_of (d, m) slice at found search_is)

pub entry_absent : (d m : List ℕ) (entries slice : List IndexEntry) (at : ℕ) → slice ≡ entries → AreInOrder AreNamesBefore (map names_of entries) → IsBinarySearchResult (λ x. names_cmp (names_of x) (d, m)) slice (Err at) → IsEntryFor (d, m) entries None
entry_absent d m entries slice at is order search_is = λ entry there same.
    let names : Names = (d, m) in
    let found : IsBinarySearchResult (λ x. names_cmp (names_of x) (d, m)) entries (Err at) = subst (λ (l : List IndexEntry). IsBinarySearchResult (λ x. names_cmp (names_of x) (d, m)) l (Err at)) is search_is in
    let gap = gap_found names_of (d, m) entries at (order_of_map AreNamesBefore names_of entries order) found in
    let here : names_of (get_or entries there.0 entry) ≡ names = ap names_of there.2 ∙ same in
    ⊎_elim
    (λ (low : there.0 < at). not_itself names (subst (λ (n : Names). AreNamesBefore n names) here (gap.before there.0 entry low there.1)))
    (λ (high : at ≤ there.0). not_itself names (subst (λ (n : Names). AreNamesBefore names n) here (gap.behind there.0 entry high there.1)))
    (cases_lt there.0 at)

-- ---- the pointer at a leaf

pointers_in_order : (ps : List Pointer) → AreInOrder IsPointerBefore ps → AreInOrder (λ a b. AreNamesBefore (pointer_names a) (pointer_names b)) ps
pointers_in_order [] order = tt
pointers_in_order (p ∷ []) order = tt
pointers_in_order (p ∷ q ∷ qs) order = (order.0.0, pointers_in_order (q ∷ qs) order.1)

pub last_there : (d m : List ℕ) (ps : List Pointer) (at : ℕ) → at < length ps → AreInOrder IsPointerBefore ps → IsBinarySearchResult (λ p. names_cmp (pointer_names p) (d, m)) ps (Ok at) → IsLastFor (d, m) ps at
last_there d m ps at inside order search_is = record {
  inside = inside;
  until = λ p less. not_itself (d, m) (subst (λ (n : Names). AreNamesBefore (d, m) n) (item_found pointer_names (d, m) ps at p search_is) less);
  later = λ k p more within.
      subst (λ (n : Names). AreNamesBefore n (pointer_names (get_or ps k p))) (item_found pointer_names (d, m) ps at p search_is)
      (pairs_in_order (λ a b. AreNamesBefore (pointer_names a) (pointer_names b)) (λ a b c. before_trans (pointer_names a) (pointer_names b) (pointer_names c)) ps (pointers_in_order ps order) at k p more within);
}

pub last_before : (d m : List ℕ) (ps : List Pointer) (at : ℕ) (o : Option ℕ) → at ≤ length ps → AreInOrder IsPointerBefore ps → IsBinarySearchResult (λ p. names_cmp (pointer_names p) (d, m)) ps (Err at) → SomeIff o (1 ≤ at) (at - 1)
    → MatchOption o (AreBehind (d, m) ps) (IsLastFor (d, m) ps)
last_before d m ps at None inside order search_is none =
    let gap = gap_found pointer_names (d, m) ps at (pointers_in_order ps order) search_is in
    λ k p within. gap.behind k p (⊎_elim (λ (low : at < 1). omega (arith, low)) (λ (some : 1 ≤ at). absurd (none some)) (cases_lt at 1)) within
last_before d m ps at (Some last) inside order search_is some =
    let gap = gap_found pointer_names (d, m) ps at (pointers_in_order ps order) search_is in
    let low = some.0 in
    subst (λ (n : ℕ). IsLastFor (d, m) ps n) (sym some.1) (record {
      inside = omega (arith, low, inside);
      until = λ p less. not_itself (d, m) (before_trans (d, m) (pointer_names (get_or ps (at - 1) p)) (d, m) less (gap.before (at - 1) p (omega (arith, low)) (omega (arith, low, inside))));
      later = λ k p more within. gap.behind k p (omega (arith, more)) within;
    })

-- the pointer at the place, and those behind it
pub leaf_at : (names : Names) (ps from behind : List Pointer) (pointer : Pointer) (at : ℕ) → IsLastFor names ps at → from ≡ drop at ps → from ≡ pointer ∷ behind → IsLeafFor names ps pointer behind
leaf_at names ps from behind pointer at last from_is is =
    let apart : ps ≡ take at ps ++ pointer ∷ behind = sym (take-append-drop at ps) ∙ ap (λ (l : List Pointer). take at ps ++ l) (sym from_is ∙ is) in
    record {
      before = take at ps;
      split = apart;
      from = λ less. last.until pointer (subst (λ (p : Pointer). AreNamesBefore names (pointer_names p)) (sym (here pointer)) less);
      to = next behind (sym from_is ∙ is);
    }
  where
    here : (d : Pointer) → get_or ps at d ≡ pointer
    here d =
        let place : at ≡ at + 0 = omega arith in
        ap (λ (n : ℕ). get_or ps n d) place ∙ sym (get_or-drop at ps 0 d) ∙ ap (λ (l : List Pointer). get_or l 0 d) (sym from_is ∙ is)

    next : (qs : List Pointer) → drop at ps ≡ pointer ∷ qs → All (AreNamesBefore names) (next_names qs)
    next [] e = All-from_recursion (AreNamesBefore names) [] tt
    next (q ∷ qs) e =
        let size : length ps ≡ at + (2 + length qs) = let n = length-drop at ps in let m = ap length e in omega (arith, n, m) in
        let is_q : get_or ps (at + 1) q ≡ q = sym (get_or-drop at ps 1 q) ∙ ap (λ (l : List Pointer). get_or l 1 q) e in
        All-from_recursion (AreNamesBefore names) (pointer_names q ∷ []) (subst (λ (p : Pointer). AreNamesBefore names (pointer_names p)) is_q (last.later (at + 1) q (omega arith) (omega (arith, size))), tt)
