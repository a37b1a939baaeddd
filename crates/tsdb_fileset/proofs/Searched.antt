-- Paths in the order of a tree, and what a binary search among them says.
use Rattle.std.proofs.Common.{◌≡◌, ℕ, ◌+◌, ◌<◌, ◌≤◌, Bool, true, false, List, [], length, get_or, Ok, Err, ⊎_elim, refl, sym, ap}
use Rattle.std.proofs.Common.{subst, ◌∙◌, arith}
use Rattle.std.specs.Prelude.{All, IsTrue}
use Rattle.std.specs.Cmp.{IsTotalOrder}
use Rattle.std.specs.List.{IsAllAdjacentAnswer, list_any}
use Rattle.std.specs.List.Sorted.{IsBinarySearchResult, IsNonDecreasingBy}
use Rattle.std.specs.Ordering.{is_lt, ordering_index, ordering_reverse}
use Rattle.std.specs.declared.cmp.Ordering.{Ordering}
use Rattle.std.specs.declared.cmp.Ordering.TheVariants.{Less, Equal, Greater}
use Rattle.std.proofs.lemmas.Bool.{cases_lt, false≢true}
use Rattle.std.proofs.lemmas.Cmp.{nat_list_cmp_total, on_total, then_total, tied_back, tied_itself}
use Rattle.std.proofs.lemmas.List.{get_or_default}
use Rattle.std.proofs.lemmas.List.Folds.{list_any_at, list_any_none}
use Rattle.std.proofs.lemmas.List.Sorted.{searchable_from_sorted}
use Rattle.tsdb_flush.proofs.Found.{pairs_in_order}
use Rattle.tsdb_flush.proofs.Orders.{in_order}
use Rattle.tsdb_path.specs.Order.{AreInTreeOrder, tree_cmp, tree_names}
use Rattle.tsdb_flush.proofs.LayerLemmas.Places.{is_path_same, path_itself}
use Rattle.tsdb_flush.specs.Places.{is_path}

abbrev Paths : Type 0
Paths = List (List ℕ)

tree_total : IsTotalOrder tree_cmp
tree_total = then_total (on_total (λ (p : List ℕ). (tree_names p).0) nat_list_cmp_total)
    (on_total (λ (p : List ℕ). (tree_names p).1) nat_list_cmp_total)

-- ---- the test of the order

less_tested : (o : Ordering) → is_lt o ≡ true → o ≡ Less
less_tested Less is = refl
less_tested Equal is = absurd (false≢true is)
less_tested Greater is = absurd (false≢true is)

pub order_tested : (paths : Paths) (r : Bool) → IsAllAdjacentAnswer (λ x y b. b ≡ is_lt (tree_cmp x y)) paths r
    → (IsTrue r → AreInTreeOrder paths) × (AreInTreeOrder paths → IsTrue r)
order_tested paths true each =
    (λ _ k d within. less_tested (tree_cmp (get_or paths k d) (get_or paths (k + 1) d)) (sym (each k d within)), λ _. refl)
order_tested paths false one =
    (λ t. absurd (false≢true t), λ order. absurd (false≢true (one.2 [] ∙ ap is_lt (order one.0 [] one.1))))

-- ---- the search

-- each path comes before each later one
rises : (paths : Paths) → AreInTreeOrder paths → (i j : ℕ) (d : List ℕ) → i < j → j < length paths
    → tree_cmp (get_or paths i d) (get_or paths j d) ≡ Less
rises paths order i j d less inside =
    pairs_in_order (λ (a b : List ℕ). tree_cmp a b ≡ Less) (λ a b c. tree_total.trans a b c) paths
    (in_order (λ (a b : List ℕ). tree_cmp a b ≡ Less) paths order) i j d less inside

searchable : (paths : Paths) (path : List ℕ) → AreInTreeOrder paths
    → IsNonDecreasingBy (λ y. ordering_index (tree_cmp y path)) paths
searchable paths path order =
    searchable_from_sorted tree_total (λ (p : List ℕ). p) paths path (λ k d from below.
    ap is_lt (tree_total.antisymm (get_or paths (k + 1) d) (get_or paths k d) ∙ ap ordering_reverse (order k d below)))

-- none of the paths is this one
none_is : (path : List ℕ) (paths : Paths) → All (λ x. path ≡ x → ⊥) paths → list_any (is_path path) paths ≡ false
none_is path paths differ =
    list_any_none (is_path path) paths (λ k d within. by k d within (is_path path (get_or paths k d)) refl)
  where
    by : (k : ℕ) (d : List ℕ) → k < length paths → (b : Bool) → is_path path (get_or paths k d) ≡ b
        → is_path path (get_or paths k d) ≡ false
    by k d within false is = is
    by k d within true is = absurd (differ k d within (is_path_same path (get_or paths k d) is))

less_not_equal : Less ≡ Equal → ⊥
less_not_equal e = absurd cc

greater_not_equal : Greater ≡ Equal → ⊥
greater_not_equal e = absurd cc

-- a path is tied with itself
tied : (path other : List ℕ) → path ≡ other → tree_cmp other path ≡ Equal
tied path other same = subst (λ (p : List ℕ). tree_cmp p path ≡ Equal) same (tied_itself tree_total path)

pub path_absent : (path : List ℕ) (paths : Paths) (at : ℕ) → AreInTreeOrder paths
    → IsBinarySearchResult (λ x. tree_cmp x path) paths (Err at) → false ≡ list_any (is_path path) paths
path_absent path paths at order found =
    let parted = found (searchable paths path order) in
    sym (none_is path paths (λ k d within same. ⊎_elim
    (λ (low : k < at). less_not_equal (sym (parted.0 k d (omega arith) low) ∙ tied path (get_or paths k d) same))
    (λ (high : at ≤ k). greater_not_equal (sym (parted.1 k d high within) ∙ tied path (get_or paths k d) same))
    (cases_lt k at)))

-- the path that was met is tied with this one, so no other of them is this one
lone : (path : List ℕ) (paths : Paths) (at k : ℕ) (d : List ℕ) → at < length paths → k < length paths → AreInTreeOrder paths
    → tree_cmp (get_or paths at d) path ≡ Equal → path ≡ get_or paths k d → k ≡ at
lone path paths at k d inside within order tie same =
    ⊎_elim
    (λ (low : k < at). absurd (less_not_equal (sym (subst (λ (p : List ℕ). tree_cmp p (get_or paths at d) ≡ Less) (sym same) (rises paths order k at d low inside)) ∙ tied_back tree_total (get_or paths at d) path tie)))
    (λ (high : at ≤ k). ⊎_elim
    (λ (more : at < k). absurd (less_not_equal (sym (subst (λ (p : List ℕ). tree_cmp (get_or paths at d) p ≡ Less) (sym same) (rises paths order at k d more within)) ∙ tie)))
    (λ (least : k ≤ at). omega (arith, high, least))
    (cases_lt at k))
    (cases_lt k at)

pub path_met : (path other : List ℕ) (paths : Paths) (at : ℕ) (r : Bool) → at < length paths → other ≡ get_or paths at other
    → AreInTreeOrder paths → IsBinarySearchResult (λ x. tree_cmp x path) paths (Ok at) → r ≡ is_path path other
    → r ≡ list_any (is_path path) paths
path_met path other paths at true inside is order found tested =
    sym (list_any_at (is_path path) paths at other inside (subst (λ (p : List ℕ). is_path path p ≡ true) is (sym tested)))
path_met path other paths at false inside is order found tested =
    sym (none_is path paths (λ k d within same. false≢true (tested ∙ subst (λ (p : List ℕ). is_path path p ≡ true) (here k d within same) (path_itself path))))
  where
    here : (k : ℕ) (d : List ℕ) → k < length paths → path ≡ get_or paths k d → path ≡ other
    here k d within same =
        same ∙ ap (λ (n : ℕ). get_or paths n d) (lone path paths at k d inside within order (found d) same)
        ∙ get_or_default paths at d other inside ∙ sym is
