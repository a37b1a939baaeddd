-- What a read ahead leaves of a tree.
use Rattle.std.proofs.Common.{Box, ◌≡◌, ℕ, ◌+◌, ◌<◌, ◌≤◌, List, [], ◌∷◌, ◌++◌, length, get_or, take, drop, map, ◌-◌, inr, ⊎_elim, refl, sym, ap, ◌∙◌, subst, arith, rules}
use Rattle.std.specs.Prelude.{◌≢◌, ◌<ℤ◌, Option, Some, None, All}
use Rattle.std.specs.declared.alloc.Global.{Global}
use Rattle.std.specs.Option.{option_to_list}
use Rattle.std.proofs.lemmas.List.{get_or-drop, get_or-take, get_or-map, length-drop, length-take-le, take-append-drop}
use Rattle.std.proofs.lemmas.List.Elements.{All-drop, All-head, All-nil, All-take}
use Rattle.tsdb_base.specs.declared.point.Point.{Point}
use Rattle.tsdb_base.specs.Points.{IsRising}
use Rattle.tsdb_merge.specs.Winners.{HasNoneAt, IsMergeOf, IsToldMergeOf, IsWinner, TakesTold}
use Rattle.tsdb_merge.proofs.MergeLemmas.{All-from_contains, AllPairs-nil, merge_of_both}
use Rattle.tsdb_merge.specs.Steps.{IsUnreadNode, IsHeadOf, IsNextOf, IsPulled, IsRootNode, IsAhead, left_behind, root_left, IsMergeTree, IsWithinBound, KeepsOutside, behind, count_of, first_source, head_held, merge_told, merge_two, node_left, told_with, with_head}
use Rattle.tsdb_merge.specs.Supplies.{left_at}
use Rattle.tsdb_merge.specs.declared.head.Head.{Head}
use Rattle.tsdb_merge.specs.declared.head.Head.TheVariants.{Unread}
use Rattle.tsdb_merge.specs.declared.tree.Node.{Node, Leaf, Pair'}

abbrev Lists : Type 0
Lists = List (Option (List Point))

none_some : {A : Type 0} (a : A) → None ≡ Some a → ⊥
none_some a e = search rules

some_is : {A : Type 0} (a b : A) → Some a ≡ Some b → a ≡ b
some_is a b e = cc

pub told_unread : (points : Option (List Point)) → told_with Unread points ≡ points
told_unread None = refl
told_unread (Some points) = refl

outside_same : (first count : ℕ) (lists : Lists) → KeepsOutside first count lists lists
outside_same first count lists = record { sources = refl; below = λ s l. refl; above = λ s l. refl }

-- ---- where a head is there already

pub ahead_already : (head : Head) (node : Node) (lists : Lists) (most : ℕ) → head ≢ Unread → IsMergeTree node → IsWithinBound head node → IsAhead head node lists most head node lists most
ahead_already head node lists most ready tree within = record {
  left = λ points h. h;
  ready = ready;
  tree = tree;
  within = within;
  first = refl;
  count = refl;
  fewer = omega arith;
  outside = outside_same (first_source node) (count_of node) lists;
}

-- ---- two trees

some_source : (node : Node) → 1 ≤ count_of node
some_source (Leaf source buffer) = omega arith
some_source (Pair' p low q high low_head high_head) = let l = some_source low in omega (arith, l)

-- what a tree has left depends on its own sources alone
pub same_left : (node : Node) (at other : ℕ → Option (List Point)) → IsMergeTree node
    → ((source : ℕ) → first_source node ≤ source → source < first_source node + count_of node → at source ≡ other source) → node_left node at ≡ node_left node other
same_left (Leaf source buffer) at other tree same = ap (behind buffer.items) (same source (omega arith) (omega arith))
same_left (Pair' p low q high low_head high_head) at other tree same =
    let side = tree.2 in
    let l = same_left low at other tree.0 (λ s a b. same s a (omega (arith, b))) in
    let h = same_left high at other tree.1 (λ s a b. same s (omega (arith, a, side)) (omega (arith, b, side))) in
    ap (λ x. merge_told (told_with low_head x) (told_with high_head (node_left high at))) l
    ∙ ap (λ x. merge_told (told_with low_head (node_left low other)) (told_with high_head x)) h

-- both lists of a merge are told where the merge is
pub record AreBoth (a b : Option (List Point)) (points : List Point) : Type 0 where
  pub xs : List Point
  pub ys : List Point
  pub low : a ≡ Some xs
  pub high : b ≡ Some ys
  pub points_are : merge_two xs ys ≡ points

both_told : (a b : Option (List Point)) (points : List Point) → merge_told a b ≡ Some points → AreBoth a b points
both_told None b points h = absurd (none_some points h)
both_told (Some xs) None points h = absurd (none_some points h)
both_told (Some xs) (Some ys) points h = record { xs = xs; ys = ys; low = refl; high = refl; points_are = some_is (merge_two xs ys) points h }

pub record IsBehind (head : Head) (list : Option (List Point)) (points : List Point) : Type 0 where
  pub rest : List Point
  pub told : list ≡ Some rest
  pub points_are : points ≡ with_head head rest

is_behind : (head : Head) (list : Option (List Point)) (points : List Point) → told_with head list ≡ Some points → IsBehind head list points
is_behind head None points h = absurd (none_some points h)
is_behind head (Some rest) points h = record { rest = rest; told = refl; points_are = sym (some_is (with_head head rest) points h) }

module _ (low high low_one high_two : Node) (low_head high_head low_head_one high_head_two low_head_now high_head_now before head : Head) (lists lists_one lists_two : Lists) (most most_one most_two : ℕ)
    (unread : before ≡ Unread) (tree_low : IsMergeTree low) (tree_high : IsMergeTree high) (side : first_source high ≡ first_source low + count_of low)
    (a : IsAhead low_head low lists most low_head_one low_one lists_one most_one) (b : IsAhead high_head high lists_one most_one high_head_two high_two lists_two most_two)
    (next : IsNextOf low_head_one high_head_two low_head_now high_head_now head) where
  high_kept : node_left high (left_at lists) ≡ node_left high (left_at lists_one)
  high_kept = same_left high (left_at lists) (left_at lists_one) tree_high (λ s m n. sym (a.outside.above s (omega (arith, m, side))))

  low_kept : node_left low_one (left_at lists_one) ≡ node_left low_one (left_at lists_two)
  low_kept = same_left low_one (left_at lists_one) (left_at lists_two) a.tree (λ s m n. let f = a.first in let k = a.count in sym (b.outside.below s (omega (arith, n, side, f, k))))

  left_now : (points : List Point) → merge_told (told_with low_head (node_left low (left_at lists))) (told_with high_head (node_left high (left_at lists))) ≡ Some points
      → told_with head (merge_told (told_with low_head_now (node_left low_one (left_at lists_two))) (told_with high_head_now (node_left high_two (left_at lists_two)))) ≡ Some points
  left_now points h =
      let both = both_told (told_with low_head (node_left low (left_at lists))) (told_with high_head (node_left high (left_at lists))) points h in
      let lower = a.left both.xs both.low in
      let higher = b.left both.ys (subst (λ x. told_with high_head x ≡ Some both.ys) high_kept both.high) in
      let p = is_behind low_head_one (node_left low_one (left_at lists_one)) both.xs lower in
      let q = is_behind high_head_two (node_left high_two (left_at lists_two)) both.ys higher in
      let p_now : node_left low_one (left_at lists_two) ≡ Some p.rest = sym low_kept ∙ p.told in
      let whole : with_head head (merge_two (with_head low_head_now p.rest) (with_head high_head_now q.rest)) ≡ points =
      sym (next.points p.rest q.rest) ∙ ap (λ xs. merge_two xs (with_head high_head_two q.rest)) (sym p.points_are) ∙ ap (λ ys. merge_two both.xs ys) (sym q.points_are) ∙ both.points_are in
      ap (λ x. told_with head (merge_told (told_with low_head_now x) (told_with high_head_now (node_left high_two (left_at lists_two))))) p_now
      ∙ ap (λ x. told_with head (merge_told (told_with low_head_now (Some p.rest)) (told_with high_head_now x))) q.told
      ∙ ap (λ xs. Some xs) whole

  pub ahead_pair : (p q p_now q_now : Box (Unit {0}) Global) → IsAhead before (Pair' p low q high low_head high_head) lists most head (Pair' p_now low_one q_now high_two low_head_now high_head_now) lists_two most_two
  ahead_pair p q p_now q_now =
      let n = next.held in
      let f = a.first in
      let k = a.count in
      let g = b.first in
      let j = b.count in
      let v = a.within in
      let w = b.within in
      let l = next.held_low in
      let m = next.held_high in
      record {
        left = λ points h. left_now points (sym (told_unread _) ∙ subst (λ u. told_with u (merge_told (told_with low_head (node_left low (left_at lists))) (told_with high_head (node_left high (left_at lists)))) ≡ Some points) unread h);
        ready = next.ready;
        tree = (a.tree, b.tree, omega (arith, side, f, k, g), omega (arith, l, v), omega (arith, m, w));
        within = omega (arith, n, v, w);
        first = f;
        count = omega (arith, k, j);
        fewer = let r = a.fewer in let s = b.fewer in let z : head_held before ≡ 0 = ap head_held unread in omega (arith, n, r, s, z);
        outside = record {
          sources = b.outside.sources ∙ a.outside.sources;
          below = λ s l. b.outside.below s (omega (arith, l, side)) ∙ a.outside.below s l;
          above = λ s l. b.outside.above s (omega (arith, l, side)) ∙ a.outside.above s (omega (arith, l));
        };
      }

pub ahead_of_pair : (node low high low_one high_two : Node) (low_head high_head low_head_one high_head_two low_head_now high_head_now before head : Head) (lists lists_one lists_two : Lists) (most most_one most_two : ℕ) (p q p_now q_now : Box (Unit {0}) Global)
    → node ≡ Pair' p low q high low_head high_head → before ≡ Unread → IsMergeTree node → IsAhead low_head low lists most low_head_one low_one lists_one most_one → IsAhead high_head high lists_one most_one high_head_two high_two lists_two most_two
    → IsNextOf low_head_one high_head_two low_head_now high_head_now head → IsAhead before node lists most head (Pair' p_now low_one q_now high_two low_head_now high_head_now) lists_two most_two
ahead_of_pair node low high low_one high_two low_head high_head low_head_one high_head_two low_head_now high_head_now before head lists lists_one lists_two most most_one most_two p q p_now q_now is unread tree a b next =
    let parts : IsMergeTree (Pair' p low q high low_head high_head) = subst IsMergeTree is tree in
    subst (λ n. IsAhead before n lists most head (Pair' p_now low_one q_now high_two low_head_now high_head_now) lists_two most_two) (sym is)
    (ahead_pair low high low_one high_two low_head high_head low_head_one high_head_two low_head_now high_head_now before head lists lists_one lists_two most most_one most_two unread parts.0 parts.1 parts.2 a b next p q p_now q_now)

-- ---- a whole tree

takes_of_head : (point : Option Point) (head : Head) (rest points : List Point) → IsHeadOf point head → points ≡ with_head head rest → TakesTold (Some points) point (left_behind point (Some rest))
takes_of_head None head rest points is e = (e ∙ ap (λ h. with_head h rest) is, refl)
takes_of_head (Some point) head rest points is e = e ∙ ap (λ h. with_head h rest) is

takes_told : (before after : Option (List Point)) (point : Option Point) (head : Head) → IsHeadOf point head → ((points : List Point) → before ≡ Some points → told_with head after ≡ Some points) → TakesTold before point (left_behind point after)
takes_told None after point head is left = tt
takes_told (Some points) None point head is left = absurd (none_some points (left points refl))
takes_told (Some points) (Some rest) point head is left = takes_of_head point head rest points is (sym (some_is (with_head head rest) points (left points refl)))

head_point : (point : Option Point) (head : Head) → IsHeadOf point head → length (option_to_list point) ≡ head_held head
head_point None head is = sym (ap head_held is)
head_point (Some point) head is = sym (ap head_held is)

pub pulled : (node node_now : Node) (lists lists_now : Lists) (most most_now : ℕ) (before head : Head) (point : Option Point) → before ≡ Unread → IsAhead before node lists most head node_now lists_now most_now → (head ≢ Unread → IsHeadOf point head)
    → IsPulled node lists most point node_now lists_now most_now
pulled node node_now lists lists_now most most_now before head point unread a is_head =
    let is = is_head a.ready in
    let n = head_point point head is in
    let z : head_held before ≡ 0 = ap head_held unread in
    let f = a.fewer in
    let w = a.within in
    record {
      takes = takes_told (node_left node (left_at lists)) (node_left node_now (left_at lists_now)) point head is
          (λ points h. a.left points (ap (λ x. told_with x (node_left node (left_at lists))) unread ∙ told_unread (node_left node (left_at lists)) ∙ h));
      tree = a.tree;
      within = omega (arith, w);
      first = a.first;
      count = a.count;
      fewer = omega (arith, f, n, z);
    }

-- ---- a tree of which nothing was read yet

merge_of_none : IsMergeOf [] []
merge_of_none = record { rising = AllPairs-nil (λ a b. a.time <ℤ b.time); winners = All-nil (IsWinner []); complete = λ point w. absurd w }

merge_of_one : (points : List Point) → IsRising points → IsMergeOf (points ∷ []) points
merge_of_one points rising = record {
  rising = rising;
  winners = All-from_contains (IsWinner (points ∷ [])) points (λ point h. inr (h, All-nil (HasNoneAt point.time)));
  complete = λ point w. ⊎_elim (λ a. absurd a) (λ b. b.0) w;
}

told_of_both : (low high : List (List Point)) (a b : Option (List Point)) → IsToldMergeOf low a → IsToldMergeOf high b → IsToldMergeOf (low ++ high) (merge_told (told_with Unread a) (told_with Unread b))
told_of_both low high None b x y = absurd x
told_of_both low high (Some xs) None x y = absurd y
told_of_both low high (Some xs) (Some ys) x y = merge_of_both low high xs ys x y

one_list : (lists : List (List Point)) (left : Option (List Point)) → length lists ≡ 1 → All IsRising lists → left ≡ Some (get_or lists 0 []) → IsToldMergeOf lists left
one_list [] left long rising e = absurd (omega (arith, long))
one_list (points ∷ []) left long rising e = subst (IsToldMergeOf (points ∷ [])) (sym e) (merge_of_one points (All-head IsRising points [] rising))
one_list (points ∷ other ∷ more) left long rising e = absurd (omega (arith, long))

behind_nothing : (buffer : List Point) (left : Option (List Point)) → buffer ≡ [] → behind buffer left ≡ left
behind_nothing buffer None e = refl
behind_nothing buffer (Some points) e = ap (λ b. behind b (Some points)) e

fresh_heads : (low_head high_head : Head) (a b : Option (List Point)) (lists : List (List Point)) → low_head ≡ Unread → high_head ≡ Unread → IsToldMergeOf lists (merge_told (told_with Unread a) (told_with Unread b)) → IsToldMergeOf lists (merge_told (told_with low_head a) (told_with high_head b))
fresh_heads low_head high_head a b lists el eh h = rw (el, eh) h

pub fresh_merges : (node : Node) (at : ℕ → Option (List Point)) (lists : List (List Point)) → IsMergeTree node → IsUnreadNode node → length lists ≡ count_of node → All IsRising lists
    → ((k : ℕ) → k < count_of node → at (first_source node + k) ≡ Some (get_or lists k [])) → IsToldMergeOf lists (node_left node at)
fresh_merges (Leaf source buffer) at lists tree fresh long rising told =
    one_list lists (behind buffer.items (at source)) long rising (behind_nothing buffer.items (at source) fresh ∙ ap at (let e : source ≡ source + 0 = omega arith in e) ∙ told 0 (omega arith))
fresh_merges (Pair' p low q high low_head high_head) at lists tree fresh long rising told =
    let m = count_of low in
    let some = some_source high in
    let side = tree.2 in
    let below : m ≤ length lists = omega (arith, long) in
    let low_long : length (take m lists) ≡ m = length-take-le m lists below in
    let high_long : length (drop m lists) ≡ length lists - m = length-drop m lists in
    let a = fresh_merges low at (take m lists) tree.0 fresh.0 low_long (All-take IsRising m lists rising)
    (λ k l. told k (omega (arith, l)) ∙ ap (λ x. Some x) (sym (get_or-take m lists k [] l))) in
    let b = fresh_merges high at (drop m lists) tree.1 fresh.1 (omega (arith, high_long, long)) (All-drop IsRising m lists rising)
    (λ k l. let place : first_source high + k ≡ first_source low + (m + k) = omega (arith, side) in ap at place ∙ told (m + k) (omega (arith, l)) ∙ ap (λ x. Some x) (sym (get_or-drop m lists k []))) in
    fresh_heads low_head high_head (node_left low at) (node_left high at) lists fresh.2 fresh.3
    (subst (λ ls. IsToldMergeOf ls (merge_told (told_with Unread (node_left low at)) (told_with Unread (node_left high at)))) (take-append-drop m lists) (told_of_both (take m lists) (drop m lists) (node_left low at) (node_left high at) a b))

told_at : (lists : List (List Point)) (k : ℕ) → k < length lists → left_at (map Some lists) k ≡ Some (get_or lists k [])
told_at lists k l = get_or-map Some lists k [] None l

pub new_merges : (node : Node) (lists : List (List Point)) (sources : ℕ) → IsMergeTree node → IsUnreadNode node → first_source node ≡ 0 → count_of node ≡ sources → length lists ≡ sources → All IsRising lists → IsToldMergeOf lists (root_left (Some node) (map Some lists))
new_merges node lists sources tree fresh first count long rising =
    fresh_merges node (left_at (map Some lists)) lists tree fresh (long ∙ sym count) rising
    (λ k l. let place : first_source node + k ≡ k = omega (arith, first) in ap (left_at (map Some lists)) place ∙ told_at lists k (omega (arith, l, count, long)))

pub none_merges : (lists : List (List Point)) (sources : ℕ) → sources ≡ 0 → length lists ≡ sources → IsToldMergeOf lists (root_left None (map Some lists))
none_merges [] sources none long = merge_of_none
none_merges (points ∷ more) sources none long = absurd (omega (arith, none, long))

-- ---- the state of a lazy merge

pub root_kept : (sources : ℕ) (node node_now : Node) (lists lists_now : Lists) (most most_now : ℕ) (point : Option Point) → IsRootNode sources (Some node) → IsPulled node lists most point node_now lists_now most_now → IsRootNode sources (Some node_now)
root_kept sources node node_now lists lists_now most most_now point root p =
    let f = p.first in
    let k = p.count in
    let w = p.within in
    let first = root.1 in
    let count = root.2 in
    (p.tree, f ∙ first, k ∙ count, omega (arith, k, count, w))
