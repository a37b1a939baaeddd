-- Private steps: the merge of two lists, and what a tree of such merges has left.
use Rattle.std.specs.Prelude.{◌≡◌, ◌≢◌, ℕ, Bool, true, false, ◌+◌, ◌*◌, ◌<◌}
use Rattle.std.specs.Prelude.{◌≤◌, if◌then◌else◌, int_lt, List, [], ◌∷◌, ◌++◌, Option, Some, None}
use Rattle.std.specs.Prelude.{length, option_map, reverse, vec_len}
use Rattle.std.specs.Option.{option_to_list}
use Rattle.tsdb_base.specs.declared.point.Point.{Point}
use Rattle.tsdb_merge.specs.Supplies.{KeepsOthers, left_at}
use Rattle.tsdb_merge.specs.Winners.{TakesTold}
use Rattle.tsdb_merge.specs.declared.head.Head.{Head}
use Rattle.tsdb_merge.specs.declared.head.Head.TheVariants.{Unread, End, Next}
use Rattle.tsdb_merge.specs.declared.tree.Node.{Node, Leaf, Pair'}

-- a point with the rest of its list before another list, where the merge of that rest is known
abbrev pub merge_from : Point → List Point → (List Point → List Point) → List Point → List Point
merge_from x xs merge_rest [] = x ∷ xs
merge_from x xs merge_rest (y ∷ ys) =
    if int_lt x.time y.time then x ∷ merge_rest (y ∷ ys)
    else (if int_lt y.time x.time then y ∷ merge_from x xs merge_rest ys else y ∷ merge_rest ys)

-- two lists in order of time; where both have a time the second's point is taken
abbrev pub merge_two : List Point → List Point → List Point
merge_two [] ys = ys
merge_two (x ∷ xs) ys = merge_from x xs (merge_two xs) ys

-- their merge, where both are told
abbrev pub merge_told : Option (List Point) → Option (List Point) → Option (List Point)
merge_told None ys = None
merge_told (Some xs) None = None
merge_told (Some xs) (Some ys) = Some (merge_two xs ys)

-- what was read ahead of a list, and then the list
abbrev pub with_head : Head → List Point → List Point
with_head Unread points = points
with_head End points = []
with_head (Next point) points = point ∷ points

-- the same of a list that may be told
abbrev pub told_with : Head → Option (List Point) → Option (List Point)
told_with head points = option_map (with_head head) points

-- a buffer, whose last point is the next one, and then the rest of its source
abbrev pub behind : List Point → Option (List Point) → Option (List Point)
behind buffer points = option_map (λ rest. reverse buffer ++ rest) points

-- the points that a tree has left, where they are told
abbrev pub node_left : Node → (ℕ → Option (List Point)) → Option (List Point)
node_left (Leaf source buffer) at = behind buffer.items (at source)
node_left (Pair' p low q high low_head high_head) at =
    merge_told (told_with low_head (node_left low at)) (told_with high_head (node_left high at))

-- how many points a head has
abbrev pub head_held : Head → ℕ
head_held Unread = 0
head_held End = 0
head_held (Next point) = 1

-- how many points a tree has buffered
abbrev pub node_held : Node → ℕ
node_held (Leaf source buffer) = vec_len buffer
node_held (Pair' p low q high low_head high_head) =
    (head_held low_head + node_held low) + (head_held high_head + node_held high)

-- how many sources a tree has, and the first of them
abbrev pub count_of : Node → ℕ
count_of (Leaf source buffer) = 1
count_of (Pair' p low q high low_head high_head) = count_of low + count_of high

abbrev pub first_source : Node → ℕ
first_source (Leaf source buffer) = source
first_source (Pair' p low q high low_head high_head) = first_source low

-- a tree, with what was read ahead of it, has at most 1,000 points for each source
abbrev pub IsWithinBound : Head → Node → Type 0
IsWithinBound head node = head_held head + node_held node ≤ 1000 * count_of node

-- the sources of a tree stand side by side, and each part of it is within its bound
abbrev pub IsMergeTree : Node → Type 0
IsMergeTree (Leaf source buffer) = Unit {0}
IsMergeTree (Pair' p low q high low_head high_head) = IsMergeTree low × IsMergeTree high
    × (first_source high ≡ first_source low + count_of low) × IsWithinBound low_head low × IsWithinBound high_head high

-- nothing was read yet
abbrev pub IsUnreadNode : Node → Type 0
IsUnreadNode (Leaf source buffer) = buffer.items ≡ []
IsUnreadNode (Pair' p low q high low_head high_head) =
    IsUnreadNode low × IsUnreadNode high × (low_head ≡ Unread) × (high_head ≡ Unread)

-- sources outside of a part of the list have left what they had
pub record KeepsOutside (first count : ℕ) (before after : List (Option (List Point))) : Type 0 where
  pub sources : length after ≡ length before
  pub below : (source : ℕ) → source < first → left_at after source ≡ left_at before source
  pub above : (source : ℕ) → first + count ≤ source → left_at after source ≡ left_at before source

-- the tree was read ahead into the head: nothing is lost, and the tree has the sources that it had
pub record IsAhead (head : Head) (node : Node) (lists : List (Option (List Point))) (most : ℕ)
    (head_now : Head) (node_now : Node) (lists_now : List (Option (List Point))) (most_now : ℕ) : Type 0 where
  pub left : (points : List Point) → told_with head (node_left node (left_at lists)) ≡ Some points
      → told_with head_now (node_left node_now (left_at lists_now)) ≡ Some points
  pub ready : head_now ≢ Unread
  pub tree : IsMergeTree node_now
  pub within : IsWithinBound head_now node_now
  pub first : first_source node_now ≡ first_source node
  pub count : count_of node_now ≡ count_of node
  pub fewer : head_held head_now + node_held node_now + most_now ≤ head_held head + node_held node + most
  pub outside : KeepsOutside (first_source node) (count_of node) lists lists_now

-- the next point of two heads was taken
pub record IsNextOf (low high low_now high_now next : Head) : Type 0 where
  pub points : (xs ys : List Point) → merge_two (with_head low xs) (with_head high ys)
      ≡ with_head next (merge_two (with_head low_now xs) (with_head high_now ys))
  pub ready : next ≢ Unread
  pub held : head_held next + (head_held low_now + head_held high_now) ≤ head_held low + head_held high
  pub held_low : head_held low_now ≤ head_held low
  pub held_high : head_held high_now ≤ head_held high

-- the points of a whole tree, the points that it has buffered, and what is so of it
abbrev pub root_left : Option Node → List (Option (List Point)) → Option (List Point)
root_left None lists = Some []
root_left (Some node) lists = node_left node (left_at lists)

abbrev pub root_held : Option Node → ℕ
root_held None = 0
root_held (Some node) = node_held node

abbrev pub IsRootNode : ℕ → Option Node → Type 0
IsRootNode sources None = Unit {0}
IsRootNode sources (Some node) = IsMergeTree node × (first_source node ≡ 0) × (count_of node ≡ sources)
    × (node_held node ≤ 1000 * sources)

-- the last point of a buffer was taken
abbrev pub IsPopped : List Point → List Point → Head → Type 0
IsPopped before after Unread = ⊥
IsPopped before after End = (before ≡ []) × (after ≡ [])
IsPopped before after (Next point) = before ≡ after ++ point ∷ []

-- the next point of a source was read: nothing is lost, and the other sources have left what they had
pub record IsPointRead (source : ℕ) (buffer : List Point) (lists : List (Option (List Point))) (most : ℕ)
    (head : Head) (buffer_now : List Point) (lists_now : List (Option (List Point))) (most_now : ℕ) : Type 0 where
  pub left : (points : List Point) → behind buffer (left_at lists source) ≡ Some points
      → told_with head (behind buffer_now (left_at lists_now source)) ≡ Some points
  pub ready : head ≢ Unread
  pub within : head_held head + length buffer_now ≤ 1000
  pub fewer : head_held head + length buffer_now + most_now ≤ length buffer + most
  pub others : KeepsOthers source lists lists_now

-- the point that a head has, which is not unread
abbrev pub IsHeadOf : Option Point → Head → Type 0
IsHeadOf None head = head ≡ End
IsHeadOf (Some point) head = head ≡ Next point

-- what is left behind a pull: nothing where there was no point
abbrev pub left_behind : Option Point → Option (List Point) → Option (List Point)
left_behind None left = Some []
left_behind (Some point) left = left

-- the first point of a whole tree was taken, and the tree has the sources that it had
pub record IsPulled (node : Node) (lists : List (Option (List Point))) (most : ℕ) (point : Option Point)
    (node_now : Node) (lists_now : List (Option (List Point))) (most_now : ℕ) : Type 0 where
  pub takes : TakesTold (node_left node (left_at lists)) point
      (left_behind point (node_left node_now (left_at lists_now)))
  pub tree : IsMergeTree node_now
  pub within : node_held node_now ≤ 1000 * count_of node_now
  pub first : first_source node_now ≡ first_source node
  pub count : count_of node_now ≡ count_of node
  pub fewer : length (option_to_list point) + (node_held node_now + most_now) ≤ node_held node + most

-- a point was put into an empty list, or there was none
abbrev pub IsPointPut : Option Point → Bool → List Point → Type 0
IsPointPut None more points = (more ≡ false) × (points ≡ [])
IsPointPut (Some point) more points = (more ≡ true) × (points ≡ point ∷ [])
