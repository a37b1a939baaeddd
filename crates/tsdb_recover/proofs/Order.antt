-- The series of a tree stand in the order of their names, and each is of a chunk.
use Rattle.std.proofs.Common.{◌≡◌, ℕ, suc, List, [], ◌∷◌, ◌++◌, length, get_or, map, inl, inr, ⊎_elim, refl, sym, ap, ◌∙◌, subst, arith}
use Rattle.std.specs.Prelude.{AllPairs}
use Rattle.std.specs.List.{AllByRecursion as Each, flat_map}
use Rattle.std.proofs.lemmas.List.Elements.{recursion_from_All}
use Rattle.tsdb_recover.proofs.Says.{device_of_filled}
use Rattle.tsdb_recover.specs.DescribedTrees.{filled_of, group_part, tree_part}
use Rattle.tsdb_path.specs.Order.{AreNamesBefore}
use Rattle.tsdb_flush.specs.Parts.{Filled, schema_names}
use Rattle.tsdb_base.proofs.Lists.{among_left, among_map, among_right, each_among, each_both, each_left, each_map, each_right}
use Rattle.tsdb_base.specs.Lists.{Among, EachPair}
use Rattle.tsdb_memory.proofs.Counts.{among_either, pairs_append}
use Rattle.tsdb_memory.proofs.Frozen.{image_of}
use Rattle.tsdb_pages.specs.Trees as tree
use Rattle.tsdb_pages.specs.Trees.{HasParts, IsGroup, IsMade, IsTree, chunks_of}
use Rattle.tsdb_pages.specs.declared.tree.Chunk.{Chunk}
use Rattle.tsdb_pages.specs.declared.tree.Group.{Group}
use Rattle.tsdb_pages.specs.declared.tree.Tree.{Tree}
use Rattle.tsdb_path.proofs.Bytes.{IsNode-dotless}
use Rattle.tsdb_path.proofs.Parts.{measurement_of-child}
use Rattle.tsdb_path.specs.Nodes.{child_of, device_of, measurement_of}

-- the one series comes before the other
abbrev pub Comes : Filled → Filled → Type 0
Comes a b = AreNamesBefore (schema_names a.schema) (schema_names b.schema)

pub each_pair : {X : Type 0} (R : X → X → Type 0) (xs : List X) → AllPairs R xs → EachPair R xs
each_pair R [] pairs = tt
each_pair R (x ∷ xs) pairs = (
  recursion_from_All (R x) xs (λ k d within. pairs 0 (suc k) d (omega arith) (omega (arith, within))),
  each_pair R xs (λ i j d before within. pairs (suc i) (suc j) d (omega (arith, before)) (omega (arith, within))),
)

-- ---- of which chunk a series is

pub record InTree (groups : List Group) (filled : Filled) : Type 0 where
  pub group : Group
  pub chunk : Chunk
  pub in_tree : Among group groups
  pub in_group : Among chunk group.chunks
  pub is : filled_of group.device chunk ≡ filled

pub in_tree : (groups : List Group) (filled : Filled) → Among filled (flat_map group_part groups) → InTree groups filled
in_tree [] filled there = absurd there
in_tree (group ∷ groups) filled there = ⊎_elim here (λ among. behind (in_tree groups filled among))
    (among_either (group_part group) (flat_map group_part groups) filled there)
  where
    here : Among filled (group_part group) → InTree (group ∷ groups) filled
    here among =
        let image = image_of (filled_of group.device) group.chunks filled among in
        record {
          group = group;
          chunk = image.element;
          in_tree = inl refl;
          in_group = image.among;
          is = image.is;
        }

    behind : InTree groups filled → InTree (group ∷ groups) filled
    behind found = record {
      group = found.group;
      chunk = found.chunk;
      in_tree = inr found.in_tree;
      in_group = found.in_group;
      is = found.is;
    }

pub is_in_part : (groups : List Group) (group : Group) (chunk : Chunk) → Among group groups → Among chunk group.chunks
    → Among (filled_of group.device chunk) (flat_map group_part groups)
is_in_part [] group chunk there among = absurd there
is_in_part (first ∷ groups) group chunk (inl is) among =
    among_left (group_part first) (flat_map group_part groups) (filled_of group.device chunk)
    (subst (λ (g : Group). Among (filled_of g.device chunk) (group_part first)) is
    (among_map (filled_of first.device) first.chunks chunk (subst (λ (g : Group). Among chunk g.chunks) (sym is) among)))
is_in_part (first ∷ groups) group chunk (inr there) among =
    among_right (group_part first) (flat_map group_part groups) (filled_of group.device chunk)
    (is_in_part groups group chunk there among)

pub chunk_among : (groups : List Group) (group : Group) (chunk : Chunk) → Among group groups → Among chunk group.chunks
    → Among chunk (chunks_of groups)
chunk_among [] group chunk there among = absurd there
chunk_among (first ∷ groups) group chunk (inl is) among = among_left first.chunks (chunks_of groups) chunk
    (subst (λ (g : Group). Among chunk g.chunks) (sym is) among)
chunk_among (first ∷ groups) group chunk (inr there) among =
    among_right first.chunks (chunks_of groups) chunk (chunk_among groups group chunk there among)

-- ---- the order

measurement_is : (device : List ℕ) (chunk : Chunk) → HasParts chunk
    → measurement_of (child_of device chunk.measurement) ≡ chunk.measurement
measurement_is device chunk parts =
    measurement_of-child device chunk.measurement (IsNode-dotless chunk.measurement parts.measurement.node)

comes : (device : List ℕ) (a b : Chunk) → HasParts a → HasParts b → tree.IsBefore a.measurement b.measurement
    → Comes (filled_of device a) (filled_of device b)
comes device a b first second less = inr (
  device_of_filled device a first ∙ sym (device_of_filled device b second),
  subst (λ m. tree.IsBefore m (measurement_of (child_of device b.measurement))) (sym (measurement_is device a first))
      (subst (tree.IsBefore a.measurement) (sym (measurement_is device b second)) less),
)

chunks_rise : (device : List ℕ) (chunks : List Chunk) → Each HasParts chunks
    → EachPair (λ a b. tree.IsBefore a.measurement b.measurement) chunks
    → EachPair Comes (map (filled_of device) chunks)
chunks_rise device [] parts pairs = tt
chunks_rise device (chunk ∷ chunks) parts pairs = (
  each_map (Comes (filled_of device chunk)) (filled_of device) chunks
      (each_both HasParts (λ (c : Chunk). tree.IsBefore chunk.measurement c.measurement)
      (λ c. Comes (filled_of device chunk) (filled_of device c))
      (λ c made less. comes device chunk c parts.0 made less) chunks parts.1 pairs.0),
  chunks_rise device chunks parts.1 pairs.1,
)

groups_rise : (groups : List Group) → Each HasParts (chunks_of groups) → Each IsGroup groups
    → EachPair (λ a b. tree.IsBefore a.device b.device) groups → EachPair Comes (flat_map group_part groups)
groups_rise [] parts good pairs = tt
groups_rise (group ∷ groups) parts good pairs = pairs_append Comes (group_part group) (flat_map group_part groups)
    (chunks_rise group.device group.chunks (each_left HasParts group.chunks (chunks_of groups) parts)
    (each_pair (λ (a b : Chunk). tree.IsBefore a.measurement b.measurement) group.chunks good.0.rising))
    (groups_rise groups behind good.1 pairs.1) across
  where
    behind : Each HasParts (chunks_of groups)
    behind = each_right HasParts group.chunks (chunks_of groups) parts

    device_before : (chunk : Chunk) (found : Group) (other : Chunk) → Among chunk group.chunks → Among found groups
        → Among other found.chunks → Comes (filled_of group.device chunk) (filled_of found.device other)
    device_before chunk found other among there in_group = inl
        (subst (λ d. tree.IsBefore d (device_of (filled_of found.device other).schema.path))
        (sym (device_of_filled group.device chunk
        (each_among HasParts group.chunks chunk (each_left HasParts group.chunks (chunks_of groups) parts) among)))
        (subst (tree.IsBefore group.device)
        (sym (device_of_filled found.device other
        (each_among HasParts (chunks_of groups) other behind (chunk_among groups found other there in_group))))
        (each_among (λ (g : Group). tree.IsBefore group.device g.device) groups found pairs.0 there)))

    across : (a b : Filled) → Among a (group_part group) → Among b (flat_map group_part groups) → Comes a b
    across a b in_first in_others =
        let image = image_of (filled_of group.device) group.chunks a in_first in
        let found = in_tree groups b in_others in
        subst (λ f. Comes f b) image.is (subst (Comes (filled_of group.device image.element)) found.is
        (device_before image.element found.group found.chunk image.among found.in_tree found.in_group))

-- the series of a tree stand in the order of their names
pub tree_rises : (of : Tree) → IsTree of → IsMade of → EachPair Comes (tree_part of)
tree_rises of is made = groups_rise of.groups (recursion_from_All HasParts (chunks_of of.groups) made.chunks)
    (recursion_from_All IsGroup of.groups is.groups)
    (each_pair (λ (a b : Group). tree.IsBefore a.device b.device) of.groups is.rising)
