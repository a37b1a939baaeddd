-- The pages of a series in a file whose points are told.
use Rattle.std.proofs.Common.{◌≡◌, ℕ, ℤ, ◌≤◌, true, inl, inr, ⊎_elim, List, [], ◌∷◌, ◌++◌, map}
use Rattle.std.proofs.Common.{Some, refl, sym, ap, subst, ◌∙◌, arith}
use Rattle.std.specs.Prelude.{◌↔◌, FitsSigned, flat_map}
use Rattle.std.specs.FinMap.{get}
use Rattle.std.specs.Int.{w64}
use Rattle.std.proofs.lemmas.Int.{ints}
use Rattle.std.proofs.lemmas.List.Elements.{recursion_from_All}
use Rattle.tsdb_base.specs.declared.point.Point.{Point}
use Rattle.tsdb_base.specs.declared.value.Value.{Value}
use Rattle.tsdb_streams.proofs.Trees.{At, Listed, listed_pages, one_chunk, pages_of}
use Rattle.tsdb_streams.specs.Files.{ArePagesIn, HasPages}
use Rattle.tsdb_inner.proofs.Putting.{none_rise}
use Rattle.tsdb_inner.specs.Copies.{all_times}
use Rattle.tsdb_base.proofs.Lists.{among_left, among_right, each_among}
use Rattle.tsdb_base.specs.Lists.{Among}
use Rattle.tsdb_state.specs.Places.{Content}
use Rattle.tsdb_model.specs.World.{is_in}
use Rattle.tsdb_base.specs.Points.{IsRising}
use Rattle.tsdb_outside.specs.Files.{NamedFile}
use Rattle.tsdb_pages.specs.Pages.{IsInRange}
use Rattle.tsdb_pages.specs.Trees.{HasParts, IsChunk, IsGroup, IsMade, IsTree, chunks_of, page_points}
use Rattle.tsdb_pages.specs.declared.tree.Chunk.{Chunk}
use Rattle.tsdb_pages.specs.declared.tree.Group.{Group}
use Rattle.tsdb_pages.specs.declared.tree.Page.{Page}
use Rattle.tsdb_pages.specs.declared.tree.Tree.{Tree}
use Rattle.tsdb_path.proofs.Bytes.{IsNode-dotless}
use Rattle.tsdb_path.proofs.Parts.{child_of-device_of, device_of-child, measurement_of-child}
use Rattle.tsdb_path.specs.Nodes.{child_of, device_of, measurement_of, node_count}
use Rattle.tsdb_state.specs.Stores.{HasTreePoint, IsTreeContent, IsWhole}
use Rattle.tsdb_streams.specs.Pieces.{joined}
use Rattle.tsdb_streams.specs.Survivors.{place_at}
use Rattle.tsdb_state.specs.State.{File, ToldContents}

-- ---- lists

among_flat : {X Y : Type 0} (f : X → List Y) (xs : List X) (x : X) (y : Y) → Among x xs → Among y (f x)
    → Among y (flat_map f xs)
among_flat f [] x y there here = absurd there
among_flat f (z ∷ xs) x y (inl is) here = among_left (f z) (flat_map f xs) y (subst (λ w. Among y (f w)) (sym is) here)
among_flat f (z ∷ xs) x y (inr there) here = among_right (f z) (flat_map f xs) y (among_flat f xs x y there here)

joined_points : (pages : List Page) → joined (map (λ (page : Page). page.points) pages) ≡ page_points pages
joined_points [] = refl
joined_points (page ∷ pages) = ap (λ l. page.points ++ l) (joined_points pages)

-- a time of the type is in the range of all times
in_all_times : (time : ℤ) → FitsSigned w64 time → is_in all_times time ≡ true
in_all_times time fits = grind (arith, ints, fits)

-- ---- the pages of one file

-- the pages of the series in the file, which have the points of the content
pub record HasList (path : List ℕ) (content : Content) (name : NamedFile) : Type 0 where
  pub list : List (List Point)
  pub pages : HasPages (device_of path, measurement_of path) name list
  pub rising : IsRising (joined list)
  pub within : (point : Point) → Among point (joined list) → is_in all_times point.time ≡ true
  pub are : (time : ℤ) (value : Value) → Among (record { time = time; value = value }) (joined list)
      ↔ (get content (place_at path time) ≡ Some value)

module _ (path : List ℕ) (two : 2 ≤ node_count path) (tree : Tree) (is : IsTree tree) (made : IsMade tree) where
  module _ (found : At tree.groups (device_of path, measurement_of path)) where
    parts : HasParts found.chunk
    parts = each_among HasParts (chunks_of tree.groups) found.chunk
        (recursion_from_All HasParts (chunks_of tree.groups) made.chunks)
        (among_flat (λ (group : Group). group.chunks) tree.groups found.group found.chunk found.in_tree found.in_group)

    whole : IsChunk found.chunk
    whole = let group = each_among IsGroup tree.groups found.group (recursion_from_All IsGroup tree.groups is.groups)
        found.in_tree in
        each_among IsChunk found.group.chunks found.chunk (recursion_from_All IsChunk found.group.chunks group.chunks)
        found.in_group

    to_tree : (time : ℤ) (value : Value) → Among (record { time = time; value = value }) (page_points found.chunk.pages)
        → HasTreePoint tree (place_at path time) value
    to_tree time value among = record {
      group = found.group;
      chunk = found.chunk;
      point = record { time = time; value = value };
      in_tree = found.in_tree;
      in_group = found.in_group;
      in_chunk = among;
      path = ap (λ d. child_of d found.chunk.measurement) found.device ∙ ap (child_of (device_of path)) found.measurement
          ∙ child_of-device_of path two;
      time = refl;
      has = refl;
    }

  -- the chunk of a point of the series
  at_point : (time : ℤ) (value : Value) → HasTreePoint tree (place_at path time) value
      → At tree.groups (device_of path, measurement_of path)
  at_point time value has =
      let named = each_among HasParts (chunks_of tree.groups) has.chunk
      (recursion_from_All HasParts (chunks_of tree.groups) made.chunks)
      (among_flat (λ (group : Group). group.chunks) tree.groups has.group has.chunk has.in_tree has.in_group) in
      let dotless = IsNode-dotless has.chunk.measurement named.measurement.node in record {
        group = has.group;
        chunk = has.chunk;
        in_tree = has.in_tree;
        in_group = has.in_group;
        device = sym (device_of-child has.group.device has.chunk.measurement dotless) ∙ ap device_of has.path;
        measurement = sym (measurement_of-child has.group.device has.chunk.measurement dotless) ∙ ap measurement_of has.path;
      }

  from_tree : (found : At tree.groups (device_of path, measurement_of path)) (time : ℤ) (value : Value)
      → HasTreePoint tree (place_at path time) value
      → Among (record { time = time; value = value }) (page_points found.chunk.pages)
  unfolding at_point
  from_tree found time value has =
      let same : has.chunk ≡ found.chunk =
      one_chunk tree (device_of path, measurement_of path) is (at_point time value has) found in
      let point : has.point ≡ record { time = time; value = value } =
      ap (λ (t : ℤ). record { time = t; value = has.point.value }) has.time
      ∙ ap (λ (v : Value). record { time = time; value = v }) has.has in
      subst (λ (chunk : Chunk). Among (record { time = time; value = value }) (page_points chunk.pages)) same
      (subst (λ (p : Point). Among p (page_points has.chunk.pages)) point has.in_chunk)

  pub tree_list : (content : Content) → IsTreeContent tree content → (name : NamedFile)
      → ((list : List (List Point)) → ArePagesIn tree (device_of path, measurement_of path) list
      → HasPages (device_of path, measurement_of path) name list) → HasList path content name
  tree_list content of name pages = by (listed_pages tree (device_of path, measurement_of path) is)
    where
      by : Listed tree (device_of path, measurement_of path) → HasList path content name
      by listed = ⊎_elim with_chunk without listed.from
        where
          with_chunk : (found : At tree.groups (device_of path, measurement_of path))
              × (listed.list ≡ pages_of found.chunk) → HasList path content name
          with_chunk found =
              let points : joined listed.list ≡ page_points found.0.chunk.pages =
              ap joined found.1 ∙ joined_points found.0.chunk.pages in record {
                list = listed.list;
                pages = pages listed.list listed.are;
                rising = subst IsRising (sym points) (whole found.0).rising;
                within = λ point among. in_all_times point.time (each_among IsInRange (page_points found.0.chunk.pages) point
                    (recursion_from_All IsInRange (page_points found.0.chunk.pages) (parts found.0).points)
                    (subst (Among point) points among)).0;
                are = λ time value. (
                  λ among. (of (place_at path time) value).1 (to_tree found.0 time value
                      (subst (Among (record { time = time; value = value })) points among)),
                  λ has. subst (Among (record { time = time; value = value })) (sym points)
                      (from_tree found.0 time value ((of (place_at path time) value).0 has)),
                );
              }

          without : (At tree.groups (device_of path, measurement_of path) → ⊥) × (listed.list ≡ [])
              → HasList path content name
          without none =
              let points : joined listed.list ≡ [] = ap joined none.1 in record {
                list = listed.list;
                pages = pages listed.list listed.are;
                rising = subst IsRising (sym points) none_rise;
                within = λ point among. absurd (subst (Among point) points among);
                are = λ time value. (
                  λ among. absurd (subst (Among (record { time = time; value = value })) points among),
                  λ has. absurd (none.0 (at_point time value ((of (place_at path time) value).0 has))),
                );
              }

-- a whole file has the points that are told of it
pub has_list : (path : List ℕ) → 2 ≤ node_count path → (told : ToldContents) (name : NamedFile) (file : File)
    → IsWhole (λ number. name.bytes) told file → HasList path (told file.number) name
has_list path two told name file whole =
    tree_list path two whole.tree whole.is_tree whole.is_made (told file.number) whole.content name
    (λ list are. record {
      bytes = whole.bytes;
      told = whole.there;
      tree = whole.tree;
      is = whole.is_tree;
      made = whole.is_made;
      file = whole.is_file;
      pages_are = are;
    })
