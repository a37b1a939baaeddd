-- The pages of a series in a whole file are the points that the file has of it.
use Rattle.std.proofs.Common.{◌≡◌, ℕ, ℤ, ◌<◌, ◌≤◌, Bool, true, false, List, [], ◌∷◌, ◌++◌, ◌⊎◌, inl, inr, map, length, get_or, Option, None, Some, refl, sym, ap, subst, ◌∙◌, arith}
use Rattle.std.specs.Prelude.{◌<ℤ◌, int_lt, Contains}
use Rattle.std.specs.FinMap.{get}
use Rattle.std.specs.List.{flat_map}
use Rattle.std.proofs.lemmas.Int.{ints}
use Rattle.std.proofs.lemmas.List.Elements.{All-contains}
use Rattle.tsdb_base.specs.declared.point.Point.{Point}
use Rattle.tsdb_base.specs.declared.value.Value.{Value}
use Rattle.tsdb_streams.specs.Files.{ArePagesIn, HasPages, IsSeriesChunk}
use Rattle.tsdb_merge.proofs.MergeLemmas.{Contains-cases, Contains-head, Contains-nil, Contains-tail}
use Rattle.tsdb_base.specs.Lists.{Among}
use Rattle.tsdb_state.specs.Places.{Content}
use Rattle.tsdb_memory.specs.StateOfMemory.{point_value_at}
use Rattle.tsdb_outside.specs.Files.{NamedFile}
use Rattle.tsdb_pages.proofs.Files.{one_tree}
use Rattle.tsdb_pages.specs.File.{IsFile}
use Rattle.tsdb_pages.specs.Trees.{HasParts, IsChunk, IsGroup, IsMade, IsTree, page_points}
use Rattle.tsdb_pages.specs.declared.tree.Chunk.{Chunk}
use Rattle.tsdb_pages.specs.declared.tree.Group.{Group}
use Rattle.tsdb_pages.specs.declared.tree.Page.{Page}
use Rattle.tsdb_pages.specs.declared.tree.Tree.{Tree}
use Rattle.tsdb_path.proofs.Bytes.{IsNode-dotless}
use Rattle.tsdb_path.proofs.Parts.{child_of-device_of, device_of-child, measurement_of-child}
use Rattle.tsdb_path.specs.Nodes.{child_of, device_of, measurement_of, node_count}
use Rattle.tsdb_pins.proofs.Points.{has_value, of_value}
use Rattle.tsdb_pin.specs.StateOfPin.{ArePointsOf}
use Rattle.tsdb_base.specs.Points.{IsRising}
use Rattle.tsdb_state.specs.Stores.{BytesByNumber, HasTreePoint, IsTreeContent, IsWhole}
use Rattle.tsdb_streams.specs.Pieces.{joined}
use Rattle.tsdb_state.specs.State.{File, ToldContents}

contained : {X : Type 0} (xs : List X) (x : X) → Among x xs → Contains xs x
contained [] x h = absurd h
contained (y ∷ xs) x (inl e) = subst (λ z. Contains (y ∷ xs) z) e (Contains-head y xs)
contained (y ∷ xs) x (inr h) = Contains-tail y x xs (contained xs x h)

among : {X : Type 0} (xs : List X) (x : X) → Contains xs x → Among x xs
among [] x h = absurd (Contains-nil x h)
among (y ∷ xs) x h = by (Contains-cases y x xs h) (λ k. among xs x k)
  where
    by : (y ≡ x) ⊎ Contains xs x → (Contains xs x → Among x xs) → Among x (y ∷ xs)
    by (inl e) rest = inl e
    by (inr k) rest = inr (rest k)

among_left : {X : Type 0} (xs ys : List X) (x : X) → Among x xs → Among x (xs ++ ys)
among_left [] ys x h = absurd h
among_left (y ∷ xs) ys x (inl e) = inl e
among_left (y ∷ xs) ys x (inr h) = inr (among_left xs ys x h)

among_right : {X : Type 0} (xs ys : List X) (x : X) → Among x ys → Among x (xs ++ ys)
among_right [] ys x h = h
among_right (y ∷ xs) ys x h = inr (among_right xs ys x h)

among_flat : {X Y : Type 0} (f : X → List Y) (xs : List X) (x : X) (y : Y) → Among x xs → Among y (f x) → Among y (flat_map f xs)
among_flat f [] x y h k = absurd h
among_flat f (z ∷ xs) x y (inl e) k = among_left (f z) (flat_map f xs) y (subst (λ w. Among y (f w)) (sym e) k)
among_flat f (z ∷ xs) x y (inr h) k = among_right (f z) (flat_map f xs) y (among_flat f xs x y h k)

joined_points : (pages : List Page) → joined (map (λ (page : Page). page.points) pages) ≡ page_points pages
joined_points [] = refl
joined_points (page ∷ pages) = ap (λ l. page.points ++ l) (joined_points pages)

stable : (b : Bool) → ((b ≡ false) → ⊥) → b ≡ true
stable true not = refl
stable false not = absurd (not refl)

less_or_not : (a b : ℤ) → int_lt a b ≡ true → a <ℤ b
less_or_not a b e = grind (arith, ints)

not_less : (a b : ℤ) → int_lt a b ≡ false → a <ℤ b → ⊥
not_less a b e h = grind (arith, ints)

none_some : {A : Type 0} (a : A) → None ≡ Some a → ⊥
none_some a e = absurd cc

module _ (path : List ℕ) (two : 2 ≤ node_count path) (tree : Tree) (is : IsTree tree) (made : IsMade tree) (content : Content) (of : IsTreeContent tree content) (lists : List (List Point)) (are : ArePagesIn tree (device_of path, measurement_of path) lists) where
  abbrev Here : Chunk → Type 0
  Here chunk = IsSeriesChunk tree (device_of path, measurement_of path) chunk

  points_are : (chunk : Chunk) → Here chunk → joined lists ≡ page_points chunk.pages
  points_are chunk here = ap joined (are.of_chunk chunk here) ∙ joined_points chunk.pages

  rising_here : (chunk : Chunk) → Here chunk → IsRising (joined lists)
  rising_here chunk here =
      let group = All-contains IsGroup tree.groups here.group is.groups here.in_tree in
      let whole = All-contains IsChunk here.group.chunks chunk group.chunks here.in_group in
      subst IsRising (sym (points_are chunk here)) whole.rising

  -- what does not depend on whether there is such a chunk
  no_points : (i : ℕ) → i < length (joined lists) → ((chunk : Chunk) → Here chunk → ⊥) → ⊥
  no_points i below none =
      let empty : joined lists ≡ [] = ap joined (are.none none) in
      let long = ap length empty in
      omega (arith, below, long)

  rising : IsRising (joined lists)
  rising i j d low high =
      less_or_not (get_or (joined lists) i d).time (get_or (joined lists) j d).time
      (stable (int_lt (get_or (joined lists) i d).time (get_or (joined lists) j d).time) (λ not.
      no_points j high (λ chunk here. not_less _ _ not (rising_here chunk here i j d low high))))

  -- a value of the content is one of the points
  from_content : (time : ℤ) (value : Value) → get content (record { path = path; time = time }) ≡ Some value → Contains (joined lists) (record { time = time; value = value })
  from_content time value e =
      let has = (of (record { path = path; time = time }) value).0 e in
      let named = All-contains HasParts _ has.chunk made.chunks (chunk_among has) in
      let dotless = IsNode-dotless has.chunk.measurement named.measurement.node in
      let here : Here has.chunk = record {
        group = has.group;
        in_tree = contained tree.groups has.group has.in_tree;
        in_group = contained has.group.chunks has.chunk has.in_group;
        device = sym (device_of-child has.group.device has.chunk.measurement dotless) ∙ ap device_of has.path;
        measurement = sym (measurement_of-child has.group.device has.chunk.measurement dotless) ∙ ap measurement_of has.path;
      } in
      let same : has.point ≡ record { time = time; value = value } = ap (λ (t : ℤ). record { time = t; value = has.point.value }) has.time ∙ ap (λ (v : Value). record { time = time; value = v }) has.has in
      subst (λ l. Contains l (record { time = time; value = value })) (sym (points_are has.chunk here))
      (contained (page_points has.chunk.pages) (record { time = time; value = value }) (subst (λ p. Among p (page_points has.chunk.pages)) same has.in_chunk))
    where
      chunk_among : (has : HasTreePoint tree (record { path = path; time = time }) value) → Contains (flat_map (λ (group : Group). group.chunks) tree.groups) has.chunk
      chunk_among has = contained (flat_map (λ (group : Group). group.chunks) tree.groups) has.chunk (among_flat (λ (group : Group). group.chunks) tree.groups has.group has.chunk has.in_tree has.in_group)

  -- and the other way round
  to_content : (time : ℤ) (value : Value) → Contains (joined lists) (record { time = time; value = value }) → (found : Option Value) → get content (record { path = path; time = time }) ≡ found → found ≡ Some value
  to_content time value has found e = by found e
    where
      here_value : (chunk : Chunk) → Here chunk → get content (record { path = path; time = time }) ≡ Some value
      here_value chunk here = (of (record { path = path; time = time }) value).1 (record {
        group = here.group;
        chunk = chunk;
        point = record { time = time; value = value };
        in_tree = among tree.groups here.group here.in_tree;
        in_group = among here.group.chunks chunk here.in_group;
        in_chunk = among (page_points chunk.pages) (record { time = time; value = value }) (subst (λ l. Contains l (record { time = time; value = value })) (points_are chunk here) has);
        path = ap (λ d. child_of d chunk.measurement) here.device ∙ ap (child_of (device_of path)) here.measurement ∙ child_of-device_of path two;
        time = refl;
        has = refl;
      })

      content_value : (other : Value) → get content (record { path = path; time = time }) ≡ Some other → get content (record { path = path; time = time }) ≡ Some value
      content_value other e =
          e ∙ sym (has_value (joined lists) (record { time = time; value = other }) rising (from_content time other e)) ∙ has_value (joined lists) (record { time = time; value = value }) rising has

      by : (found : Option Value) → get content (record { path = path; time = time }) ≡ found → found ≡ Some value
      by None e = absurd (no_points has.0 has.1 (λ chunk here. none_some value (sym e ∙ here_value chunk here)))
      by (Some other) e = sym e ∙ content_value other e

  pub points_of_content : ArePointsOf path (joined lists) content
  points_of_content = record {
    rising = rising;
    are = λ time. one time (point_value_at time (joined lists)) (get content (record { path = path; time = time })) refl refl;
  }
    where
      one : (time : ℤ) (a b : Option Value) → point_value_at time (joined lists) ≡ a → get content (record { path = path; time = time }) ≡ b → point_value_at time (joined lists) ≡ get content (record { path = path; time = time })
      one time a None e f = by a e
        where
          by : (a : Option Value) → point_value_at time (joined lists) ≡ a → point_value_at time (joined lists) ≡ get content (record { path = path; time = time })
          by None e = e ∙ sym f
          by (Some v) e = absurd (none_some v (to_content time v (of_value (joined lists) time v e) None f))
      one time a (Some v) e f = has_value (joined lists) (record { time = time; value = v }) rising (from_content time v f) ∙ sym f

some_same : {A : Type 0} (a b : A) → Some a ≡ Some b → a ≡ b
some_same a b e = cc

-- what is told of the pages of a series in a file that is whole
pub told_points : (path : List ℕ) (name : NamedFile) (lists : List (List Point)) (files : BytesByNumber) (told : ToldContents) (file : File) (bytes : List ℕ) → 2 ≤ node_count path
    → HasPages (device_of path, measurement_of path) name lists → IsWhole files told file → name.bytes ≡ Some bytes → files file.number ≡ Some bytes → ArePointsOf path (joined lists) (told file.number)
told_points path name lists files told file bytes two has whole named there =
    let first : has.bytes ≡ bytes = some_same _ _ (sym has.told ∙ named) in
    let second : whole.bytes ≡ bytes = some_same _ _ (sym whole.there ∙ there) in
    let same : whole.tree ≡ has.tree = one_tree whole.tree has.tree bytes whole.is_tree whole.is_made has.is has.made
    (subst (IsFile whole.tree) second whole.is_file) (subst (IsFile has.tree) first has.file) in
    points_of_content path two has.tree has.is has.made (told file.number) (subst (λ t. IsTreeContent t (told file.number)) same whole.content) lists has.pages_are
