-- Two trees of the same series are equal, and so have the same files.
use Rattle.std.proofs.Common.{◌≡◌, ◌≢◌, ℕ, suc, ◌<◌, List, [], ◌∷◌, ◌++◌, length, map, refl, sym, ap, ◌∙◌, subst, arith}
use Rattle.std.specs.Prelude.{AllPairs}
use Rattle.std.specs.List.{flat_map, AllByRecursion}
use Rattle.std.specs.Cmp.Lexicographic.{slice_cmp}
use Rattle.std.specs.declared.cmp.Ordering.TheVariants.{Equal, Less}
use Rattle.std.specs.Ordering.{nat_cmp}
use Rattle.std.proofs.lemmas.Cmp.{nat_list_cmp_total, tied_itself}
use Rattle.std.proofs.lemmas.List.{append-nil, length-append}
use Rattle.std.proofs.lemmas.List.Elements.{recursion_from_All}
use Rattle.tsdb_base.specs.declared.point.Point.{Point}
use Rattle.tsdb_base.specs.declared.value.DataType.{DataType}
use Rattle.tsdb_base.specs.declared.value.Encoding.{Encoding}
use Rattle.tsdb_pages.specs.declared.tree.Page.{Page}
use Rattle.tsdb_pages.specs.declared.tree.Chunk.{Chunk}
use Rattle.tsdb_pages.specs.declared.tree.Group.{Group}
use Rattle.tsdb_pages.specs.declared.tree.Tree.{Tree}
use Rattle.tsdb_pages.specs.File.{IsFile}
use Rattle.tsdb_pages.specs.Trees.{IsBefore, IsGroup, page_points}
use Rattle.tsfile_writer.specs.BuilderInput.{AreChunksOf, AreFilled, IsChunkOf, IsTreeOf, GivenSeries, placed}

-- ---- pages filled in turn

-- lists that begin alike
same_first : {A : Type 0} (xs ys us vs : List A) → length xs ≡ length ys → xs ++ us ≡ ys ++ vs → (xs ≡ ys) × (us ≡ vs)
same_first [] [] us vs size e = (refl, e)
same_first [] (y ∷ ys) us vs size e = absurd (omega (arith, size))
same_first (x ∷ xs) [] us vs size e = absurd (omega (arith, size))
same_first (x ∷ xs) (y ∷ ys) us vs size e =
    let first : x ≡ y = cc in
    let rest : xs ++ us ≡ ys ++ vs = cc in
    let sizes : length xs ≡ length ys = omega (arith, size) in
    let rec = same_first xs ys us vs sizes rest in
    let more : xs ≡ ys = rec.0 in
    (cc, rec.1)

some_points : (pages : List Page) → AreFilled pages → 0 < length (page_points pages)
some_points [] filled = absurd filled
some_points (p ∷ []) filled = let n = length-append p.points [] in omega (arith, n, filled.0)
some_points (p ∷ q ∷ ps) filled = let n = length-append p.points (page_points (q ∷ ps)) in omega (arith, n, filled.0)

abbrev page_of : List Point → Page
page_of points = record { points = points }

filled_same : (xs ys : List Page) → AreFilled xs → AreFilled ys → page_points xs ≡ page_points ys → xs ≡ ys
filled_same [] ys in_xs in_ys e = absurd in_xs
filled_same (x ∷ xs) [] in_xs in_ys e = absurd in_ys
filled_same (x ∷ []) (y ∷ []) in_xs in_ys e =
    let same : x.points ≡ y.points = sym (append-nil x.points) ∙ e ∙ append-nil y.points in
    ap (λ (l : List Point). page_of l ∷ []) same
filled_same (x ∷ []) (y ∷ z ∷ zs) in_xs in_ys e =
    let n = length-append x.points [] in
    let m = length-append y.points (page_points (z ∷ zs)) in
    let some = some_points (z ∷ zs) in_ys.1 in
    let l : length (x.points ++ []) ≡ length (y.points ++ page_points (z ∷ zs)) = ap length e in
    absurd (omega (arith, n, m, some, l, in_xs.1, in_ys.0))
filled_same (x ∷ w ∷ ws) (y ∷ []) in_xs in_ys e =
    let n = length-append y.points [] in
    let m = length-append x.points (page_points (w ∷ ws)) in
    let some = some_points (w ∷ ws) in_xs.1 in
    let l : length (x.points ++ page_points (w ∷ ws)) ≡ length (y.points ++ []) = ap length e in
    absurd (omega (arith, n, m, some, l, in_ys.1, in_xs.0))
filled_same (x ∷ w ∷ ws) (y ∷ z ∷ zs) in_xs in_ys e =
    let parts = same_first x.points y.points (page_points (w ∷ ws)) (page_points (z ∷ zs)) (in_xs.0 ∙ sym in_ys.0) e in
    let rec : w ∷ ws ≡ z ∷ zs = filled_same (w ∷ ws) (z ∷ zs) in_xs.1 in_ys.1 parts.1 in
    ap (λ (l : List Point). page_of l ∷ w ∷ ws) parts.0 ∙ ap (λ (pages : List Page). y ∷ pages) rec

-- ---- chunks of series

chunk_same : (series : GivenSeries) (a b : Chunk) → IsChunkOf series a → IsChunkOf series b → a ≡ b
chunk_same series a b is_a is_b =
    let made : List ℕ → DataType → Encoding → List Page → Chunk = λ measurement data_type encoding pages. record { measurement = measurement; data_type = data_type; encoding = encoding; pages = pages } in
    let n : a.measurement ≡ b.measurement = is_a.measurement_is ∙ sym is_b.measurement_is in
    let t : a.data_type ≡ b.data_type = is_a.type_is ∙ sym is_b.type_is in
    let c : a.encoding ≡ b.encoding = is_a.encoding_is ∙ sym is_b.encoding_is in
    let p : a.pages ≡ b.pages = filled_same a.pages b.pages is_a.filled is_b.filled (is_a.points_are ∙ sym is_b.points_are) in
    let same : made a.measurement a.data_type a.encoding a.pages ≡ made b.measurement b.data_type b.encoding b.pages = cc in
    same

chunks_same : (given : List GivenSeries) (xs ys : List (List ℕ × Chunk)) → AreChunksOf given xs → AreChunksOf given ys → xs ≡ ys
chunks_same [] [] [] in_xs in_ys = refl
chunks_same [] [] (y ∷ ys) in_xs in_ys = absurd in_ys
chunks_same [] (x ∷ xs) ys in_xs in_ys = absurd in_xs
chunks_same (s ∷ ss) [] ys in_xs in_ys = absurd in_xs
chunks_same (s ∷ ss) (x ∷ xs) [] in_xs in_ys = absurd in_ys
chunks_same (s ∷ ss) (x ∷ xs) (y ∷ ys) in_xs in_ys =
    let d : x.0 ≡ y.0 = in_xs.0 ∙ sym in_ys.0 in
    let c : x.1 ≡ y.1 = chunk_same s x.1 y.1 in_xs.1 in_ys.1 in
    let first : x ≡ y = ap (λ (device : List ℕ). (device, x.1)) d ∙ ap (λ (chunk : Chunk). (y.0, chunk)) c in
    let rec : xs ≡ ys = chunks_same ss xs ys in_xs.2 in_ys.2 in
    cc

-- ---- groups of chunks

-- the device and the chunks of a group
abbrev parts_of : Group → List ℕ × List Chunk
parts_of group = (group.device, group.chunks)

-- the chunks of groups, each at its device
abbrev flat : List (List ℕ × List Chunk) → List (List ℕ × Chunk)
flat groups = flat_map (λ group. map (λ chunk. (group.0, chunk)) group.1) groups

-- the first of these is at another device
abbrev IsApart : List ℕ → List (List ℕ × Chunk) → Type 0
IsApart device [] = Unit {0}
IsApart device (x ∷ xs) = device ≢ x.0

-- each group has a chunk, and its device differs from the next one's
abbrev AreApart : List (List ℕ × List Chunk) → Type 0
AreApart [] = Unit {0}
AreApart (g ∷ []) = 0 < length g.1
AreApart (g ∷ h ∷ gs) = (0 < length g.1) × (g.0 ≢ h.0) × AreApart (h ∷ gs)

split_same : (device : List ℕ) (xs ys : List Chunk) (us vs : List (List ℕ × Chunk)) → IsApart device us → IsApart device vs
    → map {B = List ℕ × Chunk} (λ x. (device, x)) xs ++ us ≡ map {B = List ℕ × Chunk} (λ y. (device, y)) ys ++ vs → (xs ≡ ys) × (us ≡ vs)
split_same device [] [] us vs in_us in_vs e = (refl, e)
split_same device [] (y ∷ ys) [] vs in_us in_vs e = absurd cc
split_same device [] (y ∷ ys) (u ∷ us) vs in_us in_vs e =
    let first : u ≡ (device, y) = cc in
    absurd (in_us (sym (ap (λ (x : List ℕ × Chunk). x.0) first)))
split_same device (x ∷ xs) [] us [] in_us in_vs e = absurd cc
split_same device (x ∷ xs) [] us (v ∷ vs) in_us in_vs e =
    let first : (device, x) ≡ v = cc in
    absurd (in_vs (ap (λ (x : List ℕ × Chunk). x.0) first))
split_same device (x ∷ xs) (y ∷ ys) us vs in_us in_vs e =
    let first : (device, x) ≡ (device, y) = cc in
    let here : x ≡ y = ap (λ (z : List ℕ × Chunk). z.1) first in
    let rest : map {B = List ℕ × Chunk} (λ x. (device, x)) xs ++ us ≡ map {B = List ℕ × Chunk} (λ y. (device, y)) ys ++ vs = cc in
    let rec = split_same device xs ys us vs in_us in_vs rest in
    let more : xs ≡ ys = rec.0 in
    (cc, rec.1)

-- the groups behind one are at another device
behind_apart : (g : List ℕ × List Chunk) (gs : List (List ℕ × List Chunk)) → AreApart (g ∷ gs) → IsApart g.0 (flat gs)
behind_apart g [] apart = tt
behind_apart g ((d, []) ∷ []) apart = absurd (omega (arith, apart.2))
behind_apart g ((d, []) ∷ h ∷ hs) apart = absurd (omega (arith, apart.2.0))
behind_apart g ((d, c ∷ cs) ∷ hs) apart = apart.1

others_apart : (g : List ℕ × List Chunk) (gs : List (List ℕ × List Chunk)) → AreApart (g ∷ gs) → AreApart gs
others_apart g [] apart = tt
others_apart g (h ∷ hs) apart = apart.2

first_some : (g : List ℕ × List Chunk) (gs : List (List ℕ × List Chunk)) → AreApart (g ∷ gs) → 0 < length g.1
first_some g [] apart = apart
first_some g (h ∷ hs) apart = apart.0

groups_same : (xs ys : List (List ℕ × List Chunk)) → AreApart xs → AreApart ys → flat xs ≡ flat ys → xs ≡ ys
groups_same [] [] in_xs in_ys e = refl
groups_same [] ((d, []) ∷ ys) in_xs in_ys e = let some = first_some (d, []) ys in_ys in absurd (omega (arith, some))
groups_same [] ((d, c ∷ cs) ∷ ys) in_xs in_ys e = absurd cc
groups_same ((d, []) ∷ xs) ys in_xs in_ys e = let some = first_some (d, []) xs in_xs in absurd (omega (arith, some))
groups_same ((d, c ∷ cs) ∷ xs) [] in_xs in_ys e = absurd cc
groups_same ((d, c ∷ cs) ∷ xs) ((f, []) ∷ ys) in_xs in_ys e = let some = first_some (f, []) ys in_ys in absurd (omega (arith, some))
groups_same ((d, c ∷ cs) ∷ xs) ((f, b ∷ bs) ∷ ys) in_xs in_ys e =
    let first : (d, c) ≡ (f, b) = cc in
    let device : d ≡ f = ap (λ (z : List ℕ × Chunk). z.0) first in
    let moved : map {B = List ℕ × Chunk} (λ x. (f, x)) (b ∷ bs) ++ flat ys ≡ map {B = List ℕ × Chunk} (λ x. (d, x)) (b ∷ bs) ++ flat ys = ap (λ (k : List ℕ). map {B = List ℕ × Chunk} (λ x. (k, x)) (b ∷ bs) ++ flat ys) (sym device) in
    let parts = split_same d (c ∷ cs) (b ∷ bs) (flat xs) (flat ys) (behind_apart (d, c ∷ cs) xs in_xs) (subst (λ (k : List ℕ). IsApart k (flat ys)) (sym device) (behind_apart (f, b ∷ bs) ys in_ys)) (e ∙ moved) in
    let rec = groups_same xs ys (others_apart (d, c ∷ cs) xs in_xs) (others_apart (f, b ∷ bs) ys in_ys) parts.1 in
    let lists : c ∷ cs ≡ b ∷ bs = parts.0 in
    cc

-- the groups of a tree are so
not_same : (a b : List ℕ) → IsBefore a b → a ≢ b
not_same a b less same =
    let tied : slice_cmp nat_cmp a a ≡ Equal = tied_itself nat_list_cmp_total a in
    let itself : slice_cmp nat_cmp a a ≡ Less = subst (λ (l : List ℕ). slice_cmp nat_cmp a l ≡ Less) (sym same) less in
    let none : Less ≡ Equal = sym itself ∙ tied in
    absurd cc

apart_from : (groups : List Group) → AllByRecursion IsGroup groups → AllPairs (λ a b. IsBefore a.device b.device) groups → AreApart (map parts_of groups)
apart_from [] good pairs = tt
apart_from (g ∷ []) good pairs = good.0.some
apart_from (g ∷ h ∷ gs) good pairs = (
  good.0.some,
  not_same g.device h.device (pairs 0 1 g (omega arith) (omega arith)),
  apart_from (h ∷ gs) good.1 (λ i j d lt within. pairs (suc i) (suc j) d (omega (arith, lt)) (omega (arith, within))),
)

placed_flat : (groups : List Group) → placed groups ≡ flat (map parts_of groups)
placed_flat [] = refl
placed_flat (g ∷ gs) = ap (λ (l : List (List ℕ × Chunk)). map {B = List ℕ × Chunk} (λ c. (g.device, c)) g.chunks ++ l) (placed_flat gs)

same_parts : (xs ys : List Group) → map parts_of xs ≡ map parts_of ys → xs ≡ ys
same_parts [] [] e = refl
same_parts [] (y ∷ ys) e = absurd cc
same_parts (x ∷ xs) [] e = absurd cc
same_parts (x ∷ xs) (y ∷ ys) e =
    let made : List ℕ × List Chunk → Group = λ parts. record { device = parts.0; chunks = parts.1 } in
    let parts : parts_of x ≡ parts_of y = cc in
    let others : map parts_of xs ≡ map parts_of ys = cc in
    let first : x ≡ y = ap made parts in
    let rest : xs ≡ ys = same_parts xs ys others in
    cc

one_tree_of : (given : List GivenSeries) (a b : Tree) → IsTreeOf given a → IsTreeOf given b → a ≡ b
one_tree_of given a b is_a is_b =
    let made : List Group → Tree = λ groups. record { groups = groups } in
    ap made (same_parts a.groups b.groups
    (groups_same (map parts_of a.groups) (map parts_of b.groups)
    (apart_from a.groups (recursion_from_All IsGroup a.groups is_a.is_tree.groups) is_a.is_tree.rising)
    (apart_from b.groups (recursion_from_All IsGroup b.groups is_b.is_tree.groups) is_b.is_tree.rising)
    (sym (placed_flat a.groups) ∙ chunks_same given (placed a.groups) (placed b.groups) is_a.chunks is_b.chunks ∙ placed_flat b.groups)))

pub one_file_of : (given : List GivenSeries) (a b : Tree) (bytes : List ℕ) → IsTreeOf given a → IsTreeOf given b → IsFile a bytes → IsFile b bytes
one_file_of given a b bytes is_a is_b file = subst (λ (tree : Tree). IsFile tree bytes) (one_tree_of given a b is_a is_b) file
