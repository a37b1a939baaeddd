-- Series one behind another, as the chunks of groups.
use Rattle.std.proofs.Common.{◌≡◌, ℕ, ◌+◌, ◌<◌, ◌≤◌, List, [], ◌∷◌, ◌++◌, length, map, refl, ap, subst, arith}
use Rattle.std.specs.Prelude.{All}
use Rattle.std.proofs.lemmas.Cmp.{nat_list_cmp_total}
use Rattle.std.proofs.lemmas.List.{get_or-append-add, length-append, map-append}
use Rattle.std.proofs.lemmas.List.Elements.{All-head, All-tail}
use Rattle.tsdb_base.specs.Limits.{max_values}
use Rattle.tsdb_pages.specs.declared.tree.Page.{Page}
use Rattle.tsdb_pages.specs.declared.tree.Chunk.{Chunk}
use Rattle.tsdb_pages.specs.declared.tree.Group.{Group}
use Rattle.tsdb_pages.specs.Trees.{IsBefore}
use Rattle.tsfile_writer.specs.BuilderInput.{AreChunksOf, AreFilled, IsChunkOf, GivenSeries, placed}
use Rattle.tsdb_pages.proofs.Entries.{flat_push}

-- ---- lists

-- lists that end with an item are equal where all but the item and the items are
pub same_ends : {A : Type 0} (xs ys : List A) (x y : A) → xs ++ x ∷ [] ≡ ys ++ y ∷ [] → (xs ≡ ys) × (x ≡ y)
same_ends [] [] x y e = let same : x ≡ y = cc in (refl, same)
same_ends [] (z ∷ ys) x y e =
    let n : length (x ∷ []) ≡ length (z ∷ (ys ++ y ∷ [])) = ap length e in
    let m : length (ys ++ y ∷ []) ≡ length ys + 1 = length-append ys (y ∷ []) in
    absurd (omega (arith, n, m))
same_ends (z ∷ xs) [] x y e =
    let n : length (z ∷ (xs ++ x ∷ [])) ≡ length (y ∷ []) = ap length e in
    let m : length (xs ++ x ∷ []) ≡ length xs + 1 = length-append xs (x ∷ []) in
    absurd (omega (arith, n, m))
same_ends (a ∷ xs) (b ∷ ys) x y e =
    let first : a ≡ b = cc in
    let rest : xs ++ x ∷ [] ≡ ys ++ y ∷ [] = cc in
    let rec = same_ends xs ys x y rest in
    let more : xs ≡ ys = rec.0 in
    (cc, rec.1)

pub all_behind : {A : Type 0} (P : A → Type 0) (xs ys : List A) → All P (xs ++ ys) → All P ys
all_behind P xs ys all k d lt =
    let n : length (xs ++ ys) ≡ length xs + length ys = length-append xs ys in
    subst P (get_or-append-add xs ys k d) (all (length xs + k) d (omega (arith, lt, n)))

-- ---- names

pub before_through : (a b c : List ℕ) → IsBefore a b → IsBefore b c → IsBefore a c
before_through a b c x y = nat_list_cmp_total.trans a b c x y

-- ---- chunks of series

pub chunks_of_push : (given : List GivenSeries) (placed_chunks : List (List ℕ × Chunk)) (series : GivenSeries) (device : List ℕ) (chunk : Chunk) → AreChunksOf given placed_chunks → device ≡ series.device → IsChunkOf series chunk
    → AreChunksOf (given ++ series ∷ []) (placed_chunks ++ (device, chunk) ∷ [])
chunks_of_push [] [] series device chunk are same is = (same, is, tt)
chunks_of_push [] (c ∷ cs) series device chunk are same is = absurd are
chunks_of_push (s ∷ ss) [] series device chunk are same is = absurd are
chunks_of_push (s ∷ ss) (c ∷ cs) series device chunk are same is = (are.0, are.1, chunks_of_push ss cs series device chunk are.2 same is)

-- pages of 1,000 points and a last one are filled in turn
pub filled_push : (pages : List Page) (last : Page) → All (λ page. length page.points ≡ max_values) pages → 0 < length last.points → length last.points ≤ max_values → AreFilled (pages ++ last ∷ [])
filled_push [] last full some few = (some, few)
filled_push (p ∷ []) last full some few = (All-head (λ page. length page.points ≡ max_values) p [] full, (some, few))
filled_push (p ∷ q ∷ ps) last full some few =
    (All-head (λ page. length page.points ≡ max_values) p (q ∷ ps) full, filled_push (q ∷ ps) last (All-tail (λ page. length page.points ≡ max_values) p (q ∷ ps) full) some few)

pub one_group : (device : List ℕ) (chunks : List Chunk) (chunk : Chunk) → map {B = List ℕ × Chunk} (λ (c : Chunk). (device, c)) (chunks ++ chunk ∷ []) ≡ map {B = List ℕ × Chunk} (λ (c : Chunk). (device, c)) chunks ++ (device, chunk) ∷ []
one_group device chunks chunk = map-append {B = List ℕ × Chunk} (λ (c : Chunk). (device, c)) chunks (chunk ∷ [])

-- a group more, of the chunks of its device
pub placed_push : (groups : List Group) (group : Group) → placed (groups ++ group ∷ []) ≡ placed groups ++ map (λ (c : Chunk). (group.device, c)) group.chunks
placed_push groups group = flat_push (λ (group : Group). map (λ (c : Chunk). (group.device, c)) group.chunks) groups group
