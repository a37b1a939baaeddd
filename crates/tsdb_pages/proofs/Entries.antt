-- The entries of pages, chunks and groups: of one more at the end, and how many they are.
use Rattle.std.proofs.Common.{◌≡◌, ℕ, suc, ◌+◌, List, [], ◌∷◌, ◌++◌, length, refl, ap, ◌∙◌, subst, arith}
use Rattle.std.specs.List.{flat_map}
use Rattle.std.proofs.lemmas.Grind.{flat_map-append}
use Rattle.std.proofs.lemmas.List.{append-nil, length-append}
use Rattle.tsdb_base.specs.declared.value.Encoding.{Encoding}
use Rattle.tsdb_index.specs.declared.index.IndexEntry.{IndexEntry}
use Rattle.tsdb_index.specs.declared.index.PageEntry.{PageEntry}
use Rattle.tsdb_pages.specs.declared.tree.Page.{Page}
use Rattle.tsdb_pages.specs.declared.tree.Chunk.{Chunk}
use Rattle.tsdb_pages.specs.declared.tree.Group.{Group}
use Rattle.tsdb_pages.specs.File.{AreEntries, AreEntriesOf, ArePageEntries, IsChunkEntry, IsPageEntry, chunk_field, group_field, group_head, page_field}
use Rattle.tsdb_pages.specs.Trees.{chunks_of}

-- ---- one more at the end

pub flat_push : {A B : Type 0} (f : A → List B) (xs : List A) (x : A) → flat_map f (xs ++ x ∷ []) ≡ flat_map f xs ++ f x
flat_push f xs x = flat_map-append f xs (x ∷ []) ∙ ap (λ l. flat_map f xs ++ l) (append-nil (f x))

-- the place behind a first part and others
behind : {A : Type 0} (f : A → List ℕ) (place : ℕ) (x : A) (xs : List A) → place + length (flat_map f (x ∷ xs)) ≡ place + length (f x) + length (flat_map f xs)
behind f place x xs =
    let n : length (f x ++ flat_map f xs) ≡ length (f x) + length (flat_map f xs) = length-append (f x) (flat_map f xs) in
    omega (arith, n)

no_more : (place : ℕ) → place + 0 ≡ place
no_more place = omega arith

pub pages_push : (encoding : Encoding) (place : ℕ) (pages : List Page) (entries : List PageEntry) (page : Page) (entry : PageEntry) → ArePageEntries encoding place pages entries
    → IsPageEntry (place + length (flat_map (page_field encoding) pages)) page entry → ArePageEntries encoding place (pages ++ page ∷ []) (entries ++ entry ∷ [])
pages_push encoding place [] [] page entry are is = (subst (λ n. IsPageEntry n page entry) (no_more place) is, tt)
pages_push encoding place [] (e ∷ es) page entry are is = absurd are
pages_push encoding place (p ∷ ps) [] page entry are is = absurd are
pages_push encoding place (p ∷ ps) (e ∷ es) page entry are is =
    (are.0, pages_push encoding (place + length (page_field encoding p)) ps es page entry are.1 (subst (λ n. IsPageEntry n page entry) (behind (page_field encoding) place p ps) is))

pub chunks_push : (device : List ℕ) (place : ℕ) (chunks : List Chunk) (entries : List IndexEntry) (chunk : Chunk) (entry : IndexEntry) → AreEntries device place chunks entries
    → IsChunkEntry device (place + length (flat_map chunk_field chunks)) chunk entry → AreEntries device place (chunks ++ chunk ∷ []) (entries ++ entry ∷ [])
chunks_push device place [] [] chunk entry are is = (subst (λ n. IsChunkEntry device n chunk entry) (no_more place) is, tt)
chunks_push device place [] (e ∷ es) chunk entry are is = absurd are
chunks_push device place (c ∷ cs) [] chunk entry are is = absurd are
chunks_push device place (c ∷ cs) (e ∷ es) chunk entry are is =
    (are.0, chunks_push device (place + length (chunk_field c)) cs es chunk entry are.1 (subst (λ n. IsChunkEntry device n chunk entry) (behind chunk_field place c cs) is))

pub groups_push : (place : ℕ) (groups : List Group) (lists : List (List IndexEntry)) (group : Group) (own : List IndexEntry) → AreEntriesOf place groups lists
    → AreEntries group.device (place + length (flat_map group_field groups) + length (group_head group)) group.chunks own → AreEntriesOf place (groups ++ group ∷ []) (lists ++ own ∷ [])
groups_push place [] [] group own are is = (subst (λ n. AreEntries group.device (n + length (group_head group)) group.chunks own) (no_more place) is, tt)
groups_push place [] (l ∷ ls) group own are is = absurd are
groups_push place (g ∷ gs) [] group own are is = absurd are
groups_push place (g ∷ gs) (l ∷ ls) group own are is =
    (are.0, groups_push (place + length (group_field g)) gs ls group own are.1 (subst (λ n. AreEntries group.device (n + length (group_head group)) group.chunks own) (behind group_field place g gs) is))

-- ---- how many

pub count_pages : (encoding : Encoding) (place : ℕ) (pages : List Page) (entries : List PageEntry) → ArePageEntries encoding place pages entries → length entries ≡ length pages
count_pages encoding place [] [] are = refl
count_pages encoding place [] (e ∷ es) are = absurd are
count_pages encoding place (p ∷ ps) [] are = absurd are
count_pages encoding place (p ∷ ps) (e ∷ es) are = ap suc (count_pages encoding (place + length (page_field encoding p)) ps es are.1)

pub count_chunks : (device : List ℕ) (place : ℕ) (chunks : List Chunk) (entries : List IndexEntry) → AreEntries device place chunks entries → length entries ≡ length chunks
count_chunks device place [] [] are = refl
count_chunks device place [] (e ∷ es) are = absurd are
count_chunks device place (c ∷ cs) [] are = absurd are
count_chunks device place (c ∷ cs) (e ∷ es) are = ap suc (count_chunks device (place + length (chunk_field c)) cs es are.1)

pub count_all : (place : ℕ) (groups : List Group) (lists : List (List IndexEntry)) → AreEntriesOf place groups lists → length (flat_map (λ (l : List IndexEntry). l) lists) ≡ length (chunks_of groups)
count_all place [] [] are = refl
count_all place [] (l ∷ ls) are = absurd are
count_all place (g ∷ gs) [] are = absurd are
count_all place (g ∷ gs) (l ∷ ls) are =
    let here = count_chunks g.device (place + length (group_head g)) g.chunks l are.0 in
    let others = count_all (place + length (group_field g)) gs ls are.1 in
    let n : length (l ++ flat_map (λ (l : List IndexEntry). l) ls) ≡ length l + length (flat_map (λ (l : List IndexEntry). l) ls) = length-append l (flat_map (λ (l : List IndexEntry). l) ls) in
    let m : length (g.chunks ++ chunks_of gs) ≡ length g.chunks + length (chunks_of gs) = length-append g.chunks (chunks_of gs) in
    omega (arith, here, others, n, m)
