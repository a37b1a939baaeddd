-- A file is blamed at one place at most, and the file of a tree at none.
use Rattle.std.proofs.Common.{◌≡◌, inl, inr, ℕ, zero, suc, ◌+◌, ◌-◌, ◌/◌, ◌<◌, ◌≤◌, ◌^◌, List, [], ◌∷◌, ◌++◌, length, take, drop, refl, sym, ap, subst, ◌∙◌, append_assoc, arith}
use Rattle.std.specs.Prelude.{All, min}
use Rattle.std.specs.List.{flat_map, AllByRecursion}
use Rattle.std.proofs.lemmas.List.{drop-drop, drop_at, get_or-append-add, get_or_append_left, length-append, length-take-le, take-append-drop, take_at}
use Rattle.std.proofs.lemmas.List.Elements.{recursion_from_All}
use Rattle.tsdb_base.specs.Fields.{number64}
use Rattle.tsdb_index.specs.declared.index.IndexEntry.{IndexEntry}
use Rattle.tsdb_index.specs.declared.pointer.Pointer.{Pointer}
use Rattle.tsdb_base.specs.Limits.{max_leaf_entries}
use Rattle.tsdb_index.specs.Parts.{IsFirstBadLeaf, leaf_end}
use Rattle.tsdb_index.specs.Spelling.{IsIndexSpelling}
use Rattle.tsdb_index.proofs.OneSpelling.{one_index}
use Rattle.tsdb_pages.specs.declared.tree.Chunk.{Chunk}
use Rattle.tsdb_pages.specs.declared.tree.Group.{Group}
use Rattle.tsdb_pages.specs.declared.tree.Tree.{Tree}
use Rattle.tsdb_pages.specs.File.{AreEntriesIn, HasSums, IsFile, data_field, group_field, head, head_length, magic, version_in}
use Rattle.tsdb_pages.specs.Trees.{HasParts, IsChunk, IsGroup, IsMade, IsTree, chunks_of}
use Rattle.tsdb_pages.proofs.Files.{EndsGroups, IsWholeChunk, IsWholeGroup, file_apart, groups_marked}
use Rattle.tsdb_pages.proofs.Marks.{marked_same}
use Rattle.tsdb_pages.proofs.OneFile.{same_entries}
use Rattle.tsdb_path.specs.Nodes.{IsPath}
use Rattle.tsfile_reader.specs.Blame.{AreAlike, AreGroups, HasGroups, IsBlamed, IsFirstBadPart, IsFirstWrongLeaf, IsNoFile, data_in, leaf, outline, part}
use Rattle.tsfile_reader.specs.Outline.{HasHead, HasIndex, HasOutline, HasRoot, HasTail, IsBadFront, IsBadOutline, between, in_front, least_length, no_head, no_leaf, no_root, no_tail, short, tail_place}
use Rattle.tsfile_reader.proofs.GroupLoop.{entries_counted}
use Rattle.tsfile_reader.proofs.OneBlame.{none_bad, one_place}
use Rattle.tsfile_reader.proofs.OneOutline.{good_front, good_outline, outline_of_tree, rises, root_same, tail_same, tree_not_bad}
use Rattle.tsfile_reader.proofs.Outlines.{length_between}
use Rattle.tsfile_reader.proofs.Rows.{IsFullGroup, after_groups, good_groups, groups_end, groups_text}

-- ---- one bad part of the outline

one_bad_leaf : (version root : ℕ) (ps : List Pointer) (bytes : List ℕ) (x y : ℕ) → IsFirstBadLeaf version root ps bytes x → IsFirstBadLeaf version root ps bytes y → x ≡ y
one_bad_leaf version root [] bytes x y a b = absurd a
one_bad_leaf version root (p ∷ ps) bytes x y (inl a) (inl b) = a.0 ∙ sym b.0
one_bad_leaf version root (p ∷ ps) bytes x y (inl a) (inr b) = absurd (a.1 b.0.0 b.0.1)
one_bad_leaf version root (p ∷ ps) bytes x y (inr a) (inl b) = absurd (b.1 a.0.0 a.0.1)
one_bad_leaf version root (p ∷ ps) bytes x y (inr a) (inr b) = one_bad_leaf version root ps (drop (leaf_end root ps - p.place) bytes) x y a.1 b.1

one_bad_front : (b : List ℕ) (x y : ℕ) → length b < 2 ^ 64 → IsBadFront b x → IsBadFront b y → x ≡ y
one_bad_front b x y room (short less) (short other) = refl
one_bad_front b x y room (short less) (no_tail long none) = absurd (omega (arith, less, long))
one_bad_front b x y room (short less) (no_head long r tail none) = absurd (omega (arith, less, long))
one_bad_front b x y room (short less) (no_root long r tail starts none) = absurd (omega (arith, less, long))
one_bad_front b x y room (no_tail long none) (short less) = absurd (omega (arith, less, long))
one_bad_front b x y room (no_tail long none) (no_tail other also) = refl
one_bad_front b x y room (no_tail long none) (no_head other r tail also) = absurd (none r tail)
one_bad_front b x y room (no_tail long none) (no_root other r tail starts also) = absurd (none r tail)
one_bad_front b x y room (no_head long r tail none) (short less) = absurd (omega (arith, less, long))
one_bad_front b x y room (no_head long r tail none) (no_tail other also) = absurd (also r tail)
one_bad_front b x y room (no_head long r tail none) (no_head other s end also) = refl
one_bad_front b x y room (no_head long r tail none) (no_root other s end starts also) = absurd (none starts)
one_bad_front b x y room (no_root long r tail starts none) (short less) = absurd (omega (arith, less, long))
one_bad_front b x y room (no_root long r tail starts none) (no_tail other also) = absurd (also r tail)
one_bad_front b x y room (no_root long r tail starts none) (no_head other s end also) = absurd (also starts)
one_bad_front b x y room (no_root long r tail starts none) (no_root other s end begins also) = tail_same b r s room tail end

-- where a root stands, the front is not bad
front_with_root : (b : List ℕ) (root place at : ℕ) (ps : List Pointer) → length b < 2 ^ 64 → least_length ≤ length b → HasTail b root → HasHead b → HasRoot b root place ps → IsBadFront b at → ⊥
front_with_root b root place at ps room long tail starts there bad = good_front b root place ps at room (record { long = long; tail = tail; starts = starts; points = there }) bad

one_bad_outline : (b : List ℕ) (x y : ℕ) → length b < 2 ^ 64 → IsBadOutline b x → IsBadOutline b y → x ≡ y
one_bad_outline b x y room (in_front at bad) (in_front by also) = one_bad_front b at by room bad also
one_bad_outline b x y room (in_front at bad) (no_leaf long r tail starts p ps there by also) = absurd (front_with_root b r p at ps room long tail starts there bad)
one_bad_outline b x y room (no_leaf long r tail starts p ps there at bad) (in_front by also) = absurd (front_with_root b r p by ps room long tail starts there also)
one_bad_outline b x y room (no_leaf long r tail starts p ps there at bad) (no_leaf other s end begins q qs here by other_bad) =
    let same = tail_same b r s room tail end in
    let one = root_same b s p q ps qs (subst (λ (n : ℕ). HasRoot b n p ps) same there) here in
    let moved = subst (λ (n : ℕ). IsFirstBadLeaf (version_in b) n ps (between p n b) at) same bad in
    let bad_here = subst (λ (n : ℕ). IsFirstBadLeaf (version_in b) s qs (between n s b) at) one.1 (subst (λ (l : List Pointer). IsFirstBadLeaf (version_in b) s l (between p s b) at) one.0 moved) in
    one_bad_leaf (version_in b) s qs (between q s b) at by bad_here other_bad

-- ---- one outline

-- two outlines of one file say the same
pub record AreOneOutline (r s p q : ℕ) (ps qs : List Pointer) (es fs : List IndexEntry) : Type 0 where
  pub root : r ≡ s
  pub place : p ≡ q
  pub pointers : ps ≡ qs
  pub entries : es ≡ fs

pub one_outline : (b : List ℕ) (r s p q : ℕ) (ps qs : List Pointer) (es fs : List IndexEntry) → length b < 2 ^ 64 → HasOutline b r p ps es → HasOutline b s q qs fs → AreOneOutline r s p q ps qs es fs
one_outline b r s p q ps qs es fs room x y =
    let same = tail_same b r s room x.tail y.tail in
    let one = root_same b s p q ps qs (subst (λ (n : ℕ). HasRoot b n p ps) same x.points) y.points in
    let index : HasIndex b s q es = subst (λ (n : ℕ). HasIndex b s n es) one.1 (subst (λ (n : ℕ). HasIndex b n p es) same x.index) in
    record {
      root = same;
      place = one.1;
      pointers = one.0;
      entries = one_index (version_in b) q s (between q (tail_place b) b) es fs index.index.good y.index.index.good index.spelling y.index.spelling;
    }

-- ---- groups

halves : (cs : List Chunk) → AllByRecursion IsChunk cs → AllByRecursion HasParts cs → AllByRecursion IsWholeChunk cs
halves [] a b = tt
halves (c ∷ cs) a b = ((a.0, b.0), halves cs a.1 b.1)

full_from : (groups : List Group) → AllByRecursion IsGroup groups → AllByRecursion (λ (g : Group). IsPath g.device) groups → All HasParts (chunks_of groups) → AllByRecursion IsFullGroup groups
full_from [] good devices parts = tt
full_from (g ∷ gs) good devices parts =
    let n = length-append g.chunks (chunks_of gs) in
    let here : All HasParts g.chunks = λ k d lt. subst HasParts (get_or_append_left g.chunks (chunks_of gs) d k lt) (parts k d (omega (arith, lt, n))) in
    let others : All HasParts (chunks_of gs) = λ k d lt. subst HasParts (get_or-append-add g.chunks (chunks_of gs) k d) (parts (length g.chunks + k) d (omega (arith, lt, n))) in (
      record {
        device = devices.0;
        is = good.0;
        whole = halves g.chunks (recursion_from_All IsChunk g.chunks good.0.chunks) (recursion_from_All HasParts g.chunks here);
      },
      full_from gs good.1 devices.1 others,
    )

full_groups : (groups : List Group) → AreGroups groups → AllByRecursion IsFullGroup groups
full_groups groups good =
    full_from groups (recursion_from_All IsGroup groups good.groups_are) (recursion_from_All (λ (g : Group). IsPath g.device) groups good.devices) good.chunks

whole_groups : (groups : List Group) → AllByRecursion IsFullGroup groups → AllByRecursion IsWholeGroup groups
whole_groups [] full = tt
whole_groups (g ∷ gs) full = ((full.0.device, full.0.whole), whole_groups gs full.1)

-- the groups of a tree
pub groups_in : (tree : Tree) → IsTree tree → IsMade tree → AreGroups tree.groups
groups_in tree is made = record { some = is.some; groups_are = is.groups; rising = is.rising; devices = made.devices; chunks = made.chunks }

-- bytes that are groups have no bad part
no_bad_part : (bytes : List ℕ) (groups : List Group) (from at : ℕ) → AreGroups groups → bytes ≡ flat_map group_field groups → IsFirstBadPart from bytes at → ⊥
no_bad_part bytes groups from at good is bad =
    let full = full_groups groups good in
    none_bad bytes from at (after_groups groups []) (good_groups groups full good.rising) (groups_end groups good.some full) (is ∙ sym (groups_text groups [])) bad

-- what an index says of the same groups is the same
said_same : (version : ℕ) (bytes : List ℕ) (s t : Tree) (xs ys : List IndexEntry) → AreGroups s.groups → AreGroups t.groups → bytes ≡ flat_map group_field s.groups → bytes ≡ flat_map group_field t.groups
    → AreEntriesIn s xs → AreEntriesIn t ys → All (HasSums version) xs → All (HasSums version) ys → xs ≡ ys
said_same version bytes s t xs ys good_s good_t is_s is_t in_s in_t has_s has_t =
    let whole_s = whole_groups s.groups (full_groups s.groups good_s) in
    let whole_t = whole_groups t.groups (full_groups t.groups good_t) in
    let end : EndsGroups (73 ∷ []) = ([], refl) in
    let both : flat_map group_field s.groups ++ 73 ∷ [] ≡ flat_map group_field t.groups ++ 73 ∷ [] = ap (λ (l : List ℕ). l ++ 73 ∷ []) (sym is_s ∙ is_t) in
    let made : List Group → Tree = λ groups. record { groups = groups } in
    let same = (marked_same group_field IsWholeGroup 71 EndsGroups groups_marked s.groups t.groups (73 ∷ []) (73 ∷ []) whole_s whole_t end end both).0 in
    let moved : AreEntriesIn t xs = subst (λ (tree : Tree). AreEntriesIn tree xs) (ap made same) in_s in
    same_entries version t xs ys moved in_t has_s has_t

-- ---- one wrong leaf

-- what two lists have behind a row that is shorter than one that both begin with
record NextSame (us vs : List IndexEntry) : Type 0 where
  next : IndexEntry
  us_behind : List IndexEntry
  vs_behind : List IndexEntry
  us-are : us ≡ next ∷ us_behind
  vs-are : vs ≡ next ∷ vs_behind

next_same : (row long us vs xs ys : List IndexEntry) → length row < length long → row ++ us ≡ long ++ xs → row ++ vs ≡ long ++ ys → NextSame us vs
next_same [] [] us vs xs ys less same_u same_v = absurd (omega (arith, less))
next_same [] (a ∷ more) us vs xs ys less same_u same_v = record { next = a; us_behind = more ++ xs; vs_behind = more ++ ys; us-are = same_u; vs-are = same_v }
next_same (b ∷ bs) [] us vs xs ys less same_u same_v = absurd (omega (arith, less))
next_same (b ∷ bs) (a ∷ more) us vs xs ys less same_u same_v =
    let tail_u : bs ++ us ≡ more ++ xs = cc in
    let tail_v : bs ++ vs ≡ more ++ ys = cc in
    let shorter : length bs < length more = omega (arith, less) in
    next_same bs more us vs xs ys shorter tail_u tail_v

no_shorter : (es said : List IndexEntry) (m n : ℕ) → AreAlike es said m → AreAlike es said n → m < n → ⊥
no_shorter es said m n a b less =
    let shorter : length a.same < length b.same = omega (arith, less, a.number, b.number) in
    let next = next_same a.same b.same a.others a.others_said b.others b.others_said shorter (sym a.entries_are ∙ b.entries_are) (sym a.said_are ∙ b.said_are) in
    a.apart next.next next.next next.us_behind next.vs_behind next.us-are next.vs-are refl

one_count : (es said : List IndexEntry) (m n : ℕ) → AreAlike es said m → AreAlike es said n → m ≡ n
one_count es said m n a b = between_them m n (no_shorter es said m n a b) (no_shorter es said n m b a)
  where
    between_them : (m n : ℕ) → (m < n → ⊥) → (n < m → ⊥) → m ≡ n
    between_them zero zero up down = refl
    between_them zero (suc n) up down = absurd (up (omega arith))
    between_them (suc m) zero up down = absurd (down (omega arith))
    between_them (suc m) (suc n) up down = ap suc (between_them m n (λ less. up (omega (arith, less))) (λ less. down (omega (arith, less))))

one_pointer : (front behind other rest : List Pointer) (p q : Pointer) → length front ≡ length other → front ++ p ∷ behind ≡ other ++ q ∷ rest → p ≡ q
one_pointer [] behind [] rest p q size same = cc
one_pointer [] behind (o ∷ os) rest p q size same = absurd (omega (arith, size))
one_pointer (f ∷ fs) behind [] rest p q size same = absurd (omega (arith, size))
one_pointer (f ∷ fs) behind (o ∷ os) rest p q size same =
    let tail : fs ++ p ∷ behind ≡ os ++ q ∷ rest = cc in
    one_pointer fs behind os rest p q (omega (arith, size)) tail

one_wrong_leaf : (ps : List Pointer) (es said : List IndexEntry) (x y : ℕ) → IsFirstWrongLeaf ps es said x → IsFirstWrongLeaf ps es said y → x ≡ y
one_wrong_leaf ps es said x y a b =
    let count = one_count es said a.count b.count a.alike b.alike in
    let number : length a.before ≡ length b.before = a.number ∙ ap (λ (n : ℕ). min n (length es - 1) / max_leaf_entries) count ∙ sym b.number in
    let one = one_pointer a.before a.behind b.before b.behind a.pointer b.pointer number (sym a.pointers_are ∙ b.pointers_are) in
    a.place ∙ ap (λ (p : Pointer). p.place) one ∙ sym b.place

-- ---- one place of blame

pub one_blame : (b : List ℕ) (x y : ℕ) → length b < 2 ^ 64 → IsBlamed b x → IsBlamed b y → x ≡ y
one_blame b x y room (outline at bad) (outline by other) = one_bad_outline b at by room bad other
one_blame b x y room (outline at bad) (part r p ps es has by other) = absurd (good_outline b r p ps es at room has bad)
one_blame b x y room (outline at bad) (leaf r p ps es has tree said groups by other) = absurd (good_outline b r p ps es at room has bad)
one_blame b x y room (part r p ps es has at bad) (outline by other) = absurd (good_outline b r p ps es by room has other)
one_blame b x y room (part r p ps es has at bad) (part s q qs fs also by other) =
    let one = one_outline b r s p q ps qs es fs room has also in
    one_place (data_in q b) head_length at by (subst (λ (n : ℕ). IsFirstBadPart head_length (data_in n b) at) one.place bad) other
one_blame b x y room (part r p ps es has at bad) (leaf s q qs fs also tree said groups by other) =
    let one = one_outline b r s p q ps qs es fs room has also in
    absurd (no_bad_part (data_in q b) tree.groups head_length at groups.good groups.bytes_are (subst (λ (n : ℕ). IsFirstBadPart head_length (data_in n b) at) one.place bad))
one_blame b x y room (leaf r p ps es has tree said groups at bad) (outline by other) = absurd (good_outline b r p ps es by room has other)
one_blame b x y room (leaf r p ps es has tree said groups at bad) (part s q qs fs also by other) =
    let one = one_outline b r s p q ps qs es fs room has also in
    absurd (no_bad_part (data_in p b) tree.groups head_length by groups.good groups.bytes_are (subst (λ (n : ℕ). IsFirstBadPart head_length (data_in n b) by) (sym one.place) other))
one_blame b x y room (leaf r p ps es has tree said groups at bad) (leaf s q qs fs also tree2 said2 groups2 by other) =
    let one = one_outline b r s p q ps qs es fs room has also in
    let here : data_in q b ≡ flat_map group_field tree.groups = ap (λ (n : ℕ). data_in n b) (sym one.place) ∙ groups.bytes_are in
    let saids = said_same (version_in b) (data_in q b) tree tree2 said said2 groups.good groups2.good here groups2.bytes_are groups.say groups2.say groups.sums groups2.sums in
    let moved : IsFirstWrongLeaf qs fs said2 at = subst (λ (l : List IndexEntry). IsFirstWrongLeaf qs fs l at) saids
    (subst (λ (l : List IndexEntry). IsFirstWrongLeaf qs l said at) one.entries (subst (λ (l : List Pointer). IsFirstWrongLeaf l es said at) one.pointers bad)) in
    one_wrong_leaf qs fs said2 at by moved other

-- ---- a tree's file

-- the groups of a tree stand between the head and the first leaf
tree_data : (tree : Tree) (b : List ℕ) (file : IsFile tree b) → data_in (length (data_field file.version tree)) b ≡ flat_map group_field tree.groups
tree_data tree b file =
    let groups = flat_map group_field tree.groups in
    let rest = file.index_bytes ++ (number64 file.root ++ magic) in
    let apart = file_apart tree b file in
    let behind : drop head_length b ≡ flat_map group_field tree.groups ++ (file.index_bytes ++ (number64 file.root ++ magic)) =
    ap (λ (l : List ℕ). drop head_length l) apart ∙ drop_at (head file.version) (groups ++ rest) head_length refl in
    let n = length-append (head file.version) groups in
    let size : length (flat_map group_field tree.groups) ≡ length (data_field file.version tree) - head_length = omega (arith, n) in
    ap (λ (l : List ℕ). take (length (data_field file.version tree) - head_length) l) behind ∙ take_at groups rest (length (data_field file.version tree) - head_length) size

pub not_blamed : (b : List ℕ) (at : ℕ) → length b < 2 ^ 64 → IsBlamed b at → IsNoFile b
not_blamed b at room (outline by bad) = λ tree is made file. tree_not_bad tree b by room is made file bad
not_blamed b at room (part r p ps es has by bad) = λ tree is made file.
    let place = (outline_of_tree tree b r p ps es room is made file has).0 in
    let here : data_in p b ≡ flat_map group_field tree.groups = ap (λ (n : ℕ). data_in n b) place ∙ tree_data tree b file in
    no_bad_part (data_in p b) tree.groups head_length by (groups_in tree is made) here bad
not_blamed b at room (leaf r p ps es has tree said groups by bad) = λ other is made file.
    let of_tree = outline_of_tree other b r p ps es room is made file has in
    let here : data_in p b ≡ flat_map group_field other.groups = ap (λ (n : ℕ). data_in n b) of_tree.0 ∙ tree_data other b file in
    bad.wrong (said_same (version_in b) (data_in p b) other tree es said (groups_in other is made) groups.good here groups.bytes_are of_tree.1 groups.say of_tree.2 groups.sums)

-- ---- what is whole is a tree's file

-- bytes in four: the head, what stands up to two places, and the rest
four : (b : List ℕ) (p t : ℕ) → 7 ≤ p → p ≤ t → t ≤ length b → b ≡ ((take 7 b ++ between 7 p b) ++ between p t b) ++ drop t b
four b p t low mid high =
    let one : between 7 p b ++ drop p b ≡ drop 7 b = pair b 7 p low in
    let two : between p t b ++ drop t b ≡ drop p b = pair b p t mid in
    sym (append_assoc (take 7 b ++ between 7 p b) (between p t b) (drop t b) ∙ ap (λ (l : List ℕ). (take 7 b ++ between 7 p b) ++ l) two ∙ append_assoc (take 7 b) (between 7 p b) (drop p b)
    ∙ ap (λ (l : List ℕ). take 7 b ++ l) one ∙ take-append-drop 7 b)
  where
    pair : (b : List ℕ) (x y : ℕ) → x ≤ y → between x y b ++ drop y b ≡ drop x b
    pair b x y low =
        let n : y ≡ x + (y - x) = omega (arith, low) in
        let far : drop y b ≡ drop (y - x) (drop x b) = ap (λ (k : ℕ). drop k b) n ∙ sym (drop-drop (y - x) x b) in
        ap (λ (l : List ℕ). between x y b ++ l) far ∙ take-append-drop (y - x) (drop x b)

-- the tree of groups that stand behind the head, of which the index says what the groups are
pub record IsTreeOf (tree : Tree) (b : List ℕ) (entries : List IndexEntry) : Type 0 where
  pub is : IsTree tree
  pub made : IsMade tree
  pub file : IsFile tree b
  pub say : AreEntriesIn tree entries

pub tree_of : (b : List ℕ) (root place : ℕ) (ps : List Pointer) (es said : List IndexEntry) (tree : Tree) → HasOutline b root place ps es → HasGroups (version_in b) (data_in place b) tree said → es ≡ said → IsTreeOf tree b es
tree_of b root place ps es said tree has groups same =
    let good = groups.good in
    let say : AreEntriesIn tree es = subst (AreEntriesIn tree) (sym same) groups.say in
    let count = entries_counted tree es say in
    let few = has.index.index.few in
    let r = rises b root place ps has.points in
    let low = r.low in
    let high = r.high in
    let behind = has.points.behind_head in
    let long = has.long in
    let front : take 7 b ++ between 7 place b ≡ data_field (version_in b) tree = ap (λ (l : List ℕ). l ++ between 7 place b) has.starts.1 ∙ ap (λ (l : List ℕ). head (version_in b) ++ l) groups.bytes_are in
    let size_head : length (take 7 b) ≡ 7 = length-take-le 7 b (omega (arith, long)) in
    let size_rest = length_between b 7 place (omega (arith, low, high)) in
    let n = length-append (take 7 b) (between 7 place b) in
    let m = ap length front in
    let place_is : place ≡ length (data_field (version_in b) tree) = omega (arith, size_head, size_rest, n, m, behind) in
    let split = four b place (tail_place b) (omega (arith, behind)) (omega (arith, low, high)) (omega arith) in
    let tail : drop (tail_place b) b ≡ number64 root ++ magic = has.tail.bytes_are in
    record {
      is = record { some = good.some; few = omega (arith, count, few); groups = good.groups_are; rising = good.rising };
      made = record { devices = good.devices; chunks = good.chunks };
      file = record {
        version = version_in b;
        known = has.starts.0;
        entries = es;
        root = root;
        index_bytes = between place (tail_place b) b;
        say = say;
        sums = subst (λ (l : List IndexEntry). All (HasSums (version_in b)) l) (sym same) groups.sums;
        index_is = subst (λ (p : ℕ). IsIndexSpelling p root es (between place (tail_place b) b)) place_is has.index.spelling;
        bytes_are =
            split ∙ ap (λ (l : List ℕ). (l ++ between place (tail_place b) b) ++ drop (tail_place b) b) front ∙ ap (λ (l : List ℕ). (data_field (version_in b) tree ++ between place (tail_place b) b) ++ l) tail
            ∙ sym (append_assoc (data_field (version_in b) tree ++ between place (tail_place b) b) (number64 root) magic);
      };
      say = say;
    }
