-- A file has one outline, and one that has it is blamed nowhere in it.
use Rattle.std.proofs.Common.{◌≡◌, ℕ, ◌-◌, ◌<◌, ◌≤◌, ◌^◌, List, [], ◌∷◌, length, take, drop, Err, refl, sym, ap, subst, ◌∙◌, arith}
use Rattle.std.specs.Prelude.{All, Option, None, Some, IfSome, IfOk}
use Rattle.std.specs.List.{flat_map}
use Rattle.tsdb_base.specs.FieldLaws.{number64-prefix_free}
use Rattle.tsdb_index.specs.declared.index.Index.{Index}
use Rattle.tsdb_index.specs.declared.index.IndexEntry.{IndexEntry}
use Rattle.tsdb_index.specs.declared.pointer.Pointer.{Pointer}
use Rattle.tsdb_index.specs.Faults.{IsIndexRead}
use Rattle.tsdb_index.specs.Parts.{AreLeavesAt, BeginAt, IsFirstBadLeaf, IsRoot}
use Rattle.tsdb_index.proofs.Roots.{pointers_same, root_counted}
use Rattle.tsdb_index.proofs.Whole.{index_parts, no_bad_leaf}
use Rattle.tsdb_pages.specs.declared.tree.Tree.{Tree}
use Rattle.tsdb_index.specs.Versions.{IsVersion}
use Rattle.tsdb_pages.specs.File.{AreEntriesIn, HasSums, IsFile, data_field, head, magic, version_in}
use Rattle.tsdb_pages.specs.Trees.{IsMade, IsTree}
use Rattle.tsdb_pages.proofs.OneFile.{version_is}
use Rattle.tsdb_pages.proofs.Places.{file_ends}
use Rattle.tsdb_pages.proofs.TreeIndex.{entries_are_index, read_is}
use Rattle.tsfile_reader.specs.declared.ends.Ends.{Ends}
use Rattle.tsfile_reader.specs.declared.fault.ReadFault.{ReadFault}
use Rattle.tsfile_reader.specs.declared.fault.ReadFault.TheVariants.{Failed, Damaged, Memory}
use Rattle.tsfile_reader.specs.Answers.{Answers, IfDamaged, IsNotDamaged}
use Rattle.tsfile_reader.specs.Meta.{IsMetaOf}
use Rattle.tsfile_reader.specs.Outline.{HasFront, HasIndex, HasOutline, HasRoot, HasTail, IsBadFront, IsBadOutline, between, in_front, no_head, no_leaf, no_root, no_tail, short, tail_place}
use Rattle.tsfile_reader.specs.Steps.{IsOutlineIn}
use Rattle.tsfile_reader.proofs.Outlines.{before_tail, between_back, between_front, first_inside, length_between}

pub tail_same : (b : List ℕ) (r s : ℕ) → length b < 2 ^ 64 → HasTail b r → HasTail b s → r ≡ s
tail_same b r s room x y =
    let low_x = x.inside in
    let low_y = y.inside in
    (number64-prefix_free r s magic magic (omega (arith, low_x, room)) (omega (arith, low_y, room)) (sym x.bytes_are ∙ y.bytes_are)).0

one_begin : (p q : ℕ) (ps : List Pointer) → BeginAt p ps → BeginAt q ps → p ≡ q
one_begin p q [] x y = absurd x
one_begin p q (r ∷ rs) x y = sym x ∙ y

pub root_same : (b : List ℕ) (r p q : ℕ) (ps qs : List Pointer) → HasRoot b r p ps → HasRoot b r q qs → (ps ≡ qs) × (p ≡ q)
root_same b r p q ps qs x y =
    let bytes = between r (tail_place b) b in
    let same = pointers_same bytes ps qs (root_counted p r bytes ps x.is) (root_counted q r bytes qs y.is) in
    (same, one_begin p q qs (subst (λ (l : List Pointer). BeginAt p l) same x.is.begin) y.is.begin)

-- the places of an outline rise
pub record Rises (b : List ℕ) (root place : ℕ) : Type 0 where
  pub low : place < root
  pub high : root < tail_place b

pub rises : (b : List ℕ) (root place : ℕ) (ps : List Pointer) → HasRoot b root place ps → Rises b root place
rises b root place ps has = record {
  low = first_inside place root (between root (tail_place b) b) ps has.is;
  high = before_tail b (between root (tail_place b) b) root ps refl (root_counted place root (between root (tail_place b) b) ps has.is);
}

-- the leaves stand at the pointers
pub leaves_there : (b : List ℕ) (root place : ℕ) (ps : List Pointer) (es : List IndexEntry) → length b < 2 ^ 64 → HasRoot b root place ps → HasIndex b root place es → (leaves : List (List IndexEntry)) × AreLeavesAt (version_in b) root ps (between place root b) leaves × (es ≡ flat_map (λ leaf. leaf) leaves)
leaves_there b root place ps es room has index =
    let r = rises b root place ps has in
    let low = r.low in
    let high = r.high in
    let stretch = between place (tail_place b) b in
    let n = length_between b place (tail_place b) (omega arith) in
    let parts = index_parts (version_in b) place root stretch es (omega (arith, low)) (omega (arith, n, low, high)) (omega (arith, n, low, high, room)) index in
    let qs = parts.pointers_are in
    let back = between_back b place root (tail_place b) (omega (arith, low)) (omega (arith, high)) in
    let front = between_front b place root (tail_place b) (omega (arith, low)) (omega (arith, high)) in
    let there : HasRoot b root place parts.pointers_are = record { behind_head = has.behind_head; is = subst (λ (l : List ℕ). IsRoot place root l parts.pointers_are) back parts.is-root } in
    let same = (root_same b root place place qs ps there has).0 in
    (parts.leaves, subst (λ (l : List ℕ). AreLeavesAt (version_in b) root ps l parts.leaves) front (subst (λ (l : List Pointer). AreLeavesAt (version_in b) root l (take (root - place) (between place (tail_place b) b)) parts.leaves) same parts.leaves-are), sym parts.all)

-- the parts before the leaves
pub front_of : (b : List ℕ) (root place : ℕ) (ps : List Pointer) (es : List IndexEntry) → HasOutline b root place ps es → HasFront b root place ps
front_of b root place ps es has = record { long = has.long; tail = has.tail; starts = has.starts; points = has.points }

pub good_front : (b : List ℕ) (root place : ℕ) (ps : List Pointer) (at : ℕ) → length b < 2 ^ 64 → HasFront b root place ps → IsBadFront b at → ⊥
good_front b root place ps at room has (short less) = let long = has.long in omega (arith, less, long)
good_front b root place ps at room has (no_tail long none) = none root has.tail
good_front b root place ps at room has (no_head long other tail none) = none has.starts
good_front b root place ps at room has (no_root long other tail starts none) =
    none place ps (subst (λ (r : ℕ). HasRoot b r place ps) (tail_same b root other room has.tail tail) has.points)

pub good_outline : (b : List ℕ) (root place : ℕ) (ps : List Pointer) (es : List IndexEntry) (at : ℕ) → length b < 2 ^ 64 → HasOutline b root place ps es → IsBadOutline b at → ⊥
good_outline b root place ps es at room has (in_front at_front is_bad) = good_front b root place ps at_front room (front_of b root place ps es has) is_bad
good_outline b root place ps es at room has (no_leaf long other tail starts q qs there at_leaf is_bad) =
    let same = tail_same b other root room tail has.tail in
    let here = subst (λ (r : ℕ). HasRoot b r q qs) same there in
    let one = root_same b root q place qs ps here has.points in
    let leaves = leaves_there b root place ps es room has.points has.index in
    let bad_here : IsFirstBadLeaf (version_in b) root ps (between place root b) at_leaf =
    subst (λ (p : ℕ). IsFirstBadLeaf (version_in b) root ps (between p root b) at_leaf) one.1 (subst (λ (l : List Pointer). IsFirstBadLeaf (version_in b) root l (between q root b) at_leaf) one.0 (subst (λ (r : ℕ). IsFirstBadLeaf (version_in b) r qs (between q r b) at_leaf) same is_bad)) in
    no_bad_leaf (version_in b) root ps (between place root b) leaves.0 at_leaf leaves.1 bad_here

-- ---- the outline of a tree's file

pub record TreeOutline (tree : Tree) (b : List ℕ) (file : IsFile tree b) : Type 0 where
  pub pointers : List Pointer
  pub outline : HasOutline b file.root (length (data_field file.version tree)) pointers file.entries
  pub index_is : between (length (data_field file.version tree)) (tail_place b) b ≡ file.index_bytes

pub tree_outline : (tree : Tree) (b : List ℕ) → length b < 2 ^ 64 → IsTree tree → IsMade tree → (file : IsFile tree b) → TreeOutline tree b file
tree_outline tree b room is made file =
    let ends = file_ends tree b file in
    let place = length (data_field file.version tree) in
    let size = ends.size in
    let some : 7 ≤ length (data_field file.version tree) = length_head file.version tree in
    let above = ends.begins.above in
    let inside = ends.begins.inside in
    let tail_is : tail_place b - length (data_field file.version tree) ≡ length file.index_bytes = omega (arith, size) in
    let index : between (length (data_field file.version tree)) (tail_place b) b ≡ file.index_bytes = ap (λ (n : ℕ). take n (drop (length (data_field file.version tree)) b)) tail_is ∙ ends.index_stands.bytes_are in
    let read : IsIndexRead file.version (length (data_field file.version tree)) file.root file.index_bytes file.entries = record { index = entries_are_index file.version tree file.entries is made file.say file.sums (omega (arith, size, room)); spelling = file.index_is } in
    let version = version_is tree b file in
    let parts = index_parts file.version place file.root file.index_bytes file.entries (omega (arith, above)) (omega (arith, inside)) (omega (arith, size, room)) read in
    let back : drop (file.root - length (data_field file.version tree)) file.index_bytes ≡ between file.root (tail_place b) b =
    ap (λ (l : List ℕ). drop (file.root - length (data_field file.version tree)) l) (sym index) ∙ between_back b place file.root (tail_place b) (omega (arith, above)) (omega (arith, inside, size)) in
    record {
      pointers = parts.pointers_are;
      outline = record {
        long = omega (arith, size, some);
        tail = record { behind_head = omega (arith, some, above); inside = omega (arith, inside, size); bytes_are = ends.tail };
        starts = (subst IsVersion (sym version) file.known, ends.head.bytes_are ∙ ap head (sym version));
        points = record { behind_head = some; is = subst (λ (l : List ℕ). IsRoot (length (data_field file.version tree)) file.root l parts.pointers_are) back parts.is-root };
        index = subst (λ (n : ℕ). IsIndexRead n (length (data_field file.version tree)) file.root (between (length (data_field file.version tree)) (tail_place b) b) file.entries) (sym version)
            (subst (λ (l : List ℕ). IsIndexRead file.version (length (data_field file.version tree)) file.root l file.entries) (sym index) read);
      };
      index_is = index;
    }
  where
    length_head : (version : ℕ) (tree : Tree) → 7 ≤ length (data_field version tree)
    length_head version tree = omega arith

-- what an outline of a tree's file says are the tree's entries
pub outline_of_tree : (tree : Tree) (b : List ℕ) (root place : ℕ) (ps : List Pointer) (es : List IndexEntry) → length b < 2 ^ 64 → IsTree tree → IsMade tree → (file : IsFile tree b) → HasOutline b root place ps es
    → (place ≡ length (data_field file.version tree)) × AreEntriesIn tree es × All (HasSums (version_in b)) es
outline_of_tree tree b root place ps es room is made file has =
    let t = tree_outline tree b room is made file in
    let same = tail_same b root file.root room has.tail t.outline.tail in
    let points = subst (λ (r : ℕ). HasRoot b r place ps) same has.points in
    let one = root_same b file.root place (length (data_field file.version tree)) ps t.pointers points t.outline.points in
    let size = (file_ends tree b file).size in
    let read : IsIndexRead file.version (length (data_field file.version tree)) file.root file.index_bytes es =
    subst (λ (l : List ℕ). IsIndexRead file.version (length (data_field file.version tree)) file.root l es) t.index_is
    (subst (λ (n : ℕ). IsIndexRead n (length (data_field file.version tree)) file.root (between (length (data_field file.version tree)) (tail_place b) b) es) (version_is tree b file)
    (subst (λ (p : ℕ). IsIndexRead (version_in b) p file.root (between p (tail_place b) b) es) one.1 (subst (λ (r : ℕ). IsIndexRead (version_in b) place r (between place (tail_place b) b) es) same has.index))) in
    let entries_are = read_is tree b es is made file (omega (arith, size, room)) read in
    let sums = subst (λ (n : ℕ). All (HasSums n) file.entries) (sym (version_is tree b file)) file.sums in
    (one.1, subst (AreEntriesIn tree) entries_are file.say, subst (λ (l : List IndexEntry). All (HasSums (version_in b)) l) entries_are sums)

-- no part of the outline of a tree's file is bad
pub tree_not_bad : (tree : Tree) (b : List ℕ) (at : ℕ) → length b < 2 ^ 64 → IsTree tree → IsMade tree → IsFile tree b → IsBadOutline b at → ⊥
tree_not_bad tree b at room is made file bad =
    let t = tree_outline tree b room is made file in
    good_outline b file.root (length (data_field file.version tree)) t.pointers file.entries at room t.outline bad

-- ---- the exits of reading the index

pub meta_refused : {T S : Type 0} (o : Option (List ℕ)) (Is : List ℕ → T → Type 0) (P : Tree → List ℕ → S → Type 0) (fault : ReadFault) → Answers Is IsBadOutline o (Err fault) → IfDamaged {T = T} (Err fault) (λ at. IfSome o (λ b. length b < 2 ^ 63))
    → IfSome o (λ b. (tree : Tree) → IsTree tree → IsMade tree → IsFile tree b → IsNotDamaged {T = S} (Err fault) × IfOk {T = S} {E = ReadFault} (Err fault) (P tree b))
meta_refused None Is P fault answers limit = tt
meta_refused (Some b) Is P Failed answers limit = λ tree is made file. (tt, tt)
meta_refused (Some b) Is P (Damaged at) answers limit = λ tree is made file. absurd (tree_not_bad tree b at (omega (arith, limit)) is made file answers)
meta_refused (Some b) Is P Memory answers limit = λ tree is made file. (tt, tt)

pub meta_found : (o : Option (List ℕ)) (ends : Ends) (place : ℕ) (ps : List Pointer) (index : Index) → IfSome o (λ b. IsOutlineIn b ends place ps index)
    → IfSome o (λ b. (tree : Tree) → IsTree tree → IsMade tree → IsFile tree b → Unit {0} × IsMetaOf tree b (record { size = ends.size; version = ends.version; index = index }))
meta_found None ends place ps index has = tt
meta_found (Some b) ends place ps index has = λ tree is made file.
    let len = has.0 in
    let limit = ends.limit in
    let found = outline_of_tree tree b ends.root place ps index.entries (omega (arith, len, limit)) is made file has.1 in
    (tt, record { bytes_are = len; version_is = has.2; entries = found.1; sums = found.2 })
