-- An index, its root and its leaves.
use Rattle.std.proofs.Common.{◌≡◌, ℕ, suc, ◌+◌, ◌-◌, ◌*◌, ◌<◌, ◌≤◌, ◌^◌, List, [], ◌∷◌, ◌++◌, length, map, take, drop, ⊎_elim, inl, inr, Err, refl, sym, ap, subst, ◌∙◌, length-append, length-drop, arith}
use Rattle.std.specs.Prelude.{All}
use Rattle.std.specs.List.{flat_map, AllByRecursion}
use Rattle.std.proofs.lemmas.List.{append-nil, length-map, length-take-le, map-append, nil_from_length, take-append-drop, take_all, take_at, drop_at}
use Rattle.std.proofs.lemmas.List.Elements.{All-append, All-from_recursion, recursion_from_All}
use Rattle.tsdb_base.specs.Fields.{number32, number64}
use Rattle.tsdb_base.specs.Plain.{plain_text}
use Rattle.tsdb_index.specs.declared.index.IndexEntry.{IndexEntry}
use Rattle.tsdb_index.specs.declared.pointer.Pointer.{Pointer}
use Rattle.tsdb_index.specs.Entries.{AreInOrder, IsEntry, names_of}
use Rattle.tsdb_fields.specs.Order.{AreNamesBefore}
use Rattle.tsdb_fields.specs.declared.fault.FieldFault.{FieldFault}
use Rattle.tsdb_fields.specs.declared.fault.FieldFault.TheVariants as field
use Rattle.tsdb_index.specs.declared.fault.IndexFault.{IndexFault}
use Rattle.tsdb_index.specs.declared.fault.IndexFault.TheVariants as fault
use Rattle.tsdb_index.specs.Faults.{IsIndexFault, IsNone, IsIndexRead, ReadsWhole, as_index_fault}
use Rattle.tsdb_index.specs.Parts.{AreLeavesAt, BeginAt, BeginWith, IsFirstBadLeaf, IsFirstBadIndexPart, IsPointer, IsPointerBefore, IsRoot, leaf_end, pointer_bytes, pointer_names}
use Rattle.tsdb_index.specs.Spelling.{AreLeaves, leaf_field, pointer_field, pointers, root_field}
use Rattle.tsdb_index.specs.Steps.{AreSpread, ReadsLeaves}
use Rattle.tsdb_index.proofs.Roots.{pointers_same, root_counted}
use Rattle.tsdb_index.proofs.Orders.{first_before, order_back, order_front, order_join}
use Rattle.tsdb_fields.proofs.Order.{before_trans}

abbrev Leaf : Type 0
Leaf = List IndexEntry

-- the entries of leaves
abbrev pub all_of : List Leaf → List IndexEntry
all_of leaves = flat_map (λ leaf. leaf) leaves

-- ---- from the root and its leaves to the index

-- where the leaves of these pointers stand, and what they make
pub record AreWhole (version : ℕ) (pointer : Pointer) (behind : List Pointer) (bytes : List ℕ) (leaves : List Leaf) : Type 0 where
  pub sizes : AreLeaves leaves
  pub good : All (IsEntry version) (all_of leaves)
  pub names : List (List ℕ × List ℕ)
  pub begin : map names_of (all_of leaves) ≡ pointer_names pointer ∷ names
  pub order : AreInOrder AreNamesBefore (map names_of (all_of leaves))
  pub bytes_are : bytes ≡ flat_map leaf_field leaves
  pub pointers_are : pointers pointer.place leaves ≡ flat_map pointer_bytes (pointer ∷ behind)
  pub count : length leaves ≡ length (pointer ∷ behind)
  pub most : length (all_of leaves) ≤ 256 * length leaves

-- the first entry's names, and those behind it
record Begins (pointer : Pointer) (leaf : Leaf) : Type 0 where
  first : IndexEntry
  others : Leaf
  is : leaf ≡ first ∷ others
  same : names_of first ≡ pointer_names pointer

begins : (pointer : Pointer) (leaf : Leaf) → BeginWith pointer leaf → Begins pointer leaf
begins pointer [] with_it = absurd with_it
begins pointer (first ∷ others) with_it = record { first = first; others = others; is = refl; same = with_it }

pointer_same : (pointer : Pointer) (first : IndexEntry) → names_of first ≡ pointer_names pointer → pointer_field first pointer.place ≡ pointer_bytes pointer
pointer_same pointer first same = ap (λ (n : List ℕ × List ℕ). plain_text n.0 ++ plain_text n.1 ++ number64 pointer.place) same

pub leaves_make : (version root : ℕ) (pointer : Pointer) (behind : List Pointer) (bytes : List ℕ) (leaves : List Leaf) → AreSpread root (pointer ∷ behind) (length bytes) → AreLeavesAt version root (pointer ∷ behind) bytes leaves → AreWhole version pointer behind bytes leaves
leaves_make version root pointer behind bytes [] spread are = absurd are
leaves_make version root pointer [] bytes (leaf ∷ []) spread are =
    let here = are.0 in
    let b = begins pointer leaf here.begin in
    let all : take (root - pointer.place) bytes ≡ bytes = take_all (root - pointer.place) bytes (let s = spread.0 in omega (arith, s)) in
    let flat : leaf ++ [] ≡ leaf = append-nil leaf in
    record {
      sizes = here.size;
      good = subst (λ (l : Leaf). All (IsEntry version) l) (sym flat) here.good;
      names = map names_of b.others;
      begin = ap (map names_of) flat ∙ ap (map names_of) b.is ∙ ap (λ (n : List ℕ × List ℕ). n ∷ map names_of b.others) b.same;
      order = subst (λ (ns : List (List ℕ × List ℕ)). AreInOrder AreNamesBefore ns) (append-nil (map names_of leaf) ∙ ap (map names_of) (sym flat)) here.rising;
      bytes_are = sym all ∙ here.bytes_are ∙ sym (append-nil (leaf_field leaf));
      pointers_are = ap (λ (l : Leaf). pointers pointer.place (l ∷ [])) b.is ∙ ap (λ (l : List ℕ). l ++ []) (pointer_same pointer b.first b.same);
      count = refl;
      most = let n = ap length flat in let few = here.size.1 in omega (arith, n, few);
    }
leaves_make version root pointer [] bytes (leaf ∷ other ∷ others) spread are = absurd are.1
leaves_make version root pointer (next ∷ behind) bytes (leaf ∷ []) spread are = absurd are.1
leaves_make version root pointer (next ∷ behind) bytes (leaf ∷ other ∷ others) spread are =
    let here = are.0 in
    let size = next.place - pointer.place in
    let b = begins pointer leaf here.begin in
    let rest = leaves_make version root next behind (drop (next.place - pointer.place) bytes) (other ∷ others)
    (subst (λ (n : ℕ). AreSpread root (next ∷ behind) n) (sym (length-drop (next.place - pointer.place) bytes)) spread.2) are.1 in
    let room : next.place + (length bytes - (next.place - pointer.place)) ≡ root = spread.2.0 in
    let inside : next.place - pointer.place ≤ length bytes = let s = spread.0 in let t = spread.1 in omega (arith, room, s, t) in
    let len : length (leaf_field leaf) ≡ next.place - pointer.place = ap length (sym here.bytes_are) ∙ length-take-le (next.place - pointer.place) bytes inside in
    let place : pointer.place + length (leaf_field leaf) ≡ next.place = let t = spread.1 in omega (arith, len, t) in
    let front : AreInOrder AreNamesBefore (map names_of leaf ++ pointer_names next ∷ []) = here.rising in
    let back : AreInOrder AreNamesBefore (pointer_names next ∷ rest.names) = subst (λ (ns : List (List ℕ × List ℕ)). AreInOrder AreNamesBefore ns) rest.begin rest.order in
    let names : map names_of (leaf ++ all_of (other ∷ others)) ≡ map names_of leaf ++ pointer_names next ∷ rest.names = map-append names_of leaf (all_of (other ∷ others)) ∙ ap (λ (ns : List (List ℕ × List ℕ)). map names_of leaf ++ ns) rest.begin in
    record {
      sizes = (here.size, rest.sizes);
      good = All-append (IsEntry version) leaf (all_of (other ∷ others)) here.good rest.good;
      names = map names_of b.others ++ pointer_names next ∷ rest.names;
      begin = names ∙ ap (λ (l : Leaf). map names_of l ++ pointer_names next ∷ rest.names) b.is ∙ ap (λ (n : List ℕ × List ℕ). n ∷ (map names_of b.others ++ pointer_names next ∷ rest.names)) b.same;
      order = subst (λ (ns : List (List ℕ × List ℕ)). AreInOrder AreNamesBefore ns) (sym names) (order_join AreNamesBefore (map names_of leaf) (pointer_names next) rest.names front back);
      bytes_are = sym (take-append-drop (next.place - pointer.place) bytes) ∙ ap (λ (l : List ℕ). l ++ drop (next.place - pointer.place) bytes) here.bytes_are ∙ ap (λ (l : List ℕ). leaf_field leaf ++ l) rest.bytes_are;
      pointers_are =
          ap (λ (l : Leaf). pointers pointer.place (l ∷ other ∷ others)) b.is
          ∙ ap (λ (l : List ℕ). l ++ pointers (pointer.place + length (leaf_field (b.first ∷ b.others))) (other ∷ others)) (pointer_same pointer b.first b.same)
          ∙ ap (λ (n : ℕ). pointer_bytes pointer ++ pointers n (other ∷ others)) (ap (λ (l : Leaf). pointer.place + length (leaf_field l)) (sym b.is) ∙ place)
          ∙ ap (λ (l : List ℕ). pointer_bytes pointer ++ l) rest.pointers_are;
      count = ap suc rest.count;
      most = let n = length-append leaf (all_of (other ∷ others)) in let few = here.size in let m = rest.most in omega (arith, n, few, m);
    }

-- pointers in order, of which the first stands so far before the root, are spread over the bytes before the root
pub spread : (root : ℕ) (pointer : Pointer) (behind : List Pointer) (left : ℕ) → pointer.place + left ≡ root → AreInOrder IsPointerBefore (pointer ∷ behind) → AllByRecursion (λ (p : Pointer). p.place < root) (pointer ∷ behind) → AreSpread root (pointer ∷ behind) left
spread root pointer [] left whole order inside = (whole, omega (arith, whole), omega (arith, whole))
spread root pointer (next ∷ behind) left whole order inside =
    let less = order.0.1 in
    let low = inside.1.0 in
    (whole, omega (arith, less), spread root next behind (left - (next.place - pointer.place)) (omega (arith, whole, less, low)) order.1 inside.1)

-- all of a root
pub spread_at : (place root : ℕ) (bytes : List ℕ) (ps : List Pointer) (leaves : List ℕ) → IsRoot place root bytes ps → place + length leaves ≡ root → AreSpread root ps (length leaves)
spread_at place root bytes [] leaves is whole = absurd is.begin
spread_at place root bytes (p ∷ ps) leaves is whole =
    spread root p ps (length leaves) (ap (λ (n : ℕ). n + length leaves) is.begin ∙ whole) is.rising (recursion_from_All (λ (q : Pointer). q.place < root) (p ∷ ps) is.inside)

-- the root and the leaves at its pointers are an index
pub index_of : (version place root : ℕ) (bytes : List ℕ) (ps : List Pointer) (leaves : List Leaf) → place + length (take (root - place) bytes) ≡ root → IsRoot place root (drop (root - place) bytes) ps
    → AreLeavesAt version root ps (take (root - place) bytes) leaves → IsIndexRead version place root bytes (all_of leaves)
index_of version place root bytes [] leaves whole is are = absurd is.begin
index_of version place root bytes (p ∷ ps) leaves whole is are =
    let w = leaves_make version root p ps (take (root - place) bytes) leaves (spread_at place root (drop (root - place) bytes) (p ∷ ps) (take (root - place) bytes) is whole) are in
    let first : p.place ≡ place = is.begin in
    let few = is.few in
    let count = w.count in
    let most = w.most in
    record {
      index = record {
        some = let n : length (map names_of (all_of leaves)) ≡ suc (length w.names) = ap length w.begin in let m = length-map (all_of leaves) names_of in omega (arith, n, m);
        few = omega (arith, most, count, few);
        good = w.good;
        rising = w.order;
      };
      spelling = record {
        leaves = leaves;
        stand = record { sizes = w.sizes; all = refl };
        root_place = sym whole ∙ ap (λ (l : List ℕ). place + length l) w.bytes_are;
        bytes_are =
            let root_is : drop (root - place) bytes ≡ root_field place leaves =
            is.bytes_are ∙ ap (λ (l : List ℕ). 82 ∷ number32 (length (p ∷ ps)) ++ l) (sym w.pointers_are) ∙ ap (λ (n : ℕ). 82 ∷ number32 n ++ pointers p.place leaves) (sym w.count) ∙ ap (λ (n : ℕ). 82 ∷ number32 (length leaves) ++ pointers n leaves) first in
            sym (take-append-drop (root - place) bytes) ∙ ap (λ (l : List ℕ). l ++ drop (root - place) bytes) w.bytes_are ∙ ap (λ (l : List ℕ). flat_map leaf_field leaves ++ l) root_is;
      };
    }

-- ---- from an index to its root and its leaves

-- the pointers at leaves that stand one behind another from a place on
abbrev pub pointer_list : ℕ → List Leaf → List Pointer
pointer_list place [] = []
pointer_list place ([] ∷ leaves) = pointer_list (place + length (leaf_field [])) leaves
pointer_list place ((e ∷ es) ∷ leaves) = record { device = e.device; measurement = e.measurement; place = place } ∷ pointer_list (place + length (leaf_field (e ∷ es))) leaves

-- these pointers point at these leaves, which stand from the place up to the root
pub record ArePointers (version root place : ℕ) (leaves : List Leaf) (ps : List Pointer) : Type 0 where
  pub begin : BeginAt place ps
  pub count : length ps ≡ length leaves
  pub good : AllByRecursion IsPointer ps
  pub rising : AreInOrder IsPointerBefore ps
  pub inside : AllByRecursion (λ (p : Pointer). p.place < root) ps
  pub pointers_are : pointers place leaves ≡ flat_map pointer_bytes ps
  pub leaves-are : AreLeavesAt version root ps (flat_map leaf_field leaves) leaves

pub every_left : {A : Type 0} (P : A → Type 0) (xs ys : List A) → AllByRecursion P (xs ++ ys) → AllByRecursion P xs
every_left P [] ys every = tt
every_left P (x ∷ xs) ys every = (every.0, every_left P xs ys every.1)

pub every_right : {A : Type 0} (P : A → Type 0) (xs ys : List A) → AllByRecursion P (xs ++ ys) → AllByRecursion P ys
every_right P [] ys every = every
every_right P (x ∷ xs) ys every = every_right P xs ys every.1

leaf_grows : (place : ℕ) (leaf : Leaf) → place < place + length (leaf_field leaf)
leaf_grows place leaf = omega arith

pub pointers_of : (version root place : ℕ) (leaves : List Leaf) → AreLeaves leaves → AllByRecursion (IsEntry version) (all_of leaves) → AreInOrder AreNamesBefore (map names_of (all_of leaves)) → place + length (flat_map leaf_field leaves) ≡ root → root < 2 ^ 64
    → ArePointers version root place leaves (pointer_list place leaves)
pointers_of version root place [] sizes good order whole small = absurd sizes
pointers_of version root place ([] ∷ []) sizes good order whole small = absurd (let some = sizes.0 in omega (arith, some))
pointers_of version root place ([] ∷ next ∷ leaves) sizes good order whole small = absurd (let some = sizes.0 in omega (arith, some))
pointers_of version root place ((e ∷ es) ∷ []) sizes good order whole small =
    let leaf = e ∷ es in
    let n = length-append (leaf_field (e ∷ es)) [] in
    let all : take (root - place) (leaf_field (e ∷ es) ++ []) ≡ leaf_field (e ∷ es) = take_all (root - place) (leaf_field (e ∷ es) ++ []) (omega (arith, whole)) ∙ append-nil (leaf_field (e ∷ es)) in
    let flat : all_of ((e ∷ es) ∷ []) ≡ e ∷ es = append-nil (e ∷ es) in
    record {
      begin = refl;
      count = refl;
      good = (record { device = good.0.device; measurement = good.0.measurement; place = omega (arith, whole, small) }, tt);
      rising = tt;
      inside = (let g = leaf_grows place (e ∷ es) in omega (arith, whole, g, n), tt);
      pointers_are = refl;
      leaves-are = (
        record {
          size = sizes;
          good = All-from_recursion (IsEntry version) (e ∷ es) (subst (λ (l : Leaf). AllByRecursion (IsEntry version) l) flat good);
          begin = refl;
          rising = subst (λ (ns : List (List ℕ × List ℕ)). AreInOrder AreNamesBefore ns) (ap (map names_of) flat ∙ sym (append-nil (map names_of (e ∷ es)))) order;
          bytes_are = all;
        },
        nil_from_length (drop (root - place) (leaf_field (e ∷ es) ++ [])) (length-drop (root - place) (leaf_field (e ∷ es) ++ []) ∙ omega (arith, whole)),
      );
    }
pointers_of version root place ((e ∷ es) ∷ [] ∷ []) sizes good order whole small = absurd (let some = sizes.1.0 in omega (arith, some))
pointers_of version root place ((e ∷ es) ∷ [] ∷ next ∷ leaves) sizes good order whole small = absurd (let some = sizes.1.0 in omega (arith, some))
pointers_of version root place ((e ∷ es) ∷ (f ∷ fs) ∷ leaves) sizes good order whole small =
    let leaf_bytes = leaf_field (e ∷ es) in
    let rest_bytes = flat_map leaf_field ((f ∷ fs) ∷ leaves) in
    let n = length-append leaf_bytes rest_bytes in
    let ordered : AreInOrder AreNamesBefore (map names_of (e ∷ es) ++ names_of f ∷ map names_of (fs ++ all_of leaves)) = subst (λ (ns : List (List ℕ × List ℕ)). AreInOrder AreNamesBefore ns) (map-append names_of (e ∷ es) (all_of ((f ∷ fs) ∷ leaves))) order in
    let front : AreInOrder AreNamesBefore (map names_of (e ∷ es) ++ names_of f ∷ []) = order_front AreNamesBefore (map names_of (e ∷ es)) (names_of f) (map names_of (fs ++ all_of leaves)) ordered in
    let back : AreInOrder AreNamesBefore (map names_of (all_of ((f ∷ fs) ∷ leaves))) = order_back AreNamesBefore (map names_of (e ∷ es)) (names_of f ∷ map names_of (fs ++ all_of leaves)) ordered in
    let behind : place + length (leaf_field (e ∷ es)) + length (flat_map leaf_field ((f ∷ fs) ∷ leaves)) ≡ root = omega (arith, whole, n) in
    let rest = pointers_of version root (place + length (leaf_field (e ∷ es))) ((f ∷ fs) ∷ leaves) sizes.1 (every_right (IsEntry version) (e ∷ es) (all_of ((f ∷ fs) ∷ leaves)) good) back behind small in
    let size : length (leaf_field (e ∷ es)) ≡ place + length (leaf_field (e ∷ es)) - place = omega arith in
    let grows = leaf_grows place (e ∷ es) in
    record {
      begin = refl;
      count = ap suc rest.count;
      good = (record { device = good.0.device; measurement = good.0.measurement; place = omega (arith, behind, small) }, rest.good);
      rising = ((first_before AreNamesBefore before_trans (names_of e) (map names_of es) (names_of f) front, grows), rest.rising);
      inside = (omega (arith, behind, grows), rest.inside);
      pointers_are = ap (λ (l : List ℕ). pointer_field e place ++ l) rest.pointers_are;
      leaves-are = (
        record {
          size = sizes.0;
          good = All-from_recursion (IsEntry version) (e ∷ es) (every_left (IsEntry version) (e ∷ es) (all_of ((f ∷ fs) ∷ leaves)) good);
          begin = refl;
          rising = front;
          bytes_are = take_at leaf_bytes rest_bytes (place + length (leaf_field (e ∷ es)) - place) size;
        },
        subst (λ (b : List ℕ). AreLeavesAt version root (pointer_list (place + length (leaf_field (e ∷ es))) ((f ∷ fs) ∷ leaves)) b ((f ∷ fs) ∷ leaves)) (sym (drop_at leaf_bytes rest_bytes (place + length (leaf_field (e ∷ es)) - place) size)) rest.leaves-are,
      );
    }

-- where the leaves are there, none of them is bad
pub no_bad_leaf : (version root : ℕ) (ps : List Pointer) (bytes : List ℕ) (leaves : List Leaf) (at : ℕ) → AreLeavesAt version root ps bytes leaves → IsFirstBadLeaf version root ps bytes at → ⊥
no_bad_leaf version root [] bytes leaves at are is_bad = is_bad
no_bad_leaf version root (p ∷ ps) bytes [] at are is_bad = are
no_bad_leaf version root (p ∷ ps) bytes (leaf ∷ leaves) at are (inl here) = here.1 leaf are.0
no_bad_leaf version root (p ∷ ps) bytes (leaf ∷ leaves) at are (inr later) = no_bad_leaf version root ps (drop (leaf_end root ps - p.place) bytes) leaves at are.1 later.1

-- leaves are full but for the last
leaves_few : (leaves : List Leaf) → AreLeaves leaves → 256 * length leaves < length (all_of leaves) + 256
leaves_few [] sizes = absurd sizes
leaves_few (leaf ∷ []) sizes = let n = length-append leaf [] in let some = sizes.0 in omega (arith, n, some)
leaves_few (leaf ∷ next ∷ leaves) sizes =
    let n = length-append leaf (all_of (next ∷ leaves)) in
    let full = sizes.0 in
    let rest = leaves_few (next ∷ leaves) sizes.1 in
    omega (arith, n, full, rest)

-- the root and the leaves of an index
pub record IndexParts (version place root : ℕ) (bytes : List ℕ) (entries : List IndexEntry) : Type 0 where
  pub pointers_are : List Pointer
  pub leaves : List Leaf
  pub is-root : IsRoot place root (drop (root - place) bytes) pointers_are
  pub leaves-are : AreLeavesAt version root pointers_are (take (root - place) bytes) leaves
  pub all : all_of leaves ≡ entries

pub index_parts : (version place root : ℕ) (bytes : List ℕ) (entries : List IndexEntry) → place ≤ root → root ≤ place + length bytes → place + length bytes < 2 ^ 64 → IsIndexRead version place root bytes entries → IndexParts version place root bytes entries
index_parts version place root bytes entries from to room read =
    let leaves = read.spelling.leaves in
    let flat = flat_map leaf_field leaves in
    let root_is = read.spelling.root_place in
    let size : length (flat_map leaf_field read.spelling.leaves) ≡ root - place = omega (arith, root_is) in
    let front : take (root - place) bytes ≡ flat_map leaf_field read.spelling.leaves = ap (λ (l : List ℕ). take (root - place) l) read.spelling.bytes_are ∙ take_at flat (root_field place leaves) (root - place) size in
    let back : drop (root - place) bytes ≡ root_field place read.spelling.leaves = ap (λ (l : List ℕ). drop (root - place) l) read.spelling.bytes_are ∙ drop_at flat (root_field place leaves) (root - place) size in
    let all = read.spelling.stand.all in
    let made = pointers_of version root place leaves read.spelling.stand.sizes (recursion_from_All (IsEntry version) (all_of leaves) (subst (λ (es : List IndexEntry). All (IsEntry version) es) (sym all) read.index.good))
    (subst (λ (es : List IndexEntry). AreInOrder AreNamesBefore (map names_of es)) (sym all) read.index.rising) (sym root_is) (omega (arith, to, room)) in
    let ps = pointer_list place leaves in
    let few : length (pointer_list place read.spelling.leaves) < 2 ^ 32 =
    let count = made.count in let low = leaves_few leaves read.spelling.stand.sizes in let n = ap length all in let most = read.index.few in omega (arith, count, low, n, most) in
    record {
      pointers_are = ps;
      leaves = leaves;
      is-root = record {
        begin = made.begin;
        few = few;
        good = All-from_recursion IsPointer ps made.good;
        rising = made.rising;
        inside = All-from_recursion (λ (p : Pointer). p.place < root) ps made.inside;
        bytes_are = back ∙ ap (λ (n : ℕ). 82 ∷ number32 n ++ pointers place leaves) (sym made.count) ∙ ap (λ (l : List ℕ). 82 ∷ number32 (length ps) ++ l) made.pointers_are;
      };
      leaves-are = subst (λ (b : List ℕ). AreLeavesAt version root ps b leaves) (sym front) made.leaves-are;
      all = all;
    }

-- a first bad part is in no index
pub no_index : (version place root : ℕ) (bytes : List ℕ) (at : ℕ) → place ≤ root → root ≤ place + length bytes → place + length bytes < 2 ^ 64 → IsFirstBadIndexPart version place root bytes at → IsNone version place root bytes
no_index version place root bytes at from to room part entries read =
    let parts = index_parts version place root bytes entries from to room read in
    let ps = parts.pointers_are in
    ⊎_elim
    (λ no_root. no_root.1 ps parts.is-root)
    (λ bad.
    let same = pointers_same (drop (root - place) bytes) bad.0 ps (root_counted place root (drop (root - place) bytes) bad.0 bad.1) (root_counted place root (drop (root - place) bytes) ps parts.is-root) in
    no_bad_leaf version root ps (take (root - place) bytes) parts.leaves at parts.leaves-are (subst (λ (qs : List Pointer). IsFirstBadLeaf version root qs (take (root - place) bytes) at) same bad.2))
    part

-- ---- the exits of reading

pub root_bad : (version : ℕ) {B : Type 0} (place root : ℕ) (bytes root_bytes : List ℕ) → root_bytes ≡ drop (root - place) bytes → place ≤ root → root ≤ place + length bytes → place + length bytes < 2 ^ 64 → (view : B → List Pointer) (fault : FieldFault) (answer : IndexFault)
    → ReadsWhole (IsRoot place root root_bytes) view (Err fault) → answer ≡ as_index_fault root fault → IsIndexFault version place root bytes answer
root_bad version place root bytes root_bytes is from to room view (field.Bad at) answer none answer_is =
    let none_there : (ps : List Pointer) → IsRoot place root (drop (root - place) bytes) ps → ⊥ = λ ps is_root. none ps (subst (λ (b : List ℕ). IsRoot place root b ps) (sym is) is_root) in
    rw answer_is (no_index version place root bytes root from to room (inl (refl, none_there)), inl (refl, none_there))
root_bad version place root bytes root_bytes is from to room view field.Memory answer none answer_is = rw answer_is tt

pub leaf_bad : (version : ℕ) {B : Type 0} (place root : ℕ) (bytes leaf_bytes root_bytes : List ℕ) (ps : List Pointer) → leaf_bytes ≡ take (root - place) bytes → root_bytes ≡ drop (root - place) bytes → place ≤ root → root ≤ place + length bytes → place + length bytes < 2 ^ 64
    → IsRoot place root root_bytes ps → (view : B → List IndexEntry) (fault : IndexFault) → ReadsLeaves version root ps leaf_bytes view (Err fault) → IsIndexFault version place root bytes fault
leaf_bad version place root bytes leaf_bytes root_bytes ps leaf_is root_is from to room is_root view (fault.Bad at) is_bad =
    let here : IsRoot place root (drop (root - place) bytes) ps = subst (λ (b : List ℕ). IsRoot place root b ps) root_is is_root in
    let there : IsFirstBadLeaf version root ps (take (root - place) bytes) at = subst (λ (b : List ℕ). IsFirstBadLeaf version root ps b at) leaf_is is_bad in
    (no_index version place root bytes at from to room (inr (ps, here, there)), inr (ps, here, there))
leaf_bad version place root bytes leaf_bytes root_bytes ps leaf_is root_is from to room is_root view fault.Memory is_bad = tt

pub found_index : (version place root : ℕ) (bytes leaf_bytes root_bytes : List ℕ) (ps : List Pointer) (leaves : List Leaf) (entries : List IndexEntry) → leaf_bytes ≡ take (root - place) bytes → root_bytes ≡ drop (root - place) bytes → place + length leaf_bytes ≡ root
    → IsRoot place root root_bytes ps → AreLeavesAt version root ps leaf_bytes leaves → entries ≡ all_of leaves → IsIndexRead version place root bytes entries
found_index version place root bytes leaf_bytes root_bytes ps leaves entries leaf_is root_is whole is_root are entries_are =
    subst (λ (es : List IndexEntry). IsIndexRead version place root bytes es) (sym entries_are)
    (index_of version place root bytes ps leaves (subst (λ (b : List ℕ). place + length b ≡ root) leaf_is whole) (subst (λ (b : List ℕ). IsRoot place root b ps) root_is is_root) (subst (λ (b : List ℕ). AreLeavesAt version root ps b leaves) leaf_is are))
