-- Two indexes with the same bytes are one, and an index has one spelling.
use Rattle.std.proofs.Common.{◌≡◌, ℕ, ◌+◌, ◌-◌, ◌<◌, ◌≤◌, ◌^◌, List, [], ◌∷◌, ◌++◌, length, drop, refl, sym, ap, ◌∙◌, append_assoc, length-append, arith}
use Rattle.std.specs.Prelude.{All}
use Rattle.std.specs.List.{flat_map, AllByRecursion}
use Rattle.std.proofs.lemmas.List.{append-nil, drop_at}
use Rattle.std.proofs.lemmas.List.Elements.{All-from_recursion, recursion_from_All}
use Rattle.tsdb_base.specs.FieldLaws.{number16-prefix_free}
use Rattle.tsdb_base.specs.Fields.{number16}
use Rattle.tsdb_base.specs.PlainLaws.{same_front}
use Rattle.tsdb_base.proofs.PlainLists.{same_values}
use Rattle.tsdb_index.specs.declared.index.IndexEntry.{IndexEntry}
use Rattle.tsdb_index.specs.Entries.{IsEntry}
use Rattle.tsdb_index.specs.Spelling.{AreLeaves, IsIndexSpelling, RootBegins, entry_field, leaf_field, pointers, root_field}
use Rattle.tsdb_index.proofs.Entries.{entry-prefix_free}
use Rattle.tsdb_index.proofs.Whole.{all_of, every_left, every_right}

abbrev Leaf : Type 0
Leaf = List IndexEntry

-- ---- from bytes to entries

tail_same : (n : ℕ) (xs ys : List ℕ) → n ∷ xs ≡ n ∷ ys → xs ≡ ys
tail_same n xs ys same = cc

leaf_same : (version : ℕ) (l m : Leaf) (x y : List ℕ) → length l < 2 ^ 16 → length m < 2 ^ 16 → AllByRecursion (IsEntry version) l → AllByRecursion (IsEntry version) m → leaf_field l ++ x ≡ leaf_field m ++ y → (l ≡ m) × (x ≡ y)
leaf_same version l m x y small_l small_m is_l is_m same =
    let parted : number16 (length l) ++ (flat_map entry_field l ++ x) ≡ number16 (length m) ++ (flat_map entry_field m ++ y) =
    sym (append_assoc (number16 (length l)) (flat_map entry_field l) x)
    ∙ tail_same 73 ((number16 (length l) ++ flat_map entry_field l) ++ x) ((number16 (length m) ++ flat_map entry_field m) ++ y) same
    ∙ append_assoc (number16 (length m)) (flat_map entry_field m) y in
    let counts = number16-prefix_free (length l) (length m) (flat_map entry_field l ++ x) (flat_map entry_field m ++ y) small_l small_m parted in
    same_values entry_field (IsEntry version) (entry-prefix_free version) l m x y counts.0 (All-from_recursion (IsEntry version) l is_l) (All-from_recursion (IsEntry version) m is_m) counts.1

abbrev IsSmall : Leaf → Type 0
IsSmall leaf = length leaf < 2 ^ 16

leaves_are_small : (leaves : List Leaf) → AreLeaves leaves → AllByRecursion IsSmall leaves
leaves_are_small [] sizes = absurd sizes
leaves_are_small (leaf ∷ []) sizes = (let few = sizes.1 in omega (arith, few), tt)
leaves_are_small (leaf ∷ next ∷ leaves) sizes = (let full = sizes.0 in omega (arith, full), leaves_are_small (next ∷ leaves) sizes.1)

leaves_same : (version : ℕ) (ls ms : List Leaf) → AllByRecursion IsSmall ls → AllByRecursion IsSmall ms → AllByRecursion (IsEntry version) (all_of ls) → AllByRecursion (IsEntry version) (all_of ms) → flat_map leaf_field ls ≡ flat_map leaf_field ms → all_of ls ≡ all_of ms
leaves_same version [] [] small_l small_m is_l is_m same = refl
leaves_same version [] (m ∷ ms) small_l small_m is_l is_m same = absurd cc
leaves_same version (l ∷ ls) [] small_l small_m is_l is_m same = absurd cc
leaves_same version (l ∷ ls) (m ∷ ms) small_l small_m is_l is_m same =
    let first = leaf_same version l m (flat_map leaf_field ls) (flat_map leaf_field ms) small_l.0 small_m.0 (every_left (IsEntry version) l (all_of ls) is_l) (every_left (IsEntry version) m (all_of ms) is_m) same in
    let others = leaves_same version ls ms small_l.1 small_m.1 (every_right (IsEntry version) l (all_of ls) is_l) (every_right (IsEntry version) m (all_of ms) is_m) first.1 in
    ap (λ leaf. leaf ++ all_of ls) first.0 ∙ ap (λ entries. m ++ entries) others

pub one_index : (version place root : ℕ) (bytes : List ℕ) (xs ys : List IndexEntry) → All (IsEntry version) xs → All (IsEntry version) ys → IsIndexSpelling place root xs bytes → IsIndexSpelling place root ys bytes → xs ≡ ys
one_index version place root bytes xs ys good_x good_y in_x in_y =
    let ls = in_x.leaves in
    let ms = in_y.leaves in
    let at_x = in_x.root_place in
    let at_y = in_y.root_place in
    let len : length (flat_map leaf_field in_x.leaves) ≡ length (flat_map leaf_field in_y.leaves) = omega (arith, at_x, at_y) in
    let same = same_front (flat_map leaf_field ls) (flat_map leaf_field ms) (root_field place ls) (root_field place ms) len (sym in_x.bytes_are ∙ in_y.bytes_are) in
    let all_x = in_x.stand.all in
    let all_y = in_y.stand.all in
    let is_x : AllByRecursion (IsEntry version) (all_of in_x.leaves) = rw all_x (recursion_from_All (IsEntry version) xs good_x) in
    let is_y : AllByRecursion (IsEntry version) (all_of in_y.leaves) = rw all_y (recursion_from_All (IsEntry version) ys good_y) in
    sym all_x ∙ leaves_same version ls ms (leaves_are_small ls in_x.stand.sizes) (leaves_are_small ms in_y.stand.sizes) is_x is_y same.0 ∙ all_y

-- ---- from entries to bytes

-- two lists that go on from fronts of one length
fronts_same : {A : Type 0} (a b x y : List A) → length a ≡ length b → a ++ x ≡ b ++ y → (a ≡ b) × (x ≡ y)
fronts_same [] [] x y len e = (refl, e)
fronts_same [] (v ∷ vs) x y len e = absurd (omega arith)
fronts_same (u ∷ us) [] x y len e = absurd (omega arith)
fronts_same (u ∷ us) (v ∷ vs) x y len e =
    let others : us ++ x ≡ vs ++ y = cc in
    let shorter : length us ≡ length vs = omega arith in
    let same = fronts_same us vs x y shorter others in
    let first : u ≡ v = cc in
    let rest : us ≡ vs = same.0 in
    (cc, same.1)

some_entries : (leaves : List Leaf) → AreLeaves leaves → 0 < length (all_of leaves)
some_entries [] sizes = absurd sizes
some_entries (leaf ∷ []) sizes = let n = length-append leaf [] in let some = sizes.0 in omega (arith, n, some)
some_entries (leaf ∷ next ∷ leaves) sizes = let n = length-append leaf (all_of (next ∷ leaves)) in let full = sizes.0 in omega (arith, n, full)

-- one leaf has not the entries of a full one and others
too_many : (l m : Leaf) (ms : List Leaf) → length l ≤ 256 → length m ≡ 256 → AreLeaves ms → l ++ [] ≡ m ++ all_of ms → ⊥
too_many l m ms few full sizes same =
    let len = ap length same in
    let a = length-append l [] in
    let b = length-append m (all_of ms) in
    let some = some_entries ms sizes in
    omega (arith, len, a, b, some, few, full)

-- entries stand in one list of leaves
one_leaves : (ls ms : List Leaf) → AreLeaves ls → AreLeaves ms → all_of ls ≡ all_of ms → ls ≡ ms
one_leaves [] ms size_l size_m same = absurd size_l
one_leaves (l ∷ []) [] size_l size_m same = absurd size_m
one_leaves (l ∷ []) (m ∷ []) size_l size_m same = ap (λ leaf. leaf ∷ []) (sym (append-nil l) ∙ same ∙ append-nil m)
one_leaves (l ∷ []) (m ∷ n ∷ ms) size_l size_m same = absurd (too_many l m (n ∷ ms) size_l.1 size_m.0 size_m.1 same)
one_leaves (l ∷ k ∷ ls) [] size_l size_m same = absurd size_m
one_leaves (l ∷ k ∷ ls) (m ∷ []) size_l size_m same = absurd (too_many m l (k ∷ ls) size_m.1 size_l.0 size_l.1 (sym same))
one_leaves (l ∷ k ∷ ls) (m ∷ n ∷ ms) size_l size_m same =
    let parts = fronts_same l m (all_of (k ∷ ls)) (all_of (n ∷ ms)) (size_l.0 ∙ sym size_m.0) same in
    ap (λ leaf. leaf ∷ k ∷ ls) parts.0 ∙ ap (λ leaves. m ∷ leaves) (one_leaves (k ∷ ls) (n ∷ ms) size_l.1 size_m.1 parts.1)

pub one_spelling : (place root_x root_y : ℕ) (entries : List IndexEntry) (x y : List ℕ) → IsIndexSpelling place root_x entries x → IsIndexSpelling place root_y entries y → (x ≡ y) × (root_x ≡ root_y)
one_spelling place root_x root_y entries x y in_x in_y =
    let same = one_leaves in_x.leaves in_y.leaves in_x.stand.sizes in_y.stand.sizes (in_x.stand.all ∙ sym in_y.stand.all) in (
      in_x.bytes_are ∙ ap (λ leaves. flat_map leaf_field leaves ++ root_field place leaves) same ∙ sym in_y.bytes_are,
      in_x.root_place ∙ ap (λ leaves. place + length (flat_map leaf_field leaves)) same ∙ sym in_y.root_place,
    )

-- ---- the root and its first pointer

begins : (place root : ℕ) (entries : List IndexEntry) (bytes : List ℕ) (leaves : List Leaf) → AreLeaves leaves → all_of leaves ≡ entries → root ≡ place + length (flat_map leaf_field leaves)
    → bytes ≡ flat_map leaf_field leaves ++ root_field place leaves → RootBegins place root entries bytes
begins place root entries bytes [] sizes all at is = absurd sizes
begins place root entries bytes ([] ∷ []) sizes all at is = absurd (let some = sizes.0 in omega (arith, some))
begins place root entries bytes ([] ∷ next ∷ leaves) sizes all at is = absurd (let some = sizes.0 in omega (arith, some))
begins place root entries bytes ((e ∷ es) ∷ leaves) sizes all at is =
    let flat = flat_map leaf_field ((e ∷ es) ∷ leaves) in
    let n = length-append (leaf_field (e ∷ es)) (flat_map leaf_field leaves) in
    let whole = ap length is ∙ length-append flat (root_field place ((e ∷ es) ∷ leaves)) in
    let size : length (flat_map leaf_field ((e ∷ es) ∷ leaves)) ≡ root - place = omega (arith, at) in
    record {
      first = e;
      others = es ++ all_of leaves;
      some = sym all;
      above = omega (arith, at, n);
      inside = omega (arith, at, whole);
      number = length ((e ∷ es) ∷ leaves);
      behind = pointers (place + length (leaf_field (e ∷ es))) leaves;
      bytes_are = ap (drop (root - place)) is ∙ drop_at flat (root_field place ((e ∷ es) ∷ leaves)) (root - place) size;
    }

pub root_begins : (place root : ℕ) (entries : List IndexEntry) (bytes : List ℕ) → IsIndexSpelling place root entries bytes → RootBegins place root entries bytes
root_begins place root entries bytes is = begins place root entries bytes is.leaves is.stand.sizes is.stand.all is.root_place is.bytes_are
