-- A root and a leaf, from their items.
use Rattle.std.proofs.Common.{◌≡◌, ℕ, ◌<◌, ◌^◌, List, [], ◌∷◌, ◌++◌, length, map, sym, subst, ◌∙◌, arith}
use Rattle.std.specs.Prelude.{All}
use Rattle.std.specs.List.{flat_map}
use Rattle.std.proofs.lemmas.List.{append-nil}
use Rattle.tsdb_base.specs.FieldLaws.{number16-prefix_free, number32-prefix_free}
use Rattle.tsdb_base.specs.Fields.{number16, number32}
use Rattle.tsdb_base.proofs.PlainLists.{same_values}
use Rattle.tsdb_index.specs.declared.index.IndexEntry.{IndexEntry}
use Rattle.tsdb_index.specs.declared.pointer.Pointer.{Pointer}
use Rattle.tsdb_index.specs.Entries.{AreInOrder, IsEntry, names_of}
use Rattle.tsdb_fields.specs.Order.{AreNamesBefore}
use Rattle.tsdb_index.specs.Parts.{BeginAt, BeginWith, IsLeaf, IsLeafSize, IsPointer, IsPointerBefore, IsRoot, next_names, pointer_bytes}
use Rattle.tsdb_index.specs.Spelling.{entry_field}
use Rattle.tsdb_index.specs.Steps.{IsCountedList}
use Rattle.tsdb_index.proofs.Entries.{entry-prefix_free, pointer-prefix_free}

-- what a root says besides its bytes
abbrev pub AreRoot : ℕ → ℕ → List Pointer → Type 0
AreRoot place root ps = BeginAt place ps × AreInOrder IsPointerBefore ps × All (λ pointer. pointer.place < root) ps

tail_same : (n : ℕ) (xs ys : List ℕ) → n ∷ xs ≡ n ∷ ys → xs ≡ ys
tail_same n xs ys same = cc

-- two roots with the same bytes have the same pointers
pub pointers_same : (bytes : List ℕ) (ps qs : List Pointer) → IsCountedList 82 number32 (2 ^ 32) pointer_bytes IsPointer bytes ps → IsCountedList 82 number32 (2 ^ 32) pointer_bytes IsPointer bytes qs → ps ≡ qs
pointers_same bytes ps qs is_p is_q =
    let parted : number32 (length ps) ++ flat_map pointer_bytes ps ≡ number32 (length qs) ++ flat_map pointer_bytes qs = tail_same 82 (number32 (length ps) ++ flat_map pointer_bytes ps) (number32 (length qs) ++ flat_map pointer_bytes qs) (sym is_p.bytes_are ∙ is_q.bytes_are) in
    let counts = number32-prefix_free (length ps) (length qs) (flat_map pointer_bytes ps) (flat_map pointer_bytes qs) is_p.few is_q.few parted in
    (same_values pointer_bytes IsPointer pointer-prefix_free ps qs [] [] counts.0 is_p.good is_q.good (append-nil (flat_map pointer_bytes ps) ∙ counts.1 ∙ sym (append-nil (flat_map pointer_bytes qs)))).0

pub root_counted : (place root : ℕ) (bytes : List ℕ) (ps : List Pointer) → IsRoot place root bytes ps → IsCountedList 82 number32 (2 ^ 32) pointer_bytes IsPointer bytes ps
root_counted place root bytes ps is = record { few = is.few; good = is.good; bytes_are = is.bytes_are }

pub root_none : (place root : ℕ) (bytes : List ℕ) (ps : List Pointer) → IsCountedList 82 number32 (2 ^ 32) pointer_bytes IsPointer bytes ps → (AreRoot place root ps → ⊥) → (it : List Pointer) → IsRoot place root bytes it → ⊥
root_none place root bytes ps counted none it is =
    none (subst (λ qs. AreRoot place root qs) (pointers_same bytes it ps (root_counted place root bytes it is) counted) (is.begin, is.rising, is.inside))

pub root_is : (place root : ℕ) (bytes : List ℕ) (ps : List Pointer) → IsCountedList 82 number32 (2 ^ 32) pointer_bytes IsPointer bytes ps → AreRoot place root ps → IsRoot place root bytes ps
root_is place root bytes ps counted are = record { begin = are.0; few = counted.few; good = counted.good; rising = are.1; inside = are.2; bytes_are = counted.bytes_are }

-- ---- leaves

-- what a leaf says besides its bytes
abbrev pub AreLeaf : Pointer → List Pointer → List IndexEntry → Type 0
AreLeaf pointer behind es = IsLeafSize behind (length es) × BeginWith pointer es × AreInOrder AreNamesBefore (map names_of es ++ next_names behind)

size_small : (behind : List Pointer) (n : ℕ) → IsLeafSize behind n → n < 2 ^ 16
size_small [] n size = let few = size.1 in omega (arith, few)
size_small (p ∷ ps) n size = omega (arith, size)

pub leaf_counted : (version : ℕ) (pointer : Pointer) (behind : List Pointer) (bytes : List ℕ) (es : List IndexEntry) → IsLeaf version pointer behind bytes es → IsCountedList 73 number16 (2 ^ 16) entry_field (IsEntry version) bytes es
leaf_counted version pointer behind bytes es is = record { few = size_small behind (length es) is.size; good = is.good; bytes_are = is.bytes_are }

-- two leaves with the same bytes have the same entries
entries_same : (version : ℕ) (bytes : List ℕ) (xs ys : List IndexEntry) → IsCountedList 73 number16 (2 ^ 16) entry_field (IsEntry version) bytes xs → IsCountedList 73 number16 (2 ^ 16) entry_field (IsEntry version) bytes ys → xs ≡ ys
entries_same version bytes xs ys is_x is_y =
    let parted : number16 (length xs) ++ flat_map entry_field xs ≡ number16 (length ys) ++ flat_map entry_field ys = tail_same 73 (number16 (length xs) ++ flat_map entry_field xs) (number16 (length ys) ++ flat_map entry_field ys) (sym is_x.bytes_are ∙ is_y.bytes_are) in
    let counts = number16-prefix_free (length xs) (length ys) (flat_map entry_field xs) (flat_map entry_field ys) is_x.few is_y.few parted in
    (same_values entry_field (IsEntry version) (entry-prefix_free version) xs ys [] [] counts.0 is_x.good is_y.good (append-nil (flat_map entry_field xs) ∙ counts.1 ∙ sym (append-nil (flat_map entry_field ys)))).0

pub leaf_same : (version : ℕ) (pointer : Pointer) (behind : List Pointer) (bytes : List ℕ) (xs ys : List IndexEntry) → IsLeaf version pointer behind bytes xs → IsLeaf version pointer behind bytes ys → xs ≡ ys
leaf_same version pointer behind bytes xs ys is_x is_y = entries_same version bytes xs ys (leaf_counted version pointer behind bytes xs is_x) (leaf_counted version pointer behind bytes ys is_y)

pub leaf_none : (version : ℕ) (pointer : Pointer) (behind : List Pointer) (bytes : List ℕ) (es : List IndexEntry) → IsCountedList 73 number16 (2 ^ 16) entry_field (IsEntry version) bytes es → (AreLeaf pointer behind es → ⊥) → (it : List IndexEntry) → IsLeaf version pointer behind bytes it → ⊥
leaf_none version pointer behind bytes es counted none it is =
    none (subst (λ entries. AreLeaf pointer behind entries) (entries_same version bytes it es (leaf_counted version pointer behind bytes it is) counted) (is.size, is.begin, is.rising))

pub leaf_is : (version : ℕ) (pointer : Pointer) (behind : List Pointer) (bytes : List ℕ) (es : List IndexEntry) → IsCountedList 73 number16 (2 ^ 16) entry_field (IsEntry version) bytes es → AreLeaf pointer behind es → IsLeaf version pointer behind bytes es
leaf_is version pointer behind bytes es counted are = record { size = are.0; good = counted.good; begin = are.1; rising = are.2; bytes_are = counted.bytes_are }
