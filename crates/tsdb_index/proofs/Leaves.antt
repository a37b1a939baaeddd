-- Leaves that are written one by one.
use Rattle.std.proofs.Common.{◌≡◌, ℕ, ◌+◌, ◌<◌, ◌≤◌, List, [], ◌∷◌, ◌++◌, length, Ok, Err, take, get_or, refl, sym, ap, subst, ◌∙◌, append_assoc, arith}
use Rattle.std.specs.Prelude.{Result, OnOk}
use Rattle.std.specs.List.{flat_map}
use Rattle.std.proofs.lemmas.Grind.{flat_map-append}
use Rattle.std.proofs.lemmas.List.{append-nil, length-append, take_more}
use Rattle.tsdb_index.specs.declared.index.IndexEntry.{IndexEntry}
use Rattle.tsdb_index.specs.declared.writing.Leaves.{Leaves}
use Rattle.tsdb_base.specs.Limits.{max_leaf_entries}
use Rattle.tsdb_index.specs.Spelling.{leaf_field, pointer_field, pointers, AreLeaves}
use Rattle.tsdb_index.specs.Steps.{AreFull, IsLeafAppended, IsWrittenTo}

-- one leaf more behind full ones
full_push : (leaves : List (List IndexEntry)) (leaf : List IndexEntry) → AreFull leaves → length leaf ≡ max_leaf_entries → AreFull (leaves ++ leaf ∷ [])
full_push [] leaf full size = (size, tt)
full_push (l ∷ ls) leaf full size = (full.0, full_push ls leaf full.1 size)

-- a last leaf behind full ones
last_push : (leaves : List (List IndexEntry)) (leaf : List IndexEntry) → AreFull leaves → 0 < length leaf → length leaf ≤ max_leaf_entries → AreLeaves (leaves ++ leaf ∷ [])
last_push [] leaf full some few = (some, few)
last_push (l ∷ []) leaf full some few = (full.0, (some, few))
last_push (l ∷ m ∷ ls) leaf full some few = (full.0, last_push (m ∷ ls) leaf full.1 some few)

-- the pointer at a last leaf stands behind the others
pointers_push : (place : ℕ) (leaves : List (List IndexEntry)) (first : IndexEntry) (others : List IndexEntry)
    → pointers place (leaves ++ (first ∷ others) ∷ []) ≡ pointers place leaves ++ pointer_field first (place + length (flat_map leaf_field leaves))
pointers_push place [] first others =
    let there : place ≡ place + 0 = omega arith in
    append-nil (pointer_field first place) ∙ ap (λ (n : ℕ). pointer_field first n) there
pointers_push place ([] ∷ leaves) first others =
    let there : (place + length (leaf_field [])) + length (flat_map leaf_field leaves) ≡ place + (length (leaf_field []) + length (flat_map leaf_field leaves)) = omega arith in
    pointers_push (place + length (leaf_field [])) leaves first others
    ∙ ap (λ (n : ℕ). pointers (place + length (leaf_field [])) leaves ++ pointer_field first n) (there ∙ ap (λ (n : ℕ). place + n) (sym (length-append (leaf_field []) (flat_map leaf_field leaves))))
pointers_push place ((f ∷ fs) ∷ leaves) first others =
    let there : (place + length (leaf_field (f ∷ fs))) + length (flat_map leaf_field leaves) ≡ place + (length (leaf_field (f ∷ fs)) + length (flat_map leaf_field leaves)) = omega arith in
    ap (λ (l : List ℕ). pointer_field f place ++ l) (pointers_push (place + length (leaf_field (f ∷ fs))) leaves first others
    ∙ ap (λ (n : ℕ). pointers (place + length (leaf_field (f ∷ fs))) leaves ++ pointer_field first n)
    (there ∙ ap (λ (n : ℕ). place + n) (sym (length-append (leaf_field (f ∷ fs)) (flat_map leaf_field leaves)))))
    ∙ sym (append_assoc (pointer_field f place) (pointers (place + length (leaf_field (f ∷ fs))) leaves) (pointer_field first (place + length (flat_map leaf_field ((f ∷ fs) ∷ leaves)))))

-- a list behind others, taken through a function
flat_push : {A : Type 0} (f : List IndexEntry → List A) (leaves : List (List IndexEntry)) (leaf : List IndexEntry) → flat_map f (leaves ++ leaf ∷ []) ≡ flat_map f leaves ++ f leaf
flat_push f leaves leaf = flat_map-append f leaves (leaf ∷ []) ∙ ap (λ l. flat_map f leaves ++ l) (append-nil (f leaf))

length_push : {A : Type 0} (xs : List A) (x : A) → length (xs ++ x ∷ []) ≡ length xs + 1
length_push xs x = length-append xs (x ∷ [])

pub nothing_written : (place : ℕ) (entries : List IndexEntry) (written : Leaves) → 0 < length entries → written.bytes.items ≡ [] → written.pointers.items ≡ [] → written.count ≡ 0
    → IsWrittenTo place entries entries written
nothing_written place entries written some bytes pointers-none count = record {
  leaves = [];
  split = refl;
  full = λ more. tt;
  sizes = λ none. let e : length entries ≡ 0 = ap length none in absurd (omega arith);
  bytes_are = bytes;
  pointers_are = pointers-none;
  number_is = count;
}

-- one leaf more is written, which is full where entries follow it
pub leaf_more : (place : ℕ) (entries rest leaf behind : List IndexEntry) (old new : Leaves) → IsWrittenTo place entries rest old → rest ≡ leaf ++ behind → length leaf ≤ max_leaf_entries
    → (0 < length behind → length leaf ≡ max_leaf_entries) → IsLeafAppended leaf place old new → IsWrittenTo place entries behind new
leaf_more place entries rest leaf behind old new so_far cut few whole added =
    let leaf-is : leaf ≡ added.first ∷ added.others = added.some in
    let some : 0 < length leaf = subst (λ (l : List IndexEntry). 0 < length l) (sym leaf-is) (omega arith) in
    let more : 0 < length rest = subst (λ (l : List IndexEntry). 0 < length l) (sym cut) (let n = length-append leaf behind in omega arith) in
    record {
      leaves = so_far.leaves ++ leaf ∷ [];
      split = ap (λ (l : List IndexEntry). l ++ behind) (flat_push (λ l. l) so_far.leaves leaf) ∙ append_assoc (flat_map (λ l. l) so_far.leaves) leaf behind
          ∙ ap (λ (l : List IndexEntry). flat_map (λ l. l) so_far.leaves ++ l) (sym cut) ∙ so_far.split;
      full = λ follow. full_push so_far.leaves leaf (so_far.full more) (whole follow);
      sizes = λ none. last_push so_far.leaves leaf (so_far.full more) some few;
      bytes_are = added.bytes_are ∙ ap (λ (l : List ℕ). l ++ leaf_field leaf) so_far.bytes_are ∙ sym (flat_push leaf_field so_far.leaves leaf);
      pointers_are = added.pointers_are ∙ ap (λ (l : List ℕ). l ++ pointer_field added.first (place + length old.bytes.items)) so_far.pointers_are
          ∙ ap (λ (l : List ℕ). pointers place so_far.leaves ++ pointer_field added.first (place + length l)) so_far.bytes_are
          ∙ sym (pointers_push place so_far.leaves added.first added.others)
          ∙ ap (λ (l : List IndexEntry). pointers place (so_far.leaves ++ l ∷ [])) (sym leaf-is);
      number_is = added.number_is ∙ ap (λ (n : ℕ). n + 1) so_far.number_is ∙ sym (length_push so_far.leaves leaf);
    }

-- one item more is written
pub item_more : {A : Type 0} (f : A → List ℕ) (items : List A) (i : ℕ) (item : A) (old middle new : List ℕ) → i < length items → item ≡ get_or items i item
    → middle ≡ old ++ flat_map f (take i items) → new ≡ middle ++ f item → new ≡ old ++ flat_map f (take (i + 1) items)
item_more {A} f items i item old middle new lt is so_far added =
    let whole : flat_map f (take (i + 1) items) ≡ flat_map f (take i items) ++ f item =
    ap (flat_map f) (take_more items i item lt ∙ ap (λ (a : A). take i items ++ a ∷ []) (sym is)) ∙ flat_map-append f (take i items) (item ∷ []) ∙ ap (λ (l : List ℕ). flat_map f (take i items) ++ l) (append-nil (f item)) in
    added ∙ ap (λ (l : List ℕ). l ++ f item) so_far ∙ append_assoc old (flat_map f (take i items)) (f item) ∙ ap (λ (l : List ℕ). old ++ l) (sym whole)

-- a leaf and the pointer at it are written
pub leaf_written : {T E : Type 0} (result : Result T E) (leaf : List IndexEntry) (place : ℕ) (old new : Leaves) (first : IndexEntry) → 0 < length leaf → first ≡ get_or leaf 0 first
    → new.pointers.items ≡ old.pointers.items ++ pointer_field first (place + length old.bytes.items) → new.count ≡ old.count + 1
    → OnOk result (new.bytes.items ≡ old.bytes.items ++ leaf_field leaf) → OnOk result (IsLeafAppended leaf place old new)
leaf_written (Err e) leaf place old new first some is pointer count written = written
leaf_written (Ok r) [] place old new first some is pointer count written = absurd (omega arith)
leaf_written (Ok r) (l ∷ ls) place old new first some is pointer count written = record {
  first = l;
  others = ls;
  some = refl;
  bytes_are = written;
  pointers_are = pointer ∙ ap (λ (f : IndexEntry). old.pointers.items ++ pointer_field f (place + length old.bytes.items)) is;
  number_is = count;
}

-- bytes behind those that are written
pub written_behind : (old first second middle new : List ℕ) → middle ≡ old ++ first → new ≡ middle ++ second → new ≡ old ++ (first ++ second)
written_behind old first second middle new before behind = behind ∙ ap (λ (l : List ℕ). l ++ second) before ∙ append_assoc old first second
