-- One leaf among all: what it has of names is what all leaves have.
use Rattle.std.proofs.Common.{◌≡◌, ◌⊎◌, ℕ, ◌+◌, ◌-◌, ◌≤◌, List, [], ◌∷◌, ◌++◌, length, map, take, drop, ⊎_elim, Option, None, Some, refl, sym, ap, subst, ◌∙◌, length-drop, arith}
use Rattle.std.specs.Prelude.{All, Contains}
use Rattle.std.specs.List.{AllByRecursion}
use Rattle.std.proofs.lemmas.Grind.{flat_map-append}
use Rattle.std.proofs.lemmas.List.{drop-drop, map-append}
use Rattle.std.proofs.lemmas.List.Elements.{All-contains, All-from_recursion, All-head, Contains-append_cases, Contains-append_left, Contains-append_right}
use Rattle.tsdb_index.specs.declared.index.IndexEntry.{IndexEntry}
use Rattle.tsdb_index.specs.declared.pointer.Pointer.{Pointer}
use Rattle.tsdb_index.specs.Entries.{AreInOrder, names_of}
use Rattle.tsdb_fields.specs.Order.{AreNamesBefore}
use Rattle.tsdb_index.specs.Finding.{AreBehind, IsEntryFor}
use Rattle.tsdb_index.specs.Parts.{AreLeavesAt, BeginAt, BeginWith, IsLeaf, leaf_end, next_names, pointer_names}
use Rattle.tsdb_index.specs.Steps.{AreSpread}
use Rattle.tsdb_index.proofs.Orders.{order_back}
use Rattle.tsdb_fields.proofs.Order.{Names, before_trans, not_itself}
use Rattle.tsdb_index.proofs.Roots.{leaf_same}
use Rattle.tsdb_index.proofs.Whole.{all_of}

abbrev Leaf : Type 0
Leaf = List IndexEntry

-- the leaf at one of the pointers, and those before and behind it
pub record IsAmong (version root base : ℕ) (pointer : Pointer) (behind : List Pointer) (bytes : List ℕ) (leaves : List Leaf) : Type 0 where
  pub front : List Leaf
  pub leaf : Leaf
  pub back : List Leaf
  pub split : leaves ≡ front ++ leaf ∷ back
  pub from : base ≤ pointer.place
  pub to : pointer.place ≤ leaf_end root behind
  pub end : leaf_end root behind ≤ root
  pub is : IsLeaf version pointer behind (take (leaf_end root behind - pointer.place) (drop (pointer.place - base) bytes)) leaf
  pub rest : List ℕ
  pub back-are : AreLeavesAt version root behind rest back

first_place : (root : ℕ) (ps : List Pointer) (pointer : Pointer) (behind : List Pointer) → BeginAt (leaf_end root (ps ++ pointer ∷ behind)) (ps ++ pointer ∷ behind)
first_place root [] pointer behind = refl
first_place root (p ∷ ps) pointer behind = refl

-- where a leaf ends lies in what is left
end_inside : (root : ℕ) (behind : List Pointer) (left : ℕ) → AreSpread root behind left → leaf_end root behind ≤ root
end_inside root [] left spread = omega arith
end_inside root (p ∷ ps) left spread = let whole = spread.0 in omega (arith, whole)

pub among : (version root base : ℕ) (before : List Pointer) (pointer : Pointer) (behind : List Pointer) (bytes : List ℕ) (leaves : List Leaf) → BeginAt base (before ++ pointer ∷ behind) → AreSpread root (before ++ pointer ∷ behind) (length bytes)
    → AreLeavesAt version root (before ++ pointer ∷ behind) bytes leaves → IsAmong version root base pointer behind bytes leaves
among version root base [] pointer behind bytes [] begin spread are = absurd are
among version root base [] pointer behind bytes (leaf ∷ leaves) begin spread are =
    let none : 0 ≡ pointer.place - base = omega (arith, begin) in
    record {
      front = [];
      leaf = leaf;
      back = leaves;
      split = refl;
      from = omega (arith, begin);
      to = spread.1;
      end = end_inside root behind (length bytes - (leaf_end root behind - pointer.place)) spread.2;
      is = subst (λ (n : ℕ). IsLeaf version pointer behind (take (leaf_end root behind - pointer.place) (drop n bytes)) leaf) none are.0;
      rest = drop (leaf_end root behind - pointer.place) bytes;
      back-are = are.1;
    }
among version root base (p ∷ ps) pointer behind bytes [] begin spread are = absurd are
among version root base (p ∷ ps) pointer behind bytes (leaf ∷ leaves) begin spread are =
    let rest = among version root (leaf_end root (ps ++ pointer ∷ behind)) ps pointer behind (drop (leaf_end root (ps ++ pointer ∷ behind) - p.place) bytes) leaves (first_place root ps pointer behind)
    (subst (λ (n : ℕ). AreSpread root (ps ++ pointer ∷ behind) n) (sym (length-drop (leaf_end root (ps ++ pointer ∷ behind) - p.place) bytes)) spread.2) are.1 in
    let low = spread.1 in
    let high = rest.from in
    let first : p.place ≡ base = begin in
    let sum : (leaf_end root (ps ++ pointer ∷ behind) - p.place) + (pointer.place - leaf_end root (ps ++ pointer ∷ behind)) ≡ pointer.place - base = omega (arith, low, high, first) in
    let apart : drop (pointer.place - leaf_end root (ps ++ pointer ∷ behind)) (drop (leaf_end root (ps ++ pointer ∷ behind) - p.place) bytes) ≡ drop (pointer.place - base) bytes =
    drop-drop (pointer.place - leaf_end root (ps ++ pointer ∷ behind)) (leaf_end root (ps ++ pointer ∷ behind) - p.place) bytes ∙ ap (λ (n : ℕ). drop n bytes) sum in
    record {
      front = leaf ∷ rest.front;
      leaf = rest.leaf;
      back = rest.back;
      split = ap (λ (l : List Leaf). leaf ∷ l) rest.split;
      from = omega (arith, low, high, first);
      to = rest.to;
      end = rest.end;
      is = subst (λ (b : List ℕ). IsLeaf version pointer behind (take (leaf_end root behind - pointer.place) b) rest.leaf) apart rest.is;
      rest = rest.rest;
      back-are = rest.back-are;
    }

-- ---- items before and behind one in order

before_item : (xs : List Names) (y : Names) (ys : List Names) → AreInOrder AreNamesBefore (xs ++ y ∷ ys) → AllByRecursion (λ (x : Names). AreNamesBefore x y) xs
before_item [] y ys order = tt
before_item (x ∷ []) y ys order = (order.0, tt)
before_item (x ∷ z ∷ zs) y ys order =
    let rest = before_item (z ∷ zs) y ys order.1 in
    (before_trans x z y order.0 rest.0, rest)

behind_item : (y : Names) (ys : List Names) → AreInOrder AreNamesBefore (y ∷ ys) → AllByRecursion (λ (x : Names). AreNamesBefore y x) ys
behind_item y [] order = tt
behind_item y (x ∷ []) order = (order.0, tt)
behind_item y (x ∷ z ∷ zs) order =
    (order.0, later (z ∷ zs) (behind_item x (z ∷ zs) order.1))
  where
    later : (ns : List Names) → AllByRecursion (λ (n : Names). AreNamesBefore x n) ns → AllByRecursion (λ (n : Names). AreNamesBefore y n) ns
    later [] each = tt
    later (n ∷ ns) each = (before_trans y x n order.0 each.0, later ns each.1)

of_map : (P : Names → Type 0) (es : List IndexEntry) → AllByRecursion P (map names_of es) → AllByRecursion (λ (e : IndexEntry). P (names_of e)) es
of_map P [] each = tt
of_map P (e ∷ es) each = (each.0, of_map P es each.1)

-- entries that begin behind names are all behind them
pub behind_first : (names : Names) (pointer : Pointer) (first : IndexEntry) (others : List IndexEntry) → names_of first ≡ pointer_names pointer → AreNamesBefore names (pointer_names pointer) → AreInOrder AreNamesBefore (map names_of (first ∷ others)) → All (λ e. AreNamesBefore names (names_of e)) (first ∷ others)
behind_first names pointer first others same less order =
    let here : AreNamesBefore names (names_of first) = subst (λ (n : Names). AreNamesBefore names n) (sym same) less in
    All-from_recursion (λ (e : IndexEntry). AreNamesBefore names (names_of e)) (first ∷ others)
    (here, of_map (λ (n : Names). AreNamesBefore names n) others (later (map names_of others) (behind_item (names_of first) (map names_of others) order)))
  where
    later : (ns : List Names) → AllByRecursion (λ (n : Names). AreNamesBefore (names_of first) n) ns → AllByRecursion (λ (n : Names). AreNamesBefore names n) ns
    later [] each = tt
    later (n ∷ ns) each = (before_trans names (names_of first) n (subst (λ (m : Names). AreNamesBefore names m) (sym same) less) each.0, later ns each.1)

-- leaves that begin behind names have only entries behind them
pub leaves_behind : (version : ℕ) (names : Names) (root : ℕ) (ps : List Pointer) (bytes : List ℕ) (leaves : List Leaf) → All (AreNamesBefore names) (next_names ps) → AreLeavesAt version root ps bytes leaves → AreInOrder AreNamesBefore (map names_of (all_of leaves))
    → All (λ e. AreNamesBefore names (names_of e)) (all_of leaves)
leaves_behind version names root [] bytes [] to are order = All-from_recursion (λ (e : IndexEntry). AreNamesBefore names (names_of e)) [] tt
leaves_behind version names root [] bytes (leaf ∷ leaves) to are order = absurd are
leaves_behind version names root (p ∷ ps) bytes [] to are order = absurd are
leaves_behind version names root (p ∷ ps) bytes ([] ∷ leaves) to are order = absurd are.0.begin
leaves_behind version names root (p ∷ ps) bytes ((first ∷ others) ∷ leaves) to are order =
    behind_first names p first (others ++ all_of leaves) are.0.begin (All-head (AreNamesBefore names) (pointer_names p) [] to) order

-- ---- what one leaf has is what all have

-- names with which the leaf begins come behind all entries before it
front_before : (pointer : Pointer) (front back : List IndexEntry) (leaf : Leaf) → BeginWith pointer leaf → AreInOrder AreNamesBefore (map names_of (front ++ (leaf ++ back))) → All (λ e. AreNamesBefore (names_of e) (pointer_names pointer)) front
front_before pointer front back [] begin order = absurd begin
front_before pointer front back (first ∷ others) begin order =
    let apart : AreInOrder AreNamesBefore (map names_of front ++ names_of first ∷ map names_of (others ++ back)) = subst (λ (ns : List Names). AreInOrder AreNamesBefore ns) (map-append names_of front ((first ∷ others) ++ back)) order in
    let each = before_item (map names_of front) (names_of first) (map names_of (others ++ back)) apart in
    All-from_recursion (λ (e : IndexEntry). AreNamesBefore (names_of e) (pointer_names pointer)) front
    (subst (λ (m : Names). AllByRecursion (λ (e : IndexEntry). AreNamesBefore (names_of e) m) front) begin (of_map (λ (n : Names). AreNamesBefore n (names_of first)) front each))

back_order : (front leaf back : List IndexEntry) → AreInOrder AreNamesBefore (map names_of (front ++ (leaf ++ back))) → AreInOrder AreNamesBefore (map names_of back)
back_order front leaf back order =
    let whole : AreInOrder AreNamesBefore (map names_of front ++ map names_of (leaf ++ back)) = subst (λ (ns : List Names). AreInOrder AreNamesBefore ns) (map-append names_of front (leaf ++ back)) order in
    let rest : AreInOrder AreNamesBefore (map names_of leaf ++ map names_of back) = subst (λ (ns : List Names). AreInOrder AreNamesBefore ns) (map-append names_of leaf back) (order_back AreNamesBefore (map names_of front) (map names_of (leaf ++ back)) whole) in
    order_back AreNamesBefore (map names_of leaf) (map names_of back) rest

pub leaf_decides : (version : ℕ) (names : Names) (root base : ℕ) (pointer : Pointer) (behind : List Pointer) (bytes : List ℕ) (leaves : List Leaf) (entries leaf : List IndexEntry) (found : Option IndexEntry) → (AreNamesBefore names (pointer_names pointer) → ⊥) → All (AreNamesBefore names) (next_names behind)
    → IsAmong version root base pointer behind bytes leaves → entries ≡ all_of leaves → AreInOrder AreNamesBefore (map names_of entries) → IsLeaf version pointer behind (take (leaf_end root behind - pointer.place) (drop (pointer.place - base) bytes)) leaf → IsEntryFor names leaf found → IsEntryFor names entries found
leaf_decides version names root base pointer behind bytes leaves entries leaf found from to a all order is has =
    let one : leaf ≡ a.leaf = leaf_same version pointer behind (take (leaf_end root behind - pointer.place) (drop (pointer.place - base) bytes)) leaf a.leaf is a.is in
    let parts : entries ≡ all_of a.front ++ (a.leaf ++ all_of a.back) = all ∙ ap all_of a.split ∙ flat_map-append (λ (l : Leaf). l) a.front (a.leaf ∷ a.back) in
    let ordered : AreInOrder AreNamesBefore (map names_of (all_of a.front ++ (a.leaf ++ all_of a.back))) = subst (λ (es : List IndexEntry). AreInOrder AreNamesBefore (map names_of es)) parts order in
    subst (λ (es : List IndexEntry). IsEntryFor names es found) (sym parts)
    (decide found (all_of a.front) a.leaf (all_of a.back) (subst (λ (l : Leaf). IsEntryFor names l found) one has)
    (front_before pointer (all_of a.front) (all_of a.back) a.leaf a.is.begin ordered)
    (leaves_behind version names root behind a.rest a.back to a.back-are (back_order (all_of a.front) a.leaf (all_of a.back) ordered)))
  where
    decide : (o : Option IndexEntry) (front here back : List IndexEntry) → IsEntryFor names here o → All (λ e. AreNamesBefore (names_of e) (pointer_names pointer)) front → All (λ e. AreNamesBefore names (names_of e)) back → IsEntryFor names (front ++ (here ++ back)) o
    decide (Some e) front here back has before later = (Contains-append_right front (here ++ back) e (Contains-append_left here back e has.0), has.1)
    decide None front here back has before later = λ e there same.
        ⊎_elim
        (λ (in_front : Contains front e). from (subst (λ (n : Names). AreNamesBefore n (pointer_names pointer)) same (All-contains (λ (x : IndexEntry). AreNamesBefore (names_of x) (pointer_names pointer)) front e before in_front)))
        (λ (in_rest : Contains (here ++ back) e). ⊎_elim
        (λ (in_here : Contains here e). has e in_here same)
        (λ (in_back : Contains back e). not_itself names (subst (λ (n : Names). AreNamesBefore names n) same (All-contains (λ (x : IndexEntry). AreNamesBefore names (names_of x)) back e later in_back)))
        (Contains-append_cases here back e in_rest))
        (Contains-append_cases front (here ++ back) e there)

-- where all leaves begin behind the names, no entry has them
pub none_decides : (version : ℕ) (names : Names) (root : ℕ) (ps : List Pointer) (bytes : List ℕ) (leaves : List Leaf) (entries : List IndexEntry) → AreBehind names ps → AreLeavesAt version root ps bytes leaves → entries ≡ all_of leaves → AreInOrder AreNamesBefore (map names_of entries) → IsEntryFor names entries None
none_decides version names root ps bytes leaves entries behind are all order = λ e there same.
    let each = leaves_behind version names root ps bytes leaves (next ps behind) are (subst (λ (es : List IndexEntry). AreInOrder AreNamesBefore (map names_of es)) all order) in
    let less : AreNamesBefore names (names_of e) = All-contains (λ (x : IndexEntry). AreNamesBefore names (names_of x)) (all_of leaves) e each (subst (λ (es : List IndexEntry). Contains es e) all there) in
    not_itself names (subst (λ (n : Names). AreNamesBefore names n) same less)
  where
    next : (qs : List Pointer) → AreBehind names qs → All (AreNamesBefore names) (next_names qs)
    next [] each = All-from_recursion (AreNamesBefore names) [] tt
    next (q ∷ qs) each = All-from_recursion (AreNamesBefore names) (pointer_names q ∷ []) (All-head (λ (p : Pointer). AreNamesBefore names (pointer_names p)) q qs each, tt)
