-- Finding the entry of one series: what its leaf says, where a part is bad, and what a tree has.
use Rattle.std.proofs.Common.{◌≡◌, ◌⊎◌, inl, inr, ℕ, zero, suc, ◌+◌, ◌-◌, ◌<◌, ◌≤◌, ◌^◌, List, [], ◌∷◌, ◌++◌, length, get_or, map, take, drop, ⊎_elim, Result, Ok, Err, refl, sym, ap, subst, ◌∙◌, arith}
use Rattle.std.specs.Prelude.{All, Contains, Option, None, Some, IfSome, IfOk}
use Rattle.std.specs.List.{flat_map, AllByRecursion}
use Rattle.std.proofs.lemmas.List.Elements.{All-contains, Contains-append_left, Contains-append_right, recursion_from_All}
use Rattle.tsdb_fields.specs.declared.fault.FieldFault.{FieldFault}
use Rattle.tsdb_fields.specs.declared.fault.FieldFault.TheVariants as field
use Rattle.tsdb_index.specs.declared.index.IndexEntry.{IndexEntry}
use Rattle.tsdb_index.specs.declared.pointer.Pointer.{Pointer}
use Rattle.tsdb_index.specs.Entries.{AreInOrder, IsEntry, names_of}
use Rattle.tsdb_path.specs.Order.{AreNamesBefore}
use Rattle.tsdb_index.specs.Faults.{ReadsWhole}
use Rattle.tsdb_index.specs.Finding.{AreBehind, IsEntryFor, IsLeafFor}
use Rattle.tsdb_index.specs.Parts.{AreLeavesAt, BeginAt, IsLeaf, IsPointerBefore, leaf_end, next_names}
use Rattle.tsdb_index.specs.Steps.{AreSpread}
use Rattle.tsdb_index.proofs.LeafOfNames.{IsAmong, among, leaf_decides, none_decides}
use Rattle.tsdb_index.proofs.Orders.{order_back, order_left}
use Rattle.tsdb_index.proofs.Whole.{every_right, spread_at}
use Rattle.tsdb_pages.specs.declared.tree.Chunk.{Chunk}
use Rattle.tsdb_pages.specs.declared.tree.Group.{Group}
use Rattle.tsdb_pages.specs.declared.tree.Tree.{Tree}
use Rattle.tsdb_pages.specs.File.{AreEntries, AreEntriesOf, HasSums, IsFile, chunk_field, data_field, group_field, group_head, head_length, version_in}
use Rattle.tsdb_pages.proofs.OneFile.{version_is}
use Rattle.tsdb_pages.specs.Trees.{IsMade, IsTree}
use Rattle.tsfile_reader.specs.declared.ends.Front.{Front}
use Rattle.tsfile_reader.specs.declared.fault.ReadFault.{ReadFault}
use Rattle.tsfile_reader.specs.declared.fault.ReadFault.TheVariants.{Failed, Damaged, Memory}
use Rattle.tsfile_reader.specs.Answers.{Answers, IfDamaged, IsNotDamaged, as_read_fault}
use Rattle.tsfile_reader.specs.LookUp.{IsBadLookUp, IsEntryInTree, IsFormedEntry, IsLookedUp, in_front, in_leaf, in_none, leaf_bytes, no_leaf}
use Rattle.tsfile_reader.specs.Outline.{HasFront, HasOutline, HasRoot, IsBadFront, between, tail_place}
use Rattle.tsfile_reader.specs.Steps.{HasSomeRoot, IsFrontIn}
use Rattle.tsfile_reader.proofs.OneOutline.{front_of, good_front, leaves_there, rises, root_same, tail_same, tree_outline}
use Rattle.tsfile_reader.proofs.Outlines.{between_back, between_front, length_between}

abbrev Names : Type 0
Names = List ℕ × List ℕ

-- ---- one leaf

-- where the leaf stands
pub record HasBounds (root : ℕ) (pointer : Pointer) (behind : List Pointer) : Type 0 where
  pub from : pointer.place ≤ leaf_end root behind
  pub to : leaf_end root behind ≤ root

pub leaf_bounds : (front : Front) (names : Names) (ps : List Pointer) (pointer : Pointer) (behind : List Pointer) → ps ≡ front.root.pointers.items → HasSomeRoot front → IsLeafFor names ps pointer behind → HasBounds front.ends.root pointer behind
leaf_bounds front names ps pointer behind same root is =
    let apart : front.root.pointers.items ≡ is.before ++ pointer ∷ behind = sym same ∙ is.split in
    let order = order_back IsPointerBefore is.before (pointer ∷ behind) (subst (λ (l : List Pointer). AreInOrder IsPointerBefore l) apart root.1.rising) in
    let inside = every_right (λ (p : Pointer). p.place < front.ends.root) is.before (pointer ∷ behind) (recursion_from_All (λ (p : Pointer). p.place < front.ends.root) (is.before ++ pointer ∷ behind) (subst (λ (l : List Pointer). All (λ (p : Pointer). p.place < front.ends.root) l) apart root.1.inside)) in
    bounds behind order inside.0 inside.1
  where
    bounds : (qs : List Pointer) → AreInOrder IsPointerBefore (pointer ∷ qs) → pointer.place < front.ends.root → AllByRecursion (λ (p : Pointer). p.place < front.ends.root) qs → HasBounds front.ends.root pointer qs
    bounds [] order low inside = record { from = omega (arith, low); to = omega arith }
    bounds (q ∷ qs) order low inside = let less = order.0.1 in let next = inside.0 in record { from = omega (arith, less); to = omega (arith, next) }

pub one_leaf_found : (version : ℕ) (o : Option (List ℕ)) (pointer : Pointer) (behind : List Pointer) (root end : ℕ) (part slice : List ℕ) (entries : List IndexEntry) → end ≡ leaf_end root behind → slice ≡ part → IfSome o (λ b. part ≡ take (end - pointer.place) (drop pointer.place b))
    → IsLeaf version pointer behind slice entries → IfSome o (λ b. IsLeaf version pointer behind (leaf_bytes root pointer behind b) entries)
one_leaf_found version None pointer behind root end part slice entries end_is same is leaf = tt
one_leaf_found version (Some b) pointer behind root end part slice entries end_is same is leaf =
    subst (λ (l : List ℕ). IsLeaf version pointer behind l entries) (same ∙ is ∙ ap (λ (n : ℕ). take (n - pointer.place) (drop pointer.place b)) end_is) leaf

pub one_leaf_bad : {T B : Type 0} (version : ℕ) (Is : List ℕ → T → Type 0) (o : Option (List ℕ)) (pointer : Pointer) (behind : List Pointer) (root end : ℕ) (part slice : List ℕ) (view : B → List IndexEntry) (fault : FieldFault) (answer : ReadFault) → end ≡ leaf_end root behind → slice ≡ part
    → IfSome o (λ b. part ≡ take (end - pointer.place) (drop pointer.place b)) → ReadsWhole (IsLeaf version pointer behind slice) view (Err fault) → answer ≡ as_read_fault pointer.place fault
    → Answers Is (λ b at. (at ≡ pointer.place) × ((entries : List IndexEntry) → IsLeaf version pointer behind (leaf_bytes root pointer behind b) entries → ⊥)) o (Err answer)
one_leaf_bad version Is None pointer behind root end part slice view (field.Bad at) answer end_is same is none answer_is = rw answer_is tt
one_leaf_bad version Is (Some b) pointer behind root end part slice view (field.Bad at) answer end_is same is none answer_is =
    let bytes : slice ≡ leaf_bytes root pointer behind b = same ∙ is ∙ ap (λ (n : ℕ). take (n - pointer.place) (drop pointer.place b)) end_is in
    rw answer_is (refl, λ entries leaf. none entries (subst (λ (l : List ℕ). IsLeaf version pointer behind l entries) (sym bytes) leaf))
one_leaf_bad version Is o pointer behind root end part slice view field.Memory answer end_is same is none answer_is = rw answer_is tt

pub leaf_in_order : (version : ℕ) (pointer : Pointer) (behind : List Pointer) (bytes : List ℕ) (entries : List IndexEntry) → IsLeaf version pointer behind bytes entries → AreInOrder AreNamesBefore (map names_of entries)
leaf_in_order version pointer behind bytes entries leaf = order_left AreNamesBefore (map names_of entries) (next_names behind) leaf.rising

-- an entry that is found among good ones is good, and has the names
pub entry_formed : (version : ℕ) (names : Names) (entries : List IndexEntry) (found : Option IndexEntry) → IsEntryFor names entries found → All (IsEntry version) entries → IfSome found IsFormedEntry
entry_formed version names entries None is good = tt
entry_formed version names entries (Some entry) is good = (version, All-contains (IsEntry version) entries entry good is.0)

pub entry_named : (names : Names) (entries : List IndexEntry) (found : Option IndexEntry) → IsEntryFor names entries found → IfSome found (λ entry. names_of entry ≡ names)
entry_named names entries None is = tt
entry_named names entries (Some entry) is = is.1

-- ---- the exits of a look-up

pub front_refused : {T S : Type 0} (Is : List ℕ → T → Type 0) (Js : List ℕ → S → Type 0) (o : Option (List ℕ)) (names : Names) (fault : ReadFault) → Answers Is IsBadFront o (Err fault) → Answers Js (λ b at. IsBadLookUp b names at) o (Err fault)
front_refused Is Js o names Failed answers = tt
front_refused Is Js None names (Damaged at) answers = tt
front_refused Is Js (Some b) names (Damaged at) answers = in_front at answers
front_refused Is Js o names Memory answers = tt

pub limit_refused : (T S : Type 0) (o : Option (List ℕ)) (fault : ReadFault) → IfDamaged {T = T} (Err fault) (λ at. IfSome o (λ b. length b < 2 ^ 63)) → Answers {T = S} (λ b found. length b < 2 ^ 63) (λ b at. length b < 2 ^ 63) o (Err fault)
limit_refused T S o Failed limit = tt
limit_refused T S None (Damaged at) limit = tt
limit_refused T S (Some b) (Damaged at) limit = limit
limit_refused T S o Memory limit = tt

pub limit_known : {S : Type 0} (o : Option (List ℕ)) (front : Front) (result : Result S ReadFault) → IfSome o (λ b. IsFrontIn b front) → Answers (λ b found. length b < 2 ^ 63) (λ b at. length b < 2 ^ 63) o result
limit_known None front (Ok found) has = tt
limit_known (Some b) front (Ok found) has = let n = has.0 in let limit = front.ends.limit in omega (arith, n, limit)
limit_known o front (Err Failed) has = tt
limit_known None front (Err (Damaged at)) has = tt
limit_known (Some b) front (Err (Damaged at)) has = let n = has.0 in let limit = front.ends.limit in omega (arith, n, limit)
limit_known o front (Err Memory) has = tt

pub none_found : (o : Option (List ℕ)) (front : Front) (names : Names) (ps : List Pointer) → ps ≡ front.root.pointers.items → IfSome o (λ b. IsFrontIn b front) → AreBehind names ps → IfSome o (λ b. IsLookedUp b names None)
none_found None front names ps same has behind = tt
none_found (Some b) front names ps same has behind = in_none front.ends.root front.root.place front.root.pointers.items has.1 (subst (λ (l : List Pointer). AreBehind names l) same behind)

leaf_moved : (names : Names) (ps qs : List Pointer) (pointer : Pointer) (behind : List Pointer) → ps ≡ qs → IsLeafFor names ps pointer behind → IsLeafFor names qs pointer behind
leaf_moved names ps qs pointer behind same is = subst (λ (l : List Pointer). IsLeafFor names l pointer behind) same is

pub entry_found : (o : Option (List ℕ)) (front : Front) (names : Names) (ps : List Pointer) (pointer : Pointer) (behind : List Pointer) (entries : List IndexEntry) (found : Option IndexEntry) → ps ≡ front.root.pointers.items → IfSome o (λ b. IsFrontIn b front)
    → IsLeafFor names ps pointer behind → IfSome o (λ b. IsLeaf front.ends.version pointer behind (leaf_bytes front.ends.root pointer behind b) entries) → IsEntryFor names entries found → IfSome o (λ b. IsLookedUp b names found)
entry_found None front names ps pointer behind entries found same has is leaf entry = tt
entry_found (Some b) front names ps pointer behind entries found same has is leaf entry =
    in_leaf front.ends.root front.root.place front.root.pointers.items has.1 pointer behind (leaf_moved names ps front.root.pointers.items pointer behind same is) entries
    (subst (λ (n : ℕ). IsLeaf n pointer behind (leaf_bytes front.ends.root pointer behind b) entries) has.2 leaf) found entry

pub leaf_refused : {T S : Type 0} (Is : List ℕ → T → Type 0) (Js : List ℕ → S → Type 0) (o : Option (List ℕ)) (front : Front) (names : Names) (ps : List Pointer) (pointer : Pointer) (behind : List Pointer) (fault : ReadFault) → ps ≡ front.root.pointers.items → IfSome o (λ b. IsFrontIn b front)
    → IsLeafFor names ps pointer behind → Answers Is (λ b at. (at ≡ pointer.place) × ((entries : List IndexEntry) → IsLeaf front.ends.version pointer behind (leaf_bytes front.ends.root pointer behind b) entries → ⊥)) o (Err fault) → Answers Js (λ b at. IsBadLookUp b names at) o (Err fault)
leaf_refused Is Js o front names ps pointer behind Failed same has is answers = tt
leaf_refused Is Js None front names ps pointer behind (Damaged at) same has is answers = tt
leaf_refused Is Js (Some b) front names ps pointer behind (Damaged at) same has is answers =
    no_leaf front.ends.root front.root.place front.root.pointers.items has.1 pointer behind (leaf_moved names ps front.root.pointers.items pointer behind same is)
    (λ entries leaf. answers.1 entries (subst (λ (n : ℕ). IsLeaf n pointer behind (leaf_bytes front.ends.root pointer behind b) entries) (sym has.2) leaf)) at answers.0
leaf_refused Is Js o front names ps pointer behind Memory same has is answers = tt

-- ---- where the index is whole

-- the leaf of the names stands among the leaves of the index
record IsThere (b : List ℕ) (root place : ℕ) (ps : List Pointer) (es : List IndexEntry) (pointer : Pointer) (behind : List Pointer) : Type 0 where
  leaves : List (List IndexEntry)
  among-them : IsAmong (version_in b) root place pointer behind (between place root b) leaves
  all : es ≡ flat_map (λ leaf. leaf) leaves
  bytes : leaf_bytes root pointer behind b ≡ take (leaf_end root behind - pointer.place) (drop (pointer.place - place) (between place root b))

leaf_there : (b : List ℕ) (root place : ℕ) (ps : List Pointer) (es : List IndexEntry) (names : Names) (pointer : Pointer) (behind : List Pointer) → length b < 2 ^ 64 → HasOutline b root place ps es → IsLeafFor names ps pointer behind → IsThere b root place ps es pointer behind
leaf_there b root place ps es names pointer behind room has is =
    let r = rises b root place ps has.points in
    let low = r.low in
    let high = r.high in
    let size = length_between b place root (omega (arith, high)) in
    let leaves = leaves_there b root place ps es room has.points has.index in
    let spread : AreSpread root ps (length (between place root b)) = spread_at place root (between root (tail_place b) b) ps (between place root b) has.points.is (omega (arith, size, low)) in
    let begin : BeginAt place ps = has.points.is.begin in
    let a = among (version_in b) root place is.before pointer behind (between place root b) leaves.0 (subst (λ (l : List Pointer). BeginAt place l) is.split begin) (subst (λ (l : List Pointer). AreSpread root l (length (between place root b))) is.split spread)
    (subst (λ (l : List Pointer). AreLeavesAt (version_in b) root l (between place root b) leaves.0) is.split leaves.1) in
    let from = a.from in
    let to = a.to in
    let end = a.end in
    let apart : drop (pointer.place - place) (between place root b) ≡ between pointer.place root b = between_back b place pointer.place root from (omega (arith, to, end)) in
    let short : take (leaf_end root behind - pointer.place) (between pointer.place root b) ≡ leaf_bytes root pointer behind b = between_front b pointer.place (leaf_end root behind) root to end in
    record {
      leaves = leaves.0;
      among-them = a;
      all = leaves.2;
      bytes = sym short ∙ ap (λ (l : List ℕ). take (leaf_end root behind - pointer.place) l) (sym apart);
    }

-- the root of a look-up is that of the index
record IsSameFront (root other_root : ℕ) (ps qs : List Pointer) : Type 0 where
  roots : other_root ≡ root
  pointers : qs ≡ ps

same_front : (b : List ℕ) (root place : ℕ) (ps : List Pointer) (other_root other_place : ℕ) (qs : List Pointer) → length b < 2 ^ 64 → HasFront b root place ps → HasFront b other_root other_place qs → IsSameFront root other_root ps qs
same_front b root place ps other_root other_place qs room has other =
    let same = tail_same b other_root root room other.tail has.tail in
    let here : HasRoot b root other_place qs = subst (λ (n : ℕ). HasRoot b n other_place qs) same other.points in
    record { roots = same; pointers = (root_same b root other_place place qs ps here has.points).0 }

-- what a look-up finds is what the index has
pub looked_up : (b : List ℕ) (root place : ℕ) (ps : List Pointer) (es : List IndexEntry) (names : Names) (found : Option IndexEntry) → length b < 2 ^ 64 → HasOutline b root place ps es → IsLookedUp b names found → IsEntryFor names es found
looked_up b root place ps es names found room has (in_none other_root other_place qs other behind) =
    let s = same_front b root place ps other_root other_place qs room (front_of b root place ps es has) other in
    let leaves = leaves_there b root place ps es room has.points has.index in
    none_decides (version_in b) names root ps (between place root b) leaves.0 es (subst (λ (l : List Pointer). AreBehind names l) s.pointers behind) leaves.1 leaves.2 has.index.index.rising
looked_up b root place ps es names found room has (in_leaf other_root other_place qs other pointer behind is entries leaf same_found entry) =
    let s = same_front b root place ps other_root other_place qs room (front_of b root place ps es has) other in
    let here : IsLeafFor names ps pointer behind = leaf_moved names qs ps pointer behind s.pointers is in
    let t = leaf_there b root place ps es names pointer behind room has here in
    let one : IsLeaf (version_in b) pointer behind (leaf_bytes root pointer behind b) entries = subst (λ (n : ℕ). IsLeaf (version_in b) pointer behind (leaf_bytes n pointer behind b) entries) s.roots leaf in
    leaf_decides (version_in b) names root place pointer behind (between place root b) t.leaves es entries same_found here.from here.to t.among-them t.all has.index.index.rising (subst (λ (l : List ℕ). IsLeaf (version_in b) pointer behind l entries) t.bytes one) entry

-- and no part that a look-up takes is bad
pub not_bad : (b : List ℕ) (root place : ℕ) (ps : List Pointer) (es : List IndexEntry) (names : Names) (at : ℕ) → length b < 2 ^ 64 → HasOutline b root place ps es → IsBadLookUp b names at → ⊥
not_bad b root place ps es names at room has (in_front at_front is_bad) = good_front b root place ps at_front room (front_of b root place ps es has) is_bad
not_bad b root place ps es names at room has (no_leaf other_root other_place qs other pointer behind is none at_leaf at_is) =
    let s = same_front b root place ps other_root other_place qs room (front_of b root place ps es has) other in
    let here : IsLeafFor names ps pointer behind = leaf_moved names qs ps pointer behind s.pointers is in
    let t = leaf_there b root place ps es names pointer behind room has here in
    let there : IsLeaf (version_in b) pointer behind (leaf_bytes root pointer behind b) t.among-them.leaf = subst (λ (l : List ℕ). IsLeaf (version_in b) pointer behind l t.among-them.leaf) (sym t.bytes) t.among-them.is in
    none t.among-them.leaf (subst (λ (n : ℕ). IsLeaf (version_in b) pointer behind (leaf_bytes n pointer behind b) t.among-them.leaf) (sym s.roots) there)

-- ---- the entry of a chunk of a tree

-- an entry of this device and measurement
record HasNamed (device measurement : List ℕ) (entries : List IndexEntry) : Type 0 where
  entry : IndexEntry
  there : Contains entries entry
  device_is : entry.device ≡ device
  measurement_is : entry.measurement ≡ measurement

-- an element is the first of a list or one of the others
first_or_later : {A : Type 0} (y : A) (ys : List A) (x : A) → Contains (y ∷ ys) x → (y ≡ x) ⊎ Contains ys x
first_or_later y ys x there = by_place there.0 there.1 there.2
  where
    by_place : (k : ℕ) → k < length (y ∷ ys) → get_or (y ∷ ys) k x ≡ x → (y ≡ x) ⊎ Contains ys x
    by_place zero low is = inl is
    by_place (suc k) low is = inr (k, omega (arith, low), is)

-- behind an entry, and behind the entries of a group
behind_entry : (device measurement : List ℕ) (e : IndexEntry) (es : List IndexEntry) → HasNamed device measurement es → HasNamed device measurement (e ∷ es)
behind_entry device measurement e es rest = record { entry = rest.entry; there = Contains-append_right (e ∷ []) es rest.entry rest.there; device_is = rest.device_is; measurement_is = rest.measurement_is }

behind_group : (device measurement : List ℕ) (es others : List IndexEntry) → HasNamed device measurement others → HasNamed device measurement (es ++ others)
behind_group device measurement es others rest = record { entry = rest.entry; there = Contains-append_right es others rest.entry rest.there; device_is = rest.device_is; measurement_is = rest.measurement_is }

in_group : (device measurement : List ℕ) (es others : List IndexEntry) → HasNamed device measurement es → HasNamed device measurement (es ++ others)
in_group device measurement es others rest = record { entry = rest.entry; there = Contains-append_left es others rest.entry rest.there; device_is = rest.device_is; measurement_is = rest.measurement_is }

chunk_named : (device : List ℕ) (place : ℕ) (chunks : List Chunk) (entries : List IndexEntry) (chunk : Chunk) → AreEntries device place chunks entries → Contains chunks chunk → HasNamed device chunk.measurement entries
chunk_named device place [] entries chunk say there = absurd (let low = there.1 in omega (arith, low))
chunk_named device place (c ∷ cs) [] chunk say there = absurd say
chunk_named device place (c ∷ cs) (e ∷ es) chunk say there =
    ⊎_elim
    (λ (same : c ≡ chunk). here same)
    (λ (later : Contains cs chunk). behind_entry device chunk.measurement e es (chunk_named device (place + length (chunk_field c)) cs es chunk say.1 later))
    (first_or_later c cs chunk there)
  where
    here : c ≡ chunk → HasNamed device chunk.measurement (e ∷ es)
    here same = record { entry = e; there = (0, omega arith, refl); device_is = say.0.device_is; measurement_is = say.0.measurement_is ∙ ap (λ (x : Chunk). x.measurement) same }

group_named : (place : ℕ) (groups : List Group) (by_group : List (List IndexEntry)) (group : Group) (chunk : Chunk) → AreEntriesOf place groups by_group → Contains groups group → Contains group.chunks chunk → HasNamed group.device chunk.measurement (flat_map (λ list. list) by_group)
group_named place [] by_group group chunk say there inside = absurd (let low = there.1 in omega (arith, low))
group_named place (g ∷ gs) [] group chunk say there inside = absurd say
group_named place (g ∷ gs) (es ∷ others) group chunk say there inside =
    ⊎_elim
    (λ (same : g ≡ group). in_group group.device chunk.measurement es (flat_map (λ list. list) others) (here same))
    (λ (later : Contains gs group). behind_group group.device chunk.measurement es (flat_map (λ list. list) others) (group_named (place + length (group_field g)) gs others group chunk say.1 later inside))
    (first_or_later g gs group there)
  where
    here : g ≡ group → HasNamed group.device chunk.measurement es
    here same = subst (λ (d : List ℕ). HasNamed d chunk.measurement es) (ap (λ (x : Group). x.device) same)
        (chunk_named g.device (place + length (group_head g)) g.chunks es chunk say.0 (subst (λ (x : Group). Contains x.chunks chunk) (sym same) inside))

abbrev pair : List ℕ → List ℕ → Names
pair d m = (d, m)

names_from : (entry : IndexEntry) (names : Names) → entry.device ≡ names.0 → entry.measurement ≡ names.1 → names_of entry ≡ names
names_from entry names device measurement = ap (λ (x : List ℕ). pair x entry.measurement) device ∙ ap (λ (x : List ℕ). pair names.0 x) measurement

in_tree : (tree : Tree) (b : List ℕ) (names : Names) (found : Option IndexEntry) → (file : IsFile tree b) → IsEntryFor names file.entries found → IsEntryInTree (version_in b) tree names found
in_tree tree b names (Some entry) file has = (
  record { entries = file.entries; say = file.say; there = has.0 },
  has.1,
  subst (λ (n : ℕ). HasSums n entry) (sym (version_is tree b file)) (All-contains (HasSums file.version) file.entries entry file.sums has.0),
)
in_tree tree b names None file has = λ group chunk there inside device measurement.
    let named = group_named head_length tree.groups file.say.by_group group chunk file.say.say there inside in
    has named.entry (subst (λ (es : List IndexEntry). Contains es named.entry) file.say.all named.there) (names_from named.entry names (named.device_is ∙ device) (named.measurement_is ∙ measurement))

pub tree_found : (o : Option (List ℕ)) (names : Names) (result : Result (Option IndexEntry) ReadFault) → Answers (λ b. IsLookedUp b names) (λ b. IsBadLookUp b names) o result → Answers (λ b found. length b < 2 ^ 63) (λ b at. length b < 2 ^ 63) o result
    → IfSome o (λ b. (tree : Tree) → IsTree tree → IsMade tree → IsFile tree b → IsNotDamaged result × IfOk result (IsEntryInTree (version_in b) tree names))
tree_found None names result answers limit = tt
tree_found (Some b) names (Ok found) answers limit = λ tree is made file.
    let t = tree_outline tree b (omega (arith, limit)) is made file in
    (tt, in_tree tree b names found file (looked_up b file.root (length (data_field file.version tree)) t.pointers file.entries names found (omega (arith, limit)) t.outline answers))
tree_found (Some b) names (Err Failed) answers limit = λ tree is made file. (tt, tt)
tree_found (Some b) names (Err (Damaged at)) answers limit = λ tree is made file.
    let t = tree_outline tree b (omega (arith, limit)) is made file in
    absurd (not_bad b file.root (length (data_field file.version tree)) t.pointers file.entries names at (omega (arith, limit)) t.outline answers)
tree_found (Some b) names (Err Memory) answers limit = λ tree is made file. (tt, tt)
