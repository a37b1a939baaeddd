-- The tail, the head, the root and the leaves, each given those before it.
use Rattle.std.proofs.Common.{◌≡◌, ℕ, zero, suc, ◌+◌, ◌-◌, ◌<◌, ◌≤◌, ◌^◌, List, [], ◌∷◌, ◌++◌, length, take, drop, Result, Ok, Err, refl, sym, ap, subst, ◌∙◌, arith}
use Rattle.std.specs.Prelude.{All, Option, None, Some, IfSome}
use Rattle.std.specs.Option.{ForSome}
use Rattle.std.specs.List.{flat_map}
use Rattle.std.proofs.lemmas.List.{drop-drop, drop-take, length-drop, length-take-le, take-take, take_all}
use Rattle.std.proofs.lemmas.List.Elements.{All-head}
use Rattle.tsdb_base.specs.Fields.{number32}
use Rattle.tsdb_fields.specs.declared.fault.FieldFault.{FieldFault}
use Rattle.tsdb_fields.specs.declared.fault.FieldFault.TheVariants as field
use Rattle.tsdb_index.specs.declared.fault.IndexFault.{IndexFault}
use Rattle.tsdb_index.specs.declared.fault.IndexFault.TheVariants as index
use Rattle.tsdb_index.specs.declared.index.IndexEntry.{IndexEntry}
use Rattle.tsdb_index.specs.declared.pointer.Pointer.{Pointer}
use Rattle.tsdb_index.specs.Entries.{AreInOrder}
use Rattle.tsdb_index.specs.Faults.{ReadsWhole}
use Rattle.tsdb_index.specs.Parts.{AreLeavesAt, BeginAt, IsFirstBadLeaf, IsPointer, IsPointerBefore, IsRoot, pointer_bytes}
use Rattle.tsdb_index.specs.Steps.{AreSpread, IsCountedList, ReadsLeaves}
use Rattle.tsdb_index.proofs.Roots.{AreRoot, pointers_same, root_counted}
use Rattle.tsdb_index.proofs.Whole.{found_index, spread_at}
use Rattle.tsdb_index.specs.Versions.{IsVersion}
use Rattle.tsdb_pages.specs.File.{head, head_length, version_in}
use Rattle.tsfile_reader.specs.declared.ends.Ends.{Ends}
use Rattle.tsfile_reader.specs.declared.ends.Front.{Front}
use Rattle.tsfile_reader.specs.declared.ends.Root.{Root}
use Rattle.tsfile_reader.specs.declared.fault.ReadFault.{ReadFault}
use Rattle.tsfile_reader.specs.declared.fault.ReadFault.TheVariants.{Failed, Damaged, Memory}
use Rattle.tsfile_reader.specs.Answers.{Answers, IfDamaged, as_read_fault, of_index}
use Rattle.tsfile_reader.specs.Outline.{HasFront, HasOutline, HasTail, IsBadFront, IsBadOutline, IsTail, between, in_front, no_head, no_leaf, no_root, no_tail, short, tail_place}
use Rattle.tsfile_reader.specs.Steps.{HasFileEnds, HasSomeRoot, IsFrontIn}

pub is_short : (o : Option (List ℕ)) (size : ℕ) → ForSome o (λ b. size ≡ length b) → size < 21 → IfSome o (λ b. IsBadFront b 0)
is_short None size len small = tt
is_short (Some b) size len small = let n = len b refl in short (omega (arith, n, small))

-- the tail that was read is the last bytes
tail_there : (b tail : List ℕ) (size : ℕ) → size ≡ length b → tail ≡ take 14 (drop (size - 14) b) → tail ≡ drop (tail_place b) b
tail_there b tail size len is =
    let n = length-drop (size - 14) b in
    is ∙ take_all 14 (drop (size - 14) b) (omega (arith, n, len)) ∙ ap (λ (k : ℕ). drop (k - 14) b) len

pub has_tail : (b tail : List ℕ) (size root : ℕ) → size ≡ length b → tail ≡ take 14 (drop (size - 14) b) → IsTail size tail root → HasTail b root
has_tail b tail size root len is read =
    subst (λ (n : ℕ). IsTail n (drop (tail_place b) b) root) len (subst (λ (t : List ℕ). IsTail size t root) (tail_there b tail size len is) read)

no_tail_there : (b tail : List ℕ) (size : ℕ) → size ≡ length b → 21 ≤ size → tail ≡ take 14 (drop (size - 14) b) → ((root : ℕ) → IsTail size tail root → ⊥) → IsBadFront b (size - 14)
no_tail_there b tail size len long is none =
    subst (λ (n : ℕ). IsBadFront b (n - 14)) (sym len)
    (no_tail (omega (arith, len, long)) (λ root has. none root (subst (λ (n : ℕ). IsTail n tail root) (sym len) (subst (λ (t : List ℕ). IsTail (length b) t root) (sym (tail_there b tail size len is)) has))))

pub tail_bad : {T B : Type 0} (Is : List ℕ → T → Type 0) (o : Option (List ℕ)) (size : ℕ) (tail : List ℕ) (view : B → ℕ) (fault : FieldFault) (answer : ReadFault)
    → ForSome o (λ b. size ≡ length b) → 21 ≤ size → IfSome o (λ b. tail ≡ take 14 (drop (size - 14) b)) → ReadsWhole (IsTail size tail) view (Err fault) → answer ≡ as_read_fault (size - 14) fault → Answers Is IsBadFront o (Err answer)
tail_bad Is None size tail view (field.Bad at) answer len long is none answer_is = rw answer_is tt
tail_bad Is (Some b) size tail view (field.Bad at) answer len long is none answer_is = rw answer_is (no_tail_there b tail size (len b refl) long is none)
tail_bad Is o size tail view field.Memory answer len long is none answer_is = rw answer_is tt

pub head_bad : (o : Option (List ℕ)) (size root : ℕ) (tail start : List ℕ) → ForSome o (λ b. size ≡ length b) → 21 ≤ size → IfSome o (λ b. tail ≡ take 14 (drop (size - 14) b)) → IsTail size tail root
    → IfSome o (λ b. start ≡ take 7 (drop 0 b)) → ((version : ℕ) → IsVersion version → start ≡ head version → ⊥) → IfSome o (λ b. IsBadFront b 0)
head_bad None size root tail start len long is read start_is other = tt
head_bad (Some b) size root tail start len long is read start_is other =
    let n = len b refl in
    no_head (omega (arith, n, long)) root (has_tail b tail size root n is read) (λ has. other (version_in b) has.0 (start_is ∙ has.1))

-- the first bytes say the version
head_says : (b : List ℕ) (version : ℕ) → take 7 b ≡ head version → version_in b ≡ version
head_says [] version is = absurd cc
head_says (a ∷ []) version is = absurd cc
head_says (a ∷ b ∷ []) version is = absurd cc
head_says (a ∷ b ∷ c ∷ []) version is = absurd cc
head_says (a ∷ b ∷ c ∷ d ∷ []) version is = absurd cc
head_says (a ∷ b ∷ c ∷ d ∷ e ∷ []) version is = absurd cc
head_says (a ∷ b ∷ c ∷ d ∷ e ∷ f ∷ []) version is = absurd cc
head_says (a ∷ b ∷ c ∷ d ∷ e ∷ f ∷ g ∷ rest) version is = cc

pub has_ends : (o : Option (List ℕ)) (ends : Ends) (size root version : ℕ) (tail start : List ℕ) → ForSome o (λ b. size ≡ length b) → 21 ≤ size → IfSome o (λ b. tail ≡ take 14 (drop (size - 14) b)) → IsTail size tail root
    → IfSome o (λ b. start ≡ take 7 (drop 0 b)) → IsVersion version → start ≡ head version → ends.size ≡ size → ends.root ≡ root → ends.version ≡ version → IfSome o (λ b. HasFileEnds b ends)
has_ends None ends size root version tail start len long is read start_is known same size_is root_is version_is = tt
has_ends (Some b) ends size root version tail start len long is read start_is known same size_is root_is version_is =
    let n = len b refl in
    let says = head_says b version (sym start_is ∙ same) in
    record {
      size = size_is ∙ n;
      long = omega (arith, n, long);
      tail = subst (λ (r : ℕ). HasTail b r) (sym root_is) (has_tail b tail size root n is read);
      starts = (subst IsVersion (sym says) known, sym start_is ∙ same ∙ ap head (sym says));
      version_is = version_is ∙ sym says;
    }

-- ---- the root

abbrev IsPointers : List ℕ → List Pointer → Type 0
IsPointers = IsCountedList 82 number32 (2 ^ 32) pointer_bytes IsPointer

-- the bytes of the root as they were read
root_bytes : (b bytes : List ℕ) (size root count : ℕ) → size ≡ length b → count ≡ size - 14 - root → bytes ≡ take count (drop root b) → bytes ≡ between root (tail_place b) b
root_bytes b bytes size root count len count_is is =
    is ∙ ap (λ (n : ℕ). take n (drop root b)) (count_is ∙ ap (λ (n : ℕ). n - 14 - root) len)

no_root_there : (b bytes : List ℕ) (ends : Ends) → HasFileEnds b ends → bytes ≡ between ends.root (tail_place b) b → ((place : ℕ) (ps : List Pointer) → 7 ≤ place → IsRoot place ends.root bytes ps → ⊥) → IsBadFront b ends.root
no_root_there b bytes ends has is none =
    no_root has.long ends.root has.tail has.starts (λ place ps root. none place ps root.behind_head (subst (λ (l : List ℕ). IsRoot place ends.root l ps) (sym is) root.is))

pub root_bad : {T B : Type 0} (Is : List ℕ → T → Type 0) (o : Option (List ℕ)) (ends : Ends) (count : ℕ) (bytes slice : List ℕ) (view : B → ℕ × List Pointer) (fault : FieldFault) (answer : ReadFault)
    → IfSome o (λ b. HasFileEnds b ends) → count ≡ ends.size - 14 - ends.root → IfSome o (λ b. bytes ≡ take count (drop ends.root b)) → slice ≡ bytes → ReadsWhole (λ root. (head_length ≤ root.0) × IsRoot root.0 ends.root slice root.1) view (Err fault)
    → answer ≡ as_read_fault ends.root fault → Answers Is IsBadFront o (Err answer)
root_bad Is None ends count bytes slice view (field.Bad at) answer has count_is is same none answer_is = rw answer_is tt
root_bad Is (Some b) ends count bytes slice view (field.Bad at) answer has count_is is same none answer_is =
    rw answer_is (no_root_there b slice ends has (same ∙ root_bytes b bytes ends.size ends.root count has.size count_is is) (λ place ps low root. none (place, ps) (low, root)))
root_bad Is o ends count bytes slice view field.Memory answer has count_is is same none answer_is = rw answer_is tt

pub root_found : (o : Option (List ℕ)) (ends : Ends) (root : Root) (count : ℕ) (bytes slice : List ℕ) → IfSome o (λ b. HasFileEnds b ends) → count ≡ ends.size - 14 - ends.root → IfSome o (λ b. bytes ≡ take count (drop ends.root b)) → slice ≡ bytes
    → head_length ≤ root.place → IsRoot root.place ends.root slice root.pointers.items → IfSome o (λ b. (ends.size ≡ length b) × HasFront b ends.root root.place root.pointers.items × (ends.version ≡ version_in b))
root_found None ends root count bytes slice has count_is is same low there = tt
root_found (Some b) ends root count bytes slice has count_is is same low there = (
  has.size,
  record {
    long = has.long;
    tail = has.tail;
    starts = has.starts;
    points = record { behind_head = low; is = subst (λ (l : List ℕ). IsRoot root.place ends.root l root.pointers.items) (same ∙ root_bytes b bytes ends.size ends.root count has.size count_is is) there };
  },
  has.version_is,
)

-- the first leaf stands before the root
pub first_inside : (place root : ℕ) (bytes : List ℕ) (ps : List Pointer) → IsRoot place root bytes ps → place < root
first_inside place root bytes [] is = absurd is.begin
first_inside place root bytes (p ∷ ps) is = subst (λ (n : ℕ). n < root) is.begin (All-head (λ (q : Pointer). q.place < root) p ps is.inside)

-- the root that all of these bytes are, by its pointers
pub no_place : (at : ℕ) (bytes : List ℕ) (pointers : List Pointer) → IsPointers bytes pointers → ((place : ℕ) → BeginAt place pointers → head_length ≤ place → place < at → ⊥) → (it : ℕ × List Pointer) → (head_length ≤ it.0) × IsRoot it.0 at bytes it.1 → ⊥
no_place at bytes pointers counted none it is =
    let same : it.1 ≡ pointers = pointers_same bytes it.1 pointers (root_counted it.0 at bytes it.1 is.1) counted in
    none it.0 (subst (λ (ps : List Pointer). BeginAt it.0 ps) same is.1.begin) is.0 (first_inside it.0 at bytes it.1 is.1)

-- pointers that are none are no root's
pub pointers_bad : {B C : Type 0} (at : ℕ) (bytes : List ℕ) (view : B → List Pointer) (whole : C → ℕ × List Pointer) (fault : FieldFault) → ReadsWhole (IsPointers bytes) view (Err fault) → ReadsWhole (λ root. (head_length ≤ root.0) × IsRoot root.0 at bytes root.1) whole (Err fault)
pointers_bad at bytes view whole (field.Bad place) none = λ it is. none it.1 (root_counted it.0 at bytes it.1 is.1)
pointers_bad at bytes view whole field.Memory none = tt

pub no_order : (at place : ℕ) (bytes : List ℕ) (pointers : List Pointer) → IsPointers bytes pointers → BeginAt place pointers → (AreRoot place at pointers → ⊥) → (it : ℕ × List Pointer) → (head_length ≤ it.0) × IsRoot it.0 at bytes it.1 → ⊥
no_order at place bytes pointers counted begin none it is =
    let same : it.1 ≡ pointers = pointers_same bytes it.1 pointers (root_counted it.0 at bytes it.1 is.1) counted in
    let rising = subst (λ (ps : List Pointer). AreInOrder IsPointerBefore ps) same is.1.rising in
    let inside = subst (λ (ps : List Pointer). All (λ (p : Pointer). p.place < at) ps) same is.1.inside in
    none (begin, rising, inside)

-- ---- the leaves

pub between_front : (b : List ℕ) (p r t : ℕ) → p ≤ r → r ≤ t → take (r - p) (between p t b) ≡ between p r b
between_front b p r t low high = take-take (r - p) (t - p) (drop p b) (omega (arith, low, high))

pub between_back : (b : List ℕ) (p r t : ℕ) → p ≤ r → r ≤ t → drop (r - p) (between p t b) ≡ between r t b
between_back b p r t low high =
    let n : r ≡ p + (r - p) = omega (arith, low) in
    let m : t - p ≡ (r - p) + (t - r) = omega (arith, low, high) in
    let behind : drop r b ≡ drop (r - p) (drop p b) = ap (λ (k : ℕ). drop k b) n ∙ sym (drop-drop (r - p) p b) in
    ap (λ (k : ℕ). drop (r - p) (take k (drop p b))) m ∙ drop-take (r - p) (t - r) (drop p b) ∙ ap (λ (l : List ℕ). take (t - r) l) (sym behind)

pub length_between : (b : List ℕ) (p r : ℕ) → r ≤ length b → length (between p r b) ≡ r - p
length_between b p r high = let n = length-drop p b in length-take-le (r - p) (drop p b) (omega (arith, n, high))

-- a root has bytes, so it begins before the tail
pub before_tail : (b bytes : List ℕ) (root : ℕ) (ps : List Pointer) → bytes ≡ between root (tail_place b) b → IsPointers bytes ps → root < tail_place b
before_tail b bytes root ps is counted = before (tail_place b - root) (omega arith) refl
  where
    some : length bytes ≡ suc (length (number32 (length ps) ++ flat_map pointer_bytes ps))
    some = ap length counted.bytes_are

    before : (n : ℕ) → (0 < n → root < tail_place b) → n ≡ tail_place b - root → root < tail_place b
    before zero f e = absurd (let none : length bytes ≡ 0 = ap length is ∙ ap (λ (k : ℕ). length (take k (drop root b))) (sym e) in omega (arith, some, none))
    before (suc n) f e = f (omega arith)

pub spread_read : (front : Front) (part slice : List ℕ) (ps : List Pointer) → slice ≡ part → ps ≡ front.root.pointers.items → length part ≡ front.ends.root - front.root.place → HasSomeRoot front → AreSpread front.ends.root ps (length slice)
spread_read front part slice ps same ps_are size root =
    let low = first_inside front.root.place front.ends.root root.0 front.root.pointers.items root.1 in
    let n = ap length same in
    subst (λ (qs : List Pointer). AreSpread front.ends.root qs (length slice)) (sym ps_are)
    (spread_at front.root.place front.ends.root root.0 front.root.pointers.items slice root.1 (omega (arith, low, n, size)))

pub leaves_found : (o : Option (List ℕ)) (front : Front) (part slice : List ℕ) (ps : List Pointer) (leaves : List (List IndexEntry)) (list entries : List IndexEntry) → IfSome o (λ b. IsFrontIn b front) → IfSome o (λ b. part ≡ take (front.ends.root - front.root.place) (drop front.root.place b))
    → length part ≡ front.ends.root - front.root.place → slice ≡ part → ps ≡ front.root.pointers.items → AreLeavesAt front.ends.version front.ends.root ps slice leaves → entries ≡ flat_map (λ leaf. leaf) leaves → list ≡ entries
    → IfSome o (λ b. (front.ends.size ≡ length b) × HasOutline b front.ends.root front.root.place front.root.pointers.items list × (front.ends.version ≡ version_in b))
leaves_found None front part slice ps leaves list entries has part_is size same ps_are are all list_is = tt
leaves_found (Some b) front part slice ps leaves list entries has part_is size same ps_are are all list_is =
    let place = front.root.place in
    let root = front.ends.root in
    let qs = front.root.pointers.items in
    let points = has.1.points in
    let low = first_inside front.root.place front.ends.root (between front.ends.root (tail_place b) b) front.root.pointers.items has.1.points.is in
    let high = before_tail b (between front.ends.root (tail_place b) b) front.ends.root front.root.pointers.items refl (root_counted place root (between front.ends.root (tail_place b) b) qs has.1.points.is) in
    let front_is = between_front b place root (tail_place b) (omega (arith, low)) (omega (arith, high)) in
    let back_is = between_back b place root (tail_place b) (omega (arith, low)) (omega (arith, high)) in (
      has.0,
      record {
        long = has.1.long;
        tail = has.1.tail;
        starts = has.1.starts;
        points = points;
        index = found_index (version_in b) place root (between front.root.place (tail_place b) b) part (between front.ends.root (tail_place b) b) qs leaves list (part_is ∙ sym front_is) (sym back_is) (omega (arith, low, size)) points.is
            (subst (λ (n : ℕ). AreLeavesAt n front.ends.root qs part leaves) has.2 (subst (λ (l : List Pointer). AreLeavesAt front.ends.version front.ends.root l part leaves) ps_are (subst (λ (l : List ℕ). AreLeavesAt front.ends.version front.ends.root ps l leaves) same are))) (list_is ∙ all);
      },
      has.2,
    )

pub leaves_bad : {T B : Type 0} (Is : List ℕ → T → Type 0) (o : Option (List ℕ)) (front : Front) (part slice : List ℕ) (ps : List Pointer) (view : B → List IndexEntry) (fault : IndexFault) (answer : ReadFault) → IfSome o (λ b. IsFrontIn b front)
    → IfSome o (λ b. part ≡ take (front.ends.root - front.root.place) (drop front.root.place b)) → slice ≡ part → ps ≡ front.root.pointers.items → ReadsLeaves front.ends.version front.ends.root ps slice view (Err fault) → answer ≡ of_index fault → Answers Is IsBadOutline o (Err answer)
leaves_bad Is None front part slice ps view (index.Bad at) answer has part_is same ps_are bad answer_is = rw answer_is tt
leaves_bad Is (Some b) front part slice ps view (index.Bad at) answer has part_is same ps_are bad answer_is =
    rw answer_is (no_leaf has.1.long front.ends.root has.1.tail has.1.starts front.root.place front.root.pointers.items has.1.points at
    (subst (λ (n : ℕ). IsFirstBadLeaf n front.ends.root front.root.pointers.items (between front.root.place front.ends.root b) at) has.2
    (subst (λ (l : List Pointer). IsFirstBadLeaf front.ends.version front.ends.root l (between front.root.place front.ends.root b) at) ps_are (subst (λ (l : List ℕ). IsFirstBadLeaf front.ends.version front.ends.root ps l at) (same ∙ part_is) bad))))
leaves_bad Is o front part slice ps view index.Memory answer has part_is same ps_are bad answer_is = rw answer_is tt

-- a bad front is a bad outline
pub front_bad : {T S : Type 0} (Is : List ℕ → T → Type 0) (Js : List ℕ → S → Type 0) (o : Option (List ℕ)) (fault : ReadFault) → Answers Is IsBadFront o (Err fault) → Answers Js IsBadOutline o (Err fault)
front_bad Is Js o Failed answers = tt
front_bad Is Js None (Damaged at) answers = tt
front_bad Is Js (Some b) (Damaged at) answers = in_front at answers
front_bad Is Js o Memory answers = tt

-- the length of a file of which the front was read
pub short_file : {T : Type 0} (o : Option (List ℕ)) (front : Front) (result : Result T ReadFault) → IfSome o (λ b. IsFrontIn b front) → IfDamaged result (λ at. IfSome o (λ b. length b < 2 ^ 63))
short_file o front (Ok found) has = tt
short_file o front (Err Failed) has = tt
short_file None front (Err (Damaged at)) has = tt
short_file (Some b) front (Err (Damaged at)) has = let n = has.0 in let limit = front.ends.limit in omega (arith, n, limit)
short_file o front (Err Memory) has = tt
