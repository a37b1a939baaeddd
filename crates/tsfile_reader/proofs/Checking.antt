-- The exits of checking a file.
use Rattle.std.proofs.Common.{◌≡◌, ℕ, zero, suc, ◌+◌, ◌-◌, ◌*◌, ◌/◌, ◌<◌, ◌≤◌, ◌^◌, List, [], ◌∷◌, ◌++◌, length, drop, Err, refl, sym, ap, subst, ◌∙◌, arith}
use Rattle.std.specs.Prelude.{All, Option, None, Some, IfSome, IfOk, min}
use Rattle.std.specs.List.{flat_map}
use Rattle.std.proofs.lemmas.List.{drop_at, length-append}
use Rattle.tsdb_base.specs.FieldLaws.{number32-prefix_free}
use Rattle.tsdb_base.specs.Fields.{number32}
use Rattle.tsdb_index.specs.declared.index.FileMeta.{FileMeta}
use Rattle.tsdb_index.specs.declared.index.Index.{Index}
use Rattle.tsdb_index.specs.declared.index.IndexEntry.{IndexEntry}
use Rattle.tsdb_index.specs.declared.pointer.Pointer.{Pointer}
use Rattle.tsdb_index.specs.Parts.{pointer_bytes}
use Rattle.tsdb_index.specs.Spelling.{AreLeaves, leaf_field, pointers, root_field}
use Rattle.tsdb_pages.specs.declared.tree.Tree.{Tree}
use Rattle.tsdb_pages.specs.File.{HasSums, IsFile, head_length, version_in}
use Rattle.tsdb_pages.specs.Trees.{IsMade, IsTree}
use Rattle.tsfile_reader.specs.declared.ends.Ends.{Ends}
use Rattle.tsfile_reader.specs.declared.fault.ReadFault.{ReadFault}
use Rattle.tsfile_reader.specs.declared.fault.ReadFault.TheVariants.{Failed, Damaged, Memory}
use Rattle.tsfile_reader.specs.Answers.{Answers, IfDamaged, IsNotDamaged}
use Rattle.tsfile_reader.specs.Blame.{HasGroups, IsBlamed, IsFirstBadPart, IsMetaOfTree, IsNoFile, data_in, leaf, outline, part}
use Rattle.tsfile_reader.specs.Meta.{IsMetaOf}
use Rattle.tsfile_reader.specs.Outline.{HasOutline, IsBadOutline, between, tail_place}
use Rattle.tsfile_reader.specs.Steps.{IsFirstWrong, IsOutlineIn, ReadsOrStops}
use Rattle.tsfile_reader.proofs.Blames.{not_blamed, tree_of}
use Rattle.tsfile_reader.proofs.OneOutline.{rises}
use Rattle.tsfile_reader.proofs.Outlines.{between_back}

-- ---- as many leaves as pointers

abbrev all_of : List (List IndexEntry) → List IndexEntry
all_of leaves = flat_map (λ (leaf : List IndexEntry). leaf) leaves

few_leaves : (leaves : List (List IndexEntry)) → AreLeaves leaves → 256 * length leaves < length (all_of leaves) + 256
few_leaves [] are = absurd are
few_leaves (l ∷ []) are = let n = length-append l [] in let some = are.0 in omega (arith, n, some)
few_leaves (l ∷ m ∷ ls) are =
    let n = length-append l (all_of (m ∷ ls)) in
    let rest = few_leaves (m ∷ ls) are.1 in
    let full = are.0 in
    omega (arith, n, rest, full)

covered : (leaves : List (List IndexEntry)) → AreLeaves leaves → length (all_of leaves) ≤ 256 * length leaves
covered [] are = absurd are
covered (l ∷ []) are = let n = length-append l [] in let few = are.1 in omega (arith, n, few)
covered (l ∷ m ∷ ls) are =
    let n = length-append l (all_of (m ∷ ls)) in
    let rest = covered (m ∷ ls) are.1 in
    let full = are.0 in
    omega (arith, n, rest, full)

-- the root has a pointer for each leaf
pointers_cover : (b : List ℕ) (root place : ℕ) (ps : List Pointer) (es : List IndexEntry) → HasOutline b root place ps es → length es ≤ 256 * length ps
pointers_cover b root place ps es has =
    let r = rises b root place ps has.points in
    let low = r.low in
    let high = r.high in
    let s = has.index.spelling in
    let leaves = s.leaves in
    let flat = flat_map leaf_field leaves in
    let all = ap length s.stand.all in
    let most = has.index.index.few in
    let few = few_leaves leaves s.stand.sizes in
    let cover = covered leaves s.stand.sizes in
    let root_is = s.root_place in
    let size : length (flat_map leaf_field s.leaves) ≡ root - place = omega (arith, root_is) in
    let there : between root (tail_place b) b ≡ root_field place s.leaves =
    sym (between_back b place root (tail_place b) (omega (arith, low)) (omega (arith, high))) ∙ ap (λ (l : List ℕ). drop (root - place) l) s.bytes_are ∙ drop_at flat (root_field place leaves) (root - place) size in
    let both : 82 ∷ (number32 (length ps) ++ flat_map pointer_bytes ps) ≡ 82 ∷ (number32 (length s.leaves) ++ pointers place s.leaves) = sym has.points.is.bytes_are ∙ there in
    let same = number32-prefix_free (length ps) (length leaves) (flat_map pointer_bytes ps) (pointers place leaves) has.points.is.few (omega (arith, few, all, most)) (behind both) in
    let count = same.0 in
    omega (arith, cover, all, count)
  where
    behind : {x y : List ℕ} → 82 ∷ x ≡ 82 ∷ y → x ≡ y
    behind e = cc

-- the pointer with this number
record IsSplit (ps : List Pointer) (number : ℕ) : Type 0 where
  before : List Pointer
  pointer : Pointer
  behind : List Pointer
  all : ps ≡ before ++ pointer ∷ behind
  size : length before ≡ number

split_at : (ps : List Pointer) (number : ℕ) → number < length ps → IsSplit ps number
split_at [] number low = absurd (omega (arith, low))
split_at (p ∷ ps) zero low = record { before = []; pointer = p; behind = ps; all = refl; size = refl }
split_at (p ∷ ps) (suc n) low =
    let r = split_at ps n (omega (arith, low)) in
    record { before = p ∷ r.before; pointer = r.pointer; behind = r.behind; all = ap (λ (l : List Pointer). p ∷ l) r.all; size = ap suc r.size }

leaf_low : (count entries leaves : ℕ) → 0 < entries → entries ≤ 256 * leaves → min count (entries - 1) / 256 < leaves
leaf_low count entries leaves some cover = omega (arith, some, cover)

-- ---- a leaf that is wrong

wrong_in : (b : List ℕ) (root place : ℕ) (ps : List Pointer) (es said : List IndexEntry) (tree : Tree) (number at : ℕ) → HasOutline b root place ps es → HasGroups (version_in b) (data_in place b) tree said → IsFirstWrong es said (Some number)
    → ((before behind : List Pointer) (pointer : Pointer) → ps ≡ before ++ pointer ∷ behind → length before ≡ number → at ≡ pointer.place) → IsBlamed b at
wrong_in b root place ps es said tree number at has groups wrong place_of =
    let count = wrong.1 in
    let cover = pointers_cover b root place ps es has in
    let low = leaf_low count (length es) (length ps) has.index.index.some cover in
    let number_is = wrong.3 in
    let s = split_at ps number (subst (λ (n : ℕ). n < length ps) (sym number_is) low) in
    leaf root place ps es has tree said groups at (record {
      wrong = wrong.0;
      count = count;
      alike = wrong.2;
      before = s.before;
      pointer = s.pointer;
      behind = s.behind;
      pointers_are = s.all;
      number = s.size ∙ number_is;
      place = place_of s.before s.behind s.pointer s.all s.size;
    })

-- ---- what is known of the bytes where they are told

-- the version that was read is that of the bytes
groups_there : (b : List ℕ) (version : ℕ) (bytes : List ℕ) (tree : Tree) (said : List IndexEntry) → version ≡ version_in b → HasGroups version bytes tree said → HasGroups (version_in b) bytes tree said
groups_there b version bytes tree said is groups = subst (λ (n : ℕ). HasGroups n bytes tree said) is groups

-- the file is shorter than 2^63
pub is_limited : (o : Option (List ℕ)) (ends : Ends) (place : ℕ) (ps : List Pointer) (index : Index) → IfSome o (λ b. IsOutlineIn b ends place ps index) → IfSome o (λ b. length b < 2 ^ 63)
is_limited None ends place ps index has = tt
is_limited (Some b) ends place ps index has = let size = has.0 in let limit = ends.limit in omega (arith, size, limit)

-- ---- the exits

pub refused : {T : Type 0} (o : Option (List ℕ)) (Is : List ℕ → T → Type 0) (fault : ReadFault) → Answers Is IsBadOutline o (Err fault) → Answers IsMetaOfTree IsBlamed o (Err fault)
refused None Is Failed answers = tt
refused None Is (Damaged at) answers = tt
refused None Is Memory answers = tt
refused (Some b) Is Failed answers = tt
refused (Some b) Is (Damaged at) answers = outline at answers
refused (Some b) Is Memory answers = tt

pub stopped : {T : Type 0} (o : Option (List ℕ)) (Is : T → Type 0) (ends : Ends) (place : ℕ) (ps : List Pointer) (index : Index) (stretch : List ℕ) (fault : ReadFault) → IfSome o (λ b. IsOutlineIn b ends place ps index) → IfSome o (λ b. stretch ≡ data_in place b)
    → ReadsOrStops Is (IsFirstBadPart head_length stretch) (Err fault) → Answers IsMetaOfTree IsBlamed o (Err fault)
stopped None Is ends place ps index stretch Failed has is stops = tt
stopped None Is ends place ps index stretch (Damaged at) has is stops = tt
stopped None Is ends place ps index stretch Memory has is stops = tt
stopped (Some b) Is ends place ps index stretch Failed has is stops = tt
stopped (Some b) Is ends place ps index stretch (Damaged at) has is stops =
    part ends.root place ps index.entries has.1 at (subst (λ (l : List ℕ). IsFirstBadPart head_length l at) is stops)
stopped (Some b) Is ends place ps index stretch Memory has is stops = tt

pub is_wrong : (o : Option (List ℕ)) (ends : Ends) (place : ℕ) (ps : List Pointer) (index : Index) (stretch : List ℕ) (said : List IndexEntry) (number at : ℕ) → IfSome o (λ b. IsOutlineIn b ends place ps index) → IfSome o (λ b. stretch ≡ data_in place b)
    → (tree : Tree) × HasGroups ends.version stretch tree said → IsFirstWrong index.entries said (Some number) → ((before behind : List Pointer) (pointer : Pointer) → ps ≡ before ++ pointer ∷ behind → length before ≡ number → at ≡ pointer.place)
    → Answers IsMetaOfTree IsBlamed o (Err (Damaged at))
is_wrong None ends place ps index stretch said number at has is groups wrong place_of = tt
is_wrong (Some b) ends place ps index stretch said number at has is groups wrong place_of =
    wrong_in b ends.root place ps index.entries said groups.0 number at has.1 (groups_there b ends.version (data_in place b) groups.0 said has.2 (subst (λ (l : List ℕ). HasGroups ends.version l groups.0 said) is groups.1)) wrong place_of

pub no_file : (o : Option (List ℕ)) (fault : ReadFault) → Answers IsMetaOfTree IsBlamed o (Err fault) → IfDamaged {T = FileMeta} (Err fault) (λ at. IfSome o (λ b. length b < 2 ^ 63)) → IfDamaged {T = FileMeta} (Err fault) (λ at. IfSome o IsNoFile)
no_file o Failed blamed limit = tt
no_file None (Damaged at) blamed limit = tt
no_file (Some b) (Damaged at) blamed limit = not_blamed b at (omega (arith, limit)) blamed
no_file o Memory blamed limit = tt

pub no_tree : (o : Option (List ℕ)) (fault : ReadFault) → IfDamaged {T = FileMeta} (Err fault) (λ at. IfSome o IsNoFile)
    → IfSome o (λ b. (tree : Tree) → IsTree tree → IsMade tree → IsFile tree b → IsNotDamaged {T = FileMeta} (Err fault) × IfOk {T = FileMeta} {E = ReadFault} (Err fault) (IsMetaOf tree b))
no_tree None fault none = tt
no_tree (Some b) Failed none = λ tree is made file. (tt, tt)
no_tree (Some b) (Damaged at) none = λ tree is made file. (none tree is made file, tt)
no_tree (Some b) Memory none = λ tree is made file. (tt, tt)

-- a limit that is known of the file
pub limited : (o : Option (List ℕ)) (fault : ReadFault) → IfSome o (λ b. length b < 2 ^ 63) → IfDamaged {T = FileMeta} (Err fault) (λ at. IfSome o (λ b. length b < 2 ^ 63))
limited o Failed limit = tt
limited o (Damaged at) limit = limit
limited o Memory limit = tt

pub is_found : (o : Option (List ℕ)) (ends : Ends) (place : ℕ) (ps : List Pointer) (index : Index) (stretch : List ℕ) (said : List IndexEntry) → IfSome o (λ b. IsOutlineIn b ends place ps index) → IfSome o (λ b. stretch ≡ data_in place b)
    → (tree : Tree) × HasGroups ends.version stretch tree said → index.entries ≡ said → IfSome o (λ b. IsMetaOfTree b (record { size = ends.size; version = ends.version; index = index }))
is_found None ends place ps index stretch said has is groups same = tt
is_found (Some b) ends place ps index stretch said has is groups same =
    let there = groups_there b ends.version (data_in place b) groups.0 said has.2 (subst (λ (l : List ℕ). HasGroups ends.version l groups.0 said) is groups.1) in
    let t = tree_of b ends.root place ps index.entries said groups.0 has.1 there same in
    record {
      tree = groups.0;
      is = t.is;
      made = t.made;
      file = t.file;
      says = record {
        bytes_are = has.0;
        version_is = has.2;
        entries = t.say;
        sums = subst (λ (l : List IndexEntry). All (HasSums (version_in b)) l) (sym same) there.sums;
      };
    }

-- what holds of a place of damage holds whatever else was to be returned
pub same_limit : (T : Type 0) (P : ℕ → Type 0) (fault : ReadFault) → IfDamaged {T = T} (Err fault) P → IfDamaged {T = FileMeta} (Err fault) P
same_limit T P Failed held = tt
same_limit T P (Damaged at) held = held
same_limit T P Memory held = tt

pub moved : (o : Option (List ℕ)) (place : ℕ) (x y : List ℕ) → x ≡ y → IfSome o (λ b. y ≡ data_in place b) → IfSome o (λ b. x ≡ data_in place b)
moved None place x y same is = tt
moved (Some b) place x y same is = same ∙ is

-- no leaf is wrong
pub none_wrong : (es said : List IndexEntry) (result : Option ℕ) → IsFirstWrong es said result → ((number : ℕ) → result ≡ Some number → ⊥) → es ≡ said
none_wrong es said None same none = same
none_wrong es said (Some number) wrong none = absurd (none number refl)
