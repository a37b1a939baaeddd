-- What a replacement of files leaves sound.
use Rattle.std.proofs.Common.{◌≡◌, ◌≢◌, ℕ, ◌+◌, ◌-◌, ◌<◌, ◌≤◌, ◌==◌, Bool, true, false, cond, List, [], ◌∷◌, ◌++◌, drop}
use Rattle.std.proofs.Common.{get_or, length, map, set, take, Option, None, Some, refl, sym, ap, subst, ◌∙◌, arith}
use Rattle.std.proofs.lemmas.Bool.{false≢true}
use Rattle.std.proofs.lemmas.List.{append-nil, append_assoc, drop-drop, drop_all, drop_at, drop_more, get_or_at}
use Rattle.std.proofs.lemmas.List.{length-drop, length-map, length-take-le, map-append, set_at, take-append-drop}
use Rattle.std.proofs.lemmas.List.{take_all, take_at, take_more}
use Rattle.std.specs.Cmp.{unsigned_Decides}
use Rattle.std.specs.Option.{option_map}
use Rattle.std.specs.Prelude.{IfSome, ⊤, slice_range, vec_capacity, vec_len}
use Rattle.std.specs.declared.alloc.Global.{Global}
use Rattle.std.specs.declared.vec.Vec.{Vec}
use Rattle.tsdb_base.specs.declared.ids.Space.{Space}
use Rattle.tsdb_base.specs.declared.ids.Space.TheVariants.{Sequence, Unsequence}
use Rattle.tsdb_base.specs.declared.ids.Stamp.{Stamp}
use Rattle.tsdb_fileset.proofs.Numbers.{all_counted}
use Rattle.tsdb_fileset.proofs.PlaceFacts.{all_with}
use Rattle.tsdb_fileset.specs.declared.files.KeptFiles.TheInside.{Inside}
use Rattle.tsdb_fileset.specs.declared.files.Outgoing.{Outgoing}
use Rattle.tsdb_fileset.specs.Files.{AreKept, IsOpen, KeptFiles, entry_numbers, kept_file, listed_borns, all_numbers}
use Rattle.tsdb_fileset.specs.Files.{outgoing_numbers}
use Rattle.tsdb_fileset.specs.Growth.{HasRoomLeft}
use Rattle.tsdb_fileset.specs.SoundFiles.{AreSound, view_of}
use Rattle.tsdb_fileset.specs.Places.{AreOfStore, KeptFile, OthersStay, file_at, place_of_number}
use Rattle.tsdb_fileset.specs.Replacing.{HasClaims, HasListRoom, IsReplacedIn, IsWithin, claim_run, leaving}
use Rattle.tsdb_fileset.specs.Replacing.{HasReplaced, entry_borns, leaving_run, less_compaction, output_in, replace_run}
use Rattle.tsdb_fileset.specs.Replacing.{run_length, stamps_of, with_claim}
use Rattle.tsdb_base.proofs.Lists.{count_append}
use Rattle.tsdb_base.specs.Lists.{count, if_some}
use Rattle.tsdb_flush.proofs.Borns.{least_all}
use Rattle.tsdb_flush.specs.Least.{IsLeastOf, least_with, lesser_born}
use Rattle.tsdb_outside.specs.Files.{Store}
use Rattle.tsdb_plan.specs.declared.entry.FileEntry.{FileEntry}
use Rattle.tsdb_plan.specs.declared.entry.Run.{Run}

-- ---- the least born, in one walk

pub least_next : (entries : List FileEntry) (i : ℕ) (entry : FileEntry) (least : Option Stamp) → i < length entries
    → entry ≡ get_or entries i entry
    → least_with least (entry_borns (drop i entries))
    ≡ least_with (Some (lesser_born least entry.born.0)) (entry_borns (drop (i + 1) entries))
least_next entries i entry least within is =
    ap (λ l. least_with least (entry_borns l))
    (drop_more entries i entry within ∙ ap (λ (x : FileEntry). x ∷ drop (i + 1) entries) (sym is))

pub least_end : (entries : List FileEntry) (i : ℕ) (least : Option Stamp) → length entries ≤ i
    → least_with least (entry_borns (drop i entries)) ≡ least
least_end entries i least past = ap (λ l. least_with least (entry_borns l)) (drop_all i entries past)

pub least_of_both : (sequence unsequence : List FileEntry)
    → IsLeastOf (least_with (least_with None (entry_borns sequence)) (entry_borns unsequence))
    (map (λ (e : FileEntry). e.born.0) (sequence ++ unsequence))
least_of_both sequence unsequence =
    subst (IsLeastOf (least_with (least_with None (entry_borns sequence)) (entry_borns unsequence)))
    (sym (map-append (λ (e : FileEntry). e.born.0) sequence unsequence))
    (least_all (least_with None (entry_borns sequence)) (entry_borns sequence) (entry_borns unsequence)
    (least_all None [] (entry_borns sequence) refl))

least_more : (least : Option Stamp) (xs ys : List ℕ)
    → least_with least (xs ++ ys) ≡ least_with (least_with least xs) ys
least_more least [] ys = refl
least_more least (x ∷ xs) ys = least_more (Some (lesser_born least x)) xs ys

pub rest_of : (end : ℕ) (entries : List FileEntry) → take (length entries - end) (drop end entries) ≡ drop end entries
rest_of end entries = take_all (length entries - end) (drop end entries) (omega (arith, length-drop end entries))

-- the list without the run, with a file of this born in its place
pub least_put : (least : Option Stamp) (run : Run) (entries : List FileEntry) (born : Option Stamp)
    (these : List FileEntry) → entry_borns these ≡ stamps_of born
    → least_with least (entry_borns (replace_run run these entries))
    ≡ least_with (least_with (least_with least (entry_borns (take run.first entries))) (stamps_of born))
    (entry_borns (drop run.end entries))
least_put least run entries born these is =
    let front = take run.first entries in
    let back = drop run.end entries in
    ap (least_with least) (map-append (λ (e : FileEntry). e.born.0) front (these ++ back))
    ∙ least_more least (entry_borns front) (entry_borns (these ++ back))
    ∙ ap (least_with (least_with least (entry_borns front))) (map-append (λ (e : FileEntry). e.born.0) these back)
    ∙ least_more (least_with least (entry_borns front)) (entry_borns these) (entry_borns back)
    ∙ ap (λ bs. least_with (least_with (least_with least (entry_borns front)) bs) (entry_borns back)) is

stamps_in : (list space : Space) (output : Option FileEntry)
    → entry_borns (if_some (output_in list space output))
    ≡ stamps_of (output_in list space (option_map (λ (e : FileEntry). e.born) output))
stamps_in Sequence Sequence None = refl
stamps_in Sequence Sequence (Some entry) = refl
stamps_in Sequence Unsequence output = refl
stamps_in Unsequence Sequence output = refl
stamps_in Unsequence Unsequence None = refl
stamps_in Unsequence Unsequence (Some entry) = refl

-- what two walks over the lists give is the least born of the lists after the replacement
pub least_after : (space : Space) (sequence unsequence : Run) (born : Option Stamp) (in_s in_u : Option Stamp)
    (least result : Option Stamp) (old new : KeptFiles) (output : Option FileEntry)
    → option_map (λ (e : FileEntry). e.born) output ≡ born
    → HasReplaced space sequence unsequence output old new
    → in_s ≡ output_in Sequence space born → in_u ≡ output_in Unsequence space born
    → ((these : List FileEntry) → entry_borns these ≡ stamps_of in_s
    → least ≡ least_with None (entry_borns (replace_run sequence these old.sequence)))
    → ((these : List FileEntry) → entry_borns these ≡ stamps_of in_u
    → result ≡ least_with least (entry_borns (replace_run unsequence these old.unsequence)))
    → IsLeastOf result (listed_borns new)
least_after space sequence unsequence born in_s in_u least result old new output is has s u first second =
    let said = λ (list : Space) (given : Option Stamp) (same : given ≡ output_in list space born).
    stamps_in list space output ∙ ap (λ b. stamps_of (output_in list space b)) is ∙ ap stamps_of (sym same) in
    let one = first (if_some (output_in Sequence space output)) (said Sequence in_s s)
    ∙ ap (λ es. least_with None (entry_borns es)) (sym has.sequence_is) in
    let two = second (if_some (output_in Unsequence space output)) (said Unsequence in_u u)
    ∙ ap (λ es. least_with least (entry_borns es)) (sym has.unsequence_is)
    ∙ ap (λ l. least_with l (entry_borns new.unsequence)) one in
    subst (λ l. IsLeastOf l (listed_borns new)) (sym two) (least_of_both new.sequence new.unsequence)

-- ---- a run of a list

whole : (first end : ℕ) → first ≤ end → end ≡ first + (end - first)
whole first end rises = omega (arith, rises)

pub run_parts : {X : Type 0} (first end : ℕ) (xs : List X) → first ≤ end
    → take first xs ++ (slice_range xs first end ++ drop end xs) ≡ xs
run_parts first end xs rises =
    ap (λ rest. take first xs ++ (slice_range xs first end ++ rest))
    (ap (λ n. drop n xs) (whole first end rises) ∙ sym (drop-drop (end - first) first xs))
    ∙ ap (λ rest. take first xs ++ rest) (take-append-drop (end - first) (drop first xs))
    ∙ take-append-drop first xs

leaving_numbers : (entries : List FileEntry) → outgoing_numbers (map leaving entries) ≡ entry_numbers entries
leaving_numbers [] = refl
leaving_numbers (entry ∷ entries) = ap (λ rest. entry.number.0 ∷ rest) (leaving_numbers entries)

count_entries : (n : ℕ) (xs ys : List FileEntry)
    → count n (entry_numbers (xs ++ ys)) ≡ count n (entry_numbers xs) + count n (entry_numbers ys)
count_entries n xs ys = ap (count n) (map-append (λ (e : FileEntry). e.number.0) xs ys)
    ∙ count_append n (entry_numbers xs) (entry_numbers ys)

-- the numbers of a run leave the list, and are outgoing
pub count_taken : (n : ℕ) (run : Run) (entries : List FileEntry) → IsWithin run entries
    → count n (entry_numbers (replace_run run [] entries)) + count n (outgoing_numbers (leaving_run run entries))
    ≡ count n (entry_numbers entries)
count_taken n run entries within =
    let mid = slice_range entries run.first run.end in
    omega (
      arith,
      count_entries n (take run.first entries) (drop run.end entries),
      count_entries n (take run.first entries) (mid ++ drop run.end entries),
      count_entries n mid (drop run.end entries),
      ap (count n) (leaving_numbers mid),
      ap (λ (es : List FileEntry). count n (entry_numbers es)) (run_parts run.first run.end entries within.rises),
    )

-- the list with these in the place of the run has their numbers besides
count_put : (n : ℕ) (run : Run) (these entries : List FileEntry)
    → count n (entry_numbers (replace_run run these entries))
    ≡ count n (entry_numbers (replace_run run [] entries)) + count n (entry_numbers these)
count_put n run these entries = omega (
  arith,
  count_entries n (take run.first entries) (these ++ drop run.end entries),
  count_entries n these (drop run.end entries),
  count_entries n (take run.first entries) (drop run.end entries),
)

-- ---- one list

-- the entry is put where the run was
pub put_back : (run : Run) (given : Option FileEntry) (entry : FileEntry) (old left new : List FileEntry)
    → given ≡ Some entry → IsWithin run old
    → left ≡ replace_run run [] old → new ≡ take run.first left ++ entry ∷ drop run.first left
    → new ≡ replace_run run (if_some given) old
put_back run given entry old left new is_given within is put =
    let rest = drop run.end old in
    let front = length-take-le run.first old (omega (arith, within.rises, within.ends)) in
    put
    ∙ ap (λ xs. take run.first xs ++ entry ∷ drop run.first xs) is
    ∙ ap (λ xs. xs ++ entry ∷ drop run.first (take run.first old ++ rest))
    (take_at (take run.first old) rest run.first front)
    ∙ ap (λ xs. take run.first old ++ entry ∷ xs) (drop_at (take run.first old) rest run.first front)
    ∙ ap (λ g. replace_run run (if_some g) old) (sym is_given)

-- one claim more is set
pub claim_next : (claimed : Bool) (entries now : List FileEntry) (i : ℕ) (d : FileEntry) → i < length now
    → entries ≡ map (with_claim claimed) (take i now) ++ drop i now
    → set entries i (with_claim claimed (get_or entries i d))
    ≡ map (with_claim claimed) (take (i + 1) now) ++ drop (i + 1) now
claim_next claimed entries now i d inside is =
    let front = map (with_claim claimed) (take i now) in
    let long : length front ≡ i =
    length-map (take i now) (with_claim claimed) ∙ length-take-le i now (omega (arith, inside)) in
    let here = get_or now i d in
    let back = drop (i + 1) now in
    let whole : entries ≡ front ++ here ∷ back = is ∙ ap (λ xs. front ++ xs) (drop_more now i d inside) in
    ap (λ xs. set xs i (with_claim claimed (get_or xs i d))) whole
    ∙ ap (λ e. set (front ++ here ∷ back) i (with_claim claimed e)) (get_or_at front here back d i long)
    ∙ set_at front here back (with_claim claimed here) i long
    ∙ sym (ap (λ xs. map (with_claim claimed) xs ++ back) (take_more now i d inside)
    ∙ ap (λ xs. xs ++ back) (map-append (with_claim claimed) (take i now) (here ∷ []))
    ∙ append_assoc front (with_claim claimed here ∷ []) back)

pub claims_end : (claimed : Bool) (entries now : List FileEntry) (i : ℕ) → length now ≤ i
    → entries ≡ map (with_claim claimed) (take i now) ++ drop i now → entries ≡ map (with_claim claimed) now
claims_end claimed entries now i long is =
    is ∙ ap (λ xs. map (with_claim claimed) (take i now) ++ xs) (drop_all i now long)
    ∙ append-nil (map (with_claim claimed) (take i now))
    ∙ ap (map (with_claim claimed)) (take_all i now long)

claim_numbers : (claimed : Bool) (entries : List FileEntry)
    → entry_numbers (map (with_claim claimed) entries) ≡ entry_numbers entries
claim_numbers claimed [] = refl
claim_numbers claimed (entry ∷ entries) = ap (λ rest. entry.number.0 ∷ rest) (claim_numbers claimed entries)

claim_borns : (claimed : Bool) (entries : List FileEntry)
    → entry_borns (map (with_claim claimed) entries) ≡ entry_borns entries
claim_borns claimed [] = refl
claim_borns claimed (entry ∷ entries) = ap (λ rest. entry.born.0 ∷ rest) (claim_borns claimed entries)

-- what claims do not change of the entries stays
run_stays : {Y : Type 0} (f : FileEntry → Y) (claimed : Bool) (run : Run) (entries : List FileEntry)
    → ((xs : List FileEntry) → map f (map (with_claim claimed) xs) ≡ map f xs) → IsWithin run entries
    → map f (claim_run run claimed entries) ≡ map f entries
run_stays f claimed run entries same within =
    let front = take run.first entries in
    let mid = slice_range entries run.first run.end in
    let back = drop run.end entries in
    map-append f front (map (with_claim claimed) mid ++ back)
    ∙ ap (λ ys. map f front ++ ys) (map-append f (map (with_claim claimed) mid) back
    ∙ ap (λ ys. ys ++ map f back) (same mid) ∙ sym (map-append f mid back))
    ∙ sym (map-append f front (mid ++ back)) ∙ ap (map f) (run_parts run.first run.end entries within.rises)

-- ---- the invariant

-- the entry is of the file with the number; there is none where there is no file
abbrev pub IsEntryOf : ℕ → Option FileEntry → Option KeptFile → Type 0
IsEntryOf number None None = ⊤
IsEntryOf number None (Some file) = ⊥
IsEntryOf number (Some entry) None = ⊥
IsEntryOf number (Some entry) (Some file) = entry.number.0 ≡ number

pub entry_of_output : {B : Type 0} (number : ℕ) (output : Option B) (entry_in : B → FileEntry) (file_in : B → KeptFile)
    (entry : Option FileEntry) (file : Option KeptFile) → entry ≡ option_map entry_in output
    → file ≡ option_map file_in output → IfSome output (λ built. (entry_in built).number.0 ≡ number)
    → IsEntryOf number entry file
entry_of_output {B = B} number output entry_in file_in entry file entry_is file_is of =
    subst (λ e. IsEntryOf number e file) (sym entry_is)
    (subst (IsEntryOf number (option_map entry_in output)) (sym file_is) (by output of))
  where
    by : (output : Option B) → IfSome output (λ built. (entry_in built).number.0 ≡ number)
        → IsEntryOf number (option_map entry_in output) (option_map file_in output)
    by None of = tt
    by (Some built) of = of

-- the file of an output of the store is of the store
pub store_of_output : {B : Type 0} (store : Store) (output : Option B) (file_in : B → KeptFile) (file : Option KeptFile)
    → file ≡ option_map file_in output → IfSome output (λ built. (file_in built).name.store ≡ store)
    → IfSome file (λ one. one.name.store ≡ store)
store_of_output {B = B} store output file_in file is of =
    subst (λ found. IfSome found (λ one. one.name.store ≡ store)) (sym is) (by output of)
  where
    by : (output : Option B) → IfSome output (λ built. (file_in built).name.store ≡ store)
        → IfSome (option_map file_in output) (λ one. one.name.store ≡ store)
    by None of = tt
    by (Some built) of = of

counts_once : (n number : ℕ) (entry : Option FileEntry) (file : Option KeptFile) → IsEntryOf number entry file
    → number ≡ n → count n (entry_numbers (if_some entry)) ≡ length (if_some file)
counts_once n number None None is same = refl
counts_once n number None (Some file) is same = absurd is
counts_once n number (Some entry) None is same = absurd is
counts_once n number (Some entry) (Some file) is same =
    ap {B = ℕ} (λ b. cond b 1 0 + 0) ((unsigned_Decides entry.number.0 n).1 (is ∙ same))

counts_never : (n number : ℕ) (entry : Option FileEntry) (file : Option KeptFile) → IsEntryOf number entry file
    → (number == n) ≡ false → count n (entry_numbers (if_some entry)) ≡ 0
counts_never n number None None is apart = refl
counts_never n number None (Some file) is apart = absurd is
counts_never n number (Some entry) None is apart = absurd is
counts_never n number (Some entry) (Some file) is apart =
    ap {B = ℕ} (λ m. cond (m == n) 1 0 + 0) is ∙ ap {B = ℕ} (λ b. cond b 1 0 + 0) apart

-- the output is in one of the lists
counts_in : (n : ℕ) (space : Space) (entry : Option FileEntry)
    → count n (entry_numbers (if_some (output_in Sequence space entry)))
    + count n (entry_numbers (if_some (output_in Unsequence space entry)))
    ≡ count n (entry_numbers (if_some entry))
counts_in n Sequence entry = omega arith
counts_in n Unsequence entry = omega arith

one_at_most : {X : Type 0} (o : Option X) → length (if_some o) ≤ 1
one_at_most None = omega arith
one_at_most (Some x) = omega arith

-- the output is kept, in the place that was made for it
kept_with : (number : ℕ) (entry : Option FileEntry) (file : Option KeptFile) (old new : KeptFiles) → AreKept old
    → IsOpen number old → IsEntryOf number entry file → kept_file number new ≡ file
    → OthersStay number old.places new.places
    → ((n : ℕ) → count n (all_numbers new) ≡ count n (all_numbers old) + count n (entry_numbers (if_some entry)))
    → AreKept new
kept_with number entry file old new kept empty of here others more n = by (number == n) refl
  where
    by : (b : Bool) → (number == n) ≡ b → count n (all_numbers new) ≡ length (if_some (kept_file n new))
    by true is =
        let same : number ≡ n = (unsigned_Decides number n).0 is in
        let was = ap (λ m. place_of_number m old.places) (sym same) ∙ empty in
        let none = ap (λ place. length (if_some (file_at place))) was in
        let now = ap (λ m. length (if_some (kept_file m new))) (sym same) ∙ ap (λ f. length (if_some f)) here in
        omega (arith, kept n, more n, none, now, counts_once n number entry file of same)
    by false is =
        let apart : number ≢ n = λ same. false≢true (sym is ∙ (unsigned_Decides number n).1 same) in
        let same = ap (λ place. length (if_some (file_at place))) (others n apart) in
        omega (arith, kept n, more n, same, counts_never n number entry file of is)

-- what a replacement needs
pub record CanReplace (space : Space) (sequence unsequence : Run) (number : ℕ) (files : KeptFiles) : Type 0 where
  pub in_sequence : IsWithin sequence files.sequence
  pub in_unsequence : IsWithin unsequence files.unsequence
  pub place : IsOpen number files
  pub list : HasListRoom space files.spare
  pub outgoing : run_length sequence + run_length unsequence ≤ files.spare.outgoing

module _ {F S R P : Type 0} where
  -- both runs were moved behind the outgoing files, and the output is in its list
  pub record AreReplaced (space : Space) (sequence unsequence : Run) (entry : Option FileEntry)
      (old new : Inside F S R P) : Type 0 where
    pub middle : Vec Outgoing Global
    pub in_sequence : IsReplacedIn sequence (output_in Sequence space entry) old.sequence new.sequence old.outgoing
        middle
    pub in_unsequence : IsReplacedIn unsequence (output_in Unsequence space entry) old.unsequence new.unsequence middle
        new.outgoing

  replaced_counts : (store_of : F → Store) (space : Space) (sequence unsequence : Run) (entry : Option FileEntry)
      (old new : Inside F S R P)
      → IsWithin sequence old.sequence.items → IsWithin unsequence old.unsequence.items
      → AreReplaced space sequence unsequence entry old new → (n : ℕ)
      → count n (all_numbers (view_of store_of new))
      ≡ count n (all_numbers (view_of store_of old)) + count n (entry_numbers (if_some entry))
  replaced_counts store_of space sequence unsequence entry old new in_s in_u is n =
      let s = output_in Sequence space entry in
      let u = output_in Unsequence space entry in
      let leave_s = leaving_run sequence old.sequence.items in
      let leave_u = leaving_run unsequence old.unsequence.items in
      let all_out : new.outgoing.items ≡ (old.outgoing.items ++ leave_s) ++ leave_u =
      is.in_unsequence.out_items ∙ ap (λ files. files ++ leave_u) is.in_sequence.out_items in
      omega (
        arith,
        all_counted n (view_of store_of old),
        all_counted n (view_of store_of new),
        ap (λ entries. count n (entry_numbers entries)) is.in_sequence.items,
        ap (λ entries. count n (entry_numbers entries)) is.in_unsequence.items,
        count_put n sequence (if_some s) old.sequence.items,
        count_put n unsequence (if_some u) old.unsequence.items,
        count_taken n sequence old.sequence.items in_s,
        count_taken n unsequence old.unsequence.items in_u,
        counts_in n space entry,
        ap (λ files. count n (outgoing_numbers files)) all_out,
        count_out n (old.outgoing.items ++ leave_s) leave_u,
        count_out n old.outgoing.items leave_s,
      )
    where
      count_out : (n : ℕ) (xs ys : List Outgoing)
          → count n (outgoing_numbers (xs ++ ys)) ≡ count n (outgoing_numbers xs) + count n (outgoing_numbers ys)
      count_out n xs ys = ap (count n) (map-append (λ (file : Outgoing). file.number.0) xs ys)
          ∙ count_append n (outgoing_numbers xs) (outgoing_numbers ys)

  replaced_room : (space : Space) (sequence unsequence : Run) (entry : Option FileEntry) (old new : Inside F S R P)
      → HasRoomLeft old.spare old.sequence old.unsequence old.outgoing → HasListRoom space old.spare
      → run_length sequence + run_length unsequence ≤ old.spare.outgoing
      → AreReplaced space sequence unsequence entry old new
      → HasRoomLeft (less_compaction space (run_length sequence + run_length unsequence) old.spare) new.sequence
      new.unsequence new.outgoing
  replaced_room Sequence sequence unsequence entry old new left list out is = record {
    sequence_room = omega (
      arith,
      left.sequence_room,
      list,
      is.in_sequence.len,
      is.in_sequence.capacity,
      one_at_most entry,
    );
    unsequence_room = omega (arith, left.unsequence_room, is.in_unsequence.len, is.in_unsequence.capacity);
    outgoing_room = omega (
      arith,
      left.outgoing_room,
      out,
      is.in_sequence.out_len,
      is.in_sequence.out_capacity,
      is.in_unsequence.out_len,
      is.in_unsequence.out_capacity,
    );
  }
  replaced_room Unsequence sequence unsequence entry old new left list out is = record {
    sequence_room = omega (arith, left.sequence_room, is.in_sequence.len, is.in_sequence.capacity);
    unsequence_room = omega (
      arith,
      left.unsequence_room,
      list,
      is.in_unsequence.len,
      is.in_unsequence.capacity,
      one_at_most entry,
    );
    outgoing_room = omega (
      arith,
      left.outgoing_room,
      out,
      is.in_sequence.out_len,
      is.in_sequence.out_capacity,
      is.in_unsequence.out_len,
      is.in_unsequence.out_capacity,
    );
  }

  pub replaced_sound : (store_of : F → Store) (space : Space) (sequence unsequence : Run) (number : ℕ)
      (entry : Option FileEntry) (file : Option KeptFile) (old new : Inside F S R P) → AreSound store_of old
      → CanReplace space sequence unsequence number (view_of store_of old) → IsEntryOf number entry file
      → kept_file number (view_of store_of new) ≡ file → OthersStay number old.tokens.entries new.tokens.entries
      → AreReplaced space sequence unsequence entry old new
      → new.spare ≡ less_compaction space (run_length sequence + run_length unsequence) old.spare
      → new.least ≡ least_with (least_with None (entry_borns new.sequence.items)) (entry_borns new.unsequence.items)
      → store_of new.store.value ≡ store_of old.store.value
      → IfSome file (λ one. one.name.store ≡ store_of old.store.value) → AreSound store_of new
  replaced_sound store_of space sequence unsequence number entry file old new sound can of here others is spare least
      same_store in_store = record {
        kept = kept_with number entry file (view_of store_of old) (view_of store_of new) sound.kept can.place of here others
            (replaced_counts store_of space sequence unsequence entry old new can.in_sequence can.in_unsequence is);
        of_store = subst (λ store. AreOfStore store new.tokens.entries) (sym same_store)
            (all_with (λ one. one.name.store ≡ store_of old.store.value) number file old.tokens.entries new.tokens.entries
            here others in_store sound.of_store);
        room = subst (λ s. HasRoomLeft s new.sequence new.unsequence new.outgoing) (sym spare)
            (replaced_room space sequence unsequence entry old new sound.room can.list can.outgoing is);
        least = subst (λ l. IsLeastOf l (listed_borns (view_of store_of new))) (sym least)
            (least_of_both new.sequence.items new.unsequence.items);
      }

  pub claimed_sound : (store_of : F → Store) (run : Run) (claimed : Bool) (old new : Inside F S R P)
      → AreSound store_of old
      → IsWithin run old.unsequence.items → HasClaims run claimed old.unsequence new.unsequence
      → new.tokens ≡ old.tokens → new.sequence ≡ old.sequence → new.outgoing ≡ old.outgoing → new.spare ≡ old.spare
      → new.least ≡ old.least → store_of new.store.value ≡ store_of old.store.value → AreSound store_of new
  claimed_sound store_of run claimed old new sound within is tokens sequence outgoing spare least same_store =
      let numbers : entry_numbers new.unsequence.items ≡ entry_numbers old.unsequence.items = ap entry_numbers is.items
      ∙ run_stays (λ (e : FileEntry). e.number.0) claimed run old.unsequence.items (claim_numbers claimed) within in
      let borns : entry_borns new.unsequence.items ≡ entry_borns old.unsequence.items = ap entry_borns is.items
      ∙ run_stays (λ (e : FileEntry). e.born.0) claimed run old.unsequence.items (claim_borns claimed) within in
      let all : listed_borns (view_of store_of new) ≡ listed_borns (view_of store_of old) =
      map-append (λ (e : FileEntry). e.born.0) new.sequence.items new.unsequence.items
      ∙ (λ i. entry_borns (sequence i).items ++ borns i)
      ∙ sym (map-append (λ (e : FileEntry). e.born.0) old.sequence.items old.unsequence.items) in
      record {
        kept = λ n. ap (count n)
            (λ i. (entry_numbers (sequence i).items ++ numbers i) ++ outgoing_numbers (outgoing i).items)
            ∙ sound.kept n ∙ ap (λ t. length (if_some (file_at (place_of_number n t.entries)))) (sym tokens);
        of_store = subst (λ store. AreOfStore store new.tokens.entries) (sym same_store)
            (subst (λ t. AreOfStore (store_of old.store.value) t.entries) (sym tokens) sound.of_store);
        room = record {
          sequence_room = omega (
            arith,
            sound.room.sequence_room,
            ap (λ v. vec_len v) sequence,
            ap (λ v. vec_capacity v) sequence,
            ap (λ s. s.sequence) spare,
          );
          unsequence_room = omega (
            arith,
            sound.room.unsequence_room,
            is.len,
            is.capacity,
            ap (λ s. s.unsequence) spare,
          );
          outgoing_room = omega (
            arith,
            sound.room.outgoing_room,
            ap (λ v. vec_len v) outgoing,
            ap (λ v. vec_capacity v) outgoing,
            ap (λ s. s.outgoing) spare,
          );
        };
        least = subst (λ bs. IsLeastOf new.least bs) (sym all)
            (subst (λ l. IsLeastOf l (listed_borns (view_of store_of old))) (sym least) sound.least);
      }
