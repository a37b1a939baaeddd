-- What is kept once a file more is taken up.
use Rattle.std.proofs.Common.{◌≡◌, ◌≢◌, ℕ, ◌+◌, List, [], ◌∷◌, ◌++◌, length, map, None, Some, refl, sym, ap, ◌∙◌, subst, arith, nat_eq}
use Rattle.std.proofs.lemmas.Bool.{eq-eqb}
use Rattle.std.specs.Prelude.{IfSome}
use Rattle.std.specs.List.{AllByRecursion as Each}
use Rattle.tsdb_recover.proofs.Counting.{differ, not_kept}
use Rattle.tsdb_recover.proofs.First.{first_more, wanted_is}
use Rattle.tsdb_recover.proofs.Numbers.{replay_numbers}
use Rattle.tsdb_recover.specs.Adopting.{AreDescribed, AreFirst, AreFirstOf, Describe, HasNoClaim, TakesUp, next_in}
use Rattle.tsdb_recover.specs.Adopting.{wanted_file}
use Rattle.tsdb_recover.specs.Steps.{KeepsFileLists}
use Rattle.tsdb_base.specs.declared.ids.Space.{Space}
use Rattle.tsdb_base.specs.declared.ids.Space.TheVariants.{Sequence, Unsequence}
use Rattle.tsdb_fileset.specs.StateOfFiles.{entry_of, listed}
use Rattle.tsdb_fileset.proofs.Counts.{counted}
use Rattle.tsdb_fileset.specs.Files.{AreKept, KeptFiles, entry_numbers, kept_file, all_numbers, outgoing_numbers}
use Rattle.tsdb_fileset.specs.Places.{KeptFile}
use Rattle.tsdb_base.proofs.Lists.{among_left, among_map, among_right, any_among, each_among, each_append, each_from_among}
use Rattle.tsdb_base.specs.Lists.{Among, if_some}
use Rattle.tsdb_log.specs.declared.record.LogRecord.{LogRecord}
use Rattle.tsdb_plan.specs.declared.entry.FileEntry.{FileEntry}
use Rattle.tsdb_state.specs.Replays.{Replays}
use Rattle.tsdb_state.specs.Stores.{Recorded, store_steps}
use Rattle.tsdb_state.proofs.Counting.{is_or_not}
use Rattle.tsdb_state.specs.Jobs.{Describes}
use Rattle.tsdb_state.specs.State.{File, StoreState, ToldContents}

in_sequence : (files : KeptFiles) (entry : FileEntry) → Among entry files.sequence → Among entry.number.0 (all_numbers files)
in_sequence files entry there = among_left (entry_numbers files.sequence ++ entry_numbers files.unsequence)
    (outgoing_numbers files.outgoing) entry.number.0
    (among_left (entry_numbers files.sequence) (entry_numbers files.unsequence) entry.number.0
    (among_map (λ (entry : FileEntry). entry.number.0) files.sequence entry there))

in_unsequence : (files : KeptFiles) (entry : FileEntry) → Among entry files.unsequence
    → Among entry.number.0 (all_numbers files)
in_unsequence files entry there = among_left (entry_numbers files.sequence ++ entry_numbers files.unsequence)
    (outgoing_numbers files.outgoing) entry.number.0
    (among_right (entry_numbers files.sequence) (entry_numbers files.unsequence) entry.number.0
    (among_map (λ (entry : FileEntry). entry.number.0) files.unsequence entry there))

-- a file that is not kept has none of the numbers of the kept ones
number_differs : (files : KeptFiles) (number other : ℕ) → AreKept files → kept_file number files ≡ None
    → Among other (all_numbers files) → number ≢ other
number_differs files number other kept free among same =
    let some = counted other (all_numbers files)
    (any_among (nat_eq other) (all_numbers files) other among (eq-eqb other other refl)) in
    let none : length (if_some (kept_file other files)) ≡ 0 =
    ap (λ found. length (if_some found)) (subst (λ n. kept_file n files ≡ None) same free) in
    omega (arith, some, none, kept other)

module _ (space : Space) (entry : FileEntry) (token : KeptFile) (old new : KeptFiles)
    (taken : TakesUp space entry token old new) where
  -- what holds of each kept file, and of the new one, holds of each
  pub of_each : (P : ℕ → KeptFile → Type 0) → ((n : ℕ) → IfSome (kept_file n old) (P n)) → P entry.number.0 token
      → (n : ℕ) → IfSome (kept_file n new) (P n)
  of_each P all this n = is_or_not entry.number.0 n
      (λ same. subst (λ m. IfSome (kept_file m new) (P m)) same
      (subst (λ found. IfSome found (P entry.number.0)) (sym taken.here) this))
      (λ other. subst (λ found. IfSome found (P n)) (sym (taken.others n (differ entry.number.0 n other))) (all n))

  -- what holds of the entries of a list goes on to hold
  still : (P : FileEntry → KeptFile → Type 0) (entries : List FileEntry) → AreKept old
      → kept_file entry.number.0 old ≡ None
      → ((other : FileEntry) → Among other entries → Among other.number.0 (all_numbers old))
      → Each (λ other. IfSome (kept_file other.number.0 old) (P other)) entries
      → Each (λ other. IfSome (kept_file other.number.0 new) (P other)) entries
  still P entries kept free among all = each_from_among _ entries (λ other there.
      subst (λ found. IfSome found (P other))
      (sym (taken.others other.number.0
      (number_differs old entry.number.0 other.number.0 kept free (among other there))))
      (each_among (λ (e : FileEntry). IfSome (kept_file e.number.0 old) (P e)) entries other all there))

  here_too : (P : FileEntry → KeptFile → Type 0) → P entry token → IfSome (kept_file entry.number.0 new) (P entry)
  here_too P this = subst (λ found. IfSome found (P entry)) (sym taken.here) this

-- the entries go on to say the points of their files
pub described_more : (told : ToldContents) (space : Space) (entry : FileEntry) (token : KeptFile) (old new : KeptFiles)
    → TakesUp space entry token old new → AreKept old → kept_file entry.number.0 old ≡ None → AreDescribed told old
    → Describes (entry_of entry token.series) (told entry.number.0) → AreDescribed told new
described_more told Sequence entry token old new taken kept free are says =
    let Says : FileEntry → KeptFile → Type 0 = λ e file. Describes (entry_of e file.series) (told e.number.0) in
    record {
      sequence = subst (Describe told new) (sym taken.list.0)
          (each_append (λ e. IfSome (kept_file e.number.0 new) (Says e)) old.sequence (entry ∷ [])
          (still Sequence entry token old new taken Says old.sequence kept free (in_sequence old) are.sequence)
          (here_too Sequence entry token old new taken Says says, tt));
      unsequence = subst (Describe told new) (sym taken.list.1)
          (still Sequence entry token old new taken Says old.unsequence kept free (in_unsequence old) are.unsequence);
    }
described_more told Unsequence entry token old new taken kept free are says =
    let Says : FileEntry → KeptFile → Type 0 = λ e file. Describes (entry_of e file.series) (told e.number.0) in
    record {
      sequence = subst (Describe told new) (sym taken.list.0)
          (still Unsequence entry token old new taken Says old.sequence kept free (in_sequence old) are.sequence);
      unsequence = subst (Describe told new) (sym taken.list.1)
          (each_append (λ e. IfSome (kept_file e.number.0 new) (Says e)) old.unsequence (entry ∷ [])
          (still Unsequence entry token old new taken Says old.unsequence kept free (in_unsequence old) are.unsequence)
          (here_too Unsequence entry token old new taken Says says, tt));
    }

listed_is : (entry : FileEntry) (file : File) → entry.number.0 ≡ file.number → entry.born.0 ≡ file.born
    → listed entry ≡ file
listed_is entry file number born = λ i. record { number = number i; born = born i }

-- the kept files are the first of the lists, with one more
pub first_with : (store : StoreState) (space : Space) (file : File) (entry : FileEntry) (token : KeptFile)
    (old new : KeptFiles) → TakesUp space entry token old new → wanted_file old store ≡ Some (space, file)
    → entry.number.0 ≡ file.number → entry.born.0 ≡ file.born → HasNoClaim entry → token.rights ≡ 0 → AreFirstOf old store
    → AreFirstOf new store
first_with store Sequence file entry token old new taken wanted number born free unread first = record {
  sequence = subst (λ l. AreFirst (map listed l) store.sequence) (sym taken.list.0)
      (first_more old.sequence entry store.sequence file first.sequence
      (wanted_is (next_in Sequence old store) (next_in Unsequence old store) Sequence file wanted)
      (listed_is entry file number born));
  unsequence = subst (λ l. AreFirst (map listed l) store.unsequence) (sym taken.list.1) first.unsequence;
  free = record {
    sequence = subst (Each HasNoClaim) (sym taken.list.0)
        (each_append HasNoClaim old.sequence (entry ∷ []) first.free.sequence (free, tt));
    unsequence = subst (Each HasNoClaim) (sym taken.list.1) first.free.unsequence;
  };
  outgoing = taken.outgoing ∙ first.outgoing;
  unread = of_each Sequence entry token old new taken (λ n (f : KeptFile). f.rights ≡ 0) first.unread unread;
}
first_with store Unsequence file entry token old new taken wanted number born free unread first = record {
  sequence = subst (λ l. AreFirst (map listed l) store.sequence) (sym taken.list.0) first.sequence;
  unsequence = subst (λ l. AreFirst (map listed l) store.unsequence) (sym taken.list.1)
      (first_more old.unsequence entry store.unsequence file first.unsequence
      (wanted_is (next_in Sequence old store) (next_in Unsequence old store) Unsequence file wanted)
      (listed_is entry file number born));
  free = record {
    sequence = subst (Each HasNoClaim) (sym taken.list.0) first.free.sequence;
    unsequence = subst (Each HasNoClaim) (sym taken.list.1)
        (each_append HasNoClaim old.unsequence (entry ∷ []) first.free.unsequence (free, tt));
  };
  outgoing = taken.outgoing ∙ first.outgoing;
  unread = of_each Unsequence entry token old new taken (λ n (f : KeptFile). f.rights ≡ 0) first.unread unread;
}

-- where no file comes or goes, the first files stay
pub first_same : (store : StoreState) (old new : KeptFiles) → KeepsFileLists old new → AreFirstOf old store
    → AreFirstOf new store
first_same store old new keeps first = record {
  sequence = subst (λ l. AreFirst (map listed l) store.sequence) (sym keeps.lists.sequence) first.sequence;
  unsequence = subst (λ l. AreFirst (map listed l) store.unsequence) (sym keeps.lists.unsequence) first.unsequence;
  free = record {
    sequence = subst (Each HasNoClaim) (sym keeps.lists.sequence) first.free.sequence;
    unsequence = subst (Each HasNoClaim) (sym keeps.lists.unsequence) first.free.unsequence;
  };
  outgoing = keeps.lists.outgoing ∙ first.outgoing;
  unread = λ n. subst (λ found. IfSome found (λ (f : KeptFile). f.rights ≡ 0)) (sym (keeps.places.files n)) (first.unread n);
}

-- places are made, and then a file is taken up
pub taken_from : (space : Space) (entry : FileEntry) (token : KeptFile) (old made new : KeptFiles)
    → KeepsFileLists old made → TakesUp space entry token made new → TakesUp space entry token old new
taken_from Sequence entry token old made new keeps taken = record {
  list = (taken.list.0 ∙ ap (λ l. l ++ entry ∷ []) keeps.lists.sequence, taken.list.1 ∙ keeps.lists.unsequence);
  outgoing = taken.outgoing ∙ keeps.lists.outgoing;
  here = taken.here;
  others = λ n apart. taken.others n apart ∙ keeps.places.files n;
  store = taken.store ∙ keeps.lists.store;
}
taken_from Unsequence entry token old made new keeps taken = record {
  list = (taken.list.0 ∙ keeps.lists.sequence, taken.list.1 ∙ ap (λ l. l ++ entry ∷ []) keeps.lists.unsequence);
  outgoing = taken.outgoing ∙ keeps.lists.outgoing;
  here = taken.here;
  others = λ n apart. taken.others n apart ∙ keeps.places.files n;
  store = taken.store ∙ keeps.lists.store;
}

-- the wanted file is not kept yet
pub wanted_not_kept : (files : KeptFiles) (items : List LogRecord) (recorded : Recorded) (space : Space) (file : File)
    → AreKept files → Replays store_steps store_steps.new_store items recorded → AreFirstOf files recorded.store
    → wanted_file files recorded.store ≡ Some (space, file) → kept_file file.number files ≡ None
wanted_not_kept files items recorded space file are replayed first wanted =
    not_kept files recorded.store first recorded.named _ space file are (replay_numbers items recorded replayed) wanted
