-- What is left of a store whose commands were not executed.
use Rattle.std.proofs.Common.{◌≡◌, ◌⊎◌, ◌∙◌, inl, inr, ℕ, List, [], ◌++◌, Option, None, Result, Ok, Err, refl, sym}
use Rattle.std.proofs.Common.{ap, subst}
use Rattle.std.specs.Prelude.{IfErr, IfSome}
use Rattle.std.specs.Io.KnownBytes.{Keeps as KeepsBytes}
use Rattle.std.proofs.lemmas.Option.{same_Some}
use Rattle.std.proofs.KnownBytes.{Keeps-refl}
use Rattle.std.specs.Option.{IsSomeAnd}
use Rattle.tsdb_state.specs.StoredEngine.{kept_bytes}
use Rattle.tsdb_base.proofs.Lists.{among_map, each_among, each_from_among}
use Rattle.tsdb_base.specs.Lists.{Among}
use Rattle.tsdb_history.specs.declared.told.Told.{Told as Answered}
use Rattle.tsdb_model.specs.State as plain
use Rattle.tsdb_outside.proofs.DiskLemmas.{Keeps-same}
use Rattle.tsdb_frames.proofs.FirstLemmas.{keeps_on}
use Rattle.tsdb_outside.specs.Disk.{Image, IsLawful, Keeps, DiskState}
use Rattle.tsdb_outside.specs.Files.{StoredFile}
use Rattle.tsdb_outside.specs.declared.disk.Slot.TheVariants.{A}
use Rattle.tsdb_recover.specs.Strays.{AreLeft, IsStray}
use Rattle.tsdb_state.proofs.ReplayLemmas.Parted.{replay_once}
use Rattle.tsdb_state.proofs.ReplayLemmas.Stores.{sound_kept}
use Rattle.tsdb_state.specs.Stores.{IsWhole, Recorded, StoreStandsFor, store_steps, store_steps_determinate}
use Rattle.tsdb_run.proofs.Executed.{some_and}
use Rattle.tsdb_run.proofs.Whole.{tells_sound, told_both}
use Rattle.tsdb_recover.specs.declared.fault.OpenFault.{OpenFault}
use Rattle.tsdb_recover.specs.declared.fault.OpenFault.TheVariants as fault
use Rattle.tsdb_recover.specs.declared.fault.Part.{Part}
use Rattle.tsdb_recover.specs.Damage.{AnswersDamageIn, IsDamagedIn}
use Rattle.tsdb_recover.specs.StoredFiles.{AreStored}
use Rattle.tsdb_recover.specs.Taking.{HaveLengths}
use Rattle.tsdb_run.specs.Causes.{ReportsDamage}
use Rattle.tsdb_run.specs.Headline.{Headline, IsWithoutCommands, WholeRun}
use Rattle.tsdb_run.specs.Steps.{IsOpeningStatus, IsOpeningRefused, opening_status, whole_run}
use Rattle.tsdb_run.specs.Store.{Contents, HasDamage, IsLeftAlone, IsSoundPlace, KeepsListed, TellsPlace, contents}
use Rattle.tsdb_run.specs.declared.status.Status.{Status}
use Rattle.tsdb_run.specs.declared.status.Status.TheVariants.{Done, Memory, Words, Script, Source, Sink, Device, Damaged}
use Rattle.tsdb_state.specs.Records.{numbers_of}
use Rattle.tsdb_state.specs.State.{File}

-- ---- a sound store stays sound

module _ (files now : List StoredFile) (bytes : List ℕ) (left : AreLeft (IsStray bytes) files now) (at : plain.State)
    (stands : StoreStandsFor (kept_bytes files) bytes at) where
  abbrev listed : List File
  listed = stands.recorded.store.sequence ++ stands.recorded.store.unsequence

  -- a listed file is as it was
  listed_same : (n : ℕ) → Among n (numbers_of listed) → kept_bytes now n ≡ kept_bytes files n
  listed_same n among = by (left.each n)
    where
      by : (kept_bytes now n ≡ kept_bytes files n) ⊎ ((kept_bytes now n ≡ None) × IsStray bytes n)
          → kept_bytes now n ≡ kept_bytes files n
      by (inl same) = same
      by (inr gone) =
          let same = replay_once store_steps store_steps_determinate bytes stands.recorded gone.1.0 stands.replayed
          gone.1.1 in
          absurd (gone.1.2 (subst (λ (r : Recorded). Among n (numbers_of (r.store.sequence ++ r.store.unsequence))) same
          among))

  whole_same : (file : File) → IsWhole (kept_bytes files) stands.store.told file
      → kept_bytes now file.number ≡ kept_bytes files file.number → IsWhole (kept_bytes now) stands.store.told file
  whole_same file whole same = record {
    bytes = whole.bytes;
    tree = whole.tree;
    there = same ∙ whole.there;
    is_tree = whole.is_tree;
    is_made = whole.is_made;
    is_file = whole.is_file;
    content = whole.content;
  }

  pub stands_left : StoreStandsFor (kept_bytes now) bytes at
  stands_left = record {
    recorded = stands.recorded;
    replayed = stands.replayed;
    store = record {
      told = stands.store.told;
      whole = each_from_among (IsWhole (kept_bytes now) stands.store.told) listed
          (λ file among. whole_same file (each_among (IsWhole (kept_bytes files) stands.store.told) listed file
          stands.store.whole among)
          (listed_same file.number (among_map (λ (f : File). f.number) listed file among)));
      order = stands.store.order;
      stands = stands.store.stands;
    };
  }

pub still_sound : (old new : DiskState) (stored now : Option (List StoredFile)) (at : plain.State) → Keeps old new
    → KeepsListed (contents old stored) (contents new now) → IsSoundPlace (contents old stored) at
    → IsSoundPlace (contents new now) at
still_sound old new stored now at keeps keeps_files sound =
    let tells = tells_sound old stored at sound in
    let left = some_and (AreLeft (IsStray tells.0.a) sound.files) now (keeps_files tells.0 sound.files tells.1) in
    let kept = sound_kept A old new (kept_bytes sound.files) at keeps sound.sound in
    record {
      files = left.0;
      told = left.1;
      are_stored = left.2.are_stored;
      sound = record {
        told = kept.told;
        settled = kept.settled;
        stands = λ image seen.
            let same = same_Some tells.0 image (sym tells.1.slots ∙ sym keeps.seen ∙ seen) in
            stands_left sound.files left.0 image.a
            (subst (λ (i : Image). AreLeft (IsStray i.a) sound.files left.0) same left.2) at (kept.stands image seen);
      };
    }

-- a run that executed no command
pub without : (run : WholeRun) → run.history ≡ [] → KeepsBytes run.held run.holds → IsLeftAlone run.old run.new
    → IsWithoutCommands run
without run none sink alone = record {
  none = none;
  sink = sink;
  left_alone = alone;
  sound = λ at. still_sound run.old.disk run.new.disk run.old.stored run.new.stored at alone.log alone.files;
}

-- ---- which files are left

-- where no file comes or goes
pub same_listed : (old new : DiskState) (stored now : Option (List StoredFile)) → now ≡ stored
    → KeepsListed (contents old stored) (contents new now)
same_listed old new stored now same = λ image files tells.
    subst (λ o. IsSomeAnd o (AreLeft (IsStray image.a) files)) (sym (same ∙ tells.told))
    (record { are_stored = tells.are_stored; each = λ n. inl refl })

pub same_left : (old new : DiskState) (stored now : Option (List StoredFile)) → Keeps old new → now ≡ stored
    → IsLeftAlone (contents old stored) (contents new now)
same_left old new stored now keeps same = record { log = keeps; files = same_listed old new stored now same }

-- a store that was not opened, though memory or something of it failed, with no file come or gone
pub same_refused : (old new : DiskState) (stored now : Option (List StoredFile)) (status : Status) → Keeps old new
    → now ≡ stored → IsOpeningStatus (contents old stored) status
    → IsOpeningRefused (contents old stored) (contents new now) status
same_refused old new stored now status keeps same why =
    record { why = why; left_alone = same_left old new stored now keeps same }

-- why a store was not opened, where what is answered of its damage is so
opening_why : (state : DiskState) (stored start : Option (List StoredFile)) (reason : OpenFault) → start ≡ stored
    → IfSome state.seen (λ image. IfSome start (λ files. AreStored files → (which : Part) (at : ℕ)
    → reason ≡ fault.Damaged which at → IsDamagedIn (kept_bytes files) image.a which at))
    → IsOpeningStatus (contents state stored) (opening_status reason)
opening_why state stored start fault.Failed begins damaged = tt
opening_why state stored start fault.Memory begins damaged = tt
opening_why state stored start (fault.Damaged part place) begins damaged = λ image files tells.
    told_both (λ i l. AreStored l → (which : Part) (at : ℕ) → fault.Damaged part place ≡ fault.Damaged which at
    → IsDamagedIn (kept_bytes l) i.a which at) state.seen start image files tells.slots (begins ∙ tells.told) damaged
    tells.are_stored part place refl

-- what an opening that failed leaves
pub opening_refused : (state new : DiskState) (stored start mid now : Option (List StoredFile)) (reason : OpenFault)
    → start ≡ stored → now ≡ mid → Keeps state new
    → IfSome state.seen (λ image. IfSome start (λ files. AreStored files → (which : Part) (at : ℕ)
    → reason ≡ fault.Damaged which at → IsDamagedIn (kept_bytes files) image.a which at))
    → IfSome state.seen (λ image. IfSome start (λ files. AreStored files
    → IsSomeAnd mid (AreLeft (IsStray image.a) files)))
    → IsOpeningRefused (contents state stored) (contents new now) (opening_status reason)
opening_refused state new stored start mid now reason begins ends keeps damaged left = record {
  why = opening_why state stored start reason begins damaged;
  left_alone = record {
    log = keeps;
    files = λ image files tells.
        subst (λ o. IsSomeAnd o (AreLeft (IsStray image.a) files)) (sym ends)
        (told_both (λ i l. AreStored l → IsSomeAnd mid (AreLeft (IsStray i.a) l)) state.seen start image files tells.slots
        (begins ∙ tells.told) left tells.are_stored);
  };
}

-- what an opening answers of a store that is damaged
answers_reports : (part : Part) (at : ℕ) (reason : OpenFault) → AnswersDamageIn part at reason
    → ReportsDamage (opening_status reason) part at
answers_reports part at fault.Failed is = inr (inr (inr refl))
answers_reports part at (fault.Damaged other place) is = inl (ap (λ p. Damaged p place) is.0 ∙ ap (Damaged part) is.1)
answers_reports part at fault.Memory is = inr (inl refl)

-- where the store is damaged, what is said of each damage is said of this one
damage_of : (state : DiskState) (stored start : Option (List StoredFile)) (part : Part) (at : ℕ)
    (Answered : Part → ℕ → Type 0) → start ≡ stored
    → IfSome state.seen (λ image. IfSome start (λ files. AreStored files → (which : Part) (place : ℕ)
    → HaveLengths files → IsDamagedIn (kept_bytes files) image.a which place → Answered which place))
    → HasDamage (contents state stored) part at → Answered part at
damage_of state stored start part at Answered begins each has =
    told_both (λ i l. AreStored l → (which : Part) (place : ℕ) → HaveLengths l
    → IsDamagedIn (kept_bytes l) i.a which place → Answered which place) state.seen start has.image has.files
    has.tells.slots (begins ∙ has.tells.told) each has.tells.are_stored part at has.lengths has.damaged

-- a damaged store was opened, which cannot be
pub never_opened : (state : DiskState) (stored start : Option (List StoredFile)) (part : Part) (at : ℕ) → start ≡ stored
    → IfSome state.seen (λ image. IfSome start (λ files. AreStored files → (which : Part) (place : ℕ)
    → HaveLengths files → IsDamagedIn (kept_bytes files) image.a which place → ⊥))
    → ¬ HasDamage (contents state stored) part at
never_opened state stored start part at = damage_of state stored start part at (λ which place. ⊥)

-- it was not opened
pub reports : (state : DiskState) (stored start : Option (List StoredFile)) (part : Part) (at : ℕ) (reason : OpenFault)
    → start ≡ stored
    → IfSome state.seen (λ image. IfSome start (λ files. AreStored files → (which : Part) (place : ℕ)
    → HaveLengths files → IsDamagedIn (kept_bytes files) image.a which place → AnswersDamageIn which place reason))
    → HasDamage (contents state stored) part at → ReportsDamage (opening_status reason) part at
reports state stored start part at reason begins each has = answers_reports part at reason
    (damage_of state stored start part at (λ which place. AnswersDamageIn which place reason) begins each has)

-- a place that handed the store out, and took it back after it was not opened
pub placed_refused : (old journal last new : DiskState) (stored at_rest rest now : Option (List StoredFile))
    (status : Status) → IsLawful old → Keeps old journal → at_rest ≡ stored → Keeps last new → now ≡ rest
    → IsOpeningRefused (contents journal at_rest) (contents last rest) status
    → IsOpeningRefused (contents old stored) (contents new now) status
placed_refused old journal last new stored at_rest rest now status laws takes same puts told refused = record {
  why = handed_why status refused.why;
  left_alone = record {
    log = keeps_on old last new laws (keeps_on old journal last laws takes refused.left_alone.log) puts;
    files = λ image files tells. subst (λ o. IsSomeAnd o (AreLeft (IsStray image.a) files)) (sym told)
        (refused.left_alone.files image files (handed image files tells));
  };
}
  where
    handed : (image : Image) (files : List StoredFile) → TellsPlace (contents old stored) image files
        → TellsPlace (contents journal at_rest) image files
    handed image files tells = record {
      slots = takes.seen ∙ tells.slots;
      told = same ∙ tells.told;
      are_stored = tells.are_stored;
    }

    handed_why : (status : Status) → IsOpeningStatus (contents journal at_rest) status
        → IsOpeningStatus (contents old stored) status
    handed_why Memory is = tt
    handed_why Device is = tt
    handed_why (Damaged part at) is = λ image files tells. is image files (handed image files tells)
    handed_why Done is = absurd is
    handed_why Words is = absurd is
    handed_why (Script line kind) is = absurd is
    handed_why Source is = absurd is
    handed_why Sink is = absurd is

-- its damage is that of the store that it handed out
pub placed_damage : (old journal : DiskState) (stored at_rest : Option (List StoredFile)) (part : Part) (at : ℕ)
    → Keeps old journal → at_rest ≡ stored → HasDamage (contents old stored) part at
    → HasDamage (contents journal at_rest) part at
placed_damage old journal stored at_rest part at takes same has = record {
  image = has.image;
  files = has.files;
  tells = record {
    slots = takes.seen ∙ has.tells.slots;
    told = same ∙ has.tells.told;
    are_stored = has.tells.are_stored;
  };
  lengths = has.lengths;
  damaged = has.damaged;
}

pub err_again : {T E : Type 0} (P Q : E → Type 0) (result : Result T E) → ((e : E) → P e → Q e) → IfErr result P
    → IfErr result Q
err_again P Q (Ok value) step holds = tt
err_again P Q (Err fault) step holds = step fault holds

-- ---- what is said by the status

-- the run of these words and this source that left place and sink as they were
abbrev pub idle : List (List ℕ) → Option (List ℕ) → Contents → ℕ → ℕ → Option (List ℕ) → List Answered
    → Option (List ℕ) → WholeRun
idle words left place before now directory history held =
    whole_run words left place place before now directory history held held

pub without_any : (words : List (List ℕ)) (left : Option (List ℕ)) (place : Contents) (before now : ℕ)
    (directory : Option (List ℕ)) (history : List Answered) (held : Option (List ℕ)) → history ≡ []
    → IsWithoutCommands (idle words left place before now directory history held)
without_any words left place before now directory history held none =
    without (idle words left place before now directory history held) none (Keeps-refl held)
    (same_left place.disk place.disk place.stored place.stored (Keeps-same place.disk) refl)

pub headline_refused : (run : WholeRun) (status : Status) → IsOpeningStatus run.old status → IsWithoutCommands run
    → Headline status run
headline_refused run Done is none = absurd is
headline_refused run Memory is none = inr none
headline_refused run Words is none = absurd is
headline_refused run (Script line kind) is none = absurd is
headline_refused run Source is none = absurd is
headline_refused run Sink is none = absurd is
headline_refused run Device is none = none
headline_refused run (Damaged part at) is none = (is, none)
