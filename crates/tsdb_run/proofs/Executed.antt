-- The entries of a run, from the store that was taken up to the one that was put down.
use Rattle.std.proofs.Common.{◌≡◌, ◌≢◌, ◌⊎◌, ◌∙◌, inl, inr, ⊎_elim, ℕ, ◌+◌, ◌<◌, ◌≤◌, List, [], ◌∷◌, ◌++◌, Option, None, Some}
use Rattle.std.proofs.Common.{Result, Ok, Err, zero, suc, ap, refl, subst, sym, arith}
use Rattle.std.specs.Prelude.{◌-◌, ◌^◌, min, slice_get, IfOk}
use Rattle.std.specs.List.{AllByRecursion as Each}
use Rattle.std.specs.Option.{IsSomeAnd}
use Rattle.tsdb_recover.specs.Core.{files_of, next_of}
use Rattle.tsdb_recover.specs.CoreType.{Core}
use Rattle.tsdb_frames.proofs.MomentLemmas.{elsewhere_on, leaves_on, weaker}
use Rattle.std.proofs.lemmas.Option.{same_Some}
use Rattle.tsdb_history.proofs.Prefixes.{after_wider, no_prefix, stands_after, whole_prefix}
use Rattle.tsdb_history.specs.Closing.{IsCoreClosed}
use Rattle.tsdb_history.specs.Listings.{AreAllListed, IsAllInFiles, IsListingOf}
use Rattle.tsdb_history.specs.Prefixes.{EndsDone, StandsAfter, StandsAfterPrefix}
use Rattle.tsdb_history.specs.Serves.{HasAnswered, HasServed, LeavesPrefix}
use Rattle.tsdb_state.specs.StoredEngine.{LeavesOneOf, kept_bytes}
use Rattle.tsdb_base.proofs.Lists.{each_weaker}
use Rattle.tsdb_base.specs.Lists.{EachPair}
use Rattle.tsdb_model.specs.History.{Entry}
use Rattle.tsdb_model.specs.State as plain
use Rattle.tsdb_redo.specs.Opening.{greatest}
use Rattle.tsdb_base.specs.Causes.{Rose}
use Rattle.tsdb_outside.specs.Disk.{Image, IsLawful, Keeps, DiskState, in_slot}
use Rattle.tsdb_outside.specs.Files.{StoredFile, stored_file_numbers}
use Rattle.tsdb_outside.specs.Moments.{IsUntouched, LeavesOnly}
use Rattle.tsdb_outside.specs.declared.disk.Disk as disk
use Rattle.tsdb_outside.specs.declared.disk.Slot.{Slot}
use Rattle.tsdb_outside.specs.declared.disk.Slot.TheVariants.{A}
use Rattle.tsdb_outside.specs.declared.faults.Counted as counted
use Rattle.tsdb_recover.specs.StoredFiles.{AreStored}
use Rattle.tsdb_state.proofs.ReplayLemmas.Stores.{sound_images}
use Rattle.tsdb_state.specs.Stores as stores
use Rattle.tsdb_state.specs.Stores.{StandsForOneOf}
use Rattle.tsdb_run.specs.Headline.{AreNewer, EndsSettled, HasRun}
use Rattle.tsdb_history.specs.declared.told.Told.{Told}
use Rattle.tsdb_run.proofs.Standing.{all_stand, one_prefix, stands_with, stands_with_put}
use Rattle.tsdb_run.proofs.Whole.{sound_after, sound_left}
use Rattle.tsdb_run.specs.Steps.{IsNewerThan, IsRunOn}
use Rattle.tsdb_run.specs.Store.{HasNoStrays, IsSoundOrSilent, SlotsStandFor, contents}
use Rattle.tsdb_script.specs.declared.numbered.Numbered.{Numbered}
use Rattle.tsdb_history.specs.Serving.{IsDrawn, disk_under, slot_under}

-- a call that writes nothing leaves what the disk might leave
keeps_leaves : (old new : DiskState) (P : Image → Type 0) → IsLawful old → IsLawful new → Keeps old new
    → ((image : Image) → old.may_leave image → P image) → LeavesOnly old new P
keeps_leaves old new P before after keeps each = record {
  passes = record {
    later = keeps.time.later;
    nothing_else = λ t image le left. ⊎_elim (λ earlier. inl earlier)
        (λ now. inr (after.counts_now old.moment image keeps.time.later now)) (keeps.time.nothing_else t image le left);
    keeps = keeps.time.keeps;
  };
  each = λ image left. each image (⊎_elim (λ earlier. before.only_now image earlier) (λ now. keeps.crash image now)
      (keeps.time.nothing_else old.moment image (omega arith) left));
}

-- ---- the numbers of files

-- no other file has the number
not_there : (number : ℕ) (files : List StoredFile) → Each (λ (other : StoredFile). number ≢ other.number) files
    → (i n : ℕ) → slice_get (stored_file_numbers files) i ≡ Some n → number ≡ n → ⊥
not_there number [] apart i n at same = absurd cc
not_there number (file ∷ files) apart zero n at same = apart.0 (same ∙ sym (same_Some file.number n at))
not_there number (file ∷ files) apart (suc i) n at same = not_there number files apart.1 i n at same

numbered_once : (files : List StoredFile) → EachPair (λ (a b : StoredFile). a.number ≢ b.number) files
    → (i j n : ℕ) → slice_get (stored_file_numbers files) i ≡ Some n → slice_get (stored_file_numbers files) j ≡ Some n → i ≡ j
numbered_once [] differ i j n at other = absurd cc
numbered_once (file ∷ files) differ zero zero n at other = refl
numbered_once (file ∷ files) differ zero (suc j) n at other =
    absurd (not_there file.number files differ.0 j n other (same_Some file.number n at))
numbered_once (file ∷ files) differ (suc i) zero n at other =
    absurd (not_there file.number files differ.0 i n at (same_Some file.number n other))
numbered_once (file ∷ files) differ (suc i) (suc j) n at other = ap suc (numbered_once files differ.1 i j n at other)

-- ---- the core

module _ {J F S R P : Type 0} {means : disk.Ghosts J} {counts : counted.Ghosts J}
    (core last : Core J F S R P means counts) (files : List StoredFile) (start : plain.State) (entries : List Entry)
    (served : HasAnswered [] core last files start entries) (slot : slot_under core ≡ A)
    (stays : slot_under last ≡ slot_under core) (new : DiskState) (laws : IsLawful new) (stored : List StoredFile)
    (rose : Type 0) (closed : IsCoreClosed last new stored rose (files ++ served.put) served.after served.doubt) where
  in_a : slot_under last ≡ A
  in_a = stays ∙ slot

  after_all : (image : Image) (kept : stores.BytesByNumber)
      → StandsForOneOf kept (in_slot (slot_under last) image) served.after served.doubt
      → StandsAfter (stores.StoreStandsFor kept image.a) served.after entries
  after_all image kept is =
      stands_after kept served.after entries served.doubt image.a served.may
      (subst (λ (s : Slot). StandsForOneOf kept (in_slot s image) served.after served.doubt) in_a is)

  abbrev Prefixed : Image → Type 0
  Prefixed image = StandsAfterPrefix (SlotsStandFor (files ++ served.put) image) start entries

  closing : (image : Image) → LeavesOneOf (files ++ served.put) (slot_under last) served.after served.doubt image
      → Prefixed image
  closing image leaves = one_prefix (files ++ served.put) image start entries (λ kept holds.
      whole_prefix (stores.StoreStandsFor kept image.a) start served.after entries served.legal
      (after_all image kept (leaves kept holds)))

  moments : LeavesOnly (disk_under core) new Prefixed
  moments =
      leaves_on (disk_under core) (disk_under last) new laws Prefixed
      (weaker (disk_under core) (disk_under last) (LeavesPrefix (files ++ served.put) A start entries) Prefixed
      (λ image leaves. one_prefix (files ++ served.put) image start entries leaves)
      (subst (λ (s : Slot). LeavesOnly (disk_under core) (disk_under last)
      (LeavesPrefix (files ++ served.put) s start entries)) slot served.moments))
      (weaker (disk_under last) new
      (LeavesOneOf (files ++ served.put) (slot_under last) served.after served.doubt) Prefixed closing closed.moments)

  newer : IsNewerThan files core → AreNewer served.put files
  newer below =
      each_weaker (λ (file : StoredFile). IsDrawn core last file.number)
      (λ (file : StoredFile). Each (λ (other : StoredFile). other.number < file.number) files)
      (λ file drawn. each_weaker (λ (other : StoredFile). other.number < next_of core)
      (λ (other : StoredFile). other.number < file.number)
      (λ other less. omega (arith, less, drawn.from)) files below) served.put served.numbers

  pub has_run : (now : Option (List StoredFile)) (more : Type 0) → now ≡ Some stored → IsNewerThan files core
      → (rose → more) → (EndsDone entries → served.doubt ≡ None) → HasServed [] core last files start entries
      → HasRun files start entries (disk_under core) (contents new now) more
  has_run now more told below wider settled whole = record {
    after = served.after;
    legal = served.legal;
    put = served.put;
    newer = newer below;
    once = numbered_once served.put served.differ;
    moments = moments;
    stored = stored;
    at_rest = record { told = told; are_stored = are_stored; held = closed.held };
    holds = λ image left. all_stand stored image served.after entries are_stored
        (λ kept holds. after_all image kept (closed.holds image left kept holds));
    sound = λ calm. record { files = stored; told = told; are_stored = are_stored; sound = is_sound calm };
    alone = λ calm image left. stands_with stored image served.after
        (sound_images A new (kept_bytes stored) served.after image (is_sound calm) left);
    listed = λ calm listing ends files image there left.
        subst (λ l. IsListingOf (kept_bytes l) image.a listing) (same_Some stored files (sym told ∙ there))
        (subst (λ (s : Slot). IsListingOf (kept_bytes stored) (in_slot s image) listing) in_a
        (closed.listed (by calm) listing (whole.listed listing ends) image left));
    flushed = λ calm ends image left. subst (λ (s : Slot). IsAllInFiles (in_slot s image)) in_a
        (closed.flushed (by calm) (whole.flushed ends) image left);
  }
    where
      are_stored : AreStored stored
      are_stored = record { differ = closed.differ; each = closed.numbers }

      by : EndsSettled more entries → (¬ rose) ⊎ (served.doubt ≡ None)
      by (inl calm) = inl (λ is. calm (wider is))
      by (inr ends) = inr (settled ends)

      is_sound : EndsSettled more entries → stores.IsSound A new (kept_bytes stored) served.after
      is_sound calm = subst (λ (s : Slot). stores.IsSound s new (kept_bytes stored) served.after) in_a (closed.sound (by calm))

  -- where the journal did not fail, and no file was on its way out, the log lists each file that is stored
  pub no_strays : (now : Option (List StoredFile)) → now ≡ Some stored → ¬ rose → (files_of last).outgoing ≡ []
      → HasNoStrays (contents new now)
  no_strays now told calm none = λ files image there left.
      subst (AreAllListed image.a) (same_Some stored files (sym told ∙ there))
      (subst (λ (s : Slot). AreAllListed (in_slot s image) stored) in_a (closed.swept (inl calm) none image left))

pub some_and : {X : Type 0} (P : X → Type 0) (o : Option X) → IsSomeAnd o P → (x : X) × (o ≡ Some x) × P x
some_and P None is = absurd is
some_and P (Some x) is = (x, refl, is)

-- a fault of the journal at its end is one that no command was answered
pub one_more_fault : (first last journal at_first port old files count : ℕ)
    → min ((first + at_first) + count) (2 ^ 64 - 1) ≤ last + port → min (old + port) (2 ^ 64 - 1) ≤ files
    → Rose last journal → Rose count (journal + files)
one_more_fault first last journal at_first port old files count answered counts rose =
    omega (arith, answered, counts, rose)

-- where more faults of both parts were counted than were answered, so were more of the place that takes them back
pub more_down : (old mid new journal files count : ℕ) → old ≤ mid → min (mid + journal + files) (2 ^ 64 - 1) ≤ new
    → Rose count (journal + files) → Rose (old + count) new
more_down old mid new journal files count later counts rose = omega (arith, later, counts, rose)

-- what was answered of the faults of both parts is one of the place's faults
pub counted_down : (old mid new journal files count : ℕ) → old ≤ mid → min (mid + journal + files) (2 ^ 64 - 1) ≤ new
    → min count (2 ^ 64 - 1) ≤ journal + files → min (old + count) (2 ^ 64 - 1) ≤ new
counted_down old mid new journal files count later counts answered = omega (arith, later, counts, answered)

-- a count that is 0 has not risen
pub not_rose : (before now : ℕ) → now ≡ 0 → ¬ Rose before now
not_rose before now none = λ rose. omega (arith, none, rose)

-- where the files have counted no fault, their port has counted none
pub quiet_port : (old port files : ℕ) → min (old + port) (2 ^ 64 - 1) ≤ files → files ≡ 0 → port ≡ 0
quiet_port old port files counts none = omega (arith, counts, none)

-- where a place has counted no fault, neither of its parts has
pub quiet_parts : (mid new journal files : ℕ) → min (mid + journal + files) (2 ^ 64 - 1) ≤ new → new ≡ 0
    → journal + files ≡ 0
quiet_parts mid new journal files counts none = omega (arith, counts, none)

pub sure_before : (old new : DiskState) (stored now : Option (List StoredFile)) → Keeps old new → now ≡ stored
    → IsSoundOrSilent (contents old stored) → IsSoundOrSilent (contents new now)
sure_before old new stored now keeps same (inl silent) = inl (same ∙ silent)
sure_before old new stored now keeps same (inr (start, sound)) =
    inr (start, sound_after old new stored now start keeps same sound)

-- ---- before and behind it

-- slot B: behind a call that writes nothing, and before one
keeps_aside : (old new : DiskState) → IsLawful old → IsLawful new → Keeps old new → LeavesOnly old new (IsUntouched A old)
keeps_aside old new before after keeps = keeps_leaves old new (IsUntouched A old) before after keeps
    (λ image left. record { before = image; left = left; same = refl })

pub aside_before : (old mid new : DiskState) → IsLawful old → IsLawful mid → IsLawful new → Keeps old mid
    → LeavesOnly mid new (IsUntouched A mid) → LeavesOnly old new (IsUntouched A old)
aside_before old mid new before between behind keeps leaves =
    elsewhere_on A old mid new between behind (keeps_aside old mid before between keeps) leaves

aside_behind : (old mid new : DiskState) → IsLawful mid → IsLawful new → LeavesOnly old mid (IsUntouched A old)
    → Keeps mid new → LeavesOnly old new (IsUntouched A old)
aside_behind old mid new between behind leaves keeps =
    elsewhere_on A old mid new between behind leaves (keeps_aside mid new between behind keeps)

module _ (files : List StoredFile) (start : plain.State) (entries : List Entry) (old mid new : DiskState)
    (now : Option (List StoredFile)) (rose : Type 0) (before : IsLawful old) (between : IsLawful mid)
    (behind : IsLawful new) where
  abbrev prefixed : List StoredFile → Image → Type 0
  prefixed put image = StandsAfterPrefix (SlotsStandFor (files ++ put) image) start entries

  calmer : (more : Type 0) → (rose → more) → EndsSettled more entries → EndsSettled rose entries
  calmer more wider (inl calm) = inl (λ is. calm (wider is))
  calmer more wider (inr ends) = inr ends

  -- a call that writes nothing took the store up
  pub run_before : (more : Type 0) → Keeps old mid
      → ((image : Image) → old.may_leave image → stores.StoreStandsFor (kept_bytes files) image.a start) → (rose → more)
      → HasRun files start entries mid (contents new now) rose → HasRun files start entries old (contents new now) more
  run_before more keeps stands wider run = record {
    after = run.after;
    legal = run.legal;
    put = run.put;
    newer = run.newer;
    once = run.once;
    moments = leaves_on old mid new behind (prefixed run.put)
        (keeps_leaves old mid (prefixed run.put) before between keeps
        (λ image left. no_prefix (SlotsStandFor (files ++ run.put) image) start entries
        (stands_with_put files run.put image start (stands image left)))) run.moments;
    stored = run.stored;
    at_rest = run.at_rest;
    holds = run.holds;
    sound = λ calm. run.sound (calmer more wider calm);
    alone = λ calm. run.alone (calmer more wider calm);
    listed = λ calm. run.listed (calmer more wider calm);
    flushed = λ calm. run.flushed (calmer more wider calm);
  }

  -- a call that writes nothing put the store down
  pub run_behind : (then : Option (List StoredFile)) (more : Type 0) → Keeps mid new → then ≡ now → (rose → more)
      → HasRun files start entries old (contents mid now) rose → HasRun files start entries old (contents new then) more
  run_behind then more keeps same wider run = record {
    after = run.after;
    legal = run.legal;
    put = run.put;
    newer = run.newer;
    once = run.once;
    moments = leaves_on old mid new behind (prefixed run.put) run.moments
        (keeps_leaves mid new (prefixed run.put) between behind keeps
        (λ image left. whole_prefix (SlotsStandFor (files ++ run.put) image) start run.after entries run.legal
        (after_wider (SlotsStandFor run.stored image) (SlotsStandFor (files ++ run.put) image)
        (λ at stands kept holds. stands kept (run.at_rest.held kept holds)) run.after entries (run.holds image left))));
    stored = run.stored;
    at_rest = record {
      told = same ∙ run.at_rest.told;
      are_stored = run.at_rest.are_stored;
      held = run.at_rest.held;
    };
    holds = λ image left. run.holds image (keeps.crash image left);
    sound = λ calm. sound_after mid new now then run.after keeps same (run.sound (calmer more wider calm));
    alone = λ calm image left. run.alone (calmer more wider calm) image (keeps.crash image left);
    listed = λ calm listing ends stored image there left.
        run.listed (calmer more wider calm) listing ends stored image (sym same ∙ there) (keeps.crash image left);
    flushed = λ calm ends image left. run.flushed (calmer more wider calm) ends image (keeps.crash image left);
  }

-- the script was executed on the store of a journal, which a place handed out and took back
pub placed : (script : List Numbered) (history : List Told) (old journal last new : DiskState)
    (stored at_rest rest now : Option (List StoredFile)) (rose more : Type 0) (faults counted : ℕ) → IsLawful old → IsLawful journal
    → IsLawful last → IsLawful new → Keeps old journal → at_rest ≡ stored → Keeps last new → now ≡ rest → (rose → more)
    → (counted ≡ 0 → faults ≡ 0)
    → IsRunOn script history (contents journal at_rest) (contents last rest) rose faults
    → IsRunOn script history (contents old stored) (contents new now) more counted
placed script history old journal last new stored at_rest rest now rose more faults counted one two three four takes same puts told
    wider none run =
    record {
      entries = run.entries;
      history_of = run.history_of;
      in_line_order = run.in_line_order;
      served = λ start sound.
          let inside = sound_after old journal stored at_rest start takes same sound in
          run_behind sound.files start run.entries old last new rest rose one three four now more puts told wider
          (run_before sound.files start run.entries old journal last rest rose one two three rose takes
          (λ image left. sound_left old stored start image sound left) (λ is. is) (run.served start inside));
      aside = aside_behind old last new three four (aside_before old journal last one two three takes run.aside) puts;
      swept = λ start sound zero. λ files image there left.
          run.swept start (sound_after old journal stored at_rest start takes same sound) (none zero) files image
          (sym told ∙ there) (puts.crash image left);
      within = λ start sound next is. run.within start (sound_after old journal stored at_rest start takes same sound) next
          (record {
            image = is.image;
            slots = takes.seen ∙ is.slots;
            recorded = is.recorded;
            replayed = is.replayed;
            above = is.above;
          });
    }

pub if_ok : {T E : Type 0} (P Q : T → Type 0) (result : Result T E) → ((x : T) → P x → Q x) → IfOk result P
    → IfOk result Q
if_ok P Q (Ok x) more is = more x is
if_ok P Q (Err e) more is = tt

-- ---- numbers

below_greatest : (files : List StoredFile) (named : List ℕ)
    → Each (λ (file : StoredFile). file.number ≤ greatest (stored_file_numbers files ++ named)) files
below_greatest [] named = tt
below_greatest (file ∷ files) named = (
  omega arith,
  each_weaker (λ (other : StoredFile). other.number ≤ greatest (stored_file_numbers files ++ named))
      (λ (other : StoredFile). other.number ≤ greatest (stored_file_numbers (file ∷ files) ++ named))
      (λ other less. omega (arith, less)) files (below_greatest files named),
)

-- the next number of a store that was opened is above those of its files
pub above_stored : {J F S R P : Type 0} {means : disk.Ghosts J} {counts : counted.Ghosts J}
    (core : Core J F S R P means counts) (files : List StoredFile) (named : List ℕ)
    → next_of core ≡ greatest (stored_file_numbers files ++ named) + 1 → IsNewerThan files core
above_stored core files named next =
    each_weaker (λ (file : StoredFile). file.number ≤ greatest (stored_file_numbers files ++ named))
    (λ (file : StoredFile). file.number < next_of core) (λ file less. omega (arith, less, next)) files
    (below_greatest files named)
