-- Rights that are given out and taken back are steps of the state.
use Rattle.std.proofs.Common.{◌≡◌, ℕ, List, Option, None, Some, Result, Ok, Err, refl, sym, ap, subst, ◌∙◌}
use Rattle.std.specs.Prelude.{◌<◌, IfOk, IfSome, OnErr}
use Rattle.std.specs.Option.{option_map}
use Rattle.tsdb_core.proofs.Claims.{claims_stay, same_lists}
use Rattle.tsdb_core.proofs.Loans.{all_same, pinned_loans, unpinned_loans}
use Rattle.tsdb_core.specs.Core.{AreClaimed, IsSeen, KeepsJobs, next_of}
use Rattle.tsdb_core.specs.Pins.{ChangesRights, IsNotPinned, IsPinStep, IsPinned, IsUnpinned}
use Rattle.tsdb_core.specs.Worlds.{CoreKeepsWorld}
use Rattle.tsdb_core.specs.declared.engine.Core.{Core}
use Rattle.tsdb_fileset.specs.StateOfFiles.{TellTheirBytes}
use Rattle.tsdb_state.proofs.ImageLemmas.Storing.{pin_stored, unpin_stored}
use Rattle.tsdb_state.specs.StoredEngine.{kept_bytes}
use Rattle.tsdb_fileset.specs.Files.{IsOpen, KeptFiles, kept_file}
use Rattle.tsdb_fileset.specs.Places.{KeptFile}
use Rattle.tsdb_fileset.specs.declared.room.Spare.{Spare}
use Rattle.tsdb_base.proofs.Lists.{each_weaker}
use Rattle.tsdb_base.specs.Lists.{IsWithOne, count}
use Rattle.tsdb_memory.specs.LogState.{Outside, memory_of, framed_room}
use Rattle.tsdb_memory.specs.Store.{MemoryState}
use Rattle.tsdb_outside.specs.Files.{NamedFile, StoredFile}
use Rattle.tsdb_outside.specs.declared.disk.Disk as disk
use Rattle.tsdb_outside.specs.declared.faults.Counted as counted
use Rattle.tsdb_tasks.proofs.Changing.{LeavesNames, gives_names, kept_changed, takes_names}
use Rattle.tsdb_tasks.proofs.Gathered.{columns_stay}
use Rattle.tsdb_tasks.proofs.Pinned.{files_with}
use Rattle.tsdb_tasks.specs.Changes.{ChangesFiles, GivesRights, ChangesNoFile, TakesRights, column_numbers, fewer_rights, more_rights}
use Rattle.tsdb_tasks.specs.Pins.{AreColumnsHeld, IsPinTakenOrNot}
use Rattle.tsdb_tasks.specs.StateOfPin.{IsPinOf, IsPinOfState, LeavesState}
use Rattle.tsdb_tasks.specs.Pin.{Pin}
use Rattle.tsdb_tasks.specs.PinFault.{PinFault}
use Rattle.tsdb_state.proofs.Pinning.{pin_stands}
use Rattle.tsdb_state.specs.Jobs.{KeepsRoom, drawn_numbers}
use Rattle.tsdb_state.specs.State as state
use Rattle.tsdb_state.specs.State.{Compaction, EngineState, FlushState}
use Rattle.tsdb_state.specs.Steps.{pinned, unpinned}

-- what holds of the name of each kept file goes on to hold
names_stay : (P : ℕ → NamedFile → Type 0) (change : ℕ → KeptFile → KeptFile) → LeavesNames change → (a b : KeptFiles)
    → ChangesFiles change a b → ((n : ℕ) → IfSome (kept_file n a) (λ file. P n file.name))
    → (n : ℕ) → IfSome (kept_file n b) (λ file. P n file.name)
names_stay P change leaves a b changes all n = subst (λ o. IfSome o (λ file. P n file.name))
    (sym (kept_changed change a b changes n)) (by (kept_file n a) (all n))
  where
    by : (o : Option KeptFile) → IfSome o (λ file. P n file.name) → IfSome (option_map (change n) o) (λ file. P n file.name)
    by None h = tt
    by (Some file) h = subst (P n) (sym (leaves.name n file)) h

module _ {J F S R P : Type 0} {means : disk.Ghosts J} {counts : counted.Ghosts J} where
  abbrev with_files : Core J F S R P means counts → KeptFiles → Core J F S R P means counts
  with_files core files = record core { files = files }

  module _ (old : Core J F S R P means counts) (files : KeptFiles) (change : ℕ → KeptFile → KeptFile)
      (leaves : LeavesNames change) (changes : ChangesFiles change old.files files) where
    jobs_stay : (flushes : List FlushState) (compactions : List Compaction) → KeepsJobs old flushes compactions
        → KeepsJobs (with_files old files) flushes compactions
    jobs_stay flushes compactions kept = record {
      from_one = kept.from_one;
      below = names_stay (λ n name. n < next_of old) change leaves old.files files changes kept.below;
      flushed = kept.flushed;
      differ = kept.differ;
      range = kept.range;
      places = each_weaker (λ n. IsOpen n old.files) (λ n. IsOpen n files)
          (λ n open_place. changes.places n ∙ ap (λ (place : Option (Option KeptFile)). option_map (λ file. option_map (change n) file) place) open_place)
          (drawn_numbers flushes compactions) kept.places;
      room = subst (λ (spare : Spare). KeepsRoom (record {
        sequence = spare.sequence;
        unsequence = spare.unsequence;
        outgoing = spare.outgoing;
        record_bytes = framed_room old.logged;
      }) flushes compactions) (sym changes.room) kept.room;
    }

    pub rest_stays : ChangesRights old (with_files old files)
    rest_stays = record {
      logged = refl;
      next = refl;
      limit = refl;
      flushed = refl;
      claimed = refl;
      jobs = jobs_stay;
      store = changes.lists.store;
    }

    claims_on : (compactions : List Compaction) → AreClaimed old compactions
        → AreClaimed (with_files old files) compactions
    claims_on compactions = claims_stay old (with_files old files) compactions
        (same_lists old.files files changes.lists.sequence changes.lists.unsequence) refl

    tells_on : (kept : List StoredFile) → TellTheirBytes old.files kept → TellTheirBytes files kept
    tells_on kept told = names_stay (λ n name. (name.number ≡ n) × (name.bytes ≡ kept_bytes kept n)) change leaves old.files
        files changes told

  pub is_pinned : (name : R → NamedFile) (old : Core J F S R P means counts) (files : KeptFiles) (pin : Pin F S R P)
      → TakesRights (column_numbers pin.columns) old.files files → AreColumnsHeld name old.files pin.columns
      → IsPinOfState old.files files (memory_of old.logged) pin → IsPinned name old (with_files old files) pin
  is_pinned name old files pin rights held stated = record {
    rest = rest_stays old files change leaves rights;
    rights = rights;
    held = columns_stay name change leaves old.files files rights pin.columns held;
    loans = pinned_loans name old files pin rights held (jobs_stay old files change leaves rights);
    step = step;
  }
    where
      change : ℕ → KeptFile → KeptFile
      change n = more_rights (count n (column_numbers pin.columns))

      leaves : LeavesNames change
      leaves = takes_names (column_numbers pin.columns)

      step : (outside : Outside) (engine : EngineState) → IsSeen old outside engine
          → IsPinStep (with_files old files) outside engine pin
      step outside engine seen =
          let one = stated outside.known engine seen.sound.memory seen.files in
          record {
            shown = one.shown;
            is = one.is;
            takes = one.takes;
            seen = record {
              sound = record {
                memory = seen.sound.memory;
                log = record { log = seen.sound.log.log; named = seen.sound.log.named };
                stored = pin_stored outside.items outside.kept outside.told outside.known engine seen.sound.stored one.shown
                    one.takes;
              };
              files = one.files;
              told = tells_on old files change leaves rights outside.kept seen.told;
              next = seen.next;
              jobs = jobs_stay old files change leaves rights engine.flushes engine.compactions seen.jobs;
              claims = claims_on old files change leaves rights engine.compactions seen.claims;
            };
            world = λ world stands. pin_stands outside.told outside.known engine seen.sound.stored.order.entries world stands
                one.shown one.takes;
          }

  pub not_pinned : (old : Core J F S R P means counts) (files : KeptFiles) → ChangesNoFile old.files files
      → IsNotPinned old (with_files old files)
  not_pinned old files keeps = record {
    rest = rest_stays old files same leaves keeps;
    files = keeps;
    loans = all_same old (with_files old files) keeps.lists.sequence keeps.lists.unsequence refl
        (λ n. kept_changed same old.files files keeps n ∙ unchanged (kept_file n old.files))
        (jobs_stay old files same leaves keeps);
    step = step;
  }
    where
      same : ℕ → KeptFile → KeptFile
      same n file = file

      unchanged : (o : Option KeptFile) → option_map (λ (file : KeptFile). file) o ≡ o
      unchanged None = refl
      unchanged (Some file) = refl

      leaves : LeavesNames same
      leaves = record { name = λ n file. refl; series = λ n file. refl }

      step : (outside : Outside) (engine : EngineState) → IsSeen old outside engine
          → IsSeen (with_files old files) outside engine
      step outside engine seen = record {
        sound = seen.sound;
        files = files_with same leaves old.files files outside.known engine engine.pins engine.rights keeps (λ n file e. e)
            seen.files;
        told = tells_on old files same leaves keeps outside.kept seen.told;
        next = seen.next;
        jobs = jobs_stay old files same leaves keeps engine.flushes engine.compactions seen.jobs;
        claims = claims_on old files same leaves keeps engine.compactions seen.claims;
      }

  pub is_unpinned : (old : Core J F S R P means counts) (files : KeptFiles) (pin : Pin F S R P)
      → GivesRights (column_numbers pin.columns) old.files files → LeavesState old.files files pin
      → IsUnpinned old (with_files old files) pin
  is_unpinned old files pin rights left = record {
    rest = rest_stays old files change leaves rights;
    rights = rights;
    loans = unpinned_loans old files pin rights (jobs_stay old files change leaves rights);
    step = step;
  }
    where
      change : ℕ → KeptFile → KeptFile
      change n = fewer_rights (count n (column_numbers pin.columns))

      leaves : LeavesNames change
      leaves = gives_names (column_numbers pin.columns)

      step : (outside : Outside) (engine : EngineState) (shown : state.PinState) (others : List state.PinState)
          → IsSeen old outside engine → IsPinOf pin shown → IsWithOne shown others engine.pins
          → IsSeen (with_files old files) outside (unpinned shown others engine)
      step outside engine shown others seen is out = record {
        sound = record {
          memory = seen.sound.memory;
          log = record { log = seen.sound.log.log; named = seen.sound.log.named };
          stored = unpin_stored outside.items outside.kept outside.told outside.known engine seen.sound.stored shown others out;
        };
        files = left outside.known engine shown others seen.files is;
        told = tells_on old files change leaves rights outside.kept seen.told;
        next = seen.next;
        jobs = jobs_stay old files change leaves rights engine.flushes engine.compactions seen.jobs;
        claims = claims_on old files change leaves rights engine.compactions seen.claims;
      }

  -- worlds

  pub pinned_world : (name : R → NamedFile) (old new : Core J F S R P means counts) (pin : Pin F S R P)
      → IsPinned name old new pin → CoreKeepsWorld old new
  pinned_world name old new pin is world of = let one = is.step of.outside of.state of.seen in record {
    outside = of.outside;
    state = pinned one.shown of.state;
    seen = one.seen;
    stands = of.stands;
  }

  pub not_pinned_world : (old new : Core J F S R P means counts) → IsNotPinned old new → CoreKeepsWorld old new
  not_pinned_world old new is world of = record {
    outside = of.outside;
    state = of.state;
    seen = is.step of.outside of.state of.seen;
    stands = of.stands;
  }

  -- how a call for a pin ends
  module _ (name : R → NamedFile) (old : Core J F S R P means counts) (files : KeptFiles) (memory : MemoryState)
      (is_memory : memory ≡ memory_of old.logged) where
    pub pinned_if : (result : Result (Pin F S R P) PinFault) → IsPinTakenOrNot name old.files files result
        → IfOk result (IsPinOfState old.files files memory) → IfOk result (IsPinned name old (with_files old files))
    pinned_if (Ok pin) taken stated = is_pinned name old files pin taken.0 taken.1
        (subst (λ store. IsPinOfState old.files files store pin) is_memory stated)
    pinned_if (Err fault) taken stated = tt

    pub not_if : (result : Result (Pin F S R P) PinFault) → IsPinTakenOrNot name old.files files result
        → OnErr result (IsNotPinned old (with_files old files))
    not_if (Ok pin) taken = tt
    not_if (Err fault) taken = not_pinned old files taken

    pub either_world : (result : Result (Pin F S R P) PinFault) → IsPinTakenOrNot name old.files files result
        → IfOk result (IsPinOfState old.files files memory) → CoreKeepsWorld old (with_files old files)
    either_world (Ok pin) taken stated =
        pinned_world name old (with_files old files) pin (pinned_if (Ok pin) taken stated)
    either_world (Err fault) taken stated = not_pinned_world old (with_files old files) (not_if (Err fault) taken)
