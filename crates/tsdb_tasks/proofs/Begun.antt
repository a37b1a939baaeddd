-- What the inputs of a job that are taken leave of the files.
use Rattle.std.proofs.Common.{◌≡◌, ℕ, List, [], ◌∷◌, ◌++◌, length, map, Option, Some, None, Result, Ok, Err, refl, sym}
use Rattle.std.proofs.Common.{ap, subst}
use Rattle.std.proofs.Common.{◌+◌, ◌-◌, ◌∙◌, arith}
use Rattle.std.specs.Option.{option_map}
use Rattle.std.specs.Prelude.{OnErr, OnOk}
use Rattle.std.proofs.lemmas.List.{map-append}
use Rattle.tsdb_base.specs.declared.ids.FileNumber.{FileNumber}
use Rattle.tsdb_base.specs.declared.ids.Space.{Space}
use Rattle.tsdb_tasks.proofs.Taken.{held_stays, taken_then}
use Rattle.tsdb_tasks.specs.Beginning.{AreInputsTaken, HoldsMore, HoldsSome, AreFilesUntouched}
use Rattle.tsdb_tasks.specs.Inputs.{AreHeld, IsHeld, TakesInputs, TakesEntries, TakesSomeInputs, input_numbers}
use Rattle.tsdb_tasks.specs.declared.finishing.InputRuns.{InputRuns}
use Rattle.tsdb_compactions.specs.Jobs.{input_file}
use Rattle.tsdb_compactions.specs.declared.job.Input.{Input}
use Rattle.tsdb_fileset.specs.StateOfFiles.{listed}
use Rattle.tsdb_fileset.specs.Files.{KeepsLists, KeptFiles, kept_file}
use Rattle.tsdb_fileset.specs.Places.{ArePlacesMade, KeptFile, OnlyMakesPlaces, place_of_number}
use Rattle.tsdb_fileset.specs.Replacing.{compaction_room}
use Rattle.tsdb_fileset.specs.Room.{more_room}
use Rattle.tsdb_fileset.specs.Rights.{IsRightTo}
use Rattle.tsdb_base.proofs.Lists.{each_weaker}
use Rattle.tsdb_base.specs.Lists.{count}
use Rattle.tsdb_outside.specs.Files.{NamedFile}
use Rattle.tsdb_pin.proofs.Changing.{kept_changed, takes_names}
use Rattle.tsdb_pin.specs.Changes.{GivesRights, TakesRights, fewer_rights, more_rights}
use Rattle.std.specs.Prelude.{slice_range}

still_open : (f : KeptFile → KeptFile) (place new : Option (Option KeptFile)) → place ≡ Some None
    → new ≡ option_map (λ p. option_map f p) place → new ≡ Some None
still_open f place new is changed = changed ∙ ap (option_map (λ p. option_map f p)) is

pub holds_more : (numbers : List ℕ) (a b : KeptFiles) → TakesRights numbers a b → HoldsMore numbers a b
holds_more numbers a b taken = record {
  files = kept_changed (λ n. more_rights (count n numbers)) a b taken;
  places = λ n is. still_open (more_rights (count n numbers)) (place_of_number n a.places) (place_of_number n b.places) is
      (taken.places n);
  lists = taken.lists;
}

places_made : (numbers : List ℕ) (a b c : KeptFiles) → HoldsMore numbers a b → OnlyMakesPlaces b.places c.places
    → KeepsLists b c → HoldsMore numbers a c
places_made numbers a b c more made keeps = record {
  files = λ n. made.files n ∙ more.files n;
  places = λ n is. made.places n (more.places n is);
  lists = record {
    store = keeps.store ∙ more.lists.store;
    sequence = keeps.sequence ∙ more.lists.sequence;
    unsequence = keeps.unsequence ∙ more.lists.unsequence;
    outgoing = keeps.outgoing ∙ more.lists.outgoing;
  };
}

none_there : (f : KeptFile → KeptFile) (o new : Option KeptFile) → o ≡ None → new ≡ option_map f o → new ≡ None
none_there f o new is changed = changed ∙ ap (option_map f) is

module _ {F S R P : Type 0} (name : R → NamedFile) where
  -- some inputs were taken, from none on
  pub some_held : (a b : KeptFiles) (before after : List (Input F S R P)) → before ≡ []
      → TakesSomeInputs name a b before after → HoldsSome name a b after
  some_held a b before after none taken =
      let is : taken.0 ≡ after = sym (taken.1.are ∙ ap (λ l. l ++ taken.0) none) in
      subst (HoldsSome name a b) is (record {
        held = held_stays name (λ n. more_rights (count n (input_numbers taken.0)))
            (takes_names (input_numbers taken.0)) a b taken.1.rights taken.0 taken.1.held;
        more = holds_more (input_numbers taken.0) a b taken.1.rights;
        room = taken.1.rights.room;
      })

  pub then_some : (a b c : KeptFiles) (Is : List (Input F S R P) → Type 0) (before middle after : List (Input F S R P))
      → before ≡ [] → ((more : List (Input F S R P)) × TakesInputs name a b before middle more × Is more)
      → TakesSomeInputs name b c middle after → HoldsSome name a c after
  then_some a b c Is before middle after none first second = some_held a c before after none
      (first.0 ++ second.0, taken_then name a b c before middle after first.0 second.0 first.1 second.1)

  pub then_some_all : (a b c : KeptFiles) (Is Other : List (Input F S R P) → Type 0)
      (before middle after : List (Input F S R P)) → before ≡ []
      → ((more : List (Input F S R P)) × TakesInputs name a b before middle more × Is more)
      → ((more : List (Input F S R P)) × TakesInputs name b c middle after more × Other more) → HoldsSome name a c after
  then_some_all a b c Is Other before middle after none first second =
      then_some a b c Is before middle after none first (second.0, second.1)

  -- a place was made besides
  pub place_made : (a c d : KeptFiles) (inputs : List (Input F S R P)) → HoldsSome name a c inputs
      → OnlyMakesPlaces c.places d.places → KeepsLists c d → d.spare ≡ c.spare → HoldsSome name a d inputs
  place_made a c d inputs some made keeps room = record {
    held = each_weaker (IsHeld name c) (IsHeld name d)
        (λ input h. subst (λ o. IsRightTo name o (Some input.right)) (sym (made.files input.number.0)) h) inputs
        some.held;
    more = places_made (input_numbers inputs) a c d some.more made keeps;
    room = room ∙ some.room;
  }

  pub both_taken : (space : Space) (output : FileNumber) (runs : InputRuns) (a b c d : KeptFiles)
      (before middle after : List (Input F S R P)) (long : ℕ) → before ≡ []
      → TakesEntries name (slice_range a.sequence runs.sequence.first runs.sequence.end) a b before middle
      → TakesEntries name (slice_range b.unsequence runs.unsequence.first runs.unsequence.end) b c middle after
      → OnlyMakesPlaces c.places d.places → KeepsLists c d → long ≡ length after
      → ArePlacesMade (output ∷ []) c.places d.places → d.spare ≡ more_room c.spare (compaction_room space long)
      → AreInputsTaken name space output.0 runs a d after
  both_taken space output runs a b c d before middle after long none first second made keeps is_long places room =
      let all = first.0 ++ second.0 in
      let is : all ≡ after = sym (second.1.are ∙ ap (λ l. l ++ second.0) (first.1.are ∙ ap (λ l. l ++ first.0) none)) in
      let taken = taken_then name a b c before middle after first.0 second.0 first.1 second.1 in
      let more = holds_more (input_numbers all) a c taken.rights in
      let numbers = ap (λ l. input_numbers l) is in
      record {
        are = ap (map input_file) (sym is) ∙ map-append input_file first.0 second.0
            ∙ (λ i. first.2 i ++ (second.2 ∙ ap (λ es. map listed
            (slice_range es runs.unsequence.first runs.unsequence.end)) first.1.rights.lists.unsequence) i);
        held = subst (AreHeld name a) is taken.held;
        more = subst (λ l. HoldsMore (input_numbers l) a d) is
            (places_made (input_numbers all) a c d more made keeps);
        place = λ free. places.0 (none_there (more_rights (count output.0 (input_numbers all))) (kept_file output.0 a)
            (kept_file output.0 c) free (more.files output.0));
        room = room ∙ (λ i. more_room ((second.1.rights.room ∙ first.1.rights.room) i)
            (compaction_room space (is_long i)));
      }

pub ok_of_both : {T E A B C : Type 0} (r : Result T E) → (A → B → C) → OnOk r A → OnOk r B → OnOk r C
ok_of_both (Ok x) f a b = f a b
ok_of_both (Err e) f a b = tt

pub when_err : {T E A B : Type 0} (r : Result T E) → (A → B) → OnErr r A → OnErr r B
when_err (Ok x) f a = tt
when_err (Err e) f a = f a

-- rights that are given back leave the files as they were
back_at : (k : ℕ) (o : Option KeptFile) → option_map (fewer_rights k) (option_map (more_rights k) o) ≡ o
back_at k None = refl
back_at k (Some file) = ap (λ n. Some (record file { rights = n })) (back file.rights k)
  where
    back : (r k : ℕ) → r + k - k ≡ r
    back r k = omega arith

pub untouched : {F S R P : Type 0} (name : R → NamedFile) (a c d : KeptFiles) (inputs : List (Input F S R P))
    → HoldsSome name a c inputs → GivesRights (input_numbers inputs) c d → AreFilesUntouched a d
untouched name a c d inputs some given = record {
  files = λ n. kept_changed (λ m. fewer_rights (count m (input_numbers inputs))) c d given n
      ∙ ap (option_map (fewer_rights (count n (input_numbers inputs)))) (some.more.files n)
      ∙ back_at (count n (input_numbers inputs)) (kept_file n a);
  places = λ n is. still_open (fewer_rights (count n (input_numbers inputs))) (place_of_number n c.places)
      (place_of_number n d.places) (some.more.places n is) (given.places n);
  lists = record {
    store = given.lists.store ∙ some.more.lists.store;
    sequence = given.lists.sequence ∙ some.more.lists.sequence;
    unsequence = given.lists.unsequence ∙ some.more.lists.unsequence;
    outgoing = given.lists.outgoing ∙ some.more.lists.outgoing;
  };
  room = given.room ∙ some.room;
}

pub nothing_begun : (a : KeptFiles) → AreFilesUntouched a a
nothing_begun a = record {
  files = λ n. refl;
  places = λ n is. is;
  lists = record { store = refl; sequence = refl; unsequence = refl; outgoing = refl };
  room = refl;
}
