-- Places that go one after another while a sweep walks over the outgoing files.
use Rattle.std.proofs.Common.{◌≡◌, ℕ, suc, ◌+◌, ◌<◌, ◌≤◌, Bool, true, false, cond, not, List, [], ◌∷◌, ◌++◌, length}
use Rattle.std.proofs.Common.{Option, None, refl, sym, ap, subst, ◌∙◌, arith, get_or, take, drop, take-suc}
use Rattle.std.proofs.Common.{length-take-le}
use Rattle.std.specs.Prelude.{◌||◌, ◌&&◌, IfSome}
use Rattle.std.specs.Cmp.{unsigned_Decides}
use Rattle.std.specs.List.{filter, list_any}
use Rattle.std.proofs.lemmas.List.{append-nil, append_assoc, map-append, take-append-drop}
use Rattle.std.proofs.lemmas.List.Folds.{list_any-append}
use Rattle.tsdb_base.specs.declared.ids.FileNumber.{FileNumber}
use Rattle.tsdb_fileset.specs.declared.files.Outgoing.{Outgoing}
use Rattle.tsdb_fileset.specs.Files.{outgoing_numbers}
use Rattle.tsdb_fileset.specs.Places.{AllFiles, KeptFile, Places, TakesAway, file_at, is_one_of, place_of_number}
use Rattle.tsdb_fileset.specs.Sweeps.{AreOnce, StopsSweepAt, free_numbers, has_no_right, is_free, is_that, tried_numbers}
use Rattle.tsdb_fileset.proofs.Counts.{count_fewer, length_fewer, not_there}
use Rattle.tsdb_base.specs.Lists.{count}
use Rattle.tsdb_base.proofs.Lists.{count_append, filter_append}

-- one place goes after others
pub takes_more : (gone : List ℕ) (n : ℕ) (old now new : Places) → TakesAway gone old now → TakesAway (n ∷ []) now new
    → TakesAway (gone ++ n ∷ []) old new
takes_more gone n old now new first next number =
    next number ∙ ap (λ place. cond (is_one_of (n ∷ []) number) None place) (first number)
    ∙ by (is_one_of gone number) (is_one_of (n ∷ []) number)
    ∙ ap (λ b. cond b None (place_of_number number old)) (sym (list_any-append _ gone (n ∷ [])))
  where
    by : (a b : Bool) → cond b None (cond a None (place_of_number number old)) ≡ cond (a || b) None (place_of_number number old)
    by true true = refl
    by true false = refl
    by false true = refl
    by false false = refl

-- what holds of each file holds of those that stay
pub still_all : (P : KeptFile → Type 0) (gone : List ℕ) (old new : Places) → TakesAway gone old new → AllFiles P old
    → AllFiles P new
still_all P gone old new takes all number =
    subst (λ place. IfSome (file_at place) P) (sym (takes number)) (by (is_one_of gone number))
  where
    by : (b : Bool) → IfSome (file_at (cond b None (place_of_number number old))) P
    by true = tt
    by false = all number

-- what the walk over the first files has done
pub record IsSweeping (doubted : List (Option FileNumber)) (old : Places) (files : List Outgoing) (index removed : ℕ)
    (now : Places)
    : Type 0 where
  pub removed_are : removed ≡ length (free_numbers doubted old (take index files))
  pub away : TakesAway (free_numbers doubted old (take index files)) old now

free_more : (doubted : List (Option FileNumber)) (old : Places) (front : List Outgoing) (file : Outgoing) (b : Bool)
    → is_free doubted old file ≡ b
    → free_numbers doubted old (front ++ file ∷ []) ≡ free_numbers doubted old front ++ cond b (file.number.0 ∷ []) []
free_more doubted old front file b is =
    ap outgoing_numbers (filter_append (is_free doubted old) front (file ∷ []))
    ∙ map-append (λ f. f.number.0) (filter (is_free doubted old) front) (filter (is_free doubted old) (file ∷ []))
    ∙ ap (λ l. free_numbers doubted old front ++ l) (ap (λ b. outgoing_numbers (cond b (file ∷ []) [])) is ∙ by b)
  where
    by : (b : Bool) → outgoing_numbers (cond b (file ∷ []) []) ≡ cond b (file.number.0 ∷ []) []
    by true = refl
    by false = refl

-- no more are removed than were looked at
pub few_removed : (doubted : List (Option FileNumber)) (old now : Places) (files : List Outgoing) (index removed : ℕ)
    → index < length files → IsSweeping doubted old files index removed now → removed ≤ index
few_removed doubted old now files index removed lt sweeping =
    let fewer = length_fewer (is_free doubted old) (take index files) in
    let front = length-take-le index files (omega (arith, lt)) in
    omega (arith, sweeping.removed_are, fewer, front)

length_push : (xs : List ℕ) (x : ℕ) → length (xs ++ x ∷ []) ≡ length xs + 1
length_push [] x = refl
length_push (y ∷ xs) x = let rest = length_push xs x in omega (arith, rest)

itself : (n : ℕ) → count n (n ∷ []) ≡ 1
itself n = ap (λ b. cond b 1 0 + 0) ((unsigned_Decides n n).1 refl)

-- a step of the walk
module _ (doubted : List (Option FileNumber)) (old now : Places) (files : List Outgoing) (index removed : ℕ)
    (d : Outgoing) (lt : index < length files) (once : AreOnce files)
    (sweeping : IsSweeping doubted old files index removed now) where
  abbrev file : Outgoing
  file = get_or files index d

  abbrev front : List Outgoing
  front = take index files

  abbrev behind : List Outgoing
  behind = drop (index + 1) files

  first_files : take (index + 1) files ≡ front ++ file ∷ []
  first_files =
      let next : suc index ≡ index + 1 = omega arith in
      ap (λ n. take n files) (sym next) ∙ take-suc files index d lt

  split : files ≡ (front ++ file ∷ []) ++ behind
  split = sym (take-append-drop (index + 1) files) ∙ ap (λ l. l ++ behind) first_files

  still_there : is_one_of (free_numbers doubted old front) file.number.0 ≡ false
  still_there =
      let n = file.number.0 in
      let all = ap (λ l. count n (outgoing_numbers l)) split
      ∙ ap (count n) (map-append (λ f. f.number.0) (front ++ file ∷ []) behind)
      ∙ count_append n (outgoing_numbers (front ++ file ∷ [])) (outgoing_numbers behind) in
      let two = ap (count n) (map-append (λ f. f.number.0) front (file ∷ []))
      ∙ count_append n (outgoing_numbers front) (n ∷ []) in
      not_there n (free_numbers doubted old front)
      (omega (arith, once n, all, two, itself n, count_fewer n (is_free doubted old) front))

  -- the next file is free now where it was
  free_still : is_free doubted old file ≡ is_free doubted now file
  free_still =
      let same : place_of_number file.number.0 now ≡ place_of_number file.number.0 old =
      sweeping.away file.number.0 ∙ ap (λ b. cond b None (place_of_number file.number.0 old)) still_there in
      ap (λ place. has_no_right (file_at place) && not (list_any (is_that file.number.0) doubted)) (sym same)

  pub sweep_passes : is_free doubted now file ≡ false → IsSweeping doubted old files (index + 1) removed now
  sweep_passes free =
      let same : free_numbers doubted old (take (index + 1) files) ≡ free_numbers doubted old front =
      ap (free_numbers doubted old) first_files ∙ free_more doubted old front file false (free_still ∙ free)
      ∙ append-nil (free_numbers doubted old front) in
      record {
        removed_are = sweeping.removed_are ∙ ap length (sym same);
        away = subst (λ gone. TakesAway gone old now) (sym same) sweeping.away;
      }

  module _ (new : Places) (free : is_free doubted now file ≡ true)
      (takes : TakesAway (file.number.0 ∷ []) now new) where
    more : free_numbers doubted old (front ++ file ∷ []) ≡ free_numbers doubted old front ++ file.number.0 ∷ []
    more = free_more doubted old front file true (free_still ∙ free)

    away : TakesAway (free_numbers doubted old (front ++ file ∷ [])) old new
    away = subst (λ gone. TakesAway gone old new) (sym more)
        (takes_more (free_numbers doubted old front) file.number.0 old now new sweeping.away takes)

    pub sweep_more : IsSweeping doubted old files (index + 1) (removed + 1) new
    sweep_more = record {
      removed_are =
          let all = ap (λ l. length (free_numbers doubted old l)) first_files ∙ ap length more
          ∙ length_push (free_numbers doubted old front) file.number.0 in
          omega (arith, sweeping.removed_are, all);
      away = subst (λ l. TakesAway (free_numbers doubted old l) old new) (sym first_files) away;
    }

    pub sweep_stops : (stop : StopsSweepAt doubted old files) × TakesAway (tried_numbers doubted old stop) old new
    sweep_stops = (
      record {
        before = front;
        failed = file;
        behind = behind;
        are = split ∙ append_assoc front (file ∷ []) behind;
        free = free_still ∙ free;
      },
      away,
    )
