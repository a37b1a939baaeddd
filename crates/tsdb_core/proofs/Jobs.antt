-- What a core keeps for jobs, as a flush is taken and as it ends.
use Rattle.std.proofs.Common.{◌≡◌, ℕ, ◌+◌, ◌-◌, ◌<◌, ◌≤◌, zero, suc, List, [], ◌∷◌, ◌++◌, length, map, Option}
use Rattle.std.proofs.Common.{None, Some, inl, inr}
use Rattle.std.proofs.Common.{Bool, true, false, cond, ap, arith, length-append, refl, sym, subst, ◌∙◌}
use Rattle.std.proofs.lemmas.Bool.{eq-eqb}
use Rattle.std.proofs.lemmas.List.Sums.{sum_by-append, sum_by-cons}
use Rattle.std.specs.List.{AllByRecursion as Each, flat_map, range_with_len}
use Rattle.std.specs.Prelude.{◌==◌, IfSome, nat_eq, sum_by}
use Rattle.tsdb_base.specs.declared.ids.FileNumber.{FileNumber}
use Rattle.tsdb_base.specs.declared.ids.Space.TheVariants.{Sequence, Unsequence}
use Rattle.tsdb_tasks.proofs.Coming.{of_each}
use Rattle.tsdb_tasks.specs.Coming.{HaveCome}
use Rattle.tsdb_tasks.specs.Files.{NewFiles, all_of, file_number}
use Rattle.tsdb_core.proofs.Parts.{plain}
use Rattle.tsdb_core.proofs.Seen.{jobs_stay}
use Rattle.tsdb_core.specs.Core.{KeepsJobs, kept_room, next_of}
use Rattle.tsdb_core.specs.Ending.{drawn_for, less_if, numbers_if}
use Rattle.tsdb_core.specs.Flushes.{HasNumbersOf}
use Rattle.tsdb_core.specs.declared.engine.Core.{Core}
use Rattle.tsdb_fileset.specs.FlushJob.{FlushJob}
use Rattle.tsdb_fileset.proofs.Counts.{counted}
use Rattle.tsdb_fileset.specs.Files.{IsOpen, KeptFiles, kept_file}
use Rattle.tsdb_fileset.specs.Places.{ArePlacesMade, KeptFile, OnlyMakesPlaces, file_at, place_of_number}
use Rattle.tsdb_fileset.specs.Room.{flush_room, more_room}
use Rattle.tsdb_fileset.specs.declared.room.Spare.{Spare}
use Rattle.tsdb_base.proofs.Lists.{any_among, count_append, each_among, each_append, each_from_among, each_left}
use Rattle.tsdb_base.proofs.Lists.{each_right, each_weaker}
use Rattle.tsdb_base.proofs.Lists.{each_map, with_one_each}
use Rattle.tsdb_base.specs.Lists.{Among, IsWithOne, count, if_some}
use Rattle.tsdb_memory.specs.LogState.{framed_room}
use Rattle.tsdb_memory.specs.declared.logged_memory.LoggedMemory.{LoggedMemory}
use Rattle.tsdb_outside.specs.declared.disk.Disk as disk
use Rattle.tsdb_outside.specs.declared.faults.Counted as counted_by
use Rattle.tsdb_state.proofs.Counting.{numbers_drawn}
use Rattle.tsdb_state.proofs.Holding.{room_with_flush, room_without_flush}
use Rattle.tsdb_state.proofs.Numbering.{count_drawn, count_with_one}
use Rattle.tsdb_state.specs.Jobs.{KeepsRoom, NumbersInOrder, drawn_by, drawn_numbers, flushed_bytes, replaced_bytes}
use Rattle.tsdb_base.specs.Limits.{end_of_numbers}
use Rattle.tsdb_state.specs.Steps.{room_for_flush as job_room}
use Rattle.tsdb_state.specs.State as state
use Rattle.tsdb_state.specs.State.{Compaction}

-- ---- the numbers of a flush

numbers_plain : (number : Option FileNumber) → if_some (plain number) ≡ numbers_if number
numbers_plain None = refl
numbers_plain (Some number) = refl

pub drawn_is : (job : FlushJob) (flush : state.FlushState) → HasNumbersOf job flush → drawn_by flush ≡ drawn_for job
drawn_is job flush has = (λ i. if_some (has.sequence i) ++ if_some (has.unsequence i))
    ∙ (λ i. numbers_plain job.sequence i ++ numbers_plain job.unsequence i)

pub is_counted : (n : ℕ) (numbers : List ℕ) → Among n numbers → 1 ≤ count n numbers
is_counted n numbers among = counted n numbers (any_among (nat_eq n) numbers n among (eq-eqb n n refl))

same_number : (a n : ℕ) → (a == n) ≡ true → a ≡ n
same_number a n is = grind (arith, is)

-- a number that is counted stands there
pub is_there : (n : ℕ) (numbers : List ℕ) → 1 ≤ count n numbers → Among n numbers
is_there n [] some = absurd (omega (arith, some))
is_there n (m ∷ numbers) some = by (m == n) refl (is_there n numbers) some
  where
    by : (b : Bool) → (m == n) ≡ b → (1 ≤ count n numbers → Among n numbers) → 1 ≤ cond b 1 0 + count n numbers
        → Among n (m ∷ numbers)
    by true is rest some = inl (same_number m n is)
    by false is rest some = inr (rest (omega (arith, some)))

pub one_of : {X : Type 0} (f : X → ℕ) (x : X) (others all : List X) → IsWithOne x others all → f x ≤ sum_by f all
one_of f x others all out = omega (
  arith,
  ap (sum_by f) out.with_it,
  sum_by-append f out.before (x ∷ out.behind),
  sum_by-cons f x out.behind,
)

some_places : (number : Option FileNumber) → length (if_some (plain number)) ≡ length (if_some number)
some_places None = refl
some_places (Some number) = refl

pub range_from : (below a k : ℕ) → below ≤ a → Each (λ n. below ≤ n) (range_with_len a k)
range_from below a zero low = tt
range_from below a (suc k) low = (low, range_from below (a + 1) k (omega (arith, low)))

module _ {J F S R P : Type 0} {means : disk.Ghosts J} {counts : counted_by.Ghosts J} where
  -- ---- a flush that is out

  module _ (core : Core J F S R P means counts) (job : FlushJob) (flush : state.FlushState)
      (others flushes : List state.FlushState) (compactions : List Compaction) (has : HasNumbersOf job flush)
      (out : IsWithOne flush others flushes) (keeps : KeepsJobs core flushes compactions) where
    -- its numbers, and those of the others
    parted : (n : ℕ) → count n (drawn_numbers flushes compactions)
        ≡ count n (drawn_for job) + count n (drawn_numbers others compactions)
    parted n = omega (
      arith,
      count_drawn n flushes compactions,
      count_drawn n others compactions,
      count_with_one drawn_by n flush others flushes out,
      ap (count n) (drawn_is job flush has),
    )

    -- a number that was drawn for the job is among those that are out
    there : (n : ℕ) → Among n (drawn_for job) → Among n (drawn_numbers flushes compactions)
    there n among = is_there n (drawn_numbers flushes compactions) (omega (
      arith,
      parted n,
      is_counted n (drawn_for
          job) among,
    ))

    -- one that was drawn for another job was not drawn for this one
    pub apart : (n : ℕ) → Among n (drawn_numbers others compactions) → Among n (drawn_for job) → ⊥
    apart n other among = omega (
      arith,
      parted n,
      keeps.differ n,
      is_counted n (drawn_for job) among,
      is_counted n (drawn_numbers others compactions) other,
    )

    pub parts_apart : (n : ℕ) → Among n (numbers_if job.sequence) → Among n (numbers_if job.unsequence) → ⊥
    parts_apart n first second = omega (
      arith,
      parted n,
      keeps.differ n,
      count_append n (numbers_if job.sequence) (numbers_if job.unsequence),
      is_counted n (numbers_if job.sequence) first,
      is_counted n (numbers_if job.unsequence) second,
    )

    pub is_open : (n : ℕ) → Among n (drawn_for job) → IsOpen n core.files
    is_open n among = each_among _ (drawn_numbers flushes compactions) n keeps.places (there n among)

    pub in_range : (n : ℕ) → Among n (drawn_for job) → (1 ≤ n) × (n < next_of core)
    in_range n among = each_among _ (drawn_numbers flushes compactions) n keeps.range (there n among)

    -- there are the places that its end needs
    pub places : (length (if_some job.sequence) ≤ core.files.spare.sequence)
        × (length (if_some job.unsequence) ≤ core.files.spare.unsequence)
        × (length (if_some job.sequence) + length (if_some job.unsequence) ≤ core.files.spare.outgoing)
    places = (
      omega (
        arith,
        keeps.room.sequence,
        one_of (λ (f : state.FlushState). length (if_some f.sequence)) flush others flushes out,
        ap (λ (o : Option ℕ). length (if_some o)) has.sequence,
        some_places job.sequence,
      ),
      omega (
        arith,
        keeps.room.unsequence,
        one_of (λ (f : state.FlushState). length (if_some f.unsequence)) flush others flushes out,
        ap (λ (o : Option ℕ). length (if_some o)) has.unsequence,
        some_places job.unsequence,
      ),
      omega (
        arith,
        keeps.room.outgoing,
        one_of (λ (f : state.FlushState). length (drawn_by f)) flush others flushes out,
        ap (λ (o : Option ℕ). length (if_some o)) has.sequence,
        ap (λ (o : Option ℕ). length (if_some o)) has.unsequence,
        length-append (if_some flush.sequence) (if_some flush.unsequence),
        some_places job.sequence,
        some_places job.unsequence,
      ),
    )

    -- once its files have come, the core keeps what it kept for the others
    module _ (files : NewFiles) (kept : KeptFiles) (come : HaveCome (drawn_for job) files core.files kept)
        (drawn : Each (λ file. Among (file_number file) (drawn_for job)) (all_of files))
        (room : kept.spare ≡ less_if Unsequence job.unsequence (less_if Sequence job.sequence core.files.spare))
        (last : ℕ) (low : last ≤ next_of core) where
      less_both : (s u : Option FileNumber) (spare : Spare)
          → (less_if Unsequence u (less_if Sequence s spare)).sequence ≡ spare.sequence - length (if_some s)
          × ((less_if Unsequence u (less_if Sequence s spare)).unsequence ≡ spare.unsequence - length (if_some u))
          × ((less_if Unsequence u (less_if Sequence s spare)).outgoing
          ≡ spare.outgoing - (length (if_some s) + length (if_some u)))
      less_both None None spare = (omega arith, omega arith, omega arith)
      less_both None (Some u) spare = (omega arith, omega arith, omega arith)
      less_both (Some s) None spare = (omega arith, omega arith, omega arith)
      less_both (Some s) (Some u) spare = (omega arith, omega arith, omega arith)

      pub others_kept : KeepsJobs (record core { files = kept; flushed_below = last }) others compactions
      others_kept = record {
        from_one = keeps.from_one;
        below = of_each (drawn_for job) files core.files kept come (λ n file. n < next_of core)
            (λ n never. keeps.below n)
            (each_from_among _ (all_of files) (λ file there. (in_range (file_number file)
            (each_among _ (all_of files) file drawn there)).1));
        flushed = low;
        differ = λ n. omega (arith, parted n, keeps.differ n);
        range = each_from_among _ (drawn_numbers others compactions) (λ n there.
            each_among _ (drawn_numbers flushes compactions) n keeps.range (also n there));
        places = each_from_among _ (drawn_numbers others compactions) (λ n there.
            come.others n (apart n there)
            ∙ each_among _ (drawn_numbers flushes compactions) n keeps.places (also n there));
        room = record {
          sequence = omega (
            arith,
            less.sequence,
            spare.0,
            same.0,
            some_places job.sequence,
            ap (λ (o : Option ℕ). length (if_some o)) has.sequence,
          );
          unsequence = omega (
            arith,
            less.unsequence,
            spare.1,
            same.1,
            some_places job.unsequence,
            ap (λ (o : Option ℕ). length (if_some o)) has.unsequence,
          );
          outgoing = omega (
            arith,
            less.outgoing,
            spare.2,
            same.2,
            some_places job.sequence,
            some_places job.unsequence,
            ap (λ (o : Option ℕ). length (if_some o)) has.sequence,
            ap (λ (o : Option ℕ). length (if_some o)) has.unsequence,
            length-append (if_some flush.sequence) (if_some flush.unsequence),
          );
          flushed = with_one_each _ flush others flushes out keeps.room.flushed;
          replaced = keeps.room.replaced;
        };
      }
        where
          also : (n : ℕ) → Among n (drawn_numbers others compactions) → Among n (drawn_numbers flushes compactions)
          also n other = is_there n (drawn_numbers flushes compactions)
              (omega (arith, parted n, is_counted n (drawn_numbers others compactions) other))

          less : KeepsRoom (job_room (λ a b. a - b) flush (kept_room core)) others compactions
          less = room_without_flush flush others (kept_room core) flushes compactions out keeps.room

          same : (kept.spare.sequence ≡ (less_if Unsequence job.unsequence (less_if Sequence job.sequence
              core.files.spare)).sequence)
              × (kept.spare.unsequence ≡ (less_if Unsequence job.unsequence (less_if Sequence job.sequence
              core.files.spare)).unsequence)
              × (kept.spare.outgoing ≡ (less_if Unsequence job.unsequence (less_if Sequence job.sequence
              core.files.spare)).outgoing)
          same = (
            ap (λ (r : Spare). r.sequence) room,
            ap (λ (r : Spare). r.unsequence) room,
            ap (λ (r : Spare).
                r.outgoing) room,
          )

          spare : (less_if Unsequence job.unsequence (less_if Sequence job.sequence core.files.spare)).sequence
              ≡ core.files.spare.sequence - length (if_some job.sequence)
              × ((less_if Unsequence job.unsequence (less_if Sequence job.sequence core.files.spare)).unsequence
              ≡ core.files.spare.unsequence - length (if_some job.unsequence))
              × ((less_if Unsequence job.unsequence (less_if Sequence job.sequence core.files.spare)).outgoing
              ≡ core.files.spare.outgoing - (length (if_some job.sequence) + length (if_some job.unsequence)))
          spare = less_both job.sequence job.unsequence core.files.spare

  -- ---- a flush that is taken

  module _ (core : Core J F S R P means counts) (job : FlushJob) (flush : state.FlushState)
      (flushes : List state.FlushState) (compactions : List Compaction) (has : HasNumbersOf job flush)
      (keeps : KeepsJobs core flushes compactions) (files : KeptFiles) (k : ℕ)
      (numbers : drawn_for job ≡ range_with_len (next_of core) k) (end : next_of core + k ≤ end_of_numbers)
      (made : OnlyMakesPlaces core.files.places files.places)
      (placed : ArePlacesMade (if_some job.sequence ++ if_some job.unsequence) core.files.places files.places)
      (room : files.spare ≡ more_room core.files.spare (flush_room job.sequence job.unsequence)) where
    abbrev all : List ℕ
    all = drawn_numbers (flush ∷ flushes) compactions

    count_all : (n : ℕ) → count n all
        ≡ count n (drawn_numbers flushes compactions) + count n (range_with_len (next_of core) k)
    count_all n = omega (
      arith,
      count_drawn n (flush ∷ flushes) compactions,
      count_drawn n flushes compactions,
      count_append n (drawn_by flush) (flat_map drawn_by flushes),
      ap (count n) (drawn_is job flush has ∙ numbers),
    )

    -- numbers are in order where no file is
    before : NumbersInOrder [] (next_of core) [] (drawn_numbers flushes compactions)
    before = record {
      from_one = keeps.from_one;
      end = omega (arith, end);
      differ = λ n. omega (arith, keeps.differ n);
      range = λ n some. each_among _ (drawn_numbers flushes compactions) n keeps.range
          (is_there n (drawn_numbers flushes compactions) (omega (arith, some)));
      named_below = λ n some. absurd (omega (arith, some));
      unnamed = λ n some. refl;
    }

    after : NumbersInOrder [] (next_of core + k) [] all
    after = numbers_drawn [] (next_of core) k [] (drawn_numbers flushes compactions) all before end count_all

    below_later : (found : Option KeptFile) (n a b : ℕ) → a ≤ b → IfSome found (λ file. n < a)
        → IfSome found (λ file. n < b)
    below_later None n a b less below = tt
    below_later (Some file) n a b less below = omega (arith, less, below)

    -- no file is kept under a number from the next one on
    none_kept : (n : ℕ) (found : Option KeptFile) → next_of core ≤ n → IfSome found (λ file. n < next_of core) → found
        ≡ None
    none_kept n None from below = refl
    none_kept n (Some file) from below = absurd (omega (arith, from, below))

    new_open : Each (λ n. IsOpen n files) (drawn_for job)
    new_open = each_from_among _ (drawn_for job) (λ n there. opened n there
        (each_among (λ n. next_of core ≤ n) (drawn_for job) n
        (subst (Each (λ n. next_of core ≤ n)) (sym numbers)
        (range_from (next_of core) (next_of core) k (omega arith))) there))
      where
        places_made : Each (λ n. file_at (place_of_number n core.files.places) ≡ None → IsOpen n files) (drawn_for job)
        places_made = each_append _ (numbers_if job.sequence) (numbers_if job.unsequence)
            (each_map _ (λ (n : FileNumber). n.0) (if_some job.sequence)
            (each_left _ (if_some job.sequence) (if_some job.unsequence) placed))
            (each_map _ (λ (n : FileNumber). n.0) (if_some job.unsequence)
            (each_right _ (if_some job.sequence) (if_some job.unsequence) placed))

        opened : (n : ℕ) → Among n (drawn_for job) → next_of core ≤ n → IsOpen n files
        opened n there from = each_among _ (drawn_for job) n places_made there
            (none_kept n (kept_file n core.files) from (keeps.below n))

    pub one_more_kept : (logged : LoggedMemory J means counts) (next : ℕ) → next ≡ next_of core + k
        → framed_room core.logged ≤ framed_room logged → flushed_bytes ≤ framed_room logged
        → KeepsJobs (record core { logged = logged; files = files; next_file = next }) (flush ∷ flushes) compactions
    one_more_kept logged next is more enough = record {
      from_one = omega (arith, keeps.from_one, is);
      below = λ n. below_later (kept_file n files) n (next_of core) next (omega (arith, is))
          (subst (λ found. IfSome found (λ (file : KeptFile). n < next_of core)) (sym (made.files n)) (keeps.below n));
      flushed = omega (arith, keeps.flushed, is);
      differ = λ n. omega (arith, after.differ n);
      range = each_from_among _ all (λ n there. let range = after.range n (omega (arith, is_counted n all there)) in (
        range.0,
        omega (arith, range.1, is),
      ));
      places = each_append _ (drawn_by flush ++ flat_map drawn_by flushes) (map (λ (c : Compaction). c.output)
          compactions)
          (each_append _ (drawn_by flush) (flat_map drawn_by flushes)
          (subst (Each (λ n. IsOpen n files)) (sym (drawn_is job flush has)) new_open)
          (still (flat_map drawn_by flushes)
          (each_left _ (flat_map drawn_by flushes) (map (λ (c : Compaction). c.output) compactions) keeps.places)))
          (still (map (λ (c : Compaction). c.output) compactions)
          (each_right _ (flat_map drawn_by flushes) (map (λ (c : Compaction). c.output) compactions) keeps.places));
      room = record {
        sequence = omega (
          arith,
          more_kept.sequence,
          ap (λ (r : Spare). r.sequence) room,
          some_places job.sequence,
          ap (λ (o : Option ℕ). length (if_some o)) has.sequence,
        );
        unsequence = omega (
          arith,
          more_kept.unsequence,
          ap (λ (r : Spare). r.unsequence) room,
          some_places job.unsequence,
          ap (λ (o : Option ℕ). length (if_some o)) has.unsequence,
        );
        outgoing = omega (
          arith,
          more_kept.outgoing,
          ap (λ (r : Spare). r.outgoing) room,
          some_places job.sequence,
          some_places job.unsequence,
          ap (λ (o : Option ℕ). length (if_some o)) has.sequence,
          ap (λ (o : Option ℕ). length (if_some o)) has.unsequence,
          length-append (if_some flush.sequence) (if_some flush.unsequence),
        );
        flushed = (
          enough,
          each_weaker (λ (f : state.FlushState). flushed_bytes ≤ framed_room core.logged)
              (λ f. flushed_bytes ≤ framed_room logged) (λ f fits. omega (arith, fits, more)) flushes keeps.room.flushed,
        );
        replaced = each_weaker (λ (c : Compaction). replaced_bytes c ≤ framed_room core.logged)
            (λ c. replaced_bytes c ≤ framed_room logged) (λ c fits. omega (arith, fits, more)) compactions
            keeps.room.replaced;
      };
    }
      where
        more_kept : KeepsRoom (job_room (λ a b. a + b) flush (kept_room core)) (flush ∷ flushes) compactions
        more_kept = room_with_flush flush (kept_room core) flushes compactions keeps.room

        still : (numbers : List ℕ) → Each (λ n. IsOpen n core.files) numbers → Each (λ n. IsOpen n files) numbers
        still numbers are = each_weaker (λ n. IsOpen n core.files) (λ n. IsOpen n files) (λ n. made.places n) numbers
            are

  -- where memory was taken and no flush, what is kept stays
  pub same_kept : (core : Core J F S R P means counts) (logged : LoggedMemory J means counts) (files : KeptFiles)
      → framed_room core.logged ≤ framed_room logged → OnlyMakesPlaces core.files.places files.places
      → files.spare ≡ core.files.spare → (flushes : List state.FlushState) (compactions : List Compaction)
      → KeepsJobs core flushes compactions
      → KeepsJobs (record core { logged = logged; files = files }) flushes compactions
  same_kept core logged files more made spare flushes compactions keeps = record {
    from_one = keeps.from_one;
    below = λ n. subst (λ found. IfSome found (λ (file : KeptFile). n < next_of core)) (sym (made.files n))
        (keeps.below n);
    flushed = keeps.flushed;
    differ = keeps.differ;
    range = keeps.range;
    places = each_weaker (λ n. IsOpen n core.files) (λ n. IsOpen n files) (λ n. made.places n)
        (drawn_numbers flushes compactions) keeps.places;
    room = subst (λ (room : Spare). KeepsRoom (record {
      sequence = room.sequence;
      unsequence = room.unsequence;
      outgoing = room.outgoing;
      record_bytes = framed_room logged;
    }) flushes compactions) (sym spare) (jobs_stay core logged more flushes compactions keeps).room;
  }
