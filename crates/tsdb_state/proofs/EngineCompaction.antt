-- Compactions keep an engine in order: one begins, ends without its record, or is committed.
use Rattle.std.proofs.Common.{length-append, ◌≡◌, ℕ, ◌+◌, ◌≤◌, true, cond, List, ◌∷◌, ◌++◌, drop, length, take, inl}
use Rattle.std.proofs.Common.{inr, ⊎_elim, refl, sym, ap, ◌∙◌, subst, arith, []}
use Rattle.std.specs.Prelude.{nat_le}
use Rattle.std.specs.List.{AllByRecursion as Each}
use Rattle.std.proofs.Math.Seq.{drop-append_seam, take-append_seam}
use Rattle.std.proofs.lemmas.Bool.Decides.{nat_tests}
use Rattle.tsdb_base.specs.declared.ids.Space.{Space}
use Rattle.tsdb_base.specs.declared.ids.Space.TheVariants.{Sequence, Unsequence}
use Rattle.tsdb_base.proofs.Lists.{each_among, each_append, each_left, each_right, each_weaker, with_one_apart}
use Rattle.tsdb_base.proofs.Lists.{with_one_each, with_one_is, with_one_pairs}
use Rattle.tsdb_state.specs.Layers.{survivor}
use Rattle.tsdb_base.specs.Lists.{Among, IsRun, IsWithOne, count}
use Rattle.tsdb_state.specs.Marks.{marks_up_to, purge}
use Rattle.tsdb_marks.specs.declared.marks.Mark.{Mark}
use Rattle.tsdb_state.proofs.CommitNumbers.{IsFileOrNone, committed_numbers, count_output}
use Rattle.tsdb_state.proofs.Committing.{committed_in_order, committed_keeps, crossed_is, merged_is}
use Rattle.tsdb_state.proofs.EngineRecords.{jobs_moved, purge_kept}
use Rattle.tsdb_state.proofs.Fresh.{are_new, count_here, doubt_more}
use Rattle.tsdb_state.proofs.Holding.{held_by_job, held_with_job, rights_returned, rights_taken, room_with_compaction}
use Rattle.tsdb_state.proofs.Holding.{room_without_compaction}
use Rattle.tsdb_state.proofs.Numbering.{began_numbers, count_files, count_out, drawn_by_job, ended_numbers}
use Rattle.tsdb_state.proofs.OtherJobs.{apart_turned, inputs_listed, stands_crossed, stands_merged}
use Rattle.tsdb_state.proofs.Runs.{length_numbers}
use Rattle.tsdb_state.specs.Jobs.{AreApart, CompactionsInOrder, Describes, EntriesMatch, HasGap, HasKind, IsFlushOut}
use Rattle.tsdb_state.specs.Jobs.{KeepsItsMarks, Stands, drawn_numbers, held_numbers, job_inputs}
use Rattle.tsdb_state.specs.Order.{DoubtInOrder, IsInOrder, all_files}
use Rattle.tsdb_state.specs.Records.{CanFollow, CanReplace, HasInputs, Replacement, StandAt, after, files_at, inputs_of}
use Rattle.tsdb_state.specs.Records.{names, number_list, numbers_of, purged, replace_in, replaced}
use Rattle.tsdb_state.specs.State.{Compaction, EngineState, KnownFiles, File, StoreState, ToldContents}
use Rattle.tsdb_state.specs.Steps.{Begins, CommitsCompaction, EndsCompaction, IsOutputPlace, began, committed}
use Rattle.tsdb_state.specs.Steps.{compaction_record, ended, file_numbers, output_number, replacement}
use Rattle.tsdb_state.specs.StoreOrder.{StoreInOrder}
use Rattle.tsdb_state.specs.Views.{borns_of, file_layer}
use Rattle.tsdb_state.specs.Worlds.{KeepsWorld}
use Rattle.tsdb_state.proofs.Counting.{is_or_not, rest_some}

-- all marks are up to the newest version
up_to_all : (born : ℕ) (marks : List Mark) → Each (λ (mark : Mark). mark.version.0 ≤ born) marks
    → marks_up_to born marks ≡ marks
up_to_all born [] old = refl
up_to_all born (mark ∷ marks) old =
    ap (λ b. cond b (mark ∷ marks_up_to born marks) (marks_up_to born marks)) (low mark.version.0 born old.0)
    ∙ ap (λ marks. mark ∷ marks) (up_to_all born marks old.1)
  where
    low : (a b : ℕ) → a ≤ b → nat_le a b ≡ true
    low a b h = grind (arith, nat_tests)

-- what is among a list is counted there

among_counted : (file : File) (files : List File) → Among file files → 1 ≤ count file.number (numbers_of files)
among_counted file [] among = absurd among
among_counted file (first ∷ files) (inl is) = subst (λ (f : File). 1 ≤ count f.number (numbers_of (first ∷ files))) is
    (omega (arith, count_here first.number (numbers_of files)))
among_counted file (first ∷ files) (inr among) = omega (arith, among_counted file files among)

all_counted : (inputs files : List File) (n : ℕ) → Each (λ file. Among file files) inputs
    → 1 ≤ count n (numbers_of inputs) → 1 ≤ count n (numbers_of files)
all_counted [] files n all h = absurd (omega arith)
all_counted (file ∷ inputs) files n all h = is_or_not file.number n
    (λ e. subst (λ m. 1 ≤ count m (numbers_of files)) e (among_counted _ _ all.0))
    (λ e. all_counted inputs files n all.1 (rest_some _ _ e h))

-- a record's numbers
number_list_is : (files : List File) → number_list (file_numbers files) ≡ numbers_of files
number_list_is [] = refl
number_list_is (file ∷ files) = ap (λ numbers. file.number ∷ numbers) (number_list_is files)

-- where files stand, from the place on
files_at_is : (before run behind all : List File) (place : ℕ) → all ≡ before ++ (run ++ behind) → place ≡ length before
    → files_at place (numbers_of run) all ≡ run
files_at_is before run behind all place is at =
    (λ i. take (length_numbers run i) (drop (at i) (is i)))
    ∙ ap (take (length run)) (drop-append_seam before _)
    ∙ take-append_seam _ behind

stand_at : (before run behind all : List File) (place : ℕ) → all ≡ before ++ (run ++ behind) → place ≡ length before
    → StandAt place (numbers_of run) all
stand_at before run behind all place is at = record {
  within = omega (
    arith,
    at,
    length_numbers run,
    ap length is,
    length-append before (run ++ behind),
    length-append run behind,
  );
  are = ap numbers_of (files_at_is _ _ _ _ _ is at);
}

module _ (told : ToldContents) (known : KnownFiles) (named : List ℕ) (state : EngineState)
    (order : IsInOrder told known named state) where
  abbrev old : StoreState
  old = state.store

  listed_born : (file : File) → Among file (old.sequence ++ old.unsequence) → file.born ≤ old.stamp
  listed_born file among =
      each_among _ _ _ (each_append _ _ _ order.store.stamps.sequence_born order.store.stamps.unsequence_born) among

  pub begin_step : (job : Compaction) → Begins told job state → IsInOrder told known named (began job state)
  begin_step job begins =
      let listed = inputs_listed told old.sequence old.unsequence job job.space begins.kind begins.stand in
      let marked : KeepsItsMarks told old.stamp old.marks job = record {
        reached = omega (arith, begins.born);
        older = each_weaker _ _ (λ file among. subst (λ n. file.born ≤ n) (sym begins.born) (listed_born file among)) _
            listed;
        same = λ place. subst (λ marks. Each (λ (file : File). survivor job.marks place (file_layer told file) ≡
            survivor marks place (file_layer told file)) (job_inputs job))
            (sym (ap (λ n. marks_up_to n old.marks) begins.born ∙ up_to_all old.stamp old.marks
            order.store.stamps.versions)) (begins.marks place);
      } in
      let compactions : CompactionsInOrder told old.stamp old.marks old.sequence old.unsequence
      (job ∷ state.compactions) = record {
        kinds = (begins.kind, order.compactions.kinds);
        stand = (begins.stand, order.compactions.stand);
        apart = (begins.apart, order.compactions.apart);
        marked = (marked, order.compactions.marked);
      } in
      let numbers = began_numbers told named job state begins order.numbers in
      let rights = rights_taken state.rights (all_files state) _ (numbers_of (job_inputs job))
      (held_numbers (job ∷ state.compactions) state.pins) order.rights
      (λ n. held_with_job n job state.compactions state.pins) (λ n h. omega (
        arith,
        count_files n (old.sequence ++ old.unsequence) state.outgoing,
        all_counted (job_inputs job) (old.sequence ++ old.unsequence) n listed h,
      )) in
      let room = room_with_compaction job state.room state.flushes state.compactions order.room in
      search

  -- the jobs without one
  others_in_order : (job : Compaction) (others : List Compaction) → IsWithOne job others state.compactions
      → CompactionsInOrder told old.stamp old.marks old.sequence old.unsequence others
  others_in_order job others out = record {
    kinds = with_one_each _ _ _ _ out order.compactions.kinds;
    stand = with_one_each _ _ _ _ out order.compactions.stand;
    apart = with_one_pairs _ _ _ _ out order.compactions.apart;
    marked = with_one_each _ _ _ _ out order.compactions.marked;
  }

  more_files : (built : List File) (n : ℕ) → count n (numbers_of (all_files state))
      ≤ count n (numbers_of ((old.sequence ++ old.unsequence) ++ (state.outgoing ++ built)))
  more_files built n = omega (arith, count_out n (old.sequence ++ old.unsequence) state.outgoing built)

  pub end_step : (job : Compaction) (others : List Compaction) (built : List File)
      → EndsCompaction job others built state → IsInOrder told known named (ended job others built state)
  end_step job others built ends =
      let compactions = others_in_order job others ends.out in
      let numbers = ended_numbers named job others built state ends order.numbers in
      let rights = rights_returned state.rights (all_files state) (all_files (ended job others built state)) _
      (numbers_of (job_inputs job)) (held_numbers others state.pins) order.rights
      (λ n. held_by_job n job others state.compactions state.pins ends.out) (more_files built) in
      let room = room_without_compaction job others state.room state.flushes state.compactions ends.out order.room in
      let doubt = doubt_more told named old state.outgoing built state.doubt order.doubt in
      search

  module _ (job : Compaction) (others : List Compaction) (output : List File) (place : ℕ)
      (commits : CommitsCompaction told known job others output place state) where
    kind : HasKind job.space job
    kind = with_one_is _ _ _ _ commits.out order.compactions.kinds

    stands : Stands job.space told old.sequence old.unsequence job
    stands = with_one_is _ _ _ _ commits.out order.compactions.stand

    marked : KeepsItsMarks told old.stamp old.marks job
    marked = with_one_is _ _ _ _ commits.out order.compactions.marked

    apart : Each (AreApart job) others
    apart = with_one_apart _ apart_turned _ _ _ commits.out order.compactions.apart

    pub file : IsFileOrNone job output
    file = ⊎_elim (λ none. inl none) (λ there. inr there.0) commits.file

    drawn : (n : ℕ) → count n (job.output ∷ []) ≤ count n (drawn_numbers state.flushes state.compactions)
    drawn n = omega (arith, drawn_by_job n job others state.compactions state.flushes commits.out)

    some : 1 ≤ job.output
    some = (order.numbers.range job.output (omega (arith, drawn job.output, count_here job.output []))).0

    abbrev item : Replacement
    item = replacement job output place

    -- the record says this replacement
    logged : (P : Replacement → Type 0) → P item → P (record {
      born = job.born;
      space = job.space;
      place = place;
      output = output_number output;
      sequence = number_list (file_numbers job.sequence);
      unsequence = number_list (file_numbers job.unsequence);
    })
    logged P = subst P (λ i. record {
      born = job.born;
      space = job.space;
      place = place;
      output = output_number output;
      sequence = sym (number_list_is job.sequence) i;
      unsequence = sym (number_list_is job.unsequence) i;
    })

    pub commit_in_order : StoreInOrder told (after (compaction_record job output place) old)
    commit_in_order = logged (λ item. StoreInOrder told (replaced item old))
        (committed_in_order _ _ _ _ _ order.store marked commits.gives some file kind stands commits.stands)

    pub commit_keeps : KeepsWorld told old (after (compaction_record job output place) old)
    commit_keeps = logged (λ item. KeepsWorld told old (replaced item old))
        (committed_keeps _ _ _ _ _ order.store marked commits.gives some file kind stands commits.stands)

    abbrev Is : File → Type 0
    Is file = Describes (known file.number) (told file.number)

    described : Each Is output
    described = ⊎_elim (λ none. subst (Each Is) (sym none) tt) (λ there. subst (Each Is) (sym there.0) (there.1, tt))
        commits.file

    others_now : CompactionsInOrder told old.stamp old.marks old.sequence old.unsequence others
    others_now = others_in_order _ _ commits.out

    -- what a store after the commit has
    record IsGood (store : StoreState) : Type 0 where
      jobs : CompactionsInOrder told store.stamp store.marks store.sequence store.unsequence others
      entries : EntriesMatch told known (store.sequence ++ store.unsequence)
      lists : (n : ℕ)
          → count n (numbers_of (store.sequence ++ store.unsequence)) + count n (numbers_of (job_inputs job))
          ≡ count n (numbers_of (old.sequence ++ old.unsequence)) + count n (numbers_of output)
      flushes : Each (IsFlushOut store.stamp store.frozen store.working) state.flushes

    -- the other jobs, where they stand in the new lists
    jobs_in : (sequence unsequence : List File)
        → ((other : Compaction) → AreApart job other → HasKind other.space other
        → Stands other.space told old.sequence old.unsequence other → Stands other.space told sequence unsequence other)
        → CompactionsInOrder told old.stamp
        (purge (borns_of (record old { sequence = sequence; unsequence = unsequence })) old.marks) sequence unsequence
        others
    jobs_in sequence unsequence change = jobs_moved _ apart (λ other apart kind stands marked.
        let new = change other apart kind stands in
        (new, purge_kept _ _ _ (record old { sequence = sequence; unsequence = unsequence }) _ kind new marked))
        others_now

    middle : (P : File → Type 0) (before run behind : List File) → Each P (before ++ (run ++ behind)) → Each P output
        → Each P (before ++ (output ++ behind))
    middle P before run behind all new =
        each_append _ _ _ (each_left _ _ _ all) (each_append _ _ _ new (each_right _ run _ (each_right _ before _ all)))

    old_sequence : Each Is old.sequence
    old_sequence = each_left _ _ _ order.entries

    old_unsequence : Each Is old.unsequence
    old_unsequence = each_right _ _ _ order.entries

    of_list : (n : ℕ) (a b : List File) → a ≡ b → count n (numbers_of a) ≡ count n (numbers_of b)
    of_list n a b e = ap (λ files. count n (numbers_of files)) e

    crossed_good : job.space ≡ Sequence → (gap : HasGap told old.sequence old.unsequence job)
        → IsGood (purged (record old {
          sequence = gap.run.before ++ (output ++ gap.run.behind);
          unsequence = gap.later;
        }))
    crossed_good here gap = record {
      jobs = jobs_in _ _ (λ other. stands_crossed _ _ _ _ _ _ _ _ gap.first here refl);
      entries = each_append _ _ _ (middle Is gap.run.before job.sequence gap.run.behind
          (subst (Each Is) gap.run.is old_sequence) described)
          (each_right _ _ _ (subst (Each Is) gap.first old_unsequence));
      lists = λ n. omega (arith, count_files, of_list n _ _ gap.run.is, of_list n _ _ gap.first);
      flushes = order.flushes;
    }

    merged_good : (two : 2 ≤ length job.unsequence) → job.sequence ≡ [] → (run : IsRun job.unsequence old.unsequence)
        → IsGood (purged (record old { unsequence = run.before ++ (output ++ run.behind) }))
    merged_good two none run = record {
      jobs = jobs_in _ _ (λ other. stands_merged _ _ _ _ _ _ _ _ _ run.is two);
      entries = each_append _ _ _ old_sequence (middle Is run.before job.unsequence run.behind
          (subst (Each Is) run.is old_unsequence) described);
      lists = λ n. omega (arith, count_files, of_list n _ _ none, of_list n _ _ run.is);
      flushes = order.flushes;
    }

    by_space : (space : Space) → job.space ≡ space → HasKind space job
        → Stands space told old.sequence old.unsequence job
        → IsOutputPlace space job old place → IsGood (purged (replace_in space item old))
    by_space Sequence here of_kind gap at = subst (λ store. IsGood (purged store))
        (sym (crossed_is _ _ _ _ _ order.store marked commits.gives some file gap at)) (crossed_good here gap)
    by_space Unsequence here of_kind run at =
        subst (λ store. IsGood (purged store)) (sym (merged_is _ _ _ _ _ order.store marked commits.gives some file at.0
        at.1)) (merged_good of_kind.1 of_kind.0 at.0)

    good : IsGood (after (compaction_record job output place) old)
    good = logged (λ item. IsGood (replaced item old)) (by_space _ refl kind stands commits.stands)

    abbrev after_commit : StoreState
    after_commit = after (compaction_record job output place) old

    pub commit_step : IsInOrder told known (names (compaction_record job output place) ++ named)
        (committed job others output place state)
    commit_step = record {
      store = commit_in_order;
      flushes = good.flushes;
      compactions = good.jobs;
      numbers = committed_numbers named job others output place state commits.out file good.lists order.numbers;
      entries = good.entries;
      rights = rights_returned state.rights (all_files state) (all_files (committed job others output place state))
          (held_numbers state.compactions state.pins) (numbers_of (job_inputs job)) (held_numbers others state.pins)
          order.rights (λ n. held_by_job n job others state.compactions state.pins commits.out) files_more;
      room = room_without_compaction job others state.room state.flushes state.compactions commits.out order.room;
      doubt = tt;
    }
      where
        files_more : (n : ℕ) → count n (numbers_of (all_files state))
            ≤ count n (numbers_of (all_files (committed job others output place state)))
        files_more n = omega (
          arith,
          good.lists n,
          count_files n (old.sequence ++ old.unsequence) state.outgoing,
          count_out n (after_commit.sequence ++ after_commit.unsequence) state.outgoing (job_inputs job),
          count_files n (after_commit.sequence ++ after_commit.unsequence) state.outgoing,
        )

    -- the record can follow

    has_inputs : (space : Space) → HasKind space job → Stands space told old.sequence old.unsequence job
        → IsOutputPlace space job old place → HasInputs space item old
    has_inputs Sequence of_kind gap at = (
      ⊎_elim (λ k. inl (ap numbers_of k.0, subst (λ n. 2 ≤ n) (sym (length_numbers _)) k.1))
          (λ k. inr (subst (λ n. 1 ≤ n) (sym (length_numbers _)) k)) of_kind,
      stand_at _ _ _ _ _ gap.run.is (at ∙ sym gap.place),
      stand_at [] _ gap.later _ 0 gap.first refl,
    )
    has_inputs Unsequence of_kind run at = (
      ap numbers_of of_kind.0,
      subst (λ n. 2 ≤ n) (sym (length_numbers _)) of_kind.1,
      stand_at _ _ _ _ _ at.0.is at.1,
    )

    inputs_are : (space : Space) → HasKind space job → Stands space told old.sequence old.unsequence job
        → IsOutputPlace space job old place → inputs_of space item old ≡ job_inputs job
    inputs_are Sequence of_kind gap at = λ i. files_at_is _ job.sequence gap.run.behind _ _ gap.run.is
        (at ∙ sym gap.place) i ++ files_at_is [] job.unsequence gap.later _ 0 gap.first refl i
    inputs_are Unsequence of_kind run at =
        files_at_is _ _ _ _ _ at.0.is at.1
        ∙ ap (λ files. files ++ job.unsequence) (sym of_kind.0)

    pub commit_can : CanFollow named (compaction_record job output place) old
    commit_can = logged (λ item. CanReplace named item old) (record {
      inputs = has_inputs _ kind stands commits.stands;
      older =
          subst (Each (λ (f : File). f.born ≤ job.born)) (sym (inputs_are _ kind stands commits.stands)) marked.older;
      reached = marked.reached;
      fresh = are_new _ _ _ _ _ order.numbers (λ n. omega (arith, (count_output n job output file).0, drawn n));
    })

    -- the record in doubt, where its output is on its way out
    pub commit_doubt : (outgoing : List File)
        → Each (λ number. Among number (numbers_of outgoing)) (names (compaction_record job output place))
        → DoubtInOrder told named old outgoing (compaction_record job output place)
    commit_doubt outgoing kept = record { can = commit_can; order = commit_in_order; world = commit_keeps; kept = kept }
