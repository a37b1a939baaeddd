-- The other jobs that are out, where marks change, files join their lists, and files are replaced.
use Rattle.std.proofs.Common.{◌≡◌, ℕ, suc, ◌+◌, ◌≤◌, Bool, true, false, cond, List, [], ◌∷◌, ◌++◌, append_assoc}
use Rattle.std.proofs.Common.{length}
use Rattle.std.proofs.Common.{⊎_elim, refl, sym, ap, ◌∙◌, subst, arith}
use Rattle.std.specs.Prelude.{int_lt, nat_le}
use Rattle.std.specs.List.{AllByRecursion as Each}
use Rattle.std.proofs.lemmas.Bool.Decides.{nat_tests}
use mathlib.Core.List.{append-nil, map-append}
use Rattle.tsdb_base.specs.declared.ids.Space.{Space}
use Rattle.tsdb_base.specs.declared.ids.Space.TheVariants.{Sequence, Unsequence}
use Rattle.tsdb_base.specs.declared.point.Range.{Range}
use Rattle.tsdb_state.proofs.LayerLemmas.JobMarks.{survivor_purged_up_to}
use Rattle.tsdb_base.proofs.Lists.{among_left, among_map, among_right, each_append, each_both, each_from_among}
use Rattle.tsdb_base.proofs.Lists.{ends_before, filter_append, first_apart, runs_apart}
use Rattle.tsdb_state.proofs.LayerLemmas.Rising.{IsPartOf, before_each, before_part, part_itself, part_left}
use Rattle.tsdb_base.specs.Lists.{Among, IsRun}
use Rattle.tsdb_state.specs.Marks.{marks_up_to, purge}
use Rattle.tsdb_state.specs.LayerOrder.{IsBeforeInTime}
use Rattle.tsdb_marks.specs.declared.marks.Mark.{Mark}
use Rattle.tsdb_state.proofs.Cutting.{mark_of}
use Rattle.tsdb_state.specs.Jobs.{AreApart, HasKind, KeepsItsMarks, Stands, job_inputs}
use Rattle.tsdb_state.specs.Records.{add_mark}
use Rattle.tsdb_state.specs.State.{Compaction, File, StoreState, ToldContents}
use Rattle.tsdb_state.specs.Views.{borns_of, file_layers}

-- inputs of a job are listed

run_listed : (run all : List File) → IsRun run all → (file : File) → Among file run → Among file all
run_listed run all is file among = subst (Among file) (sym is.is) (among_right _ _ _ (among_left _ _ _ among))

pub inputs_listed : (told : ToldContents) (sequence unsequence : List File) (job : Compaction) (space : Space)
    → HasKind space job → Stands space told sequence unsequence job
    → Each (λ file. Among file (sequence ++ unsequence)) (job_inputs job)
inputs_listed told sequence unsequence job Sequence kind gap =
    each_append _ _ _ (each_from_among _ _ (λ file among. among_left _ _ _ (run_listed _ _ gap.run _ among)))
    (each_from_among _ _ (λ file among. among_right _ _ _ (subst (Among file) (sym gap.first)
    (among_left _ _ _ among))))
inputs_listed told sequence unsequence job Unsequence kind run =
    subst (λ files. Each (λ file. Among file (sequence ++ unsequence)) (files ++ job.unsequence)) (sym kind.0)
    (each_from_among _ _ (λ file among. among_right _ _ _ (run_listed _ _ run _ among)))

pub born_listed : (state : StoreState) (file : File) → Among file (state.sequence ++ state.unsequence)
    → Among file.born (borns_of state)
born_listed state file among = among_left _ _ _ (among_map _ _ _ among)

-- a purge keeps the marks of a job whose inputs are among what it looks at
pub marked_purge : (told : ToldContents) (stamp : ℕ) (marks : List Mark) (borns : List ℕ) (job : Compaction)
    → KeepsItsMarks told stamp marks job → Each (λ file. Among file.born borns) (job_inputs job)
    → KeepsItsMarks told stamp (purge borns marks) job
marked_purge told stamp marks borns job marked listed = record {
  reached = marked.reached;
  older = marked.older;
  same = λ place. each_both _ _ _ (λ file is among. is ∙ sym (survivor_purged_up_to _ _ _ _ _ among)) _
      (marked.same place) listed;
}

too_new : (born stamp : ℕ) → born ≤ stamp → nat_le (stamp + 1) born ≡ false
too_new born stamp h = grind (arith, nat_tests)

-- a raised stamp
pub marked_up : (told : ToldContents) (stamp : ℕ) (marks : List Mark) (job : Compaction) → KeepsItsMarks told stamp marks job
    → KeepsItsMarks told (stamp + 1) marks job
marked_up told stamp marks job marked =
    record { reached = omega (arith, marked.reached); older = marked.older; same = marked.same }

-- a mark that joins is newer than the job
pub marked_delete : (told : ToldContents) (stamp : ℕ) (marks : List Mark) (path : List ℕ) (range : Range) (job : Compaction)
    → KeepsItsMarks told stamp marks job
    → KeepsItsMarks told (stamp + 1) (add_mark path range (stamp + 1) marks) job
marked_delete told stamp marks path range job marked = record {
  reached = omega (arith, marked.reached);
  older = marked.older;
  same = λ place. rw (kept_are (int_lt range.to range.from)) (marked.same place);
}
  where
    kept_are : (b : Bool) → marks_up_to job.born (cond b marks (marks ++ mark_of path range (stamp + 1) ∷ []))
        ≡ marks_up_to job.born marks
    kept_are true = refl
    kept_are false =
        filter_append (λ (mark : Mark). nat_le mark.version.0 job.born) marks (mark_of path range (stamp + 1) ∷ [])
        ∙ ap (λ b. marks_up_to job.born marks ++ cond b (mark_of path range (stamp + 1) ∷ []) [])
        (too_new job.born stamp marked.reached)
        ∙ append-nil (marks_up_to job.born marks)

-- files that join the ends of the lists

abbrev run_more : (run all more : List File) → IsRun run all → IsRun run (all ++ more)
run_more run all more is = record { before = is.before; behind = is.behind ++ more; is = rw is.is (simp append_assoc) }

pub stands_more : (told : ToldContents) (sequence unsequence more_sequence more_unsequence : List File) (job : Compaction)
    (space : Space)
    → IsBeforeInTime (file_layers told unsequence) (file_layers told more_sequence)
    → Stands space told sequence unsequence job
    → Stands space told (sequence ++ more_sequence) (unsequence ++ more_unsequence) job
stands_more told sequence unsequence more_sequence more_unsequence job Sequence late gap = record {
  run = run_more _ _ more_sequence gap.run;
  place = gap.place;
  later = gap.later ++ more_unsequence;
  first = rw gap.first (simp append_assoc);
  below = gap.below;
  above = rw map-append (before_each _ _ _ gap.above (before_part _ _ _ _ first_part (part_itself _) late));
}
  where
    first_part : IsPartOf (file_layers told job.unsequence) (file_layers told unsequence)
    first_part = rw (gap.first, map-append) (part_left _ _)
stands_more told sequence unsequence more_sequence more_unsequence job Unsequence late run =
    run_more _ _ more_unsequence run

-- files that are replaced

pub apart_turned : (job other : Compaction) → AreApart job other → AreApart other job
apart_turned job other apart = record { one = λ a b. apart.one b a; late = λ file a b. apart.late file b a }

record IsSome (files : List File) : Type 0 where
  first : File
  others : List File
  are : files ≡ first ∷ others

some_files : (files : List File) (n : ℕ) → suc n ≤ length files → IsSome files
some_files [] n h = absurd (omega arith)
some_files (file ∷ files) n h = record { first = file; others = files; are = refl }

-- a sequence output: another job is of late files alone, which stand behind the first ones
pub stands_crossed : (told : ToldContents) (sequence new_sequence unsequence later : List File) (job other : Compaction)
    (space : Space)
    → unsequence ≡ job.unsequence ++ later → job.space ≡ Sequence → other.space ≡ space → AreApart job other
    → HasKind space other → Stands space told sequence unsequence other
    → Stands space told new_sequence later other
stands_crossed told sequence new_sequence unsequence later job other Sequence is here there apart kind stands =
    absurd (apart.one here there)
stands_crossed told sequence new_sequence unsequence later job other Unsequence is here there apart kind run =
    let some = some_files other.unsequence 1 kind.1 in
    subst (λ files. IsRun files later) (sym some.are) (first_apart job.unsequence later run.before some.others
    run.behind some.first (λ file a b. apart.late file a (subst (Among file) (sym some.are) b))
    (sym is ∙ run.is ∙ ap (λ files. run.before ++ (files ++ run.behind)) some.are))

-- a late output: another job's late files stand before the run or behind it
pub stands_merged : (told : ToldContents) (sequence unsequence before behind output : List File) (job other : Compaction)
    (space : Space)
    → unsequence ≡ before ++ (job.unsequence ++ behind) → 2 ≤ length job.unsequence → AreApart job other
    → HasKind space other → Stands space told sequence unsequence other
    → Stands space told sequence (before ++ (output ++ behind)) other
stands_merged told sequence unsequence before behind output job other Sequence is two apart kind gap =
    let some = some_files job.unsequence 1 two in
    let ends = ends_before other.unsequence gap.later before some.first some.others behind
    (λ file a b. apart.late file (subst (Among file) (sym some.are) b) a)
    (sym gap.first ∙ is ∙ ap (λ files. before ++ (files ++ behind)) some.are) in
    record {
      run = gap.run;
      place = gap.place;
      later = ends.0 ++ (output ++ behind);
      first =
          ap (λ files. files ++ (output ++ behind)) ends.1
          ∙ append_assoc other.unsequence ends.0 (output ++ behind);
      below = gap.below;
      above = gap.above;
    }
stands_merged told sequence unsequence before behind output job other Unsequence is two apart kind run =
    let some = some_files job.unsequence 1 two in
    let mine = some_files other.unsequence 1 kind.1 in
    subst (λ files. IsRun files (before ++ (output ++ behind))) (sym mine.are)
    (⊎_elim (run_more _ before (output ++ behind)) (λ (h : IsRun (mine.first ∷ mine.others) behind). record {
      before = before ++ (output ++ h.before);
      behind = h.behind;
      is = ap (λ files. before ++ (output ++ files)) h.is ∙ simp append_assoc;
    })
    (runs_apart some.first some.others mine.first mine.others before behind run.before run.behind
    (λ file a b. apart.late file (subst (Among file) (sym some.are) a) (subst (Among file) (sym mine.are) b))
    (ap (λ files. before ++ (files ++ behind)) (sym some.are) ∙ sym is ∙ run.is
    ∙ ap (λ files. run.before ++ (files ++ run.behind)) mine.are)))
