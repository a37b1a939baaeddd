-- A new core is free, and a free core is one of which nothing is out.
use Rattle.std.proofs.Common.{◌≡◌, ℕ, ◌≤◌, Bool, true, false, List, [], ◌∷◌, inl, inr, ap, refl, sym, subst}
use Rattle.std.proofs.lemmas.Bool.{false≢true}
use Rattle.std.specs.List.{AllByRecursion as Each, list_any}
use Rattle.std.specs.Prelude.{◌||◌}
use Rattle.jobs_tests.specs.Free.{IsFree}
use Rattle.tsdb_base.proofs.Lists.{each_among}
use Rattle.tsdb_base.specs.Lists.{Among}
use Rattle.tsdb_core.proofs.Out.{none_out, none_read}
use Rattle.tsdb_core.specs.Core.{IsAboveNumbers, KeepsJobs, files_of, is_sequence_claimed}
use Rattle.tsdb_core.specs.Loans.{IsOwned}
use Rattle.tsdb_core.specs.declared.engine.Core.{Core}
use Rattle.tsdb_frames.proofs.CallLemmas.{first_false, second_false}
use Rattle.tsdb_fileset.specs.Files.{KeptFiles, none_kept}
use Rattle.tsdb_fileset.specs.Places.{AreUnread}
use Rattle.tsdb_outside.specs.Files.{Store}
use Rattle.tsdb_outside.specs.declared.disk.Disk as disk
use Rattle.tsdb_outside.specs.declared.faults.Counted as counted
use Rattle.tsdb_serving.specs.Flushing.{IsReady}

pub none_above : (store : Store) (next : ℕ) → 1 ≤ next → IsAboveNumbers next (none_kept store)
none_above store next some = record { from_one = some; below = λ n. tt }

-- what leads to nothing where it is true is false
not_true : (claimed : Bool) → ¬ (claimed ≡ true) → claimed ≡ false
not_true true not = absurd (not refl)
not_true false not = refl

both_false : (first second : Bool) → first ≡ false → second ≡ false → (first || second) ≡ false
both_false true second none rest = absurd (false≢true (sym none))
both_false false second none rest = rest

module _ {X : Type 0} (test : X → Bool) where
  each_false : (xs : List X) → list_any test xs ≡ false → Each (λ x. test x ≡ false) xs
  each_false [] none = tt
  each_false (x ∷ xs) none = (
    first_false (test x) (list_any test xs) none,
    each_false xs (second_false (test x) (list_any test xs) none),
  )

  none_passes : (xs : List X) → ((x : X) → Among x xs → test x ≡ false) → list_any test xs ≡ false
  none_passes [] all = refl
  none_passes (x ∷ xs) all = both_false (test x) (list_any test xs) (all x (inl refl))
      (none_passes xs (λ y among. all y (inr among)))

module _ {J F S R P : Type 0} {means : disk.Ghosts J} {counts : counted.Ghosts J} where
  pub new_free : (core : Core J F S R P means counts) (store : Store) → KeepsJobs core [] []
      → files_of core ≡ none_kept store → is_sequence_claimed core ≡ false → IsFree store core
  new_free core store keeps none claims = record {
    jobs = keeps;
    unread = subst (λ (files : KeptFiles). AreUnread files.places) (sym none) (λ n. tt);
    sequence = claims;
    late = subst (λ (files : KeptFiles). list_any (λ entry. entry.claimed) files.unsequence ≡ false) (sym none) refl;
    of_store = sym (ap (λ (files : KeptFiles). files.store) none);
  }

  pub free_ready : (store : Store) (core : Core J F S R P means counts) → IsFree store core → IsReady store core
  free_ready store core free = none_out core store free.jobs free.unread
      (record {
        sequence = free.sequence;
        late = each_false _ (files_of core).unsequence free.late;
      }) free.of_store

  pub ready_free : (store : Store) (core : Core J F S R P means counts) → IsReady store core → IsFree store core
  ready_free store core ready = record {
    jobs = ready.loans.jobs;
    unread = none_read core store ready;
    sequence = not_true (is_sequence_claimed core) (λ claimed. ready.loans.inputs.taken claimed tt);
    late = none_passes _ (files_of core).unsequence (λ entry among. not_true entry.claimed
        (λ claimed. (each_among (IsOwned []) (files_of core).unsequence entry ready.loans.inputs.owned among claimed).among));
    of_store = ready.of_store;
  }
