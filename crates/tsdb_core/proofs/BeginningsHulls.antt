-- The hulls that are kept of listed files are in order in each state that a core shows.
use Rattle.std.proofs.Common.{◌≡◌, ℕ, List, [], ◌∷◌, ◌++◌, Option, None, Some, subst}
use Rattle.std.proofs.lemmas.List.Elements.{All-cons, All-nil}
use Rattle.std.specs.List.{All, AllByRecursion as Each}
use Rattle.std.specs.Prelude.{IfSome, IsSome}
use Rattle.tsdb_base.specs.declared.ids.Space.{Space}
use Rattle.tsdb_base.specs.declared.ids.Space.TheVariants.{Sequence, Unsequence}
use Rattle.tsdb_tasks.proofs.InState.{IsKnown, kept_among}
use Rattle.tsdb_core.specs.Beginnings.{HaveHulls}
use Rattle.tsdb_core.specs.Core.{IsSeen}
use Rattle.tsdb_core.specs.declared.engine.Core.{Core}
use Rattle.tsdb_fileset.specs.StateOfFiles.{AreFilesOf, entry_of, listed}
use Rattle.tsdb_fileset.specs.Files.{AreKept, KeptFiles, entries_in, kept_file}
use Rattle.tsdb_fileset.specs.Places.{KeptFile}
use Rattle.tsdb_base.proofs.Lists.{among_left, among_map, among_right, each_among, each_from_among}
use Rattle.tsdb_base.specs.Lists.{Among}
use Rattle.tsdb_memory.specs.LogState.{Outside}
use Rattle.tsdb_outside.specs.declared.disk.Disk as disk
use Rattle.tsdb_outside.specs.declared.faults.Counted as counted
use Rattle.tsdb_plan.specs.Files.{AreHullsRising, HaveRisingHulls}
use Rattle.tsdb_plan.specs.declared.entry.FileEntry.{FileEntry}
use Rattle.tsdb_state.specs.Jobs.{Describes}
use Rattle.tsdb_state.specs.Order.{IsInOrder}
use Rattle.tsdb_state.specs.State.{EngineState, KnownFiles, KnownFile, File, ToldContents}

all_of : {X : Type 0} (P : X → Type 0) (xs : List X) → Each P xs → All P xs
all_of P [] each = All-nil P
all_of P (x ∷ xs) each = All-cons P x xs each.0 (all_of P xs each.1)

module _ (told : ToldContents) (known : KnownFiles) (named : List ℕ) (engine : EngineState) (files : KeptFiles)
    (order : IsInOrder told known named engine) (are : AreFilesOf files known engine) (kept : AreKept files) where
  known_in : (space : Space) → Each (IsKnown known files) (entries_in space files)
  known_in Sequence = are.entries_in_sequence
  known_in Unsequence = are.entries_in_unsequence

  in_state : (space : Space) (entry : FileEntry) → Among entry (entries_in space files)
      → Among (listed entry) (engine.store.sequence ++ engine.store.unsequence)
  in_state Sequence entry among = among_left engine.store.sequence engine.store.unsequence (listed entry)
      (subst (Among (listed entry)) are.sequence (among_map listed files.sequence entry among))
  in_state Unsequence entry among = among_right engine.store.sequence engine.store.unsequence (listed entry)
      (subst (Among (listed entry)) are.unsequence (among_map listed files.unsequence entry among))

  one_rises : (space : Space) (entry : FileEntry) → Among entry (entries_in space files) → AreHullsRising entry.hulls
  one_rises space entry among = by (kept_file entry.number.0 files) (kept_among space files kept entry among)
      (each_among (IsKnown known files) (entries_in space files) entry (known_in space) among)
    where
      rises : AreHullsRising (known entry.number.0).hulls
      rises = (each_among (λ (f : File). Describes (known f.number) (told f.number))
          (engine.store.sequence ++ engine.store.unsequence) (listed entry) order.entries
          (in_state space entry among)).rising

      by : (o : Option KeptFile) → IsSome o → IfSome o (λ file. known entry.number.0 ≡ entry_of entry file.series)
          → AreHullsRising entry.hulls
      by None some is = absurd cc
      by (Some file) some is = subst (λ (e : KnownFile). AreHullsRising e.hulls) is rises

  rise : (space : Space) → HaveRisingHulls (entries_in space files)
  rise space = all_of (λ entry. AreHullsRising entry.hulls) (entries_in space files)
      (each_from_among (λ entry. AreHullsRising entry.hulls) (entries_in space files) (one_rises space))

module _ {J F S R P : Type 0} {means : disk.Ghosts J} {counts : counted.Ghosts J} where
  pub hulls_in_order : (core : Core J F S R P means counts) → AreKept core.files → (outside : Outside)
      (engine : EngineState) → IsSeen core outside engine → HaveHulls core
  hulls_in_order core kept outside engine seen =
      let stored = seen.sound.stored in
      let of = rise outside.told outside.known stored.named engine core.files stored.order seen.files kept in
      record { sequence = λ may. of Sequence; unsequence = λ may. of Unsequence }
