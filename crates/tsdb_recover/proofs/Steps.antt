-- One part of taking up behind another.
use Rattle.std.proofs.Common.{◌≡◌, ◌∙◌, ◌+◌, ◌-◌, ◌<◌, ◌≤◌, List, length, map, Option, ap, arith}
use Rattle.std.proofs.Common.{length-append}
use Rattle.std.proofs.lemmas.List.{length-map}
use Rattle.tsdb_recover.specs.Adopting.{AreFirst, AreFirstOf, IsAdoptingOf, adopting_files, opening_of}
use Rattle.tsdb_recover.specs.declared.adopting.Adopting.{Adopting}
use Rattle.tsdb_fileset.specs.StateOfFiles.{listed}
use Rattle.tsdb_fileset.specs.Files.{KeptFiles}
use Rattle.tsdb_redo.specs.Lists.{file_of}
use Rattle.tsdb_redo.specs.Opening.{IsOpeningOf, listed_in}
use Rattle.tsdb_redo.specs.declared.lists.ListedFile.{ListedFile}
use Rattle.tsdb_redo.specs.declared.opening.Opening.{Opening}
use Rattle.tsdb_outside.specs.Files.{StoredFile}
use Rattle.tsdb_plan.specs.declared.entry.FileEntry.{FileEntry}
use Rattle.tsdb_recover.specs.Taking.{KeepsAdopting, HasTakenMore, kept_count}
use Rattle.tsdb_state.specs.Stores.{Recorded}
use Rattle.tsdb_state.specs.State.{File}

few_first : (entries : List FileEntry) (items : List ListedFile) (list : List File) → map file_of items ≡ list
    → AreFirst (map listed entries) list → length entries ≤ length items
few_first entries items list is first = omega (
  arith,
  ap length is,
  ap length first.is,
  length-map {B = File} items file_of,
  length-map {B = File} entries listed,
  length-append (map listed entries) first.others,
)

-- no more files are kept than are listed
few_kept : (opening : Opening) (recorded : Recorded) (files : KeptFiles) → IsOpeningOf opening recorded
    → AreFirstOf files recorded.store → kept_count files ≤ listed_in opening
few_kept opening recorded files is first =
    let sequence = few_first files.sequence _ recorded.store.sequence is.files.sequence first.sequence in
    let unsequence = few_first files.unsequence _ recorded.store.unsequence is.files.unsequence first.unsequence in
    omega (arith, sequence, unsequence)

module _ {F S R P : Type 0} where
  pub goes_nowhere : (a : Adopting F S R P) → KeepsAdopting a a
  goes_nowhere a = record {
    opening = λ i. opening_of a;
    adopting = λ recorded is. is;
    store = λ i. (adopting_files a).store;
  }

  pub goes_then : (a b c : Adopting F S R P) → KeepsAdopting a b → KeepsAdopting b c → KeepsAdopting a c
  goes_then a b c one two = record {
    opening = two.opening ∙ one.opening;
    adopting = λ recorded is. two.adopting recorded (one.adopting recorded is);
    store = two.store ∙ one.store;
  }

  pub takes_then : (a b c : Adopting F S R P) (rest mid now : Option (List StoredFile)) → KeepsAdopting a b
      → HasTakenMore a b rest mid → HasTakenMore b c mid now → HasTakenMore a c rest now
  takes_then a b c rest mid now goes one two =
      λ stored recorded is up. two stored recorded (goes.adopting recorded is) (one stored recorded is up)

  -- fewer files are left
  pub fewer_left : (a b c : Adopting F S R P) (recorded : Recorded) → IsAdoptingOf a recorded → KeepsAdopting a b
      → KeepsAdopting b c → kept_count (adopting_files c) ≡ kept_count (adopting_files b) + 1
      → listed_in (opening_of c) - kept_count (adopting_files c) < listed_in (opening_of b) - kept_count (adopting_files b)
  fewer_left a b c recorded is one two more =
      let later = two.adopting recorded (one.adopting recorded is) in
      let few = few_kept (opening_of c) recorded (adopting_files c) later.opening later.first in
      let same = ap listed_in two.opening in
      omega (arith, few, same, more)
