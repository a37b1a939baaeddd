-- All listed files are taken up, and no other is left: a store is opened.
use Rattle.std.proofs.Common.{◌≡◌, ◌⊎◌, ◌∙◌, ℕ, List, [], Option, None, Some, Result, Ok, Err, IfSome, inl, inr, refl}
use Rattle.std.proofs.Common.{sym, ap, subst}
use Rattle.std.specs.Prelude.{IfErr, OnErr, OnOk}
use Rattle.std.specs.List.{All}
use Rattle.tsdb_recover.specs.Adopting.{HasAdoptedAll, IsAdoptingOf, adopting_files}
use Rattle.tsdb_recover.specs.declared.adopting.Adopting.{Adopting}
use Rattle.tsdb_base.specs.declared.ids.FileNumber.{FileNumber}
use Rattle.tsdb_state.specs.StoredEngine.{kept_bytes}
use Rattle.tsdb_fileset.specs.Files.{KeptFiles, kept_file, none_kept}
use Rattle.tsdb_fileset.specs.Places.{KeptFile}
use Rattle.tsdb_outside.specs.Files.{IsFileNumber, Store, StoredFile}
use Rattle.tsdb_recover.specs.declared.fault.OpenFault.{OpenFault}
use Rattle.tsdb_recover.specs.declared.fault.OpenFault.TheVariants as fault
use Rattle.tsdb_recover.specs.declared.fault.Part.{Part}
use Rattle.tsdb_recover.proofs.Greatest.{IsListOf, below_end, stored_greatest}
use Rattle.tsdb_recover.proofs.Rest.{found_contains, found_each, none_found}
use Rattle.tsdb_recover.specs.Damage.{IsFileDamaged}
use Rattle.tsdb_recover.specs.Taking.{AreAllTaken, AreGone, AreGoneIn, KeepsAdopting, HasLeft, HasTakenMore}
use Rattle.tsdb_recover.specs.StoredFiles.{AreStored, HasFileNumber}
use Rattle.tsdb_recover.specs.Taking.{HasTakenUp, IsGreatestNumber}
use Rattle.tsdb_recover.specs.Taking.{IsRest, IsTakingUp, rests_of}
use Rattle.tsdb_state.specs.Stores.{Recorded}
use Rattle.tsdb_state.specs.State.{StoreState}

-- at the beginning all files are at rest
pub begun : {directory : Store} (stored : List StoredFile) (store : StoreState) (files : KeptFiles)
    → files ≡ none_kept directory → AreStored stored → IsTakingUp stored store files (Some stored)
begun stored store files none are =
    subst (λ f. IsTakingUp stored store f (Some stored)) (sym none) (record {
      taken = record {
        told = λ n. tt;
        whole = tt;
        order = inr refl;
        described = λ told order kept. record { sequence = tt; unsequence = tt };
      };
      others = record { are_stored = are; each = λ n. refl };
    })

-- once those of the list are gone that are not kept, no file is at rest
none_left : (stored : List StoredFile) (files : KeptFiles) (list : List ℕ) (mid now : List StoredFile)
    → AreStored stored → IsRest stored files mid → AreGone list files mid now → IsListOf stored list → now ≡ []
none_left stored files list mid now are rest gone exact =
    none_found now (λ n. by n (kept_bytes stored n) refl (kept_file n files) refl)
  where
    still : (n : ℕ) → (kept_bytes now n ≡ kept_bytes mid n) ⊎ ((kept_bytes now n ≡ None) × (kept_file n files ≡ None))
        → kept_bytes mid n ≡ None → kept_bytes now n ≡ None
    still n (inl same) none = same ∙ none
    still n (inr lost) none = lost.0

    by : (n : ℕ) (found : Option (List ℕ)) → kept_bytes stored n ≡ found → (kept : Option KeptFile)
        → kept_file n files ≡ kept → kept_bytes now n ≡ None
    by n found is (Some file) kept =
        still n (gone.others n) (rest.each n ∙ ap (λ k. rests_of k (kept_bytes stored n)) kept)
    by n None is None kept =
        still n (gone.others n) (rest.each n ∙ ap (λ k. rests_of k (kept_bytes stored n)) kept ∙ is)
    by n (Some bytes) is None kept =
        gone.gone n ((exact n (found_each HasFileNumber stored n bytes are.each is)).1
        (found_contains stored n bytes is)) kept

module _ {F S R P : Type 0} (old new : Adopting F S R P) where
  all_taken : {directory : Store} (rest mid now : Option (List StoredFile)) (list : List ℕ) (last : Option FileNumber)
      → adopting_files old ≡ none_kept directory → HasTakenMore old new rest mid → AreGoneIn list (adopting_files new)
      mid now
      → IfSome rest (λ files. IsListOf files list) → All IsFileNumber list → IsGreatestNumber last list
      → IfSome rest (λ stored. (recorded : Recorded) → IsAdoptingOf old recorded → AreStored stored
      → AreAllTaken stored recorded.store (adopting_files new) last now)
  all_taken None mid now list last none taken gone exact all is = tt
  all_taken (Some stored) mid now list last none taken gone exact all is = λ recorded adopting are.
      by recorded are mid now gone (taken stored recorded adopting (begun stored recorded.store
      (adopting_files old) none are))
    where
      by : (recorded : Recorded) → AreStored stored → (mid now : Option (List StoredFile))
          → AreGoneIn list (adopting_files new) mid now → IsTakingUp stored recorded.store (adopting_files new) mid
          → AreAllTaken stored recorded.store (adopting_files new) last now
      by recorded are None now gone up = absurd up.others
      by recorded are (Some mid) None gone up = absurd gone
      by recorded are (Some mid) (Some now) gone up = record {
        taken = up.taken;
        greatest = stored_greatest last list stored is exact all are;
        none = ap Some (none_left stored (adopting_files new) list mid now are up.others (gone up.others.are_stored) exact);
      }

  -- what a part that failed says of the damage
  abbrev Damages : Option (List StoredFile) → OpenFault → Type 0
  Damages rest answer = (part : Part) (at : ℕ) → answer ≡ fault.Damaged part at → (stored : List StoredFile)
      (recorded : Recorded) → IsAdoptingOf old recorded → IsTakingUp stored recorded.store (adopting_files old) rest
      → IsFileDamaged (kept_bytes stored) recorded.store part at

  damage_is : {directory : Store} (rest : Option (List StoredFile)) (answer : OpenFault)
      → adopting_files old ≡ none_kept directory → Damages rest answer
      → (part : Part) (at : ℕ) → answer ≡ fault.Damaged part at → IfSome rest (λ stored. (recorded : Recorded)
      → IsAdoptingOf old recorded → AreStored stored → IsFileDamaged (kept_bytes stored) recorded.store part at)
  damage_is None answer none damages part at is = tt
  damage_is (Some stored) answer none damages part at is = λ recorded adopting are.
      damages part at is stored recorded adopting (begun stored recorded.store (adopting_files old) none are)

  pub is_refused : {directory : Store} (rest now : Option (List StoredFile)) (answer : OpenFault)
      → adopting_files old ≡ none_kept directory → KeepsAdopting old new → Damages rest answer
      → HasLeft old new rest now answer → HasTakenUp old new rest now (Err answer)
  is_refused rest now answer none goes damages left = record {
    left = left;
    goes_on = goes;
    all = tt;
    number = tt;
    taken = tt;
    damaged = λ part at is. let same : answer ≡ fault.Damaged part at = cc in damage_is rest answer none damages part
        at same;
  }

  pub is_taken_up : {directory : Store} (rest mid now : Option (List StoredFile)) (list : List ℕ)
      (last : Option FileNumber) → adopting_files old ≡ none_kept directory → KeepsAdopting old new → HasAdoptedAll new
      → HasTakenMore old new rest mid
      → AreGoneIn list (adopting_files new) mid now → IfSome rest (λ files. IsListOf files list) → All IsFileNumber list
      → IsGreatestNumber last list → HasTakenUp old new rest now (Ok last)
  is_taken_up rest mid now list last none goes all taken gone exact numbers is = record {
    goes_on = goes;
    all = all;
    number = below_end last list is numbers;
    taken = all_taken rest mid now list last none taken gone exact numbers is;
    left = tt;
    damaged = λ part at is. absurd (no_error part at is);
  }
    where
      no_error : (part : Part) (at : ℕ) → Ok last ≡ Err (fault.Damaged part at) → ⊥
      no_error part at is = cc

pub ok_with : {T E : Type 0} (result : Result T E) (P Q : Type 0) → (P → Q) → OnOk result P → OnOk result Q
ok_with (Ok value) P Q step holds = step holds
ok_with (Err fault) P Q step holds = tt

pub err_and : {T E : Type 0} (result : Result T E) (P : Type 0) (Q R : E → Type 0) → ((e : E) → P → Q e → R e)
    → OnErr result P → IfErr result Q → IfErr result R
err_and (Ok value) P Q R step holds also = tt
err_and (Err fault) P Q R step holds also = step fault holds also

-- where nothing was taken up, all that was at rest is
pub nothing_left : {F S R P : Type 0} {answer : OpenFault} (old : Adopting F S R P)
    (rest now : Option (List StoredFile)) → now ≡ rest → HasLeft old old rest now answer
nothing_left old rest now same = record { before = rest; taken = λ stored recorded is up. up; gone = inl same }
