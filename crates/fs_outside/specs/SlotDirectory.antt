-- The directory of a store as its making and its opening see it, and what each call on it leaves.
use Rattle.std.specs.Prelude.{◌≡◌, ◌≢◌, ◌⊎◌, ℕ, ◌-◌, ◌^◌, Bool, true, false, List, [], ◌∷◌, None, Some, IfSome, IsTrue}
use Rattle.std.specs.declared.option.Option.{Option}
use Rattle.tsdb_outside.specs.Disk.{NothingNew}
use Rattle.tsdb_outside.specs.declared.disk.Slot.{Slot}
use Rattle.tsdb_outside.specs.declared.disk.Slot.TheVariants.{A, B}

-- the bytes of each slot that is there, and whether there are files of a store
pub record DirectoryImage : Type 0 where
  pub a : Option (List ℕ)
  pub b : Option (List ℕ)
  pub has_files : Bool

-- what is there of one slot
abbrev pub slot_in : Slot → DirectoryImage → Option (List ℕ)
slot_in A image = image.a
slot_in B image = image.b

-- the name of the slot leads to a file with these bytes
abbrev pub with_slot_file : Slot → List ℕ → DirectoryImage → DirectoryImage
with_slot_file A bytes image = record image { a = Some bytes }
with_slot_file B bytes image = record image { b = Some bytes }

-- the slot is there, and is one byte 0
abbrev pub IsOneZero : Slot → DirectoryImage → Type 0
IsOneZero slot image = slot_in slot image ≡ Some (0 ∷ [])

-- A store that is not finished: no first slot, no second one but one byte 0, and no files. It is opened as a new store.
pub record IsUnfinished (image : DirectoryImage) : Type 0 where
  pub first : image.a ≡ None
  pub second : image.b ≡ None ⊎ image.b ≡ Some (0 ∷ [])
  pub files : image.has_files ≡ false

-- a new store: one byte 0 in each slot, and no files
abbrev pub new_directory : DirectoryImage
new_directory = record { a = Some (0 ∷ []); b = Some (0 ∷ []); has_files = false }

-- both slots are there
pub record HasSlots (image : DirectoryImage) : Type 0 where
  pub first : image.a ≢ None
  pub second : image.b ≢ None

-- What the calls see of a directory, and what of it is durable.
pub record DirectoryView : Type 0 where
  pub image : DirectoryImage
  -- a stop leaves the bytes of the file that the slot's name leads to
  pub a_is_synced : Bool
  pub b_is_synced : Bool
  -- the bytes of the slot that is being made, under its other name, and whether a stop leaves them
  pub unfinished : List ℕ
  pub is_synced : Bool
  -- a stop leaves the directory itself
  pub is_named : Bool
  -- no other opening has the file of the first slot, and that of the second is another one
  pub is_locked : Bool

-- what a directory means at one moment
pub record DirectoryState : Type 1 where
  -- what the calls see, or none where it does not tell
  pub seen : Option DirectoryView
  -- what a stop at this moment may leave in it
  pub may_leave : DirectoryImage → Type 0
  -- what a stop at some moment so far may have left, during a call or between two
  pub left : DirectoryImage → Type 0
  -- how often it has failed
  pub faults : ℕ

-- a directory that tells nothing: a stop may leave anything, and its count of faults is at the end of its type
abbrev pub silent_directory : DirectoryState
silent_directory = record { seen = None; may_leave = λ _. Unit {0}; left = λ _. Unit {0}; faults = 2 ^ 64 - 1 }

-- The laws of a directory.
pub record IsLawfulDirectory (directory : DirectoryState) : Type 0 where
  -- a stop may leave what the calls see
  pub seen_may_stay : IfSome directory.seen (λ view. directory.may_leave view.image)
  -- a stop at this moment is one so far
  pub counts_now : (image : DirectoryImage) → directory.may_leave image → directory.left image

-- Time goes on: what a stop so far may have left was left before, or it has P.
pub record ElapsesBy (P : DirectoryImage → Type 0) (old new : DirectoryState) : Type 0 where
  pub keeps : NothingNew new.left old.left
  pub nothing_else : (image : DirectoryImage) → new.left image → old.left image ⊎ P image

-- a stop leaves nothing that it could not have left before, at no moment of the call
pub record StaysDurable (old new : DirectoryState) : Type 0 where
  pub crash : NothingNew old.may_leave new.may_leave
  pub keeps : NothingNew new.left old.left
  pub time : NothingNew old.left new.left

-- a call that only looks
pub record KeepsDirectory (old new : DirectoryState) : Type 0 where
  pub seen : new.seen ≡ old.seen
  pub stays : StaysDurable old new

-- the file of a slot that is being made has these bytes
abbrev pub with_unfinished : List ℕ → Bool → DirectoryView → DirectoryView
with_unfinished bytes synced view = record view { unfinished = bytes; is_synced = synced }

abbrev pub with_synced_unfinished : DirectoryView → DirectoryView
with_synced_unfinished view = record view { is_synced = true }

-- the directory's own name is durable
abbrev pub with_own_name : DirectoryView → DirectoryView
with_own_name view = record view { is_named = true }

-- The first slot is locked, and the second is another file. Files in another order are not the slots of a store.
abbrev pub with_locked_slots : Slot → Slot → DirectoryView → DirectoryView
with_locked_slots A A view = view
with_locked_slots A B view = record view { is_locked = true }
with_locked_slots B other view = view

-- the bytes of the slot's file are durable
abbrev pub with_synced_slot : Slot → DirectoryView → DirectoryView
with_synced_slot A view = record view { a_is_synced = true }
with_synced_slot B view = record view { b_is_synced = true }

-- the name of the slot leads to the file that was made for it
abbrev pub with_renamed : Slot → DirectoryView → DirectoryView
with_renamed A view = record view { image = with_slot_file A view.unfinished view.image; a_is_synced = view.is_synced }
with_renamed B view = record view { image = with_slot_file B view.unfinished view.image; b_is_synced = view.is_synced }

-- After a rename a stop leaves in addition what it might have left before, with the file under its new name. Where the
-- file was not synced it may then have any bytes.
pub record IsRenamed (slot : Slot) (view : DirectoryView) (may_leave : DirectoryImage → Type 0)
    (image : DirectoryImage) : Type 0 where
  pub before : DirectoryImage
  pub left : may_leave before
  pub bytes : List ℕ
  pub renamed : image ≡ with_slot_file slot bytes before
  pub synced : IsTrue view.is_synced → bytes ≡ view.unfinished

-- what a rename may do, whether it succeeds or fails
pub record MayRename (slot : Slot) (view : DirectoryView) (old new : DirectoryState) : Type 0 where
  pub crash : (image : DirectoryImage) → new.may_leave image
      → old.may_leave image ⊎ IsRenamed slot view old.may_leave image
  pub time : ElapsesBy (IsRenamed slot view old.may_leave) old new

-- What a stop leaves under the name of a slot, where the name is durable: the file that is seen there. Its bytes are
-- those that are seen where they were synced.
abbrev pub IsLeft : Bool → Option (List ℕ) → Option (List ℕ) → Type 0
IsLeft synced None left = left ≡ None
IsLeft synced (Some bytes) None = ⊥
IsLeft synced (Some bytes) (Some left) = IsTrue synced → left ≡ bytes

-- the names that are seen are durable
pub record HasNames (view : DirectoryView) (image : DirectoryImage) : Type 0 where
  pub a : IsLeft view.a_is_synced view.image.a image.a
  pub b : IsLeft view.b_is_synced view.image.b image.b
  pub files : image.has_files ≡ view.image.has_files

-- whatever a stop leaves has the names that are seen
abbrev pub AreNamesDurable : DirectoryState → Type 0
AreNamesDurable directory = IfSome directory.seen (λ view. (image : DirectoryImage) → directory.may_leave image
    → HasNames view image)

-- a directory that tells nothing keeps the laws
pub silent_directory_is_lawful : IsLawfulDirectory silent_directory
silent_directory_is_lawful = record { seen_may_stay = tt; counts_now = λ image left. tt }
