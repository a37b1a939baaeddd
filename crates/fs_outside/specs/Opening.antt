-- What the making and the opening of a store leave of its directory.
use Rattle.std.specs.Prelude.{◌≡◌, ◌⊎◌, ◌≢◌, None, true, [], ◌∷◌, IfSome, IsTrue}
use Rattle.std.specs.Option.{IsSomeAnd}
use Rattle.tsdb_outside.specs.declared.disk.Slot.{Slot}
use Rattle.fs_outside.specs.SlotDirectory.{DirectoryImage, DirectoryView, DirectoryState, IsUnfinished, HasSlots}
use Rattle.fs_outside.specs.SlotDirectory.{ElapsesBy, StaysDurable, new_directory, with_slot_file, with_unfinished}
use Rattle.fs_outside.specs.SlotDirectory.{with_renamed}

-- a slot of one byte 0 was made, and its bytes are durable
abbrev pub with_new_slot : Slot → DirectoryView → DirectoryView
with_new_slot slot view = with_renamed slot (with_unfinished (0 ∷ []) true view)

-- what a stop might have left, with a slot of one byte 0
pub record HasNewSlot (slot : Slot) (may_leave : DirectoryImage → Type 0) (image : DirectoryImage) : Type 0 where
  pub before : DirectoryImage
  pub left : may_leave before
  pub made : image ≡ with_slot_file slot (0 ∷ []) before

-- whatever a stop leaves is opened as a new store
abbrev pub LeavesUnfinished : DirectoryState → Type 0
LeavesUnfinished directory = (image : DirectoryImage) → directory.may_leave image → IsUnfinished image

-- a store that is opened as a new one: it is not finished, or it is one
abbrev pub IsNewOrUnfinished : DirectoryImage → Type 0
IsNewOrUnfinished image = IsUnfinished image ⊎ image ≡ new_directory

-- At each moment of a making a stop leaves what is opened as a new store, where it did before.
abbrev pub MakesStore : DirectoryState → DirectoryState → Type 0
MakesStore old new = IfSome old.seen (λ _. LeavesUnfinished old → ElapsesBy IsNewOrUnfinished old new)

-- a stop leaves the directory itself
abbrev pub HasOwnName : DirectoryState → Type 0
HasOwnName directory = IsSomeAnd directory.seen (λ view. IsTrue view.is_named)

-- no other opening has the first slot, and the second is another file
abbrev pub AreSlotsLocked : DirectoryState → Type 0
AreSlotsLocked directory = IsSomeAnd directory.seen (λ view. IsTrue view.is_locked)

-- a new store was made, and a stop leaves its directory
abbrev pub IsMadeNew : DirectoryState → Type 0
IsMadeNew directory = IsSomeAnd directory.seen (λ view. view.image ≡ new_directory × IsTrue view.is_named)

-- the calls see this, and a stop leaves nothing else
abbrev pub IsDurableAs : DirectoryImage → DirectoryState → Type 0
IsDurableAs image directory = IsSomeAnd directory.seen (λ view. view.image ≡ image
    × ((left : DirectoryImage) → directory.may_leave left → left ≡ image))

-- At no moment a stop leaves what it could not have left before, where the first slot is there.
abbrev pub KeepsStore : DirectoryState → DirectoryState → Type 0
KeepsStore old new = IfSome old.seen (λ view. view.image.a ≢ None → StaysDurable old new)

-- What was not finished is a new store now, in a directory that a stop leaves. What had both slots is as it was. Both
-- are durable.
abbrev pub OpensStore : DirectoryState → DirectoryState → Type 0
OpensStore old new = IfSome old.seen (λ view.
    (IsUnfinished view.image × IsDurableAs new_directory new × HasOwnName new)
    ⊎ (HasSlots view.image × IsDurableAs view.image new))

-- a directory that has no store and is not made one: a slot is lost
abbrev pub HasLostSlot : DirectoryState → Type 0
HasLostSlot directory = IfSome directory.seen (λ view. ¬ IsUnfinished view.image × ¬ HasSlots view.image)
