-- Files that are held wherever others are, and what a stop leaves with more of them.
use Rattle.std.proofs.Common.{◌≡◌, ◌⊎◌, ℕ, List, ◌++◌, Option, None, Some, inl, inr, subst}
use Rattle.std.specs.List.{flat_map}
use Rattle.tsdb_core.specs.Files.{NewFiles, all_of, kept_with, built_numbers, stored_of}
use Rattle.tsdb_state.proofs.ImageLemmas.Kept.{each_passed}
use Rattle.tsdb_state.specs.StoredEngine.{LeavesOneOf, without_numbers}
use Rattle.tsdb_base.proofs.Lists.{each_append, each_left, each_right}
use Rattle.tsdb_model.specs.State as plain
use Rattle.tsdb_outside.specs.Disk.{Image, in_slot}
use Rattle.tsdb_outside.specs.Files.{StoredFile}
use Rattle.tsdb_outside.specs.declared.disk.Slot.{Slot}
use Rattle.tsdb_state.specs.Stores.{BytesByNumber, StandsForOneOf}
use Rattle.tsdb_serving.specs.Serving.{AreHeldWith, LeavesEither, MayDoubt}

-- this is held of a file
abbrev Held : BytesByNumber → StoredFile → Type 0
Held files file = files file.number ≡ Some file.bytes

pub held_more : (kept files put : List StoredFile) → AreHeldWith kept files → AreHeldWith kept (files ++ put)
held_more kept files put held there holds = held there (each_left (Held there) files put holds)

pub held_with : (new : NewFiles) (kept files : List StoredFile) → AreHeldWith kept files
    → AreHeldWith (kept_with new kept) (files ++ flat_map stored_of (all_of new))
held_with new kept files held there holds = each_append (Held there) (without_numbers (built_numbers new) kept)
    (flat_map stored_of (all_of new))
    (each_passed (Held there) (Held there) _ kept (λ file has passes. has)
    (held there (each_left (Held there) files (flat_map stored_of (all_of new)) holds)))
    (each_right (Held there) files (flat_map stored_of (all_of new)) holds)

pub held_without : (numbers : List ℕ) (kept files : List StoredFile) → AreHeldWith kept files
    → AreHeldWith (without_numbers numbers kept) files
held_without numbers kept files held there holds =
    each_passed (Held there) (Held there) _ kept (λ file has passes. has) (held there holds)

-- what a stop leaves with some files stands with more of them
pub wider : (kept files : List StoredFile) (slot : Slot) (at : plain.State) (next : Option plain.State) (image : Image)
    → AreHeldWith kept files → LeavesOneOf kept slot at next image → LeavesOneOf files slot at next image
wider kept files slot at next image held leaves there holds = leaves there (held there holds)

pub either_wider : (kept files : List StoredFile) (slot : Slot) (at : plain.State) (next : Option plain.State)
    (after : plain.State) (image : Image) → AreHeldWith kept files
    → LeavesOneOf kept slot at next image ⊎ LeavesOneOf kept slot at (Some after) image
    → LeavesEither files slot at next after image
either_wider kept files slot at next after image held (inl leaves) =
    inl (wider kept files slot at next image held leaves)
either_wider kept files slot at next after image held (inr leaves) =
    inr (wider kept files slot at (Some after) image held leaves)

-- what stands for the state, or for one in doubt
state_of : (there : BytesByNumber) (bytes : List ℕ) (at : plain.State) (next : Option plain.State)
    → StandsForOneOf there bytes at None → StandsForOneOf there bytes at next
state_of there bytes at None stands = stands
state_of there bytes at (Some next) stands = inl stands

same_of : (there : BytesByNumber) (bytes : List ℕ) (at : plain.State) (next : Option plain.State)
    → StandsForOneOf there bytes at (Some at) → StandsForOneOf there bytes at next
same_of there bytes at next (inl stands) = state_of there bytes at next stands
same_of there bytes at next (inr stands) = state_of there bytes at next stands

-- a stop leaves the state, where the state itself is in doubt
pub same_state : (files : List StoredFile) (slot : Slot) (at : plain.State) (next : Option plain.State) (image : Image)
    → LeavesOneOf files slot at (Some at) image → LeavesOneOf files slot at next image
same_state files slot at next image leaves there holds =
    same_of there (in_slot slot image) at next (leaves there holds)

-- a stop leaves the state, or the one that was in doubt, also after a step that keeps the state
pub as_before : (files : List StoredFile) (slot : Slot) (at : plain.State) (next doubt : Option plain.State)
    (image : Image)
    → MayDoubt next at at doubt → LeavesOneOf files slot at doubt image
    → LeavesOneOf files slot at next image
as_before files slot at next doubt image (inl none) leaves there holds =
    state_of there (in_slot slot image) at next
    (subst (λ d. StandsForOneOf there (in_slot slot image) at d) none (leaves there holds))
as_before files slot at next doubt image (inr (inl same)) leaves there holds =
    subst (λ d. StandsForOneOf there (in_slot slot image) at d) same (leaves there holds)
as_before files slot at next doubt image (inr (inr (inl same))) leaves there holds =
    same_of there (in_slot slot image) at next
    (subst (λ d. StandsForOneOf there (in_slot slot image) at d) same (leaves there holds))
as_before files slot at next doubt image (inr (inr (inr same))) leaves there holds =
    same_of there (in_slot slot image) at next
    (subst (λ d. StandsForOneOf there (in_slot slot image) at d) same (leaves there holds))

-- the doubt after a step that keeps the state, and then a command
pub doubt_on : (next doubt last : Option plain.State) (at after : plain.State) → MayDoubt next at at doubt
    → MayDoubt doubt at after last → MayDoubt next at after last
doubt_on next doubt last at after may (inl none) = inl none
doubt_on next doubt last at after may (inr (inl same)) = by may
  where
    by : MayDoubt next at at doubt → MayDoubt next at after last
    by (inl none) = inl (subst (λ d. last ≡ d) none same)
    by (inr (inl is)) = inr (inl (subst (λ d. last ≡ d) is same))
    by (inr (inr (inl is))) = inr (inr (inl (subst (λ d. last ≡ d) is same)))
    by (inr (inr (inr is))) = inr (inr (inl (subst (λ d. last ≡ d) is same)))
doubt_on next doubt last at after may (inr (inr rest)) = inr (inr rest)
