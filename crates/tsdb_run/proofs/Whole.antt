-- A sound store is not damaged, and whatever a stop leaves of it stands for its state.
use Rattle.std.proofs.Common.{◌≡◌, ◌∙◌, ℕ, List, [], ◌++◌, Option, None, Some, refl, subst, sym}
use Rattle.std.specs.Prelude.{IfSome, IsSome}
use Rattle.std.proofs.lemmas.Bool.{false≢true}
use Rattle.tsdb_recover.specs.Core.{next_of}
use Rattle.tsdb_recover.specs.CoreType.{Core}
use Rattle.tsdb_state.specs.StoredEngine.{kept_bytes}
use Rattle.tsdb_outside.specs.declared.disk.Disk as disk
use Rattle.tsdb_outside.specs.declared.faults.Counted as counted
use Rattle.tsdb_recover.specs.OpenedStore.{IsNextNumber, IsRecovered}
use Rattle.tsdb_state.specs.Replays.{IsReplayOf}
use Rattle.tsdb_state.specs.Stores as replay
use Rattle.tsdb_model.specs.State as plain
use Rattle.tsdb_outside.specs.Disk.{Image, Keeps, DiskState}
use Rattle.tsdb_outside.specs.Files.{StoredFile}
use Rattle.tsdb_outside.specs.declared.disk.Slot.TheVariants.{A}
use Rattle.tsdb_recover.specs.declared.fault.Part.{Part}
use Rattle.tsdb_recover.specs.declared.fault.Part.TheVariants as part
use Rattle.tsdb_recover.proofs.Once.{none_damaged}
use Rattle.tsdb_recover.specs.Damage.{IsDamagedFile, IsDamagedIn, IsTreeFile}
use Rattle.tsdb_base.proofs.Lists.{each_weaker}
use Rattle.tsdb_state.proofs.ReplayLemmas.Parted.{damaged_none, replay_once}
use Rattle.tsdb_state.proofs.ReplayLemmas.Stores.{sound_images, sound_kept}
use Rattle.tsdb_recover.specs.StoredFiles.{AreStored}
use Rattle.tsdb_state.specs.Stores.{BytesByNumber, IsWhole, Recorded, StoreStandsFor, store_steps, store_steps_determinate}
use Rattle.tsdb_run.specs.Store.{IsPlaceDamaged, IsSoundPlace, TellsPlace, contents}
use Rattle.tsdb_run.specs.Store.{IsNextNumberOfPlace as IsNextNumberOf}
use Rattle.tsdb_state.specs.State.{File, ToldContents}

seen_some : (seen : Option Image) → IsSome seen → (image : Image) × (seen ≡ Some image)
seen_some None some = absurd (false≢true some)
seen_some (Some image) some = (image, refl)

-- a sound store tells its slots and its files
pub tells_sound : (disk : DiskState) (stored : Option (List StoredFile)) (at : plain.State)
    (sound : IsSoundPlace (contents disk stored) at)
    → (image : Image) × TellsPlace (contents disk stored) image sound.files
tells_sound disk stored at sound =
    let seen = seen_some disk.seen sound.sound.told in
    (seen.0, record { slots = seen.1; told = sound.told; are_stored = sound.are_stored })

-- a call that writes nothing leaves a store sound
abbrev pub sound_after : (old new : DiskState) (stored now : Option (List StoredFile)) (at : plain.State) → Keeps old new
    → now ≡ stored → IsSoundPlace (contents old stored) at → IsSoundPlace (contents new now) at
sound_after old new stored now at keeps same sound = record {
  files = sound.files;
  told = same ∙ sound.told;
  are_stored = sound.are_stored;
  sound = sound_kept A old new (kept_bytes sound.files) at keeps sound.sound;
}

whole_is : (files : BytesByNumber) (told : ToldContents) (file : File) → IsWhole files told file → IsTreeFile files file
whole_is files told file whole = record {
  bytes = whole.bytes;
  tree = whole.tree;
  there = whole.there;
  is_tree = whole.is_tree;
  is_made = whole.is_made;
  is_file = whole.is_file;
}

-- a log that stands with its files for a state is damaged nowhere
stands_whole : (files : BytesByNumber) (bytes : List ℕ) (at : plain.State) (which : Part) (place : ℕ)
    → StoreStandsFor files bytes at → IsDamagedIn files bytes which place → ⊥
stands_whole files bytes at part.Log place stands damaged =
    damaged_none store_steps store_steps_determinate place bytes stands.recorded damaged stands.replayed
stands_whole files bytes at (part.File number) place stands damaged =
    let same : damaged.0 ≡ stands.recorded =
    replay_once store_steps store_steps_determinate bytes damaged.0 stands.recorded damaged.1 stands.replayed in
    none_damaged files stands.recorded.store number.0 place
    (each_weaker (IsWhole files stands.store.told) (IsTreeFile files) (whole_is files stands.store.told)
    (stands.recorded.store.sequence ++ stands.recorded.store.unsequence) stands.store.whole)
    (subst (λ (r : Recorded). IsDamagedFile files r.store number.0 place) same damaged.2)

pub not_damaged : (disk : DiskState) (stored : Option (List StoredFile)) (at : plain.State) (which : Part) (place : ℕ)
    → IsSoundPlace (contents disk stored) at → IsPlaceDamaged (contents disk stored) which place → ⊥
not_damaged disk stored at which place sound damaged =
    let tells = tells_sound disk stored at sound in
    stands_whole (kept_bytes sound.files) tells.0.a at which place (sound.sound.stands tells.0 tells.1.slots)
    (damaged tells.0 sound.files tells.1)

-- whatever a stop leaves of a sound store stands for its state
pub sound_left : (disk : DiskState) (stored : Option (List StoredFile)) (at : plain.State) (image : Image)
    (sound : IsSoundPlace (contents disk stored) at) → disk.may_leave image
    → StoreStandsFor (kept_bytes sound.files) image.a at
sound_left disk stored at image sound left = sound_images A disk (kept_bytes sound.files) at image sound.sound left

-- what is said where a place tells its store
pub told_both : (P : Image → List StoredFile → Type 0) (seen : Option Image) (stored : Option (List StoredFile))
    (image : Image) (files : List StoredFile) → seen ≡ Some image → stored ≡ Some files
    → IfSome seen (λ i. IfSome stored (P i)) → P image files
told_both P seen stored image files slots told holds =
    subst (λ o. IfSome o (P image)) told (subst (λ o. IfSome o (λ i. IfSome stored (P i))) slots holds)

pub if_some : {X : Type 0} (P : X → Type 0) (found : Option X) (x : X) → found ≡ Some x → IfSome found P → P x
if_some P found x is holds = subst (λ o. IfSome o P) is holds

-- what is read at an opening of a sound store
module _ {J F S R P : Type 0} {means : disk.Ghosts J} {counts : counted.Ghosts J} (core : Core J F S R P means counts)
    (state : DiskState) (stored now : Option (List StoredFile)) (start : plain.State) (sound : IsSoundPlace (contents state stored) start)
    (same : now ≡ stored) where
  abbrev pub image : Image
  image = (tells_sound state stored start sound).0

  slots : state.seen ≡ Some image
  slots = (tells_sound state stored start sound).1.slots

  pub opened : IfSome state.seen (λ i. IfSome now (λ l. AreStored l → (at : plain.State)
      → replay.IsSound A state (kept_bytes l) at → IsRecovered core i.a l at)) → IsRecovered core image.a sound.files start
  opened seen =
      told_both (λ i l. AreStored l → (at : plain.State) → replay.IsSound A state (kept_bytes l) at → IsRecovered core i.a l at)
      state.seen now image sound.files slots (same ∙ sound.told) seen sound.are_stored start sound.sound

  pub next_is : (recorded : Recorded) → IsReplayOf store_steps image.a recorded
      → IfSome state.seen (λ i. IfSome now (λ l. AreStored l → (recorded : Recorded)
      → IsReplayOf store_steps i.a recorded → IsNextNumber (next_of core) l recorded.named))
      → IsNextNumber (next_of core) sound.files recorded.named
  next_is recorded replayed next =
      told_both (λ i l. AreStored l → (recorded : Recorded) → IsReplayOf store_steps i.a recorded
      → IsNextNumber (next_of core) l recorded.named) state.seen now image sound.files slots (same ∙ sound.told) next
      sound.are_stored recorded replayed

  some_is : (a b : Image) → Some a ≡ Some b → a ≡ b
  some_is a b same = cc

  -- the number that a core draws next is that of the store
  pub next_same : (next : ℕ) → IsNextNumberOf (contents state stored) sound.files next
      → IfSome state.seen (λ i. IfSome now (λ l. AreStored l → (recorded : Recorded)
      → IsReplayOf store_steps i.a recorded → IsNextNumber (next_of core) l recorded.named)) → next_of core ≡ next
  next_same next is number =
      let here = some_is is.image image (sym is.slots ∙ slots) in
      next_is is.recorded (subst (λ (i : Image). IsReplayOf store_steps i.a is.recorded) here is.replayed) number
      ∙ sym is.above

  pub gone : (rest : Option (List StoredFile)) → IfSome now (λ l. AreStored l → rest ≡ Some []) → rest ≡ Some []
  gone rest strays = if_some (λ l. AreStored l → rest ≡ Some []) now sound.files (same ∙ sound.told) strays sound.are_stored
