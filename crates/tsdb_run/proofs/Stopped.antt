-- A run that begins on what a stop left of another one.
use Rattle.std.proofs.Common.{◌≡◌, ◌≢◌, ◌∙◌, ℕ, ◌<◌, zero, suc, List, [], ◌∷◌, ◌++◌, Option, Some, refl, sym, ap, arith, subst}
use Rattle.std.specs.Prelude.{IsSome, map, slice_get}
use Rattle.std.specs.List.{AllByRecursion as Each}
use Rattle.std.proofs.lemmas.Option.{same_Some}
use Rattle.tsdb_base.proofs.Lists.{each_append, each_weaker}
use Rattle.tsdb_base.specs.Lists.{EachPair}
use Rattle.tsdb_frames.specs.Slots.{HasRecords}
use Rattle.tsdb_history.proofs.Joined.{joined, new_is_sound}
use Rattle.tsdb_history.proofs.Prefixes.{prefix_wider}
use Rattle.tsdb_history.specs.Joining.{IsJoined}
use Rattle.tsdb_history.specs.Prefixes.{StandsAfterPrefix}
use Rattle.tsdb_model.specs.Commands.{AreDifferent}
use Rattle.tsdb_model.specs.History.{Entry, IsLegal}
use Rattle.tsdb_model.specs.State as plain
use Rattle.tsdb_outside.specs.Disk.{Image, DiskState}
use Rattle.tsdb_outside.specs.Files.{StoredFile}
use Rattle.tsdb_outside.specs.declared.disk.Slot.TheVariants.{A}
use Rattle.tsdb_recover.proofs.Rest.{holds_itself}
use Rattle.tsdb_recover.specs.Strays.{AreLeft, IsStray}
use Rattle.tsdb_recover.specs.StoredFiles.{DifferInNumber}
use Rattle.tsdb_run.proofs.Executed.{some_and}
use Rattle.tsdb_run.proofs.Refused.{stands_left}
use Rattle.tsdb_run.specs.Headline.{AreNewer}
use Rattle.tsdb_run.specs.Stops.{IsStopped}
use Rattle.tsdb_run.specs.Store.{Contents, IsSoundPlace, SlotsStandFor, contents, new_state}
use Rattle.tsdb_state.specs.StoredEngine.{kept_bytes}
use Rattle.tsdb_state.specs.Stores as replay

-- ---- files of different numbers

no_number : (number : ℕ) (files : List StoredFile)
    → ((i : ℕ) → slice_get (map (λ (file : StoredFile). file.number) files) i ≡ Some number → ⊥)
    → Each (λ (other : StoredFile). number ≢ other.number) files
no_number number [] none = tt
no_number number (file ∷ files) none = (
  λ same. none zero (ap Some (sym same)),
  no_number number files (λ i at. none (suc i) at),
)

all_differ : (files : List StoredFile) → AreDifferent (map (λ (file : StoredFile). file.number) files)
    → EachPair DifferInNumber files
all_differ [] once = tt
all_differ (file ∷ files) once = (
  no_number file.number files (λ i at. absurd (let e = once zero (suc i) file.number refl at in omega (arith, e))),
  all_differ files (λ i j n at other. let e = once (suc i) (suc j) n at other in omega (arith, e)),
)

-- the files of before, and newer ones behind them
differ_with_newer : (files put : List StoredFile) → EachPair DifferInNumber files → EachPair DifferInNumber put
    → AreNewer put files → EachPair DifferInNumber (files ++ put)
differ_with_newer [] put before behind newer = behind
differ_with_newer (file ∷ files) put before behind newer = (
  each_append (DifferInNumber file) files put before.0
      (each_weaker (λ (late : StoredFile). Each (λ (other : StoredFile). other.number < late.number) (file ∷ files))
      (DifferInNumber file) (λ late above. λ same. absurd (let less = above.0 in omega (arith, less, same))) put newer),
  differ_with_newer files put before.1 behind
      (each_weaker (λ (late : StoredFile). Each (λ (other : StoredFile). other.number < late.number) (file ∷ files))
      (λ (late : StoredFile). Each (λ (other : StoredFile). other.number < late.number) files) (λ late above. above.1) put
      newer),
)

-- ---- the place that a stop left

module _ (old new left : Contents) (start : plain.State) (first : List Entry) (unanswered : Type 0)
    (is : IsStopped old new left start first unanswered) where
  abbrev all : List StoredFile
  all = is.sound.files ++ is.run.put

  found : (now : List StoredFile) × (left.stored ≡ Some now) × AreLeft (IsStray is.image.a) all now
  found = some_and (AreLeft (IsStray is.image.a) all) left.stored is.after_stop.kept

  abbrev now : List StoredFile
  now = found.0

  -- the log stands with the files that are left for what it stood for with all of them
  stands_now : (at : plain.State) → SlotsStandFor all is.image at → replay.StoreStandsFor (kept_bytes now) is.image.a at
  stands_now at stands = stands_left all now is.image.a found.2 at (stands (kept_bytes all)
      (holds_itself all (differ_with_newer is.sound.files is.run.put is.sound.are_stored.differ
      (all_differ is.run.put is.run.once) is.run.newer)))

  same_image : (seen : Image) → left.disk.seen ≡ Some seen → is.image ≡ seen
  same_image seen there = same_Some is.image seen (sym is.after_stop.slots ∙ there)

  sound_now : (at : plain.State) → SlotsStandFor all is.image at → IsSoundPlace left at
  sound_now at stands = record {
    files = now;
    told = found.1;
    are_stored = found.2.are_stored;
    sound = record {
      told = subst IsSome (sym is.after_stop.slots) refl;
      settled = λ payloads seen image there records may.
          subst (HasRecords payloads)
          (ap (λ (i : Image). i.a) (sym (same_image seen there)) ∙ sym (is.after_stop.durable image may)) records;
      stands = λ seen there. subst (λ (i : Image). replay.StoreStandsFor (kept_bytes now) i.a at) (same_image seen there)
          (stands_now at stands);
    };
  }

  -- it is a sound store, in the state after a prefix of the entries
  pub stopped_sound : StandsAfterPrefix (IsSoundPlace left) start first
  stopped_sound = prefix_wider (SlotsStandFor all is.image) (IsSoundPlace left) sound_now start first
      (is.run.moments.each is.image is.moment)

  -- whoever begins on it follows such a prefix
  pub stopped_joined : (middle last : plain.State) (second : List Entry) → IsSoundPlace left middle
      → IsLegal middle second last → IsJoined start first second last
  stopped_joined middle last second sound legal = joined (kept_bytes now) is.image.a start middle last first second
      (prefix_wider (SlotsStandFor all is.image) (replay.StoreStandsFor (kept_bytes now) is.image.a) stands_now start first
      (is.run.moments.each is.image is.moment))
      (subst (λ files. replay.StoreStandsFor (kept_bytes files) is.image.a middle)
      (same_Some sound.files now (sym sound.told ∙ found.1)) (sound.sound.stands is.image is.after_stop.slots)) legal

-- ---- a new place

pub new_place_sound : (disk : DiskState) (stored : Option (List StoredFile)) (image : Image) → disk.seen ≡ Some image
    → image.a ≡ 0 ∷ [] → ((left : Image) → disk.may_leave left → left.a ≡ 0 ∷ []) → stored ≡ Some []
    → IsSoundPlace (contents disk stored) new_state
new_place_sound disk stored image seen here leaves none = record {
  files = [];
  told = none;
  are_stored = record { differ = tt; each = tt };
  sound = new_is_sound A disk (kept_bytes []) image seen here leaves;
}
