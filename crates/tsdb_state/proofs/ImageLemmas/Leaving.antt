-- Whatever a stop leaves of a stored engine stands for its state, or for that of the record in doubt.
use Rattle.std.proofs.Common.{◌≡◌, ◌⊎◌, ℕ, List, ◌++◌, map, Option, None, Some, inl, inr, refl, sym, subst, ⊎_elim}
use Rattle.std.specs.Prelude.{IfSome}
use Rattle.std.specs.List.{AllByRecursion as Each}
use Rattle.std.specs.Option.{option_map}
use Rattle.tsdb_frames.proofs.SlotLemmas.{records_or_one_more}
use Rattle.tsdb_frames.specs.Log.{HasRecordsOrOneMore, IsLogOn, IsSettled}
use Rattle.tsdb_outside.specs.Moments.{LeavesFirstThen, LeavesOnly}
use Rattle.tsdb_state.proofs.ImageLemmas.After.{listed_after}
use Rattle.tsdb_state.proofs.ImageLemmas.Kept.{holds_found, kept_by_number, whole_as}
use Rattle.tsdb_state.specs.StoredEngine.{IsKeptWhole, IsStored, LeadsTo, LeavesOneOf, kept_bytes}
use Rattle.tsdb_base.proofs.Lists.{each_among, each_left, each_right, each_weaker}
use Rattle.tsdb_base.specs.Lists.{Among}
use Rattle.tsdb_log.specs.Spelling.{IsRecord, spelling}
use Rattle.tsdb_log.specs.declared.record.LogRecord.{LogRecord}
use Rattle.tsdb_model.specs.State as plain
use Rattle.tsdb_outside.specs.Disk.{Image, IsLawful, DiskState, in_slot}
use Rattle.tsdb_outside.specs.Files.{StoredFile}
use Rattle.tsdb_outside.specs.declared.disk.Slot.{Slot}
use Rattle.tsdb_state.proofs.ReplayLemmas.Stores.{stands_for_one_of}
use Rattle.tsdb_state.specs.Stores.{BytesByNumber, HoldsKept, IsSound, IsStateOf, IsStoreOf, IsWhole, LeadsToState}
use Rattle.tsdb_state.specs.Stores.{Recorded, StandsForOneOf}
use Rattle.tsdb_state.specs.Order.{DoubtInOrder}
use Rattle.tsdb_state.specs.Records.{after, names, numbers_of}
use Rattle.tsdb_state.specs.State.{EngineState, KnownFiles, File, ToldContents}
use Rattle.tsdb_state.specs.Steps.{failed}

module _ (items : List LogRecord) (kept : List StoredFile) (told : ToldContents) (known : KnownFiles) (state : EngineState)
    (stored : IsStored items kept told known state) where
  abbrev listed : List File
  listed = state.store.sequence ++ state.store.unsequence

  -- what replay gives
  abbrev pub replay : Recorded
  replay = record { named = stored.named; store = state.store }

  pub kept_listed : Each (IsKeptWhole kept told) listed
  kept_listed = each_left (IsKeptWhole kept told) listed state.outgoing stored.whole

  pub kept_outgoing : Each (IsKeptWhole kept told) state.outgoing
  kept_outgoing = each_right (IsKeptWhole kept told) listed state.outgoing stored.whole

  -- a record in doubt names files on their way out
  kept_after : (item : LogRecord) → DoubtInOrder told stored.named state.store state.outgoing item
      → Each (IsKeptWhole kept told) ((after item state.store).sequence ++ (after item state.store).unsequence)
  kept_after item doubt = listed_after (IsKeptWhole kept told) item state.store
      (λ number among born. kept_by_number kept told state.outgoing kept_outgoing number
      (each_among (λ n. Among n (numbers_of state.outgoing)) (names item) number doubt.kept among) born) kept_listed

  module _ (files : BytesByNumber) (holds : HoldsKept kept files) where
    whole : (list : List File) → Each (IsKeptWhole kept told) list → Each (IsWhole files told) list
    whole = each_weaker (IsKeptWhole kept told) (IsWhole files told)
        (λ file. whole_as (kept_bytes kept) files told told file file refl refl
        (λ bytes. holds_found kept files holds file.number bytes))

    store_of : (at : plain.State) → IsStateOf told state.store at → IsStoreOf files state.store at
    store_of at stands =
        record { told = told; whole = whole listed kept_listed; order = stored.order.store; stands = stands }

    leads_on : (doubt : Option LogRecord) (next : Option plain.State)
        → IfSome doubt (DoubtInOrder told stored.named state.store state.outgoing) → IfSome doubt IsRecord
        → LeadsTo told state.store doubt next → LeadsToState files replay doubt next
    leads_on None None order good leads = tt
    leads_on None (Some next) order good leads = absurd leads
    leads_on (Some item) None order good leads = absurd leads
    leads_on (Some item) (Some next) order good leads = (
      good,
      order.can,
      record {
        told = told;
        whole = whole ((after item state.store).sequence ++ (after item state.store).unsequence)
            (kept_after item order);
        order = order.order;
        stands = leads;
      },
    )

    -- a slot with the acknowledged records, or with these and the one in doubt
    pub bytes_stand : (at : plain.State) (next : Option plain.State) (bytes : List ℕ) → IsStateOf told state.store at
        → LeadsTo told state.store state.doubt next
        → HasRecordsOrOneMore (map spelling items) (option_map spelling state.doubt) bytes
        → StandsForOneOf files bytes at next
    bytes_stand at next bytes stands leads has =
        stands_for_one_of files items state.doubt replay at next bytes stored.good stored.replayed
        (store_of at stands) (leads_on state.doubt next stored.order.doubt stored.doubt leads) has

  module _ (at : plain.State) (next : Option plain.State) (stands : IsStateOf told state.store at)
      (leads : LeadsTo told state.store state.doubt next) (slot : Slot) where
    -- what a stop leaves between two calls
    pub image_stands : (disk : DiskState) (gate : ℕ) (image : Image)
        → IsLogOn disk slot gate (map spelling items) (option_map spelling state.doubt) → disk.may_leave image
        → LeavesOneOf kept slot at next image
    image_stands disk gate image log left files holds =
        bytes_stand files holds at next (in_slot slot image) stands leads
        (records_or_one_more (map spelling items) (option_map spelling state.doubt) (in_slot slot image)
        (log.left image left))

  -- what a settled engine leaves
  pub settled_is_sound : (disk : DiskState) (lawful : IsLawful disk) (at : plain.State) (slot : Slot) (gate : ℕ)
      (files : BytesByNumber)
      → state.doubt ≡ None → IsStateOf told state.store at → IsLogOn disk slot gate (map spelling items) None
      → IsSettled slot disk → HoldsKept kept files → IsSound slot disk files at
  settled_is_sound disk lawful at slot gate files none stands log settled holds = record {
    told = log.told;
    settled = settled;
    stands = λ image seen. bytes_stand files holds at None (in_slot slot image) stands
        (subst (λ doubt. LeadsTo told state.store doubt None) (sym none) tt)
        (subst (λ doubt. HasRecordsOrOneMore (map spelling items) (option_map spelling doubt) (in_slot slot image))
        (sym none) (log.left image (lawful.seen_may_stay image seen)));
  }

either : (old new : DiskState) (P Q R S : Image → Type 0) → ((image : Image) → P image → R image)
    → ((image : Image) → Q image → S image)
    → LeavesFirstThen old new P Q → LeavesOnly old new (λ image. R image ⊎ S image)
either old new P Q R S first then (inl leaves) =
    record { passes = leaves.passes; each = λ image left. inl (first image (leaves.each image left)) }
either old new P Q R S first then (inr turns) = record {
  passes = turns.passes;
  each = λ image left. ⊎_elim (λ p. inl (first image p)) (λ since. inr (then image (turns.from_then image since)))
      (turns.until image left);
}

-- the state of a store is that of an equal one
pub append_moments : (items : List LogRecord) (kept : List StoredFile) (told : ToldContents) (known : KnownFiles)
    (state doubtful : EngineState) (item : LogRecord) (at after : plain.State) (next : Option plain.State) (slot : Slot)
    (old new : DiskState) → IsStored items kept told known state → IsStored items kept told known (failed item doubtful)
    → doubtful.store ≡ state.store → IsStateOf told state.store at → LeadsTo told state.store state.doubt next
    → LeadsTo told state.store (Some item) (Some after)
    → LeavesFirstThen old new
    (λ image. HasRecordsOrOneMore (map spelling items) (option_map spelling state.doubt) (in_slot slot image))
    (λ image. HasRecordsOrOneMore (map spelling items) (Some (spelling item)) (in_slot slot image))
    → LeavesOnly old new
    (λ image. LeavesOneOf kept slot at next image ⊎ LeavesOneOf kept slot at (Some after) image)
append_moments items kept told known state doubtful item at after next slot old new stored doubted same stands leads
    leads_after moments =
    either old new
    (λ image. HasRecordsOrOneMore (map spelling items) (option_map spelling state.doubt) (in_slot slot image))
    (λ image. HasRecordsOrOneMore (map spelling items) (Some (spelling item)) (in_slot slot image))
    (LeavesOneOf kept slot at next) (LeavesOneOf kept slot at (Some after))
    (λ image has files holds. bytes_stand items kept told known state stored files holds at next
    (in_slot slot image) stands leads has)
    (λ image has files holds. bytes_stand items kept told known (failed item doubtful) doubted files holds at
    (Some after) (in_slot slot image) (subst (λ store. IsStateOf told store at) (sym same) stands)
    (subst (λ store. LeadsTo told store (Some item) (Some after)) (sym same) leads_after) has) moments
