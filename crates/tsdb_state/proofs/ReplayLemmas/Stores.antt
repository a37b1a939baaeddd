-- A store stands for one state; strays say nothing; whatever a stop leaves of a sound store stands for its state.
use Rattle.std.proofs.Common.{◌≡◌, inl, inr, ℕ, List, [], ◌∷◌, ◌++◌, map, Option, None, Some, refl, sym, ◌∙◌, subst}
use Rattle.std.specs.Prelude.{IsSome}
use Rattle.std.specs.FinMap.{empty, get}
use Rattle.std.specs.List.{All, AllByRecursion as Each}
use Rattle.std.specs.Option.{option_map}
use Rattle.std.proofs.lemmas.Bool.{false≢true}
use Rattle.std.proofs.lemmas.List.Elements.{All-nil}
use Rattle.tsdb_frames.specs.Log.{HasRecordsOrOneMore}
use Rattle.tsdb_frames.specs.Slots.{IsPayload}
use Rattle.tsdb_state.specs.Places.{Content}
use Rattle.tsdb_base.proofs.Lists.{each_both, each_left, each_right, each_weaker}
use Rattle.tsdb_state.proofs.LayerLemmas.Places.{same_content}
use Rattle.tsdb_log.specs.Spelling.{IsRecord, spelling}
use Rattle.tsdb_log.specs.declared.record.LogRecord.{LogRecord}
use Rattle.tsdb_model.specs.State as plain
use Rattle.tsdb_model.specs.World.{World}
use Rattle.tsdb_outside.specs.Disk.{Image, Keeps, DiskState, in_slot}
use Rattle.tsdb_outside.specs.declared.disk.Slot.{Slot}
use Rattle.tsdb_pages.specs.File.{IsFile}
use Rattle.tsdb_pages.specs.declared.tree.Tree.{Tree}
use Rattle.tsdb_pages.proofs.Files.{one_tree}
use Rattle.tsdb_state.specs.Replays.{IsReplayOfOneOf, Replays}
use Rattle.tsdb_state.specs.Stores.{BytesByNumber, IsTreeContent, IsSound, IsStoreOf, IsWhole, LeadsToState}
use Rattle.tsdb_state.specs.Stores.{Recorded, StoreStandsFor, StandsForOneOf, no_changes, store_steps}
use Rattle.tsdb_state.specs.Stores.{store_steps_determinate}
use Rattle.tsdb_state.proofs.ReplayLemmas.Doubts.{one_or_more}
use Rattle.tsdb_state.proofs.ReplayLemmas.Parted.{replay_once}
use Rattle.tsdb_state.proofs.Told.{value_same}
use Rattle.tsdb_state.proofs.NewStore.{new_store_in_order, new_store_stands}
use Rattle.tsdb_state.proofs.OneWorld.{stands_once as one_world}
use Rattle.tsdb_state.specs.Records.{after, names}
use Rattle.tsdb_state.specs.State.{File, StoreState, ToldContents}
use Rattle.tsdb_state.specs.Worlds as state

-- the store after a record
abbrev store_steps_after : LogRecord → Recorded → Recorded
store_steps_after item recorded = record { named = names item ++ recorded.named; store = after item recorded.store }

-- two options that have the same values are one
alike : {X : Type 0} (a b : Option X) → ((x : X) → a ≡ Some x → b ≡ Some x) → ((x : X) → b ≡ Some x → a ≡ Some x) → a ≡ b
alike None None to from = refl
alike None (Some y) to from = from y refl
alike (Some x) b to from = sym (to x refl)

-- a tree has one content
one_content : (tree : Tree) (a b : Content) → IsTreeContent tree a → IsTreeContent tree b → a ≡ b
one_content tree a b is_a is_b = same_content a b (λ place. alike (get a place) (get b place)
    (λ value has. (is_b place value).1 ((is_a place value).0 has))
    (λ value has. (is_a place value).1 ((is_b place value).0 has)))

-- the points of a file that is there are told by its bytes
pub one_told : (files : BytesByNumber) (a b : ToldContents) (file : File) → IsWhole files a file → IsWhole files b file
    → a file.number ≡ b file.number
one_told files a b file one other =
    let there : Some one.bytes ≡ Some other.bytes = sym one.there ∙ other.there in
    let bytes : one.bytes ≡ other.bytes = cc in
    let tree : one.tree ≡ other.tree = one_tree one.tree other.tree one.bytes one.is_tree one.is_made other.is_tree
    other.is_made one.is_file (subst (λ l. IsFile other.tree l) (sym bytes) other.is_file) in
    one_content other.tree (a file.number) (b file.number) (subst (λ t. IsTreeContent t (a file.number)) tree one.content)
    other.content

-- the state stands for the same world by whatever else is told of other files
stands_by : (a b : ToldContents) (store : StoreState) (world : World)
    → Each (λ (file : File). a file.number ≡ b file.number) (store.sequence ++ store.unsequence)
    → state.StandsFor a store world → state.StandsFor b store world
stands_by a b store world same stands = record {
  types = stands.types;
  values =
      λ place. stands.values place
      ∙ value_same a b store (each_left _ store.sequence _ same) (each_right _ store.sequence _ same) place;
}

-- a state of the plain model is a world and a stamp
one_state : (a b : plain.State) → a.world ≡ b.world → a.stamp ≡ b.stamp → a ≡ b
one_state a b world stamp =
    let made : World → ℕ → plain.State = λ w n. record { world = w; stamp = n } in
    let same : made a.world a.stamp ≡ made b.world b.stamp = cc in
    same

-- a store with its files is in one state
store_stands_once : (files : BytesByNumber) (store : StoreState) (a b : plain.State) → IsStoreOf files store a
    → IsStoreOf files store b → a ≡ b
store_stands_once files store a b one other =
    let told = each_both (IsWhole files one.told) (IsWhole files other.told)
    (λ (file : File). one.told file.number ≡ other.told file.number) (one_told files one.told other.told)
    (store.sequence ++ store.unsequence) one.whole other.whole in
    one_state a b (one_world other.told store a.world b.world
    (stands_by one.told other.told store a.world told one.stands.world) other.stands.world)
    (sym one.stands.stamp ∙ other.stands.stamp)

-- a log with the files that are there stands for one state
pub stands_once : (files : BytesByNumber) (bytes : List ℕ) (a b : plain.State) → StoreStandsFor files bytes a
    → StoreStandsFor files bytes b → a ≡ b
stands_once files bytes a b one other =
    let recorded : one.recorded ≡ other.recorded = replay_once store_steps store_steps_determinate bytes one.recorded
    other.recorded one.replayed other.replayed in
    store_stands_once files other.recorded.store a b (subst (λ (r : Recorded). IsStoreOf files r.store a) recorded
    one.store) other.store

-- files that are there besides say nothing
pub stands_with_more : (files more : BytesByNumber) (bytes : List ℕ) (at : plain.State)
    → ((number : ℕ) (bytes : List ℕ) → files number ≡ Some bytes → more number ≡ Some bytes)
    → StoreStandsFor files bytes at → StoreStandsFor more bytes at
stands_with_more files more bytes at there stands = record {
  recorded = stands.recorded;
  replayed = stands.replayed;
  store = record {
    told = stands.store.told;
    whole = each_weaker (IsWhole files stands.store.told) (IsWhole more stands.store.told) (λ file whole. record {
      bytes = whole.bytes;
      tree = whole.tree;
      there = there file.number whole.bytes whole.there;
      is_tree = whole.is_tree;
      is_made = whole.is_made;
      is_file = whole.is_file;
      content = whole.content;
    })
        (stands.recorded.store.sequence ++ stands.recorded.store.unsequence) stands.store.whole;
    order = stands.store.order;
    stands = stands.store.stands;
  };
}

-- a slot with the records of a store, or with these and the one in doubt, stands for the state or for the next one
pub stands_for_one_of : (files : BytesByNumber) (items : List LogRecord) (doubt : Option LogRecord) (recorded : Recorded)
    (at : plain.State) (next : Option plain.State) (bytes : List ℕ) → All IsRecord items
    → Replays store_steps store_steps.new_store items recorded → IsStoreOf files recorded.store at
    → LeadsToState files recorded doubt next
    → HasRecordsOrOneMore (map spelling items) (option_map spelling doubt) bytes
    → StandsForOneOf files bytes at next
stands_for_one_of files items None recorded at None bytes good replayed store leads has = record {
  recorded = recorded;
  replayed = one_or_more store_steps items None recorded bytes good replayed tt has;
  store = store;
}
stands_for_one_of files items None recorded at (Some next) bytes good replayed store leads has = absurd leads
stands_for_one_of files items (Some item) recorded at None bytes good replayed store leads has = absurd leads
stands_for_one_of files items (Some item) recorded at (Some next) bytes good replayed store leads has = by
    (one_or_more store_steps items (Some item) recorded bytes good replayed
    (leads.0, (store_steps_after item recorded, (leads.1, refl))) has)
  where
    by : IsReplayOfOneOf store_steps (Some item) bytes recorded → StandsForOneOf files bytes at (Some next)
    by (inl is) = inl (record { recorded = recorded; replayed = is; store = store })
    by (inr is) = inr (record {
      recorded = is.0;
      replayed = is.2;
      store = subst (λ (r : Recorded). IsStoreOf files r.store next) (sym is.1.1) leads.2;
    })

seen_some : (seen : Option Image) → IsSome seen → (image : Image) × (seen ≡ Some image)
seen_some None some = absurd (false≢true some)
seen_some (Some image) some = (image, refl)

-- whatever a stop leaves of a sound store stands for its state
pub sound_images : (slot : Slot) (disk : DiskState) (files : BytesByNumber) (at : plain.State) (image : Image)
    → IsSound slot disk files at → disk.may_leave image → StoreStandsFor files (in_slot slot image) at
sound_images slot disk files at image sound left =
    let seen = seen_some disk.seen sound.told in
    let there = sound.stands seen.0 seen.1 in
    record {
      recorded = there.recorded;
      replayed = record {
        items = there.replayed.items;
        good = there.replayed.good;
        records = sound.settled (map spelling there.replayed.items) seen.0 image seen.1 there.replayed.records left;
        replayed = there.replayed.replayed;
      };
      store = there.store;
    }

-- a call that writes nothing leaves a store sound
pub sound_kept : (slot : Slot) (old new : DiskState) (files : BytesByNumber) (at : plain.State) → Keeps old new
    → IsSound slot old files at → IsSound slot new files at
sound_kept slot old new files at keeps sound = record {
  told = subst (λ (s : Option Image). IsSome s) (sym keeps.seen) sound.told;
  settled = λ payloads seen image told has left. sound.settled payloads seen image (sym keeps.seen ∙ told) has
      (keeps.crash image left);
  stands = λ image told. sound.stands image (sym keeps.seen ∙ told);
}

-- the log of a new store has no records, and stands for the world without series
pub new_log_stands : (files : BytesByNumber) → StoreStandsFor files (0 ∷ []) no_changes
new_log_stands files = record {
  recorded = store_steps.new_store;
  replayed = record {
    items = [];
    good = All-nil IsRecord;
    records = record { fit = All-nil IsPayload; gate = 0; rest = []; split = refl; closed = λ e. absurd cc };
    replayed = refl;
  };
  store = record {
    told = λ number. empty;
    whole = tt;
    order = new_store_in_order (λ number. empty);
    stands = record { world = new_store_stands (λ number. empty); stamp = refl };
  };
}
