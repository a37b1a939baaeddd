-- What a stop leaves at the moments of a row.
use Rattle.std.proofs.Common.{◌≡◌, ◌⊎◌, ◌+◌, ℕ, ap, inl, inr, ⊎_elim, List, Option, Some, None, refl, sym, subst}
use Rattle.tsdb_memory.proofs.Following.{froze_stands}
use Rattle.tsdb_base.specs.declared.answers.Answer.{Answer}
use Rattle.tsdb_base.specs.declared.answers.Answer.TheVariants as answer
use Rattle.tsdb_core.proofs.Worlds.{order_seen}
use Rattle.tsdb_core.specs.Core.{IsSeen, logged_of}
use Rattle.tsdb_core.specs.RowSteps.{CanFreezeFor}
use Rattle.tsdb_core.specs.Rows.{HasRowPlace, IsFrozenFor, IsRowPut, IsRowCommand, LeavesRow}
use Rattle.tsdb_core.specs.declared.engine.Core.{Core}
use Rattle.tsdb_frames.proofs.MomentLemmas.{leaves_on, weaker}
use Rattle.tsdb_frames.specs.Frames.{disk_of, slot_of}
use Rattle.tsdb_state.proofs.ImageLemmas.Leaving.{image_stands}
use Rattle.tsdb_state.specs.StoredEngine.{LeadsTo, LeavesOneOf}
use Rattle.tsdb_log.specs.declared.record.LogRecord.TheVariants.{Freeze}
use Rattle.tsdb_memory.specs.LogState.{Outside, log_of, with_record}
use Rattle.tsdb_model.specs.History.{state_after}
use Rattle.tsdb_model.specs.State as plain
use Rattle.tsdb_model.specs.declared.command.Command.TheVariants as command
use Rattle.tsdb_model.specs.declared.command.Row.{Row}
use Rattle.tsdb_model.specs.declared.reply.Reply.TheVariants.{Plain}
use Rattle.tsdb_outside.proofs.DiskLemmas.{Elapses-same}
use Rattle.tsdb_outside.specs.Disk.{Image, DiskState}
use Rattle.tsdb_outside.specs.Files.{StoredFile}
use Rattle.tsdb_outside.specs.Moments.{LeavesOnly}
use Rattle.tsdb_outside.specs.declared.disk.Disk as disk
use Rattle.tsdb_outside.specs.declared.disk.Slot.{Slot}
use Rattle.tsdb_outside.specs.declared.faults.Counted as counted
use Rattle.tsdb_state.specs.Stores.{IsStateOf}
use Rattle.tsdb_state.proofs.Inserting.{inserted_stands}
use Rattle.tsdb_state.specs.Commands.{AreCells}
use Rattle.tsdb_state.specs.Records.{CanFreeze, froze}
use Rattle.tsdb_state.specs.State.{EngineState, StoreState, ToldContents}
use Rattle.tsdb_state.specs.Steps.{wrote}
use Rattle.tsdb_state.specs.StoreOrder.{StoreInOrder}

-- a stop leaves one state, or the next one; or the one, or the one after the row
abbrev Leaves : List StoredFile → Slot → plain.State → Option plain.State → plain.State → Image → Type 0
Leaves kept slot at next after image =
    LeavesOneOf kept slot at next image ⊎ LeavesOneOf kept slot at (Some after) image

-- the state after a row that is accepted
abbrev after_row : List ℕ → Row → plain.State → plain.State
after_row device row at = state_after at (command.Insert device row) (Plain answer.Done)

-- a freeze keeps the state
frozen_state : (told : ToldContents) (store : StoreState) (at : plain.State) → StoreInOrder told store → CanFreeze store
    → IsStateOf told store at → IsStateOf told (froze store) at
frozen_state told store at order can stands =
    record { world = froze_stands told store at.world order can stands.world; stamp = stands.stamp }

no_next : (kept : List StoredFile) (slot : Slot) (at : plain.State) (next : Option plain.State) (image : Image)
    → LeavesOneOf kept slot at None image → LeavesOneOf kept slot at next image
no_next kept slot at None image left = left
no_next kept slot at (Some next) image left = λ files holds. inl (left files holds)

-- what a freeze leaves, which keeps the state of the model
freeze_leaves : (kept : List StoredFile) (slot : Slot) (at : plain.State) (next : Option plain.State)
    (after : plain.State) (image : Image)
    → Leaves kept slot at next at image → Leaves kept slot at next after image
freeze_leaves kept slot at next after image (inl left) = inl left
freeze_leaves kept slot at next after image (inr left) =
    inr (λ files holds. inl (⊎_elim (λ same. same) (λ same. same) (left files holds)))

-- what a record leaves behind which none is in doubt
record_leaves : (kept : List StoredFile) (slot : Slot) (at : plain.State) (next : Option plain.State)
    (after : plain.State) (image : Image)
    → Leaves kept slot at None after image → Leaves kept slot at next after image
record_leaves kept slot at next after image (inl left) = inl (no_next kept slot at next image left)
record_leaves kept slot at next after image (inr left) = inr left

module _ {J F S R P : Type 0} {means : disk.Ghosts J} {counts : counted.Ghosts J} where
  abbrev disk_in : Core J F S R P means counts → DiskState
  disk_in core = disk_of (log_of (logged_of core))

  abbrev slot_in : Core J F S R P means counts → Slot
  slot_in core = slot_of (log_of (logged_of core))

  -- where nothing was done
  pub still_leaves : (device : List ℕ) (row : Row) (core : Core J F S R P means counts) → LeavesRow device row core core
  still_leaves device row core outside state at next seen stands leads = record {
    passes = Elapses-same (disk_in core) ((disk_in core).left_since (disk_in core).moment);
    each = λ image left. inl (image_stands outside.items outside.kept outside.told outside.known state
        seen.sound.stored at next stands leads (slot_in core) (disk_in core) (log_of core.logged).gate image
        seen.sound.log.log.stands ((means.lawful (log_of core.logged).journal).only_now image left));
  }

  module _ (device : List ℕ) (row : Row) (old : Core J F S R P means counts) (can : CanFreezeFor row old) where
    same_leaves : (new : Core J F S R P means counts) → new ≡ old → LeavesRow device row old new
    same_leaves new same = subst (λ core. LeavesRow device row old core) (sym same) (still_leaves device row old)

    frozen_leaves : (new : Core J F S R P means counts) (result : Answer) → IsFrozenFor row old new result
        → LeavesRow device row old new
    frozen_leaves new result frozen outside state at next seen stands leads =
        let after = after_row device row at in
        weaker (disk_in old) (disk_in new) (Leaves outside.kept (slot_in old) at next at)
        (Leaves outside.kept (slot_in old) at next after)
        (freeze_leaves outside.kept (slot_in old) at next after)
        (frozen.freeze.moments outside state seen tt at at next stands leads
        (frozen_state outside.told state.store at (order_seen old outside state seen)
        (can outside state seen frozen.full) stands))

    -- the record of the row, of a core that shows this state
    record_moments : (between new : Core J F S R P means counts) (result : Answer)
        (put : IsRowPut device row old new result) → put.between ≡ between → (outside : Outside) (state : EngineState)
        (at : plain.State) (next : Option plain.State) → IsSeen put.between outside state
        → IsStateOf outside.told state.store at → LeadsTo outside.told state.store state.doubt next
        → LeavesOnly (disk_in put.between) (disk_in new)
        (Leaves outside.kept (slot_in put.between) at next (after_row device row at))
    record_moments between new result put is outside state at next seen stands leads =
        put.put.moments outside state seen tt at (after_row device row at) next stands leads
        (record {
          world = inserted_stands outside.told device row put.cells state.store
              (order_seen put.between outside state seen) (put.can outside state seen).0 at.world stands.world
              (subst (λ schemas. AreCells schemas device row.cells put.cells) (sym seen.sound.memory.schemas) put.are);
          stamp = ap (λ n. n + 1) stands.stamp;
        })

    put_leaves : (new : Core J F S R P means counts) (result : Answer) (put : IsRowPut device row old new result)
        → LeavesRow device row old new
    put_leaves new result put outside state at next seen stands leads = by put.place
      where
        after : plain.State
        after = after_row device row at

        by : HasRowPlace row old put.between
            → LeavesOnly (disk_in old) (disk_in new) (Leaves outside.kept (slot_in old) at next after)
        by (inl same) = subst (λ core. LeavesOnly (disk_in core) (disk_in new)
            (Leaves outside.kept (slot_in core) at next after)) same.1
            (record_moments put.between new result put refl outside state at next
            (subst (λ core. IsSeen core outside state) (sym same.1) seen) stands leads)
        by (inr frozen) =
            let frozen_at = frozen_state outside.told state.store at (order_seen old outside state seen)
            (can outside state seen frozen.full) stands in
            leaves_on (disk_in old) (disk_in put.between) (disk_in new)
            (means.lawful (log_of (logged_of new)).journal)
            (Leaves outside.kept (slot_in old) at next after)
            (frozen_leaves put.between answer.Done frozen outside state at next seen stands leads)
            (weaker (disk_in put.between) (disk_in new) (Leaves outside.kept (slot_in old) at None after)
            (Leaves outside.kept (slot_in old) at next after)
            (record_leaves outside.kept (slot_in old) at next after)
            (subst (λ slot. LeavesOnly (disk_in put.between) (disk_in new) (Leaves outside.kept slot at None after))
            frozen.freeze.slot.same
            (record_moments put.between new result put refl (with_record Freeze outside) (wrote Freeze state) at None
            (frozen.freeze.step outside state seen tt) frozen_at tt)))

    pub row_leaves : (new : Core J F S R P means counts) (result : Answer) → IsRowCommand device row old new result
        → LeavesRow device row old new
    row_leaves new answer.Done put = put_leaves new answer.Done put
    row_leaves new answer.NoPath same = same_leaves new same
    row_leaves new answer.WrongType same = same_leaves new same
    row_leaves new answer.Exists same = same_leaves new same
    row_leaves new answer.Device (inl put) = put_leaves new answer.Device put
    row_leaves new answer.Device (inr frozen) = frozen_leaves new answer.Device frozen
    row_leaves new answer.Memory (inl same) = same_leaves new same
    row_leaves new answer.Memory (inr (inl put)) = put_leaves new answer.Memory put
    row_leaves new answer.Memory (inr (inr frozen)) = frozen_leaves new answer.Memory frozen
    row_leaves new (answer.Full counter) same = same_leaves new same
