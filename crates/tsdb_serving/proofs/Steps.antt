-- Steps of a core, one behind another, and those that leave the log as it was.
use Rattle.std.proofs.Common.{◌≡◌, ◌≢◌, ℕ, List, ◌++◌, Option, None, Some, inl, inr, refl, sym, subst, arith}
use Rattle.std.proofs.lemmas.List.{append_assoc}
use Rattle.std.specs.List.{AllByRecursion as Each}
use Rattle.tsdb_core.specs.Core.{logged_of}
use Rattle.tsdb_core.specs.declared.engine.Core.{Core}
use Rattle.tsdb_frames.proofs.MomentLemmas.{leaves_on, weaker}
use Rattle.tsdb_frames.specs.Frames.{disk_of}
use Rattle.tsdb_frames.specs.declared.frames.Frames.{Frames}
use Rattle.tsdb_state.proofs.ImageLemmas.Leaving.{image_stands}
use Rattle.tsdb_state.specs.StoredEngine.{LeavesOneOf}
use Rattle.tsdb_base.proofs.Lists.{each_append, each_weaker}
use Rattle.tsdb_memory.specs.LogState.{log_of}
use Rattle.tsdb_model.specs.State as plain
use Rattle.tsdb_outside.specs.Disk.{Image, IsLawful, DiskState}
use Rattle.tsdb_outside.specs.Files.{StoredFile}
use Rattle.tsdb_outside.specs.Moments.{LeavesOnly}
use Rattle.tsdb_outside.specs.declared.disk.Disk as disk
use Rattle.tsdb_outside.specs.declared.disk.Slot.{Slot}
use Rattle.tsdb_outside.specs.declared.faults.Counted as counted
use Rattle.tsdb_serving.proofs.Differing.{Differ, differ_on}
use Rattle.tsdb_serving.proofs.Held.{as_before, doubt_on, held_more, same_state, wider}
use Rattle.tsdb_serving.specs.Serving.{AreHeldWith, IsServedBy, IsServing, LeavesEither, disk_under}
use Rattle.tsdb_serving.specs.Serving.{slot_under}
use Rattle.tsdb_serving.specs.declared.loan.Loan.{Loan}

-- time passes over nothing
pub idle : (disk : DiskState) (P : Image → Type 0) → IsLawful disk → ((image : Image) → disk.may_leave image → P image)
    → LeavesOnly disk disk P
idle disk P laws each = record {
  passes = record { later = omega arith; nothing_else = λ t image le left. inl left; keeps = λ t image le left. left };
  each = λ image left. each image (laws.only_now image left);
}

module _ {J F S R P : Type 0} {means : disk.Ghosts J} {counts : counted.Ghosts J}
    (laws : (journal : J) → IsLawful (means.state journal)) where
  -- what a stop leaves of a core that is in the state
  pub image_left : (loans : List (Loan F S R P)) (core : Core J F S R P means counts) (files : List StoredFile)
      (at : plain.State) (next : Option plain.State) (image : Image) → IsServing loans core files at next
      → (disk_under core).may_leave image → LeavesOneOf files (slot_under core) at next image
  image_left loans core files at next image serving left =
      wider serving.outside.kept files (slot_under core) at next image serving.held
      (image_stands serving.outside.items serving.outside.kept serving.outside.told serving.outside.known serving.state
      serving.seen.sound.stored at next serving.stands serving.doubt (slot_under core) (disk_under core)
      core.logged.frames.gate image serving.seen.sound.log.log.stands left)

  -- a step that leaves the log as it was, and the state
  pub quiet : (Q : ℕ → Type 0) (loans left : List (Loan F S R P)) (old new : Core J F S R P means counts)
      (files put : List StoredFile) (at : plain.State) (next : Option plain.State) (after : plain.State)
      → log_of (logged_of new) ≡ log_of (logged_of old) → Each (λ (file : StoredFile). Q file.number) put → Differ put
      → IsServing loans old files at next → IsServing left new (files ++ put) at next
      → IsServedBy Q left old new files at next after at
  quiet Q loans left old new files put at next after same numbers differ before serving = record {
    put = put;
    numbers = numbers;
    differ = differ;
    doubt = next;
    may = inr (inl refl);
    serving = serving;
    moments = subst (λ (log : Frames J means counts). LeavesOnly (disk_under old) (disk_of log)
        (LeavesEither (files ++ put) (slot_under old) at next after)) (sym same)
        (idle (disk_under old) (LeavesEither (files ++ put) (slot_under old) at next after)
        (laws old.logged.frames.journal)
        (λ image left_of. inl (wider files (files ++ put) (slot_under old) at next image
        (held_more files files put (λ there holds. holds))
        (image_left loans old files at next image before left_of))));
  }

  pub quiet_left : (Q : ℕ → Type 0) (loans left : List (Loan F S R P)) (old new : Core J F S R P means counts)
      (files put : List StoredFile) (at : plain.State) (next : Option plain.State) (after : plain.State)
      (same : log_of (logged_of new) ≡ log_of (logged_of old)) (numbers : Each (λ (file : StoredFile). Q file.number) put)
      (differ : Differ put) (before : IsServing loans old files at next)
      (serving : IsServing left new (files ++ put) at next)
      → (quiet Q loans left old new files put at next after same numbers differ before serving).doubt ≡ next
  unfolding quiet
  quiet_left Q loans left old new files put at next after same numbers differ before serving = refl

  -- a step that keeps the state, and then a command, which puts files of other numbers
  module _ (A B Q : ℕ → Type 0) (from_first : (n : ℕ) → A n → Q n) (from_second : (n : ℕ) → B n → Q n)
      (apart : (a b : ℕ) → A a → B b → a ≢ b) (loans left : List (Loan F S R P)) (old mid new : Core J F S R P means counts)
      (files : List StoredFile) (at : plain.State) (next : Option plain.State) (after now : plain.State)
      (slot : slot_under mid ≡ slot_under old) (first : IsServedBy A loans old mid files at next at at)
      (second : IsServedBy B left mid new (files ++ first.put) at first.doubt after now) where
    abbrev both : List StoredFile
    both = first.put ++ second.put

    joined : (files ++ first.put) ++ second.put ≡ files ++ both
    joined = append_assoc files first.put second.put

    abbrev AtAll : Image → Type 0
    AtAll = LeavesEither (files ++ both) (slot_under old) at next after

    more : AreHeldWith (files ++ first.put) (files ++ both)
    more = subst (AreHeldWith (files ++ first.put)) joined
        (held_more (files ++ first.put) (files ++ first.put) second.put (λ there holds. holds))

    begins : (image : Image) → LeavesEither (files ++ first.put) (slot_under old) at next at image
        → AtAll image
    begins image (inl leaves) =
        inl (wider (files ++ first.put) (files ++ both) (slot_under old) at next image more leaves)
    begins image (inr leaves) = inl (same_state (files ++ both) (slot_under old) at next image
        (wider (files ++ first.put) (files ++ both) (slot_under old) at (Some at) image more leaves))

    at_old : (list : List StoredFile) (place : Slot) (image : Image) → place ≡ slot_under old → list ≡ files ++ both
        → LeavesEither list place at first.doubt after image
        → LeavesEither (files ++ both) (slot_under old) at first.doubt after image
    at_old list place image is are leaves =
        subst (λ l. LeavesEither l (slot_under old) at first.doubt after image) are
        (subst (λ s. LeavesEither list s at first.doubt after image) is leaves)

    last : (image : Image) → LeavesEither (files ++ both) (slot_under old) at first.doubt after image
        → AtAll image
    last image (inl leaves) =
        inl (as_before (files ++ both) (slot_under old) at next first.doubt image first.may leaves)
    last image (inr leaves) = inr leaves

    ends : (image : Image)
        → LeavesEither ((files ++ first.put) ++ second.put) (slot_under mid) at first.doubt after image
        → AtAll image
    ends image leaves =
        last image (at_old ((files ++ first.put) ++ second.put) (slot_under mid) image slot joined leaves)

    pub then : IsServedBy Q left old new files at next after now
    then = record {
      put = both;
      numbers = each_append (λ (file : StoredFile). Q file.number) first.put second.put
          (each_weaker (λ (file : StoredFile). A file.number) (λ (file : StoredFile). Q file.number)
          (λ file has. from_first file.number has) first.put first.numbers)
          (each_weaker (λ (file : StoredFile). B file.number) (λ (file : StoredFile). Q file.number)
          (λ file has. from_second file.number has) second.put second.numbers);
      differ = differ_on A B apart first.put second.put first.numbers second.numbers first.differ second.differ;
      doubt = second.doubt;
      may = doubt_on next first.doubt second.doubt at after first.may second.may;
      serving = subst (λ list. IsServing left new list now second.doubt) joined second.serving;
      moments = leaves_on (disk_under old) (disk_under mid) (disk_under new) (laws new.logged.frames.journal) AtAll
          (weaker (disk_under old) (disk_under mid)
          (LeavesEither (files ++ first.put) (slot_under old) at next at) AtAll begins first.moments)
          (weaker (disk_under mid) (disk_under new)
          (LeavesEither ((files ++ first.put) ++ second.put) (slot_under mid) at first.doubt after) AtAll ends
          second.moments);
    }

    pub then_settled : second.doubt ≡ None → then.doubt ≡ None
    unfolding then
    then_settled is = is

    pub then_left : then.doubt ≡ second.doubt
    unfolding then
    then_left = refl

  -- the same of a state that is written otherwise
  pub moved : (Q : ℕ → Type 0) (left : List (Loan F S R P)) (old new : Core J F S R P means counts)
      (files : List StoredFile) (at : plain.State) (next : Option plain.State) (after now later : plain.State)
      → now ≡ later → IsServedBy Q left old new files at next after now → IsServedBy Q left old new files at next after later
  moved Q left old new files at next after now later is served = record {
    put = served.put;
    numbers = served.numbers;
    differ = served.differ;
    doubt = served.doubt;
    may = served.may;
    serving = subst (λ state. IsServing left new (files ++ served.put) state served.doubt) is served.serving;
    moments = served.moments;
  }

  pub moved_left : (Q : ℕ → Type 0) (left : List (Loan F S R P)) (old new : Core J F S R P means counts)
      (files : List StoredFile) (at : plain.State) (next : Option plain.State) (after now later : plain.State)
      (is : now ≡ later) (served : IsServedBy Q left old new files at next after now)
      → (moved Q left old new files at next after now later is served).doubt ≡ served.doubt
  unfolding moved
  moved_left Q left old new files at next after now later is served = refl
