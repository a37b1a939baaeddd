-- How the moments of calls go together.
use Rattle.std.proofs.Common.{inl, inr, ⊎_elim, ◌∙◌, arith}
use Rattle.tsdb_outside.specs.Disk.{Image, DiskState, IsLawful, Elapses}
use Rattle.tsdb_outside.specs.declared.disk.Slot.{Slot}
use Rattle.tsdb_outside.specs.Moments.{LeavesOnly, LeavesFirstThen, IsUntouched}
use Rattle.tsdb_frames.specs.Turns.{LeavesInTurn}

pub weaker : (old new : DiskState) (P Q : Image → Type 0) → ((image : Image) → P image → Q image) → LeavesOnly old new P → LeavesOnly old new Q
weaker old new P Q wider leaves = record { passes = leaves.passes; each = λ image left. wider image (leaves.each image left) }

module _ (old mid new : DiskState) (laws : IsLawful new) where
  passes_on : Elapses old mid (mid.left_since old.moment) → Elapses mid new (new.left_since mid.moment)
      → Elapses old new (new.left_since old.moment)
  passes_on first second = record {
    later = omega (arith, first.later, second.later);
    nothing_else = λ t image le left. ⊎_elim
        (λ earlier. ⊎_elim (λ before. inl before) (λ since. inr (second.keeps old.moment image first.later since)) (first.nothing_else t image le earlier))
        (λ later. inr (laws.since_earlier old.moment mid.moment image first.later later))
        (second.nothing_else t image (omega (arith, le, first.later)) left);
    keeps = λ t image le left. second.keeps t image (omega (arith, le, first.later)) (first.keeps t image le left);
  }

  -- one call and then another
  pub leaves_on : (P : Image → Type 0) → LeavesOnly old mid P → LeavesOnly mid new P → LeavesOnly old new P
  leaves_on P first second = record {
    passes = passes_on first.passes second.passes;
    each = λ image left. ⊎_elim (first.each image) (second.each image) (second.passes.nothing_else old.moment image first.passes.later left);
  }

  -- a call that leaves what has P, and then one that leaves what has Q
  pub first_then : (P Q : Image → Type 0) → LeavesOnly old mid P → LeavesOnly mid new Q → LeavesFirstThen old new P Q
  first_then P Q first second = inr (record {
    passes = passes_on first.passes second.passes;
    turn = mid.moment;
    begins = first.passes.later;
    ends = second.passes.later;
    until = λ image left. ⊎_elim (λ earlier. inl (first.each image earlier)) (λ since. inr since)
        (second.passes.nothing_else old.moment image first.passes.later left);
    from_then = second.each;
  })

  -- a call that leaves what has P, and then one that leaves what has Q, and from some moment on what has R
  pub then_turns : (P Q R : Image → Type 0) → LeavesOnly old mid P → LeavesFirstThen mid new Q R → LeavesInTurn old new P Q R
  then_turns P Q R first (inl second) = inl (first_then P Q first second)
  then_turns P Q R first (inr turns) = inr (record {
    passes = passes_on first.passes turns.passes;
    turn = mid.moment;
    second = turns.turn;
    begins = first.passes.later;
    goes_on = turns.begins;
    ends = turns.ends;
    until = λ image left. ⊎_elim (λ earlier. inl (first.each image earlier)) (λ since. inr since)
        (turns.passes.nothing_else old.moment image first.passes.later left);
    from_then = turns.until;
    at_last = turns.from_then;
  })

-- one call and then another
pub elsewhere_on : (slot : Slot) (old mid new : DiskState) → IsLawful mid → IsLawful new → LeavesOnly old mid (IsUntouched slot old)
    → LeavesOnly mid new (IsUntouched slot mid) → LeavesOnly old new (IsUntouched slot old)
elsewhere_on slot old mid new mid_laws laws first second =
    leaves_on old mid new laws (IsUntouched slot old) first
    (weaker mid new (IsUntouched slot mid) (IsUntouched slot old) (λ image from. earlier image from) second)
  where
    earlier : (image : Image) → IsUntouched slot mid image → IsUntouched slot old image
    earlier image from =
        let first_from = first.each from.before (mid_laws.counts_now old.moment from.before first.passes.later from.left) in
        record { before = first_from.before; left = first_from.left; same = from.same ∙ first_from.same }
