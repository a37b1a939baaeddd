use Rattle.std.proofs.Common.{◌≡◌, ℕ, ◌≤◌, List, [], ◌∷◌, ◌++◌, ap, drop, length, sym, subst, arith, rules}
use Rattle.tsdb_frames.specs.Slots.{IsPayload}
use Rattle.tsdb_log.proofs.Sizes.{short_records}
use Rattle.tsdb_log.specs.Spelling.{spelling}
use Rattle.tsdb_log.specs.declared.record.LogRecord.{LogRecord}
use Rattle.tsdb_log.specs.declared.record.LogRecord.TheVariants.{Create, Insert, Delete, Freeze, Flushed, Replaced, Snapshot}
use Rattle.tsdb_memory.proofs.framing.frame_record.Goals as goal

some : (item : LogRecord) → 1 ≤ length (spelling item)
some (Create path data_type encoding) = omega arith
some (Insert time cells) = omega arith
some (Delete path range) = omega arith
some Freeze = omega arith
some (Flushed sequence unsequence) = omega arith
some (Replaced born space place output sequence unsequence) = omega arith
some (Snapshot snapshot) = omega arith

pub close_frame-requires : goal.close_frame-requires
close_frame-requires c =
    let is : c.append_record.new.into.items ≡ (0 ∷ 0 ∷ 0 ∷ 0 ∷ []) ++ spelling c.args.item.now = search rules in
    subst IsPayload (sym (ap (λ (l : List ℕ). drop 4 l) is))
    (some c.args.item.now, short_records c.args.item.now c.in_ok-append_record.ensures.record c.requires.fits)
