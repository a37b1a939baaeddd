use Rattle.std.proofs.Common.{◌∷◌, ap, inl, inr, length, [], None, Some, refl, rules, subst, sym, arith}
use Rattle.tsdb_outside.specs.Moments.{other}
use Rattle.tsdb_frames.specs.Asides.{IsAsideOn}
use Rattle.tsdb_frames.specs.Log.{HasRecordsOrOneMore, IsLogOn, payload_of}
use Rattle.tsdb_frames.specs.Slots.{HasRecords}
use Rattle.tsdb_frames.specs.declared.aside.Aside.{Aside}
use Rattle.tsdb_frames.proofs.AsideLemmas.{doubted_on, empty_at, first_then_at, log_at}
use Rattle.tsdb_frames.proofs.frames.Frames.begin_aside.Goals as goal

pub returns-in-Ok-clause-turned : goal.returns-in-Ok-clause-turned
returns-in-Ok-clause-turned g c closed none =
    let place = c.other_slot-slot.result in
    let framed = c.args.framed.now in
    let log = c.in-Ok.ensures.added [] (empty_at c.args.self.now.slot place c.other_slot-slot.ensures (g.J.Disk.state c.args.self.now.journal) closed.told
    closed.closed) in
    record {
      stands = subst (λ n. IsLogOn (g.J.Disk.state c.write_record.new.journal) place n (payload_of framed ∷ []) None) (omega arith) log;
      doubt = none;
      first = ap length c.requires.frame.bytes;
    }

pub returns-in-Ok-clause-moments : goal.returns-in-Ok-clause-moments
returns-in-Ok-clause-moments g c closed =
    let slot = c.args.self.now.slot in
    let place = c.other_slot-slot.result in
    let old = g.J.Disk.state c.args.self.now.journal in
    first_then_at slot place c.other_slot-slot.ensures old (g.J.Disk.state c.write_record.new.journal) (HasRecords [])
    (HasRecordsOrOneMore [] (Some (payload_of c.args.framed.now)))
    (c.write_record.ensures.moments [] (empty_at slot place c.other_slot-slot.ensures old closed.told closed.closed))

pub returns-in-Err-Closed-clause-failed : goal.returns-in-Err-Closed-clause-failed
returns-in-Err-Closed-clause-failed g c closed =
    let slot = c.args.self.now.slot in
    let place = c.other_slot-slot.result in
    let new = g.J.Disk.state c.write_record.new.journal in
    let log = log_at slot place c.other_slot-slot.ensures new 0 [] None (c.in-Err-Closed.ensures.closed (search rules) []
    (empty_at slot place c.other_slot-slot.ensures (g.J.Disk.state c.args.self.now.journal) closed.told closed.closed)) in
    inl (record {
      told = log.told;
      stands = subst (λ (a : Aside). IsAsideOn new (other slot) a (Some [])) (sym closed.state) (log.left, refl);
    })

pub returns-in-Err-Closed-clause-moments : goal.returns-in-Err-Closed-clause-moments
returns-in-Err-Closed-clause-moments g c closed =
    let slot = c.args.self.now.slot in
    let place = c.other_slot-slot.result in
    let old = g.J.Disk.state c.args.self.now.journal in
    first_then_at slot place c.other_slot-slot.ensures old (g.J.Disk.state c.write_record.new.journal) (HasRecords [])
    (HasRecordsOrOneMore [] (Some (payload_of c.args.framed.now)))
    (c.write_record.ensures.moments [] (empty_at slot place c.other_slot-slot.ensures old closed.told closed.closed))

pub returns-in-Err-Doubted-clause-failed : goal.returns-in-Err-Doubted-clause-failed
returns-in-Err-Doubted-clause-failed g c closed =
    let slot = c.args.self.now.slot in
    let place = c.other_slot-slot.result in
    let new = g.J.Disk.state c.write_record.new.journal in
    let payload = payload_of c.args.framed.now in
    let log = log_at slot place c.other_slot-slot.ensures new 0 [] (Some payload) (c.in-Err-Doubted.ensures.doubted (search rules) []
    (empty_at slot place c.other_slot-slot.ensures (g.J.Disk.state c.args.self.now.journal) closed.told closed.closed)) in
    inr (refl, record { told = log.told; stands = doubted_on new (other slot) payload log })

pub returns-in-Err-Doubted-clause-moments : goal.returns-in-Err-Doubted-clause-moments
returns-in-Err-Doubted-clause-moments g c closed =
    let slot = c.args.self.now.slot in
    let place = c.other_slot-slot.result in
    let old = g.J.Disk.state c.args.self.now.journal in
    first_then_at slot place c.other_slot-slot.ensures old (g.J.Disk.state c.write_record.new.journal) (HasRecords [])
    (HasRecordsOrOneMore [] (Some (payload_of c.args.framed.now)))
    (c.write_record.ensures.moments [] (empty_at slot place c.other_slot-slot.ensures old closed.told closed.closed))
