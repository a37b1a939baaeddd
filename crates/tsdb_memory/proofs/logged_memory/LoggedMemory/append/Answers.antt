use Rattle.std.proofs.Common.{◌≡◌, ℕ, List, Ok, Err, ap, refl, subst, ◌∙◌}
use Rattle.std.proofs.lemmas.Result.{err_from_is_err_and}
use Rattle.tsdb_frames.specs.Appends.{IsAppend}
use Rattle.tsdb_frames.specs.Log.{payload_of}
use Rattle.tsdb_log.specs.Spelling.{spelling}
use Rattle.tsdb_memory.proofs.LogLemmas.Appending.{settling_failed, then_appended}
use Rattle.tsdb_memory.proofs.logged_memory.LoggedMemory.append.Goals as goal

pub returns-in_err-frame_record-clause-end : goal.returns-in_err-frame_record-clause-end
returns-in_err-frame_record-clause-end g c =
    let p = err_from_is_err_and c.from_residual.result c.from_residual.ensures.1 in
    rw (p.1, p.2) (record { log = refl; doubted = refl }, c.in_err-frame_record.ensures.room)

pub returns-in_err-settle-clause-end : goal.returns-in_err-settle-clause-end
returns-in_err-settle-clause-end g c =
    let p = err_from_is_err_and c.from_residual-in_err-settle.result c.from_residual-in_err-settle.ensures.1 in
    rw (p.1, p.2) (
      c.in_ok-frame_record.ensures.record,
      settling_failed c.args.self.now
          (record c.args.self.now { frames = c.settle.new.self; framed = c.frame_record.new.framed })
          c.args.item.now c.in_err-settle.field-0.0 c.in_err-settle.ensures.failed c.in_err-settle.ensures.moments
          c.in_err-settle.ensures.slot c.in_err-settle.ensures.cause refl,
    )

pub returns-in_err-append-clause-end : goal.returns-in_err-append-clause-end
returns-in_err-append-clause-end g c =
    let p = err_from_is_err_and c.from_residual-in_err-append.result c.from_residual-in_err-append.ensures.1 in
    let payload : payload_of c.deref.result.now ≡ spelling c.args.item.now =
    ap (λ (l : List ℕ). payload_of l) c.deref.ensures.value ∙ c.in_ok-frame_record.ensures.payload in
    rw (p.1, p.2) (
      c.in_ok-frame_record.ensures.record,
      then_appended c.args.self.now (record c.args.self.now {
        frames = c.append.new.self;
        framed = c.frame_record.new.framed;
        doubted = c.named_files-self.result;
      }) c.settle.new.self c.args.item.now c.in_ok-settle.ensures.settled c.in_ok-settle.ensures.moments
          c.in_ok-settle.ensures.slot c.in_ok-settle.ensures.cause.later c.named_files-self.ensures
          (Err c.in_err-append.field-0.0)
          (subst (λ (p : List ℕ). IsAppend c.settle.new.self c.append.new.self p (Err c.in_err-append.field-0.0)) payload
          (record {
            added = c.in_err-append.ensures.added;
            failed = c.in_err-append.ensures.failed;
            moments = c.in_err-append.ensures.moments;
            slot = c.in_err-append.ensures.slot;
            cause = c.in_err-append.ensures.cause;
          })),
    )

pub returns-clause-end : goal.returns-clause-end
returns-clause-end g c =
    let payload : payload_of c.deref.result.now ≡ spelling c.args.item.now =
    ap (λ (l : List ℕ). payload_of l) c.deref.ensures.value ∙ c.in_ok-frame_record.ensures.payload in (
      c.in_ok-frame_record.ensures.record,
      then_appended c.args.self.now (record c.args.self.now {
        frames = c.append.new.self;
        framed = c.frame_record.new.framed;
        doubted = c.named_files-self.result;
      }) c.settle.new.self c.args.item.now c.in_ok-settle.ensures.settled c.in_ok-settle.ensures.moments
          c.in_ok-settle.ensures.slot c.in_ok-settle.ensures.cause.later c.named_files-self.ensures (Ok tt)
          (subst (λ (p : List ℕ). IsAppend c.settle.new.self c.append.new.self p (Ok tt)) payload (record {
            added = c.in_ok-append.ensures.added;
            failed = c.in_ok-append.ensures.failed;
            moments = c.in_ok-append.ensures.moments;
            slot = c.in_ok-append.ensures.slot;
            cause = c.in_ok-append.ensures.cause;
          })),
    )
