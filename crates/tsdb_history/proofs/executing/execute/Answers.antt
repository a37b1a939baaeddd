-- One more command is served in each turn, and in the end all are.
use Rattle.std.proofs.Common.{◌≡◌, ◌∷◌, ◌++◌, [], ◌∙◌, add-one, ◌<◌, arith, length, length-take, refl, subst, sym, take}
use Rattle.std.proofs.Common.{drop, ◌+◌, ap}
use Rattle.std.specs.Prelude.{count_by, min, slice_index, slice_set, ◌-◌, ◌^◌, ◌≤◌}
use Rattle.std.proofs.Math.Seq.{take-length, take-suc}
use Rattle.std.proofs.lemmas.List.{length-set}
use Rattle.tsdb_history.proofs.Replies.{sure_still}
use Rattle.tsdb_history.proofs.SoFar.{SoFar, devices_more, few_of, nothing_so_far, one_more, whole_slice}
use Rattle.tsdb_history.proofs.Steps.{none_served, one_more_served, read_on, stays_on}
use Rattle.tsdb_history.specs.History.{IsHistory, IsInLineOrder, told_device, session_numbers}
use Rattle.tsdb_querying.proofs.Flushes.{stays_same}
use Rattle.tsdb_querying.specs.Serving.{IsSure}
use Rattle.tsdb_history.specs.declared.told.Told.{Told}
use Rattle.tsdb_script.specs.declared.numbered.Numbered.{Numbered}
use Rattle.tsdb_querying.specs.Flushing.{faults_under}
use Rattle.tsdb_querying.specs.Loans.{KeepsAll}
use Rattle.tsdb_querying.specs.Out.{KeepsOut}
use Rattle.tsdb_history.proofs.executing.execute.Goals as goal

pub next_index-index-requires-clause-few : goal.next_index-index-requires-clause-few
next_index-index-requires-clause-few g c =
    let done = take c.loop-numbered.numbered-index c.args.script.now in
    let session = c.numbered-item.result.session in
    let within : session < session_numbers =
    subst (λ (n : Numbered). n.session < session_numbers) (sym c.numbered-item.is)
    (c.requires.script.sessions c.loop-numbered.numbered-index c.numbered-item.result (omega arith)) in
    rw c.deref_mut.ensures.value (omega (
      arith,
      c.loop-numbered.invariant.so_far.counts_are session within,
      few_of done session,
      length-take c.loop-numbered.numbered-index c.args.script.now,
      c.requires.script.few,
    ))

pub serve-reply-requires-clause-ready : goal.serve-reply-requires-clause-ready
serve-reply-requires-clause-ready g c = λ lifetimes lives.
    let out = c.requires.ready.0 in (
      out,
      subst (λ s. KeepsOut s out c.loop-numbered.core) (sym c.loop-numbered.invariant.same_store)
          (c.loop-numbered.invariant.keeps_all out c.requires.ready.1),
    )

pub loop-numbered-init : goal.loop-numbered-init
loop-numbered-init g c = record {
  long = c.requires.room.long;
  placed = c.requires.room.len;
  capacity = omega (arith, c.requires.room.places);
  entries = [];
  so_far = rw c.requires.room.none (nothing_so_far c.args.room.counts.items c.requires.room.zero);
  same_store = refl;
  keeps_all = λ out kept. kept;
  stays = stays_same c.args.core.now;
  drawn = omega arith;
  served = λ tells loans files start serving. none_served g.J.Disk.lawful loans c.args.core.now files start serving;
  sure = λ sure. sure;
  devices = λ sure. rw c.requires.room.none (omega arith);
  later = (omega arith, omega arith);
  swept = λ read calm none. read;
}

pub loop-numbered-preserved : goal.loop-numbered-preserved
loop-numbered-preserved g c =
    let script = c.args.script.now in
    let at = c.loop-numbered.numbered-index in
    let numbered = c.numbered-item.result in
    let old = c.loop-numbered.counts.items in
    let new = c.next_index-index.new.counts in
    let first = c.args.core.now in
    let mid = c.loop-numbered.core in
    let core = c.serve-reply.new.core in
    let store = g.F.Port.Port.store c.args.port.now in
    let told : Told = record { session = numbered.session; index = c.next_index-index.result; reply = c.serve-reply.result } in
    let counts_are : new ≡ slice_set old numbered.session (slice_index old numbered.session + 1) =
    c.next_index-index.ensures.after
    ∙ ap (λ l. slice_set l numbered.session (slice_index l numbered.session + 1)) c.deref_mut.ensures.value in
    let index : told.index ≡ slice_index old numbered.session =
    c.next_index-index.ensures.index ∙ ap (λ l. slice_index l numbered.session) c.deref_mut.ensures.value in
    let long : length new ≡ session_numbers =
    ap length counts_are ∙ length-set old numbered.session (slice_index old numbered.session + 1)
    ∙ c.loop-numbered.invariant.long in
    let whole : take c.loop-numbered.counts.len (new ++ drop (length new) old) ≡ new =
    whole_slice c.loop-numbered.counts.len new old
    (omega (arith, long, c.loop-numbered.invariant.long, c.loop-numbered.counts.ok.0))
    (omega (arith, c.loop-numbered.counts.ok.0)) in
    let next : take (at + 1) script ≡ take at script ++ numbered ∷ [] =
    ap (λ n. take n script) (add-one at) ∙ take-suc script at numbered (omega arith)
    ∙ ap (λ x. take at script ++ x ∷ []) (sym c.numbered-item.is) in
    let within : numbered.session < session_numbers =
    subst (λ (n : Numbered). n.session < session_numbers) (sym c.numbered-item.is)
    (c.requires.script.sessions at numbered (omega arith)) in
    let entries = c.loop-numbered.invariant.entries in
    let more = entries ++ record { command = numbered.command; reply = told.reply } ∷ [] in
    let pushed : SoFar (take at script ++ numbered ∷ []) (c.loop-numbered.history.items ++ told ∷ []) more new =
    one_more (take at script) c.loop-numbered.history.items entries old new numbered told
    c.loop-numbered.invariant.so_far c.loop-numbered.invariant.long within refl index counts_are in
    let same : c.push.new.self.items ≡ c.loop-numbered.history.items ++ told ∷ [] = c.in-Ok.ensures.items in
    let same_store = c.loop-numbered.invariant.same_store in
    let later = c.serve-reply.ensures.serves.later in
    let sofar_later = c.loop-numbered.invariant.later in
    record {
      long = ap length whole ∙ long;
      placed = c.in-Ok.ensures.len ∙ ap (λ n. n + 1) c.loop-numbered.invariant.placed;
      capacity = omega (arith, c.loop-numbered.invariant.capacity, c.in-Ok.ensures.capacity);
      entries = more;
      so_far = subst (λ s. SoFar s c.push.new.self.items more (take c.loop-numbered.counts.len (new ++ drop (length new) old))) (sym next)
          (subst (λ h. SoFar (take at script ++ numbered ∷ []) h more (take c.loop-numbered.counts.len (new ++ drop (length new) old))) (sym same)
          (subst (SoFar (take at script ++ numbered ∷ []) (c.loop-numbered.history.items ++ told ∷ []) more) (sym whole) pushed));
      same_store = c.serve-reply.ensures.serves.same_store ∙ same_store;
      keeps_all = λ out kept. subst (λ s. KeepsAll s mid core) same_store c.serve-reply.ensures.serves.keeps_all out
          (c.loop-numbered.invariant.keeps_all out kept);
      stays = stays_on first mid core c.loop-numbered.invariant.stays c.serve-reply.ensures.serves.stays;
      drawn = (let drawn = c.loop-numbered.invariant.drawn in let one = c.serve-reply.ensures.serves.draws in
          omega (arith, drawn, one));
      served = λ tells loans files start serving.
          let so_far = c.loop-numbered.invariant.served tells loans files start serving in
          let at = so_far.answered in
          one_more_served g.J.Disk.lawful loans loans first mid core files start entries so_far
          c.loop-numbered.invariant.stays c.serve-reply.ensures.serves.stays numbered.command told.reply
          c.serve-reply.ensures.full
          (c.serve-reply.ensures.answers (ap (λ s. s.tells) same_store ∙ tells) loans (files ++ at.put) at.after
          at.doubt at.serving) c.serve-reply.ensures.listed c.serve-reply.ensures.flushed
          c.serve-reply.ensures.shown;
      sure = λ sure. sure_still store mid core numbered.command told.reply
          (λ tells. c.serve-reply.ensures.answers (ap (λ s. s.tells) same_store ∙ tells))
          (c.loop-numbered.invariant.sure sure);
      devices = λ sure. subst (λ h. min ((faults_under first + g.F.Port.Counted.faults c.args.port.now) + count_by told_device h) (2 ^ 64 - 1)
          ≤ faults_under core + g.F.Port.Counted.faults c.serve-reply.new.port) (sym same)
          (devices_more (faults_under first + g.F.Port.Counted.faults c.args.port.now) (faults_under mid) (faults_under core)
          (g.F.Port.Counted.faults c.loop-numbered.port) (g.F.Port.Counted.faults c.serve-reply.new.port)
          c.loop-numbered.history.items told (c.loop-numbered.invariant.devices sure) later.0 later.1
          (c.serve-reply.ensures.cause (subst (λ s. IsSure s mid) (sym same_store) (c.loop-numbered.invariant.sure sure))));
      later = (omega (arith, later.0, sofar_later.0), omega (arith, later.1, sofar_later.1));
      swept = read_on first mid core (g.F.Port.Counted.faults c.args.port.now) (g.F.Port.Counted.faults c.loop-numbered.port)
          (g.F.Port.Counted.faults c.serve-reply.new.port) sofar_later.1 later.1 later.0 c.loop-numbered.invariant.swept
          c.serve-reply.ensures.swept;
    }

pub returns-clause-executed : goal.returns-clause-executed
returns-clause-executed g c =
    let script = c.args.script.now in
    let at = c.loop-numbered.numbered-index in
    let entries = c.loop-numbered.invariant.entries in
    let all : take at script ≡ script = ap (λ n. take n script) (omega arith) ∙ take-length script in
    record {
      entries = entries;
      history_of = subst (λ h. IsHistory script h entries) (sym c.of.ensures)
          (subst (λ s. IsHistory s c.loop-numbered.history.items entries) all
          c.loop-numbered.invariant.so_far.history_of);
      in_line_order = subst (IsInLineOrder script) (sym c.of.ensures)
          (subst (λ s. IsInLineOrder s c.loop-numbered.history.items) all c.loop-numbered.invariant.so_far.in_line_order);
      served = c.loop-numbered.invariant.served;
    }

pub returns-clause-draws : goal.returns-clause-draws
returns-clause-draws g c = let drawn = c.loop-numbered.invariant.drawn in omega (arith, drawn)
