-- One more command is served.
use Rattle.std.proofs.Common.{◌≡◌, ◌≢◌, ◌⊎◌, ℕ, ◌≤◌, List, [], ◌∷◌, ◌++◌, Option, None, Some, inl, inr, ⊎_elim, refl, sym, ap}
use Rattle.std.proofs.Common.{append_assoc, arith, subst, ◌∙◌}
use Rattle.std.specs.List.{AllByRecursion as Each}
use Rattle.tsdb_base.specs.Causes.{Rose}
use Rattle.tsdb_base.specs.declared.answers.Answer.TheVariants as answer
use Rattle.tsdb_querying.specs.Core.{logged_of, next_of}
use Rattle.tsdb_querying.specs.Listings.{TellsStore}
use Rattle.tsdb_querying.specs.CoreType.{Core}
use Rattle.tsdb_querying.specs.Loan.{Loan}
use Rattle.tsdb_frames.proofs.CallLemmas.{keeps_to_slot_on}
use Rattle.tsdb_frames.proofs.MomentLemmas.{leaves_on, weaker}
use Rattle.tsdb_history.proofs.Ends.{last_ends, last_listed, none_ends, none_listed}
use Rattle.tsdb_history.proofs.Prefixes.{done_or_not, entry_of, is_change, is_reply, last_doubt, legal_more, may_stay}
use Rattle.tsdb_history.proofs.Prefixes.{no_change, prefix_stays, stands_after, state_stays, whole_prefix}
use Rattle.tsdb_history.specs.Prefixes.{EndsDone, EndsFlushed, IsDoneChange, IsFlushDone, IsQuery, StandsAfter, StandsAfterPrefix}
use Rattle.tsdb_history.proofs.Reach.{all_further, within_more}
use Rattle.tsdb_history.specs.Reach.{AreFullWithin, IsFullWithin}
use Rattle.tsdb_history.specs.Serves.{HasAnswered, HasFlushed, HasServed, LeavesPrefix, MayDoubtAfter}
use Rattle.tsdb_base.proofs.Lists.{each_append, each_left, each_weaker}
use Rattle.tsdb_memory.specs.LogState.{memory_of}
use Rattle.tsdb_model.specs.Apply.{reply_of}
use Rattle.tsdb_model.specs.History.{Entry, IsChange, IsLegal, state_after}
use Rattle.tsdb_model.specs.State as plain
use Rattle.tsdb_model.specs.declared.command.Command.{Command}
use Rattle.tsdb_model.specs.declared.command.Command.TheVariants.{Flush, ShowFiles}
use Rattle.tsdb_model.specs.declared.reply.Listing.{Listing}
use Rattle.tsdb_model.specs.declared.reply.Reply.{Reply}
use Rattle.tsdb_model.specs.declared.reply.Reply.TheVariants.{Plain, Files}
use Rattle.tsdb_outside.specs.Disk.{Image, IsLawful, in_slot}
use Rattle.tsdb_outside.specs.Files.{StoredFile}
use Rattle.tsdb_outside.specs.declared.disk.Disk as disk
use Rattle.tsdb_outside.specs.declared.faults.Counted as counted
use Rattle.tsdb_state.specs.Stores.{HoldsKept, StoreStandsFor, StandsForOneOf}
use Rattle.tsdb_state.specs.Stores as stores
use Rattle.tsdb_querying.proofs.Differing.{differ_on, drawn_apart}
use Rattle.tsdb_querying.proofs.Parts.{more_files}
use Rattle.tsdb_querying.proofs.Steps.{idle, image_left}
use Rattle.tsdb_querying.proofs.ServingAnswered.{stamp_is}
use Rattle.tsdb_querying.specs.Flushing.{faults_under}
use Rattle.tsdb_querying.specs.Sweeping.{StaysRead}
use Rattle.tsdb_querying.specs.Serving as serving
use Rattle.tsdb_querying.specs.Serving.{HasFullCause, IsAnsweredBy, IsDrawn, IsServedBy, IsServing, MayBeWritten}
use Rattle.tsdb_querying.specs.Serving.{LeavesDoubt, LeavesEither, StaysInPlace, disk_under, log_under, slot_under}

-- this is held of a file
abbrev Held : stores.BytesByNumber → StoredFile → Type 0
Held files file = files file.number ≡ Some file.bytes

module _ {J F S R P : Type 0} {means : disk.Ghosts J} {counts : counted.Ghosts J} where
  -- the log keeps to its slot over one step and then another
  pub stays_on : (first mid new : Core J F S R P means counts) → StaysInPlace first mid → StaysInPlace mid new
      → StaysInPlace first new
  stays_on first mid new before after = let drawn = before.next in let next = after.next in
      record {
        slot = keeps_to_slot_on (log_under first) (log_under mid) (log_under new) before.slot after.slot;
        next = omega (arith, drawn, next);
      }

  -- where only files that are read were on their way out only such are behind one step and then another
  pub read_on : (first mid new : Core J F S R P means counts) (before between now : ℕ) → before ≤ between → between ≤ now
      → faults_under mid ≤ faults_under new → StaysRead before between first mid → StaysRead between now mid new
      → StaysRead before now first new
  read_on first mid new before between now earlier later under one two = λ read calm none.
      two (one read (λ rose. calm (still before between now rose later)) (omega (arith, none, under)))
      (λ rose. calm (since before between now earlier rose)) none
    where
      still : (a b c : ℕ) → Rose a b → b ≤ c → Rose a c
      still a b c rose later = omega (arith, later, rose)

      since : (a b c : ℕ) → a ≤ b → Rose b c → Rose a c
      since a b c earlier rose = omega (arith, earlier, rose)

module _ {J F S R P : Type 0} {means : disk.Ghosts J} {counts : counted.Ghosts J}
    (laws : (journal : J) → IsLawful (means.state journal)) where
  -- before the first command
  pub none_answered : (loans : List (Loan F S R P)) (core : Core J F S R P means counts) (files : List StoredFile)
      (start : plain.State) → IsServing loans core files start None → HasAnswered loans core core files start []
  none_answered loans core files start is = record {
    after = start;
    legal = refl;
    reached = tt;
    put = [];
    numbers = tt;
    differ = tt;
    doubt = None;
    may = inl refl;
    serving = more_files laws loans core files [] start None is;
    moments = idle (disk_under core) (LeavesPrefix (files ++ []) (slot_under core) start [])
        (laws core.logged.frames.journal)
        (λ image left there holds. whole_prefix (StoreStandsFor there (in_slot (slot_under core) image)) start start [] refl
        (inl (image_left laws loans core files start None image is left there (each_left (Held there) files [] holds))));
  }

  pub none_served : (loans : List (Loan F S R P)) (core : Core J F S R P means counts) (files : List StoredFile)
      (start : plain.State) → IsServing loans core files start None → HasServed loans core core files start []
  unfolding none_answered
  none_served loans core files start is = record {
    answered = none_answered loans core files start is;
    settled = λ ends. refl;
    listed = λ listing ends. absurd (none_listed listing ends);
    flushed = λ ends. absurd (none_ends IsFlushDone (λ e. e.command ≡ ShowFiles) ends);
  }

  -- a command that left these loans
  module _ (loans left : List (Loan F S R P)) (first mid new : Core J F S R P means counts) (files : List StoredFile)
      (start : plain.State) (entries : List Entry)
      (so_far : HasAnswered loans first mid files start entries) (place : StaysInPlace first mid)
      (stays : StaysInPlace mid new) (command : Command) (reply : Reply) (full : HasFullCause new reply)
      (answered : IsAnsweredBy (IsDrawn mid new) left mid new (files ++ so_far.put) so_far.after so_far.doubt command
      reply) where
    abbrev at : plain.State
    at = so_far.after

    abbrev now : plain.State
    now = state_after at command reply

    abbrev done : plain.State
    done = state_after at command (Plain answer.Done)

    abbrev entry : Entry
    entry = entry_of command reply

    abbrev all : List Entry
    all = entries ++ entry ∷ []

    abbrev held : List StoredFile
    held = files ++ so_far.put

    -- what the entries lead to, what is in doubt after a change that was done last, and what was put
    record Led : Type 0 where
      leads : HasAnswered left first new files start all
      settled : (EndsDone entries → so_far.doubt ≡ None) → EndsDone all → leads.doubt ≡ None
      more : List StoredFile
      drawn : Each (λ (file : StoredFile). IsDrawn mid new file.number) more
      put_is : leads.put ≡ so_far.put ++ more

    legal_all : IsLegal start all now
    legal_all = legal_more start at entries command reply so_far.legal answered.allowed

    -- the log stands for the state before the command, or for the one in doubt
    before : (there : stores.BytesByNumber) (bytes : List ℕ) → StandsForOneOf there bytes at so_far.doubt
        → StandsAfterPrefix (StoreStandsFor there bytes) start all
    before there bytes is = prefix_stays (StoreStandsFor there bytes) start entries entry
        (whole_prefix (StoreStandsFor there bytes) start at entries so_far.legal
        (stands_after there at entries so_far.doubt bytes so_far.may is))

    stands_still : (there : stores.BytesByNumber) (bytes : List ℕ) → StoreStandsFor there bytes at
        → StandsAfterPrefix (StoreStandsFor there bytes) start all
    stands_still there bytes is = prefix_stays (StoreStandsFor there bytes) start entries entry
        (whole_prefix (StoreStandsFor there bytes) start at entries so_far.legal (inl is))

    -- the command led to the state `later`, where it took effect
    module _ (later then : plain.State) (same : then ≡ now)
        (served : IsServedBy (IsDrawn mid new) left mid new held at so_far.doubt later then)
        (stands_later : (there : stores.BytesByNumber) (bytes : List ℕ) → StoreStandsFor there bytes later
        → StandsAfterPrefix (StoreStandsFor there bytes) start all) where
      abbrev put : List StoredFile
      put = so_far.put ++ served.put

      joined : held ++ served.put ≡ files ++ put
      joined = append_assoc files so_far.put served.put

      abbrev AtAll : Image → Type 0
      AtAll = LeavesPrefix (files ++ put) (slot_under first) start all

      holds_all : (there : stores.BytesByNumber) → HoldsKept (files ++ put) there → HoldsKept (held ++ served.put) there
      holds_all there holds = subst (λ list. HoldsKept list there) (sym joined) holds

      begins : (image : Image) → LeavesPrefix held (slot_under first) start entries image → AtAll image
      begins image leaves there holds = prefix_stays (StoreStandsFor there (in_slot (slot_under first) image)) start entries
          entry (leaves there (each_left (Held there) held served.put (holds_all there holds)))

      one_of : (there : stores.BytesByNumber) (bytes : List ℕ) → StandsForOneOf there bytes at (Some later)
          → StandsAfterPrefix (StoreStandsFor there bytes) start all
      one_of there bytes (inl is) = stands_still there bytes is
      one_of there bytes (inr is) = stands_later there bytes is

      last : (image : Image) → LeavesEither (held ++ served.put) (slot_under first) at so_far.doubt later image
          → AtAll image
      last image (inl leaves) there holds =
          before there (in_slot (slot_under first) image) (leaves there (holds_all there holds))
      last image (inr leaves) there holds =
          one_of there (in_slot (slot_under first) image) (leaves there (holds_all there holds))

      ends : (image : Image) → LeavesEither (held ++ served.put) (slot_under mid) at so_far.doubt later image
          → AtAll image
      ends image leaves = last image
          (subst (λ slot. LeavesEither (held ++ served.put) slot at so_far.doubt later image) place.slot.same leaves)

      from_first : (file : StoredFile) → IsDrawn first mid file.number → IsDrawn first new file.number
      from_first file drawn = let to = drawn.to in let next = stays.next in
          record { from = drawn.from; to = omega (arith, to, next) }

      from_second : (file : StoredFile) → IsDrawn mid new file.number → IsDrawn first new file.number
      from_second file drawn = let from = drawn.from in let next = place.next in
          record { from = omega (arith, from, next); to = drawn.to }

      same_stamp : (counter : ℕ) → reply ≡ Plain (answer.Full counter) → (memory_of (logged_of new)).stamp ≡ at.stamp
      same_stamp counter is =
          stamp_is left new (held ++ served.put) then served.doubt served.serving ∙ ap (λ (s : plain.State). s.stamp) same
          ∙ ap (λ r. (state_after at command r).stamp) is

      last_within : IsFullWithin (next_of new) at reply
      last_within counter is =
          ⊎_elim (λ ended. inl (sym (same_stamp counter is) ∙ ended)) (λ few. inr few) (full counter is)

      reached_all : AreFullWithin (next_of new) start all
      reached_all = within_more (next_of new) start at entries command reply so_far.legal
          (all_further (next_of mid) (next_of new) start entries stays.next so_far.reached) last_within

      all_answered : MayDoubtAfter all now served.doubt → HasAnswered left first new files start all
      all_answered may = record {
        after = now;
        legal = legal_all;
        reached = reached_all;
        put = put;
        numbers = each_append (λ (file : StoredFile). IsDrawn first new file.number) so_far.put served.put
            (each_weaker (λ (file : StoredFile). IsDrawn first mid file.number)
            (λ (file : StoredFile). IsDrawn first new file.number) from_first so_far.put so_far.numbers)
            (each_weaker (λ (file : StoredFile). IsDrawn mid new file.number)
            (λ (file : StoredFile). IsDrawn first new file.number) from_second served.put served.numbers);
        differ = differ_on (IsDrawn first mid) (IsDrawn mid new) (drawn_apart first mid new) so_far.put served.put
            so_far.numbers served.numbers so_far.differ served.differ;
        doubt = served.doubt;
        may = may;
        serving = subst (λ list. IsServing left new list now served.doubt) joined
            (subst (λ state. IsServing left new (held ++ served.put) state served.doubt) same served.serving);
        moments = leaves_on (disk_under first) (disk_under mid) (disk_under new) (laws new.logged.frames.journal) AtAll
            (weaker (disk_under first) (disk_under mid) (LeavesPrefix held (slot_under first) start entries) AtAll begins
            so_far.moments)
            (weaker (disk_under mid) (disk_under new)
            (LeavesEither (held ++ served.put) (slot_under mid) at so_far.doubt later) AtAll ends served.moments);
      }

      led : MayDoubtAfter all now served.doubt
          → ((EndsDone entries → so_far.doubt ≡ None) → EndsDone all → served.doubt ≡ None) → Led
      unfolding all_answered
      led may settled = record {
        leads = all_answered may;
        settled = settled;
        more = served.put;
        drawn = served.numbers;
        put_is = refl;
      }

    -- ---- a command whose record may have been written, or that has none

    doubt_then : (doubt : Option plain.State) → ¬ IsDoneChange entry → LeavesDoubt so_far.doubt at command reply doubt
        → MayDoubtAfter all at doubt
    doubt_then doubt not (inl none) = inl none
    doubt_then doubt not (inr (inl was)) =
        may_stay entries at entry doubt not (subst (MayDoubtAfter entries at) (sym was) so_far.may)
    doubt_then doubt not (inr (inr (inl drawn))) = inr (inl drawn.1)
    doubt_then doubt not (inr (inr (inr failed))) = inr (inr (
      command,
      last_doubt entries at command reply failed.change failed.failed failed.accepted,
      failed.leads,
    ))

    is_done : IsDoneChange entry ⊎ (¬ IsDoneChange entry)
    is_done = by (done_or_not reply) (is_change command)
      where
        by : (reply ≡ Plain answer.Done) ⊎ (reply ≢ Plain answer.Done) → IsChange command ⊎ (¬ IsChange command)
            → IsDoneChange entry ⊎ (¬ IsDoneChange entry)
        by (inl is) (inl change) = inl (change, is)
        by (inl is) (inr none) = inr (λ is. none is.0)
        by (inr other) change = inr (λ is. other is.1)

    doubted : MayDoubtAfter all now answered.served.doubt
    doubted = by is_done
      where
        by : IsDoneChange entry ⊎ (¬ IsDoneChange entry) → MayDoubtAfter all now answered.served.doubt
        by (inl done) = inl (answered.settled done.0 done.1)
        by (inr not) = subst (λ state. MayDoubtAfter all state answered.served.doubt) (sym (state_stays at command reply not))
            (doubt_then answered.served.doubt not answered.doubtful)

    query_doubt : (doubt : Option plain.State) → IsQuery command → so_far.doubt ≡ None
        → LeavesDoubt so_far.doubt at command reply doubt → doubt ≡ None
    query_doubt doubt query none (inl is) = is
    query_doubt doubt query none (inr (inl was)) = was ∙ none
    query_doubt doubt query none (inr (inr (inl drawn))) = absurd (query.1 drawn.0)
    query_doubt doubt query none (inr (inr (inr failed))) = absurd (query.0 failed.change)

    settled_then : (EndsDone entries → so_far.doubt ≡ None) → EndsDone all → answered.served.doubt ≡ None
    settled_then was ends = by (last_ends IsDoneChange (λ e. IsQuery e.command) entries entry ends)
      where
        by : IsDoneChange entry ⊎ (EndsDone entries × IsQuery entry.command) → answered.served.doubt ≡ None
        by (inl done) = answered.settled done.0 done.1
        by (inr rest) = query_doubt answered.served.doubt rest.1 (was rest.0) answered.doubtful

    tried : ((there : stores.BytesByNumber) (bytes : List ℕ) → StoreStandsFor there bytes done
        → StandsAfterPrefix (StoreStandsFor there bytes) start all) → Led
    tried stands = led done now refl answered.served stands doubted settled_then

    -- it was done
    done_stands : reply ≡ Plain answer.Done → (there : stores.BytesByNumber) (bytes : List ℕ) → StoreStandsFor there bytes done
        → StandsAfterPrefix (StoreStandsFor there bytes) start all
    done_stands is there bytes stands = whole_prefix (StoreStandsFor there bytes) start now all legal_all
        (inl (subst (StoreStandsFor there bytes) (ap (state_after at command) (sym is)) stands))

    -- its device failed
    doubt_stands : IsChange command → reply ≡ Plain answer.Device → reply_of at.world command ≡ Plain answer.Done
        → (there : stores.BytesByNumber) (bytes : List ℕ) → StoreStandsFor there bytes done → StandsAfterPrefix (StoreStandsFor there bytes) start all
    doubt_stands change is accepts there bytes stands = whole_prefix (StoreStandsFor there bytes) start now all legal_all
        (subst (λ state. StandsAfter (StoreStandsFor there bytes) state all) (sym (ap (state_after at command) is))
        (inr (command, last_doubt entries at command reply change is accepts, stands)))

    -- ---- a change whose record cannot have been written

    module _ (change : IsChange command) (not : ¬ MayBeWritten at command reply) where
      other : ¬ IsDoneChange entry
      other is = not (inl is.1)

      kept : IsServedBy (IsDrawn mid new) left mid new held at so_far.doubt at at
      kept = answered.unwritten change not

      kept_doubt : (doubt : Option plain.State) → serving.MayDoubt so_far.doubt at at doubt → MayDoubtAfter all at doubt
      kept_doubt doubt (inl none) = inl none
      kept_doubt doubt (inr (inl was)) =
          may_stay entries at entry doubt other (subst (MayDoubtAfter entries at) (sym was) so_far.may)
      kept_doubt doubt (inr (inr (inl same))) = inr (inl same)
      kept_doubt doubt (inr (inr (inr same))) = inr (inl same)

      no_end : (EndsDone entries → so_far.doubt ≡ None) → EndsDone all → kept.doubt ≡ None
      no_end was ends = by (last_ends IsDoneChange (λ e. IsQuery e.command) entries entry ends)
        where
          by : IsDoneChange entry ⊎ (EndsDone entries × IsQuery entry.command) → kept.doubt ≡ None
          by (inl done) = absurd (other done)
          by (inr rest) = absurd (rest.1.0 change)

      not_tried : Led
      not_tried = led at at (sym (state_stays at command reply other)) kept stands_still
          (subst (λ state. MayDoubtAfter all state kept.doubt) (sym (state_stays at command reply other))
          (kept_doubt kept.doubt kept.may)) no_end

    by_device : IsChange command → reply ≡ Plain answer.Device
        → (reply_of at.world command ≡ Plain answer.Done) ⊎ (reply_of at.world command ≢ Plain answer.Done)
        → Led
    by_device change is (inl accepts) = tried (doubt_stands change is accepts)
    by_device change is (inr refuses) = not_tried change (neither is refuses)
      where
        neither : reply ≡ Plain answer.Device → reply_of at.world command ≢ Plain answer.Done
            → ¬ MayBeWritten at command reply
        neither is refuses (inl done) =
            absurd (let e : Plain answer.Device ≡ Plain answer.Done = sym is ∙ done in cc)
        neither is refuses (inr device) = absurd (refuses device.1)

    by_reply : IsChange command → (reply ≡ Plain answer.Done)
        ⊎ ((reply ≡ Plain answer.Device) ⊎ ((reply ≢ Plain answer.Done) × (reply ≢ Plain answer.Device)))
        → Led
    by_reply change (inl is) = tried (done_stands is)
    by_reply change (inr (inl is)) = by_device change is (done_or_not (reply_of at.world command))
    by_reply change (inr (inr other)) = not_tried change (neither other)
      where
        neither : (reply ≢ Plain answer.Done) × (reply ≢ Plain answer.Device) → ¬ MayBeWritten at command reply
        neither other (inl done) = other.0 done
        neither other (inr device) = other.1 device.0

    by_command : IsChange command ⊎ (¬ IsChange command) → Led
    by_command (inl change) = by_reply change (is_reply reply)
    by_command (inr none) = tried (λ there bytes stands.
        stands_still there bytes (subst (StoreStandsFor there bytes) (no_change at command none) stands))

    last_led : Led
    last_led = by_command (is_change command)

    pub one_more_answered : HasAnswered left first new files start all
    one_more_answered = last_led.leads

    pub one_more_settled : (EndsDone entries → so_far.doubt ≡ None) → EndsDone all → one_more_answered.doubt ≡ None
    unfolding one_more_answered
    one_more_settled = last_led.settled

    -- what holds of the numbers of what was put, and of those that were drawn since
    pub one_more_put : (Q : ℕ → Type 0) → Each (λ (file : StoredFile). Q file.number) so_far.put
        → ((n : ℕ) → IsDrawn mid new n → Q n) → Each (λ (file : StoredFile). Q file.number) one_more_answered.put
    unfolding one_more_answered
    one_more_put Q before since = subst (Each (λ (file : StoredFile). Q file.number)) (sym last_led.put_is)
        (each_append (λ (file : StoredFile). Q file.number) so_far.put last_led.more before
        (each_weaker (λ (file : StoredFile). IsDrawn mid new file.number) (λ (file : StoredFile). Q file.number)
        (λ file drawn. since file.number drawn) last_led.more last_led.drawn))

  -- so too where the command was served whole
  module _ (loans left : List (Loan F S R P)) (first mid new : Core J F S R P means counts) (files : List StoredFile)
      (start : plain.State) (entries : List Entry) (so_far : HasServed loans first mid files start entries)
      (place : StaysInPlace first mid) (stays : StaysInPlace mid new) (command : Command) (reply : Reply)
      (full : HasFullCause new reply)
      (answered : IsAnsweredBy (IsDrawn mid new) left mid new (files ++ so_far.answered.put) so_far.answered.after
      so_far.answered.doubt command reply)
      (shows : (listing : Listing) → command ≡ ShowFiles → reply ≡ Files listing → TellsStore new listing)
      (flushes : command ≡ Flush → reply ≡ Plain answer.Done → HasFlushed new) (shown : command ≡ ShowFiles → new ≡ mid) where
    all_flushed : EndsFlushed (entries ++ entry_of command reply ∷ []) → HasFlushed new
    all_flushed ends = ⊎_elim (λ is. flushes is.0 is.1)
        (λ rest. subst (λ (core : Core J F S R P means counts). HasFlushed core) (sym (shown rest.1))
        (so_far.flushed rest.0))
        (last_ends IsFlushDone (λ e. e.command ≡ ShowFiles) entries (entry_of command reply) ends)

    pub one_more_served : HasServed left first new files start (entries ++ entry_of command reply ∷ [])
    one_more_served = record {
      answered = one_more_answered loans left first mid new files start entries so_far.answered place stays command reply
          full answered;
      settled = one_more_settled loans left first mid new files start entries so_far.answered place stays command reply full
          answered so_far.settled;
      listed = λ listing ended.
          let is = last_listed entries command reply listing ended in
          shows listing is.0 is.1;
      flushed = all_flushed;
    }
