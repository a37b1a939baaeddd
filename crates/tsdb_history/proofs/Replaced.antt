-- Replies that are told in the place of others leave what holds of a history.
use Rattle.std.proofs.Common.{◌≡◌, ◌⊎◌, ℕ, List, [], ◌∷◌, ◌++◌, Option, inl, inr, refl, sym, ap, subst, ◌∙◌}
use Rattle.std.proofs.lemmas.List.Elements.{All-from_recursion, recursion_from_All}
use Rattle.std.specs.List.{AllByRecursion as Each}
use Rattle.tsdb_base.specs.declared.answers.Answer.TheVariants as answer
use Rattle.tsdb_frames.proofs.MomentLemmas.{weaker}
use Rattle.tsdb_history.proofs.Prefixes.{entry_of, state_stays}
use Rattle.tsdb_history.specs.Prefixes.{EndsDone, IsDoneChange, IsInDoubt, IsQuery, StandsAfter, StandsAfterPrefix}
use Rattle.tsdb_history.specs.Reach.{AreFullWithin, IsFullWithin}
use Rattle.tsdb_history.specs.Replacing.{AreReplaced, IsOtherReply, IsEntryReplaced}
use Rattle.tsdb_history.specs.Serves.{HasAnswered, LeavesPrefix, MayDoubtAfter}
use Rattle.tsdb_model.specs.History.{Entry, IsAllowed, IsChange, IsLegal, state_after}
use Rattle.tsdb_model.specs.State as plain
use Rattle.tsdb_model.specs.declared.command.Command.{Command}
use Rattle.tsdb_model.specs.declared.reply.Reply.{Reply}
use Rattle.tsdb_model.specs.declared.reply.Reply.TheVariants.{Plain}
use Rattle.tsdb_outside.specs.Disk.{in_slot}
use Rattle.tsdb_outside.specs.Files.{StoredFile}
use Rattle.tsdb_outside.specs.declared.disk.Disk as disk
use Rattle.tsdb_outside.specs.declared.faults.Counted as counted
use Rattle.tsdb_querying.specs.Core.{next_of}
use Rattle.tsdb_querying.specs.CoreType.{Core}
use Rattle.tsdb_querying.specs.Loan.{Loan}
use Rattle.tsdb_querying.specs.Serving.{disk_under, slot_under}
use Rattle.tsdb_state.specs.Stores.{StoreStandsFor}

-- ---- one entry

same_entry : (entry : Entry) (command : Command) (reply : Reply) → entry.command ≡ command → entry.reply ≡ reply
    → entry ≡ entry_of command reply
same_entry entry command reply of is = ap (λ c. entry_of c entry.reply) of ∙ ap (entry_of command) is

-- no change stands for another reply
still_no_change : (at : plain.State) (command : Command) (reply : Reply) → ¬ IsChange command
    → state_after at command reply ≡ at
still_no_change at command reply none = state_stays at command reply (λ done. none done.0)

same_state : (reach : ℕ) (at : plain.State) (old new : Entry) → IsEntryReplaced reach at old new
    → state_after at new.command new.reply ≡ state_after at old.command old.reply
same_state reach at old new is = by is.reply
  where
    by : (new.reply ≡ old.reply) ⊎ IsOtherReply reach at old.command new.reply
        → state_after at new.command new.reply ≡ state_after at old.command old.reply
    by (inl same) = ap (λ c. state_after at c new.reply) is.command ∙ ap (state_after at old.command) same
    by (inr other) = ap (λ c. state_after at c new.reply) is.command
        ∙ still_no_change at old.command new.reply other.no_change
        ∙ sym (still_no_change at old.command old.reply other.no_change)

allowed_still : (reach : ℕ) (at : plain.State) (old new : Entry) → IsEntryReplaced reach at old new
    → IsAllowed at old.command old.reply → IsAllowed at new.command new.reply
allowed_still reach at old new is allowed = subst (λ c. IsAllowed at c new.reply) (sym is.command) (by is.reply)
  where
    by : (new.reply ≡ old.reply) ⊎ IsOtherReply reach at old.command new.reply → IsAllowed at old.command new.reply
    by (inl same) = subst (IsAllowed at old.command) (sym same) allowed
    by (inr other) = other.allowed

within_still : (reach : ℕ) (at : plain.State) (old new : Entry) → IsEntryReplaced reach at old new
    → IsFullWithin reach at old.reply → IsFullWithin reach at new.reply
within_still reach at old new is within = by is.reply
  where
    by : (new.reply ≡ old.reply) ⊎ IsOtherReply reach at old.command new.reply → IsFullWithin reach at new.reply
    by (inl same) = subst (IsFullWithin reach at) (sym same) within
    by (inr other) = other.full

-- what is a change has its reply
same_change : (reach : ℕ) (at : plain.State) (old new : Entry) → IsEntryReplaced reach at old new → IsChange old.command
    → new.reply ≡ old.reply
same_change reach at old new is change = by is.reply
  where
    by : (new.reply ≡ old.reply) ⊎ IsOtherReply reach at old.command new.reply → new.reply ≡ old.reply
    by (inl same) = same
    by (inr other) = absurd (other.no_change change)

done_before : (reach : ℕ) (at : plain.State) (old new : Entry) → IsEntryReplaced reach at old new → IsDoneChange new
    → IsDoneChange old
done_before reach at old new is done = let change = subst IsChange is.command done.0 in
    (change, sym (same_change reach at old new is change) ∙ done.1)

-- ---- entries

pub replaced_legal : (reach : ℕ) (start after : plain.State) (old new : List Entry) → AreReplaced reach start old new
    → IsLegal start old after → IsLegal start new after
replaced_legal reach start after [] [] are legal = legal
replaced_legal reach start after [] (f ∷ new) are legal = absurd are
replaced_legal reach start after (e ∷ old) [] are legal = absurd are
replaced_legal reach start after (e ∷ old) (f ∷ new) are legal = (
  allowed_still reach start e f are.0 legal.0,
  subst (λ s. IsLegal s new after) (sym (same_state reach start e f are.0))
      (replaced_legal reach (state_after start e.command e.reply) after old new are.1 legal.1),
)

pub replaced_reached : (reach : ℕ) (start : plain.State) (old new : List Entry) → AreReplaced reach start old new
    → AreFullWithin reach start old → AreFullWithin reach start new
replaced_reached reach start [] [] are within = tt
replaced_reached reach start [] (f ∷ new) are within = absurd are
replaced_reached reach start (e ∷ old) [] are within = absurd are
replaced_reached reach start (e ∷ old) (f ∷ new) are within = (
  within_still reach start e f are.0 within.0,
  subst (λ s. AreFullWithin reach s new) (sym (same_state reach start e f are.0))
      (replaced_reached reach (state_after start e.command e.reply) old new are.1 within.1),
)

-- the second entries fall apart as the first do
record FallApart (reach : ℕ) (start : plain.State) (before behind new : List Entry) : Type 0 where
  front : List Entry
  rest : List Entry
  split : new ≡ front ++ rest
  first : AreReplaced reach start before front
  mid : plain.State
  second : AreReplaced reach mid behind rest

fall_apart : (reach : ℕ) (start : plain.State) (before behind new : List Entry)
    → AreReplaced reach start (before ++ behind) new → FallApart reach start before behind new
fall_apart reach start [] behind new are =
    record { front = []; rest = new; split = refl; first = tt; mid = start; second = are }
fall_apart reach start (e ∷ before) behind [] are = absurd are
fall_apart reach start (e ∷ before) behind (f ∷ new) are =
    let parts = fall_apart reach (state_after start e.command e.reply) before behind new are.1 in
    record {
      front = f ∷ parts.front;
      rest = parts.rest;
      split = ap (λ l. f ∷ l) parts.split;
      first = (are.0, parts.first);
      mid = parts.mid;
      second = parts.second;
    }

-- the first entries fall apart as the second do
record FellApart (reach : ℕ) (start : plain.State) (before behind old : List Entry) : Type 0 where
  front : List Entry
  rest : List Entry
  split : old ≡ front ++ rest
  mid : plain.State
  second : AreReplaced reach mid rest behind

fell_apart : (reach : ℕ) (start : plain.State) (before behind old : List Entry)
    → AreReplaced reach start old (before ++ behind) → FellApart reach start before behind old
fell_apart reach start [] behind old are =
    record { front = []; rest = old; split = refl; mid = start; second = are }
fell_apart reach start (f ∷ before) behind [] are = absurd are
fell_apart reach start (f ∷ before) behind (e ∷ old) are =
    let parts = fell_apart reach (state_after start e.command e.reply) before behind old are.1 in
    record {
      front = e ∷ parts.front;
      rest = parts.rest;
      split = ap (λ l. e ∷ l) parts.split;
      mid = parts.mid;
      second = parts.second;
    }

-- ---- what is in doubt

none_done : (reach : ℕ) (mid : plain.State) (old new : List Entry) → AreReplaced reach mid old new
    → Each (λ entry. ¬ IsDoneChange entry) old → Each (λ entry. ¬ IsDoneChange entry) new
none_done reach mid [] [] are none = tt
none_done reach mid [] (f ∷ new) are none = absurd are
none_done reach mid (e ∷ old) [] are none = absurd are
none_done reach mid (e ∷ old) (f ∷ new) are none = (
  λ done. none.0 (done_before reach mid e f are.0 done),
  none_done reach (state_after mid e.command e.reply) old new are.1 none.1,
)

-- the change whose device failed, and none done since
record IsStillFirst (command : Command) (entries : List Entry) : Type 0 where
  later : List Entry
  is : entries ≡ entry_of command (Plain answer.Device) ∷ later
  since : Each (λ entry. ¬ IsDoneChange entry) later

still_first : (reach : ℕ) (mid : plain.State) (command : Command) (later new : List Entry) → IsChange command
    → AreReplaced reach mid (entry_of command (Plain answer.Device) ∷ later) new
    → Each (λ entry. ¬ IsDoneChange entry) later → IsStillFirst command new
still_first reach mid command later [] change are since = absurd are
still_first reach mid command later (f ∷ new) change are since = record {
  later = new;
  is = ap (λ e. e ∷ new) (same_entry f command (Plain answer.Device) are.0.command
      (same_change reach mid (entry_of command (Plain answer.Device)) f are.0 change));
  since = none_done reach (state_after mid command (Plain answer.Device)) later new are.1 since;
}

pub replaced_doubt : (reach : ℕ) (start after : plain.State) (old new : List Entry) (command : Command)
    → AreReplaced reach start old new → IsInDoubt old after command → IsInDoubt new after command
replaced_doubt reach start after old new command are doubt =
    let parts = fall_apart reach start doubt.before (entry_of command (Plain answer.Device) ∷ doubt.later) new
    (subst (λ l. AreReplaced reach start l new) doubt.split are) in
    let first = still_first reach parts.mid command doubt.later parts.rest doubt.change parts.second
    (recursion_from_All (λ entry. ¬ IsDoneChange entry) doubt.later doubt.since) in
    record {
      before = parts.front;
      later = first.later;
      split = parts.split ∙ ap (λ l. parts.front ++ l) first.is;
      since = All-from_recursion (λ entry. ¬ IsDoneChange entry) first.later first.since;
      change = doubt.change;
      accepted = doubt.accepted;
    }

pub replaced_may : (reach : ℕ) (start after : plain.State) (old new : List Entry) (doubt : Option plain.State)
    → AreReplaced reach start old new → MayDoubtAfter old after doubt → MayDoubtAfter new after doubt
replaced_may reach start after old new doubt are (inl none) = inl none
replaced_may reach start after old new doubt are (inr (inl same)) = inr (inl same)
replaced_may reach start after old new doubt are (inr (inr changed)) =
    inr (inr (changed.0, replaced_doubt reach start after old new changed.0 are changed.1, changed.2))

queries_before : (reach : ℕ) (mid : plain.State) (old new : List Entry) → AreReplaced reach mid old new
    → Each (λ entry. IsQuery entry.command) new → Each (λ entry. IsQuery entry.command) old
queries_before reach mid [] [] are all = tt
queries_before reach mid [] (f ∷ new) are all = absurd are
queries_before reach mid (e ∷ old) [] are all = absurd are
queries_before reach mid (e ∷ old) (f ∷ new) are all = (
  subst IsQuery are.0.command all.0,
  queries_before reach (state_after mid e.command e.reply) old new are.1 all.1,
)

-- what ends in a change that was done did so before
pub replaced_done : (reach : ℕ) (start : plain.State) (old new : List Entry) → AreReplaced reach start old new
    → EndsDone new → EndsDone old
replaced_done reach start old new are ends =
    let parts = fell_apart reach start ends.before (ends.last ∷ ends.later) old
    (subst (AreReplaced reach start old) ends.split are) in
    by parts.front parts.mid parts.rest parts.split parts.second
  where
    by : (front : List Entry) (mid : plain.State) (rest : List Entry) → old ≡ front ++ rest
        → AreReplaced reach mid rest (ends.last ∷ ends.later) → EndsDone old
    by front mid [] split second = absurd second
    by front mid (e ∷ rest) split second = record {
      before = front;
      last = e;
      later = rest;
      split = split;
      such = done_before reach mid e ends.last second.0 ends.such;
      since = All-from_recursion (λ entry. IsQuery entry.command) rest
          (queries_before reach (state_after mid e.command e.reply) rest ends.later second.1
          (recursion_from_All (λ entry. IsQuery entry.command) ends.later ends.since));
    }

-- ---- what stands after a prefix

pub replaced_prefix : (reach : ℕ) (Stands : plain.State → Type 0) (start : plain.State) (old new : List Entry)
    → AreReplaced reach start old new → StandsAfterPrefix Stands start old → StandsAfterPrefix Stands start new
replaced_prefix reach Stands start old new are is =
    let parts = fall_apart reach start is.prefix is.rest new (subst (λ l. AreReplaced reach start l new) is.split are) in
    record {
      prefix = parts.front;
      rest = parts.rest;
      split = parts.split;
      after = is.after;
      legal = replaced_legal reach start is.after is.prefix parts.front parts.first is.legal;
      stands = by parts.front parts.first is.stands;
    }
  where
    by : (front : List Entry) → AreReplaced reach start is.prefix front → StandsAfter Stands is.after is.prefix
        → StandsAfter Stands is.after front
    by front first (inl stands) = inl stands
    by front first (inr (command, doubt, stands)) =
        inr (command, replaced_doubt reach start is.after is.prefix front command first doubt, stands)

module _ {J F S R P : Type 0} {means : disk.Ghosts J} {counts : counted.Ghosts J} where
  -- what was answered so is answered so with the other replies
  pub replaced : (loans : List (Loan F S R P)) (first core : Core J F S R P means counts) (files : List StoredFile)
      (start : plain.State) (old new : List Entry) → AreReplaced (next_of core) start old new
      → HasAnswered loans first core files start old → HasAnswered loans first core files start new
  replaced loans first core files start old new are so_far = record {
    after = so_far.after;
    legal = replaced_legal (next_of core) start so_far.after old new are so_far.legal;
    reached = replaced_reached (next_of core) start old new are so_far.reached;
    put = so_far.put;
    numbers = so_far.numbers;
    differ = so_far.differ;
    doubt = so_far.doubt;
    may = replaced_may (next_of core) start so_far.after old new so_far.doubt are so_far.may;
    serving = so_far.serving;
    moments = weaker (disk_under first) (disk_under core)
        (LeavesPrefix (files ++ so_far.put) (slot_under first) start old)
        (LeavesPrefix (files ++ so_far.put) (slot_under first) start new)
        (λ image leaves there holds. replaced_prefix (next_of core)
        (StoreStandsFor there (in_slot (slot_under first) image)) start old new are (leaves there holds))
        so_far.moments;
  }
