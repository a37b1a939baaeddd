-- What stands after a prefix of the entries of a history, as one more command is answered.
use Rattle.std.proofs.Common.{◌≡◌, ◌≢◌, ◌⊎◌, ℕ, ◌+◌, List, [], ◌∷◌, ◌++◌, Option, None, Some, inl, inr, refl, sym, ap}
use Rattle.std.proofs.Common.{append-nil, append_assoc, arith, subst, ◌∙◌}
use Rattle.std.proofs.lemmas.List.Elements.{All-append, All-cons, All-nil}
use Rattle.std.proofs.lemmas.Option.{same_Some}
use Rattle.tsdb_base.specs.declared.answers.Answer.TheVariants as answer
use Rattle.tsdb_history.specs.Prefixes.{IsDoneChange, IsInDoubt, StandsAfter, StandsAfterPrefix}
use Rattle.tsdb_history.specs.Serves.{MayDoubtAfter}
use Rattle.tsdb_model.specs.Apply.{reply_of}
use Rattle.tsdb_model.specs.History.{Entry, IsAllowed, IsChange, IsLegal, state_after}
use Rattle.tsdb_model.specs.State as plain
use Rattle.tsdb_model.specs.World.{World}
use Rattle.tsdb_model.specs.declared.command.Command.{Command}
use Rattle.tsdb_model.specs.declared.command.Command.TheVariants.{Create, Insert, Delete, Select, Flush, CompactInner}
use Rattle.tsdb_model.specs.declared.command.Command.TheVariants.{CompactCross, ShowFiles}
use Rattle.tsdb_model.specs.declared.reply.Reply.{Reply}
use Rattle.tsdb_model.specs.declared.reply.Reply.TheVariants.{Plain, Lines, Values, Files}
use Rattle.tsdb_state.specs.Stores.{StoreStandsFor, StandsForOneOf}
use Rattle.tsdb_state.specs.Stores as stores

-- ---- commands and replies

abbrev pub entry_of : Command → Reply → Entry
entry_of command reply = record { command = command; reply = reply }

pub is_change : (command : Command) → IsChange command ⊎ (¬ IsChange command)
is_change (Create schema) = inl refl
is_change (Insert device row) = inl refl
is_change (Delete series range) = inl refl
is_change (Select device items range) = inr (λ e. cc)
is_change Flush = inr (λ e. cc)
is_change (CompactInner space) = inr (λ e. cc)
is_change CompactCross = inr (λ e. cc)
is_change ShowFiles = inr (λ e. cc)

-- a reply is done, or the device failed, or it is another one
pub is_reply : (reply : Reply) → (reply ≡ Plain answer.Done)
    ⊎ ((reply ≡ Plain answer.Device) ⊎ ((reply ≢ Plain answer.Done) × (reply ≢ Plain answer.Device)))
is_reply (Plain answer.Done) = inl refl
is_reply (Plain answer.Device) = inr (inl refl)
is_reply (Plain answer.NoPath) = inr (inr (λ e. cc, λ e. cc))
is_reply (Plain answer.WrongType) = inr (inr (λ e. cc, λ e. cc))
is_reply (Plain answer.Exists) = inr (inr (λ e. cc, λ e. cc))
is_reply (Plain answer.Memory) = inr (inr (λ e. cc, λ e. cc))
is_reply (Plain (answer.Full counter)) = inr (inr (λ e. cc, λ e. cc))
is_reply (Lines rows) = inr (inr (λ e. cc, λ e. cc))
is_reply (Values values) = inr (inr (λ e. cc, λ e. cc))
is_reply (Files listing) = inr (inr (λ e. cc, λ e. cc))

pub done_or_not : (reply : Reply) → (reply ≡ Plain answer.Done) ⊎ (reply ≢ Plain answer.Done)
done_or_not reply = by (is_reply reply)
  where
    by : (reply ≡ Plain answer.Done)
        ⊎ ((reply ≡ Plain answer.Device) ⊎ ((reply ≢ Plain answer.Done) × (reply ≢ Plain answer.Device)))
        → (reply ≡ Plain answer.Done) ⊎ (reply ≢ Plain answer.Done)
    by (inl done) = inl done
    by (inr (inl device)) = inr (λ done. absurd (let e : Plain answer.Device ≡ Plain answer.Done = sym device ∙ done in cc))
    by (inr (inr other)) = inr other.0

abbrev made : World → ℕ → plain.State
made world stamp = record { world = world; stamp = stamp }

same_at : (at : plain.State) → made at.world (at.stamp + 0) ≡ at
same_at at = ap (made at.world) (omega arith)

-- a reply other than `Done` changes no state
pub not_done : (at : plain.State) (command : Command) (reply : Reply) → reply ≢ Plain answer.Done
    → state_after at command reply ≡ at
not_done at command (Plain answer.Done) not = absurd (not refl)
not_done at command (Plain answer.Device) not = refl
not_done at command (Plain answer.NoPath) not = refl
not_done at command (Plain answer.WrongType) not = refl
not_done at command (Plain answer.Exists) not = refl
not_done at command (Plain answer.Memory) not = refl
not_done at command (Plain (answer.Full counter)) not = refl
not_done at command (Lines rows) not = refl
not_done at command (Values values) not = refl
not_done at command (Files listing) not = refl

-- nor does a command that is no change
pub no_change : (at : plain.State) (command : Command) → ¬ IsChange command
    → state_after at command (Plain answer.Done) ≡ at
no_change at (Create schema) not = absurd (not refl)
no_change at (Insert device row) not = absurd (not refl)
no_change at (Delete series range) not = absurd (not refl)
no_change at (Select device items range) not = same_at at
no_change at Flush not = same_at at
no_change at (CompactInner space) not = same_at at
no_change at CompactCross not = same_at at
no_change at ShowFiles not = same_at at

pub state_stays : (at : plain.State) (command : Command) (reply : Reply) → ¬ IsDoneChange (entry_of command reply)
    → state_after at command reply ≡ at
state_stays at command reply not = by (done_or_not reply) (is_change command)
  where
    by : (reply ≡ Plain answer.Done) ⊎ (reply ≢ Plain answer.Done) → IsChange command ⊎ (¬ IsChange command)
        → state_after at command reply ≡ at
    by (inr other) change = not_done at command reply other
    by (inl done) (inl change) = absurd (not (change, done))
    by (inl done) (inr none) = ap (state_after at command) done ∙ no_change at command none

-- ---- one more entry

-- a legal history goes on by one entry
pub legal_more : (start mid : plain.State) (entries : List Entry) (command : Command) (reply : Reply)
    → IsLegal start entries mid → IsAllowed mid command reply
    → IsLegal start (entries ++ entry_of command reply ∷ []) (state_after mid command reply)
legal_more start mid [] command reply leads allows =
    (subst (λ s. IsAllowed s command reply) leads allows, ap (λ s. state_after s command reply) leads)
legal_more start mid (e ∷ entries) command reply leads allows =
    (leads.0, legal_more (state_after start e.command e.reply) mid entries command reply leads.1 allows)

longer : {X : Type 0} (all front behind : List X) (x : X) → all ≡ front ++ behind
    → all ++ x ∷ [] ≡ front ++ (behind ++ x ∷ [])
longer all front behind x e = ap (λ l. l ++ x ∷ []) e ∙ append_assoc front behind (x ∷ [])

module _ (Stands : plain.State → Type 0) where
  -- a prefix of the entries is one of more entries
  pub prefix_stays : (start : plain.State) (entries : List Entry) (entry : Entry)
      → StandsAfterPrefix Stands start entries → StandsAfterPrefix Stands start (entries ++ entry ∷ [])
  prefix_stays start entries entry is = record {
    prefix = is.prefix;
    rest = is.rest ++ entry ∷ [];
    split = longer entries is.prefix is.rest entry is.split;
    after = is.after;
    legal = is.legal;
    stands = is.stands;
  }

  -- all entries are a prefix
  pub whole_prefix : (start after : plain.State) (entries : List Entry) → IsLegal start entries after
      → StandsAfter Stands after entries → StandsAfterPrefix Stands start entries
  whole_prefix start after entries legal stands = record {
    prefix = entries;
    rest = [];
    split = sym (append-nil entries);
    after = after;
    legal = legal;
    stands = stands;
  }

  -- so is none of them
  pub no_prefix : (start : plain.State) (entries : List Entry) → Stands start → StandsAfterPrefix Stands start entries
  no_prefix start entries is =
      record { prefix = []; rest = entries; split = refl; after = start; legal = refl; stands = inl is }

-- what stands for a state in one way stands for it in another
module _ (Stands Wider : plain.State → Type 0) (wider : (at : plain.State) → Stands at → Wider at) where
  pub after_wider : (after : plain.State) (entries : List Entry) → StandsAfter Stands after entries
      → StandsAfter Wider after entries
  after_wider after entries (inl is) = inl (wider after is)
  after_wider after entries (inr (command, doubt, is)) =
      inr (command, doubt, wider (state_after after command (Plain answer.Done)) is)

  pub prefix_wider : (start : plain.State) (entries : List Entry) → StandsAfterPrefix Stands start entries
      → StandsAfterPrefix Wider start entries
  prefix_wider start entries is = record {
    prefix = is.prefix;
    rest = is.rest;
    split = is.split;
    after = is.after;
    legal = is.legal;
    stands = after_wider is.after is.prefix is.stands;
  }

-- ---- what is in doubt

-- a change in doubt stays so behind an entry that is no change that was done
pub doubt_stays : (entries : List Entry) (at : plain.State) (entry : Entry) (command : Command)
    → IsInDoubt entries at command → ¬ IsDoneChange entry → IsInDoubt (entries ++ entry ∷ []) at command
doubt_stays entries at entry command doubt not = record {
  before = doubt.before;
  later = doubt.later ++ entry ∷ [];
  split = longer entries doubt.before (entry_of command (Plain answer.Device) ∷ doubt.later) entry doubt.split;
  since = All-append (λ e. ¬ IsDoneChange e) doubt.later (entry ∷ []) doubt.since
      (All-cons (λ e. ¬ IsDoneChange e) entry [] not (All-nil (λ e. ¬ IsDoneChange e)));
  change = doubt.change;
  accepted = doubt.accepted;
}

pub may_stay : (entries : List Entry) (at : plain.State) (entry : Entry) (doubt : Option plain.State) → ¬ IsDoneChange entry
    → MayDoubtAfter entries at doubt → MayDoubtAfter (entries ++ entry ∷ []) at doubt
may_stay entries at entry doubt not (inl none) = inl none
may_stay entries at entry doubt not (inr (inl same)) = inr (inl same)
may_stay entries at entry doubt not (inr (inr changed)) =
    inr (inr (changed.0, doubt_stays entries at entry changed.0 changed.1 not, changed.2))

-- a change that the map accepts is in doubt, where its device failed
pub last_doubt : (entries : List Entry) (at : plain.State) (command : Command) (reply : Reply) → IsChange command
    → reply ≡ Plain answer.Device → reply_of at.world command ≡ Plain answer.Done
    → IsInDoubt (entries ++ entry_of command reply ∷ []) at command
last_doubt entries at command reply change is accepts = record {
  before = entries;
  later = [];
  split = ap (λ r. entries ++ entry_of command r ∷ []) is;
  since = All-nil (λ e. ¬ IsDoneChange e);
  change = change;
  accepted = accepts;
}

-- the log stands for the state after the entries, or for the one in doubt
pub stands_after : (files : stores.BytesByNumber) (at : plain.State) (entries : List Entry) (doubt : Option plain.State)
    (bytes : List ℕ) → MayDoubtAfter entries at doubt → StandsForOneOf files bytes at doubt
    → StandsAfter (StoreStandsFor files bytes) at entries
stands_after files at entries None bytes may is = inl is
stands_after files at entries (Some other) bytes may (inl is) = inl is
stands_after files at entries (Some other) bytes (inl none) (inr is) = absurd cc
stands_after files at entries (Some other) bytes (inr (inl same)) (inr is) =
    inl (subst (StoreStandsFor files bytes) (same_Some other at same) is)
stands_after files at entries (Some other) bytes (inr (inr changed)) (inr is) =
    inr (
      changed.0,
      changed.1,
      subst (StoreStandsFor files bytes)
          (same_Some other (state_after at changed.0 (Plain answer.Done)) changed.2) is,
    )
