-- A turn on a core with loans: one that adds no entry, and one whose entry writes nothing.
use Rattle.std.proofs.Common.{◌≡◌, ℕ, List, [], ◌∷◌, ◌++◌, Option, Some, inl, inr, ⊎_elim, refl, sym}
use Rattle.std.proofs.Common.{append_assoc, arith, subst, ◌∙◌}
use Rattle.std.specs.List.{AllByRecursion as Each}
use Rattle.tsdb_base.proofs.Lists.{each_append, each_left, each_weaker}
use Rattle.tsdb_frames.proofs.MomentLemmas.{leaves_on, weaker}
use Rattle.tsdb_frames.specs.Frames.{disk_of}
use Rattle.tsdb_frames.specs.declared.frames.Frames.{Frames}
use Rattle.tsdb_history.proofs.Prefixes.{entry_of, legal_more, may_stay, prefix_stays, stands_after, state_stays}
use Rattle.tsdb_history.proofs.Prefixes.{whole_prefix}
use Rattle.tsdb_history.proofs.Reach.{all_further, within_more}
use Rattle.tsdb_history.specs.Reach.{AreFullWithin, IsFullWithin}
use Rattle.tsdb_history.specs.Prefixes.{StandsAfterPrefix}
use Rattle.tsdb_history.specs.Serves.{HasAnswered, LeavesPrefix, MayDoubtAfter}
use Rattle.tsdb_memory.specs.LogState.{log_of}
use Rattle.tsdb_model.specs.History.{Entry, IsAllowed, IsChange, IsLegal, state_after}
use Rattle.tsdb_model.specs.State as plain
use Rattle.tsdb_model.specs.declared.command.Command.{Command}
use Rattle.tsdb_model.specs.declared.reply.Reply.{Reply}
use Rattle.tsdb_outside.specs.Disk.{Image, IsLawful, in_slot}
use Rattle.tsdb_outside.specs.Files.{StoredFile}
use Rattle.tsdb_outside.specs.Moments.{LeavesOnly}
use Rattle.tsdb_outside.specs.declared.disk.Disk as disk
use Rattle.tsdb_outside.specs.declared.faults.Counted as counted
use Rattle.tsdb_querying.proofs.Differing.{differ_on}
use Rattle.tsdb_querying.proofs.ServingAnswered.{stamp_is}
use Rattle.tsdb_querying.specs.Core.{logged_of, next_of}
use Rattle.tsdb_querying.specs.CoreType.{Core}
use Rattle.tsdb_querying.specs.Loan.{Loan}
use Rattle.tsdb_querying.specs.Serving.{HasFullCause, IsDrawn, IsServedBy, IsServing, LeavesEither, MayDoubt}
use Rattle.tsdb_querying.specs.Serving.{StaysInPlace, disk_under, slot_under}
use Rattle.tsdb_state.specs.Stores as stores
use Rattle.tsdb_state.specs.Stores.{HoldsKept, StandsForOneOf, StoreStandsFor}

-- this is held of a file
abbrev Held : stores.BytesByNumber → StoredFile → Type 0
Held files file = files file.number ≡ Some file.bytes

module _ {J F S R P : Type 0} {means : disk.Ghosts J} {counts : counted.Ghosts J} where
  -- what was drawn in a turn was drawn since the first one,
  pub drawn_since : (first mid new : Core J F S R P means counts) → StaysInPlace first mid → (n : ℕ) → IsDrawn mid new n
      → IsDrawn first new n
  drawn_since first mid new place n drawn = let from = drawn.from in let next = place.next in
      record { from = omega (arith, from, next); to = drawn.to }

  drawn_before : (first mid new : Core J F S R P means counts) → StaysInPlace mid new → (n : ℕ) → IsDrawn first mid n
      → IsDrawn first new n
  drawn_before first mid new stays n drawn = let to = drawn.to in let next = stays.next in
      record { from = drawn.from; to = omega (arith, to, next) }

  -- and of none that was put before
  pub not_drawn_yet : (first mid new : Core J F S R P means counts) (put : List StoredFile)
      → Each (λ (file : StoredFile). IsDrawn first mid file.number) put
      → Each (λ (file : StoredFile). ¬ IsDrawn mid new file.number) put
  not_drawn_yet first mid new put drawn = each_weaker (λ (file : StoredFile). IsDrawn first mid file.number)
      (λ (file : StoredFile). ¬ IsDrawn mid new file.number)
      (λ file before since. let to = before.to in let from = since.from in absurd (omega (arith, to, from))) put drawn

module _ {J F S R P : Type 0} {means : disk.Ghosts J} {counts : counted.Ghosts J}
    (laws : (journal : J) → IsLawful (means.state journal)) (loans left : List (Loan F S R P))
    (first mid new : Core J F S R P means counts) (files : List StoredFile) (start : plain.State) (entries : List Entry)
    (so_far : HasAnswered loans first mid files start entries) (place : StaysInPlace first mid) (stays : StaysInPlace mid new)
  where
    abbrev at : plain.State
    at = so_far.after

    abbrev held : List StoredFile
    held = files ++ so_far.put

    -- ---- no entry, and files of these numbers may have been put

    module _ (Put : ℕ → Type 0) (since : (n : ℕ) → Put n → IsDrawn first new n)
        (apart : Each (λ (file : StoredFile). ¬ Put file.number) so_far.put)
        (served : IsServedBy Put left mid new held at so_far.doubt at at) where
      abbrev put : List StoredFile
      put = so_far.put ++ served.put

      joined : held ++ served.put ≡ files ++ put
      joined = append_assoc files so_far.put served.put

      abbrev AtAll : Image → Type 0
      AtAll = LeavesPrefix (files ++ put) (slot_under first) start entries

      holds_all : (there : stores.BytesByNumber) → HoldsKept (files ++ put) there → HoldsKept (held ++ served.put) there
      holds_all there holds = subst (λ list. HoldsKept list there) (sym joined) holds

      begins : (image : Image) → LeavesPrefix held (slot_under first) start entries image → AtAll image
      begins image leaves there holds =
          leaves there (each_left (Held there) held served.put (holds_all there holds))

      stands_at : (there : stores.BytesByNumber) (bytes : List ℕ) (doubt : Option plain.State)
          → MayDoubtAfter entries at doubt → StandsForOneOf there bytes at doubt
          → StandsAfterPrefix (StoreStandsFor there bytes) start entries
      stands_at there bytes doubt may is = whole_prefix (StoreStandsFor there bytes) start at entries so_far.legal
          (stands_after there at entries doubt bytes may is)

      last : (image : Image) → LeavesEither (held ++ served.put) (slot_under first) at so_far.doubt at image → AtAll image
      last image (inl leaves) there holds = stands_at there (in_slot (slot_under first) image) so_far.doubt so_far.may
          (leaves there (holds_all there holds))
      last image (inr leaves) there holds = stands_at there (in_slot (slot_under first) image) (Some at) (inr (inl refl))
          (leaves there (holds_all there holds))

      ends : (image : Image) → LeavesEither (held ++ served.put) (slot_under mid) at so_far.doubt at image → AtAll image
      ends image leaves = last image
          (subst (λ slot. LeavesEither (held ++ served.put) slot at so_far.doubt at image) place.slot.same leaves)

      may_then : (doubt : Option plain.State) → MayDoubt so_far.doubt at at doubt → MayDoubtAfter entries at doubt
      may_then doubt (inl none) = inl none
      may_then doubt (inr (inl was)) = subst (MayDoubtAfter entries at) (sym was) so_far.may
      may_then doubt (inr (inr (inl same))) = inr (inl same)
      may_then doubt (inr (inr (inr same))) = inr (inl same)

      pub no_more_answered : HasAnswered left first new files start entries
      no_more_answered = record {
        after = at;
        legal = so_far.legal;
        reached = all_further (next_of mid) (next_of new) start entries stays.next so_far.reached;
        put = put;
        numbers = each_append (λ (file : StoredFile). IsDrawn first new file.number) so_far.put served.put
            (each_weaker (λ (file : StoredFile). IsDrawn first mid file.number)
            (λ (file : StoredFile). IsDrawn first new file.number)
            (λ file drawn. drawn_before first mid new stays file.number drawn) so_far.put so_far.numbers)
            (each_weaker (λ (file : StoredFile). Put file.number) (λ (file : StoredFile). IsDrawn first new file.number)
            (λ file of. since file.number of) served.put served.numbers);
        differ = differ_on (λ n. ¬ Put n) Put (λ a b not is same. not (subst Put (sym same) is)) so_far.put served.put apart
            served.numbers so_far.differ served.differ;
        doubt = served.doubt;
        may = may_then served.doubt served.may;
        serving = subst (λ list. IsServing left new list at served.doubt) joined served.serving;
        moments = leaves_on (disk_under first) (disk_under mid) (disk_under new) (laws new.logged.frames.journal) AtAll
            (weaker (disk_under first) (disk_under mid) (LeavesPrefix held (slot_under first) start entries) AtAll begins
            so_far.moments)
            (weaker (disk_under mid) (disk_under new)
            (LeavesEither (held ++ served.put) (slot_under mid) at so_far.doubt at) AtAll ends served.moments);
      }

      -- what holds of the numbers of what was put, and of these
      pub no_more_put : (Q : ℕ → Type 0) → Each (λ (file : StoredFile). Q file.number) so_far.put
          → ((n : ℕ) → Put n → Q n) → Each (λ (file : StoredFile). Q file.number) no_more_answered.put
      unfolding no_more_answered
      no_more_put Q before these = each_append (λ (file : StoredFile). Q file.number) so_far.put served.put before
          (each_weaker (λ (file : StoredFile). Put file.number) (λ (file : StoredFile). Q file.number)
          (λ file of. these file.number of) served.put served.numbers)

    -- ---- the log is as it was

    module _ (same : log_of (logged_of new) ≡ log_of (logged_of mid)) (serving : IsServing left new held at so_far.doubt)
      where
        abbrev Leaves : List Entry → Core J F S R P means counts → Type 0
        Leaves all core = LeavesOnly (disk_under first) (disk_under core) (LeavesPrefix held (slot_under first) start all)

        same_moments : (all : List Entry) → Leaves all mid → Leaves all new
        same_moments all leaves = subst (λ (log : Frames J means counts). LeavesOnly (disk_under first) (disk_of log)
            (LeavesPrefix held (slot_under first) start all)) (sym same) leaves

        drawn_still : Each (λ (file : StoredFile). IsDrawn first new file.number) so_far.put
        drawn_still = each_weaker (λ (file : StoredFile). IsDrawn first mid file.number)
            (λ (file : StoredFile). IsDrawn first new file.number)
            (λ file drawn. drawn_before first mid new stays file.number drawn) so_far.put so_far.numbers

        reached_still : AreFullWithin (next_of new) start entries
        reached_still = all_further (next_of mid) (next_of new) start entries stays.next so_far.reached

        -- no entry
        pub still_answered : HasAnswered left first new files start entries
        still_answered = record {
          after = at;
          legal = so_far.legal;
          reached = reached_still;
          put = so_far.put;
          numbers = drawn_still;
          differ = so_far.differ;
          doubt = so_far.doubt;
          may = so_far.may;
          serving = serving;
          moments = same_moments entries so_far.moments;
        }

        -- nothing was put
        pub still_put : still_answered.put ≡ so_far.put
        unfolding still_answered
        still_put = refl

        -- and the doubt is the same
        pub still_doubt : still_answered.doubt ≡ so_far.doubt
        unfolding still_answered
        still_doubt = refl

        -- one entry, of a command that is no change
        module _ (command : Command) (reply : Reply) (full : HasFullCause new reply) (none : ¬ IsChange command)
            (allowed : IsAllowed at command reply) where
          abbrev entry : Entry
          entry = entry_of command reply

          same_at : state_after at command reply ≡ at
          same_at = state_stays at command reply (λ done. none done.0)

          within : IsFullWithin (next_of new) at reply
          within counter is =
              ⊎_elim (λ ended. inl (sym (stamp_is left new held at so_far.doubt serving) ∙ ended)) (λ few. inr few)
              (full counter is)

          begins_so : (image : Image) → LeavesPrefix held (slot_under first) start entries image
              → LeavesPrefix held (slot_under first) start (entries ++ entry ∷ []) image
          begins_so image leaves there holds =
              prefix_stays (StoreStandsFor there (in_slot (slot_under first) image)) start entries entry (leaves there holds)

          pub still_more : HasAnswered left first new files start (entries ++ entry ∷ [])
          still_more = record {
            after = at;
            legal = subst (IsLegal start (entries ++ entry ∷ [])) same_at
                (legal_more start at entries command reply so_far.legal allowed);
            reached = within_more (next_of new) start at entries command reply so_far.legal reached_still within;
            put = so_far.put;
            numbers = drawn_still;
            differ = so_far.differ;
            doubt = so_far.doubt;
            may = may_stay entries at entry so_far.doubt (λ done. none done.0) so_far.may;
            serving = serving;
            moments = same_moments (entries ++ entry ∷ []) (weaker (disk_under first) (disk_under mid)
                (LeavesPrefix held (slot_under first) start entries)
                (LeavesPrefix held (slot_under first) start (entries ++ entry ∷ [])) begins_so so_far.moments);
          }

          pub still_more_put : still_more.put ≡ so_far.put
          unfolding still_more
          still_more_put = refl

          pub still_more_doubt : still_more.doubt ≡ so_far.doubt
          unfolding still_more
          still_more_doubt = refl
