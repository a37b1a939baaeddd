-- Runs one behind another, and new stores.
use Rattle.std.proofs.Common.{◌≡◌, inl, inr, ℕ, List, [], ◌∷◌, None, Some, refl, sym, subst, ◌∙◌}
use Rattle.std.specs.Prelude.{IsSome}
use Rattle.tsdb_base.specs.declared.answers.Answer.TheVariants as answer
use Rattle.tsdb_frames.specs.Slots.{HasRecords}
use Rattle.tsdb_history.specs.Joining.{IsFollowed, IsJoined}
use Rattle.tsdb_history.specs.Prefixes.{StandsAfter, StandsAfterPrefix}
use Rattle.tsdb_model.specs.History.{Entry, IsLegal, state_after}
use Rattle.tsdb_model.specs.State as plain
use Rattle.tsdb_model.specs.declared.reply.Reply.TheVariants.{Plain}
use Rattle.tsdb_outside.specs.Disk.{Image, DiskState, in_slot}
use Rattle.tsdb_outside.specs.declared.disk.Slot.{Slot}
use Rattle.tsdb_state.proofs.ReplayLemmas.Stores.{new_log_stands, stands_once}
use Rattle.tsdb_state.specs.Stores.{BytesByNumber, IsSound, StoreStandsFor, no_changes}

pub joined : (files : BytesByNumber) (bytes : List ℕ) (start middle last : plain.State) (first second : List Entry)
    → StandsAfterPrefix (StoreStandsFor files bytes) start first → StoreStandsFor files bytes middle → IsLegal middle second last
    → IsJoined start first second last
joined files bytes start middle last first second left stands legal = by left.stands
  where
    by : StandsAfter (StoreStandsFor files bytes) left.after left.prefix → IsJoined start first second last
    by (inl is) = record {
      prefix = left.prefix;
      rest = left.rest;
      split = left.split;
      between = left.after;
      legal = left.legal;
      doubt = None;
      in_doubt = tt;
      behind = subst (λ state. IsLegal state second last) (stands_once files bytes middle left.after stands is) legal;
    }
    by (inr (command, doubt, is)) = record {
      prefix = left.prefix;
      rest = left.rest;
      split = left.split;
      between = left.after;
      legal = left.legal;
      doubt = Some command;
      in_doubt = doubt;
      behind = subst (λ state. IsLegal state second last)
          (stands_once files bytes middle (state_after left.after command (Plain answer.Done)) stands is) legal;
    }

pub followed : (files : BytesByNumber) (bytes : List ℕ) (start between middle last : plain.State) (first second : List Entry)
    → IsLegal start first between → StandsAfter (StoreStandsFor files bytes) between first → StoreStandsFor files bytes middle
    → IsLegal middle second last → IsFollowed start first second last
followed files bytes start between middle last first second leads left stands legal = by left
  where
    by : StandsAfter (StoreStandsFor files bytes) between first → IsFollowed start first second last
    by (inl is) = record {
      between = between;
      legal = leads;
      doubt = None;
      in_doubt = tt;
      behind = subst (λ state. IsLegal state second last) (stands_once files bytes middle between stands is) legal;
    }
    by (inr (command, doubt, is)) = record {
      between = between;
      legal = leads;
      doubt = Some command;
      in_doubt = doubt;
      behind = subst (λ state. IsLegal state second last)
          (stands_once files bytes middle (state_after between command (Plain answer.Done)) stands is) legal;
    }

pub new_is_sound : (slot : Slot) (disk : DiskState) (files : BytesByNumber) (image : Image) → disk.seen ≡ Some image
    → in_slot slot image ≡ 0 ∷ [] → ((left : Image) → disk.may_leave left → in_slot slot left ≡ 0 ∷ [])
    → IsSound slot disk files no_changes
new_is_sound slot disk files image seen new leaves = record {
  told = subst IsSome (sym seen) refl;
  settled = λ payloads found left is records may.
      subst (HasRecords payloads) (of_seen found is ∙ sym (leaves left may)) records;
  stands = λ found is. subst (λ bytes. StoreStandsFor files bytes no_changes) (sym (of_seen found is)) (new_log_stands files);
}
  where
    of_seen : (found : Image) → disk.seen ≡ Some found → in_slot slot found ≡ 0 ∷ []
    of_seen found is = subst (λ i. in_slot slot i ≡ 0 ∷ []) (let e : Some image ≡ Some found = sym seen ∙ is in cc) new
