-- One record more, and what a slot stands for whose last record may be in doubt.
use Rattle.std.proofs.Common.{inl, inr, ℕ, List, [], ◌∷◌, ◌++◌, map, Option, None, Some, refl, sym, subst}
use Rattle.std.specs.List.{All}
use Rattle.std.specs.Option.{option_map}
use Rattle.std.specs.Prelude.{IfSome}
use Rattle.std.proofs.lemmas.List.{map-append}
use Rattle.std.proofs.lemmas.List.Elements.{All-append, All-cons, All-nil}
use Rattle.tsdb_frames.specs.Log.{HasRecordsOrOneMore}
use Rattle.tsdb_frames.specs.Slots.{HasRecords}
use Rattle.tsdb_log.specs.Spelling.{IsRecord, spelling}
use Rattle.tsdb_log.specs.declared.record.LogRecord.{LogRecord}
use Rattle.tsdb_state.specs.Replays.{HasReplay, IsReplayOf, IsReplayOfOneOf, Replays, RecordSteps}

module _ {S : Type 0} (steps : RecordSteps S) where
  -- records, and then further ones
  pub replays_append : (items others : List LogRecord) (old middle new : S)
      → Replays steps old items middle → Replays steps middle others new → Replays steps old (items ++ others) new
  replays_append [] others old middle new first then = subst (λ s. Replays steps s others new) first then
  replays_append (item ∷ items) others old middle new first then =
      (first.0, first.1, replays_append items others first.0 middle new first.2 then)

  -- one record more at the end
  pub replays_more : (items : List LogRecord) (item : LogRecord) (old middle new : S)
      → Replays steps old items middle → steps.Leads item middle new → Replays steps old (items ++ item ∷ []) new
  replays_more items item old middle new first leads =
      replays_append items (item ∷ []) old middle new first (new, leads, refl)

  -- a slot with these records and one more
  is_more : (items : List LogRecord) (item : LogRecord) (state next : S) (bytes : List ℕ)
      → All IsRecord items → IsRecord item → Replays steps steps.new_store items state → steps.Leads item state next
      → HasRecords (map spelling items ++ spelling item ∷ []) bytes → IsReplayOf steps bytes next
  is_more items item state next bytes good is replayed leads has = record {
    items = items ++ item ∷ [];
    good = All-append IsRecord items (item ∷ []) good (All-cons IsRecord item [] is (All-nil IsRecord));
    records = subst (λ l. HasRecords l bytes) (sym (map-append spelling items (item ∷ []))) has;
    replayed = replays_more items item steps.new_store state next replayed leads;
  }

  -- a slot with the records of a state, or with these and the one in doubt, stands for the state, or for that with the
  -- record in doubt
  pub one_or_more : (items : List LogRecord) (doubt : Option LogRecord) (state : S) (bytes : List ℕ)
      → All IsRecord items → Replays steps steps.new_store items state → IfSome doubt (HasReplay steps state)
      → HasRecordsOrOneMore (map spelling items) (option_map spelling doubt) bytes
      → IsReplayOfOneOf steps doubt bytes state
  one_or_more items None state bytes good replayed follows has =
      record { items = items; good = good; records = has; replayed = replayed }
  one_or_more items (Some item) state bytes good replayed follows (inl has) =
      inl (record { items = items; good = good; records = has; replayed = replayed })
  one_or_more items (Some item) state bytes good replayed follows (inr has) =
      inr (follows.1.0, follows.1.1, is_more items item state follows.1.0 bytes good follows.0 replayed follows.1.1 has)
