-- The listed files after a record: those that were listed, and those that it names.
use Rattle.std.proofs.Common.{ℕ, ◌+◌, Bool, true, false, cond, zero, suc, List, [], ◌∷◌, ◌++◌, length, take, drop}
use Rattle.std.proofs.Common.{Option, None, Some, inl, inr, refl}
use Rattle.std.specs.Prelude.{◌==◌}
use Rattle.std.specs.List.{AllByRecursion as Each}
use Rattle.tsdb_base.specs.declared.ids.Space.{Space}
use Rattle.tsdb_base.specs.declared.ids.Space.TheVariants.{Sequence, Unsequence}
use Rattle.tsdb_base.proofs.Lists.{each_append, each_left, each_right}
use Rattle.tsdb_base.specs.Lists.{Among, if_some}
use Rattle.tsdb_log.specs.declared.record.LogRecord.{LogRecord}
use Rattle.tsdb_log.specs.declared.record.LogRecord.TheVariants.{Create, Delete, Flushed, Freeze, Insert, Replaced, Snapshot}
use Rattle.tsdb_state.specs.Records.{Replacement, after, flush_oldest, names, new_file, new_numbers, number_list}
use Rattle.tsdb_state.specs.Records.{numbers_of, replace, replace_in}
use Rattle.tsdb_state.specs.State.{File, FrozenContent, StoreState}
use Rattle.tsdb_state.specs.Steps.{number_or_none, output_number}

each_take : {X : Type 0} (P : X → Type 0) (n : ℕ) (xs : List X) → Each P xs → Each P (take n xs)
each_take P zero xs all = tt
each_take P (suc n) [] all = tt
each_take P (suc n) (x ∷ xs) all = (all.0, each_take P n xs all.1)

each_drop : {X : Type 0} (P : X → Type 0) (n : ℕ) (xs : List X) → Each P xs → Each P (drop n xs)
each_drop P zero xs all = all
each_drop P (suc n) [] all = tt
each_drop P (suc n) (x ∷ xs) all = each_drop P n xs all.1

module _ (P : File → Type 0) where
  -- it holds of the files of these numbers
  abbrev pub OfNumbers : List ℕ → Type 0
  OfNumbers numbers = (number : ℕ) → Among number numbers → (born : ℕ)
      → P (record { number = number; born = born })

  abbrev Listed : StoreState → Type 0
  Listed store = Each P (store.sequence ++ store.unsequence)

  new_first : (n born : ℕ) (rest : List ℕ) → OfNumbers (new_numbers (n ∷ rest)) → Each P (new_file n born)
  new_first n born rest = by (n == 0)
    where
      by : (b : Bool) → OfNumbers (cond b (new_numbers rest) (n ∷ new_numbers rest))
          → Each P (cond b [] (record { number = n; born = born } ∷ []))
      by true new = tt
      by false new = (new n (inl refl) born, tt)

  new_rest : (n : ℕ) (rest : List ℕ) → OfNumbers (new_numbers (n ∷ rest)) → OfNumbers (new_numbers rest)
  new_rest n rest = by (n == 0)
    where
      by : (b : Bool) → OfNumbers (cond b (new_numbers rest) (n ∷ new_numbers rest)) → OfNumbers (new_numbers rest)
      by true new = new
      by false new = λ number among. new number (inr among)

  flushed_files : (s u : ℕ) (frozen : List FrozenContent) (store : StoreState)
      → OfNumbers (new_numbers (s ∷ u ∷ [])) → Listed store → Listed (flush_oldest s u frozen store)
  flushed_files s u [] store new all = all
  flushed_files s u (oldest ∷ newer) store new all =
      each_append P (store.sequence ++ new_file s oldest.born) (store.unsequence ++ new_file u oldest.born)
      (each_append P store.sequence (new_file s oldest.born)
      (each_left P store.sequence store.unsequence all) (new_first s oldest.born (u ∷ []) new))
      (each_append P store.unsequence (new_file u oldest.born)
      (each_right P store.sequence store.unsequence all)
      (new_first u oldest.born [] (new_rest s (u ∷ []) new)))

  replaced_list : (place count : ℕ) (output files : List File) → Each P output → Each P files
      → Each P (replace place count output files)
  replaced_list place count output files new all =
      each_append P (take place files) (output ++ drop (place + count) files) (each_take P place files all)
      (each_append P output (drop (place + count) files) new (each_drop P (place + count) files all))

  replaced_files : (space : Space) (item : Replacement) (store : StoreState)
      → OfNumbers (new_numbers (item.output ∷ [])) → Listed store → Listed (replace_in space item store)
  replaced_files Sequence item store new all =
      each_append P (replace item.place (length item.sequence) (new_file item.output item.born) store.sequence)
      (drop (length item.unsequence) store.unsequence)
      (replaced_list item.place (length item.sequence) (new_file item.output item.born) store.sequence
      (new_first item.output item.born [] new) (each_left P store.sequence store.unsequence all))
      (each_drop P (length item.unsequence) store.unsequence (each_right P store.sequence store.unsequence all))
  replaced_files Unsequence item store new all =
      each_append P store.sequence
      (replace item.place (length item.unsequence) (new_file item.output item.born) store.unsequence)
      (each_left P store.sequence store.unsequence all)
      (replaced_list item.place (length item.unsequence) (new_file item.output item.born) store.unsequence
      (new_first item.output item.born [] new) (each_right P store.sequence store.unsequence all))

  -- what holds of the listed files, and of those that a record names, holds of the listed files after it
  pub listed_after : (item : LogRecord) (store : StoreState) → OfNumbers (names item) → Listed store
      → Listed (after item store)
  listed_after (Create path data_type encoding) store new all = all
  listed_after (Insert time cells) store new all = all
  listed_after (Delete path range) store new all = all
  listed_after Freeze store new all = all
  listed_after (Flushed sequence unsequence) store new all =
      flushed_files sequence.0 unsequence.0 store.frozen store new all
  listed_after (Replaced born space place output sequence unsequence) store new all =
      replaced_files space (record {
        born = born.0;
        space = space;
        place = place;
        output = output.0;
        sequence = number_list sequence;
        unsequence = number_list unsequence;
      }) store new all
  listed_after (Snapshot snapshot) store new all = all

-- the numbers that the record of a flush names were drawn
pub named_drawn : (s u : Option ℕ) (number : ℕ)
    → Among number (new_numbers ((number_or_none s).0 ∷ (number_or_none u).0 ∷ []))
    → Among number (if_some s ++ if_some u)
named_drawn None None number among = absurd among
named_drawn None (Some u) number among = by (u == 0) among
  where
    by : (b : Bool) → Among number (cond b [] (u ∷ [])) → Among number (u ∷ [])
    by true among = absurd among
    by false among = among
named_drawn (Some s) None number among = by (s == 0) among
  where
    by : (b : Bool) → Among number (cond b [] (s ∷ [])) → Among number (s ∷ [])
    by true among = absurd among
    by false among = among
named_drawn (Some s) (Some u) number among = by (s == 0) (u == 0) among
  where
    by : (b c : Bool) → Among number (cond b (cond c [] (u ∷ [])) (s ∷ cond c [] (u ∷ [])))
        → Among number (s ∷ u ∷ [])
    by true true among = absurd among
    by true false among = inr among
    by false true (inl is) = inl is
    by false true (inr among) = absurd among
    by false false among = among

-- the number that the record of a compaction names is that of its output
pub named_output : (output : List File) (number : ℕ)
    → Among number (new_numbers (output_number output ∷ [])) → Among number (numbers_of output)
named_output [] number among = absurd among
named_output (file ∷ files) number among = by (file.number == 0) among
  where
    by : (b : Bool) → Among number (cond b [] (file.number ∷ [])) → Among number (numbers_of (file ∷ files))
    by true among = absurd among
    by false (inl is) = inl is
    by false (inr among) = absurd among
