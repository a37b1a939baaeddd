-- Flushes keep an engine in order: one is taken, ends without its record, or is committed.
use Rattle.std.proofs.Common.{◌≡◌, ℕ, ◌+◌, ◌<◌, ◌≤◌, List, ◌∷◌, ◌++◌, refl, sym, ap, subst, arith, []}
use Rattle.std.specs.Prelude.{◌≢◌, Option, Some, None}
use Rattle.std.specs.List.{AllByRecursion as Each}
use Rattle.tsdb_base.proofs.Lists.{count_append, each_append, each_left, each_right, each_weaker, with_one_each}
use Rattle.tsdb_base.proofs.Lists.{with_one_is}
use Rattle.tsdb_state.proofs.LayerLemmas.Rising.{before_part, part_left}
use Rattle.tsdb_base.specs.Lists.{Among, EachPair, count, if_some}
use Rattle.tsdb_state.specs.LayerOrder.{IsBeforeInTime}
use Rattle.tsdb_state.specs.Places.{Content}
use Rattle.tsdb_state.proofs.CommitNumbers.{committed_flush_numbers, count_new_two, count_number}
use Rattle.tsdb_state.proofs.EngineRecords.{jobs_moved, purge_kept}
use Rattle.tsdb_state.proofs.Flushing.{first_points, flushed_in_order, flushed_keeps, for_new_file}
use Rattle.tsdb_state.proofs.Fresh.{are_new, count_here, doubt_more, rights_more}
use Rattle.tsdb_state.proofs.Holding.{room_with_flush, room_without_flush}
use Rattle.tsdb_state.proofs.Numbering.{count_files, count_out, drawn_by_flush, ended_flush_numbers}
use Rattle.tsdb_state.proofs.Numbering.{took_flush_numbers}
use Rattle.tsdb_state.proofs.OtherJobs.{stands_more}
use Rattle.tsdb_state.specs.Jobs.{CompactionsInOrder, Describes, IsDrawnFor, IsFlushOut, RightsMatch}
use Rattle.tsdb_state.specs.Jobs.{drawn_numbers, held_numbers}
use Rattle.tsdb_state.specs.Limit.{IsEmptyPair}
use Rattle.tsdb_state.specs.Order.{DoubtInOrder, IsInOrder, all_files}
use Rattle.tsdb_state.specs.Records.{CanFlush, IsNumberOf, flush_oldest, flushed, names, new_file}
use Rattle.tsdb_state.specs.Records.{numbers_of, purged}
use Rattle.tsdb_state.specs.State.{EngineState, KnownFiles, File, FlushState, FrozenContent, PairContent, StoreState, ToldContents}
use Rattle.tsdb_state.specs.Steps.{CommitsFlush, EndsFlush, IsBuilt, TakesFlush, committed_flush, ended_flush}
use Rattle.tsdb_state.specs.Steps.{flush_record, number_or_none, took_flush}
use Rattle.tsdb_state.specs.StoreOrder.{LateIsBelow, StoreInOrder}
use Rattle.tsdb_state.specs.Views.{file_layers, sequence_layer}
use Rattle.tsdb_state.specs.Worlds.{KeepsWorld}

-- the flush of the oldest pair
new_flush : (stamp : ℕ) (frozen : List FrozenContent) (working : PairContent) (oldest : FrozenContent) (newer : List FrozenContent)
    (flush : FlushState) → frozen ≡ oldest ∷ newer → flush.born ≡ oldest.born → flush.pair ≡ oldest.pair
    → Each (λ pair. pair.born ≤ stamp) frozen → EachPair (λ pair later. pair.born < later.born) frozen
    → (¬ IsEmptyPair working → Each (λ pair. pair.born < stamp) frozen)
    → IsDrawnFor flush.sequence flush.pair.sequence → IsDrawnFor flush.unsequence flush.pair.unsequence
    → IsFlushOut stamp frozen working flush
new_flush stamp frozen working oldest newer flush are born pair reached rise before sequence unsequence =
    subst (λ frozen. IsFlushOut stamp frozen working flush) (sym are) (record {
      reached = subst (λ n. n ≤ stamp) (sym born) (subst (Each (λ pair. pair.born ≤ stamp)) are reached).0;
      before = λ some. subst (λ n. n < stamp) (sym born) (subst (Each (λ pair. pair.born < stamp)) are (before some)).0;
      oldest = (omega (arith, born), each_weaker _ _ (λ later h. omega (arith, born, h)) _ rises.0);
      pair = ((λ e. sym pair), each_weaker _ _ (λ later h e. absurd (omega (arith, born, h, e))) _ rises.0);
      sequence = sequence;
      unsequence = unsequence;
    })
  where
    rises : EachPair (λ (pair later : FrozenContent). pair.born < later.born) (oldest ∷ newer)
    rises = subst (EachPair (λ (pair later : FrozenContent). pair.born < later.born)) are rise

-- flushes that are out, without the oldest pair
tail_flush : (stamp : ℕ) (frozen : List FrozenContent) (working : PairContent) (oldest : FrozenContent) (newer : List FrozenContent)
    (flush : FlushState) → frozen ≡ oldest ∷ newer → IsFlushOut stamp frozen working flush
    → IsFlushOut stamp newer working flush
tail_flush stamp frozen working oldest newer flush are out =
    let here = subst (λ frozen. IsFlushOut stamp frozen working flush) are out in
    let older = here.oldest.1 in
    let pairs = here.pair.1 in
    search

-- the numbers of a record

number_is : (o : Option ℕ) (content : Content) → IsDrawnFor o content → ((n : ℕ) → o ≡ Some n → 1 ≤ n)
    → IsNumberOf (number_or_none o).0 content
number_is None content drawn some = ((λ e. drawn), λ ne. absurd (ne refl))
number_is (Some n) content drawn some = ((λ e. absurd (omega (arith, e, some n refl))), λ ne. drawn)

number_has : (told : ToldContents) (known : KnownFiles) (o : Option ℕ) (content : Content) → IsBuilt told known o content
    → (number_or_none o).0 ≢ 0 → told (number_or_none o).0 ≡ content
number_has told known None content built ne = absurd (ne refl)
number_has told known (Some n) content built ne = built.0

new_entry : (told : ToldContents) (known : KnownFiles) (o : Option ℕ) (born : ℕ) (content : Content)
    → IsBuilt told known o content
    → Each (λ (file : File). Describes (known file.number) (told file.number)) (new_file (number_or_none o).0 born)
new_entry told known None born content built = tt
new_entry told known (Some n) born content built = for_new_file
    (Each (λ (file : File). Describes (known file.number) (told file.number))) n born (λ e. tt)
    (λ some. (subst (Describes (known n)) (sym built.0) built.1, tt))

counted_some : (o : Option ℕ) (n : ℕ) → o ≡ Some n → 1 ≤ count n (if_some o)
counted_some None n e = absurd (cc)
counted_some (Some m) n e =
    let same : m ≡ n = cc in
    subst (λ k. 1 ≤ count n (k ∷ [])) (sym same) (omega (arith, count_here n []))

module _ (told : ToldContents) (known : KnownFiles) (named : List ℕ) (state : EngineState)
    (order : IsInOrder told known named state) where
  abbrev old : StoreState
  old = state.store

  pub take_flush_step : (flush : FlushState) → TakesFlush flush state
      → IsInOrder told known named (took_flush flush state)
  take_flush_step flush takes =
      let out = new_flush old.stamp old.frozen old.working takes.oldest takes.newer flush takes.are takes.born
      takes.pair order.store.stamps.frozen_born order.store.stamps.frozen_rise order.store.stamps.working_born
      takes.sequence takes.unsequence in
      let numbers = took_flush_numbers named flush state takes order.numbers in
      let room = room_with_flush flush state.room state.flushes state.compactions order.room in
      search

  more_files : (built : List File) (n : ℕ) → count n (numbers_of (all_files state))
      ≤ count n (numbers_of ((old.sequence ++ old.unsequence) ++ (state.outgoing ++ built)))
  more_files built n = omega (arith, count_out n (old.sequence ++ old.unsequence) state.outgoing built)

  pub end_flush_step : (flush : FlushState) (others : List FlushState) (built : List File)
      → EndsFlush flush others built state → IsInOrder told known named (ended_flush flush others built state)
  end_flush_step flush others built ends =
      let flushes = with_one_each _ flush others state.flushes ends.out order.flushes in
      let numbers = ended_flush_numbers named flush others built state ends order.numbers in
      let rights = rights_more _ _ (all_files (ended_flush flush others built state)) _ order.rights (more_files built)
      in
      let room = room_without_flush flush others state.room state.flushes state.compactions ends.out order.room in
      let doubt = doubt_more told named old state.outgoing built state.doubt order.doubt in
      search

  module _ (flush : FlushState) (others : List FlushState) (commits : CommitsFlush told known flush others state) where
    out : IsFlushOut old.stamp old.frozen old.working flush
    out = with_one_is _ _ _ _ commits.out order.flushes

    pair_is : commits.oldest.pair ≡ flush.pair
    pair_is =
        (subst (Each (λ pair. pair.born ≡ flush.born → pair.pair ≡ flush.pair)) commits.are out.pair).0 commits.born

    drawn : (n : ℕ) → count n (if_some flush.sequence) + count n (if_some flush.unsequence)
        ≤ count n (drawn_numbers state.flushes state.compactions)
    drawn n = omega (
      arith,
      drawn_by_flush n flush others state.flushes state.compactions commits.out,
      count_append n (if_some flush.sequence) (if_some flush.unsequence),
    )

    positive : (n : ℕ) → 1 ≤ count n (if_some flush.sequence) + count n (if_some flush.unsequence) → 1 ≤ n
    positive n h = (order.numbers.range n (omega (arith, drawn n))).0

    abbrev first : ℕ
    first = (number_or_none flush.sequence).0

    abbrev second : ℕ
    second = (number_or_none flush.unsequence).0

    first_is : IsNumberOf first commits.oldest.pair.sequence
    first_is = rw pair_is (number_is flush.sequence flush.pair.sequence out.sequence
        (λ n e. positive n (omega (arith, counted_some flush.sequence n e))))

    second_is : IsNumberOf second commits.oldest.pair.unsequence
    second_is = rw pair_is (number_is flush.unsequence flush.pair.unsequence out.unsequence
        (λ n e. positive n (omega (arith, counted_some flush.unsequence n e))))

    first_has : first ≢ 0 → told first ≡ commits.oldest.pair.sequence
    first_has ne = rw pair_is (number_has _ _ _ _ commits.sequence ne)

    second_has : second ≢ 0 → told second ≡ commits.oldest.pair.unsequence
    second_has ne = rw pair_is (number_has _ _ _ _ commits.unsequence ne)

    abbrev more_sequence : List File
    more_sequence = new_file first commits.oldest.born

    abbrev more_unsequence : List File
    more_unsequence = new_file second commits.oldest.born

    -- the store before its marks are purged
    abbrev put : StoreState
    put = record old {
      frozen = commits.newer;
      sequence = old.sequence ++ more_sequence;
      unsequence = old.unsequence ++ more_unsequence;
    }

    is_put : flushed first second old ≡ purged put
    is_put = ap (λ frozen. flush_oldest first second frozen old) commits.are

    pub flush_in_order : StoreInOrder told (flushed first second old)
    flush_in_order = flushed_in_order _ _ _ _ _ _ commits.are first_is second_is first_has second_has order.store

    pub flush_keeps : KeepsWorld told old (flushed first second old)
    flush_keeps = flushed_keeps _ _ _ _ _ _ commits.are first_is second_is first_has second_has order.store

    late_before : IsBeforeInTime (file_layers told old.unsequence) (file_layers told more_sequence)
    late_before = before_part _ _ _ (sequence_layer commits.oldest ∷ []) (part_left _ _)
        (first_points _ old _ commits.newer _ _ first_is second_is first_has second_has)
        (subst (LateIsBelow (file_layers told old.unsequence)) commits.are order.store.layers.late).0

    jobs : CompactionsInOrder told old.stamp (purged put).marks put.sequence put.unsequence state.compactions
    jobs = jobs_moved _ order.compactions.kinds (λ job k kind stands marked.
        let new = stands_more _ _ _ _ _ _ _ late_before
        stands in
        (new, purge_kept _ _ _ put _ kind new marked)) order.compactions

    entries : Each (λ (file : File). Describes (known file.number) (told file.number)) (put.sequence ++ put.unsequence)
    entries =
        let P = λ (file : File). Describes (known file.number) (told file.number) in
        each_append P put.sequence put.unsequence (each_append P old.sequence _
        (each_left P old.sequence old.unsequence order.entries)
        (new_entry _ _ _ commits.oldest.born _ commits.sequence))
        (each_append P old.unsequence _ (each_right P old.sequence old.unsequence order.entries)
        (new_entry _ _ _ commits.oldest.born _ commits.unsequence))

    -- the store of the flush, seen as that before its purge
    as_put : (P : StoreState → Type 0) → P (purged put) → P (flushed first second old)
    as_put P = subst P (sym is_put)

    files_more : (n : ℕ) → count n (numbers_of (all_files state))
        ≤ count n (numbers_of ((put.sequence ++ put.unsequence) ++ (state.outgoing ++ [])))
    files_more n = omega (arith, count_files)

    pub commit_flush_step : IsInOrder told known (names (flush_record flush) ++ named)
        (committed_flush flush others state)
    commit_flush_step = record {
      store = flush_in_order;
      flushes = as_put (λ store. Each (IsFlushOut store.stamp store.frozen store.working) others)
          (each_weaker _ _ (λ other. tail_flush _ _ _ _ _ _ commits.are) _
          (with_one_each _ _ _ _ commits.out order.flushes));
      compactions = as_put (λ store. CompactionsInOrder told store.stamp store.marks store.sequence store.unsequence
          state.compactions) jobs;
      numbers = committed_flush_numbers _ _ _ _ _ _ commits order.numbers;
      entries = as_put (λ store. Each (λ (file : File). Describes (known file.number) (told file.number))
          (store.sequence ++ store.unsequence)) entries;
      rights =
          as_put (λ store. RightsMatch state.rights ((store.sequence ++ store.unsequence) ++ (state.outgoing ++ []))
          (held_numbers state.compactions state.pins)) (rights_more _ _ _ _ order.rights files_more);
      room = room_without_flush _ _ _ _ _ commits.out order.room;
      doubt = tt;
    }

    pub flush_can : CanFlush named first second old
    flush_can = record {
      oldest = commits.oldest;
      newer = commits.newer;
      are = commits.are;
      sequence_part = first_is;
      unsequence_part = second_is;
      fresh = are_new _ _ _ _ _ order.numbers (λ n. omega (
        arith,
        count_new_two n first second,
        count_number n flush.sequence,
        count_number n flush.unsequence,
        drawn n,
      ));
    }

    -- the record in doubt, where its files are on their way out
    pub flush_doubt : (outgoing : List File)
        → Each (λ number. Among number (numbers_of outgoing)) (names (flush_record flush))
        → DoubtInOrder told named old outgoing (flush_record flush)
    flush_doubt outgoing kept = record { can = flush_can; order = flush_in_order; world = flush_keeps; kept = kept }
