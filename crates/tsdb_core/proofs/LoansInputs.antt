-- The inputs of compactions that are out stand in the lists, whatever else is done with these.
use Rattle.std.proofs.Common.{◌≡◌, ◌⊎◌, ℕ, ◌+◌, ◌-◌, ◌≤◌, Bool, true, false, cond, List, [], ◌∷◌, ◌++◌, drop}
use Rattle.std.proofs.Common.{length, map, take, Option, inl, inr, ⊎_elim, ap, append_assoc, arith, length-append}
use Rattle.std.proofs.Common.{refl, sym, subst, ◌∙◌}
use Rattle.std.proofs.lemmas.Bool.{false≢true}
use Rattle.std.proofs.lemmas.List.{drop-map, drop_at, length-map, length-take-le, map-append, take-map, take_at}
use Rattle.std.specs.Cmp.{unsigned_Decides}
use Rattle.std.specs.List.{AllByRecursion as Each}
use Rattle.std.specs.Prelude.{slice_range}
use Rattle.tsdb_base.specs.declared.ids.FileNumber.{FileNumber}
use Rattle.tsdb_base.specs.declared.ids.Space.{Space}
use Rattle.tsdb_base.specs.declared.ids.Space.TheVariants.{Sequence, Unsequence}
use Rattle.tsdb_tasks.proofs.InState.{counted_among}
use Rattle.tsdb_tasks.specs.Finishing.{IsRunOf, StandInSequence}
use Rattle.tsdb_core.proofs.LoansRights.{is_counted}
use Rattle.tsdb_core.specs.Loans.{AreJobNumbersApart, IsOwned, KeepsInputs, StandClaimed, StandFrom, StandsIn}
use Rattle.tsdb_core.specs.Replacements.{without_claim}
use Rattle.tsdb_memory.proofs.Counts.{among_either}
use Rattle.tsdb_fileset.proofs.Replaced.{run_parts}
use Rattle.tsdb_fileset.specs.Files.{KeptFiles, entry_numbers}
use Rattle.tsdb_fileset.specs.Replacing.{IsWithin, claim_run, output_in, replace_run, with_claim}
use Rattle.tsdb_base.proofs.Lists.{among_left, among_map, among_right, count_append, each_all, each_among, each_append}
use Rattle.tsdb_base.proofs.Lists.{each_both, each_from_among, each_left, each_map, each_right, each_weaker, runs_apart}
use Rattle.tsdb_base.proofs.Lists.{with_one_apart, with_one_each, with_one_pairs}
use Rattle.tsdb_base.specs.Lists.{Among, EachPair, IsRun, IsWithOne, count, if_some}
use Rattle.tsdb_plan.specs.declared.entry.FileEntry.{FileEntry}
use Rattle.tsdb_plan.specs.declared.entry.Run.{Run}
use Rattle.tsdb_state.specs.Plans.{IsSequenceFree}
use Rattle.tsdb_state.specs.Records.{numbers_of}
use Rattle.tsdb_state.specs.State.{Compaction}
use Rattle.tsdb_outside.specs.Files.{plain_numbers}

-- ---- lists that grow, or stay

grown_run : {X : Type 0} (run all more : List X) → IsRun run all → IsRun run (all ++ more)
grown_run run all more is = record {
  before = is.before;
  behind = is.behind ++ more;
  is = ap (λ xs. xs ++ more) is.is ∙ append_assoc is.before (run ++ is.behind) more
      ∙ ap (λ ys. is.before ++ ys) (append_assoc run is.behind more);
}

grown_late : (numbers : List ℕ) (old more : List FileEntry) → StandClaimed numbers old
    → StandClaimed numbers (old ++ more)
grown_late numbers old more stand = record {
  taken = stand.taken;
  run = grown_run stand.taken old more stand.run;
  are = stand.are;
  claimed = stand.claimed;
}

grown_sequence : (space : Space) (place : ℕ) (numbers : List ℕ) (old more : List FileEntry)
    → StandFrom space place numbers (entry_numbers old) → StandFrom space place numbers (entry_numbers (old ++ more))
unfolding grown_run
grown_sequence Sequence place numbers old more (run, at) =
    subst (StandFrom Sequence place numbers) (sym (map-append (λ (e : FileEntry). e.number.0) old more))
    (grown_run numbers (entry_numbers old) (entry_numbers more) run, at)
grown_sequence Unsequence place numbers old more is = is

-- nothing that is not claimed has an owner
pub fresh_owned : (compactions : List Compaction) (entries : List FileEntry)
    → Each (λ (entry : FileEntry). entry.claimed ≡ false) entries → Each (IsOwned compactions) entries
fresh_owned compactions entries fresh = each_weaker (λ (entry : FileEntry). entry.claimed ≡ false) (IsOwned compactions)
    (λ entry none some. absurd (false≢true (sym none ∙ some))) entries fresh

pub inputs_grown : (old new : KeptFiles) (a b : List FileEntry) (claimed : Bool) (compactions : List Compaction)
    → new.sequence ≡ old.sequence ++ a → new.unsequence ≡ old.unsequence ++ b
    → Each (λ (entry : FileEntry). entry.claimed ≡ false) b
    → KeepsInputs old claimed compactions → KeepsInputs new claimed compactions
inputs_grown old new a b claimed compactions first second fresh keeps = record {
  stand = each_weaker (StandsIn old) (StandsIn new) (λ job stands. record {
    late = subst (StandClaimed (numbers_of job.unsequence)) (sym second)
        (grown_late (numbers_of job.unsequence) old.unsequence b stands.late);
    sequence = subst (λ es. StandFrom job.space job.place (numbers_of job.sequence) (entry_numbers es)) (sym first)
        (grown_sequence job.space job.place (numbers_of job.sequence) old.sequence a stands.sequence);
  }) compactions keeps.stand;
  apart = keeps.apart;
  free = keeps.free;
  taken = keeps.taken;
  owned = subst (Each (IsOwned compactions)) (sym second)
      (each_append (IsOwned compactions) old.unsequence b keeps.owned (fresh_owned compactions b fresh));
}

pub inputs_same : (old new : KeptFiles) (claimed : Bool) (compactions : List Compaction)
    → new.sequence ≡ old.sequence → new.unsequence ≡ old.unsequence
    → KeepsInputs old claimed compactions → KeepsInputs new claimed compactions
inputs_same old new claimed compactions first second keeps = record {
  stand = each_weaker (StandsIn old) (StandsIn new) (λ job stands. record {
    late = subst (StandClaimed (numbers_of job.unsequence)) (sym second) stands.late;
    sequence = subst (λ es. StandFrom job.space job.place (numbers_of job.sequence) (entry_numbers es)) (sym first)
        stands.sequence;
  }) compactions keeps.stand;
  apart = keeps.apart;
  free = keeps.free;
  taken = keeps.taken;
  owned = subst (Each (IsOwned compactions)) (sym second) keeps.owned;
}

-- ---- the inputs of a job in the lists, both ways

pub from_stands : (space : Space) (place : ℕ) (numbers : List FileNumber) (entries : List FileEntry)
    → StandInSequence space place numbers entries → StandFrom space place (plain_numbers numbers) (entry_numbers entries)
from_stands Sequence place numbers entries of = (
  record {
    before = entry_numbers front;
    behind = entry_numbers back;
    is = ap entry_numbers (sym (run_parts place end entries of.within.rises))
        ∙ map-append (λ (e : FileEntry). e.number.0) front (mid ++ back)
        ∙ ap (λ ys. entry_numbers front ++ ys) (map-append (λ (e : FileEntry). e.number.0) mid back
        ∙ ap (λ ns. ns ++ entry_numbers back) of.are);
  },
  length-map front (λ (e : FileEntry). e.number.0) ∙ length-take-le place entries
      (omega (arith, of.within.rises, of.within.ends)),
)
  where
    end : ℕ
    end = place + length numbers

    front : List FileEntry
    front = take place entries

    mid : List FileEntry
    mid = slice_range entries place end

    back : List FileEntry
    back = drop end entries
from_stands Unsequence place numbers entries none = ap plain_numbers none

no_numbers : (numbers : List FileNumber) → plain_numbers numbers ≡ [] → numbers ≡ []
no_numbers [] is = refl
no_numbers (n ∷ numbers) is = absurd cc

pub stands_from : (space : Space) (place : ℕ) (numbers : List FileNumber) (entries : List FileEntry)
    → StandFrom space place (plain_numbers numbers) (entry_numbers entries) → StandInSequence space place numbers entries
stands_from Sequence place numbers entries (run, at) =
    let ns = plain_numbers numbers in
    let many : length ns ≡ length numbers = length-map numbers (λ (n : FileNumber). n.0) in
    let long : length entries ≡ place + (length numbers + length run.behind) =
    omega (
      arith,
      length-map entries (λ (e : FileEntry). e.number.0),
      ap length run.is,
      length-append run.before (ns ++ run.behind),
      length-append ns run.behind,
      many,
      at,
    ) in
    let count_is : (place + length numbers) - place ≡ length ns = omega (arith, many) in
    record {
      within = record { rises = omega arith; ends = omega (arith, long) };
      are = ap (λ n. entry_numbers (take n (drop place entries))) count_is
          ∙ sym (take-map (λ (e : FileEntry). e.number.0) (length ns) (drop place entries))
          ∙ ap (take (length ns)) (sym (drop-map (λ (e : FileEntry). e.number.0) place entries)
          ∙ ap (drop place) run.is ∙ drop_at run.before (ns ++ run.behind) place at)
          ∙ take_at ns run.behind (length ns) refl;
    }
stands_from Unsequence place numbers entries none = no_numbers numbers none

-- ---- a run that another one lies beside

run_beside : {X : Type 0} (front mid back these taken before behind : List X)
    → ((x : X) → Among x mid → Among x taken → ⊥) → (mid ≡ [] → these ≡ [])
    → front ++ (mid ++ back) ≡ before ++ (taken ++ behind) → IsRun taken (front ++ (these ++ back))
run_beside front mid back these [] before behind share none is =
    record { before = []; behind = front ++ (these ++ back); is = refl }
run_beside front [] back these (o ∷ other) before behind share none is =
    record { before = before; behind = behind; is = ap (λ zs. front ++ (zs ++ back)) (none refl) ∙ is }
run_beside front (r ∷ run) back these (o ∷ other) before behind share none is =
    ⊎_elim
    (λ h. record {
      before = h.before;
      behind = h.behind ++ (these ++ back);
      is = ap (λ xs. xs ++ (these ++ back)) h.is
          ∙ append_assoc h.before ((o ∷ other) ++ h.behind) (these ++ back)
          ∙ ap (λ ys. h.before ++ ys) (append_assoc (o ∷ other) h.behind (these ++ back));
    })
    (λ h. record {
      before = front ++ (these ++ h.before);
      behind = h.behind;
      is = ap (λ ys. front ++ (these ++ ys)) h.is
          ∙ sym (append_assoc front (these ++ h.before) ((o ∷ other) ++ h.behind)
          ∙ ap (λ ys. front ++ ys) (append_assoc these h.before ((o ∷ other) ++ h.behind)));
    })
    (runs_apart r run o other front back before behind share is)

-- files of a list are replaced by others: those of a job that shares no number with them stand as they did
pub late_beside : (mine theirs : List ℕ) (run : Run) (these old new : List FileEntry) → IsWithin run old
    → entry_numbers (slice_range old run.first run.end) ≡ mine → (mine ≡ [] → these ≡ [])
    → ((n : ℕ) → Among n mine → Among n theirs → ⊥) → new ≡ replace_run run these old
    → StandClaimed theirs old → StandClaimed theirs new
late_beside mine theirs run these old new within are none apart is stand = record {
  taken = stand.taken;
  run = subst (IsRun stand.taken) (sym is) (run_beside (take run.first old) mid (drop run.end old) these stand.taken
      stand.run.before stand.run.behind
      (λ x first second. apart x.number.0
      (subst (Among x.number.0) are (among_map (λ (e : FileEntry). e.number.0) mid x first))
      (subst (Among x.number.0) stand.are (among_map (λ (e : FileEntry). e.number.0) stand.taken x second)))
      (λ empty. none (sym are ∙ ap entry_numbers empty))
      (run_parts run.first run.end old within.rises ∙ stand.run.is));
  are = stand.are;
  claimed = stand.claimed;
}
  where
    mid : List FileEntry
    mid = slice_range old run.first run.end

pub none_there : (entries : List FileEntry) → entry_numbers entries ≡ [] → entries ≡ []
none_there [] is = refl
none_there (e ∷ entries) is = absurd cc

-- the sequence list, where a job ends: the inputs of another one stand as they did
pub sequence_beside : (space other : Space) (run : Run) (numbers : List FileNumber) (place : ℕ) (theirs : List ℕ)
    (output : Option FileEntry) (old new : List FileEntry) → (space ≡ Sequence → other ≡ Sequence → ⊥)
    → (space ≡ Unsequence → numbers ≡ []) → IsRunOf run numbers old
    → new ≡ replace_run run (if_some (output_in Sequence space output)) old
    → StandFrom other place theirs (entry_numbers old) → StandFrom other place theirs (entry_numbers new)
sequence_beside Sequence Sequence run numbers place theirs output old new apart none of is stand =
    absurd (apart refl refl)
sequence_beside Sequence Unsequence run numbers place theirs output old new apart none of is stand = stand
sequence_beside Unsequence Unsequence run numbers place theirs output old new apart none of is stand = stand
sequence_beside Unsequence Sequence run numbers place theirs output old new apart none of is stand =
    let empty : slice_range old run.first run.end ≡ [] =
    none_there (slice_range old run.first run.end) (of.are ∙ ap plain_numbers (none refl)) in
    let same : new ≡ old =
    is ∙ ap (λ zs. take run.first old ++ (zs ++ drop run.end old)) (sym empty)
    ∙ run_parts run.first run.end old of.within.rises in
    subst (λ es. StandFrom Sequence place theirs (entry_numbers es)) (sym same) stand

-- ---- the others, where a compaction ends

turn : (a b : Compaction) → AreJobNumbersApart a b → AreJobNumbersApart b a
turn a b apart = record {
  one = λ first second. apart.one second first;
  late = λ n first second. apart.late n second first;
}

pub others_free : (space : Space) (claimed : Bool) (job : Compaction) (others compactions : List Compaction)
    → job.space ≡ space → IsWithOne job others compactions → EachPair AreJobNumbersApart compactions
    → (claimed ≡ false → IsSequenceFree compactions) → without_claim space claimed ≡ false → IsSequenceFree others
others_free Sequence claimed job others compactions is out apart free now =
    each_weaker (AreJobNumbersApart job) (λ other. other.space ≡ Sequence → ⊥) (λ other a same. a.one is same) others
    (with_one_apart AreJobNumbersApart turn job others compactions out apart)
others_free Unsequence claimed job others compactions is out apart free now =
    with_one_each (λ other. other.space ≡ Sequence → ⊥) job others compactions out (free now)

no_space : Sequence ≡ Unsequence → ⊥
no_space is = cc

-- a job of late files leaves the sequence list as it is
still_taken : (space : Space) (claimed : Bool) (job : Compaction) (others compactions : List Compaction)
    → job.space ≡ space → IsWithOne job others compactions → (claimed ≡ true → ¬ IsSequenceFree compactions)
    → without_claim space claimed ≡ true → ¬ IsSequenceFree others
still_taken Sequence claimed job others compactions is out taken now = absurd (false≢true now)
still_taken Unsequence claimed job others compactions is out taken now = λ free.
    let both : Each IsLate (out.before ++ out.behind) = subst (Each IsLate) out.without free in
    taken now (subst (Each IsLate) (sym out.with_it)
    (each_append IsLate out.before (job ∷ out.behind) (each_left IsLate out.before out.behind both)
    ((λ same. no_space (sym same ∙ is)), each_right IsLate out.before out.behind both)))
  where
    IsLate : Compaction → Type 0
    IsLate other = other.space ≡ Sequence → ⊥

-- one of all compactions is this one, or one of the others
this_or_other : (job made : Compaction) (others compactions : List Compaction) → IsWithOne made others compactions
    → Among job compactions → (made ≡ job) ⊎ Among job others
this_or_other job made others compactions out among =
    ⊎_elim (λ before. inr (subst (Among job) (sym out.without) (among_left out.before out.behind job before)))
    (λ rest. ⊎_elim (λ this. inl this)
    (λ behind. inr (subst (Among job) (sym out.without) (among_right out.before out.behind job behind))) rest)
    (among_either out.before (made ∷ out.behind) job (subst (Among job) out.with_it among))

-- Files of the run of a job that ends are replaced by others that have an owner, if they are claimed: so has each file
-- behind that, since no number stands twice.
pub owned_left : (run : Run) (these old new : List FileEntry) (made : Compaction) (others compactions : List Compaction)
    → IsWithin run old → entry_numbers (slice_range old run.first run.end) ≡ numbers_of made.unsequence
    → ((n : ℕ) → count n (entry_numbers old) ≤ 1) → IsWithOne made others compactions
    → Each (IsOwned others) these → new ≡ replace_run run these old → Each (IsOwned compactions) old
    → Each (IsOwned others) new
owned_left run these old new made others compactions within mine once out owned is all =
    subst (Each (IsOwned others)) (sym is)
    (each_append (IsOwned others) front (these ++ back)
    (each_from_among (IsOwned others) front (λ entry among. passed entry
    (each_among (IsOwned compactions) front entry (each_left (IsOwned compactions) front (mid ++ back) parts) among)
    (λ n is_n inside. twice entry.number.0 (counted_among front entry among) (counts_in n inside is_n))))
    (each_append (IsOwned others) these back owned
    (each_from_among (IsOwned others) back (λ entry among. passed entry
    (each_among (IsOwned compactions) back entry (each_right (IsOwned compactions) mid back
    (each_right (IsOwned compactions) front (mid ++ back) parts)) among)
    (λ n is_n inside. behind entry.number.0 (counted_among back entry among) (counts_in n inside is_n))))))
  where
    front : List FileEntry
    front = take run.first old

    mid : List FileEntry
    mid = slice_range old run.first run.end

    back : List FileEntry
    back = drop run.end old

    whole : front ++ (mid ++ back) ≡ old
    whole = run_parts run.first run.end old within.rises

    parts : Each (IsOwned compactions) (front ++ (mid ++ back))
    parts = subst (Each (IsOwned compactions)) (sym whole) all

    counts : (n : ℕ) → count n (entry_numbers old)
        ≡ count n (entry_numbers front) + (count n (entry_numbers mid) + count n (entry_numbers back))
    counts n = ap (λ (list : List FileEntry). count n (entry_numbers list)) (sym whole)
        ∙ ap (count n) (map-append (λ (e : FileEntry). e.number.0) front (mid ++ back))
        ∙ count_append n (entry_numbers front) (entry_numbers (mid ++ back))
        ∙ ap (λ m. count n (entry_numbers front) + m) (ap (count n) (map-append (λ (e : FileEntry). e.number.0) mid back)
        ∙ count_append n (entry_numbers mid) (entry_numbers back))

    counts_in : (n : ℕ) {m : ℕ} → Among n (entry_numbers mid) → n ≡ m → 1 ≤ count m (entry_numbers mid)
    counts_in n inside same = subst (λ k. 1 ≤ count k (entry_numbers mid)) same (is_counted n (entry_numbers mid) inside)

    twice : (n : ℕ) → 1 ≤ count n (entry_numbers front) → 1 ≤ count n (entry_numbers mid) → ⊥
    twice n first second = omega (arith, first, second, counts n, once n)

    behind : (n : ℕ) → 1 ≤ count n (entry_numbers back) → 1 ≤ count n (entry_numbers mid) → ⊥
    behind n first second = omega (arith, first, second, counts n, once n)

    passed : (entry : FileEntry) → IsOwned compactions entry
        → ((n : ℕ) → n ≡ entry.number.0 → Among n (entry_numbers mid) → ⊥) → IsOwned others entry
    passed entry owner outside some =
        let has = owner some in
        ⊎_elim
        (λ this. absurd (outside entry.number.0 refl (subst (Among entry.number.0) (sym mine)
        (subst (λ (c : Compaction). Among entry.number.0 (numbers_of c.unsequence)) (sym this) has.input))))
        (λ other. record { job = has.job; among = other; input = has.input })
        (this_or_other has.job made others compactions out has.among)

-- the inputs of each other stand where they do of each that is apart from the one that ends
pub inputs_left : (old new : KeptFiles) (space : Space) (claimed : Bool) (job : Compaction)
    (others compactions : List Compaction) → job.space ≡ space → IsWithOne job others compactions
    → ((other : Compaction) → AreJobNumbersApart job other → StandsIn old other → StandsIn new other)
    → Each (IsOwned others) new.unsequence
    → KeepsInputs old claimed compactions → KeepsInputs new (without_claim space claimed) others
inputs_left old new space claimed job others compactions is out still owned keeps = record {
  stand = each_both (AreJobNumbersApart job) (StandsIn old) (StandsIn new) still others
      (with_one_apart AreJobNumbersApart turn job others compactions out keeps.apart)
      (with_one_each (StandsIn old) job others compactions out keeps.stand);
  apart = with_one_pairs AreJobNumbersApart job others compactions out keeps.apart;
  free = others_free space claimed job others compactions is out keeps.apart keeps.free;
  taken = still_taken space claimed job others compactions is out keeps.taken;
  owned = owned;
}

-- ---- a compaction that begins

-- two entries of a list with one number are one
one_entry : (entries : List FileEntry) (a b : FileEntry) → Among a entries → Among b entries
    → a.number.0 ≡ b.number.0 → count a.number.0 (entry_numbers entries) ≤ 1 → a ≡ b
one_entry [] a b first second same once = absurd first
one_entry (e ∷ entries) a b (inl x) (inl y) same once = sym x ∙ y
one_entry (e ∷ entries) a b (inl x) (inr y) same once = absurd (omega (
  arith,
  once,
  ap {B = ℕ} (λ t. cond t 1 0) ((unsigned_Decides e.number.0 a.number.0).1 (ap (λ (f : FileEntry). f.number.0) x)),
  subst (λ n. 1 ≤ count n (entry_numbers entries)) (sym same) (counted_among entries b y),
))
one_entry (e ∷ entries) a b (inr x) (inl y) same once = absurd (omega (
  arith,
  once,
  ap {B = ℕ} (λ t. cond t 1 0) ((unsigned_Decides e.number.0 a.number.0).1
      (ap (λ (f : FileEntry). f.number.0) y ∙ sym same)),
  counted_among entries a x,
))
one_entry (e ∷ entries) a b (inr x) (inr y) same once = one_entry entries a b x y same (omega (arith, once))

pub record EntryOf (n : ℕ) (entries : List FileEntry) : Type 0 where
  pub entry : FileEntry
  pub among : Among entry entries
  pub is : entry.number.0 ≡ n

pub entry_of : (n : ℕ) (entries : List FileEntry) → Among n (entry_numbers entries) → EntryOf n entries
entry_of n [] among = absurd among
entry_of n (e ∷ entries) (inl is) = record { entry = e; among = inl refl; is = is }
entry_of n (e ∷ entries) (inr among) =
    let rest = entry_of n entries among in
    record { entry = rest.entry; among = inr rest.among; is = rest.is }

-- entries of which none is claimed share no number with those of a job that is out
pub free_apart : (entries mid front back : List FileEntry) (theirs : List ℕ) → front ++ (mid ++ back) ≡ entries
    → ((n : ℕ) → count n (entry_numbers entries) ≤ 1) → Each (λ (e : FileEntry). e.claimed ≡ false) mid
    → StandClaimed theirs entries → (n : ℕ) → Among n (entry_numbers mid) → Among n theirs → ⊥
free_apart entries mid front back theirs parts once free stand n first second =
    let one = entry_of n mid first in
    let two = entry_of n stand.taken (subst (Among n) (sym stand.are) second) in
    let here : Among one.entry entries =
    subst (Among one.entry) parts (among_right front (mid ++ back) one.entry
    (among_left mid back one.entry one.among)) in
    let there : Among two.entry entries =
    subst (Among two.entry) (sym stand.run.is) (among_right stand.run.before (stand.taken ++ stand.run.behind)
    two.entry (among_left stand.taken stand.run.behind two.entry two.among)) in
    let same : one.entry ≡ two.entry =
    one_entry entries one.entry two.entry here there (one.is ∙ sym two.is) (once one.entry.number.0) in
    false≢true (sym (each_among (λ (e : FileEntry). e.claimed ≡ false) mid one.entry free one.among)
    ∙ ap (λ (e : FileEntry). e.claimed) same
    ∙ each_among (λ (e : FileEntry). e.claimed ≡ true) stand.taken two.entry stand.claimed two.among)

claimed_numbers : (entries : List FileEntry) → entry_numbers (map (with_claim true) entries) ≡ entry_numbers entries
claimed_numbers [] = refl
claimed_numbers (e ∷ entries) = ap (λ ns. e.number.0 ∷ ns) (claimed_numbers entries)

-- the late files of a run that is claimed stand so
pub run_stands_claimed : (run : Run) (old new : List FileEntry) → new ≡ claim_run run true old
    → StandClaimed (entry_numbers (slice_range old run.first run.end)) new
run_stands_claimed run old new is = record {
  taken = map (with_claim true) mid;
  run = record { before = take run.first old; behind = drop run.end old; is = is };
  are = claimed_numbers mid;
  claimed = each_map (λ (e : FileEntry). e.claimed ≡ true) (with_claim true) mid
      (each_all (λ (e : FileEntry). (with_claim true e).claimed ≡ true) (λ e. refl) mid);
}
  where
    mid : List FileEntry
    mid = slice_range old run.first run.end

-- and each late file that is claimed then is an input of the job, or of one of those before it
pub owned_more : (run : Run) (old new : List FileEntry) (made : Compaction) (compactions : List Compaction)
    → IsWithin run old → numbers_of made.unsequence ≡ entry_numbers (slice_range old run.first run.end)
    → new ≡ claim_run run true old → Each (IsOwned compactions) old → Each (IsOwned (made ∷ compactions)) new
owned_more run old new made compactions within mine is all =
    subst (Each All) (sym is)
    (each_append All front (map (with_claim true) mid ++ back)
    (each_weaker (IsOwned compactions) All later front (each_left (IsOwned compactions) front (mid ++ back) parts))
    (each_append All (map (with_claim true) mid) back
    (each_map All (with_claim true) mid (each_from_among (λ (e : FileEntry). All (with_claim true e)) mid
    (λ entry among some. record {
      job = made;
      among = inl refl;
      input = subst (Among entry.number.0) (sym mine) (among_map (λ (e : FileEntry). e.number.0) mid entry among);
    })))
    (each_weaker (IsOwned compactions) All later back (each_right (IsOwned compactions) mid back
    (each_right (IsOwned compactions) front (mid ++ back) parts)))))
  where
    All : FileEntry → Type 0
    All = IsOwned (made ∷ compactions)

    front : List FileEntry
    front = take run.first old

    mid : List FileEntry
    mid = slice_range old run.first run.end

    back : List FileEntry
    back = drop run.end old

    parts : Each (IsOwned compactions) (front ++ (mid ++ back))
    parts = subst (Each (IsOwned compactions)) (sym (run_parts run.first run.end old within.rises)) all

    later : (entry : FileEntry) → IsOwned compactions entry → All entry
    later entry owner some =
        let has = owner some in
        record { job = has.job; among = inr has.among; input = has.input }
