-- How often a number stands among those of kept files and of listed ones.
use Rattle.std.proofs.Common.{◌≡◌, ◌≢◌, ℕ, ◌+◌, ◌≤◌, ◌<◌, ◌==◌, Bool, true, false, cond, List, [], ◌∷◌, ◌++◌, length, map, Option, None, Some, inl, inr, refl, sym, ap, ◌∙◌, subst, arith}
use Rattle.std.specs.Prelude.{◌↔◌, IfSome, IsSome, slice_get}
use Rattle.std.specs.Cmp.{unsigned_Decides}
use Rattle.std.proofs.lemmas.Bool.{false≢true}
use Rattle.std.proofs.lemmas.List.{map-append}
use Rattle.tsdb_recover.proofs.First.{next_behind, first_all, none_wanted, of_space, wanted_is}
use Rattle.tsdb_recover.specs.Adopting.{AreFirst, AreFirstOf, next_in, wanted_file}
use Rattle.tsdb_base.specs.declared.ids.Space.{Space}
use Rattle.tsdb_base.specs.declared.ids.Space.TheVariants.{Sequence, Unsequence}
use Rattle.tsdb_fileset.specs.StateOfFiles.{listed}
use Rattle.tsdb_fileset.specs.Files.{AreKept, KeptFiles, entry_numbers, kept_file}
use Rattle.tsdb_fileset.specs.Files as kept
use Rattle.tsdb_fileset.specs.Places.{KeptFile}
use Rattle.tsdb_base.proofs.Lists.{among_map, count_append}
use Rattle.tsdb_base.specs.Lists.{Among, count, if_some}
use Rattle.tsdb_plan.specs.declared.entry.FileEntry.{FileEntry}
use Rattle.tsdb_state.proofs.Counting.{is_or_not}
use Rattle.tsdb_state.proofs.Fresh.{count_here}
use Rattle.tsdb_state.proofs.Numbering.{count_files}
use Rattle.tsdb_state.specs.Jobs.{NumbersInOrder}
use Rattle.tsdb_state.specs.Records.{numbers_of}
use Rattle.tsdb_state.specs.State.{File, StoreState}

pub differ : (a b : ℕ) → (a == b) ≡ false → a ≢ b
differ a b other same = false≢true (sym other ∙ (unsigned_Decides a b).1 same)

-- the numbers of entries are those of the files that they stand for
pub entries_are : (entries : List FileEntry) → numbers_of (map listed entries) ≡ entry_numbers entries
entries_are [] = refl
entries_are (entry ∷ entries) = ap (λ l. entry.number.0 ∷ l) (entries_are entries)

none_counted : {X : Type 0} (o : Option X) → length (if_some o) ≡ 0 → o ≡ None
none_counted None none = refl
none_counted (Some x) none = absurd (omega (arith, none))

some_counted : {X : Type 0} (o : Option X) → IsSome o → length (if_some o) ≡ 1
some_counted None some = absurd (false≢true some)
some_counted (Some x) some = refl

is_counted : {X : Type 0} (o : Option X) → 1 ≤ length (if_some o) → IsSome o
is_counted None some = absurd (omega (arith, some))
is_counted (Some x) some = refl

-- a file of a list has a number there
first_counted : (n : ℕ) (entries : List FileEntry) (list : List File) → AreFirst (map listed entries) list
    → count n (entry_numbers entries) ≤ count n (numbers_of list)
first_counted n entries list first = omega (
  arith,
  ap (λ l. count n (numbers_of l)) first.is,
  count_files n (map listed entries) first.others,
  ap (count n) (entries_are entries),
)

next_counted : (entries : List FileEntry) (list : List File) (file : File) → AreFirst (map listed entries) list
    → slice_get list (length entries) ≡ Some file
    → count file.number (entry_numbers entries) + 1 ≤ count file.number (numbers_of list)
next_counted entries list file first is =
    let next = next_behind entries list file first is in
    omega (
      arith,
      ap (λ l. count file.number (numbers_of l)) first.is,
      count_files file.number (map listed entries) first.others,
      ap (λ l. count file.number (numbers_of l)) next.is,
      count_here file.number (numbers_of next.more),
      ap (count file.number) (entries_are entries),
    )

module _ (files : KeptFiles) (store : StoreState) (first : AreFirstOf files store) where
  -- the numbers of kept files are those of the entries
  sums : (n : ℕ) → count n (kept.all_numbers files)
      ≡ count n (entry_numbers files.sequence) + count n (entry_numbers files.unsequence)
  sums n = omega (
    arith,
    count_append n (entry_numbers files.sequence ++ entry_numbers files.unsequence)
        (kept.outgoing_numbers files.outgoing),
    count_append n (entry_numbers files.sequence) (entry_numbers files.unsequence),
    ap (λ l. count n (kept.outgoing_numbers l)) first.outgoing,
  )

  -- a number of a kept file is that of a listed one
  pub kept_counted : (n : ℕ) → count n (kept.all_numbers files) ≤ count n (numbers_of (store.sequence ++ store.unsequence))
  kept_counted n = omega (
    arith,
    sums n,
    count_files n store.sequence store.unsequence,
    first_counted n files.sequence store.sequence first.sequence,
    first_counted n files.unsequence store.unsequence first.unsequence,
  )

  one_fewer : (space : Space) (file : File)
      → of_space space (next_in Sequence files store) (next_in Unsequence files store) ≡ Some file
      → count file.number (kept.all_numbers files) + 1
      ≤ count file.number (numbers_of (store.sequence ++ store.unsequence))
  one_fewer Sequence file is = omega (
    arith,
    sums file.number,
    count_files file.number store.sequence store.unsequence,
    next_counted files.sequence store.sequence file first.sequence is,
    first_counted file.number files.unsequence store.unsequence first.unsequence,
  )
  one_fewer Unsequence file is = omega (
    arith,
    sums file.number,
    count_files file.number store.sequence store.unsequence,
    first_counted file.number files.sequence store.sequence first.sequence,
    next_counted files.unsequence store.unsequence file first.unsequence is,
  )

  -- where the numbers of listed files differ, the wanted file is not kept yet
  pub not_kept : (named : List ℕ) (next : ℕ) (space : Space) (file : File) → AreKept files
      → NumbersInOrder named next ((store.sequence ++ store.unsequence) ++ []) []
      → wanted_file files store ≡ Some (space, file) → kept_file file.number files ≡ None
  not_kept named next space file are numbers is = none_counted (kept_file file.number files) (omega (
    arith,
    are file.number,
    one_fewer space file (wanted_is (next_in Sequence files store) (next_in Unsequence files store) space file is),
    count_files file.number (store.sequence ++ store.unsequence) [],
    numbers.differ file.number,
  ))

  -- a kept file has a number below the next one
  pub kept_below : (named : List ℕ) (next : ℕ) (n : ℕ) → AreKept files
      → NumbersInOrder named next ((store.sequence ++ store.unsequence) ++ []) []
      → IfSome (kept_file n files) (λ file. n < next)
  kept_below named next n are numbers = by (kept_file n files) refl
    where
      by : (o : Option KeptFile) → kept_file n files ≡ o → IfSome o (λ file. n < next)
      by None e = tt
      by (Some file) e = (numbers.range n (omega (
        arith,
        are n,
        ap (λ p. length (if_some p)) e,
        kept_counted n,
        count_files n (store.sequence ++ store.unsequence) [],
      ))).1

-- ---- once all are kept

counted_among : (n : ℕ) (xs : List ℕ) → 1 ≤ count n xs → Among n xs
counted_among n [] some = absurd (omega (arith, some))
counted_among n (x ∷ xs) some = is_or_not x n (λ same. inl same)
    (λ other. inr (counted_among n xs (later (x == n) (count n xs) other some)))
  where
    later : (b : Bool) (m : ℕ) → b ≡ false → 1 ≤ cond b 1 0 + m → 1 ≤ m
    later true m e some = absurd cc
    later false m e some = omega (arith, some)

among_counted : (n : ℕ) (xs : List ℕ) → Among n xs → 1 ≤ count n xs
among_counted n [] among = absurd among
among_counted n (x ∷ xs) (inl is) = subst (λ y. 1 ≤ count n (y ∷ xs)) (sym is) (omega (arith, count_here n xs))
among_counted n (x ∷ xs) (inr among) = let rest = among_counted n xs among in omega (arith, rest)

-- both lists are kept whole
pub record AreAll (files : KeptFiles) (store : StoreState) : Type 0 where
  pub sequence : map listed files.sequence ≡ store.sequence
  pub unsequence : map listed files.unsequence ≡ store.unsequence

pub are_all : (files : KeptFiles) (store : StoreState) → AreFirstOf files store → wanted_file files store ≡ None
    → AreAll files store
are_all files store first none =
    let lists = none_wanted (next_in Sequence files store) (next_in Unsequence files store) none in
    record {
      sequence = first_all files.sequence store.sequence first.sequence lists.0;
      unsequence = first_all files.unsequence store.unsequence first.unsequence lists.1;
    }

all_counted : (files : KeptFiles) (store : StoreState) → AreFirstOf files store → AreAll files store → (n : ℕ)
    → count n (kept.all_numbers files) ≡ count n (numbers_of (store.sequence ++ store.unsequence))
all_counted files store first all n = omega (
  arith,
  sums files store first n,
  count_files n store.sequence store.unsequence,
  ap (λ l. count n (numbers_of l)) all.sequence,
  ap (λ l. count n (numbers_of l)) all.unsequence,
  ap (count n) (entries_are files.sequence),
  ap (count n) (entries_are files.unsequence),
)

-- a file is kept exactly where it is listed
pub kept_where_listed : (files : KeptFiles) (store : StoreState) (n : ℕ) → AreKept files → AreFirstOf files store
    → wanted_file files store ≡ None
    → IsSome (kept_file n files) ↔ Among n (numbers_of (store.sequence ++ store.unsequence))
kept_where_listed files store n are first none =
    let same = all_counted files store first (are_all files store first none) n in (
      λ some. counted_among n (numbers_of (store.sequence ++ store.unsequence))
          (omega (arith, same, are n, some_counted (kept_file n files) some)),
      λ among. is_counted (kept_file n files)
          (omega (arith, same, are n, among_counted n (numbers_of (store.sequence ++ store.unsequence)) among)),
    )

-- an entry of the lists has a number of a kept file
pub entry_counted : (files : KeptFiles) (entry : FileEntry) → Among entry (files.sequence ++ files.unsequence)
    → 1 ≤ count entry.number.0 (kept.all_numbers files)
entry_counted files entry among = omega (
  arith,
  among_counted entry.number.0 (entry_numbers (files.sequence ++ files.unsequence))
      (among_map (λ (e : FileEntry). e.number.0) (files.sequence ++ files.unsequence) entry among),
  ap (count entry.number.0) (map-append (λ (e : FileEntry). e.number.0) files.sequence files.unsequence),
  count_append entry.number.0 (entry_numbers files.sequence ++ entry_numbers files.unsequence)
      (kept.outgoing_numbers files.outgoing),
)
