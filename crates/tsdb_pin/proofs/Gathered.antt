-- The sources of a series, and the columns of several, as they are gathered one after another.
use Rattle.std.proofs.Common.{◌≡◌, ℕ, suc, ◌+◌, ◌≤◌, length, length-append, List, [], ◌∷◌, ◌++◌, refl, sym, ap, subst, ◌∙◌, append_assoc, arith}
use Rattle.std.proofs.lemmas.List.{append-nil}
use Rattle.tsdb_base.specs.declared.ids.Space.{Space}
use Rattle.tsdb_base.specs.declared.ids.Space.TheVariants.{Sequence, Unsequence}
use Rattle.tsdb_base.specs.declared.point.Range.{Range}
use Rattle.tsdb_fileset.specs.Files.{KeptFiles, entries_in}
use Rattle.tsdb_fileset.specs.Places.{KeptFile}
use Rattle.tsdb_base.proofs.Lists.{count_append, each_append, each_left, each_right, each_weaker}
use Rattle.tsdb_base.specs.Lists.{count}
use Rattle.tsdb_fileset.specs.Store.{MemoryState}
use Rattle.tsdb_outside.specs.Files.{NamedFile}
use Rattle.tsdb_pin.proofs.Changing.{LeavesNames, given_back, gives_names, gives_none, gives_then, nothing_changed}
use Rattle.tsdb_pin.proofs.Changing.{takes_names, takes_none, takes_then}
use Rattle.tsdb_pin.proofs.Copied.{parts_held, parts_numbers}
use Rattle.tsdb_pin.proofs.Listed.{entries_stay, files_was, held_stays, held_was, parts_taken, taken_then}
use Rattle.tsdb_pin.proofs.Listed.{zip_append}
use Rattle.tsdb_pin.specs.Changes.{ChangesFiles, GivesRights, ChangesNoFile, TakesAll, TakesRights, TakesSomeSources}
use Rattle.tsdb_pin.specs.Changes.{column_numbers, fewer_rights, more_rights}
use Rattle.tsdb_pin.specs.Pins.{AreColumnsHeld, AreColumnsTaken, IsColumn, IsColumnTaken, TakesColumns, TakesSomeColumns}
use Rattle.tsdb_pin.specs.Sources.{AddsParts, AreHeldIn, AreOfFiles, AreOfSpace, AreRisingIn, AreSourcesOf, IsHeldIn}
use Rattle.tsdb_pin.specs.Sources.{numbers_in, pairs_in, parts_in, source_numbers}
use Rattle.tsdb_pin.specs.declared.items.AskedSeries.{AskedSeries}
use Rattle.tsdb_pin.specs.declared.pin.Column.{Column}
use Rattle.tsdb_pin.specs.declared.pin.PinnedSource.{PinnedSource}
use Rattle.tsdb_pin.specs.declared.pin.PinnedSource.TheVariants.{File, Part}

-- a list that loses its last item, turn by turn
pub one_fewer : {X : Type 0} (turn end : ℕ) (old new : List X) (last : X) → old ≡ new ++ last ∷ []
    → turn + length old ≡ end → turn + 1 + length new ≡ end
one_fewer turn end old new last split sum = count turn (length new) end
    (sym (ap (λ n. turn + n) (ap length split ∙ length-append new (last ∷ []))) ∙ sum)
  where
    count : (t n e : ℕ) → t + (n + 1) ≡ e → t + 1 + n ≡ e
    count t n e h = omega (arith, h)

pub none_left : {X : Type 0} (turn end : ℕ) (list : List X) → turn + length list ≡ end → end ≤ turn → list ≡ []
none_left turn end [] sum over = refl
none_left turn end (x ∷ list) sum over = absurd (never turn (length list) end sum over)
  where
    never : (t n e : ℕ) → t + (suc n) ≡ e → e ≤ t → ⊥
    never t n e h k = omega (arith, h, k)

-- the change that rights on these files make
abbrev more_on : List ℕ → ℕ → KeptFile → KeptFile
more_on numbers n = more_rights (count n numbers)

module _ {F S R P : Type 0} (name : R → NamedFile) where
  -- sources without a number have no right
  no_rights_held : (files : KeptFiles) (sources : List (PinnedSource F S R P)) → numbers_in sources ≡ [] → AreHeldIn name files sources
  no_rights_held files [] none = tt
  no_rights_held files (File number born right ∷ sources) none = absurd (some number.0 (numbers_in sources) none)
    where
      some : (n : ℕ) (l : List ℕ) → n ∷ l ≡ [] → ⊥
      some n l e = cc
  no_rights_held files (Part born points ∷ sources) none = (tt, no_rights_held files sources none)

  -- ---- one space

  pub space_some : (old now : KeptFiles) (before middle after : List (PinnedSource F S R P)) (Are : List (PinnedSource F S R P) → Type 0)
      → TakesAll name Are old now before middle → AddsParts middle after → TakesSomeSources name old now before after
  space_some old now before middle after Are taken adds = (
    taken.0 ++ adds.0,
    taken_then name old now now before middle after taken.0 adds.0 taken.1
        (parts_taken name now middle after adds.0 adds.1 adds.2 (no_rights_held now adds.0 adds.2)),
  )

  pub space_taken : (space : Space) (old now : KeptFiles) (store : MemoryState) (path : List ℕ) (number : ℕ) (range : Range)
      (before middle after : List (PinnedSource F S R P))
      → TakesAll name (AreOfFiles name old path (entries_in space old)) old now before middle
      → after ≡ middle ++ parts_in space number range (pairs_in store) → AreRisingIn space number (pairs_in store)
      → TakesAll name (AreOfSpace name space old store path number range) old now before after
  space_taken space old now store path number range before middle after taken push rising = (
    taken.0 ++ parts_in space number range (pairs_in store),
    taken_then name old now now before middle after taken.0 (parts_in space number range (pairs_in store)) taken.1
        (parts_taken name now middle after (parts_in space number range (pairs_in store)) push
        (parts_numbers F S R P space number range (pairs_in store)) (parts_held F S R P space number range name now (pairs_in store))),
    record { listed = taken.0; are = refl; of_files = taken.2; rising = rising },
  )

  -- ---- both spaces

  space_was : (change : ℕ → KeptFile → KeptFile) → LeavesNames change → (a b : KeptFiles) → ChangesFiles change a b
      → (space : Space) (store : MemoryState) (path : List ℕ) (number : ℕ) (range : Range) (sources : List (PinnedSource F S R P))
      → AreOfSpace name space b store path number range sources → AreOfSpace name space a store path number range sources
  space_was change leaves a b changes space store path number range sources of = record {
    listed = of.listed;
    are = of.are;
    of_files = subst (λ l. AreOfFiles name a path l of.listed) (entries_stay space a b changes.lists)
        (files_was name change leaves a b changes path (entries_in space b) of.listed of.of_files);
    rising = of.rising;
  }

  sources_were : (change : ℕ → KeptFile → KeptFile) → LeavesNames change → (a b : KeptFiles) → ChangesFiles change a b
      → (store : MemoryState) (path : List ℕ) (number : ℕ) (range : Range) (sources : List (PinnedSource F S R P))
      → AreSourcesOf name b store path number range sources → AreSourcesOf name a store path number range sources
  sources_were change leaves a b changes store path number range sources of = record {
    sequence = of.sequence;
    unsequence = of.unsequence;
    are = of.are;
    in_sequence = space_was change leaves a b changes Sequence store path number range of.sequence of.in_sequence;
    in_unsequence = space_was change leaves a b changes Unsequence store path number range of.unsequence of.in_unsequence;
  }

  pub both_some : (old now new : KeptFiles) (before middle after : List (PinnedSource F S R P)) (Are : List (PinnedSource F S R P) → Type 0)
      → TakesAll name Are old now before middle → TakesSomeSources name now new middle after → TakesSomeSources name old new before after
  both_some old now new before middle after Are first second = (
    first.0 ++ second.0,
    taken_then name old now new before middle after first.0 second.0 first.1 second.1,
  )

  pub both_taken : (old now new : KeptFiles) (store : MemoryState) (path : List ℕ) (number : ℕ) (range : Range)
      (before middle after : List (PinnedSource F S R P))
      → TakesAll name (AreOfSpace name Sequence old store path number range) old now before middle
      → TakesAll name (AreOfSpace name Unsequence now store path number range) now new middle after
      → TakesAll name (AreSourcesOf name old store path number range) old new before after
  both_taken old now new store path number range before middle after first second = (
    first.0 ++ second.0,
    taken_then name old now new before middle after first.0 second.0 first.1 second.1,
    record {
      sequence = first.0;
      unsequence = second.0;
      are = refl;
      in_sequence = first.2;
      in_unsequence = space_was (more_on (numbers_in first.0)) (takes_names (numbers_in first.0)) old now first.1.rights
          Unsequence store path number range second.0 second.2;
    },
  )

  -- ---- a column

  pub some_held : (old now : KeptFiles) (after : List (PinnedSource F S R P)) → TakesSomeSources name old now [] after → AreHeldIn name now after
  some_held old now after taken = held_stays name (more_on (numbers_in taken.0)) (takes_names (numbers_in taken.0)) old now
      taken.1.rights after (subst (AreHeldIn name old) (sym taken.1.are) taken.1.held)

  pub some_returned : (old now new : KeptFiles) (after : List (PinnedSource F S R P)) → TakesSomeSources name old now [] after
      → GivesRights (numbers_in after) now new → ChangesNoFile old new
  some_returned old now new after taken given = given_back (numbers_in after) old now new
      (subst (λ (l : List (PinnedSource F S R P)). TakesRights (numbers_in l) old now) (sym taken.1.are) taken.1.rights) given

  pub column_taken : (store : MemoryState) (range : Range) (asked : AskedSeries) (old new : KeptFiles) (sources : List (PinnedSource F S R P))
      (column : Column F S R P) (before after : List (Column F S R P))
      → TakesAll name (AreSourcesOf name old store asked.schema.path asked.id.0 range) old new [] sources
      → column.schema ≡ asked.schema → column.aggregate ≡ asked.aggregate → column.sources ≡ sources
      → after ≡ before ++ column ∷ [] → IsColumnTaken name store range asked old new before after
  column_taken store range asked old new sources column before after taken schema aggregate same push =
      let is : column.sources ≡ taken.0 = same ∙ taken.1.are in (
        column,
        record {
          are = push;
          rights = subst (λ (l : List ℕ). TakesRights l old new)
              (ap numbers_in (sym is) ∙ sym (append-nil (numbers_in column.sources))) taken.1.rights;
          held = (subst (AreHeldIn name old) (sym is) taken.1.held, tt);
        },
        record {
          schema = schema;
          aggregate = aggregate;
          sources = subst (AreSourcesOf name old store asked.schema.path asked.id.0 range) (sym is) taken.2;
        },
      )

  -- ---- columns

  column_numbers_append : (xs ys : List (Column F S R P)) → column_numbers (xs ++ ys) ≡ column_numbers xs ++ column_numbers ys
  column_numbers_append [] ys = refl
  column_numbers_append (x ∷ xs) ys = ap (λ (l : List ℕ). numbers_in x.sources ++ l) (column_numbers_append xs ys)
      ∙ sym (append_assoc (numbers_in x.sources) (column_numbers xs) (column_numbers ys))

  columns_then : (a b c : KeptFiles) (before middle after xs ys : List (Column F S R P)) → TakesColumns name a b before middle xs
      → TakesColumns name b c middle after ys → TakesColumns name a c before after (xs ++ ys)
  columns_then a b c before middle after xs ys first second = record {
    are = second.are ∙ ap (λ (l : List (Column F S R P)). l ++ ys) first.are ∙ append_assoc before xs ys;
    rights = subst (λ numbers. TakesRights numbers a c) (sym (column_numbers_append xs ys))
        (takes_then (column_numbers xs) (column_numbers ys) a b c first.rights second.rights);
    held = each_append (λ (column : Column F S R P). AreHeldIn name a column.sources) xs ys first.held
        (each_weaker (λ (column : Column F S R P). AreHeldIn name b column.sources)
        (λ (column : Column F S R P). AreHeldIn name a column.sources)
        (λ column held. held_was name (more_on (column_numbers xs)) (takes_names (column_numbers xs)) a b first.rights
        column.sources held) ys second.held);
  }

  -- the columns of the series that were read are there, and the others are still to come
  pub record AreGathered (store : MemoryState) (range : Range) (all rest : List AskedSeries) (old now : KeptFiles)
      (before after : List (Column F S R P))
      : Type 0 where
    pub read : List AskedSeries
    pub split : all ≡ read ++ rest
    pub taken : AreColumnsTaken name store range read old now before after

  pub none_gathered : (store : MemoryState) (range : Range) (all rest : List AskedSeries) (old : KeptFiles) (before : List (Column F S R P))
      → rest ≡ all → AreGathered store range all rest old old before before
  none_gathered store range all rest old before same = record {
    read = [];
    split = sym same;
    taken = (
      [],
      record { are = sym (append-nil before); rights = takes_none old old (nothing_changed old); held = tt },
      tt,
    );
  }

  pub one_gathered : (store : MemoryState) (range : Range) (all rest left : List AskedSeries) (asked : AskedSeries) (old now new : KeptFiles)
      (before middle after : List (Column F S R P)) → AreGathered store range all rest old now before middle → rest ≡ asked ∷ left
      → IsColumnTaken name store range asked now new middle after
      → AreGathered store range all left old new before after
  one_gathered store range all rest left asked old now new before middle after gathered next column = record {
    read = gathered.read ++ asked ∷ [];
    split = gathered.split ∙ ap (λ (l : List AskedSeries). gathered.read ++ l) next
        ∙ sym (append_assoc gathered.read (asked ∷ []) left);
    taken = (
      gathered.taken.0 ++ column.0 ∷ [],
      columns_then old now new before middle after gathered.taken.0 (column.0 ∷ []) gathered.taken.1 column.1,
      zip_append (IsColumn name old store range) gathered.read (asked ∷ []) gathered.taken.0 (column.0 ∷ [])
          gathered.taken.2 (
            record {
              schema = column.2.schema;
              aggregate = column.2.aggregate;
              sources = sources_were (more_on (column_numbers gathered.taken.0)) (takes_names (column_numbers gathered.taken.0))
                  old now gathered.taken.1.rights store asked.schema.path asked.id.0 range column.0.sources column.2.sources;
            },
            tt,
          ),
    );
  }

  pub all_gathered : (store : MemoryState) (range : Range) (all rest : List AskedSeries) (old now : KeptFiles) (before after : List (Column F S R P))
      → AreGathered store range all rest old now before after → rest ≡ []
      → AreColumnsTaken name store range all old now before after
  all_gathered store range all rest old now before after gathered none =
      subst (λ l. AreColumnsTaken name store range l old now before after)
      (sym (gathered.split ∙ ap (λ (l : List AskedSeries). gathered.read ++ l) none ∙ append-nil gathered.read)) gathered.taken

  pub gathered_some : (store : MemoryState) (range : Range) (all rest : List AskedSeries) (old now new : KeptFiles)
      (before middle after : List (Column F S R P)) → AreGathered store range all rest old now before middle → ChangesNoFile now new
      → after ≡ middle → TakesSomeColumns name old new before after
  gathered_some store range all rest old now new before middle after gathered keeps same = (
    gathered.taken.0 ++ [],
    columns_then old now new before middle after gathered.taken.0 [] gathered.taken.1 (record {
      are = same ∙ sym (append-nil middle);
      rights = takes_none now new keeps;
      held = tt;
    }),
  )

  -- ---- what is given back

  pub columns_held : (old now : KeptFiles) (after : List (Column F S R P)) → TakesSomeColumns name old now [] after
      → AreColumnsHeld name now after
  columns_held old now after taken = each_weaker (λ (column : Column F S R P). AreHeldIn name old column.sources)
      (λ (column : Column F S R P). AreHeldIn name now column.sources)
      (λ column held. held_stays name (more_on (column_numbers taken.0)) (takes_names (column_numbers taken.0)) old now
      taken.1.rights column.sources held) after (subst (AreColumnsHeld name old) (sym taken.1.are) taken.1.held)

  pub columns_returned : (old now new : KeptFiles) (after : List (Column F S R P)) → TakesSomeColumns name old now [] after
      → GivesRights (column_numbers after) now new → ChangesNoFile old new
  columns_returned old now new after taken given = given_back (column_numbers after) old now new
      (subst (λ (l : List (Column F S R P)). TakesRights (column_numbers l) old now) (sym taken.1.are) taken.1.rights) given

  -- rights stay such to read their files
  pub columns_stay : (change : ℕ → KeptFile → KeptFile) → LeavesNames change → (a b : KeptFiles) → ChangesFiles change a b
      → (columns : List (Column F S R P)) → AreColumnsHeld name a columns → AreColumnsHeld name b columns
  columns_stay change leaves a b changes columns held = each_weaker
      (λ (column : Column F S R P). AreHeldIn name a column.sources)
      (λ (column : Column F S R P). AreHeldIn name b column.sources)
      (λ column h. held_stays name change leaves a b changes column.sources h) columns held

  -- the last sources are given back, and these are left
  pub record AreReturned (all left : List (PinnedSource F S R P)) (old now : KeptFiles) : Type 0 where
    pub behind : List (PinnedSource F S R P)
    pub split : all ≡ left ++ behind
    pub given : GivesRights (numbers_in behind) old now
    pub held : AreHeldIn name now left

  pub none_returned : (all : List (PinnedSource F S R P)) (old : KeptFiles) → AreHeldIn name old all → AreReturned all all old old
  none_returned all old held = record {
    behind = [];
    split = sym (append-nil all);
    given = gives_none old old (nothing_changed old);
    held = held;
  }

  pub last_held : (all left front : List (PinnedSource F S R P)) (source : PinnedSource F S R P) (old now : KeptFiles) → AreReturned all left old now
      → left ≡ front ++ source ∷ [] → IsHeldIn name now source
  last_held all left front source old now returned last = (each_right (IsHeldIn name now) front (source ∷ [])
      (subst (AreHeldIn name now) last returned.held)).0

  pub one_returned : (all left front : List (PinnedSource F S R P)) (source : PinnedSource F S R P) (old now new : KeptFiles)
      → AreReturned all left old now → left ≡ front ++ source ∷ [] → GivesRights (source_numbers source) now new
      → AreReturned all front old new
  one_returned all left front source old now new returned last given = record {
    behind = source ∷ returned.behind;
    split = returned.split ∙ ap (λ (l : List (PinnedSource F S R P)). l ++ returned.behind) last
        ∙ append_assoc front (source ∷ []) returned.behind;
    given = gives_then (numbers_in returned.behind) (source_numbers source) (numbers_in (source ∷ returned.behind)) old now new
        (λ n. counts n) returned.given given;
    held = held_stays name (λ n. fewer_rights (count n (source_numbers source))) (gives_names (source_numbers source)) now new
        given front (each_left (IsHeldIn name now) front (source ∷ []) (subst (AreHeldIn name now) last returned.held));
  }
    where
      turned : (x y z : ℕ) → z ≡ x + y → z ≡ y + x
      turned x y z e = omega (arith, e)

      counts : (n : ℕ) → count n (source_numbers source ++ numbers_in returned.behind)
          ≡ count n (numbers_in returned.behind) + count n (source_numbers source)
      counts n = turned (count n (source_numbers source)) (count n (numbers_in returned.behind))
          (count n (source_numbers source ++ numbers_in returned.behind))
          (count_append n (source_numbers source) (numbers_in returned.behind))

  pub all_returned : (all left : List (PinnedSource F S R P)) (old now : KeptFiles) → AreReturned all left old now → left ≡ []
      → GivesRights (numbers_in all) old now
  all_returned all left old now returned none = subst (λ (l : List (PinnedSource F S R P)). GivesRights (numbers_in l) old now)
      (sym (returned.split ∙ ap (λ (l : List (PinnedSource F S R P)). l ++ returned.behind) none)) returned.given

  -- the same of columns
  pub record AreColumnsReturned (all left : List (Column F S R P)) (old now : KeptFiles) : Type 0 where
    pub behind : List (Column F S R P)
    pub split : all ≡ left ++ behind
    pub given : GivesRights (column_numbers behind) old now
    pub held : AreColumnsHeld name now left

  pub no_column_returned : (all : List (Column F S R P)) (old : KeptFiles) → AreColumnsHeld name old all
      → AreColumnsReturned all all old old
  no_column_returned all old held = record {
    behind = [];
    split = sym (append-nil all);
    given = gives_none old old (nothing_changed old);
    held = held;
  }

  pub last_column_held : (all left front : List (Column F S R P)) (column : Column F S R P) (old now : KeptFiles)
      → AreColumnsReturned all left old now → left ≡ front ++ column ∷ [] → AreHeldIn name now column.sources
  last_column_held all left front column old now returned last =
      (each_right (λ (c : Column F S R P). AreHeldIn name now c.sources) front (column ∷ [])
      (subst (AreColumnsHeld name now) last returned.held)).0

  pub one_column_returned : (all left front : List (Column F S R P)) (column : Column F S R P) (old now new : KeptFiles)
      → AreColumnsReturned all left old now → left ≡ front ++ column ∷ [] → GivesRights (numbers_in column.sources) now new
      → AreColumnsReturned all front old new
  one_column_returned all left front column old now new returned last given = record {
    behind = column ∷ returned.behind;
    split = returned.split ∙ ap (λ (l : List (Column F S R P)). l ++ returned.behind) last
        ∙ append_assoc front (column ∷ []) returned.behind;
    given = gives_then (column_numbers returned.behind) (numbers_in column.sources) (column_numbers (column ∷ returned.behind))
        old now new (λ n. counts n) returned.given given;
    held = each_weaker (λ (c : Column F S R P). AreHeldIn name now c.sources)
        (λ (c : Column F S R P). AreHeldIn name new c.sources)
        (λ c held. held_stays name (λ n. fewer_rights (count n (numbers_in column.sources)))
        (gives_names (numbers_in column.sources)) now new given c.sources held) front
        (each_left (λ (c : Column F S R P). AreHeldIn name now c.sources) front (column ∷ [])
        (subst (AreColumnsHeld name now) last returned.held));
  }
    where
      turned : (x y z : ℕ) → z ≡ x + y → z ≡ y + x
      turned x y z e = omega (arith, e)

      counts : (n : ℕ) → count n (numbers_in column.sources ++ column_numbers returned.behind)
          ≡ count n (column_numbers returned.behind) + count n (numbers_in column.sources)
      counts n = turned (count n (numbers_in column.sources)) (count n (column_numbers returned.behind))
          (count n (numbers_in column.sources ++ column_numbers returned.behind))
          (count_append n (numbers_in column.sources) (column_numbers returned.behind))

  pub all_columns_returned : (all left : List (Column F S R P)) (old now : KeptFiles) → AreColumnsReturned all left old now → left ≡ []
      → GivesRights (column_numbers all) old now
  all_columns_returned all left old now returned none = subst (λ (l : List (Column F S R P)). GivesRights (column_numbers l) old now)
      (sym (returned.split ∙ ap (λ (l : List (Column F S R P)). l ++ returned.behind) none)) returned.given
