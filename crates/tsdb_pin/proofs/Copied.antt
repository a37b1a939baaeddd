-- The sources of parts in memory, taken pair by pair.
use Rattle.std.proofs.Common.{◌≡◌, ℕ, ◌+◌, ◌<◌, ◌≤◌, ◌==◌, Bool, true, false, cond, not, List, [], ◌∷◌, ◌++◌, length, take, get_or, map}
use Rattle.std.proofs.Common.{refl, sym, ap, subst, ◌∙◌, append_assoc}
use Rattle.std.specs.List.{filter}
use Rattle.std.proofs.lemmas.List.{append-nil, map-append, take_all, take_more}
use Rattle.tsdb_base.specs.declared.ids.Space.{Space}
use Rattle.tsdb_base.specs.declared.ids.Stamp.{Stamp}
use Rattle.tsdb_base.specs.declared.point.Point.{Point}
use Rattle.tsdb_base.specs.declared.point.Range.{Range}
use Rattle.tsdb_base.proofs.Lists.{each_append, filter_append}
use Rattle.tsdb_fileset.specs.Model.{frozen_in}
use Rattle.tsdb_fileset.specs.Store as memory
use Rattle.tsdb_fileset.specs.Store.{MemoryState}
use Rattle.tsdb_fileset.specs.FrozenPair.{FrozenPair}
use Rattle.tsdb_memtable.specs.Pairs.{Pair, points_of}
use Rattle.tsdb_base.specs.Points.{IsRising}
use Rattle.tsdb_outside.specs.Files.{NamedFile}
use Rattle.tsdb_pin.specs.Sources.{AddsParts, AreHeldIn, AreRisingIn, has_slice, numbers_in, pairs_in, part_in, parts_in, slice_of}
use Rattle.tsdb_fileset.specs.Files.{KeptFiles}
use Rattle.tsdb_pin.specs.declared.pin.PinnedSource.{PinnedSource}
use Rattle.tsdb_pin.specs.declared.pin.PinnedSource.TheVariants.{Part}

module _ (F S R P : Type 0) (space : Space) (number : ℕ) (range : Range) where
  abbrev Source : Type 0
  Source = PinnedSource F S R P

  abbrev parts : List memory.FrozenPair → List Source
  parts pairs = parts_in {F = F} {S = S} {R = R} {P = P} space number range pairs

  pub parts_append : (xs ys : List memory.FrozenPair) → parts (xs ++ ys) ≡ parts xs ++ parts ys
  parts_append xs ys = ap (map (part_in space number range)) (filter_append (has_slice space number range) xs ys)
      ∙ map-append (part_in space number range) (filter (has_slice space number range) xs) (filter (has_slice space number range) ys)

  all_parts : (pairs : List memory.FrozenPair) → numbers_in (map (part_in {F = F} {S = S} {R = R} {P = P} space number range) pairs) ≡ []
  all_parts [] = refl
  all_parts (pair ∷ pairs) = all_parts pairs

  -- copies have no right
  pub parts_numbers : (pairs : List memory.FrozenPair) → numbers_in (parts pairs) ≡ []
  parts_numbers pairs = all_parts (filter (has_slice space number range) pairs)

  held_parts : (name : R → NamedFile) (files : KeptFiles) (pairs : List memory.FrozenPair)
      → AreHeldIn name files (map (part_in {F = F} {S = S} {R = R} {P = P} space number range) pairs)
  held_parts name files [] = tt
  held_parts name files (pair ∷ pairs) = (tt, held_parts name files pairs)

  pub parts_held : (name : R → NamedFile) (files : KeptFiles) (pairs : List memory.FrozenPair)
      → AreHeldIn name files (parts pairs)
  parts_held name files pairs = held_parts name files (filter (has_slice space number range) pairs)

  -- one pair, which has no point of the series in the range, or some

  pub part_without : (pair : memory.FrozenPair) (points : List Point) (old : List Source)
      → points ≡ slice_of space number range pair → length points ≡ 0 → old ≡ old ++ parts (pair ∷ [])
  part_without pair points old is none = sym (ap (λ (b : Bool). old ++ map (part_in space number range) (cond b (pair ∷ []) [])) test
      ∙ append-nil old)
    where
      test : has_slice space number range pair ≡ false
      test = ap (λ (n : ℕ). not (n == 0)) (sym (ap length is) ∙ none)

  pub part_with : (pair : memory.FrozenPair) (slice points : List Point) (old new : List Source)
      → slice ≡ slice_of space number range pair → (length slice == 0) ≡ false → points ≡ slice
      → new ≡ old ++ Part (record { 0 = pair.born }) points ∷ [] → new ≡ old ++ parts (pair ∷ [])
  part_with pair slice points old new is some copied push = push
      ∙ ap (λ (l : List Point). old ++ Part (record { 0 = pair.born }) l ∷ []) (copied ∙ is)
      ∙ sym (ap (λ (b : Bool). old ++ map (part_in space number range) (cond b (pair ∷ []) [])) test)
    where
      test : has_slice space number range pair ≡ true
      test = ap not (ap (λ (l : List Point). length l == 0) (sym is) ∙ some)

  -- the pairs so far

  pub record AreCopiedTo (pairs : List memory.FrozenPair) (old now : List Source) : Type 0 where
    pub are : now ≡ old ++ parts pairs
    pub rising : AreRisingIn space number pairs

  pub none_copied : (old : List Source) → AreCopiedTo [] old old
  none_copied old = record { are = sym (append-nil old); rising = tt }

  pub one_copied : (pairs : List memory.FrozenPair) (pair : memory.FrozenPair) (old now new : List Source)
      → AreCopiedTo pairs old now → new ≡ now ++ parts (pair ∷ []) → IsRising (points_of space number pair.pair)
      → AreCopiedTo (pairs ++ pair ∷ []) old new
  one_copied pairs pair old now new copied push rising = record {
    are = push ∙ ap (λ (l : List Source). l ++ parts (pair ∷ [])) copied.are ∙ append_assoc old (parts pairs) (parts (pair ∷ []))
        ∙ ap (λ (l : List Source). old ++ l) (sym (parts_append pairs (pair ∷ [])));
    rising = each_append (λ (p : memory.FrozenPair). IsRising (points_of space number p.pair)) pairs (pair ∷ []) copied.rising (rising, tt);
  }

  pub copied_so_far : (pairs : List memory.FrozenPair) (old now new : List Source) → AreCopiedTo pairs old now → new ≡ now
      → AddsParts old new
  copied_so_far pairs old now new copied same = (parts pairs, same ∙ copied.are, parts_numbers pairs)

  -- the frozen pairs up to this place
  abbrev pub AreFrozenTo : List FrozenPair → ℕ → List Source → List Source → Type 0
  AreFrozenTo frozen i old now = AreCopiedTo (map frozen_in (take i frozen)) old now

  pub frozen_step : (frozen : List FrozenPair) (i : ℕ) (pair : FrozenPair) (born : Stamp) (points : Pair)
      (old now new : List Source) → i < length frozen → pair ≡ get_or frozen i pair → born.0 ≡ (frozen_in pair).born
      → points ≡ (frozen_in pair).pair → AreFrozenTo frozen i old now
      → new ≡ now ++ parts (record { born = born.0; pair = points } ∷ []) → IsRising (points_of space number points)
      → AreFrozenTo frozen (i + 1) old new
  frozen_step frozen i pair born points old now new inside at is_born is_pair copied push rising =
      subst (λ l. AreCopiedTo l old new) (sym (ap (map frozen_in) (take_more frozen i pair inside
      ∙ ap (λ (p : FrozenPair). take i frozen ++ p ∷ []) (sym at)) ∙ map-append frozen_in (take i frozen) (pair ∷ [])))
      (one_copied (map frozen_in (take i frozen)) (frozen_in pair) old now new copied
      (push ∙ ap (λ (p : memory.FrozenPair). now ++ parts (p ∷ [])) same)
      (subst (λ (p : Pair). IsRising (points_of space number p)) is_pair rising))
    where
      pair_of : ℕ → Pair → memory.FrozenPair
      pair_of b p = record { born = b; pair = p }

      same : pair_of born.0 points ≡ frozen_in pair
      same = ap (λ (b : ℕ). pair_of b points) is_born ∙ ap (pair_of (frozen_in pair).born) is_pair

  -- all pairs of the store
  pub all_copied : (frozen : List FrozenPair) (store : MemoryState) (i stamp : ℕ) (working : Pair) (old now new : List Source)
      → map frozen_in frozen ≡ store.frozen → length frozen ≤ i → stamp ≡ store.stamp → working ≡ store.working
      → AreFrozenTo frozen i old now
      → new ≡ now ++ parts (record { born = stamp; pair = working } ∷ []) → IsRising (points_of space number working)
      → AreCopiedTo (pairs_in store) old new
  all_copied frozen store i stamp working old now new are end is_stamp is_working copied push rising =
      subst (λ l. AreCopiedTo l old new)
      (ap (λ (l : List memory.FrozenPair). l ++ pair_of stamp working ∷ []) (ap (map frozen_in) (take_all i frozen end) ∙ are)
      ∙ ap (λ (p : memory.FrozenPair). store.frozen ++ p ∷ [])
      (ap (λ (b : ℕ). pair_of b working) is_stamp ∙ ap (pair_of store.stamp) is_working))
      (one_copied (map frozen_in (take i frozen)) (pair_of stamp working) old now new copied push rising)
    where
      pair_of : ℕ → Pair → memory.FrozenPair
      pair_of b p = record { born = b; pair = p }
