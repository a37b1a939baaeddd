-- A listing of a store that is in order is one that the plain model allows.
use Rattle.std.proofs.Common.{◌≡◌, ℕ, ◌+◌, ◌≤◌, ◌≤ℤ◌, zero, suc, Bool, true, false, cond, List, [], ◌∷◌, ◌++◌, length, map}
use Rattle.std.proofs.Common.{Option, None, Some, ap, arith, rules, refl, sym, subst, ◌∙◌}
use Rattle.std.proofs.lemmas.List.{map-append}
use Rattle.std.proofs.lemmas.List.Elements.{All-from_recursion, recursion_from_All}
use Rattle.std.specs.FinMap.{get, len, len-insert, remove}
use Rattle.std.specs.List.{AllByRecursion as Each, AllZip}
use Rattle.std.specs.Option.{option_or}
use Rattle.std.specs.Prelude.{◌==◌, is_some, slice_get}
use Rattle.tsdb_base.specs.declared.ids.Space.{Space}
use Rattle.tsdb_base.specs.declared.ids.Space.TheVariants.{Sequence, Unsequence}
use Rattle.tsdb_base.specs.declared.value.Value.{Value}
use Rattle.tsdb_core.specs.Listings.{ListsStore}
use Rattle.tsdb_base.proofs.Lists.{count_append, each_append, each_left, each_right}
use Rattle.tsdb_state.proofs.LayerLemmas.Places.{place_cmp_total}
use Rattle.tsdb_state.specs.Layers.{Layer, survivor, value_in}
use Rattle.tsdb_base.specs.Lists.{count}
use Rattle.tsdb_state.specs.Marks.{survives}
use Rattle.tsdb_state.specs.Places.{Content, PointPlace}
use Rattle.tsdb_core.specs.FilesetListings.{TellsFile}
use Rattle.tsdb_model.specs.Commands.{AreDifferent}
use Rattle.tsdb_model.specs.State as plain
use Rattle.tsdb_model.specs.State.{IsFileLine, IsPossible, ListsNothing}
use Rattle.tsdb_model.specs.World.{HasNoPoint}
use Rattle.tsdb_model.specs.declared.reply.FileLine.{FileLine}
use Rattle.tsdb_model.specs.declared.reply.Listing.{Listing}
use Rattle.tsdb_marks.specs.declared.marks.Mark.{Mark}
use Rattle.tsdb_memory.proofs.Counts.{put_back, removed_none}
use Rattle.tsdb_state.specs.Jobs.{Describes, EntriesMatch}
use Rattle.tsdb_state.specs.Order.{IsInOrder}
use Rattle.tsdb_state.specs.Records.{numbers_of}
use Rattle.tsdb_state.specs.State.{EngineState, KnownFiles, File, FrozenContent, ToldContents}
use Rattle.tsdb_state.specs.Views.{all_layers, file_layers, sequence_layer, unsequence_layer, working_pair}
use Rattle.tsdb_state.specs.Worlds.{StandsFor}

-- ---- a content without a point

one_more : (n : ℕ) → n + 1 ≡ 0 → ⊥
one_more n is = omega (arith, is)

pub no_value : (content : Content) (place : PointPlace) → len content ≡ 0 → get content place ≡ None
no_value content place none = by (get content place) refl
  where
    by : (o : Option Value) → get content place ≡ o → o ≡ None
    by None at = refl
    by (Some value) at = absurd (one_more (len (remove content place))
        (sym (ap len (put_back content place value at)
        ∙ len-insert place_cmp_total (remove content place) place value
        ∙ ap (λ o. cond (is_some o) (len (remove content place)) (len (remove content place) + 1))
        (removed_none content place)) ∙ none))

-- layers none of which has a point have no value
none_survives : (marks : List Mark) (place : PointPlace) (layer : Layer) → get layer.content place ≡ None
    → survivor marks place layer ≡ None
none_survives marks place layer none = by (survives marks place layer.born)
  where
    by : (b : Bool) → cond b (get layer.content place) None ≡ None
    by true = none
    by false = refl

nothing_in : (marks : List Mark) (place : PointPlace) (layers : List Layer)
    → Each (λ (layer : Layer). get layer.content place ≡ None) layers → value_in marks place layers ≡ None
nothing_in marks place [] all = refl
nothing_in marks place (layer ∷ higher) all =
    ap (λ o. option_or o (survivor marks place layer)) (nothing_in marks place higher all.1)
    ∙ none_survives marks place layer all.0

-- ---- numbers

same_there : (n : ℕ) → (n == n) ≡ true
same_there n = search rules

count_of : (n m : ℕ) (numbers : List ℕ) (i : ℕ) → slice_get numbers i ≡ Some m → m ≡ n → 1 ≤ count n numbers
count_of n m [] i at same = absurd cc
count_of n m (x ∷ numbers) zero at same = here (some_is x m at ∙ same)
  where
    some_is : (a b : ℕ) → Some a ≡ Some b → a ≡ b
    some_is a b is = cc

    here : x ≡ n → 1 ≤ cond (x == n) 1 0 + count n numbers
    here is = subst (λ y. 1 ≤ cond (y == n) 1 0 + count n numbers) (sym is)
        (subst (λ b. 1 ≤ cond b 1 0 + count n numbers) (sym (same_there n)) (omega arith))
count_of n m (x ∷ numbers) (suc i) at same =
    let rest = count_of n m numbers i at same in by (x == n) rest
  where
    by : (b : Bool) → 1 ≤ count n numbers → 1 ≤ cond b 1 0 + count n numbers
    by true rest = omega arith
    by false rest = omega (arith, rest)

some_is : (a b : ℕ) → Some a ≡ Some b → a ≡ b
some_is a b is = cc

twice : (numbers : List ℕ) (x n m j : ℕ) → Some x ≡ Some n → slice_get numbers j ≡ Some m → n ≡ m
    → cond (x == n) 1 0 + count n numbers ≤ 1 → ⊥
twice numbers x n m j at other same few =
    let rest = count_of n m numbers j other (sym same) in
    let few_here : cond (n == n) 1 0 + count n numbers ≤ 1 =
    subst (λ y. cond (y == n) 1 0 + count n numbers ≤ 1) (some_is x n at) few in
    let two : 1 + count n numbers ≤ 1 = subst (λ b. cond b 1 0 + count n numbers ≤ 1) (same_there n) few_here in
    omega (arith, rest, two)

one_place : (numbers : List ℕ) → ((n : ℕ) → count n numbers ≤ 1) → (i j n m : ℕ) → slice_get numbers i ≡ Some n
    → slice_get numbers j ≡ Some m → n ≡ m → i ≡ j
one_place [] once i j n m at other same = absurd cc
one_place (x ∷ numbers) once zero zero n m at other same = refl
one_place (x ∷ numbers) once zero (suc j) n m at other same =
    absurd (twice numbers x n m j at other same (once n))
one_place (x ∷ numbers) once (suc i) zero n m at other same =
    absurd (twice numbers x m n i other at (sym same) (once m))
one_place (x ∷ numbers) once (suc i) (suc j) n m at other same =
    ap suc (one_place numbers (λ k. fewer k (once k)) i j n m at other same)
  where
    fewer : (k : ℕ) → cond (x == k) 1 0 + count k numbers ≤ 1 → count k numbers ≤ 1
    fewer k few = omega (arith, few)

abbrev line_number : FileLine → ℕ
line_number line = line.number.0

module _ (told : ToldContents) (known : KnownFiles) (named : List ℕ) (state : EngineState) (order : IsInOrder told known named state)
    (at : plain.State) (stands : StandsFor told state.store at.world) (stamp : state.store.stamp ≡ at.stamp)
    (listing : Listing) (lists : ListsStore told state.store listing) where
  told_numbers : (space : Space) (files : List File) (lines : List FileLine) → AllZip (TellsFile told space) files lines
      → map line_number lines ≡ numbers_of files
  told_numbers space [] [] tells = refl
  told_numbers space [] (line ∷ lines) tells = absurd tells
  told_numbers space (file ∷ files) [] tells = absurd tells
  told_numbers space (file ∷ files) (line ∷ lines) tells =
      λ i. tells.0.number_is i ∷ told_numbers space files lines tells.1 i

  all_numbers : map line_number listing.files ≡ numbers_of (state.store.sequence ++ state.store.unsequence)
  all_numbers = ap (map line_number) lists.files.are
      ∙ map-append line_number lists.files.sequence lists.files.unsequence
      ∙ (λ i. told_numbers Sequence state.store.sequence lists.files.sequence lists.files.tell_sequence i
      ++ told_numbers Unsequence state.store.unsequence lists.files.unsequence lists.files.tell_unsequence i)
      ∙ sym (map-append (λ (file : File). file.number) state.store.sequence state.store.unsequence)

  once : (n : ℕ) → count n (map line_number listing.files) ≤ 1
  once n =
      let few = order.numbers.differ n in
      let parts = count_append n (numbers_of (state.store.sequence ++ state.store.unsequence))
      (numbers_of state.outgoing) in
      let joined = ap (count n) (map-append (λ (file : File). file.number)
      (state.store.sequence ++ state.store.unsequence) state.outgoing) in
      let same = ap (count n) all_numbers in
      omega (arith, few, parts, joined, same)

  differ : AreDifferent (map line_number listing.files)
  differ i j n is other = one_place (map line_number listing.files) once i j n n is other refl

  -- each line is of a file with a point
  line_of : (space : Space) (file : File) (line : FileLine) → TellsFile told space file line → file.born ≤ state.store.stamp
      → Describes (known file.number) (told file.number) → IsFileLine at.stamp line
  line_of space file line tells born describes =
      record {
        born = subst (λ n. n ≤ at.stamp) (sym tells.born_is) (subst (λ n. file.born ≤ n) stamp born);
        some = omega (arith, tells.points, describes.some, describes.points);
        times = subst (λ t. t ≤ℤ line.to) tells.from.at
            (tells.between tells.from.place tells.from.value tells.from.has).1;
      }

  lines_of : (space : Space) (files : List File) (lines : List FileLine) → AllZip (TellsFile told space) files lines
      → Each (λ file. file.born ≤ state.store.stamp) files → EntriesMatch told known files
      → Each (IsFileLine at.stamp) lines
  lines_of space [] [] tells born match = tt
  lines_of space [] (line ∷ lines) tells born match = absurd tells
  lines_of space (file ∷ files) [] tells born match = tt
  lines_of space (file ∷ files) (line ∷ lines) tells born match =
      (line_of space file line tells.0 born.0 match.0, lines_of space files lines tells.1 born.1 match.1)

  all_lines : Each (IsFileLine at.stamp) listing.files
  all_lines = subst (Each (IsFileLine at.stamp)) (sym lists.files.are)
      (each_append (IsFileLine at.stamp) lists.files.sequence lists.files.unsequence
      (lines_of Sequence state.store.sequence lists.files.sequence lists.files.tell_sequence
      order.store.stamps.sequence_born
      (each_left _ state.store.sequence state.store.unsequence order.entries))
      (lines_of Unsequence state.store.unsequence lists.files.unsequence lists.files.tell_unsequence
      order.store.stamps.unsequence_born
      (each_right _ state.store.sequence state.store.unsequence order.entries)))

  -- a listing of nothing is of a store without a point
  no_file : (space : Space) (files : List File) (lines : List FileLine) → AllZip (TellsFile told space) files lines
      → lines ≡ [] → files ≡ []
  no_file space [] lines tells none = refl
  no_file space (file ∷ files) [] tells none = absurd tells
  no_file space (file ∷ files) (line ∷ lines) tells none = absurd cc

  no_pair : (pairs : List FrozenContent) → length pairs ≡ 0 → pairs ≡ []
  no_pair [] none = refl
  no_pair (pair ∷ pairs) none = absurd (omega (arith, none))

  first_none : (a b : List FileLine) → a ++ b ≡ [] → a ≡ []
  first_none [] b none = refl
  first_none (x ∷ a) b none = absurd cc

  second_none : (a b : List FileLine) → a ++ b ≡ [] → b ≡ []
  second_none [] b none = none
  second_none (x ∷ a) b none = absurd cc

  nothing_told : ListsNothing listing → HasNoPoint at.world
  nothing_told none path time = stands.values place ∙ nothing_in state.store.marks place (all_layers told state.store) all
    where
      place : PointPlace
      place = record { path = path; time = time }

      no_lines : lists.files.sequence ++ lists.files.unsequence ≡ []
      no_lines = sym lists.files.are ∙ none.files

      sequence : state.store.sequence ≡ []
      sequence = no_file Sequence state.store.sequence lists.files.sequence lists.files.tell_sequence
          (first_none lists.files.sequence lists.files.unsequence no_lines)

      unsequence : state.store.unsequence ≡ []
      unsequence = no_file Unsequence state.store.unsequence lists.files.unsequence lists.files.tell_unsequence
          (second_none lists.files.sequence lists.files.unsequence no_lines)

      frozen : state.store.frozen ≡ []
      frozen = no_pair state.store.frozen (sym lists.frozen ∙ none.frozen)

      working : Each (λ points. points ≡ 0) (len state.store.working.sequence ∷ len state.store.working.unsequence ∷ [])
      working = subst (Each (λ points. points ≡ 0)) lists.working (recursion_from_All (λ points. points ≡ 0) listing.working none.working)

      Empty : Layer → Type 0
      Empty layer = get layer.content place ≡ None

      all : Each Empty (all_layers told state.store)
      all = subst (λ files. Each Empty ((file_layers told files ++ (map sequence_layer state.store.frozen
          ++ sequence_layer (working_pair state.store) ∷ [])) ++ (file_layers told state.store.unsequence
          ++ (map unsequence_layer state.store.frozen ++ unsequence_layer (working_pair state.store) ∷ []))))
          (sym sequence)
          (subst (λ files. Each Empty ((map sequence_layer state.store.frozen
          ++ sequence_layer (working_pair state.store) ∷ []) ++ (file_layers told files
          ++ (map unsequence_layer state.store.frozen ++ unsequence_layer (working_pair state.store) ∷ []))))
          (sym unsequence)
          (subst (λ pairs. Each Empty ((map sequence_layer pairs ++ sequence_layer (working_pair state.store) ∷ [])
          ++ (map unsequence_layer pairs ++ unsequence_layer (working_pair state.store) ∷ [])))
          (sym frozen) (
            no_value state.store.working.sequence place working.0,
            (no_value state.store.working.unsequence place working.1.0, tt),
          )))

  pub possible : IsPossible at listing
  possible = record {
    numbers = differ;
    files = All-from_recursion (IsFileLine at.stamp) listing.files all_lines;
    frozen = subst (λ n. n ≤ 2) (sym lists.frozen) order.store.stamps.two;
    nothing = nothing_told;
  }
