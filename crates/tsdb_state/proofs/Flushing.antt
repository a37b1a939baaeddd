-- A flush: the oldest frozen pair becomes files; the order and the values stay.
use Rattle.std.proofs.Common.{◌≡◌, ◌≢◌, ℕ, ◌≤◌, Bool, true, false, cond, List, ◌∷◌, ◌++◌, map, refl, sym, ap, ◌∙◌}
use Rattle.std.proofs.Common.{subst, arith, []}
use Rattle.std.specs.Prelude.{◌==◌}
use Rattle.std.specs.FinMap.{get, get-empty}
use Rattle.std.specs.List.{AllByRecursion as Each}
use Rattle.std.proofs.lemmas.Bool.Decides.{nat_tests}
use mathlib.Core.List.{map-append}
use Rattle.tsdb_base.proofs.Lists.{each_append}
use Rattle.tsdb_state.proofs.LayerLemmas.Rising.{IsPartOf, part_append, part_itself, part_middle, rises_middle}
use Rattle.tsdb_state.proofs.LayerLemmas.Values.{has_left, no_survivor, or_assoc, value_append}
use Rattle.tsdb_state.specs.Layers.{Layer, survivor, value_in}
use Rattle.tsdb_state.specs.LayerOrder.{Rises}
use Rattle.tsdb_state.specs.Places.{Content, PointPlace, place_cmp}
use Rattle.tsdb_marks.specs.declared.marks.Mark.{Mark}
use Rattle.tsdb_state.proofs.Arranged.{arranged_in_order, arranged_keeps, two_parts}
use Rattle.tsdb_state.proofs.Typed.{late_part}
use Rattle.tsdb_state.proofs.Values.{stored, stored_late}
use Rattle.tsdb_state.specs.Records.{IsNumberOf, flush_oldest, flushed, new_file}
use Rattle.tsdb_state.specs.State.{File, FrozenContent, StoreState, ToldContents}
use Rattle.tsdb_state.specs.StoreOrder.{StampsInOrder, StoreInOrder}
use Rattle.tsdb_state.specs.Views.{file_layers, sequence_layer, unsequence_layer}
use Rattle.tsdb_state.specs.Worlds.{KeepsWorld, value_at_place}

is_zero : (n : ℕ) → (n == 0) ≡ true → n ≡ 0
is_zero n e = grind (arith, nat_tests)

not_zero : (n : ℕ) → (n == 0) ≡ false → n ≢ 0
not_zero n e = grind (arith, nat_tests)

-- what holds of no file and of a file with the number holds of the file that a record names
pub for_new_file : (P : List File → Type 0) (number born : ℕ) → (number ≡ 0 → P [])
    → (number ≢ 0 → P (record { number = number; born = born } ∷ [])) → P (new_file number born)
for_new_file P number born none one = by (number == 0) refl
  where
    by : (b : Bool) → (number == 0) ≡ b → P (cond b [] (record { number = number; born = born } ∷ []))
    by true e = none (is_zero number e)
    by false e = one (not_zero number e)

-- the file of a part, or none where the part has no point
module _ (told : ToldContents) (number born : ℕ) (content : Content) (is_number : IsNumberOf number content)
    (has : number ≢ 0 → told number ≡ content) where
  abbrev part : Layer
  part = record { born = born; content = content }

  abbrev file : List Layer
  file = file_layers told (new_file number born)

  pub part_value : (marks : List Mark) (place : PointPlace) → value_in marks place file ≡ survivor marks place part
  part_value marks place =
      for_new_file (λ files. value_in marks place (file_layers told files) ≡ survivor marks place part) number born
      (λ e. sym (no_survivor marks place part (ap (λ c. get c place) (is_number.0 e) ∙ get-empty place_cmp place)))
      (λ some. ap (λ c. survivor marks place (record { born = born; content = c })) (has some))

  pub part_points : IsPartOf file (part ∷ [])
  part_points = for_new_file (λ files. IsPartOf (file_layers told files) (part ∷ [])) number born
      (λ e place value none. absurd none) (λ some. subst (λ c. IsPartOf (record { born = born; content = c } ∷ [])
      (part ∷ [])) (sym (has some)) (part_itself (part ∷ [])))

  pub part_rises : Rises file
  part_rises = for_new_file (λ files. Rises (file_layers told files)) number born (λ e. tt)
      (λ some. ((λ p q v w a b same. absurd b), tt))

  pub part_born : (stamp : ℕ) → born ≤ stamp → Each (λ (f : File). f.born ≤ stamp) (new_file number born)
  part_born stamp h = for_new_file (Each (λ (f : File). f.born ≤ stamp)) number born (λ e. tt) (λ some. (h, tt))

module _ (told : ToldContents) (state : StoreState) (oldest : FrozenContent) (newer : List FrozenContent) (first second : ℕ)
    (first_is : IsNumberOf first oldest.pair.sequence) (second_is : IsNumberOf second oldest.pair.unsequence)
    (first_has : first ≢ 0 → told first ≡ oldest.pair.sequence)
    (second_has : second ≢ 0 → told second ≡ oldest.pair.unsequence) where
  abbrev pub before_flush : StoreState
  before_flush = record state { frozen = oldest ∷ newer }

  abbrev new_sequence : List File
  new_sequence = new_file first oldest.born

  abbrev new_unsequence : List File
  new_unsequence = new_file second oldest.born

  abbrev sequences : List File
  sequences = state.sequence ++ new_sequence

  abbrev unsequences : List File
  unsequences = state.unsequence ++ new_unsequence

  abbrev files : List Layer
  files = file_layers told state.sequence

  abbrev late : List Layer
  late = file_layers told state.unsequence

  moved_value : (place : PointPlace)
      → value_at_place told (record state { frozen = newer; sequence = sequences; unsequence = unsequences }) place
      ≡ value_at_place told before_flush place
  moved_value place = simp (
    map-append,
    value_append,
    or_assoc,
    part_value told first oldest.born oldest.pair.sequence first_is first_has state.marks place,
    part_value told second oldest.born oldest.pair.unsequence second_is second_has state.marks place,
  )

  pub first_points : IsPartOf (file_layers told new_sequence) (sequence_layer oldest ∷ [])
  first_points = part_points told first oldest.born oldest.pair.sequence first_is first_has

  second_points : IsPartOf (file_layers told new_unsequence) (unsequence_layer oldest ∷ [])
  second_points = part_points told second oldest.born oldest.pair.unsequence second_is second_has

  points : IsPartOf (stored told sequences newer) (stored told state.sequence (oldest ∷ newer))
  points = rw (two_parts told state.sequence new_sequence (map sequence_layer newer))
      (part_middle files _ _ (sequence_layer oldest ∷ []) first_points)

  late_points : IsPartOf (stored_late told unsequences newer) (stored_late told state.unsequence (oldest ∷ newer))
  late_points = rw (two_parts told state.unsequence new_unsequence (map unsequence_layer newer))
      (part_middle late _ _ (unsequence_layer oldest ∷ []) second_points)

  both : StoreInOrder told before_flush
      → StoreInOrder told (flush_oldest first second (oldest ∷ newer) state)
      × KeepsWorld told before_flush (flush_oldest first second (oldest ∷ newer) state)
  both order =
      let all_points : IsPartOf (stored told sequences newer) (stored told state.sequence (oldest ∷ newer)
      ++ stored_late told state.unsequence (oldest ∷ newer)) = λ p v has. has_left _ _ p v (points p v has) in
      let keeps = arranged_keeps told before_flush sequences unsequences newer all_points late_points order moved_value
      in (
        arranged_in_order told before_flush sequences unsequences newer all_points late_points order
            (rw (two_parts told state.sequence new_sequence (map sequence_layer newer))
            (rises_middle files _ _ (sequence_layer oldest ∷ []) first_points
            (part_rises told first oldest.born oldest.pair.sequence first_is first_has) order.layers.rises))
            (late_part _ _ newer (rw (map-append) (part_append _ _ _ _ (part_itself late) second_points))
            order.layers.late.1) stamps keeps,
        keeps,
      )
    where
      old : StampsInOrder state.stamp state.marks state.sequence state.unsequence (oldest ∷ newer) state.working
      old = order.stamps

      stamps : StampsInOrder state.stamp state.marks sequences unsequences newer state.working
      stamps = record {
        sequence_born = each_append _ _ _ old.sequence_born (part_born told first oldest.born oldest.pair.sequence
            first_is first_has state.stamp old.frozen_born.0);
        unsequence_born =
            each_append _ _ _ old.unsequence_born (part_born told second oldest.born oldest.pair.unsequence second_is
            second_has state.stamp old.frozen_born.0);
        frozen_born = old.frozen_born.1;
        frozen_rise = old.frozen_rise.1;
        two = omega (arith, old.two);
        filled = old.filled.1;
        working_born = λ some. (old.working_born some).1;
        versions = old.versions;
        versions_rise = old.versions_rise;
      }

module _ (told : ToldContents) (state : StoreState) (oldest : FrozenContent) (newer : List FrozenContent) (first second : ℕ)
    (are : state.frozen ≡ oldest ∷ newer)
    (first_is : IsNumberOf first oldest.pair.sequence) (second_is : IsNumberOf second oldest.pair.unsequence)
    (first_has : first ≢ 0 → told first ≡ oldest.pair.sequence)
    (second_has : second ≢ 0 → told second ≡ oldest.pair.unsequence) (order : StoreInOrder told state) where
  flushed_both : StoreInOrder told (flushed first second state) × KeepsWorld told state (flushed first second state)
  flushed_both = subst (λ (old : StoreState). StoreInOrder told (flushed first second old) × KeepsWorld told old
      (flushed first second old)) (sym same) (both told state oldest newer first second first_is second_is first_has
      second_has (subst (StoreInOrder told) same order))
    where
      same : state ≡ record state { frozen = oldest ∷ newer }
      same = λ i. record state { frozen = are i }

  pub flushed_in_order : StoreInOrder told (flushed first second state)
  flushed_in_order = flushed_both.0

  pub flushed_keeps : KeepsWorld told state (flushed first second state)
  flushed_keeps = flushed_both.1
