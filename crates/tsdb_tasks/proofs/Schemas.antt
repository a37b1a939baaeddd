-- The schemas and the marks of the series of inputs.
use Rattle.std.proofs.Common.{◌≡◌, ℕ, zero, suc, Bool, true, false, cond, List, [], ◌∷◌, ◌++◌, map, Option, Some, None}
use Rattle.std.proofs.Common.{refl, sym, ap, subst, ◌∙◌, ◌⊎◌, inl, inr, arith, slice_get}
use Rattle.std.specs.Prelude.{◌↔◌, ◌||◌, ◌≤◌, All, nat_eq}
use Rattle.std.specs.Cmp.Lexicographic.{pointwise, texts_ties}
use Rattle.std.specs.List.{AllByRecursion as Each, filter, flat_map, list_any}
use Rattle.std.specs.Option.{option_and_then}
use Rattle.tsdb_path.proofs.Order.{text_same}
use Rattle.tsdb_tasks.specs.Series.{AreSeriesOfJob, HavePaths, HasPathNames, input_names, input_path, schemas_at}
use Rattle.tsdb_tasks.specs.declared.series.InputSeries.{InputSeries}
use Rattle.tsdb_tasks.specs.declared.series.JobSeries.{JobSeries}
use Rattle.tsdb_compactions.specs.TakingSteps.{HasNumbers}
use Rattle.tsdb_path.specs.Order.{AreInNameOrder, AreNamesBefore}
use Rattle.tsdb_compactions.specs.Parts.{schema_names}
use Rattle.tsdb_base.proofs.Lists.{among_left, among_map, among_right, any_among, each_among, each_from_among}
use Rattle.tsdb_state.proofs.LayerLemmas.Places.{path_itself}
use Rattle.tsdb_base.specs.Lists.{Among, EachPair, if_some}
use Rattle.tsdb_model.specs.Commands.{IsSchema}
use Rattle.tsdb_model.specs.declared.command.Schema.{Schema}
use Rattle.tsdb_marks.specs.Lists.{is_of}
use Rattle.tsdb_marks.specs.declared.marks.Mark.{Mark}
use Rattle.tsdb_memory.proofs.Counts.{among_either}
use Rattle.tsdb_memory.proofs.Frozen.{image_of}
use Rattle.tsdb_memory.proofs.Numbers.{schema_at, some_same}
use Rattle.tsdb_memory.proofs.Raises.{all_at}
use Rattle.tsdb_memory.specs.Model.{IsFormed, IsSoundMemory}
use Rattle.tsdb_memory.specs.StateOfMemory.{number_of}
use Rattle.tsdb_memory.specs.Store.{MemoryState}
use Rattle.tsdb_path.specs.Nodes.{device_of, measurement_of, node_count}

-- ---- lists

-- an element of one of the lists that are put one after another
pub record PartOf {X Y : Type 0} (f : X → List Y) (xs : List X) (y : Y) : Type 0 where
  pub element : X
  pub among : Among element xs
  pub is : Among y (f element)

pub part_of : {X Y : Type 0} (f : X → List Y) (xs : List X) (y : Y) → Among y (flat_map f xs) → PartOf f xs y
part_of f [] y has = absurd has
part_of f (x ∷ xs) y has = by (part_of f xs y) (among_either (f x) (flat_map f xs) y has)
  where
    by : (Among y (flat_map f xs) → PartOf f xs y) → Among y (f x) ⊎ Among y (flat_map f xs) → PartOf f (x ∷ xs) y
    by later (inl here) = record { element = x; among = inl refl; is = here }
    by later (inr there) =
        let rest = later there in
        record { element = rest.element; among = inr rest.among; is = rest.is }

pub among_flat : {X Y : Type 0} (f : X → List Y) (xs : List X) (x : X) (y : Y) → Among x xs → Among y (f x)
    → Among y (flat_map f xs)
among_flat f [] x y has is = absurd has
among_flat f (z ∷ xs) x y (inl same) is =
    among_left (f z) (flat_map f xs) y (subst (λ e. Among y (f e)) (sym same) is)
among_flat f (z ∷ xs) x y (inr has) is = among_right (f z) (flat_map f xs) y (among_flat f xs x y has is)

filter_same : {X : Type 0} (f g : X → Bool) → ((x : X) → f x ≡ g x) → (xs : List X) → filter f xs ≡ filter g xs
filter_same f g same [] = refl
filter_same f g same (x ∷ xs) = ap (λ (b : Bool). cond b (x ∷ filter f xs) (filter f xs)) (same x)
    ∙ ap (λ rest. cond (g x) (x ∷ rest) rest) (filter_same f g same xs)

-- ---- marks

any_one : (paths : List (List ℕ)) (path : List ℕ) → list_any (λ p. pointwise nat_eq p path) paths ≡ true
    → Among path paths
any_one [] path any = absurd (cc)
any_one (p ∷ paths) path any = by (pointwise nat_eq p path) refl (any_one paths path) any
  where
    by : (b : Bool) → pointwise nat_eq p path ≡ b
        → (list_any (λ p. pointwise nat_eq p path) paths ≡ true → Among path paths)
        → (b || list_any (λ p. pointwise nat_eq p path) paths) ≡ true → Among path (p ∷ paths)
    by true is later any = inl (text_same p path is)
    by false is later any = inr (later any)

alike : (a b : Bool) → (a ≡ true → b ≡ true) → (b ≡ true → a ≡ true) → a ≡ b
alike true b there back = sym (there refl)
alike false true there back = back refl
alike false false there back = refl

-- the marks of the same series are the same
same_marks : (paths others : List (List ℕ)) → ((path : List ℕ) → Among path paths ↔ Among path others)
    → (marks : List Mark) → filter (is_of paths) marks ≡ filter (is_of others) marks
same_marks paths others same marks = filter_same (is_of paths) (is_of others) (λ mark.
    alike (is_of paths mark) (is_of others mark)
    (λ any. one others mark ((same mark.path).0 (any_one paths mark.path any)))
    (λ any. one paths mark ((same mark.path).1 (any_one others mark.path any)))) marks
  where
    one : (paths : List (List ℕ)) (mark : Mark) → Among mark.path paths → is_of paths mark ≡ true
    one paths mark has = any_among (λ p. pointwise nat_eq p mark.path) paths mark.path has
        (texts_ties mark.path mark.path ∙ path_itself mark.path)

-- ---- schemas

-- the schema stands in the list, and is that of the path
pub record IsAt (all : List Schema) (path : List ℕ) (schema : Schema) : Type 0 where
  pub number : ℕ
  pub at : slice_get all number ≡ Some schema
  pub of_path : schema.path ≡ path

pub is_at : (all : List Schema) (path : List ℕ) (schema : Schema) → Among schema (schemas_at all path)
    → IsAt all path schema
is_at all path schema has = by (number_of all path) refl has
  where
    by : (o : Option ℕ) → number_of all path ≡ o → Among schema (if_some (option_and_then (slice_get all) o))
        → IsAt all path schema
    by None is has = absurd has
    by (Some number) is has =
        let found = schema_at all path number is in
        let one : Among schema (found.schema ∷ []) =
        subst (λ (o : Option Schema). Among schema (if_some o)) found.at has in
        only found.schema found.at found.of_path one
      where
        only : (s : Schema) → slice_get all number ≡ Some s → s.path ≡ path → Among schema (s ∷ [])
            → IsAt all path schema
        only s at of_path (inl is) = record {
          number = number;
          at = at ∙ ap Some is;
          of_path = subst (λ (x : Schema). x.path ≡ path) is of_path;
        }
        only s at of_path (inr none) = absurd none

among_got : {X : Type 0} (xs : List X) (n : ℕ) (x : X) → slice_get xs n ≡ Some x → Among x xs
among_got [] n x at = absurd (cc)
among_got (y ∷ xs) zero x at = inl (some_same y x at)
among_got (y ∷ xs) (suc n) x at = inr (among_got xs n x at)

got : {X : Type 0} (xs : List X) (x : X) → Among x xs → (n : ℕ) × (slice_get xs n ≡ Some x)
got [] x has = absurd has
got (y ∷ xs) x (inl is) = (zero, ap Some is)
got (y ∷ xs) x (inr has) = let rest = got xs x has in (suc rest.0, rest.1)

there : (all : List Schema) → HasNumbers all → (schema : Schema) → Among schema all
    → Among schema (schemas_at all schema.path)
there all once schema has =
    let place = got all schema has in
    subst (λ (o : Option Schema). Among schema (if_some o))
    (sym (ap (option_and_then (slice_get all)) (once place.0 schema place.1) ∙ place.1)) (inl refl)

module _ (all : List Schema) (formed : All IsFormed all) where
  formed_at : (path : List ℕ) (schema : Schema) → IsAt all path schema → IsFormed schema
  formed_at path schema is = all_at IsFormed all is.number schema formed is.at

  same_names_as : (one : InputSeries) (schema : Schema) → HasPathNames one → Among schema (schemas_at all (input_path one))
      → input_names one ≡ schema_names schema
  same_names_as one schema named has =
      let is = is_at all (input_path one) schema has in
      let suits = (formed_at (input_path one) schema is).suits.series in
      let nodes : 2 ≤ node_count schema.path = omega (arith, suits) in
      let of_path = subst (λ (p : List ℕ). 2 ≤ node_count p) is.of_path nodes in
      ap (λ (d : List ℕ). (d, one.names.1.now)) (named.device of_path)
      ∙ ap (λ (m : List ℕ). (device_of (input_path one), m)) (named.measurement of_path)
      ∙ ap (λ (p : List ℕ). (device_of p, measurement_of p)) (sym is.of_path)

  rising : (series : List InputSeries) → Each HasPathNames series → AreInNameOrder input_names series
      → EachPair (λ a b. AreNamesBefore (schema_names a) (schema_names b)) (flat_map (λ one. schemas_at all (input_path one)) series)
  rising [] named order = tt
  rising (one ∷ series) named order =
      by (option_and_then (slice_get all) (number_of all (input_path one)))
      (λ schema has. same_names_as one schema named.0 has) (rising series named.1 order.1)
    where
      rest : List Schema
      rest = flat_map (λ other. schemas_at all (input_path other)) series

      later : (schema : Schema) → input_names one ≡ schema_names schema
          → Each (λ b. AreNamesBefore (schema_names schema) (schema_names b)) rest
      later schema names = each_from_among (λ b. AreNamesBefore (schema_names schema) (schema_names b)) rest (λ b has.
          let part = part_of (λ (other : InputSeries). schemas_at all (input_path other)) series b has in
          let before = each_among (λ other. AreNamesBefore (input_names one) (input_names other)) series part.element order.0
          part.among in
          let other = same_names_as part.element b (each_among HasPathNames series part.element named.1 part.among) part.is in
          subst (λ (n : List ℕ × List ℕ). AreNamesBefore n (schema_names b)) names
          (subst (λ (n : List ℕ × List ℕ). AreNamesBefore (input_names one) n) other before))

      by : (o : Option Schema) → ((schema : Schema) → Among schema (if_some o) → input_names one ≡ schema_names schema)
          → EachPair (λ a b. AreNamesBefore (schema_names a) (schema_names b)) rest
          → EachPair (λ a b. AreNamesBefore (schema_names a) (schema_names b)) (if_some o ++ rest)
      by None names others = others
      by (Some schema) names others = (later schema (names schema (inl refl)), others)

pub of_job : (paths : List (List ℕ)) (store : MemoryState) (series : List InputSeries) (job : JobSeries) → IsSoundMemory store
    → HavePaths paths series → AreInNameOrder input_names series
    → job.marks.marks ≡ filter (is_of (map input_path series)) store.marks.marks
    → job.schemas ≡ flat_map (λ (one : InputSeries). schemas_at store.series (input_path one)) series
    → AreSeriesOfJob paths store job
of_job paths store series job sound have order marks are = record {
  marks = marks ∙ same_marks (map input_path series) paths have.same store.marks.marks;
  schemas = λ schema. (
    λ has.
        let part = part_of schemas_for series schema (subst (Among schema) are has) in
        let is = is_at store.series (input_path part.element) schema part.is in (
          among_got store.series is.number schema is.at,
          (have.same schema.path).0 (subst (λ (p : List ℕ). Among p (map input_path series)) (sym is.of_path)
              (among_map input_path series part.element part.among)),
        ),
    λ has.
        let image = image_of input_path series schema.path ((have.same schema.path).1 has.1) in
        subst (Among schema) (sym are) (among_flat schemas_for series image.element schema image.among
        (subst (λ (p : List ℕ). Among schema (schemas_at store.series p)) (sym image.is)
        (there store.series sound.once schema has.0))),
  );
  formed = each_from_among IsSchema job.schemas (λ schema has.
      let part = part_of schemas_for series schema (subst (Among schema) are has) in
      (formed_at store.series sound.formed (input_path part.element) schema
      (is_at store.series (input_path part.element) schema part.is)).suits);
  rising = subst (EachPair (λ a b. AreNamesBefore (schema_names a) (schema_names b))) (sym are)
      (rising store.series sound.formed series have.named order);
}
  where
    schemas_for : InputSeries → List Schema
    schemas_for one = schemas_at store.series (input_path one)
