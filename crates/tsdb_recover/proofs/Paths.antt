-- The series of a listed file have paths, since a store in order has them.
use Rattle.std.proofs.Common.{◌≡◌, ℕ, ◌<◌, List, [], ◌∷◌, ◌++◌, length, map, Some, inl, inr, ⊎_elim, refl, ap, ◌∙◌, subst, arith}
use Rattle.std.specs.Prelude.{◌⊎◌}
use Rattle.std.specs.FinMap.{get}
use Rattle.std.specs.List.{AllByRecursion as Each}
use Rattle.std.proofs.lemmas.List.Elements.{recursion_from_All}
use Rattle.tsdb_base.specs.Values.{type_of}
use Rattle.tsdb_base.specs.declared.point.Point.{Point}
use Rattle.tsdb_base.specs.declared.value.DataType.{DataType}
use Rattle.tsdb_base.specs.declared.value.Value.{Value}
use Rattle.tsdb_recover.proofs.DescribedParts.{content_of_part, tree_is_part}
use Rattle.tsdb_recover.specs.DescribedTrees.{HaveShortPaths, tree_part}
use Rattle.tsdb_flush.specs.Parts.{Filled}
use Rattle.tsdb_base.proofs.Lists.{each_among, each_from_among}
use Rattle.tsdb_state.specs.Layers.{HasPoint, Layer}
use Rattle.tsdb_base.specs.Lists.{Among}
use Rattle.tsdb_state.specs.Places.{Content, PointPlace}
use Rattle.tsdb_model.specs.declared.command.Schema.{Schema}
use Rattle.tsdb_flush.specs.BuiltParts.{IsFilledSeries}
use Rattle.tsdb_memory.specs.Model.{IsFormed, IsSoundMemory}
use Rattle.tsdb_memory.specs.StateOfMemory.{IsMemoryOf, series_entry}
use Rattle.tsdb_memory.specs.Store.{MemoryState}
use Rattle.tsdb_pages.specs.Trees.{IsMade, IsTree}
use Rattle.tsdb_pages.specs.declared.tree.Tree.{Tree}
use Rattle.tsdb_path.specs.Nodes.{IsPath}
use Rattle.tsdb_state.specs.Stores.{IsTreeContent}
use Rattle.tsdb_state.specs.State.{File, StoreState, ToldContents}
use Rattle.tsdb_state.specs.StoreOrder.{IsOfSeries, StoreInOrder}
use Rattle.tsdb_state.specs.Views.{file_layers}

has_left : (xs ys : List Layer) (place : PointPlace) (value : Value) → HasPoint xs place value → HasPoint (xs ++ ys) place value
has_left [] ys place value has = absurd has
has_left (x ∷ xs) ys place value (inl is) = inl is
has_left (x ∷ xs) ys place value (inr has) = inr (has_left xs ys place value has)

has_right : (xs ys : List Layer) (place : PointPlace) (value : Value) → HasPoint ys place value → HasPoint (xs ++ ys) place value
has_right [] ys place value has = has
has_right (x ∷ xs) ys place value has = inr (has_right xs ys place value has)

-- a point of a listed file is one of the layers of its list
in_layers : (told : ToldContents) (files : List File) (file : File) (place : PointPlace) (value : Value) → Among file files
    → get (told file.number) place ≡ Some value → HasPoint (file_layers told files) place value
in_layers told [] file place value among has = absurd among
in_layers told (first ∷ files) file place value (inl is) has =
    inl (ap (λ (f : File). get (told f.number) place) is ∙ has)
in_layers told (first ∷ files) file place value (inr among) has = inr (in_layers told files file place value among has)

either : {X : Type 0} (xs ys : List X) (x : X) → Among x (xs ++ ys) → Among x xs ⊎ Among x ys
either [] ys x among = inr among
either (y ∷ xs) ys x (inl is) = inl (inl is)
either (y ∷ xs) ys x (inr among) = ⊎_elim (λ a. inl (inr a)) (λ b. inr b) (either xs ys x among)

-- a point of a listed file is of a series that was created
of_series : (told : ToldContents) (store : StoreState) (file : File) (place : PointPlace) (value : Value) → StoreInOrder told store
    → Among file (store.sequence ++ store.unsequence) → get (told file.number) place ≡ Some value
    → IsOfSeries store.schemas place.path (type_of value)
of_series told store file place value order among has = order.series.typed place value
    (⊎_elim
    (λ a. has_left (file_layers told store.sequence ++ file_layers told store.unsequence) _ place value
    (has_left (file_layers told store.sequence) (file_layers told store.unsequence) place value
    (in_layers told store.sequence file place value a has)))
    (λ b. has_left (file_layers told store.sequence ++ file_layers told store.unsequence) _ place value
    (has_right (file_layers told store.sequence) (file_layers told store.unsequence) place value
    (in_layers told store.unsequence file place value b has)))
    (either store.sequence store.unsequence file among))

-- a series that was created has a path
created_path : (series : List Schema) (path : List ℕ) (data_type : DataType) → Each IsFormed series
    → IsOfSeries (map series_entry series) path data_type → IsPath path
created_path [] path data_type formed of = absurd of
created_path (schema ∷ series) path data_type formed (inl is) = subst IsPath is.0 formed.0.path
created_path (schema ∷ series) path data_type formed (inr of) = created_path series path data_type formed.1 of

pub place_has_path : (told : ToldContents) (memory : MemoryState) (store : StoreState) (file : File) (place : PointPlace) (value : Value)
    → IsSoundMemory memory → IsMemoryOf memory store → StoreInOrder told store
    → Among file (store.sequence ++ store.unsequence) → get (told file.number) place ≡ Some value → IsPath place.path
place_has_path told memory store file place value sound is order among has =
    created_path memory.series place.path (type_of value) (recursion_from_All IsFormed memory.series sound.formed)
    (subst (λ schemas. IsOfSeries schemas place.path (type_of value)) is.schemas
    (of_series told store file place value order among has))

first_point : (points : List Point) → 0 < length points → (point : Point) × Among point points
first_point [] some = absurd (omega (arith, some))
first_point (point ∷ points) some = (point, inl refl)

-- the series of the file's tree have paths
pub have_paths : (tree : Tree) (content : Content) → IsTree tree → IsMade tree → IsTreeContent tree content
    → ((place : PointPlace) (value : Value) → get content place ≡ Some value → IsPath place.path) → HaveShortPaths tree
have_paths tree content is made of all = each_from_among (λ (filled : Filled). IsPath filled.schema.path) (tree_part tree)
    (λ filled among.
    let series = each_among IsFilledSeries (tree_part tree) filled (tree_is_part tree is made).each among in
    let first = first_point filled.points series.some in
    all (record { path = filled.schema.path; time = first.0.time }) first.0.value
    ((content_of_part tree content of (record { path = filled.schema.path; time = first.0.time }) first.0.value).1
    (record {
      filled = filled;
      in_part = among;
      point = first.0;
      in_series = first.1;
      path = refl;
      time = refl;
      has = refl;
    })))
