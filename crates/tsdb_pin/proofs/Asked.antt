-- What is known of the items of a select after some of them were looked up.
use Rattle.std.proofs.Common.{◌≡◌, inl, inr, ℕ, zero, suc, ◌+◌, ◌<◌, ◌≤◌, Bool, true, false, List, [], ◌∷◌, ◌++◌, length, take, get_or, map}
use Rattle.std.proofs.Common.{Option, Some, None, refl, sym, ap, subst, ◌∙◌, slice_get, arith}
use Rattle.std.specs.Prelude.{IsSome}
use Rattle.std.specs.List.{AllByRecursion as Each, AllZip}
use Rattle.std.specs.Option.{IsSomeAnd, option_map}
use Rattle.std.proofs.lemmas.Bool.{false≢true}
use Rattle.std.proofs.lemmas.List.{map-append, take_all, take_more}
use Rattle.tsdb_base.specs.declared.answers.Aggregate.{Aggregate}
use Rattle.tsdb_base.specs.declared.value.DataType.{DataType}
use Rattle.tsdb_base.specs.declared.value.Encoding.{Encoding}
use Rattle.tsdb_base.proofs.Lists.{each_append}
use Rattle.tsdb_model.specs.declared.command.Item.{Item}
use Rattle.tsdb_model.specs.declared.command.Schema.{Schema}
use Rattle.tsdb_fileset.specs.StateOfMemory.{series_entry, number_of}
use Rattle.tsdb_path.specs.Nodes.{child_of}
use Rattle.tsdb_pin.proofs.Listed.{zip_append}
use Rattle.tsdb_pin.specs.Items.{AreFit, are_fit_with, IsAsked, IsFit, IsItemFound, IsThere, IsUnfitItem, OneOf, is_unfit_for, item_type}
use Rattle.tsdb_pin.specs.declared.items.AskedSeries.{AskedSeries}
use Rattle.tsdb_pin.specs.declared.items.ItemFound.{ItemFound}
use Rattle.tsdb_pin.specs.declared.items.ItemFound.TheVariants.{Missing, Series}
use Rattle.tsdb_fileset.proofs.Types.{type_found, type_of_number}
use Rattle.tsdb_fileset.specs.Worlds.{type_at}

none_some : {X : Type 0} (o : Option X) → o ≡ None → ¬ IsSome o
none_some None e some = false≢true some
none_some (Some x) e some = cc

some_is : {X : Type 0} (x : X) (o : Option X) → o ≡ Some x → IsSome o
some_is x o e = subst IsSome (sym e) refl

-- the series of a path that is none, or has no number, is not there
pub missing_item : (series : List Schema) (device path : List ℕ) (item : Item) → path ≡ child_of device item.measurement
    → type_at (map series_entry series) path ≡ None → ¬ IsThere (map series_entry series) device item
missing_item series device path item is none = none_some (item_type (map series_entry series) device item)
    (ap (type_at (map series_entry series)) (sym is) ∙ none)

pub unnumbered : (series : List Schema) (path : List ℕ) → number_of series path ≡ None
    → type_at (map series_entry series) path ≡ None
unnumbered series path none = type_found series path ∙ ap (type_of_number series) none

pub asked_type : (series : List Schema) (device : List ℕ) (item : Item) (asked : AskedSeries) → IsAsked series device item asked
    → item_type (map series_entry series) device item ≡ Some asked.schema.data_type
asked_type series device item asked is = ap (type_at (map series_entry series)) (sym is.of_path)
    ∙ type_found series asked.schema.path ∙ ap (type_of_number series) is.numbered
    ∙ ap (option_map (λ (s : Schema). s.data_type)) is.at

-- ---- item by item

one_left : {X : Type 0} (P : X → Type 0) (xs ys : List X) → OneOf P xs → OneOf P (xs ++ ys)
one_left P [] ys h = absurd h
one_left P (x ∷ xs) ys (inl h) = inl h
one_left P (x ∷ xs) ys (inr h) = inr (one_left P xs ys h)

one_right : {X : Type 0} (P : X → Type 0) (xs ys : List X) → OneOf P ys → OneOf P (xs ++ ys)
one_right P [] ys h = h
one_right P (x ∷ xs) ys h = inr (one_right P xs ys h)

pub record IsReadPart (series : List Schema) (device : List ℕ) (read : List Item) (fit : Bool) (all : List AskedSeries) : Type 0 where
  pub asked : AllZip (IsAsked series device) read all
  pub there : Each (IsThere (map series_entry series) device) read
  pub fits : fit ≡ true → AreFit (map series_entry series) device read
  pub unfit : fit ≡ false → OneOf (IsUnfitItem (map series_entry series) device) read

abbrev pub IsReadTo : List Schema → List ℕ → List Item → ℕ → Bool → List AskedSeries → Type 0
IsReadTo series device items i fit all = IsReadPart series device (take i items) fit all

pub nothing_read : (series : List Schema) (device : List ℕ) (all : List AskedSeries) → all ≡ []
    → IsReadPart series device [] true all
nothing_read series device all none = record {
  asked = subst (AllZip (IsAsked series device) []) (sym none) tt;
  there = tt;
  fits = λ e. tt;
  unfit = λ e. absurd (false≢true (sym e));
}

typed_as : (o : Option DataType) (t : DataType) (P : DataType → Type 0) → o ≡ Some t → P t → IsSomeAnd o P
typed_as o t P e h = subst (λ o. IsSomeAnd o P) (sym e) h

one_read : (series : List Schema) (device : List ℕ) (read : List Item) (fit : Bool) (all : List AskedSeries) (item : Item)
    (asked : AskedSeries) (b : Bool) → IsReadPart series device read fit all → IsAsked series device item asked
    → is_unfit_for asked.aggregate asked.schema.data_type ≡ b
    → IsReadPart series device (read ++ item ∷ []) (are_fit_with b fit) (all ++ asked ∷ [])
one_read series device read fit all item asked b part is test = record {
  asked = zip_append (IsAsked series device) read (item ∷ []) all (asked ∷ []) part.asked (is, tt);
  there = each_append (IsThere (map series_entry series) device) read (item ∷ []) part.there
      (some_is asked.schema.data_type (item_type (map series_entry series) device item) type, tt);
  fits = λ e. fits b fit e test part.fits;
  unfit = λ e. unfit b fit e test part.unfit;
}
  where
    type : item_type (map series_entry series) device item ≡ Some asked.schema.data_type
    type = asked_type series device item asked is

    of_item : is_unfit_for item.aggregate asked.schema.data_type ≡ is_unfit_for asked.aggregate asked.schema.data_type
    of_item = ap (λ (a : Option Aggregate). is_unfit_for a asked.schema.data_type) (sym is.same)

    fits : (b fit : Bool) → are_fit_with b fit ≡ true → is_unfit_for asked.aggregate asked.schema.data_type ≡ b
        → (fit ≡ true → AreFit (map series_entry series) device read)
        → AreFit (map series_entry series) device (read ++ item ∷ [])
    fits true fit e t h = absurd (false≢true e)
    fits false fit e t h = each_append (IsFit (map series_entry series) device) read (item ∷ []) (h e) (
      typed_as (item_type (map series_entry series) device item) asked.schema.data_type
          (λ (t : DataType). is_unfit_for item.aggregate t ≡ false) type (of_item ∙ t),
      tt,
    )

    unfit : (b fit : Bool) → are_fit_with b fit ≡ false → is_unfit_for asked.aggregate asked.schema.data_type ≡ b
        → (fit ≡ false → OneOf (IsUnfitItem (map series_entry series) device) read)
        → OneOf (IsUnfitItem (map series_entry series) device) (read ++ item ∷ [])
    unfit true fit e t h = one_right (IsUnfitItem (map series_entry series) device) read (item ∷ [])
        (inl (typed_as (item_type (map series_entry series) device item) asked.schema.data_type
        (λ (t : DataType). is_unfit_for item.aggregate t ≡ true) type (of_item ∙ t)))
    unfit false fit e t h = one_left (IsUnfitItem (map series_entry series) device) read (item ∷ []) (h e)

pub read_item : (series : List Schema) (device : List ℕ) (items : List Item) (i : ℕ) (fit : Bool) (old new : List AskedSeries)
    (item : Item) (found : ItemFound) (asked : AskedSeries) (b : Bool) → i < length items → item ≡ get_or items i item
    → IsReadTo series device items i fit old → IsItemFound series device item found → found ≡ Series asked
    → b ≡ is_unfit_for asked.aggregate asked.schema.data_type → new ≡ old ++ asked ∷ []
    → IsReadTo series device items (i + 1) (are_fit_with b fit) new
read_item series device items i fit old new item found asked b inside at part is one test push =
    subst (λ l. IsReadPart series device l (are_fit_with b fit) new) (sym (take_more items i item inside
    ∙ ap (λ (x : Item). take i items ++ x ∷ []) (sym at)))
    (subst (IsReadPart series device (take i items ++ item ∷ []) (are_fit_with b fit)) (sym push)
    (one_read series device (take i items) fit old item asked b part (subst (IsItemFound series device item) one is) (sym test)))

one_at : {X : Type 0} (P : X → Type 0) (xs : List X) (i : ℕ) (x : X) → i < length xs → x ≡ get_or xs i x → P x → OneOf P xs
one_at P [] i x inside at h = absurd (omega (arith, inside))
one_at P (y ∷ ys) zero x inside at h = inl (subst P at h)
one_at P (y ∷ ys) (suc i) x inside at h = inr (one_at P ys i x (omega (arith, inside)) at h)

pub read_missing : (series : List Schema) (device : List ℕ) (items : List Item) (i : ℕ) (item : Item) (found : ItemFound)
    → i < length items → item ≡ get_or items i item → IsItemFound series device item found → found ≡ Missing
    → OneOf (λ item. ¬ IsThere (map series_entry series) device item) items
read_missing series device items i item found inside at is one =
    one_at (λ item. ¬ IsThere (map series_entry series) device item) items i item inside at
    (subst (IsItemFound series device item) one is)

pub whole : (series : List Schema) (device : List ℕ) (items : List Item) (i : ℕ) (fit : Bool) (all : List AskedSeries)
    → length items ≤ i → IsReadTo series device items i fit all → IsReadPart series device items fit all
whole series device items i fit all end part = subst (λ l. IsReadPart series device l fit all) (take_all i items end) part

pub asked_of : (series : List Schema) (device path : List ℕ) (item : Item) (number : ℕ) (data_type : DataType)
    (encoding : Encoding) (asked : AskedSeries) → path ≡ child_of device item.measurement
    → number_of series path ≡ Some number
    → slice_get series number ≡ Some (record { path = path; data_type = data_type; encoding = encoding })
    → asked.id.0 ≡ number → asked.schema ≡ record { path = path; data_type = data_type; encoding = encoding }
    → asked.aggregate ≡ item.aggregate → IsAsked series device item asked
asked_of series device path item number data_type encoding asked is numbered at id schema same = record {
  at = ap (slice_get series) id ∙ at ∙ ap Some (sym schema);
  of_path = ap (λ (s : Schema). s.path) schema ∙ is;
  numbered = ap (λ (s : Schema). number_of series s.path) schema ∙ numbered ∙ ap Some (sym id);
  same = same;
}

-- ---- the paths of series

abbrev pub paths_of : List AskedSeries → List (List ℕ)
paths_of all = map (λ asked. asked.schema.path) all

pub path_added : (all : List AskedSeries) (i : ℕ) (asked : AskedSeries) (path : List ℕ) (old new : List (List ℕ)) → i < length all
    → asked ≡ get_or all i asked → old ≡ paths_of (take i all) → path ≡ asked.schema.path → new ≡ old ++ path ∷ []
    → new ≡ paths_of (take (i + 1) all)
path_added all i asked path old new inside at so_far same push = push ∙ (λ k. so_far k ++ same k ∷ [])
    ∙ sym (ap paths_of (take_more all i asked inside ∙ ap (λ (a : AskedSeries). take i all ++ a ∷ []) (sym at))
    ∙ map-append (λ (a : AskedSeries). a.schema.path) (take i all) (asked ∷ []))

pub all_paths : (all : List AskedSeries) (i : ℕ) (paths : List (List ℕ)) → length all ≤ i → paths ≡ paths_of (take i all)
    → paths ≡ paths_of all
all_paths all i paths end so_far = so_far ∙ ap paths_of (take_all i all end)
