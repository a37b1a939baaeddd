-- What the plain map answers to a select, by what is in memory.
use Rattle.std.proofs.Common.{◌≡◌, ℕ, Bool, true, false, ◌&&◌, ◌||◌, List, [], ◌∷◌, inl, inr, map, Option, None, Some, is_some, refl, sym, ap, subst, ◌∙◌}
use Rattle.std.specs.Prelude.{if◌then◌else◌, IsSome}
use Rattle.std.specs.FinMap.{get}
use Rattle.std.specs.List.{AllByRecursion as Each}
use Rattle.std.specs.Option.{IsSomeAnd, option_map}
use Rattle.std.proofs.lemmas.Bool.{false≢true}
use Rattle.tsdb_base.specs.declared.answers.Aggregate.{Aggregate}
use Rattle.tsdb_base.specs.declared.answers.Answer.TheVariants.{NoPath, WrongType}
use Rattle.tsdb_base.specs.declared.point.Range.{Range}
use Rattle.tsdb_base.specs.declared.value.DataType.{DataType}
use Rattle.tsdb_model.specs.Apply.{any_unfit, are_there, ask_aggregates, columns_of, is_unfit, item_values, select_reply, series_of}
use Rattle.tsdb_model.specs.Folds.{rows}
use Rattle.tsdb_model.specs.World.{Series, World}
use Rattle.tsdb_model.specs.declared.command.Item.{Item}
use Rattle.tsdb_model.specs.declared.reply.Reply.{Reply}
use Rattle.tsdb_model.specs.declared.reply.Reply.TheVariants.{Lines, Plain, Values}
use Rattle.tsdb_path.specs.Nodes.{child_of}
use Rattle.tsdb_pin.specs.Items.{AreFit, AreItemsRefused, IsThere, IsUnfitItem, OneOf, is_unfit_for, item_type}
use Rattle.tsdb_memory.specs.StateOfMemory.{IsMemoryOf, series_entry}
use Rattle.tsdb_memory.specs.Store.{MemoryState}
use Rattle.tsdb_pins.specs.Replies.{IsMapFault}
use Rattle.tsdb_pin.specs.declared.pin.PinFault.{PinFault}
use Rattle.tsdb_pin.specs.declared.pin.PinFault.TheVariants as fault
use Rattle.tsdb_state.specs.State.{SeriesEntry, StoreState, ToldContents}
use Rattle.tsdb_state.specs.Worlds.{StandsFor, type_at}

-- the series that memory has are those of the world
abbrev pub HasTypes : List SeriesEntry → World → Type 0
HasTypes schemas world = (path : List ℕ) → option_map (λ (series : Series). series.data_type) (get world path) ≡ type_at schemas path

-- whether an item is fit depends on the type alone
unfit_by_type : (a : Option Aggregate) (series : Series) → is_unfit a (Some series) ≡ is_unfit_for a series.data_type
unfit_by_type None series = refl
unfit_by_type (Some aggregate) series = refl

unfit_asks : (a : Option Aggregate) (o : Option Series) → is_unfit a o ≡ true → is_some a ≡ true
unfit_asks None o unfit = absurd (false≢true unfit)
unfit_asks (Some a) o unfit = refl

fit_one : (a : Option Aggregate) (o : Option Series) (t : Option DataType) → option_map (λ (series : Series). series.data_type) o ≡ t → IsSomeAnd t (λ t. is_unfit_for a t ≡ false) → (is_some o ≡ true) × (is_unfit a o ≡ false)
fit_one a None t is fit = absurd (subst (λ t. IsSomeAnd t (λ t. is_unfit_for a t ≡ false)) (sym is) fit)
fit_one a (Some series) t is fit = (refl, unfit_by_type a series ∙ subst (λ t. IsSomeAnd t (λ t. is_unfit_for a t ≡ false)) (sym is) fit)

unfit_one : (a : Option Aggregate) (o : Option Series) (t : Option DataType) → option_map (λ (series : Series). series.data_type) o ≡ t → IsSomeAnd t (λ t. is_unfit_for a t ≡ true) → is_unfit a o ≡ true
unfit_one a None t is fit = absurd (subst (λ t. IsSomeAnd t (λ t. is_unfit_for a t ≡ true)) (sym is) fit)
unfit_one a (Some series) t is fit = unfit_by_type a series ∙ subst (λ t. IsSomeAnd t (λ t. is_unfit_for a t ≡ true)) (sym is) fit

there_one : (o : Option Series) (t : Option DataType) → option_map (λ (series : Series). series.data_type) o ≡ t → IsSome t → is_some o ≡ true
there_one None t is some = absurd (false≢true (subst IsSome (sym is) some))
there_one (Some series) t is some = refl

gone_one : (o : Option Series) (t : Option DataType) → option_map (λ (series : Series). series.data_type) o ≡ t → (IsSome t → ⊥) → is_some o ≡ false
gone_one None t is none = refl
gone_one (Some series) t is none = absurd (none (subst IsSome is refl))

module _ (schemas : List SeriesEntry) (world : World) (device : List ℕ) (types : HasTypes schemas world) where
  abbrev series_at : Item → Option Series
  series_at item = series_of world device item.measurement

  type_is : (item : Item) → option_map (λ (series : Series). series.data_type) (series_at item) ≡ item_type schemas device item
  type_is item = types (child_of device item.measurement)

  all_fit : (items : List Item) → AreFit schemas device items → (are_there world device (map (λ item. item.measurement) items) ≡ true) × (any_unfit world device items ≡ false)
  all_fit [] fit = (refl, refl)
  all_fit (item ∷ items) fit =
      let one = fit_one item.aggregate (series_at item) (item_type schemas device item) (type_is item) fit.0 in
      let rest = all_fit items fit.1 in
      (ap (λ b. b && are_there world device (map (λ item. item.measurement) items)) one.0 ∙ rest.0, ap (λ b. b || any_unfit world device items) one.1 ∙ rest.1)

  all_there : (items : List Item) → Each (IsThere schemas device) items → are_there world device (map (λ item. item.measurement) items) ≡ true
  all_there [] there = refl
  all_there (item ∷ items) there =
      ap (λ b. b && are_there world device (map (λ item. item.measurement) items)) (there_one (series_at item) (item_type schemas device item) (type_is item) there.0) ∙ all_there items there.1

  and_false : (b : Bool) → (b && false) ≡ false
  and_false true = refl
  and_false false = refl

  or_true : (b : Bool) → (b || true) ≡ true
  or_true true = refl
  or_true false = refl

  one_gone : (items : List Item) → OneOf (λ item. ¬ IsThere schemas device item) items → are_there world device (map (λ item. item.measurement) items) ≡ false
  one_gone [] gone = absurd gone
  one_gone (item ∷ items) (inl gone) = ap (λ b. b && are_there world device (map (λ item. item.measurement) items)) (gone_one (series_at item) (item_type schemas device item) (type_is item) gone)
  one_gone (item ∷ items) (inr gone) = ap (λ b. is_some (series_at item) && b) (one_gone items gone) ∙ and_false (is_some (series_at item))

  one_unfit : (items : List Item) → OneOf (IsUnfitItem schemas device) items → (any_unfit world device items ≡ true) × (ask_aggregates items ≡ true)
  one_unfit [] unfit = absurd unfit
  one_unfit (item ∷ items) (inl unfit) =
      let one = unfit_one item.aggregate (series_at item) (item_type schemas device item) (type_is item) unfit in
      (ap (λ b. b || any_unfit world device items) one, ap (λ b. b || ask_aggregates items) (unfit_asks item.aggregate (series_at item) one))
  one_unfit (item ∷ items) (inr unfit) =
      let rest = one_unfit items unfit in
      (ap (λ b. is_unfit item.aggregate (series_at item) || b) rest.0 ∙ or_true (is_unfit item.aggregate (series_at item)), ap (λ b. is_some item.aggregate || b) rest.1 ∙ or_true (is_some item.aggregate))

  abbrev reply_by : List Item → Range → Bool → Bool → Bool → Reply
  reply_by items range there asks unfit =
      if there then (if asks then (if unfit then Plain WrongType else Values (item_values world device items range)) else Lines (rows (columns_of world device items range))) else Plain NoPath

  reply_is : (items : List Item) (range : Range) (there asks unfit : Bool) → are_there world device (map (λ item. item.measurement) items) ≡ there → ask_aggregates items ≡ asks → any_unfit world device items ≡ unfit
      → select_reply world device items range ≡ reply_by items range there asks unfit
  reply_is items range there asks unfit a b c =
      ap (λ x. reply_by items range x (ask_aggregates items) (any_unfit world device items)) a
      ∙ ap (λ x. reply_by items range there x (any_unfit world device items)) b
      ∙ ap (λ x. reply_by items range there asks x) c

  pub rows_replied : (items : List Item) (range : Range) → AreFit schemas device items → ask_aggregates items ≡ false → select_reply world device items range ≡ Lines (rows (columns_of world device items range))
  rows_replied items range fit asks = let all = all_fit items fit in reply_is items range true false false all.0 asks all.1

  pub values_replied : (items : List Item) (range : Range) → AreFit schemas device items → ask_aggregates items ≡ true → select_reply world device items range ≡ Values (item_values world device items range)
  values_replied items range fit asks = let all = all_fit items fit in reply_is items range true true false all.0 asks all.1

  pub no_path_replied : (items : List Item) (range : Range) → OneOf (λ item. ¬ IsThere schemas device item) items → select_reply world device items range ≡ Plain NoPath
  no_path_replied items range gone = reply_is items range false (ask_aggregates items) (any_unfit world device items) (one_gone items gone) refl refl

  pub wrong_type_replied : (items : List Item) (range : Range) → Each (IsThere schemas device) items → OneOf (IsUnfitItem schemas device) items → select_reply world device items range ≡ Plain WrongType
  wrong_type_replied items range there unfit = let one = one_unfit items unfit in reply_is items range true true true (all_there items there) one.1 one.0

  pub fault_replied : (items : List Item) (range : Range) (fault : PinFault) → AreItemsRefused schemas device items fault → IsMapFault world device items range fault
  fault_replied items range fault.NoPath refused = no_path_replied items range refused
  fault_replied items range fault.WrongType refused = wrong_type_replied items range refused.0 refused.1
  fault_replied items range fault.Memory refused = tt

-- the types of memory are those of the world
pub types_of : (told : ToldContents) (memory : MemoryState) (engine : StoreState) (world : World) → IsMemoryOf memory engine → StandsFor told engine world → HasTypes (map series_entry memory.series) world
types_of told memory engine world is stands path = stands.types path ∙ ap (λ l. type_at l path) is.schemas
