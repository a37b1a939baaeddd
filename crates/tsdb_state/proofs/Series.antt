-- The series that are there: their types, by paths and by numbers.
use Rattle.std.proofs.Common.{◌≡◌, ℕ, zero, suc, Bool, true, false, cond, List, [], ◌∷◌, ◌++◌, inl, inr, refl}
use Rattle.std.proofs.Common.{sym, ap, ◌∙◌, subst}
use Rattle.std.specs.Prelude.{◌≢◌, ◌&&◌, Some, None, find, slice_get}
use Rattle.std.specs.List.{AllByRecursion as Each}
use Rattle.std.specs.Option.{option_map, option_or, unwrap_or}
use Rattle.std.proofs.lemmas.Bool.{false≢true}
use Rattle.tsdb_base.specs.declared.value.DataType.{DataType}
use Rattle.tsdb_base.proofs.Lists.{each_among}
use Rattle.tsdb_state.proofs.LayerLemmas.Places.{is_path_same, path_itself}
use Rattle.tsdb_base.specs.Lists.{Among, EachPair}
use Rattle.tsdb_state.specs.Places.{is_path}
use Rattle.tsdb_state.specs.Records.{path_of}
use Rattle.tsdb_state.specs.State.{SeriesEntry}
use Rattle.tsdb_state.specs.StoreOrder.{IsOfSeries}
use Rattle.tsdb_state.specs.Worlds.{is_live_at, type_at}

abbrev pub ArePathsApart : SeriesEntry → SeriesEntry → Type 0
ArePathsApart series other = series.live ≡ true → other.live ≡ true → series.schema.path ≢ other.schema.path

pub live_at : (path : List ℕ) (series : SeriesEntry) → series.live ≡ true → series.schema.path ≡ path
    → is_live_at path series ≡ true
live_at path series live same = (λ i. live i && is_path path (same i)) ∙ path_itself path

both_parts : (a b : Bool) → (a && b) ≡ true → (a ≡ true) × (b ≡ true)
both_parts true b e = (refl, e)
both_parts false b e = absurd (false≢true e)

pub is_live : (path : List ℕ) (series : SeriesEntry) → is_live_at path series ≡ true
    → (series.live ≡ true) × (series.schema.path ≡ path)
is_live path series e =
    let parts = both_parts _ _ e in
    (parts.0, sym (is_path_same _ _ parts.1))

-- no series that is there has a path without a type
pub free_apart : (schemas : List SeriesEntry) (new : SeriesEntry) → type_at schemas new.schema.path ≡ None
    → Each (λ series. ArePathsApart series new) schemas
free_apart [] new free = tt
free_apart (series ∷ schemas) new free = by (is_live_at new.schema.path series) refl (λ e. free_apart schemas new e)
    free
  where
    by : (b : Bool) → is_live_at new.schema.path series ≡ b
        → (type_at schemas new.schema.path ≡ None → Each (λ series. ArePathsApart series new) schemas)
        → option_map
        (λ (s : SeriesEntry). s.schema.data_type) (cond b (Some series) (find (is_live_at new.schema.path) schemas)) ≡
        None
        → Each (λ series. ArePathsApart series new) (series ∷ schemas)
    by true t rest e = absurd (cc)
    by false t rest e = (λ live other same. false≢true (sym t ∙ live_at new.schema.path series live same), rest e)

-- the types with one series more
pub type_push : (schemas : List SeriesEntry) (new : SeriesEntry) (path : List ℕ)
    → type_at (schemas ++ new ∷ []) path
    ≡ option_or (type_at schemas path) (cond (is_live_at path new) (Some new.schema.data_type) None)
type_push [] new path = by (is_live_at path new)
  where
    by : (b : Bool) → option_map (λ (s : SeriesEntry). s.schema.data_type) (cond b (Some new) None)
        ≡ cond b (Some new.schema.data_type) None
    by true = refl
    by false = refl
type_push (series ∷ schemas) new path = by (is_live_at path series) (type_push schemas new path)
  where
    by : (b : Bool) → type_at (schemas ++ new ∷ []) path
        ≡ option_or (type_at schemas path) (cond (is_live_at path new) (Some new.schema.data_type) None)
        → option_map (λ (s : SeriesEntry). s.schema.data_type)
        (cond b (Some series) (find (is_live_at path) (schemas ++ new ∷ [])))
        ≡ option_or (option_map (λ (s : SeriesEntry). s.schema.data_type)
        (cond b (Some series) (find (is_live_at path) schemas)))
        (cond (is_live_at path new) (Some new.schema.data_type) None)
    by true e = refl
    by false e = e

pub type_kept : (schemas : List SeriesEntry) (new : SeriesEntry) (path : List ℕ) (type : DataType)
    → type_at schemas path ≡ Some type → type_at (schemas ++ new ∷ []) path ≡ Some type
type_kept schemas new path type is =
    type_push schemas new path
    ∙ ap (λ o. option_or o (cond (is_live_at path new) (Some new.schema.data_type) None)) is

pub series_kept : (schemas others : List SeriesEntry) (path : List ℕ) (type : DataType)
    → IsOfSeries schemas path type → IsOfSeries (schemas ++ others) path type
series_kept [] others path type is = absurd is
series_kept (series ∷ schemas) others path type (inl is) = inl is
series_kept (series ∷ schemas) others path type (inr is) = inr (series_kept schemas others path type is)

-- the series with a number

pub among_at : (schemas : List SeriesEntry) (number : ℕ) (series : SeriesEntry)
    → slice_get schemas number ≡ Some series → Among series schemas
among_at [] number series is = absurd (cc)
among_at (first ∷ schemas) zero series is = inl (cc)
among_at (first ∷ schemas) (suc number) series is = inr (among_at schemas number series is)

pub path_at : (schemas : List SeriesEntry) (number : ℕ) (series : SeriesEntry)
    → slice_get schemas number ≡ Some series → path_of schemas number ≡ series.schema.path
path_at schemas number series is = ap (λ o. unwrap_or (option_map (λ (s : SeriesEntry). s.schema.path) o) []) is

pub series_at : (schemas : List SeriesEntry) (number : ℕ) (series : SeriesEntry)
    → slice_get schemas number ≡ Some series → IsOfSeries schemas series.schema.path series.schema.data_type
series_at [] number series is = absurd (cc)
series_at (first ∷ schemas) zero series is =
    let same : first ≡ series = cc in
    subst (λ (s : SeriesEntry). IsOfSeries (first ∷ schemas) s.schema.path s.schema.data_type) same (inl (refl, refl))
series_at (first ∷ schemas) (suc number) series is = inr (series_at schemas number series is)

pub type_of_live : (schemas : List SeriesEntry) (series : SeriesEntry) → EachPair ArePathsApart schemas
    → Among series schemas → series.live ≡ true
    → type_at schemas series.schema.path ≡ Some series.schema.data_type
type_of_live [] series once among live = absurd among
type_of_live (first ∷ schemas) series once (inl same) live =
    subst (λ (s : SeriesEntry). s.live ≡ true → type_at (first ∷ schemas) s.schema.path ≡ Some s.schema.data_type) same
    (λ there. rw (live_at first.schema.path first there refl)) live
type_of_live (first ∷ schemas) series once (inr among) live = rw (hidden (is_live_at series.schema.path first) refl)
    (type_of_live schemas series once.1 among live)
  where
    hidden : (b : Bool) → is_live_at series.schema.path first ≡ b → is_live_at series.schema.path first ≡ false
    hidden true t =
        let first_is = is_live series.schema.path first t in
        absurd (each_among _ _ _ once.0 among first_is.0 live first_is.1)
    hidden false t = t
