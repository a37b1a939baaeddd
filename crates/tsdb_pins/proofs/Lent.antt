-- Sources that are lent to a stream, as those of the pin.
use Rattle.std.proofs.Common.{◌≡◌, ℕ, ◌+◌, ◌<◌, List, [], ◌∷◌, ◌++◌, length, take, get_or, map, Some, refl, sym, ap, subst, ◌∙◌}
use Rattle.std.specs.Prelude.{All, filter, ◌<ℤ◌}
use Rattle.std.specs.List.{AllByRecursion as Each, AllZip}
use Rattle.std.specs.Option.{option_map}
use Rattle.std.proofs.lemmas.List.{take_more}
use Rattle.std.proofs.lemmas.List.Elements.{All-cons, All-nil}
use Rattle.std.proofs.lemmas.List.Kept.{AllPairs-filter}
use Rattle.tsdb_base.specs.declared.point.Point.{Point}
use Rattle.tsdb_base.specs.declared.point.Range.{Range}
use Rattle.tsdb_streams.specs.KeptPoints.{is_kept}
use Rattle.tsdb_streams.specs.Lanes.{IsSourceOfStore, IsToldSource, IsTrueSource, source_all, source_left}
use Rattle.tsdb_streams.specs.declared.source.StreamSource.{StreamSource}
use Rattle.tsdb_streams.specs.declared.source.StreamSource.TheVariants as lent
use Rattle.tsdb_streams.specs.Files.{IsTold, IsTruth}
use Rattle.tsdb_marks.specs.declared.marks.Mark.{Mark}
use Rattle.tsdb_base.specs.Points.{IsRising}
use Rattle.tsdb_outside.specs.Files.{NamedFile, Store}
use Rattle.tsdb_path.specs.Nodes.{device_of, measurement_of}
use Rattle.tsdb_pins.specs.Worlds.{born_of, kept_of}
use Rattle.tsdb_pin.specs.declared.pin.PinnedSource.{PinnedSource}
use Rattle.tsdb_pin.specs.declared.pin.PinnedSource.TheVariants.{File, Part}
use Rattle.tsdb_pins.specs.Reading.{HasTold, IsLentAs, IsOfStore, IsToldIn, IsTrueIn, SeriesPages}
use Rattle.tsdb_streams.specs.Pieces.{joined}

-- ---- pairs of two lists

zip_push : {A B : Type 0} (R : A → B → Type 0) (xs : List A) (ys : List B) (x : A) (y : B) → AllZip R xs ys → R x y → AllZip R (xs ++ x ∷ []) (ys ++ y ∷ [])
zip_push R [] [] x y zip one = (one, tt)
zip_push R [] (z ∷ ys) x y zip one = absurd zip
zip_push R (w ∷ xs) [] x y zip one = absurd zip
zip_push R (w ∷ xs) (z ∷ ys) x y zip one = (zip.0, zip_push R xs ys x y zip.1 one)

pub zip_more : {A B : Type 0} (R : A → B → Type 0) (xs : List A) (i : ℕ) (x : A) (ys more : List B) (y : B) → i < length xs → x ≡ get_or xs i x → AllZip R (take i xs) ys → R x y → more ≡ ys ++ y ∷ []
    → AllZip R (take (i + 1) xs) more
zip_more R xs i x ys more y below at zip one push =
    subst (λ l. AllZip R l more) (sym (take_more xs i x below ∙ ap (λ z. take i xs ++ z ∷ []) (sym at)))
    (subst (AllZip R (take i xs ++ x ∷ [])) (sym push) (zip_push R (take i xs) ys x y zip one))

zip_all : {A B : Type 0} (R : A → B → Type 0) (Q : A → Type 0) (W : B → Type 0) → ((x : A) (y : B) → R x y → Q x → W y) → (xs : List A) (ys : List B) → AllZip R xs ys → Each Q xs → All W ys
zip_all R Q W f [] [] zip each = All-nil W
zip_all R Q W f [] (y ∷ ys) zip each = absurd zip
zip_all R Q W f (x ∷ xs) [] zip each = absurd zip
zip_all R Q W f (x ∷ xs) (y ∷ ys) zip each = All-cons W y ys (f x y zip.0 each.0) (zip_all R Q W f xs ys zip.1 each.1)

module _ {F S R P : Type 0} (name : R → NamedFile) where
  pub of_store_lent : (store : Store) (sources : List (PinnedSource F S R P)) (list : List (StreamSource R)) → AllZip IsLentAs sources list → Each (IsOfStore name store) sources → All (IsSourceOfStore name store) list
  of_store_lent store sources list zip each = zip_all IsLentAs (IsOfStore name store) (IsSourceOfStore name store) one sources list zip each
    where
      one : (source : PinnedSource F S R P) (other : StreamSource R) → IsLentAs source other → IsOfStore name store source → IsSourceOfStore name store other
      one (File number born right) (lent.File read stamp) is of = subst (λ r. (name r).store ≡ store) (sym is.0) of
      one (File number born right) (lent.Part points stamp) is of = absurd is
      one (Part born copies) (lent.File read stamp) is of = absurd is
      one (Part born copies) (lent.Part points stamp) is of = tt

module _ {F S R P : Type 0} (name : R → NamedFile) (pages : SeriesPages) (path : List ℕ) where
  pub true_lent : (sources : List (PinnedSource F S R P)) (list : List (StreamSource R)) → AllZip IsLentAs sources list → Each (IsTrueIn name pages path) sources → All (IsTrueSource name (device_of path, measurement_of path) (pages path)) list
  true_lent sources list zip each = zip_all IsLentAs (IsTrueIn name pages path) (IsTrueSource name (device_of path, measurement_of path) (pages path)) one sources list zip each
    where
      one : (source : PinnedSource F S R P) (other : StreamSource R) → IsLentAs source other → IsTrueIn name pages path source → IsTrueSource name (device_of path, measurement_of path) (pages path) other
      one (File number born right) (lent.File read stamp) is of = subst (λ r. IsTruth (device_of path, measurement_of path) (pages path) (name r)) (sym is.0) of
      one (File number born right) (lent.Part points stamp) is of = absurd is
      one (Part born copies) (lent.File read stamp) is of = absurd is
      one (Part born copies) (lent.Part points stamp) is of = tt

  pub told_lent : (sources : List (PinnedSource F S R P)) (list : List (StreamSource R)) → AllZip IsLentAs sources list → Each (IsToldIn name pages path) sources → All (IsToldSource name (pages path)) list
  told_lent sources list zip each = zip_all IsLentAs (IsToldIn name pages path) (IsToldSource name (pages path)) one sources list zip each
    where
      one : (source : PinnedSource F S R P) (other : StreamSource R) → IsLentAs source other → IsToldIn name pages path source → IsToldSource name (pages path) other
      one (File number born right) (lent.File read stamp) is of = subst (λ r. IsTold (pages path) (name r)) (sym is.0) of
      one (File number born right) (lent.Part points stamp) is of = absurd is
      one (Part born copies) (lent.File read stamp) is of = absurd is
      one (Part born copies) (lent.Part points stamp) is of = tt

  one_told : (source : PinnedSource F S R P) (other : StreamSource R) (points : List Point) → IsLentAs source other → HasTold name pages path source points → source_all name (pages path) other ≡ Some points
  one_told (File number born right) (lent.File read stamp) points is has = ap (λ r. option_map joined (pages path (name r).number)) is.0 ∙ ap (option_map joined) has.1 ∙ ap (λ (l : List Point). Some l) (sym has.2)
  one_told (File number born right) (lent.Part parts stamp) points is has = absurd is
  one_told (Part born copies) (lent.File read stamp) points is has = absurd is
  one_told (Part born copies) (lent.Part parts stamp) points is has = ap (λ (l : List Point). Some l) (is.0 ∙ sym has)

  -- what a stream is told of the lent sources
  pub all_told : (sources : List (PinnedSource F S R P)) (list : List (StreamSource R)) (lists : List (List Point)) → AllZip IsLentAs sources list → AllZip (HasTold name pages path) sources lists
      → map (source_all name (pages path)) list ≡ map (λ (l : List Point). Some l) lists
  all_told [] [] [] zip has = refl
  all_told [] [] (points ∷ lists) zip has = absurd has
  all_told [] (other ∷ list) lists zip has = absurd zip
  all_told (source ∷ sources) [] lists zip has = absurd zip
  all_told (source ∷ sources) (other ∷ list) [] zip has = absurd has
  all_told (source ∷ sources) (other ∷ list) (points ∷ lists) zip has =
      ap (λ o. o ∷ map (source_all name (pages path)) list) (one_told source other points zip.0 has.0) ∙ ap (λ l. Some points ∷ l) (all_told sources list lists zip.1 has.1)

  module _ (range : Range) (marks : List Mark) where
    -- what a stream has of a lent source at first are the points of the source that are kept
    one_left : (source : PinnedSource F S R P) (other : StreamSource R) (points : List Point) → IsLentAs source other → HasTold name pages path source points
        → source_left name (pages path) (is_kept path range marks) other ≡ Some (filter (is_kept path range marks (born_of source)) points)
    one_left (File number born right) (lent.File read stamp) points is has =
        ap (λ r. option_map (λ (list : List (List Point)). filter (is_kept path range marks stamp.0) (joined list)) (pages path (name r).number)) is.0
        ∙ ap (option_map (λ (list : List (List Point)). filter (is_kept path range marks stamp.0) (joined list))) has.1
        ∙ ap (λ (l : List Point). Some (filter (is_kept path range marks stamp.0) l)) (sym has.2)
        ∙ ap (λ b. Some (filter (is_kept path range marks b) points)) (ap (λ s. s.0) is.1)
    one_left (File number born right) (lent.Part parts stamp) points is has = absurd is
    one_left (Part born copies) (lent.File read stamp) points is has = absurd is
    one_left (Part born copies) (lent.Part parts stamp) points is has =
        ap (λ (l : List Point). Some (filter (is_kept path range marks stamp.0) l)) (is.0 ∙ sym has)
        ∙ ap (λ b. Some (filter (is_kept path range marks b) points)) (ap (λ s. s.0) is.1)

    pub all_left : (sources : List (PinnedSource F S R P)) (list : List (StreamSource R)) (lists : List (List Point)) → AllZip IsLentAs sources list → AllZip (HasTold name pages path) sources lists
        → map (source_left name (pages path) (is_kept path range marks)) list ≡ map (λ (l : List Point). Some l) (kept_of path range marks sources lists)
    all_left [] [] [] zip has = refl
    all_left [] [] (points ∷ lists) zip has = absurd has
    all_left [] (other ∷ list) lists zip has = absurd zip
    all_left (source ∷ sources) [] lists zip has = absurd zip
    all_left (source ∷ sources) (other ∷ list) [] zip has = absurd has
    all_left (source ∷ sources) (other ∷ list) (points ∷ lists) zip has =
        ap (λ o. o ∷ map (source_left name (pages path) (is_kept path range marks)) list) (one_left source other points zip.0 has.0)
        ∙ ap (λ l. Some (filter (is_kept path range marks (born_of source)) points) ∷ l) (all_left sources list lists zip.1 has.1)

    pub kept_rising : (sources : List (PinnedSource F S R P)) (lists : List (List Point)) → Each IsRising lists → All IsRising (kept_of path range marks sources lists)
    kept_rising [] lists rising = All-nil IsRising
    kept_rising (source ∷ sources) [] rising = All-nil IsRising
    kept_rising (source ∷ sources) (points ∷ lists) rising =
        All-cons IsRising (filter (is_kept path range marks (born_of source)) points) (kept_of path range marks sources lists)
        (AllPairs-filter (λ (a b : Point). a.time <ℤ b.time) (is_kept path range marks (born_of source)) points rising.0)
        (kept_rising sources lists rising.1)
