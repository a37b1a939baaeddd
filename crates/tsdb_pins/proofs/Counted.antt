-- How many pages a stream may read over the sources of a column, lent.
use Rattle.std.proofs.Common.{◌≡◌, ℕ, ◌+◌, ◌<◌, ◌≤◌, List, [], ◌∷◌, ◌++◌, length, take, get_or, map, refl, sym, ap, ◌∙◌, arith}
use Rattle.std.specs.Prelude.{flat_map, sum_by}
use Rattle.std.specs.List.{AllByRecursion as Each, AllZip, enumerate_from}
use Rattle.std.specs.Option.{unwrap_or}
use Rattle.std.proofs.lemmas.List.{take_more}
use Rattle.std.proofs.lemmas.List.Sums.{sum_by-cons, sum_by-take-le, sum_by_push}
use Rattle.tsdb_base.specs.declared.answers.Aggregate.{Aggregate}
use Rattle.tsdb_base.specs.declared.point.Point.{Point}
use Rattle.tsdb_base.specs.declared.point.Range.{Range}
use Rattle.tsdb_streams.specs.Clean.{count_read, hull_of, others, page_of, source_hulls, source_pages, source_read, sources_read}
use Rattle.tsdb_streams.specs.Files.{sums_in}
use Rattle.tsdb_streams.specs.declared.source.StreamSource.{StreamSource}
use Rattle.tsdb_streams.specs.declared.source.StreamSource.TheVariants as lent
use Rattle.tsdb_marks.specs.declared.marks.Mark.{Mark}
use Rattle.tsdb_outside.specs.Files.{NamedFile}
use Rattle.tsdb_pin.specs.declared.pin.PinnedSource.{PinnedSource}
use Rattle.tsdb_pin.specs.declared.pin.PinnedSource.TheVariants.{File, Part}
use Rattle.tsdb_pins.specs.Clean.{TellsPages, page_ranges, pages_for, read_of}
use Rattle.tsdb_pins.specs.Reading.{HasTold, IsLentAs, SeriesPages}
use Rattle.tsdb_streams.specs.Pieces.{joined}

module _ {F S R P : Type 0} (name : R → NamedFile) (pages : SeriesPages) (path : List ℕ) where
  -- the points of sources whose pages are told
  pub told_lists : (sources : List (PinnedSource F S R P)) → Each (TellsPages name pages path) sources → (lists : List (List Point)) × AllZip (HasTold name pages path) sources lists
  told_lists [] told = ([], tt)
  told_lists (source ∷ sources) told =
      let rest = told_lists sources told.1 in
      let first = one source told.0 in
      (first.0 ∷ rest.0, (first.1, rest.1))
    where
      one : (source : PinnedSource F S R P) → TellsPages name pages path source → (points : List Point) × HasTold name pages path source points
      one (File number born right) told = (joined told.0, (told.0, told.1, refl))
      one (Part born copies) told = (copies, refl)

  same_hulls : (source : PinnedSource F S R P) (other : StreamSource R) → IsLentAs source other → source_hulls name (pages path) other ≡ page_ranges name pages path source
  same_hulls (File number born right) (lent.File read stamp) is = ap (λ r. flat_map hull_of (unwrap_or (pages path (name r).number) [])) is.0
  same_hulls (File number born right) (lent.Part parts stamp) is = absurd is
  same_hulls (Part born copies) (lent.File read stamp) is = absurd is
  same_hulls (Part born copies) (lent.Part parts stamp) is = ap hull_of is.0

  all_hulls : (sources : List (PinnedSource F S R P)) (list : List (StreamSource R)) → AllZip IsLentAs sources list → map (source_hulls name (pages path)) list ≡ map (page_ranges name pages path) sources
  all_hulls [] [] zip = refl
  all_hulls [] (other ∷ list) zip = absurd zip
  all_hulls (source ∷ sources) [] zip = absurd zip
  all_hulls (source ∷ sources) (other ∷ list) zip =
      ap (λ h. h ∷ map (source_hulls name (pages path)) list) (same_hulls source other zip.0) ∙ ap (λ l. page_ranges name pages path source ∷ l) (all_hulls sources list zip.1)

  module _ (aggregate : Aggregate) (range : Range) (marks : List Mark) where
    same_pages : (source : PinnedSource F S R P) (other : StreamSource R) → IsLentAs source other → source_pages name (pages path) aggregate other ≡ pages_for name pages aggregate path source
    same_pages (File number born right) (lent.File read stamp) is = ap (λ r. flat_map (page_of aggregate (sums_in (name r))) (unwrap_or (pages path (name r).number) [])) is.0
    same_pages (File number born right) (lent.Part parts stamp) is = absurd is
    same_pages (Part born copies) (lent.File read stamp) is = absurd is
    same_pages (Part born copies) (lent.Part parts stamp) is = refl

    same_read : (hulls : List (List Range)) (place : ℕ) (source : PinnedSource F S R P) (other : StreamSource R) → IsLentAs source other → source_read name (pages path) aggregate path range marks hulls place other ≡ read_of name pages aggregate path range marks hulls place source
    same_read hulls place (File number born right) (lent.File read stamp) is =
        ap (λ b. count_read path range marks (others place hulls) b.0 (source_pages name (pages path) aggregate (lent.File read stamp))) is.1
        ∙ ap (λ l. count_read path range marks (others place hulls) born.0 l) (same_pages (File number born right) (lent.File read stamp) is)
    same_read hulls place (File number born right) (lent.Part parts stamp) is = absurd is
    same_read hulls place (Part born copies) (lent.File read stamp) is = absurd is
    same_read hulls place (Part born copies) (lent.Part parts stamp) is = refl

    all_read : (hulls : List (List Range)) (place : ℕ) (sources : List (PinnedSource F S R P)) (list : List (StreamSource R)) → AllZip IsLentAs sources list
        → sum_by (λ (entry : ℕ × StreamSource R). source_read name (pages path) aggregate path range marks hulls entry.0 entry.1) (enumerate_from place list)
        ≡ sum_by (λ (entry : ℕ × PinnedSource F S R P). read_of name pages aggregate path range marks hulls entry.0 entry.1) (enumerate_from place sources)
    all_read hulls place [] [] zip = refl
    all_read hulls place [] (other ∷ list) zip = absurd zip
    all_read hulls place (source ∷ sources) [] zip = absurd zip
    all_read hulls place (source ∷ sources) (other ∷ list) zip =
        let f = λ (entry : ℕ × StreamSource R). source_read name (pages path) aggregate path range marks hulls entry.0 entry.1 in
        let g = λ (entry : ℕ × PinnedSource F S R P). read_of name pages aggregate path range marks hulls entry.0 entry.1 in
        sum_by-cons f (place, other) (enumerate_from (place + 1) list)
        ∙ ap (λ n. n + sum_by f (enumerate_from (place + 1) list)) (same_read hulls place source other zip.0)
        ∙ ap (λ n. read_of name pages aggregate path range marks hulls place source + n) (all_read hulls (place + 1) sources list zip.1)
        ∙ sym (sum_by-cons g (place, source) (enumerate_from (place + 1) sources))

    -- as many pages of the lent sources may be read as of those of the column
    pub lent_read : (sources : List (PinnedSource F S R P)) (list : List (StreamSource R)) → AllZip IsLentAs sources list
        → sources_read name (pages path) aggregate path range marks list
        ≡ sum_by (λ (entry : ℕ × PinnedSource F S R P). read_of name pages aggregate path range marks (map (page_ranges name pages path) sources) entry.0 entry.1) (enumerate_from 0 sources)
    lent_read sources list zip =
        ap (λ h. sum_by (λ (entry : ℕ × StreamSource R). source_read name (pages path) aggregate path range marks h entry.0 entry.1) (enumerate_from 0 list)) (all_hulls sources list zip)
        ∙ all_read (map (page_ranges name pages path) sources) 0 sources list zip

-- ---- one column behind the other

-- one column more
pub read_more : {X : Type 0} (f : X → ℕ) (xs : List X) (i : ℕ) (x : X) (first was now : ℕ) → i < length xs → x ≡ get_or xs i x → was ≤ first + sum_by f (take i xs) → now ≤ was + f x → now ≤ first + sum_by f (take (i + 1) xs)
read_more f xs i x first was now low is so_far more =
    let next : sum_by f (take (i + 1) xs) ≡ sum_by f (take i xs) + f x = ap (sum_by f) (take_more xs i x low ∙ ap (λ z. take i xs ++ z ∷ []) (sym is)) ∙ sum_by_push f (take i xs) x in
    omega (arith, so_far, more, next)

pub read_all : {X : Type 0} (f : X → ℕ) (xs ys : List X) (i first was : ℕ) → xs ≡ ys → was ≤ first + sum_by f (take i xs) → was ≤ first + sum_by f ys
read_all f xs ys i first was same so_far =
    let some = sum_by-take-le f xs i in
    let all : sum_by f xs ≡ sum_by f ys = ap (sum_by f) same in
    omega (arith, so_far, some, all)

pub most_then : (first now n m : ℕ) → n ≡ m → now ≤ first + n → now ≤ first + m
most_then first now n m same most = omega (arith, same, most)

pub added_later : (old now n : ℕ) → now ≡ old + n → old ≤ now
added_later old now n is = omega (arith, is)

-- as many steps as pages were read, which are at most those that are due
pub added_most : (old now n due most : ℕ) → now ≡ old + n → n ≤ due → due ≡ most → now ≤ old + most
added_most old now n due most is low same = omega (arith, is, low, same)
