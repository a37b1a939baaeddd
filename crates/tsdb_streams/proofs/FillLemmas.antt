-- Points that are taken of a source, one part behind the other.
use Rattle.std.proofs.Common.{◌≡◌, ℕ, zero, suc, ◌+◌, ◌<◌, ◌≤◌, Bool, false, true, cond, List, [], ◌∷◌, ◌++◌, length, refl, sym, ap, ◌∙◌, arith}
use Rattle.std.specs.Prelude.{Option, None, Some, IfSome, drop, filter, option_map, slice_get}
use Rattle.std.proofs.lemmas.List.Elements.{filter-append}
use Rattle.tsdb_aggregate.specs.Pieces.{overlap}
use Rattle.tsdb_base.specs.declared.point.Point.{Point}
use Rattle.tsdb_base.specs.declared.point.Range.{Range}
use Rattle.tsdb_streams.proofs.KeptLemmas.{none_kept}
use Rattle.tsdb_streams.proofs.PageFacts.{there}
use Rattle.tsdb_streams.specs.Files.{HasEntryPages}
use Rattle.tsdb_streams.specs.KeptPoints.{is_kept, kept, stats_range}
use Rattle.tsdb_streams.specs.Lanes.{Gives, is_due, is_passed, left_pages}
use Rattle.tsdb_index.specs.declared.index.IndexEntry.{IndexEntry}
use Rattle.tsdb_index.specs.declared.index.PageEntry.{PageEntry}
use Rattle.tsdb_marks.specs.declared.marks.Mark.{Mark}
use Rattle.tsdb_merge.specs.Supplies.{Moves}
use Rattle.tsdb_outside.specs.Files.{NamedFile}
use Rattle.tsdb_streams.specs.Pieces.{joined}
use Rattle.tsfile_reader.specs.Page.{SaysOfPage}

-- ---- taking points one behind the other

pub gives_none : (a : Option (List Point)) → Gives a [] a
gives_none None = tt
gives_none (Some points) = refl

pub gives_then : (a b c : Option (List Point)) (points : List Point) → Gives a [] b → Gives b points c → Gives a points c
gives_then None b c points one two = tt
gives_then (Some before) None c points one two = absurd one
gives_then (Some before) (Some between) None points one two = absurd two
gives_then (Some before) (Some between) (Some after) points one two = one ∙ two

pub moves_more : (a b : Option (List Point)) (points : List Point) → Gives a points b → Moves a true points b
moves_more None b points gives = tt
moves_more (Some before) None points gives = absurd gives
moves_more (Some before) (Some after) points gives = gives

pub moves_end : (a b : Option (List Point)) → Gives a [] b → IfSome b (λ points. points ≡ []) → Moves a false [] b
moves_end None b gives end = tt
moves_end (Some before) None gives end = absurd gives
moves_end (Some before) (Some after) gives end = (gives ∙ end, end)

-- ---- pages

abbrev pub left_from : Option (List (List Point)) → List Bool → (Point → Bool) → ℕ → Option (List Point)
left_from told flags test next = option_map (λ list. filter test (joined (drop next (left_pages flags list)))) told

-- what is left of a page
got_left : (flags : List Bool) (list : List (List Point)) (n : ℕ) (page : List Point) (passed : Bool) → is_passed flags n ≡ passed → slice_get list n ≡ Some page → slice_get (left_pages flags list) n ≡ Some (cond passed [] page)
got_left [] list n page passed is got = got ∙ ap (λ b. Some (cond b [] page)) is
got_left (flag ∷ flags) [] n page passed is got = absurd cc
got_left (flag ∷ flags) (first ∷ list) zero page passed is got =
    let same : first ≡ page = cc in
    ap (λ b. Some (cond b [] first)) is ∙ ap (λ p. Some (cond passed [] p)) same
got_left (flag ∷ flags) (first ∷ list) (suc n) page passed is got = got_left flags list n page passed is got

length_left : (flags : List Bool) (list : List (List Point)) → length (left_pages flags list) ≡ length list
length_left [] list = refl
length_left (flag ∷ flags) [] = refl
length_left (flag ∷ flags) (first ∷ list) = ap suc (length_left flags list)

one_page : (test : Point → Bool) (list : List (List Point)) (next : ℕ) (page : List Point) → slice_get list next ≡ Some page
    → filter test (joined (drop next list)) ≡ filter test page ++ filter test (joined (drop (suc next) list))
one_page test [] next page e = absurd cc
one_page test (first ∷ list) zero page e =
    let same : first ≡ page = cc in
    filter-append test first (joined list) ∙ ap (λ p. filter test p ++ filter test (joined list)) same
one_page test (first ∷ list) (suc next) page e = one_page test list next page e

pub gives_page : (told : Option (List (List Point))) (flags : List Bool) (test : Point → Bool) (next now : ℕ) (page points : List Point) → is_passed flags next ≡ false → now ≡ next + 1 → points ≡ filter test page → IfSome told (λ list. slice_get list next ≡ Some page)
    → Gives (left_from told flags test next) points (left_from told flags test now)
gives_page None flags test next now page points here one is read = tt
gives_page (Some list) flags test next now page points here one is read =
    let step : now ≡ suc next = omega (arith, one) in
    one_page test (left_pages flags list) next page (got_left flags list next page false here read) ∙ ap (λ ps. ps ++ filter test (joined (drop (suc next) (left_pages flags list)))) (sym is)
    ∙ ap (λ n. points ++ filter test (joined (drop n (left_pages flags list)))) (sym step)

-- a page that is passed over, or whose times do not meet the range, has no point that is left
pub gives_skipped : (told : Option (List (List Point))) (flags : List Bool) (path : List ℕ) (range : Range) (marks : List Mark) (born next now : ℕ) (entry : IndexEntry) (name : NamedFile) (said : PageEntry) → now ≡ next + 1 → next < length entry.pages
    → SaysOfPage entry next said → is_due range (is_passed flags next) said ≡ false → ((list : List (List Point)) → told ≡ Some list → HasEntryPages entry name list)
    → Gives (left_from told flags (is_kept path range marks born) next) [] (left_from told flags (is_kept path range marks born) now)
gives_skipped None flags path range marks born next now entry name said one low says apart truth = tt
gives_skipped (Some list) flags path range marks born next now entry name said one low says apart truth =
    let step : now ≡ suc next = omega (arith, one) in
    let h = truth list refl in
    let count = h.1 in
    let here = there list next (omega (arith, low, count)) in
    let none : kept path range marks born (cond (is_passed flags next) [] here.0) ≡ [] = by here.0 (is_passed flags next) apart (λ e. none_kept path range marks born said.stats here.0 (h.2 next said here.0 says here.1).0 e) in
    one_page (is_kept path range marks born) (left_pages flags list) next (cond (is_passed flags next) [] here.0) (got_left flags list next here.0 (is_passed flags next) refl here.1)
    ∙ ap (λ ps. ps ++ filter (is_kept path range marks born) (joined (drop (suc next) (left_pages flags list)))) none
    ∙ ap (λ n. filter (is_kept path range marks born) (joined (drop n (left_pages flags list)))) (sym step)
  where
    by : (page : List Point) (passed : Bool) → is_due range passed said ≡ false → (overlap range (stats_range said.stats) ≡ false → kept path range marks born page ≡ []) → kept path range marks born (cond passed [] page) ≡ []
    by page true due none = refl
    by page false due none = none due

drop_all : {A : Type 0} (n : ℕ) (xs : List A) → length xs ≤ n → drop n xs ≡ []
drop_all zero [] low = refl
drop_all (suc n) [] low = refl
drop_all zero (x ∷ xs) low = absurd (omega (arith, low))
drop_all (suc n) (x ∷ xs) low = drop_all n xs (omega (arith, low))

-- behind the last page nothing is left
pub none_left : (told : Option (List (List Point))) (flags : List Bool) (test : Point → Bool) (next : ℕ) (entry : IndexEntry) (name : NamedFile) → length entry.pages ≤ next → ((list : List (List Point)) → told ≡ Some list → HasEntryPages entry name list)
    → IfSome (left_from told flags test next) (λ points. points ≡ [])
none_left None flags test next entry name past truth = tt
none_left (Some list) flags test next entry name past truth =
    let h = truth list refl in
    let count = h.1 in
    let long = length_left flags list in
    ap (λ l. filter test (joined l)) (drop_all next (left_pages flags list) (omega (arith, past, count, long)))
