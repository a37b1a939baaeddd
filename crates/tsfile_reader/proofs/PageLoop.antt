-- Reading pages one behind another: what is read so far, and where reading stops.
use Rattle.std.proofs.Common.{◌≡◌, ℕ, ◌+◌, ◌-◌, ◌<◌, ◌≤◌, ◌^◌, List, [], ◌∷◌, ◌++◌, length, get_or, Err, refl, sym, ap, subst, ◌∙◌, arith}
use Rattle.std.specs.Prelude.{◌<ℤ◌, All, Contains}
use Rattle.std.specs.List.{flat_map, AllByRecursion}
use Rattle.std.proofs.lemmas.List.{append-nil, get_or-append-add, length-append}
use Rattle.std.proofs.lemmas.List.Elements.{Contains-get_or, recursion_from_All}
use Rattle.tsdb_base.specs.declared.point.Point.{Point}
use Rattle.tsdb_base.specs.declared.value.DataType.{DataType}
use Rattle.tsdb_base.specs.declared.value.Encoding.{Encoding}
use Rattle.tsdb_base.specs.Plain.{plain_text, BeginsWithNone}
use Rattle.tsdb_fields.specs.declared.fault.FieldFault.{FieldFault}
use Rattle.tsdb_fields.specs.declared.fault.FieldFault.TheVariants as field
use Rattle.tsdb_fields.specs.declared.rest.Rest.{Rest}
use Rattle.tsdb_fields.specs.Reading.{ReadsParts, TakesBytes}
use Rattle.tsdb_fields.proofs.Taken.{takes_both, takes_same}
use Rattle.tsdb_pages.specs.declared.tree.Page.{Page}
use Rattle.tsdb_pages.specs.File.{page_bytes, page_field}
use Rattle.tsdb_base.specs.Limits.{max_pages}
use Rattle.tsdb_base.specs.Points.{IsRising}
use Rattle.tsdb_pages.specs.Pages.{ArePoints, IsInRange}
use Rattle.tsdb_pages.specs.Trees.{page_points}
use Rattle.tsdb_pages.proofs.Files.{IsPageOf, of_each_page}
use Rattle.tsdb_pages.proofs.Order.{pairs_across}
use Rattle.tsfile_reader.specs.declared.fault.ReadFault.{ReadFault}
use Rattle.tsfile_reader.specs.declared.fault.ReadFault.TheVariants as read
use Rattle.tsfile_reader.specs.declared.parts.Pages.{Pages}
use Rattle.tsfile_reader.specs.Answers.{as_read_fault}
use Rattle.tsfile_reader.specs.Page.{AreGood}
use Rattle.tsfile_reader.specs.Parts.{MayFollow, FilePart, page_count, part_field, parts_field}
use Rattle.tsfile_reader.specs.Steps.{AreLaterPoints, ArePagesRead, BeginsWithMark, ReadsOrStops, StopsBehind}
use Rattle.tsdb_pages.proofs.Entries.{count_pages, flat_push}
use Rattle.tsfile_reader.proofs.Later.{end_time}
use Rattle.tsdb_pages.proofs.TreeIndex.{points_few}
use Rattle.tsfile_reader.proofs.Rows.{after_pages, good_pages, last_page, pages_field}

-- these pages are read, and that is left
pub record PagesSoFar (version : ℕ) (t : DataType) (e : Encoding) (rest left : Rest) (found : Pages) : Type 0 where
  pub pages : List Page
  pub read : ArePagesRead version t e rest.at pages found
  pub takes : TakesBytes rest (flat_map (page_field e) pages) left

pub first_so_far : (version : ℕ) (t : DataType) (e : Encoding) (rest left : Rest) (found : Pages) (page : Page) → ArePagesRead version t e rest.at (page ∷ []) found → TakesBytes rest (page_bytes e page.points) left → PagesSoFar version t e rest left found
first_so_far version t e rest left found page read takes = record { pages = page ∷ []; read = read; takes = takes_same rest left (page_field e page) (page_field e page ++ []) (sym (append-nil (page_field e page))) takes }

pub next_so_far : (version : ℕ) (t : DataType) (e : Encoding) (rest left behind : Rest) (old new : Pages) (page : Page) (so_far : PagesSoFar version t e rest left old) → ArePagesRead version t e rest.at (so_far.pages ++ page ∷ []) new → TakesBytes left (page_bytes e page.points) behind → PagesSoFar version t e rest behind new
next_so_far version t e rest left behind old new page so_far read takes = record {
  pages = so_far.pages ++ page ∷ [];
  read = read;
  takes =
      let both = takes_both rest left behind (flat_map (page_field e) so_far.pages) (page_field e page) so_far.takes takes in
      takes_same rest behind (flat_map (page_field e) so_far.pages ++ page_field e page) (flat_map (page_field e) (so_far.pages ++ page ∷ []))
      (sym (flat_push (page_field e) so_far.pages page)) both;
}

pub place_of_next : (version : ℕ) (t : DataType) (e : Encoding) (rest left : Rest) (found : Pages) (so_far : PagesSoFar version t e rest left found) → left.at ≡ rest.at + length (flat_map (page_field e) so_far.pages)
place_of_next version t e rest left found so_far = so_far.takes.place

-- ---- where reading stops

-- the mark of a part
pub other_part : (m n : ℕ) (bytes x y : List ℕ) → (m ≡ n → ⊥) → bytes ≡ m ∷ x → bytes ≡ n ∷ y → ⊥
other_part m n bytes x y different a b =
    let both : m ∷ x ≡ n ∷ y = sym a ∙ b in
    let same : m ≡ n = cc in
    different same

-- behind the head of a chunk stands no page
pub none_first : (t : DataType) (e : Encoding) (left : Rest) → BeginsWithNone (page_bytes e) (AreGood t) left.bytes.now → (m : List ℕ) → StopsBehind (FilePart.Chunk m t e) left left.at
none_first t e left none m = λ before are. record {
  parts = FilePart.Chunk m t e ∷ before;
  good = are;
  text = [];
  grown = sym (append-nil (parts_field (FilePart.Chunk m t e ∷ before)));
  rest = left.bytes.now;
  split = refl;
  place = omega arith;
  next = next_of t e left.bytes.now none m before;
  unfinished = λ nil may. may;
}
  where
    next_of : (t : DataType) (e : Encoding) (bytes : List ℕ) → BeginsWithNone (page_bytes e) (AreGood t) bytes → (m : List ℕ) (before : List FilePart) → (part : FilePart) (behind : List ℕ) → MayFollow (FilePart.Chunk m t e ∷ before) part → bytes ≡ part_field part ++ behind → ⊥
    next_of t e bytes none m before (FilePart.Group device) behind may is = may
    next_of t e bytes none m before (FilePart.Chunk name kind form) behind may is = may
    next_of t e bytes none m before (FilePart.Page kind form points) behind may is =
        none points behind may.2 (is ∙ ap (λ (k : Encoding). page_bytes k points ++ behind) may.1)

-- the last point before has the end as its time, and points of a page that may follow are later
later_points : (version : ℕ) (t : DataType) (pages : List Page) (found : Pages) (front last points : List Point) (rest_count : ℕ) (e : Encoding) (place : ℕ) → ArePagesRead version t e place pages found → page_points pages ≡ front ++ last → 0 < length last
    → 1 + rest_count ≡ length pages → AreGood t points → IsRising (last ++ points) → 1 + rest_count < max_pages → AreLaterPoints t found points
later_points version t pages found front last points rest_count e place read split some count good rising few = record {
  good = good;
  few = let n = count_pages e place pages found.entries.items read.say in omega (arith, n, count, few);
  later = λ first others is.
      let n = length-append front last in
      let m = ap length split in
      let k = length last - 1 in
      let at : length (page_points pages) - 1 ≡ length front + (length last - 1) = omega (arith, n, m, some) in
      let end = end_time (page_points pages) found.stats first (omega (arith, n, m, some)) read.stats in
      let there : get_or (page_points pages) (length (page_points pages) - 1) first ≡ get_or last (length last - 1) first =
      ap (λ (i : ℕ). get_or (page_points pages) i first) at ∙ ap (λ (l : List Point). get_or l (length front + (length last - 1)) first) split ∙ get_or-append-add front last k first in
      let less : (get_or last (length last - 1) first).time <ℤ first.time =
      pairs_across (λ (a b : Point). a.time <ℤ b.time) last points (get_or last (length last - 1) first) first rising (Contains-get_or last k first (omega (arith, some))) (subst (λ (l : List Point). Contains l first) (sym is) (0, omega arith, refl)) in
      subst (λ time. time <ℤ first.time) (sym (ap (λ (p : Point). p.time) there) ∙ end) less;
}

some_each : (t : DataType) (pages : List Page) → AllByRecursion (IsPageOf t) pages → AllByRecursion (λ (p : Page). 0 < length p.points) pages
some_each t [] good = tt
some_each t (p ∷ ps) good = (good.0.0.some, some_each t ps good.1)

-- behind pages stands no later one
pub none_later : (version : ℕ) (t : DataType) (e : Encoding) (rest left : Rest) (found : Pages) → PagesSoFar version t e rest left found → BeginsWithMark 80 left.bytes.now → BeginsWithNone (page_bytes e) (AreLaterPoints t found) left.bytes.now → (m : List ℕ) → StopsBehind (FilePart.Chunk m t e) rest left.at
none_later version t e rest left found so_far mark none m = λ before are.
    let pages = so_far.pages in
    let r = so_far.read in
    let each : AllByRecursion (λ (p : Page). All IsInRange p.points) so_far.pages = of_each_page so_far.pages r.ranges in
    let good : AllByRecursion (IsPageOf t) so_far.pages = both_of t so_far.pages (recursion_from_All (λ (p : Page). ArePoints t p.points) so_far.pages r.good) each in
    record {
      parts = after_pages t e pages (FilePart.Chunk m t e ∷ before);
      good = good_pages t e m pages before are good r.rising r.few;
      text = flat_map (page_field e) pages;
      grown = pages_field t e pages (FilePart.Chunk m t e ∷ before);
      rest = left.bytes.now;
      split = so_far.takes.bytes;
      place = so_far.takes.place;
      next =
          let l = last_page t e pages (FilePart.Chunk m t e ∷ before) r.some in
          let some : 0 < length l.last.points = l.some (some_each t pages good) in
          λ part behind may is.
          next_of t e rest.at pages found l.front l.last.points l.rest left.bytes.now mark none r l.points some (let n = l.count in omega (arith, n)) part behind (subst (λ (ps : List FilePart). MayFollow ps part) l.is may) is;
      unfinished = λ nil may. no_mark left.bytes.now mark nil;
    }
  where
    no_mark : (bytes : List ℕ) → BeginsWithMark 80 bytes → bytes ≡ [] → ⊥
    no_mark bytes mark nil = let both : 80 ∷ mark.0 ≡ [] = sym mark.1 ∙ nil in absurd cc

    both_of : (t : DataType) (pages : List Page) → AllByRecursion (λ (p : Page). ArePoints t p.points) pages → AllByRecursion (λ (p : Page). All IsInRange p.points) pages → AllByRecursion (IsPageOf t) pages
    both_of t [] a b = tt
    both_of t (p ∷ ps) a b = ((a.0, b.0), both_of t ps a.1 b.1)

    next_of : (t : DataType) (e : Encoding) (place : ℕ) (pages : List Page) (found : Pages) (front last : List Point) (rest : List FilePart) (bytes : List ℕ) → BeginsWithMark 80 bytes → BeginsWithNone (page_bytes e) (AreLaterPoints t found) bytes
        → ArePagesRead version t e place pages found → page_points pages ≡ front ++ last → 0 < length last → 1 + page_count rest ≡ length pages
        → (part : FilePart) (behind : List ℕ) → MayFollow (FilePart.Page t e last ∷ rest) part → bytes ≡ part_field part ++ behind → ⊥
    next_of t e place pages found front last rest bytes mark none read split some count (FilePart.Group device) behind may is = other_part 80 71 bytes mark.0 (plain_text device ++ behind) (λ same. absurd (omega (arith, same))) mark.1 is
    next_of t e place pages found front last rest bytes mark none read split some count (FilePart.Chunk name kind form) behind may is = other_part 80 67 bytes mark.0 _ (λ same. absurd (omega (arith, same))) mark.1 is
    next_of t e place pages found front last rest bytes mark none read split some count (FilePart.Page kind form points) behind may is =
        none points behind (later_points version t pages found front last points (page_count rest) e place read split some count may.2 may.3 may.4) (is ∙ ap (λ (k : Encoding). page_bytes k points ++ behind) may.1)

-- a part that cannot be read, where reading then stops
pub stop : {A B T : Type 0} (spelling : A → List ℕ) (IsIt : A → Type 0) (left : Rest) (view : B → A) (fault : FieldFault) (answer : ReadFault) (at : ℕ) (Is : T → Type 0) (Stop : ℕ → Type 0)
    → ReadsParts spelling IsIt left view (Err fault) → answer ≡ as_read_fault at fault → (BeginsWithNone spelling IsIt left.bytes.now → Stop at) → ReadsOrStops Is Stop (Err answer)
stop spelling IsIt left view (field.Bad place) answer at Is Stop none answer_is stops = rw answer_is (stops none)
stop spelling IsIt left view field.Memory answer at Is Stop none answer_is stops = rw answer_is tt

-- a stop that is passed on
pub pass_stop : {T S : Type 0} (Was : T → Type 0) (Is : S → Type 0) (Stopped Stop : ℕ → Type 0) (fault : ReadFault) → ReadsOrStops Was Stopped (Err fault) → ((at : ℕ) → Stopped at → Stop at) → ReadsOrStops Is Stop (Err fault)
pass_stop Was Is Stopped Stop read.Failed was step = was
pass_stop Was Is Stopped Stop (read.Damaged at) was step = step at was
pass_stop Was Is Stopped Stop read.Memory was step = tt
