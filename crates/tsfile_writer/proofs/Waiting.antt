-- What a builder has before and after each step.
use Rattle.std.proofs.Common.{◌≡◌, ℕ, ◌+◌, ◌-◌, ◌<◌, ◌≤◌, Bool, true, false, not, Ok, Err, take, List, [], ◌∷◌, ◌++◌, length, get_or, refl, sym, ap, ◌∙◌, subst, append_assoc, arith}
use Rattle.std.specs.Prelude.{◌<ℤ◌, ◌↔◌, All, IfOk, IsTrue, OnOk, Option, None, Result, Some}
use Rattle.std.proofs.lemmas.Bool.{false≢true}
use Rattle.std.proofs.lemmas.List.{append-nil, get_or_append_left, length-append, take_all, take_more}
use Rattle.std.proofs.lemmas.List.Elements.{All-append, All-head, All-nil, All-push, Contains-get_or}
use Rattle.tsdb_base.specs.declared.point.Point.{Point}
use Rattle.tsdb_base.specs.declared.value.DataType.{DataType}
use Rattle.tsdb_base.specs.declared.value.Encoding.{Encoding}
use Rattle.tsdb_base.specs.Limits.{max_pages, max_values}
use Rattle.tsdb_base.specs.Values.{type_of}
use Rattle.tsdb_path.specs.Nodes.{device_of, measurement_of}
use Rattle.tsdb_index.specs.declared.index.IndexEntry.{IndexEntry}
use Rattle.tsdb_pages.specs.declared.tree.Page.{Page}
use Rattle.tsdb_pages.specs.declared.tree.Chunk.{Chunk}
use Rattle.tsdb_pages.specs.declared.tree.Group.{Group}
use Rattle.tsdb_pages.specs.File.{chunk_start, page_bytes}
use Rattle.tsdb_base.specs.Points.{IsRising}
use Rattle.tsdb_pages.specs.Pages.{ArePoints, IsInRange}
use Rattle.tsdb_pages.specs.Trees.{page_points}
use Rattle.tsdb_pages.proofs.Order.{pairs_across, pairs_behind, pairs_push, rises}
use Rattle.tsfile_writer.specs.declared.layout.OpenChunk.{OpenChunk}
use Rattle.tsfile_writer.specs.BuilderInput.{IsMadeSeries, MayTake, GivenSeries, with_last_point}
use Rattle.tsfile_writer.specs.Steps.{AreChunks, ArePages, HasOpenSums, IsChunkBegun, start_if}
use Rattle.tsfile_writer.specs.Building.{BeginsGroup, BuildState, IsOpenOf, IsStarted, PutsIn, SameIfAny, StandInChunk}
use Rattle.tsdb_pages.proofs.Entries.{count_pages, flat_push}
use Rattle.tsfile_writer.proofs.Appending.{chunk_begun, page_added, same_pages}
use Rattle.tsfile_writer.proofs.Grouping.{all_behind, same_ends}

-- ---- a page is put

some_pages : (pages : List Page) (page : Page) → 0 < length (pages ++ page ∷ [])
some_pages pages page =
    let n = length-append pages (page ∷ []) in
    omega (arith, n)

pub put_stands : (groups : List Group) (chunks : List Chunk) (pages : List Page) (page : Page) (path : List ℕ) (data_type : DataType) (encoding : Encoding) (points : List Point) (old new : List ℕ) (entries : List IndexEntry) (before after : Option OpenChunk)
    → page.points ≡ points → StandInChunk groups chunks pages old entries path data_type encoding before → PutsIn path data_type encoding points entries old new before after
    → StandInChunk groups chunks (pages ++ page ∷ []) new entries path data_type encoding after
put_stands groups chunks pages page path data_type encoding points old new entries None None same stand puts = absurd puts
put_stands groups chunks pages page path data_type encoding points old new entries (Some b) None same stand puts = absurd puts
put_stands groups chunks pages page path data_type encoding points old new entries None (Some c) same stand puts = (
  some_pages pages page,
  subst (λ (ps : List Page). ArePages groups (device_of path) chunks (measurement_of path) data_type encoding (ps ++ page ∷ []) new entries c) (sym stand.0)
      (chunk_begun groups (device_of path) chunks (measurement_of path) data_type encoding page points (old ++ start_if puts.begins (device_of path)) new entries c (stand.1 puts.begins puts.test) same puts.bytes_are puts.is puts.sums),
)
put_stands groups chunks pages page path data_type encoding points old new entries (Some b) (Some c) same stand puts = (
  some_pages pages page,
  page_added groups (device_of path) chunks (measurement_of path) data_type encoding pages page points old new entries b c stand.1 same puts.bytes_are puts.is puts.sums,
)

pub put_few : (groups : List Group) (chunks : List Chunk) (pages : List Page) (page : Page) (path : List ℕ) (data_type : DataType) (encoding : Encoding) (points : List Point) (old new : List ℕ) (entries : List IndexEntry) (before after : Option OpenChunk)
    → page.points ≡ points → StandInChunk groups chunks pages old entries path data_type encoding before → PutsIn path data_type encoding points entries old new before after
    → length (pages ++ page ∷ []) ≤ max_pages
put_few groups chunks pages page path data_type encoding points old new entries None None same stand puts = absurd puts
put_few groups chunks pages page path data_type encoding points old new entries (Some b) None same stand puts = absurd puts
put_few groups chunks pages page path data_type encoding points old new entries None (Some c) same stand puts =
    let one : length (pages ++ page ∷ []) ≡ 1 = ap (λ (ps : List Page). length (ps ++ page ∷ [])) stand.0 in
    omega (arith, one)
put_few groups chunks pages page path data_type encoding points old new entries (Some b) (Some c) same stand puts =
    let layout = page_added groups (device_of path) chunks (measurement_of path) data_type encoding pages page points old new entries b c stand.1 same puts.bytes_are puts.is puts.sums in
    let n = count_pages encoding (length layout.bytes_before + length (chunk_start (measurement_of path) data_type encoding)) (pages ++ page ∷ []) c.pages.items layout.is.say in
    subst (λ k. k ≤ max_pages) n puts.is.few

-- ---- nothing has changed but room

same_stands : (groups : List Group) (chunks : List Chunk) (pages : List Page) (path : List ℕ) (data_type : DataType) (encoding : Encoding) (old new : List ℕ) (entries : List IndexEntry) (before after : Option OpenChunk)
    → StandInChunk groups chunks pages old entries path data_type encoding before → new ≡ old → SameIfAny before after → StandInChunk groups chunks pages new entries path data_type encoding after
same_stands groups chunks pages path data_type encoding old new entries None None stand same same_chunk =
    (stand.0, λ begins test. subst (λ (l : List ℕ). AreChunks groups (device_of path) chunks (l ++ start_if begins (device_of path)) entries) (sym same) (stand.1 begins test))
same_stands groups chunks pages path data_type encoding old new entries None (Some c) stand same same_chunk = absurd same_chunk
same_stands groups chunks pages path data_type encoding old new entries (Some b) None stand same same_chunk = absurd same_chunk
same_stands groups chunks pages path data_type encoding old new entries (Some b) (Some c) stand same same_chunk =
    (stand.0, same_pages groups (device_of path) chunks (measurement_of path) data_type encoding pages old new entries b c stand.1 same same_chunk)

-- the same, said of equal things
pub state_at : (given : List GivenSeries) (bytes : List ℕ) (entries : List IndexEntry) (path path' : List ℕ) (data_type type' : DataType) (encoding encoding' : Encoding) (chunk : Option OpenChunk) (points points' : List Point)
    → BuildState given bytes entries path data_type encoding chunk points → path' ≡ path → type' ≡ data_type → encoding' ≡ encoding → points' ≡ points → BuildState given bytes entries path' type' encoding' chunk points'
state_at given bytes entries path path' data_type type' encoding encoding' chunk points points' state same_path same_type same_encoding same_points =
    subst (λ (l : List ℕ). BuildState given bytes entries l type' encoding' chunk points') (sym same_path)
    (subst (λ (t : DataType). BuildState given bytes entries path t encoding' chunk points') (sym same_type)
    (subst (λ (e : Encoding). BuildState given bytes entries path data_type e chunk points') (sym same_encoding)
    (subst (λ (ps : List Point). BuildState given bytes entries path data_type encoding chunk ps) (sym same_points) state)))

pub state_as : (given : List GivenSeries) (old new : List ℕ) (entries : List IndexEntry) (path path' : List ℕ) (data_type type' : DataType) (encoding encoding' : Encoding) (before after : Option OpenChunk) (points points' : List Point)
    → BuildState given old entries path data_type encoding before points → new ≡ old → path' ≡ path → type' ≡ data_type → encoding' ≡ encoding → points' ≡ points → SameIfAny before after
    → BuildState given new entries path' type' encoding' after points'
state_as given old new entries path path' data_type type' encoding encoding' before after points points' state same same_path same_type same_encoding same_points same_chunk =
    state_at given new entries path path' data_type type' encoding encoding' after points points'
    (record {
      front = state.front;
      last = state.last;
      all = state.all;
      pages = state.pages;
      is = state.is;
      groups = state.groups;
      chunks = state.chunks;
      grouped = state.grouped;
      chunks_before = state.chunks_before;
      few = state.few;
      stand = same_stands state.groups state.chunks state.pages path data_type encoding old new entries before after state.stand same same_chunk;
      made = state.made;
    })
    same_path same_type same_encoding same_points

-- where the last series has a point, one waits
pub some_wait : (front : List GivenSeries) (last : GivenSeries) (bytes : List ℕ) (entries : List IndexEntry) (path : List ℕ) (data_type : DataType) (encoding : Encoding) (chunk : Option OpenChunk) (points : List Point)
    → BuildState (front ++ last ∷ []) bytes entries path data_type encoding chunk points → 0 < length last.points → 0 < length points
some_wait front last bytes entries path data_type encoding chunk [] state some =
    let same : last ≡ state.last = (same_ends front state.front last state.last state.all).1 in
    let none : last.points ≡ [] = ap (λ (s : GivenSeries). s.points) same ∙ state.is.points_are ∙ append-nil (page_points state.pages) ∙ ap page_points (state.is.ahead refl) in
    let n : length last.points ≡ 0 = ap length none in
    absurd (omega (arith, n, some))
some_wait front last bytes entries path data_type encoding chunk (p ∷ ps) state some = omega arith

-- a chunk with its first page, from what the call that appends it says
pub started : {E : Type 0} (result : Result OpenChunk E) (path : List ℕ) (data_type : DataType) (encoding : Encoding) (points : List Point) (entries : List IndexEntry) (old middle new : List ℕ) (begins : Bool) (device measurement : List ℕ) (seen : List Point)
    → device ≡ device_of path → measurement ≡ measurement_of path → seen ≡ points → BeginsGroup entries device begins → middle ≡ old ++ start_if begins device
    → OnOk result (new ≡ middle ++ (chunk_start measurement data_type encoding ++ page_bytes encoding seen)) → IfOk result (IsChunkBegun (length middle) (length (chunk_start measurement data_type encoding)) seen)
    → IfOk result (HasOpenSums data_type) → IfOk result (IsStarted path data_type encoding points entries old new)
started (Err e) path data_type encoding points entries old middle new begins device measurement seen same_device same_measurement same_points test first bytes is sums = is
started (Ok chunk) path data_type encoding points entries old middle new begins device measurement seen same_device same_measurement same_points test first bytes is sums =
    let place : middle ≡ old ++ start_if begins (device_of path) = first ∙ ap (λ (d : List ℕ). old ++ start_if begins d) same_device in
    record {
      begins = begins;
      test = subst (λ (d : List ℕ). BeginsGroup entries d begins) same_device test;
      bytes_are = bytes ∙ ap (λ (l : List ℕ). l ++ (chunk_start measurement data_type encoding ++ page_bytes encoding seen)) place
          ∙ ap (λ (m : List ℕ). old ++ start_if begins (device_of path) ++ (chunk_start m data_type encoding ++ page_bytes encoding seen)) same_measurement
          ∙ ap (λ (ps : List Point). old ++ start_if begins (device_of path) ++ (chunk_start (measurement_of path) data_type encoding ++ page_bytes encoding ps)) same_points;
      is = subst (λ (l : List ℕ). IsChunkBegun (length l) (length (chunk_start (measurement_of path) data_type encoding)) points chunk) place
          (subst (λ (m : List ℕ). IsChunkBegun (length middle) (length (chunk_start m data_type encoding)) points chunk) same_measurement
          (subst (λ (ps : List Point). IsChunkBegun (length middle) (length (chunk_start measurement data_type encoding)) ps chunk) same_points is));
      sums = sums;
    }

-- whether the last entry is of another device
pub begins_by : (entries : List IndexEntry) (entry : IndexEntry) (device : List ℕ) (same : Bool) → 0 < length entries → entry ≡ get_or entries (length entries - 1) entry → IsTrue same ↔ (entry.device ≡ device) → BeginsGroup entries device (not same)
begins_by entries entry device same some is tells =
    let whole : take (length entries - 1 + 1) entries ≡ entries = take_all (length entries - 1 + 1) entries (omega arith) in
    let ends : entries ≡ take (length entries - 1) entries ++ entry ∷ [] = sym whole ∙ take_more entries (length entries - 1) entry (omega (arith, some)) ∙ ap (λ (e : IndexEntry). take (length entries - 1) entries ++ e ∷ []) (sym is) in
    cases same tells ends
  where
    cases : (same : Bool) → IsTrue same ↔ (entry.device ≡ device) → entries ≡ take (length entries - 1) entries ++ entry ∷ [] → BeginsGroup entries device (not same)
    cases true tells ends = (take (length entries - 1) entries, entry, ends, tells.0 refl)
    cases false tells ends = λ front last split equal.
        let one : entry ≡ last = (same_ends (take (length entries - 1) entries) front entry last (sym ends ∙ split)).1 in
        false≢true (tells.1 (ap (λ (e : IndexEntry). e.device) one ∙ equal))

-- ---- a point more

-- what a point that the last series may take is to the points that wait
pub record Suits (data_type : DataType) (points : List Point) (point : Point) : Type 0 where
  pub typed : type_of point.value ≡ data_type
  pub later : All (λ before. before.time <ℤ point.time) points
  pub in_range : IsInRange point

pub point_suits : (front : List GivenSeries) (last : GivenSeries) (bytes : List ℕ) (entries : List IndexEntry) (path : List ℕ) (data_type : DataType) (encoding : Encoding) (chunk : Option OpenChunk) (points : List Point) (point : Point)
    → BuildState (front ++ last ∷ []) bytes entries path data_type encoding chunk points → MayTake point last → IsInRange point → Suits data_type points point
point_suits front last bytes entries path data_type encoding chunk points point state may in_range =
    let same : last ≡ state.last = (same_ends front state.front last state.last state.all).1 in
    let all : last.points ≡ page_points state.pages ++ points = ap (λ (s : GivenSeries). s.points) same ∙ state.is.points_are in
    record {
      typed = may.typed ∙ ap (λ (s : GivenSeries). s.data_type) same ∙ state.is.type_is;
      later = all_behind (λ (p : Point). p.time <ℤ point.time) (page_points state.pages) points (subst (λ (ps : List Point). All (λ (p : Point). p.time <ℤ point.time) ps) all may.later);
      in_range = in_range;
    }

-- a point later than the last points is later than all
later_than_all : (before points : List Point) (point : Point) → IsRising (before ++ points) → All (λ (p : Point). p.time <ℤ point.time) points → (points ≡ [] → before ≡ []) → All (λ (p : Point). p.time <ℤ point.time) (before ++ points)
later_than_all before [] point rising later ahead =
    let none : before ++ [] ≡ [] = append-nil before ∙ ahead refl in
    subst (λ (ps : List Point). All (λ (p : Point). p.time <ℤ point.time) ps) (sym none) (All-nil (λ (p : Point). p.time <ℤ point.time))
later_than_all before (y ∷ ys) point rising later ahead =
    All-append (λ (p : Point). p.time <ℤ point.time) before (y ∷ ys)
    (λ k d lt. rises (get_or before k d) y point
    (pairs_across (λ (a b : Point). a.time <ℤ b.time) before (y ∷ ys) (get_or before k d) y rising (Contains-get_or before k d lt) (Contains-get_or (y ∷ ys) 0 y (omega arith)))
    (All-head (λ (p : Point). p.time <ℤ point.time) y ys later))
    later

rising_more : (series : GivenSeries) (pages : List Page) (path : List ℕ) (data_type : DataType) (encoding : Encoding) (points : List Point) (point : Point) → IsOpenOf series pages path data_type encoding points → Suits data_type points point → IsRising (series.points ++ point ∷ [])
rising_more series pages path data_type encoding points point is suits =
    let whole : IsRising (page_points pages ++ points) = subst IsRising is.points_are is.rising in
    let later = later_than_all (page_points pages) points point whole suits.later (λ none. ap page_points (is.ahead none)) in
    pairs_push (λ (a b : Point). a.time <ℤ b.time) series.points point is.rising (subst (λ (ps : List Point). All (λ (p : Point). p.time <ℤ point.time) ps) (sym is.points_are) later)

given_more : (front : List GivenSeries) (last : GivenSeries) (front' : List GivenSeries) (last' : GivenSeries) (point : Point) → front ++ last ∷ [] ≡ front' ++ last' ∷ [] → front ++ with_last_point point last ∷ [] ≡ front' ++ with_last_point point last' ∷ []
given_more front last front' last' point same =
    let ends = same_ends front front' last last' same in
    ap (λ (s : GivenSeries). front ++ with_last_point point s ∷ []) ends.1 ∙ ap (λ (l : List GivenSeries). l ++ with_last_point point last' ∷ []) ends.0

-- each series is still as its types say
made_more : (front : List GivenSeries) (last : GivenSeries) (point : Point) → All IsMadeSeries (front ++ last ∷ []) → IsInRange point → All IsMadeSeries (front ++ with_last_point point last ∷ [])
made_more front last point all in_range =
    let n : length (front ++ last ∷ []) ≡ length front + 1 = length-append front (last ∷ []) in
    let before : All IsMadeSeries front = λ k d lt. subst IsMadeSeries (get_or_append_left front (last ∷ []) d k lt) (all k d (omega (arith, lt, n))) in
    let here : IsMadeSeries last = All-head IsMadeSeries last [] (all_behind IsMadeSeries front (last ∷ []) all) in
    All-push IsMadeSeries front (with_last_point point last) before (record {
      device = here.device;
      measurement = here.measurement;
      points = All-push IsInRange last.points point here.points in_range;
    })

-- the point waits with the others
pub point_waits : (front : List GivenSeries) (last : GivenSeries) (bytes : List ℕ) (entries : List IndexEntry) (path : List ℕ) (data_type : DataType) (encoding : Encoding) (chunk : Option OpenChunk) (points : List Point) (point : Point)
    → BuildState (front ++ last ∷ []) bytes entries path data_type encoding chunk points → Suits data_type points point → length points < max_values
    → BuildState (front ++ with_last_point point last ∷ []) bytes entries path data_type encoding chunk (points ++ point ∷ [])
point_waits front last bytes entries path data_type encoding chunk points point state suits room =
    let n : length (points ++ point ∷ []) ≡ length points + 1 = length-append points (point ∷ []) in
    record {
      front = state.front;
      last = with_last_point point state.last;
      all = given_more front last state.front state.last point state.all;
      pages = state.pages;
      is = record {
        nodes = state.is.nodes;
        device_is = state.is.device_is;
        measurement_is = state.is.measurement_is;
        type_is = state.is.type_is;
        encoding_is = state.is.encoding_is;
        suits = state.is.suits;
        points_are = ap (λ (ps : List Point). ps ++ point ∷ []) state.is.points_are ∙ append_assoc (page_points state.pages) points (point ∷ []);
        full = state.is.full;
        good = state.is.good;
        few_pages = state.is.few_pages;
        few = omega (arith, room, n);
        typed = All-push (λ (p : Point). type_of p.value ≡ data_type) points point state.is.typed suits.typed;
        rising = rising_more state.last state.pages path data_type encoding points point state.is suits;
        ahead = λ none. let m : length (points ++ point ∷ []) ≡ 0 = ap length none in absurd (omega (arith, n, m));
      };
      groups = state.groups;
      chunks = state.chunks;
      grouped = state.grouped;
      chunks_before = state.chunks_before;
      few = state.few;
      stand = state.stand;
      made = made_more front last point state.made suits.in_range;
    }

pub are_points : (series : GivenSeries) (pages : List Page) (path : List ℕ) (data_type : DataType) (encoding : Encoding) (points : List Point) → IsOpenOf series pages path data_type encoding points → 0 < length points → ArePoints data_type points
are_points series pages path data_type encoding points is some = record {
  some = some;
  few = is.few;
  typed = is.typed;
  rising = pairs_behind (λ (a b : Point). a.time <ℤ b.time) (page_points pages) points (subst IsRising is.points_are is.rising);
}

-- the points that waited stand as a page, and the point waits alone
pub page_turned : (front : List GivenSeries) (last : GivenSeries) (page : Page) (old new : List ℕ) (entries : List IndexEntry) (path : List ℕ) (data_type : DataType) (encoding : Encoding) (before after : Option OpenChunk) (points : List Point) (point : Point)
    → BuildState (front ++ last ∷ []) old entries path data_type encoding before points → Suits data_type points point → length points ≡ max_values → page.points ≡ points → PutsIn path data_type encoding points entries old new before after
    → BuildState (front ++ with_last_point point last ∷ []) new entries path data_type encoding after (point ∷ [])
page_turned front last page old new entries path data_type encoding before after points point state suits size same puts =
    let good : ArePoints data_type page.points = subst (ArePoints data_type) (sym same) (are_points state.last state.pages path data_type encoding points state.is (omega (arith, size))) in
    let moved : page_points (state.pages ++ page ∷ []) ≡ page_points state.pages ++ points = flat_push (λ (p : Page). p.points) state.pages page ∙ ap (λ (ps : List Point). page_points state.pages ++ ps) same in
    record {
      front = state.front;
      last = with_last_point point state.last;
      all = given_more front last state.front state.last point state.all;
      pages = state.pages ++ page ∷ [];
      is = record {
        nodes = state.is.nodes;
        device_is = state.is.device_is;
        measurement_is = state.is.measurement_is;
        type_is = state.is.type_is;
        encoding_is = state.is.encoding_is;
        suits = state.is.suits;
        points_are = ap (λ (ps : List Point). ps ++ point ∷ []) (state.is.points_are ∙ sym moved);
        full = All-push (λ (p : Page). length p.points ≡ max_values) state.pages page state.is.full (ap length same ∙ size);
        good = All-push (λ (p : Page). ArePoints data_type p.points) state.pages page state.is.good good;
        few_pages = put_few state.groups state.chunks state.pages page path data_type encoding points old new entries before after same state.stand puts;
        few = omega arith;
        typed = All-push (λ (p : Point). type_of p.value ≡ data_type) [] point (All-nil (λ (p : Point). type_of p.value ≡ data_type)) suits.typed;
        rising = rising_more state.last state.pages path data_type encoding points point state.is suits;
        ahead = λ none. let m : length (point ∷ []) ≡ 0 = ap length none in absurd (omega (arith, m));
      };
      groups = state.groups;
      chunks = state.chunks;
      grouped = state.grouped;
      chunks_before = state.chunks_before;
      few = state.few;
      stand = put_stands state.groups state.chunks state.pages page path data_type encoding points old new entries before after same state.stand puts;
      made = made_more front last point state.made suits.in_range;
    }
