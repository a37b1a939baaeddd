-- A part that may stand behind others of its kind.
use Rattle.std.proofs.Common.{◌≡◌, ℕ, zero, suc, ◌+◌, ◌-◌, ◌<◌, Bool, true, false, List, [], ◌∷◌, ◌++◌, length, get_or, refl, sym, ap, subst, ◌∙◌, arith}
use Rattle.std.specs.Prelude.{ℤ, ◌<ℤ◌, ◌≤ℤ◌, ◌&&◌, All, None, Option, if◌then◌else◌, is_some}
use Rattle.std.specs.List.{flat_map, AllByRecursion}
use Rattle.std.proofs.lemmas.Int.{ints}
use Rattle.std.proofs.lemmas.List.{append-nil, length-append}
use Rattle.std.proofs.lemmas.List.Elements.{All-append, All-cons, All-nil, All-push, recursion_from_All}
use Rattle.tsdb_base.specs.declared.point.Point.{Point}
use Rattle.tsdb_base.specs.declared.point.Stats.{Stats}
use Rattle.tsdb_base.specs.declared.value.DataType.{DataType}
use Rattle.tsdb_base.specs.declared.value.Encoding.{Encoding}
use Rattle.tsdb_base.specs.declared.value.Value.TheVariants.{I64}
use Rattle.tsdb_base.specs.Plain.{plain_text, BeginsWithNone}
use Rattle.tsdb_base.specs.PlainLaws.{plain_text-prefix_free}
use Rattle.tsdb_base.specs.Values.{is_suitable}
use Rattle.tsdb_base.specs.Fields.{number32, type_field, encoding_field}
use Rattle.tsdb_index.specs.declared.index.PageEntry.{PageEntry}
use Rattle.tsdb_path.specs.Nodes.{IsPath}
use Rattle.tsdb_pages.specs.declared.tree.Page.{Page}
use Rattle.tsdb_pages.specs.File.{ArePageEntries, HasSum, page_bytes, page_field}
use Rattle.tsdb_base.specs.Limits.{max_pages}
use Rattle.tsdb_base.specs.Points.{IsRising}
use Rattle.tsdb_pages.specs.Pages.{ArePoints, IsInRange, body}
use Rattle.tsdb_pages.specs.Trees.{IsBefore, page_points}
use Rattle.tsdb_pages.proofs.Bodies.{body_is_short, one_body, parts_same}
use Rattle.tsdb_pages.proofs.Order.{at_least_first, at_most_last, pairs_append}
use Rattle.tsdb_stats.specs.Statistics.{AreStatsOf}
use Rattle.tsfile_reader.specs.declared.page.ChunkHead.{ChunkHead}
use Rattle.tsfile_reader.specs.declared.parts.Pages.{Pages}
use Rattle.tsfile_reader.specs.Page.{AreGood}
use Rattle.tsfile_reader.specs.Parts.{FilePart, part_field}
use Rattle.tsfile_reader.specs.Steps.{AreLaterPoints, ArePagesRead, IsChunkHead, IsLaterHead, chunk_part}
use Rattle.tsdb_index.specs.Statistics.{is_numeric}
use Rattle.tsdb_index.specs.Versions.{has_sums}
use Rattle.tsdb_stats.specs.Folds.{sum_of}
use Rattle.tsdb_pages.proofs.Statistics.{last_gives, sum_there}
use Rattle.tsdb_pages.proofs.Entries.{count_pages, flat_push, pages_push}
use Rattle.tsfile_reader.proofs.Heads.{chunk_apart, short_name, short_path, tail_same}

abbrev pub group_bytes : List ℕ → List ℕ
group_bytes device = part_field (FilePart.Group device)

pub no_later_group : (bytes behind d last : List ℕ) → bytes ≡ group_bytes d ++ behind → IsPath d → (IsBefore last d → ⊥) → BeginsWithNone group_bytes (λ x. IsPath x × IsBefore last x) bytes
no_later_group bytes behind d last found is not = λ x y later e.
    let same : d ≡ x = (plain_text-prefix_free d x behind y (short_path d is) (short_path x later.0) (tail_same 71 (plain_text d ++ behind) (plain_text x ++ y) (sym found ∙ e))).0 in
    not (subst (λ q. IsBefore last q) (sym same) later.1)

abbrev pub head_bytes : ChunkHead → List ℕ
head_bytes h = part_field (chunk_part h)

pub no_later_head : (bytes behind last : List ℕ) (h : ChunkHead) → bytes ≡ head_bytes h ++ behind → IsChunkHead h → (IsBefore last h.measurement → ⊥) → BeginsWithNone head_bytes (IsLaterHead last) bytes
no_later_head bytes behind last h found is not = λ x y later e.
    let front_h = type_field h.data_type ++ (encoding_field h.encoding ++ behind) in
    let front_x = type_field x.data_type ++ (encoding_field x.encoding ++ y) in
    let both : 67 ∷ (plain_text h.measurement ++ (type_field h.data_type ++ (encoding_field h.encoding ++ behind))) ≡ 67 ∷ (plain_text x.measurement ++ (type_field x.data_type ++ (encoding_field x.encoding ++ y))) =
    sym (chunk_apart h.measurement h.data_type h.encoding behind) ∙ sym found ∙ e ∙ chunk_apart x.measurement x.data_type x.encoding y in
    let same : h.measurement ≡ x.measurement = (plain_text-prefix_free h.measurement x.measurement front_h front_x (short_name h.measurement is.0) (short_name x.measurement later.0.0) (tail_same 67 (plain_text h.measurement ++ front_h) (plain_text x.measurement ++ front_x) both)).0 in
    not (subst (λ q. IsBefore last q) (sym same) later.1)

-- two pages that begin the same bytes have the same points
pub one_page_first : (t : DataType) (e : Encoding) (suits : is_suitable t e ≡ true) (xs ys : List Point) (x y : List ℕ) → AreGood t xs → AreGood t ys → page_bytes e xs ++ x ≡ page_bytes e ys ++ y → xs ≡ ys
one_page_first t e suits xs ys x y in_x in_y same =
    let inner : number32 (length (body e xs)) ++ body e xs ++ x ≡ number32 (length (body e ys)) ++ body e ys ++ y =
    tail_same 80 (number32 (length (body e xs)) ++ body e xs ++ x) (number32 (length (body e ys)) ++ body e ys ++ y) same in
    let bodies = parts_same (body e xs) (body e ys) x y (body_is_short t e suits xs in_x.0 in_x.1) (body_is_short t e suits ys in_y.0 in_y.1) inner in
    one_body t e suits (body e ys) xs ys (record { suits = suits; points_are = in_x.0; ranges = in_x.1; bytes_are = sym bodies.0 }) (record { suits = suits; points_are = in_y.0; ranges = in_y.1; bytes_are = refl })

pub first_of : (points : List Point) (p : Point) → 0 < length points → p ≡ get_or points 0 p → (others : List Point) × (points ≡ p ∷ others)
first_of [] p some is = absurd (omega (arith, some))
first_of (q ∷ qs) p some is = (qs, ap (λ (r : Point). r ∷ qs) (sym is))

-- a page that does not stand behind these pages
pub no_later_page : (t : DataType) (e : Encoding) (suits : is_suitable t e ≡ true) (bytes behind : List ℕ) (points : List Point) (before : Pages) → bytes ≡ page_bytes e points ++ behind → AreGood t points
    → (length before.entries.items < max_pages → ((first : Point) (others : List Point) → points ≡ first ∷ others → before.stats.end <ℤ first.time) → ⊥) → BeginsWithNone (page_bytes e) (AreLaterPoints t before) bytes
no_later_page t e suits bytes behind points before found good not = λ xs y later same.
    let one : points ≡ xs = one_page_first t e suits points xs behind y good later.good (sym found ∙ same) in
    not later.few (λ first others is. later.later first others (sym one ∙ is))

-- ---- one page more

pub points_more : (pages : List Page) (page : Page) → page_points (pages ++ page ∷ []) ≡ page_points pages ++ page.points
points_more pages page = flat_push (λ (p : Page). p.points) pages page

-- the end that statistics say is the last time
pub end_time : (points : List Point) (stats : Stats) (d : Point) → 0 < length points → AreStatsOf points stats → (get_or points (length points - 1) d).time ≡ stats.end
end_time points stats d some are =
    let same : I64 (get_or points (length points - 1) d).time ≡ I64 stats.end = last_gives (λ (p : Point). I64 p.time) points d (I64 stats.end) some are.end in
    cc

pub any_default : (xs : List Point) (k : ℕ) (x y : Point) → k < length xs → get_or xs k x ≡ get_or xs k y
any_default [] k x y low = absurd (omega (arith, low))
any_default (z ∷ zs) zero x y low = refl
any_default (z ∷ zs) (suc k) x y low = any_default zs k x y (omega (arith, low))

pub rise_further : (before points : List Point) (end : ℤ) → IsRising before → IsRising points → 0 < length before → ((d : Point) → (get_or before (length before - 1) d).time ≡ end) → ((first : Point) (others : List Point) → points ≡ first ∷ others → end <ℤ first.time) → IsRising (before ++ points)
rise_further before [] end rise_b rise_p some last later = subst IsRising (sym (append-nil before)) rise_b
rise_further before (f ∷ fs) end rise_b rise_p some last later =
    pairs_append (λ (a b : Point). a.time <ℤ b.time) before (f ∷ fs) rise_b rise_p
    (λ x y in_b in_p.
    let low : x.time ≤ℤ (get_or before (length before - 1) x).time = at_most_last before (get_or before (length before - 1) x) x (same_default before (length before - 1) x some) rise_b in_b in
    let at_end = last x in
    let less = later f fs refl in
    let high : f.time ≤ℤ y.time = at_least_first (f ∷ fs) f y refl rise_p in_p in
    less_all x.time (get_or before (length before - 1) x).time end f.time y.time low at_end less high)
  where
    same_default : (xs : List Point) (n : ℕ) (x : Point) → 0 < length xs → get_or xs (length xs - 1) x ≡ get_or xs (length xs - 1) (get_or xs (length xs - 1) x)
    same_default xs n x some = any_default xs (length xs - 1) x (get_or xs (length xs - 1) x) (omega (arith, some))

    less_all : (a b c d e : ℤ) → a ≤ℤ b → b ≡ c → c <ℤ d → d ≤ℤ e → a <ℤ e
    less_all a b c d e ab bc cd de = omega (arith, ints, ab, bc, cd, de)

-- a sum that is there where the version has sums
pub sum_in : (version : ℕ) (t : DataType) (points : List Point) (stats : Stats) → ArePoints t points → stats.sum ≡ (if has_sums version then sum_of points else None) → HasSum version t stats
sum_in version t points stats good is = ap is_some is ∙ by_version (has_sums version) (sum_of points) (is_numeric t) (sum_there t points good)
  where
    by_version : (sums : Bool) (sum : Option ℤ) (numeric : Bool) → is_some sum ≡ numeric → is_some (if sums then sum else None) ≡ (sums && numeric)
    by_version true sum numeric same = same
    by_version false sum numeric same = refl

-- the first page
pub first_read : (version : ℕ) (t : DataType) (e : Encoding) (place : ℕ) (page : Page) (points : List Point) (found : Pages) (entry : PageEntry) → page.points ≡ points → AreGood t points → AreStatsOf points found.stats → HasSum version t found.stats
    → entry.place ≡ place → entry.stats ≡ found.stats → found.entries.items ≡ entry ∷ [] → ArePagesRead version t e place (page ∷ []) found
first_read version t e place page points found entry same good stats sum entry_place entry_stats entries =
    let own : AreGood t page.points = subst (AreGood t) (sym same) good in
    let all : page_points (page ∷ []) ≡ page.points = append-nil page.points in
    let here : AreStatsOf page.points found.stats = subst (λ (l : List Point). AreStatsOf l found.stats) (sym same) stats in
    record {
      some = omega arith;
      few = omega arith;
      good = All-cons (λ (p : Page). ArePoints t p.points) page [] own.0 (All-nil (λ (p : Page). ArePoints t p.points));
      ranges = subst (λ (l : List Point). All IsInRange l) (sym all) own.1;
      rising = subst IsRising (sym all) own.0.rising;
      stats = subst (λ (l : List Point). AreStatsOf l found.stats) (sym all) here;
      say = subst (λ (l : List PageEntry). ArePageEntries e place (page ∷ []) l) (sym entries) (record { place_is = entry_place; stats = subst (AreStatsOf page.points) (sym entry_stats) here }, tt);
      sum = sum;
      sums = subst (λ (l : List PageEntry). All (λ entry. HasSum version t entry.stats) l) (sym entries)
          (All-cons (λ (q : PageEntry). HasSum version t q.stats) entry [] (subst (HasSum version t) (sym entry_stats) sum) (All-nil (λ (q : PageEntry). HasSum version t q.stats)));
    }

pub page_added : (version : ℕ) (t : DataType) (e : Encoding) (from place : ℕ) (before : List Page) (page : Page) (points : List Point) (old new : Pages) (stats : Stats) (entry : PageEntry) → page.points ≡ points → ArePagesRead version t e from before old → AreLaterPoints t old points
    → place ≡ from + length (flat_map (page_field e) before) → entry.place ≡ place → AreStatsOf points entry.stats → AreStatsOf (page_points before ++ points) new.stats → new.entries.items ≡ old.entries.items ++ entry ∷ []
    → is_some new.stats.sum ≡ is_some old.stats.sum → HasSum version t entry.stats
    → ArePagesRead version t e from (before ++ page ∷ []) new
page_added version t e from place before page points old new stats entry same read later place_is entry_place entry_stats all_stats entries all_sum entry_sum =
    let good : AreGood t page.points = subst (AreGood t) (sym same) later.good in
    let n = length-append before (page ∷ []) in
    let count = count_pages e from before old.entries.items read.say in
    let few = later.few in
    let points_is : page_points (before ++ page ∷ []) ≡ page_points before ++ page.points = points_more before page in
    let some_points : 0 < length (page_points before) = some_of t before read.some (recursion_from_All (λ (p : Page). ArePoints t p.points) before read.good) in
    record {
      some = omega (arith, n);
      few = omega (arith, n, count, few);
      good = All-append (λ (p : Page). ArePoints t p.points) before (page ∷ []) read.good (All-cons (λ (p : Page). ArePoints t p.points) page [] good.0 (All-nil (λ (p : Page). ArePoints t p.points)));
      ranges = subst (λ (l : List Point). All IsInRange l) (sym points_is) (All-append IsInRange (page_points before) page.points read.ranges good.1);
      rising = subst IsRising (sym points_is) (subst (λ (l : List Point). IsRising (page_points before ++ l)) (sym same) (rise_further (page_points before) points old.stats.end read.rising later.good.0.rising some_points (λ d. end_time (page_points before) old.stats d some_points read.stats) later.later));
      stats = subst (λ (l : List Point). AreStatsOf l new.stats) (sym (points_is ∙ ap (λ (l : List Point). page_points before ++ l) same)) all_stats;
      say = subst (λ (l : List PageEntry). ArePageEntries e from (before ++ page ∷ []) l) (sym entries) (pages_push e from before old.entries.items page entry read.say (record { place_is = entry_place ∙ place_is; stats = subst (λ (l : List Point). AreStatsOf l entry.stats) (sym same) entry_stats }));
      sum = all_sum ∙ read.sum;
      sums = subst (λ (l : List PageEntry). All (λ entry. HasSum version t entry.stats) l) (sym entries)
          (All-push (λ (e : PageEntry). HasSum version t e.stats) old.entries.items entry read.sums entry_sum);
    }
  where
    some_of : (t : DataType) (pages : List Page) → 0 < length pages → AllByRecursion (λ (p : Page). ArePoints t p.points) pages → 0 < length (page_points pages)
    some_of t [] some are = absurd (omega (arith, some))
    some_of t (p ∷ ps) some are = let n = length-append p.points (page_points ps) in let m = are.0.some in omega (arith, n, m)
