-- Pages, entries and pointers, part by part.
use Rattle.std.proofs.Common.{◌≡◌, ℕ, ◌<◌, ◌^◌, false, true, List, ◌++◌, length, refl, sym, ap, subst, ◌∙◌, append_assoc, arith}
use Rattle.std.specs.Prelude.{All}
use Rattle.std.specs.List.{flat_map}
use Rattle.tsdb_base.specs.declared.point.Stats.{Stats}
use Rattle.tsdb_base.specs.declared.value.DataType.{DataType}
use Rattle.tsdb_base.specs.declared.value.Encoding.{Encoding}
use Rattle.tsdb_base.specs.FieldLaws.{number32-prefix_free, number64-prefix_free, type_field-prefix_free, encoding_field-prefix_free, pair_field-prefix_free}
use Rattle.tsdb_base.specs.Fields.{number32, number64, type_field, encoding_field, pair_field, IsPair}
use Rattle.tsdb_base.specs.Plain.{AreValues, BeginsWithNone, plain_text}
use Rattle.tsdb_base.specs.Values.{is_suitable}
use Rattle.tsdb_base.proofs.PlainLists.{IsPrefixFree, same_values}
use Rattle.tsdb_fields.specs.Nodes.{IsName, IsPath}
use Rattle.tsdb_fields.specs.Statistics.{stats_field, IsStatsOf}
use Rattle.tsdb_index.specs.declared.index.IndexEntry.{IndexEntry}
use Rattle.tsdb_index.specs.declared.index.PageEntry.{PageEntry}
use Rattle.tsdb_index.specs.declared.pointer.Pointer.{Pointer}
use Rattle.tsdb_index.specs.Entries.{IsEntry, IsPageOf}
use Rattle.tsdb_index.specs.Parts.{IsPointer, pointer_bytes}
use Rattle.tsdb_index.specs.Versions.{has_sums}
use Rattle.tsdb_index.specs.Spelling.{entry_field, page_entry_field}
use Rattle.tsdb_index.proofs.Fields.{name-prefix_free, none_behind, none_here, path-prefix_free, stats_field-prefix_free}

abbrev pub Is64 : ℕ → Type 0
Is64 n = n < 2 ^ 64

abbrev pub Is32 : ℕ → Type 0
Is32 n = n < 2 ^ 32

-- ---- pages

pub no_place : (version : ℕ) (t : DataType) (bytes : List ℕ) → BeginsWithNone number64 Is64 bytes → BeginsWithNone page_entry_field (IsPageOf version t) bytes
no_place version t bytes none = none_here page_entry_field (IsPageOf version t) number64 Is64 (λ (p : PageEntry). p.place) (λ (p : PageEntry). stats_field p.stats) (λ p. refl) (λ p is. is.place) bytes none

pub no_stats : (version : ℕ) (t : DataType) (place : ℕ) (bytes rest : List ℕ) → Is64 place → bytes ≡ number64 place ++ rest → BeginsWithNone stats_field (IsStatsOf (has_sums version) t) rest → BeginsWithNone page_entry_field (IsPageOf version t) bytes
no_stats version t place bytes rest is found none =
    none_behind page_entry_field (IsPageOf version t) number64 Is64 (λ (p : PageEntry). p.place) (λ (p : PageEntry). stats_field p.stats) (λ p. refl) (λ p is. is.place) number64-prefix_free place bytes rest is found
    (λ page behind of e. none page.stats behind of.0.stats e)

pub page-prefix_free : (version : ℕ) (t : DataType) → IsPrefixFree page_entry_field (IsPageOf version t)
page-prefix_free version t a b x y is_a is_b e =
    let made : ℕ → Stats → PageEntry = λ n s. record { place = n; stats = s } in
    let same = pair_field-prefix_free number64 stats_field Is64 (IsStatsOf (has_sums version) t) number64-prefix_free (stats_field-prefix_free (has_sums version) t) (a.place, a.stats) (b.place, b.stats) x y (is_a.place, is_a.stats) (is_b.place, is_b.stats) e in
    (ap (λ p. made p.0 p.1) same.0, same.1)

-- ---- entries

-- the type, the encoding and the place of a chunk
abbrev pub kind_field : DataType × (Encoding × ℕ) → List ℕ
kind_field = pair_field type_field (pair_field encoding_field number64)

abbrev pub IsKind : DataType × (Encoding × ℕ) → Type 0
IsKind = IsPair (λ _. Unit {0}) (IsPair (λ _. Unit {0}) Is64)

pub kind-prefix_free : IsPrefixFree kind_field IsKind
kind-prefix_free =
    pair_field-prefix_free type_field (pair_field encoding_field number64) (λ _. Unit {0}) (IsPair (λ _. Unit {0}) Is64) type_field-prefix_free
    (pair_field-prefix_free encoding_field number64 (λ _. Unit {0}) Is64 encoding_field-prefix_free number64-prefix_free)

abbrev pub kind_of : IndexEntry → DataType × (Encoding × ℕ)
kind_of e = (e.data_type, (e.encoding, e.place))

-- what is left of an entry behind each of its parts
abbrev pub behind_number : IndexEntry → List ℕ
behind_number e = flat_map page_entry_field e.pages

abbrev pub behind_stats : IndexEntry → List ℕ
behind_stats e = number32 (length e.pages) ++ behind_number e

abbrev pub behind_kind : IndexEntry → List ℕ
behind_kind e = stats_field e.stats ++ behind_stats e

abbrev pub behind_name : IndexEntry → List ℕ
behind_name e = kind_field (kind_of e) ++ behind_kind e

abbrev pub behind_path : IndexEntry → List ℕ
behind_path e = plain_text e.measurement ++ behind_name e

pub entry_apart : (e : IndexEntry) → entry_field e ≡ plain_text e.device ++ behind_path e
entry_apart e =
    let d = plain_text e.device in
    let m = plain_text e.measurement in
    let t = type_field e.data_type in
    let c = encoding_field e.encoding in
    let p = number64 e.place in
    let s = stats_field e.stats in
    let n = number32 (length e.pages) in
    let g = flat_map page_entry_field e.pages in
    append_assoc (d ++ m ++ t ++ c ++ p ++ s) n g ∙ append_assoc (d ++ m ++ t ++ c ++ p) s (n ++ g) ∙ append_assoc (d ++ m ++ t ++ c) p (s ++ (n ++ g)) ∙ append_assoc (d ++ m ++ t) c (p ++ (s ++ (n ++ g)))
    ∙ append_assoc (d ++ m) t (c ++ (p ++ (s ++ (n ++ g)))) ∙ append_assoc d m (t ++ (c ++ (p ++ (s ++ (n ++ g)))))
    ∙ ap (λ (l : List ℕ). d ++ (m ++ l)) (sym (append_assoc t (c ++ p) (s ++ (n ++ g)) ∙ ap (λ (l : List ℕ). t ++ l) (append_assoc c p (s ++ (n ++ g)))))

-- an entry whose first parts are these
abbrev pub HasPath : ℕ → List ℕ → IndexEntry → Type 0
HasPath version d e = IsEntry version e × (e.device ≡ d)

abbrev pub HasName : ℕ → List ℕ → List ℕ → IndexEntry → Type 0
HasName version d m e = HasPath version d e × (e.measurement ≡ m)

abbrev pub HasKind : ℕ → List ℕ → List ℕ → DataType × (Encoding × ℕ) → IndexEntry → Type 0
HasKind version d m k e = HasName version d m e × (kind_of e ≡ k)

abbrev pub HasStats : ℕ → List ℕ → List ℕ → DataType × (Encoding × ℕ) → Stats → IndexEntry → Type 0
HasStats version d m k s e = HasKind version d m k e × (e.stats ≡ s)

abbrev pub HasNumber : ℕ → List ℕ → List ℕ → DataType × (Encoding × ℕ) → Stats → ℕ → IndexEntry → Type 0
HasNumber version d m k s n e = HasStats version d m k s e × (length e.pages ≡ n)

pub no_path : (version : ℕ) (bytes : List ℕ) → BeginsWithNone plain_text IsPath bytes → BeginsWithNone entry_field (IsEntry version) bytes
no_path version bytes none = none_here entry_field (IsEntry version) plain_text IsPath (λ (e : IndexEntry). e.device) behind_path entry_apart (λ e is. is.device) bytes none

pub past_path : (version : ℕ) (d bytes rest : List ℕ) → IsPath d → bytes ≡ plain_text d ++ rest → BeginsWithNone behind_path (HasPath version d) rest → BeginsWithNone entry_field (IsEntry version) bytes
past_path version d bytes rest is found none =
    none_behind entry_field (IsEntry version) plain_text IsPath (λ (e : IndexEntry). e.device) behind_path entry_apart (λ e is. is.device) path-prefix_free d bytes rest is found none

pub no_name : (version : ℕ) (d bytes : List ℕ) → BeginsWithNone plain_text IsName bytes → BeginsWithNone behind_path (HasPath version d) bytes
no_name version d bytes none = none_here behind_path (HasPath version d) plain_text IsName (λ (e : IndexEntry). e.measurement) behind_name (λ e. refl) (λ e is. is.0.measurement) bytes none

pub past_name : (version : ℕ) (d m bytes rest : List ℕ) → IsName m → bytes ≡ plain_text m ++ rest → BeginsWithNone behind_name (HasName version d m) rest → BeginsWithNone behind_path (HasPath version d) bytes
past_name version d m bytes rest is found none =
    none_behind behind_path (HasPath version d) plain_text IsName (λ (e : IndexEntry). e.measurement) behind_name (λ e. refl) (λ e is. is.0.measurement) name-prefix_free m bytes rest is found none

kind_good : (version : ℕ) (d m : List ℕ) (e : IndexEntry) → HasName version d m e → IsKind (kind_of e)
kind_good version d m e is = (tt, (tt, is.0.0.place))

pub no_kind : (version : ℕ) (d m bytes : List ℕ) → BeginsWithNone kind_field IsKind bytes → BeginsWithNone behind_name (HasName version d m) bytes
no_kind version d m bytes none = none_here behind_name (HasName version d m) kind_field IsKind kind_of behind_kind (λ e. refl) (kind_good version d m) bytes none

pub past_kind : (version : ℕ) (d m : List ℕ) (k : DataType × (Encoding × ℕ)) (bytes rest : List ℕ) → IsKind k → bytes ≡ kind_field k ++ rest → BeginsWithNone behind_kind (HasKind version d m k) rest → BeginsWithNone behind_name (HasName version d m) bytes
past_kind version d m k bytes rest is found none =
    none_behind behind_name (HasName version d m) kind_field IsKind kind_of behind_kind (λ e. refl) (kind_good version d m) kind-prefix_free k bytes rest is found none

-- an encoding that does not suit the type
pub unsuited : (version : ℕ) (d m : List ℕ) (k : DataType × (Encoding × ℕ)) (bytes : List ℕ) → is_suitable k.0 k.1.0 ≡ false → BeginsWithNone behind_kind (HasKind version d m k) bytes
unsuited version d m k bytes unfit = λ e behind is found.
    let yes : is_suitable k.0 k.1.0 ≡ true = subst (λ (kind : DataType × (Encoding × ℕ)). is_suitable kind.0 kind.1.0 ≡ true) is.1 is.0.0.0.suits in
    absurd cc

of_type : (version : ℕ) (d m : List ℕ) (k : DataType × (Encoding × ℕ)) (e : IndexEntry) → HasKind version d m k e → e.data_type ≡ k.0
of_type version d m k e is = ap (λ (kind : DataType × (Encoding × ℕ)). kind.0) is.1

stats_good : (version : ℕ) (d m : List ℕ) (k : DataType × (Encoding × ℕ)) (e : IndexEntry) → HasKind version d m k e → IsStatsOf (has_sums version) k.0 e.stats
stats_good version d m k e is = subst (λ (t : DataType). IsStatsOf (has_sums version) t e.stats) (of_type version d m k e is) is.0.0.0.stats

pub no_statistics : (version : ℕ) (d m : List ℕ) (k : DataType × (Encoding × ℕ)) (bytes : List ℕ) → BeginsWithNone stats_field (IsStatsOf (has_sums version) k.0) bytes → BeginsWithNone behind_kind (HasKind version d m k) bytes
no_statistics version d m k bytes none = none_here behind_kind (HasKind version d m k) stats_field (IsStatsOf (has_sums version) k.0) (λ (e : IndexEntry). e.stats) behind_stats (λ e. refl) (stats_good version d m k) bytes none

pub past_statistics : (version : ℕ) (d m : List ℕ) (k : DataType × (Encoding × ℕ)) (s : Stats) (bytes rest : List ℕ) → IsStatsOf (has_sums version) k.0 s → bytes ≡ stats_field s ++ rest → BeginsWithNone behind_stats (HasStats version d m k s) rest → BeginsWithNone behind_kind (HasKind version d m k) bytes
past_statistics version d m k s bytes rest is found none =
    none_behind behind_kind (HasKind version d m k) stats_field (IsStatsOf (has_sums version) k.0) (λ (e : IndexEntry). e.stats) behind_stats (λ e. refl) (stats_good version d m k) (stats_field-prefix_free (has_sums version) k.0) s bytes rest is found none

number_good : (version : ℕ) (d m : List ℕ) (k : DataType × (Encoding × ℕ)) (s : Stats) (e : IndexEntry) → HasStats version d m k s e → Is32 (length e.pages)
number_good version d m k s e is = let few = is.0.0.0.0.few in omega (arith, few)

pub no_number : (version : ℕ) (d m : List ℕ) (k : DataType × (Encoding × ℕ)) (s : Stats) (bytes : List ℕ) → BeginsWithNone number32 Is32 bytes → BeginsWithNone behind_stats (HasStats version d m k s) bytes
no_number version d m k s bytes none = none_here behind_stats (HasStats version d m k s) number32 Is32 (λ (e : IndexEntry). length e.pages) behind_number (λ e. refl) (number_good version d m k s) bytes none

pub past_number : (version : ℕ) (d m : List ℕ) (k : DataType × (Encoding × ℕ)) (s : Stats) (n : ℕ) (bytes rest : List ℕ) → Is32 n → bytes ≡ number32 n ++ rest → BeginsWithNone behind_number (HasNumber version d m k s n) rest → BeginsWithNone behind_stats (HasStats version d m k s) bytes
past_number version d m k s n bytes rest is found none =
    none_behind behind_stats (HasStats version d m k s) number32 Is32 (λ (e : IndexEntry). length e.pages) behind_number (λ e. refl) (number_good version d m k s) number32-prefix_free n bytes rest is found none

pub no_pages : (version : ℕ) (d m : List ℕ) (k : DataType × (Encoding × ℕ)) (s : Stats) (n : ℕ) (bytes : List ℕ) → BeginsWithNone (flat_map page_entry_field) (AreValues (IsPageOf version k.0) n) bytes → BeginsWithNone behind_number (HasNumber version d m k s n) bytes
no_pages version d m k s n bytes none = λ e behind is found.
    none e.pages behind (is.1, subst (λ (t : DataType). All (IsPageOf version t) e.pages) (of_type version d m k e is.0.0) is.0.0.0.0.0.pages) found

-- no entry's bytes begin those of another entry
pub entry-prefix_free : (version : ℕ) → IsPrefixFree entry_field (IsEntry version)
entry-prefix_free version a b x y is_a is_b e =
    let right : (c : IndexEntry) (r : List ℕ) → entry_field c ++ r ≡ plain_text c.device ++ (plain_text c.measurement ++ (kind_field (kind_of c) ++ (stats_field c.stats ++ (number32 (length c.pages) ++ (flat_map page_entry_field c.pages ++ r))))) = λ c r.
    let g = flat_map page_entry_field c.pages in
    ap (λ (l : List ℕ). l ++ r) (entry_apart c) ∙ append_assoc (plain_text c.device) (behind_path c) r
    ∙ ap (λ (l : List ℕ). plain_text c.device ++ l) (append_assoc (plain_text c.measurement) (behind_name c) r
    ∙ ap (λ (l : List ℕ). plain_text c.measurement ++ l) (append_assoc (kind_field (kind_of c)) (behind_kind c) r
    ∙ ap (λ (l : List ℕ). kind_field (kind_of c) ++ l) (append_assoc (stats_field c.stats) (behind_stats c) r
    ∙ ap (λ (l : List ℕ). stats_field c.stats ++ l) (append_assoc (number32 (length c.pages)) g r)))) in
    let whole = sym (right a x) ∙ e ∙ right b y in
    let paths = path-prefix_free a.device b.device _ _ is_a.device is_b.device whole in
    let names = name-prefix_free a.measurement b.measurement _ _ is_a.measurement is_b.measurement paths.1 in
    let kinds = kind-prefix_free (kind_of a) (kind_of b) _ _ (tt, (tt, is_a.place)) (tt, (tt, is_b.place)) names.1 in
    let types : b.data_type ≡ a.data_type = ap (λ (k : DataType × (Encoding × ℕ)). k.0) (sym kinds.0) in
    let stats = stats_field-prefix_free (has_sums version) a.data_type a.stats b.stats _ _ is_a.stats (subst (λ (t : DataType). IsStatsOf (has_sums version) t b.stats) types is_b.stats) kinds.1 in
    let numbers = number32-prefix_free (length a.pages) (length b.pages) _ _ (let few = is_a.few in omega (arith, few)) (let few = is_b.few in omega (arith, few)) stats.1 in
    let pages = same_values page_entry_field (IsPageOf version a.data_type) (page-prefix_free version a.data_type) a.pages b.pages x y numbers.0 is_a.pages (subst (λ (t : DataType). All (IsPageOf version t) b.pages) types is_b.pages) numbers.1 in
    let d : a.device ≡ b.device = paths.0 in
    let m : a.measurement ≡ b.measurement = names.0 in
    let t : a.data_type ≡ b.data_type = sym types in
    let c : a.encoding ≡ b.encoding = ap (λ (k : DataType × (Encoding × ℕ)). k.1.0) kinds.0 in
    let p : a.place ≡ b.place = ap (λ (k : DataType × (Encoding × ℕ)). k.1.1) kinds.0 in
    let s : a.stats ≡ b.stats = stats.0 in
    let g : a.pages ≡ b.pages = pages.0 in
    let made : List ℕ → List ℕ → DataType → Encoding → ℕ → Stats → List PageEntry → IndexEntry =
    λ device measurement data_type encoding place stats pages. record { device = device; measurement = measurement; data_type = data_type; encoding = encoding; place = place; stats = stats; pages = pages } in
    let same : made a.device a.measurement a.data_type a.encoding a.place a.stats a.pages ≡ made b.device b.measurement b.data_type b.encoding b.place b.stats b.pages = cc in
    (same, pages.1)

-- ---- pointers

abbrev pub behind_pointer_path : Pointer → List ℕ
behind_pointer_path p = plain_text p.measurement ++ number64 p.place

pub pointer_apart : (p : Pointer) → pointer_bytes p ≡ plain_text p.device ++ behind_pointer_path p
pointer_apart p = append_assoc (plain_text p.device) (plain_text p.measurement) (number64 p.place)

pub pointer-prefix_free : IsPrefixFree pointer_bytes IsPointer
pointer-prefix_free a b x y is_a is_b e =
    let made : List ℕ → List ℕ → ℕ → Pointer = λ d m n. record { device = d; measurement = m; place = n } in
    let same = pair_field-prefix_free plain_text (pair_field plain_text number64) IsPath (IsPair IsName Is64) path-prefix_free (pair_field-prefix_free plain_text number64 IsName Is64 name-prefix_free number64-prefix_free)
    (a.device, (a.measurement, a.place)) (b.device, (b.measurement, b.place)) x y (is_a.device, (is_a.measurement, is_a.place)) (is_b.device, (is_b.measurement, is_b.place))
    (sym (ap (λ (l : List ℕ). l ++ x) (pointer_apart a)) ∙ e ∙ ap (λ (l : List ℕ). l ++ y) (pointer_apart b)) in
    (ap (λ p. made p.0 p.1.0 p.1.1) same.0, same.1)

pub no_pointer_path : (bytes : List ℕ) → BeginsWithNone plain_text IsPath bytes → BeginsWithNone pointer_bytes IsPointer bytes
no_pointer_path bytes none = none_here pointer_bytes IsPointer plain_text IsPath (λ (p : Pointer). p.device) behind_pointer_path pointer_apart (λ p is. is.device) bytes none

pub no_pointer_name : (d bytes rest : List ℕ) → IsPath d → bytes ≡ plain_text d ++ rest → BeginsWithNone plain_text IsName rest → BeginsWithNone pointer_bytes IsPointer bytes
no_pointer_name d bytes rest is found none =
    none_behind pointer_bytes IsPointer plain_text IsPath (λ (p : Pointer). p.device) behind_pointer_path pointer_apart (λ p is. is.device) path-prefix_free d bytes rest is found
    (none_here behind_pointer_path (λ (p : Pointer). IsPointer p × (p.device ≡ d)) plain_text IsName (λ (p : Pointer). p.measurement) (λ (p : Pointer). number64 p.place) (λ p. refl) (λ p is. is.0.measurement) rest none)

pub no_pointer_place : (d m bytes middle rest : List ℕ) → IsPath d → bytes ≡ plain_text d ++ middle → IsName m → middle ≡ plain_text m ++ rest → BeginsWithNone number64 Is64 rest → BeginsWithNone pointer_bytes IsPointer bytes
no_pointer_place d m bytes middle rest is_d found_d is_m found_m none =
    none_behind pointer_bytes IsPointer plain_text IsPath (λ (p : Pointer). p.device) behind_pointer_path pointer_apart (λ p is. is.device) path-prefix_free d bytes middle is_d found_d
    (none_behind behind_pointer_path (λ (p : Pointer). IsPointer p × (p.device ≡ d)) plain_text IsName (λ (p : Pointer). p.measurement) (λ (p : Pointer). number64 p.place) (λ p. refl) (λ p is. is.0.measurement) name-prefix_free m middle rest is_m found_m
    (λ p behind of e. none p.place behind of.0.0.place e))
