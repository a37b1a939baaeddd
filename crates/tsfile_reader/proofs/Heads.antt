-- One part by itself: its bytes taken apart.
use Rattle.std.proofs.Common.{◌≡◌, ℕ, true, false, List, ◌∷◌, ◌++◌, length, sym, ◌∙◌, append_assoc, arith}
use Rattle.tsdb_base.specs.declared.value.DataType.{DataType}
use Rattle.tsdb_base.specs.declared.value.Encoding.{Encoding}
use Rattle.tsdb_base.specs.Fields.{number32, pair_field, IsPair, type_field, encoding_field}
use Rattle.tsdb_base.specs.FieldLaws.{type_field-prefix_free, encoding_field-prefix_free}
use Rattle.tsdb_base.specs.Plain.{plain_text, IsText, BeginsWithNone}
use Rattle.tsdb_base.specs.PlainLaws.{plain_text-prefix_free}
use Rattle.tsdb_base.specs.Values.{is_suitable}
use Rattle.tsdb_path.specs.Nodes.{IsName, IsPath}
use Rattle.tsdb_pages.specs.Pages.{body}
use Rattle.tsdb_pages.specs.Reading.{IsNoBody}
use Rattle.tsdb_pages.proofs.Bodies.{body_is_short, parts_same}
use Rattle.tsfile_reader.specs.declared.page.ChunkHead.{ChunkHead}
use Rattle.tsdb_pages.specs.File.{page_bytes}
use Rattle.tsfile_reader.specs.Page.{AreGood}
use Rattle.tsfile_reader.specs.Parts.{FilePart, part_field}
use Rattle.tsfile_reader.specs.Steps.{IsBodySize, IsChunkHead, body_bytes, chunk_part}

pub short_name : (name : List ℕ) → IsName name → IsText name
short_name name is = omega (arith, is.short)

pub short_path : (path : List ℕ) → IsPath path → IsText path
short_path path is = omega (arith, is.1.short)

pub tail_same : (n : ℕ) (xs ys : List ℕ) → n ∷ xs ≡ n ∷ ys → xs ≡ ys
tail_same n xs ys same = cc

-- ---- the head of a chunk

abbrev pub kind_field : DataType × Encoding → List ℕ
kind_field = pair_field type_field encoding_field

abbrev pub IsKind : DataType × Encoding → Type 0
IsKind = IsPair (λ t. Unit {0}) (λ e. Unit {0})

pub chunk_apart : (m : List ℕ) (t : DataType) (e : Encoding) (x : List ℕ) → part_field (FilePart.Chunk m t e) ++ x ≡ 67 ∷ (plain_text m ++ (type_field t ++ (encoding_field e ++ x)))
chunk_apart m t e x =
    let front = 67 ∷ plain_text m in
    append_assoc (front ++ type_field t) (encoding_field e) x ∙ append_assoc front (type_field t) (encoding_field e ++ x)

-- what stands behind the measurement, where a head stands
behind_name : (h : ChunkHead) (bytes fields behind rest m : List ℕ) → bytes ≡ 67 ∷ fields → fields ≡ plain_text m ++ behind → IsName m → IsChunkHead h → bytes ≡ part_field (chunk_part h) ++ rest
    → (m ≡ h.measurement) × (behind ≡ type_field h.data_type ++ (encoding_field h.encoding ++ rest))
behind_name h bytes fields behind rest m mark name is_name is e =
    let inner : plain_text m ++ behind ≡ plain_text h.measurement ++ (type_field h.data_type ++ (encoding_field h.encoding ++ rest)) =
    sym name ∙ tail_same 67 fields (plain_text h.measurement ++ (type_field h.data_type ++ (encoding_field h.encoding ++ rest))) (sym mark ∙ e ∙ chunk_apart h.measurement h.data_type h.encoding rest) in
    plain_text-prefix_free m h.measurement behind (type_field h.data_type ++ (encoding_field h.encoding ++ rest)) (short_name m is_name) (short_name h.measurement is.0) inner

pub no_kind : (bytes fields behind m : List ℕ) → bytes ≡ 67 ∷ fields → fields ≡ plain_text m ++ behind → IsName m → BeginsWithNone kind_field IsKind behind → BeginsWithNone (λ h. part_field (chunk_part h)) IsChunkHead bytes
no_kind bytes fields behind m mark name is_name none = λ h rest is e.
    none (h.data_type, h.encoding) rest (tt, tt) ((behind_name h bytes fields behind rest m mark name is_name is e).1 ∙ sym (append_assoc (type_field h.data_type) (encoding_field h.encoding) rest))

pub unsuited : (bytes fields behind others m : List ℕ) (t : DataType) (c : Encoding) → bytes ≡ 67 ∷ fields → fields ≡ plain_text m ++ behind → IsName m → behind ≡ kind_field (t, c) ++ others → is_suitable t c ≡ false
    → BeginsWithNone (λ h. part_field (chunk_part h)) IsChunkHead bytes
unsuited bytes fields behind others m t c mark name is_name kind unfit = λ h rest is e.
    let there = (behind_name h bytes fields behind rest m mark name is_name is e).1 in
    let both : type_field t ++ (encoding_field c ++ others) ≡ type_field h.data_type ++ (encoding_field h.encoding ++ rest) = sym (append_assoc (type_field t) (encoding_field c) others) ∙ sym kind ∙ there in
    let types = type_field-prefix_free t h.data_type (encoding_field c ++ others) (encoding_field h.encoding ++ rest) tt tt both in
    let forms = encoding_field-prefix_free c h.encoding others rest tt tt types.1 in
    let same_type : t ≡ h.data_type = types.0 in
    let same_form : c ≡ h.encoding = forms.0 in
    let fit : is_suitable h.data_type h.encoding ≡ true = is.1 in
    let no : true ≡ false = cc in
    absurd cc

-- ---- a page

pub no_body : (t : DataType) (c : Encoding) (bytes fields : List ℕ) → is_suitable t c ≡ true → bytes ≡ 80 ∷ fields → BeginsWithNone body_bytes IsBodySize fields → BeginsWithNone (page_bytes c) (AreGood t) bytes
no_body t c bytes fields suits mark none = λ points rest good e.
    none (body c points) rest (body_is_short t c suits points good.0 good.1) (tail_same 80 fields (body_bytes (body c points) ++ rest) (sym mark ∙ e))

pub no_points : (t : DataType) (c : Encoding) (bytes fields found behind : List ℕ) → is_suitable t c ≡ true → bytes ≡ 80 ∷ fields → fields ≡ body_bytes found ++ behind → IsBodySize found → IsNoBody t c found → BeginsWithNone (page_bytes c) (AreGood t) bytes
no_points t c bytes fields found behind suits mark there small none = λ points rest good e.
    let inner : number32 (length found) ++ found ++ behind ≡ number32 (length (body c points)) ++ body c points ++ rest = sym there ∙ tail_same 80 fields (body_bytes (body c points) ++ rest) (sym mark ∙ e) in
    let same = parts_same found (body c points) behind rest small (body_is_short t c suits points good.0 good.1) inner in
    none points (record { suits = suits; points_are = good.0; ranges = good.1; bytes_are = same.0 })
