-- Two rows of parts that begin the same bytes: one goes on from the other. So bytes have one first bad part at most, and
-- groups of a tree have none.
use Rattle.std.proofs.Common.{◌≡◌, ◌⊎◌, inl, inr, ℕ, ◌+◌, ◌<◌, true, List, [], ◌∷◌, ◌++◌, length, refl, sym, ap, subst, ◌∙◌, append_assoc, arith}
use Rattle.std.proofs.lemmas.List.{append-nil, append_cancel_left, length-append}
use Rattle.tsdb_base.specs.declared.point.Point.{Point}
use Rattle.tsdb_base.specs.declared.value.DataType.{DataType}
use Rattle.tsdb_base.specs.declared.value.Encoding.{Encoding}
use Rattle.tsdb_base.specs.FieldLaws.{type_field-prefix_free, encoding_field-prefix_free}
use Rattle.tsdb_base.specs.Fields.{type_field, encoding_field}
use Rattle.tsdb_base.specs.Plain.{plain_text}
use Rattle.tsdb_base.specs.PlainLaws.{plain_text-prefix_free}
use Rattle.tsdb_base.specs.Values.{is_suitable}
use Rattle.tsdb_path.specs.Nodes.{IsName, IsPath}
use Rattle.tsfile_reader.specs.Blame.{IsFirstBadPart}
use Rattle.tsdb_pages.specs.File.{page_bytes}
use Rattle.tsfile_reader.specs.Page.{AreGood}
use Rattle.tsfile_reader.specs.Parts.{AreParts, MayEnd, MayFollow, FilePart, part_field, parts_field}
use Rattle.tsfile_reader.proofs.Heads.{chunk_apart, short_name, short_path, tail_same}
use Rattle.tsfile_reader.proofs.Later.{one_page_first}

-- the bytes of parts behind others
pub parts_append : (behind before : List FilePart) → parts_field (behind ++ before) ≡ parts_field before ++ parts_field behind
parts_append [] before = sym (append-nil (parts_field before))
parts_append (p ∷ ps) before = ap (λ (l : List ℕ). l ++ part_field p) (parts_append ps before) ∙ append_assoc (parts_field before) (parts_field ps) (part_field p)

-- each part has a byte
part_some : (p : FilePart) → 0 < length (part_field p)
part_some (FilePart.Group device) = omega arith
part_some (FilePart.Chunk name kind form) = omega arith
part_some (FilePart.Page kind form points) = omega arith

-- ---- one part

-- two parts with bytes behind them are one
record AreOne (p q : FilePart) (u v : List ℕ) : Type 0 where
  part : p ≡ q
  rest : u ≡ v

other_marks : {T : Type 0} (m n : ℕ) (x y : List ℕ) → (m ≡ n → ⊥) → m ∷ x ≡ n ∷ y → T
other_marks m n x y different same = let one : m ≡ n = cc in absurd (different one)

one_group : (a b u v : List ℕ) → IsPath a → IsPath b → part_field (FilePart.Group a) ++ u ≡ part_field (FilePart.Group b) ++ v → AreOne (FilePart.Group a) (FilePart.Group b) u v
one_group a b u v in_a in_b same =
    let names = plain_text-prefix_free a b u v (short_path a in_a) (short_path b in_b) (tail_same 71 (plain_text a ++ u) (plain_text b ++ v) same) in
    record { part = ap (λ (x : List ℕ). FilePart.Group x) names.0; rest = names.1 }

one_chunk : (a b : List ℕ) (s t : DataType) (c e : Encoding) (u v : List ℕ) → IsName a → IsName b → part_field (FilePart.Chunk a s c) ++ u ≡ part_field (FilePart.Chunk b t e) ++ v → AreOne (FilePart.Chunk a s c) (FilePart.Chunk b t e) u v
one_chunk a b s t c e u v in_a in_b same =
    let inner = tail_same 67 (plain_text a ++ (type_field s ++ (encoding_field c ++ u))) (plain_text b ++ (type_field t ++ (encoding_field e ++ v))) (sym (chunk_apart a s c u) ∙ same ∙ chunk_apart b t e v) in
    let names = plain_text-prefix_free a b (type_field s ++ (encoding_field c ++ u)) (type_field t ++ (encoding_field e ++ v)) (short_name a in_a) (short_name b in_b) inner in
    let types = type_field-prefix_free s t (encoding_field c ++ u) (encoding_field e ++ v) tt tt names.1 in
    let forms = encoding_field-prefix_free c e u v tt tt types.1 in
    record {
      part = ap (λ (x : List ℕ). FilePart.Chunk x s c) names.0 ∙ ap (λ (x : DataType). FilePart.Chunk b x c) types.0 ∙ ap (λ (x : Encoding). FilePart.Chunk b t x) forms.0;
      rest = forms.1;
    }

one_page : (t : DataType) (e : Encoding) (xs ys : List Point) (u v : List ℕ) → is_suitable t e ≡ true → AreGood t xs → AreGood t ys → part_field (FilePart.Page t e xs) ++ u ≡ part_field (FilePart.Page t e ys) ++ v → AreOne (FilePart.Page t e xs) (FilePart.Page t e ys) u v
one_page t e xs ys u v suits in_x in_y same =
    let points : xs ≡ ys = one_page_first t e suits xs ys u v in_x in_y same in
    let both : page_bytes e ys ++ u ≡ page_bytes e ys ++ v = sym (ap (λ (l : List Point). page_bytes e l ++ u) points) ∙ same in
    record { part = ap (λ (l : List Point). FilePart.Page t e l) points; rest = append_cancel_left (page_bytes e ys) u v both }

-- pages of a type and an encoding that are equal to those of the part before
one_page_of : (t : DataType) (e : Encoding) (s1 s2 : DataType) (c1 c2 : Encoding) (xs ys : List Point) (u v : List ℕ) → is_suitable t e ≡ true → s1 ≡ t → c1 ≡ e → s2 ≡ t → c2 ≡ e → AreGood t xs → AreGood t ys
    → part_field (FilePart.Page s1 c1 xs) ++ u ≡ part_field (FilePart.Page s2 c2 ys) ++ v → AreOne (FilePart.Page s1 c1 xs) (FilePart.Page s2 c2 ys) u v
one_page_of t e s1 s2 c1 c2 xs ys u v suits is_s1 is_c1 is_s2 is_c2 in_x in_y same =
    let here : part_field (FilePart.Page t e xs) ++ u ≡ part_field (FilePart.Page t e ys) ++ v =
    ap (λ (c : Encoding). page_bytes c xs ++ u) (sym is_c1) ∙ same ∙ ap (λ (c : Encoding). page_bytes c ys ++ v) is_c2 in
    let one = one_page t e xs ys u v suits in_x in_y here in
    record { part = ap (λ (x : DataType). FilePart.Page x c1 xs) is_s1 ∙ ap (λ (x : Encoding). FilePart.Page t x xs) is_c1 ∙ one.part ∙ ap (λ (x : Encoding). FilePart.Page t x ys) (sym is_c2) ∙ ap (λ (x : DataType). FilePart.Page x c2 ys) (sym is_s2); rest = one.rest }

-- the encoding of a chunk suits its type
chunk_suits : (before : List FilePart) (m : List ℕ) (t : DataType) (e : Encoding) → MayFollow before (FilePart.Chunk m t e) → is_suitable t e ≡ true
chunk_suits [] m t e may = absurd may
chunk_suits (FilePart.Group device ∷ before) m t e may = may.1
chunk_suits (FilePart.Chunk name kind form ∷ before) m t e may = absurd may
chunk_suits (FilePart.Page kind form points ∷ before) m t e may = may.1

-- as does that of a page
page_suits : (before : List FilePart) (t : DataType) (e : Encoding) (points : List Point) → AreParts before → MayFollow before (FilePart.Page t e points) → is_suitable t e ≡ true
page_suits [] t e points are may = absurd may
page_suits (FilePart.Group device ∷ before) t e points are may = absurd may
page_suits (FilePart.Chunk name kind form ∷ before) t e points are may =
    let suits = chunk_suits before name kind form are.0 in
    subst (λ (x : DataType). is_suitable x e ≡ true) (sym may.0) (subst (λ (x : Encoding). is_suitable kind x ≡ true) (sym may.1) suits)
page_suits (FilePart.Page kind form last ∷ before) t e points are may =
    let suits = page_suits before kind form last are.1 are.0 in
    subst (λ (x : DataType). is_suitable x e ≡ true) (sym may.0) (subst (λ (x : Encoding). is_suitable kind x ≡ true) (sym may.1) suits)

differ_71_67 : ◌≡◌ {A = ℕ} 71 67 → ⊥
differ_71_67 e = absurd (omega (arith, e))

differ_71_80 : ◌≡◌ {A = ℕ} 71 80 → ⊥
differ_71_80 e = absurd (omega (arith, e))

differ_67_80 : ◌≡◌ {A = ℕ} 67 80 → ⊥
differ_67_80 e = absurd (omega (arith, e))

-- behind a page
one_behind_page : (t : DataType) (e : Encoding) (last : List Point) (before : List FilePart) (p q : FilePart) (u v : List ℕ) → AreParts (FilePart.Page t e last ∷ before) → MayFollow (FilePart.Page t e last ∷ before) p → MayFollow (FilePart.Page t e last ∷ before) q → part_field p ++ u ≡ part_field q ++ v
    → AreOne p q u v
one_behind_page t e last before (FilePart.Group a) (FilePart.Group b) u v are in_p in_q same = one_group a b u v in_p.0 in_q.0 same
one_behind_page t e last before (FilePart.Group a) (FilePart.Chunk b s c) u v are in_p in_q same = other_marks 71 67 _ _ differ_71_67 same
one_behind_page t e last before (FilePart.Group a) (FilePart.Page s c ys) u v are in_p in_q same = other_marks 71 80 _ _ differ_71_80 same
one_behind_page t e last before (FilePart.Chunk a s c) (FilePart.Group b) u v are in_p in_q same = other_marks 71 67 _ _ differ_71_67 (sym same)
one_behind_page t e last before (FilePart.Chunk a s c) (FilePart.Chunk b s2 c2) u v are in_p in_q same = one_chunk a b s s2 c c2 u v in_p.0 in_q.0 same
one_behind_page t e last before (FilePart.Chunk a s c) (FilePart.Page s2 c2 ys) u v are in_p in_q same = other_marks 67 80 _ _ differ_67_80 same
one_behind_page t e last before (FilePart.Page s c xs) (FilePart.Group b) u v are in_p in_q same = other_marks 71 80 _ _ differ_71_80 (sym same)
one_behind_page t e last before (FilePart.Page s c xs) (FilePart.Chunk b s2 c2) u v are in_p in_q same = other_marks 67 80 _ _ differ_67_80 (sym same)
one_behind_page t e last before (FilePart.Page s1 c1 xs) (FilePart.Page s2 c2 ys) u v are in_p in_q same =
    one_page_of t e s1 s2 c1 c2 xs ys u v (page_suits before t e last are.1 are.0) in_p.0 in_p.1 in_q.0 in_q.1 in_p.2 in_q.2 same

one_behind_chunk : (m : List ℕ) (t : DataType) (e : Encoding) (before : List FilePart) (p q : FilePart) (u v : List ℕ) → AreParts (FilePart.Chunk m t e ∷ before) → MayFollow (FilePart.Chunk m t e ∷ before) p → MayFollow (FilePart.Chunk m t e ∷ before) q → part_field p ++ u ≡ part_field q ++ v → AreOne p q u v
one_behind_chunk m t e before (FilePart.Group a) q u v are in_p in_q same = absurd in_p
one_behind_chunk m t e before (FilePart.Chunk a s c) q u v are in_p in_q same = absurd in_p
one_behind_chunk m t e before (FilePart.Page s c xs) (FilePart.Group b) u v are in_p in_q same = absurd in_q
one_behind_chunk m t e before (FilePart.Page s c xs) (FilePart.Chunk b s2 c2) u v are in_p in_q same = absurd in_q
one_behind_chunk m t e before (FilePart.Page s1 c1 xs) (FilePart.Page s2 c2 ys) u v are in_p in_q same =
    one_page_of t e s1 s2 c1 c2 xs ys u v (chunk_suits before m t e are.0) in_p.0 in_p.1 in_q.0 in_q.1 in_p.2 in_q.2 same

one_behind_group : (device : List ℕ) (before : List FilePart) (p q : FilePart) (u v : List ℕ) → MayFollow (FilePart.Group device ∷ before) p → MayFollow (FilePart.Group device ∷ before) q → part_field p ++ u ≡ part_field q ++ v → AreOne p q u v
one_behind_group device before (FilePart.Group a) q u v in_p in_q same = absurd in_p
one_behind_group device before (FilePart.Page s c xs) q u v in_p in_q same = absurd in_p
one_behind_group device before (FilePart.Chunk a s c) (FilePart.Group b) u v in_p in_q same = absurd in_q
one_behind_group device before (FilePart.Chunk a s c) (FilePart.Page s2 c2 ys) u v in_p in_q same = absurd in_q
one_behind_group device before (FilePart.Chunk a s c) (FilePart.Chunk b s2 c2) u v in_p in_q same = one_chunk a b s s2 c c2 u v in_p.0 in_q.0 same

one_first : (p q : FilePart) (u v : List ℕ) → MayFollow [] p → MayFollow [] q → part_field p ++ u ≡ part_field q ++ v → AreOne p q u v
one_first (FilePart.Chunk a s c) q u v in_p in_q same = absurd in_p
one_first (FilePart.Page s c xs) q u v in_p in_q same = absurd in_p
one_first (FilePart.Group a) (FilePart.Chunk b s c) u v in_p in_q same = absurd in_q
one_first (FilePart.Group a) (FilePart.Page s c ys) u v in_p in_q same = absurd in_q
one_first (FilePart.Group a) (FilePart.Group b) u v in_p in_q same = one_group a b u v in_p in_q same

one_part : (before : List FilePart) (p q : FilePart) (u v : List ℕ) → AreParts before → MayFollow before p → MayFollow before q → part_field p ++ u ≡ part_field q ++ v → AreOne p q u v
one_part [] p q u v are in_p in_q same = one_first p q u v in_p in_q same
one_part (FilePart.Group device ∷ before) p q u v are in_p in_q same = one_behind_group device before p q u v in_p in_q same
one_part (FilePart.Chunk m t e ∷ before) p q u v are in_p in_q same = one_behind_chunk m t e before p q u v are in_p in_q same
one_part (FilePart.Page t e last ∷ before) p q u v are in_p in_q same = one_behind_page t e last before p q u v are in_p in_q same

-- ---- one row

-- the row goes on from the other, by nothing or by a part and more
data GoesOn (xs ys : List FilePart) : Type 0 where
  is_equal : xs ≡ ys → GoesOn xs ys
  is_longer : (q : FilePart) (front : List FilePart) → xs ≡ front ++ q ∷ ys → GoesOn xs ys

-- parts that may stand before others
before_of : (front : List FilePart) (q : FilePart) (ys : List FilePart) → AreParts (front ++ q ∷ ys) → MayFollow ys q × AreParts ys
before_of [] q ys are = are
before_of (p ∷ ps) q ys are = before_of ps q ys are.1

-- what stands behind the shorter row
rest_of : (xs ys front : List FilePart) (q : FilePart) (u v : List ℕ) → xs ≡ front ++ q ∷ ys → parts_field xs ++ u ≡ parts_field ys ++ v → v ≡ part_field q ++ (parts_field front ++ u)
rest_of xs ys front q u v is same =
    let row : parts_field xs ≡ (parts_field ys ++ part_field q) ++ parts_field front = ap parts_field is ∙ parts_append front (q ∷ ys) in
    let all : parts_field ys ++ (part_field q ++ (parts_field front ++ u)) ≡ parts_field ys ++ v =
    sym (append_assoc (parts_field ys) (part_field q) (parts_field front ++ u)) ∙ sym (append_assoc (parts_field ys ++ part_field q) (parts_field front) u) ∙ sym (ap (λ (l : List ℕ). l ++ u) row) ∙ same in
    sym (append_cancel_left (parts_field ys) (part_field q ++ (parts_field front ++ u)) v all)

from_nothing : (ys : List FilePart) → GoesOn ys []
from_nothing [] = is_equal refl
from_nothing (a ∷ rest) = one_more a rest (from_nothing rest)
  where
    one_more : (a : FilePart) (rest : List FilePart) → GoesOn rest [] → GoesOn (a ∷ rest) []
    one_more a rest (is_equal is) = is_longer a [] (ap (λ (l : List FilePart). a ∷ l) is)
    one_more a rest (is_longer q front is) = is_longer q (a ∷ front) (ap (λ (l : List FilePart). a ∷ l) is)

step : (p : FilePart) (xs ys : List FilePart) (u v : List ℕ) → AreParts (p ∷ xs) → AreParts ys → parts_field (p ∷ xs) ++ u ≡ parts_field ys ++ v → GoesOn xs ys ⊎ GoesOn ys xs → GoesOn (p ∷ xs) ys ⊎ GoesOn ys (p ∷ xs)
step p xs ys u v in_x in_y same (inl (is_equal is)) = inl (is_longer p [] (ap (λ (l : List FilePart). p ∷ l) is))
step p xs ys u v in_x in_y same (inl (is_longer q front is)) = inl (is_longer q (p ∷ front) (ap (λ (l : List FilePart). p ∷ l) is))
step p xs ys u v in_x in_y same (inr (is_equal is)) = inl (is_longer p [] (ap (λ (l : List FilePart). p ∷ l) (sym is)))
step p xs ys u v in_x in_y same (inr (is_longer q front is)) =
    let apart : parts_field ys ++ v ≡ parts_field xs ++ (part_field p ++ u) = sym same ∙ append_assoc (parts_field xs) (part_field p) u in
    let behind : part_field p ++ u ≡ part_field q ++ (parts_field front ++ v) = rest_of ys xs front q v (part_field p ++ u) is apart in
    let may = before_of front q xs (subst AreParts is in_y) in
    let one = one_part xs p q u (parts_field front ++ v) in_x.1 in_x.0 may.0 behind in
    inr (goes_on front p xs ys (is ∙ ap (λ (r : FilePart). front ++ r ∷ xs) (sym one.part)))
  where
    goes_from : (front : List FilePart) (p : FilePart) (xs ys : List FilePart) → GoesOn front [] → ys ≡ front ++ p ∷ xs → GoesOn ys (p ∷ xs)
    goes_from front p xs ys (is_equal nil) is = is_equal (is ∙ ap (λ (l : List FilePart). l ++ p ∷ xs) nil)
    goes_from front p xs ys (is_longer q f at) is = is_longer q f (is ∙ ap (λ (l : List FilePart). l ++ p ∷ xs) at ∙ append_assoc f (q ∷ []) (p ∷ xs))

    goes_on : (front : List FilePart) (p : FilePart) (xs ys : List FilePart) → ys ≡ front ++ p ∷ xs → GoesOn ys (p ∷ xs)
    goes_on front p xs ys is = goes_from front p xs ys (from_nothing front) is

one_row : (xs ys : List FilePart) (u v : List ℕ) → AreParts xs → AreParts ys → parts_field xs ++ u ≡ parts_field ys ++ v → GoesOn xs ys ⊎ GoesOn ys xs
one_row [] ys u v in_x in_y same = inr (from_nothing ys)
one_row (p ∷ xs) ys u v in_x in_y same =
    step p xs ys u v in_x in_y same (one_row xs ys (part_field p ++ u) v in_x.1 in_y (sym (append_assoc (parts_field xs) (part_field p) u) ∙ same))

-- ---- one place

-- the row of the first bad part does not go on
no_more : (bytes : List ℕ) (from at : ℕ) (b : IsFirstBadPart from bytes at) (xs : List FilePart) (u : List ℕ) → AreParts xs → bytes ≡ parts_field xs ++ u → GoesOn xs b.parts → xs ≡ b.parts
no_more bytes from at b xs u are split (is_equal is) = is
no_more bytes from at b xs u are split (is_longer q front is) =
    let behind = rest_of xs b.parts front q u b.rest is (sym split ∙ b.split) in
    absurd (b.next q (parts_field front ++ u) (before_of front q b.parts (subst AreParts is are)).0 behind)

pub one_place : (bytes : List ℕ) (from x y : ℕ) → IsFirstBadPart from bytes x → IsFirstBadPart from bytes y → x ≡ y
one_place bytes from x y a b =
    let same : a.parts ≡ b.parts = decide (one_row a.parts b.parts a.rest b.rest a.good b.good (sym a.split ∙ b.split)) in
    a.place ∙ ap (λ (l : List FilePart). from + length (parts_field l)) same ∙ sym b.place
  where
    decide : GoesOn a.parts b.parts ⊎ GoesOn b.parts a.parts → a.parts ≡ b.parts
    decide (inl on) = no_more bytes from y b a.parts a.rest a.good a.split on
    decide (inr on) = sym (no_more bytes from x a b.parts b.rest b.good b.split on)

-- bytes that are parts which may end have no bad part
pub none_bad : (bytes : List ℕ) (from at : ℕ) (parts : List FilePart) → AreParts parts → MayEnd parts → bytes ≡ parts_field parts → IsFirstBadPart from bytes at → ⊥
none_bad bytes from at parts are may is b =
    let split : bytes ≡ parts_field parts ++ [] = is ∙ sym (append-nil (parts_field parts)) in
    decide split (one_row parts b.parts [] b.rest are b.good (sym split ∙ b.split))
  where
    whole : parts ≡ b.parts → bytes ≡ parts_field parts ++ [] → ⊥
    whole same split =
        let here : bytes ≡ parts_field b.parts ++ [] = split ∙ ap (λ (l : List FilePart). parts_field l ++ []) same in
        b.unfinished (append_cancel_left (parts_field b.parts) b.rest [] (sym b.split ∙ here)) (subst MayEnd same may)

    longer : (q : FilePart) (front : List FilePart) → b.parts ≡ front ++ q ∷ parts → bytes ≡ parts_field parts ++ [] → ⊥
    longer q front on split =
        let behind : [] ≡ part_field q ++ (parts_field front ++ b.rest) = rest_of b.parts parts front q b.rest [] on (sym b.split ∙ split) in
        let n = ap length behind in
        let m = length-append (part_field q) (parts_field front ++ b.rest) in
        let some = part_some q in
        absurd (omega (arith, n, m, some))

    decide : bytes ≡ parts_field parts ++ [] → GoesOn parts b.parts ⊎ GoesOn b.parts parts → ⊥
    decide split (inl on) = whole (no_more bytes from at b parts [] are split on) split
    decide split (inr (is_equal same)) = whole (sym same) split
    decide split (inr (is_longer q front on)) = longer q front on split
