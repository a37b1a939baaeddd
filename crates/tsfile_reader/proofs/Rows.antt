-- Pages, chunks and groups as parts one behind another, the nearest first.
use Rattle.std.proofs.Common.{◌≡◌, ℕ, ◌+◌, ◌<◌, ◌≤◌, List, [], ◌∷◌, ◌++◌, length, get_or, refl, sym, ap, subst, ◌∙◌, append_assoc, arith}
use Rattle.std.specs.Prelude.{◌<ℤ◌, AllPairs}
use Rattle.std.specs.List.{flat_map, AllByRecursion}
use Rattle.std.proofs.lemmas.List.{append-nil, get_or_append_left, length-append}
use Rattle.tsdb_base.specs.declared.point.Point.{Point}
use Rattle.tsdb_base.specs.declared.value.DataType.{DataType}
use Rattle.tsdb_base.specs.declared.value.Encoding.{Encoding}
use Rattle.tsdb_path.specs.Nodes.{IsPath}
use Rattle.tsdb_pages.specs.declared.tree.Page.{Page}
use Rattle.tsdb_pages.specs.declared.tree.Chunk.{Chunk}
use Rattle.tsdb_pages.specs.declared.tree.Group.{Group}
use Rattle.tsdb_pages.specs.File.{chunk_field, group_field, page_field}
use Rattle.tsdb_base.specs.Limits.{max_pages}
use Rattle.tsdb_base.specs.Points.{IsRising}
use Rattle.tsdb_pages.specs.Trees.{IsBefore, IsGroup, page_points}
use Rattle.tsdb_pages.proofs.Files.{IsPageOf, IsWholeChunk, pages_of_chunk}
use Rattle.tsdb_pages.proofs.Order.{pairs_behind}
use Rattle.tsfile_reader.specs.Parts.{AreParts, IsBehindChunk, IsBehindGroup, MayEnd, MayFollow, FilePart, page_count, part_field, parts_field}

-- ---- lists whose elements stand so to all later ones

pub pairs_left : {A : Type 0} (R : A → A → Type 0) (xs ys : List A) → AllPairs R (xs ++ ys) → AllPairs R xs
pairs_left R xs ys pairs = λ i j d l m.
    let n = length-append xs ys in
    subst (λ b. R (get_or xs i d) b) (get_or_append_left xs ys d j m) (subst (λ a. R a (get_or (xs ++ ys) j d)) (get_or_append_left xs ys d i (omega (arith, l, m))) (pairs i j d l (omega (arith, m, n))))

pub last_same : {A : Type 0} (xs ys : List A) (x y : A) → xs ++ x ∷ [] ≡ ys ++ y ∷ [] → x ≡ y
last_same [] [] x y e = cc
last_same [] (z ∷ []) x y e = absurd cc
last_same [] (z ∷ w ∷ zs) x y e = absurd cc
last_same (z ∷ []) [] x y e = absurd cc
last_same (z ∷ w ∷ zs) [] x y e = absurd cc
last_same (z ∷ zs) (w ∷ ws) x y e = let rest : zs ++ x ∷ [] ≡ ws ++ y ∷ [] = cc in last_same zs ws x y rest

-- ---- pages

-- these parts, and pages behind them
abbrev pub after_pages : DataType → Encoding → List Page → List FilePart → List FilePart
after_pages t e [] before = before
after_pages t e (p ∷ ps) before = after_pages t e ps (FilePart.Page t e p.points ∷ before)

pub pages_field : (t : DataType) (e : Encoding) (pages : List Page) (before : List FilePart) → parts_field (after_pages t e pages before) ≡ parts_field before ++ flat_map (page_field e) pages
pages_field t e [] before = sym (append-nil (parts_field before))
pages_field t e (p ∷ ps) before = pages_field t e ps (FilePart.Page t e p.points ∷ before) ∙ append_assoc (parts_field before) (page_field e p) (flat_map (page_field e) ps)

follow_pages : (t : DataType) (e : Encoding) (pages : List Page) (last : List Point) (before : List FilePart) → AreParts (FilePart.Page t e last ∷ before) → AllByRecursion (IsPageOf t) pages → IsRising (last ++ page_points pages) → 1 + page_count before + length pages ≤ max_pages
    → AreParts (after_pages t e pages (FilePart.Page t e last ∷ before))
follow_pages t e [] last before are good rising few = are
follow_pages t e (p ∷ ps) last before are good rising few =
    let apart : IsRising ((last ++ p.points) ++ page_points ps) = subst IsRising (sym (append_assoc last p.points (page_points ps))) rising in
    follow_pages t e ps p.points (FilePart.Page t e last ∷ before) ((refl, refl, good.0, pairs_left (λ (a b : Point). a.time <ℤ b.time) (last ++ p.points) (page_points ps) apart, omega (arith, few)), are) good.1 (pairs_behind (λ (a b : Point). a.time <ℤ b.time) last (p.points ++ page_points ps) rising) (omega (arith, few))

pub good_pages : (t : DataType) (e : Encoding) (m : List ℕ) (pages : List Page) (before : List FilePart) → AreParts (FilePart.Chunk m t e ∷ before) → AllByRecursion (IsPageOf t) pages → IsRising (page_points pages) → length pages ≤ max_pages
    → AreParts (after_pages t e pages (FilePart.Chunk m t e ∷ before))
good_pages t e m [] before are good rising few = are
good_pages t e m (p ∷ ps) before are good rising few = follow_pages t e ps p.points (FilePart.Chunk m t e ∷ before) ((refl, refl, good.0), are) good.1 rising (omega (arith, few))

-- the last of pages, behind what
pub record LastPage (t : DataType) (e : Encoding) (pages : List Page) (before : List FilePart) : Type 0 where
  pub last : Page
  pub rest : List FilePart
  pub front : List Point
  pub is : after_pages t e pages before ≡ FilePart.Page t e last.points ∷ rest
  pub count : 1 + page_count rest ≡ length pages + page_count before
  pub points : page_points pages ≡ front ++ last.points
  pub some : AllByRecursion (λ (p : Page). 0 < length p.points) pages → 0 < length last.points
  pub to_chunk : (x : List ℕ) → IsBehindChunk rest x → IsBehindChunk before x
  pub from_chunk : (x : List ℕ) → IsBehindChunk before x → IsBehindChunk rest x
  pub to_group : (x : List ℕ) → IsBehindGroup rest x → IsBehindGroup before x
  pub from_group : (x : List ℕ) → IsBehindGroup before x → IsBehindGroup rest x

last_page_of : (t : DataType) (e : Encoding) (p : Page) (ps : List Page) (before : List FilePart) → LastPage t e (p ∷ ps) before
last_page_of t e p [] before = record {
  last = p;
  rest = before;
  front = [];
  is = refl;
  count = refl;
  points = append-nil p.points;
  some = λ all. all.0;
  to_chunk = λ x b. b;
  from_chunk = λ x b. b;
  to_group = λ x b. b;
  from_group = λ x b. b;
}
last_page_of t e p (q ∷ qs) before =
    let r = last_page_of t e q qs (FilePart.Page t e p.points ∷ before) in
    record {
      last = r.last;
      rest = r.rest;
      front = p.points ++ r.front;
      is = r.is;
      count = let n = r.count in omega (arith, n);
      points = ap (λ (l : List Point). p.points ++ l) r.points ∙ sym (append_assoc p.points r.front r.last.points);
      some = λ all. r.some all.1;
      to_chunk = λ x b. r.to_chunk x b;
      from_chunk = λ x b. r.from_chunk x b;
      to_group = λ x b. r.to_group x b;
      from_group = λ x b. r.from_group x b;
    }

pub last_page : (t : DataType) (e : Encoding) (pages : List Page) (before : List FilePart) → 0 < length pages → LastPage t e pages before
last_page t e [] before some = absurd (omega (arith, some))
last_page t e (p ∷ ps) before some = last_page_of t e p ps before

-- ---- chunks

abbrev pub chunk_of : Chunk → FilePart
chunk_of c = FilePart.Chunk c.measurement c.data_type c.encoding

-- these parts, and a chunk behind them
abbrev pub after_chunk : Chunk → List FilePart → List FilePart
after_chunk c before = after_pages c.data_type c.encoding c.pages (chunk_of c ∷ before)

abbrev pub after_chunks : List Chunk → List FilePart → List FilePart
after_chunks [] before = before
after_chunks (c ∷ cs) before = after_chunks cs (after_chunk c before)

pub chunk_text : (c : Chunk) (before : List FilePart) → parts_field (after_chunk c before) ≡ parts_field before ++ chunk_field c
chunk_text c before =
    pages_field c.data_type c.encoding c.pages (chunk_of c ∷ before) ∙ append_assoc (parts_field before) (part_field (chunk_of c)) (flat_map (page_field c.encoding) c.pages)

pub chunks_text : (chunks : List Chunk) (before : List FilePart) → parts_field (after_chunks chunks before) ≡ parts_field before ++ flat_map chunk_field chunks
chunks_text [] before = sym (append-nil (parts_field before))
chunks_text (c ∷ cs) before = chunks_text cs (after_chunk c before) ∙ ap (λ (l : List ℕ). l ++ flat_map chunk_field cs) (chunk_text c before) ∙ append_assoc (parts_field before) (chunk_field c) (flat_map chunk_field cs)

pub good_chunk : (c : Chunk) (before : List FilePart) → IsWholeChunk c → AreParts (chunk_of c ∷ before) → AreParts (after_chunk c before)
good_chunk c before whole are = good_pages c.data_type c.encoding c.measurement c.pages before are (pages_of_chunk c whole) whole.0.rising whole.0.few

-- behind a chunk stands a page, and a chunk of a greater measurement may
pub record LastChunk (c : Chunk) (before parts : List FilePart) : Type 0 where
  pub t : DataType
  pub e : Encoding
  pub points : List Point
  pub rest : List FilePart
  pub is : parts ≡ FilePart.Page t e points ∷ rest
  pub to_chunk : (x : List ℕ) → IsBehindChunk rest x → IsBefore c.measurement x
  pub from_chunk : (x : List ℕ) → IsBefore c.measurement x → IsBehindChunk rest x
  pub to_group : (x : List ℕ) → IsBehindGroup rest x → IsBehindGroup before x
  pub from_group : (x : List ℕ) → IsBehindGroup before x → IsBehindGroup rest x

pub last_chunk : (c : Chunk) (before : List FilePart) → IsWholeChunk c → LastChunk c before (after_chunk c before)
last_chunk c before whole =
    let l = last_page c.data_type c.encoding c.pages (chunk_of c ∷ before) whole.0.some in
    record {
      t = c.data_type;
      e = c.encoding;
      points = l.last.points;
      rest = l.rest;
      is = l.is;
      to_chunk = λ x b. l.to_chunk x b;
      from_chunk = λ x b. l.from_chunk x b;
      to_group = λ x b. l.to_group x b;
      from_group = λ x b. l.from_group x b;
    }

-- a chunk may follow one of a lesser measurement
next_chunk : (c d : Chunk) (before parts : List FilePart) → LastChunk c before parts → AreParts parts → IsWholeChunk d → IsBefore c.measurement d.measurement → AreParts (chunk_of d ∷ parts)
next_chunk c d before parts last are whole less =
    (subst (λ (l : List FilePart). MayFollow l (chunk_of d)) (sym last.is) (whole.1.measurement, whole.0.suits, last.from_chunk d.measurement less), are)

follow_chunks : (c : Chunk) (chunks : List Chunk) (before : List FilePart) → AreParts (after_chunk c before) → IsWholeChunk c → AllByRecursion IsWholeChunk chunks → AllPairs (λ (a b : Chunk). IsBefore a.measurement b.measurement) (c ∷ chunks) → AreParts (after_chunks chunks (after_chunk c before))
follow_chunks c [] before are whole good rising = are
follow_chunks c (d ∷ ds) before are whole good rising =
    let less : IsBefore c.measurement d.measurement = rising 0 1 d (omega arith) (omega arith) in
    let there = next_chunk c d before (after_chunk c before) (last_chunk c before whole) are good.0 less in
    follow_chunks d ds (after_chunk c before) (good_chunk d (after_chunk c before) good.0 there) good.0 good.1 (pairs_behind (λ (a b : Chunk). IsBefore a.measurement b.measurement) (c ∷ []) (d ∷ ds) rising)

pub good_chunks : (device : List ℕ) (chunks : List Chunk) (before : List FilePart) → AreParts (FilePart.Group device ∷ before) → AllByRecursion IsWholeChunk chunks → AllPairs (λ (a b : Chunk). IsBefore a.measurement b.measurement) chunks → AreParts (after_chunks chunks (FilePart.Group device ∷ before))
good_chunks device [] before are good rising = are
good_chunks device (c ∷ cs) before are good rising =
    follow_chunks c cs (FilePart.Group device ∷ before) (good_chunk c (FilePart.Group device ∷ before) good.0 ((good.0.1.measurement, good.0.0.suits), are)) good.0 good.1 rising

-- the last of chunks
pub record LastOf (chunks : List Chunk) (before parts : List FilePart) : Type 0 where
  pub last : Chunk
  pub front : List Chunk
  pub ahead : List FilePart
  pub chunks-are : chunks ≡ front ++ last ∷ []
  pub chunk : LastChunk last ahead parts
  pub to_group : (x : List ℕ) → IsBehindGroup ahead x → IsBehindGroup before x
  pub from_group : (x : List ℕ) → IsBehindGroup before x → IsBehindGroup ahead x

last_of_chunks : (c : Chunk) (cs : List Chunk) (before : List FilePart) → AllByRecursion IsWholeChunk (c ∷ cs) → LastOf (c ∷ cs) before (after_chunks (c ∷ cs) before)
last_of_chunks c [] before good = record { last = c; front = []; ahead = before; chunks-are = refl; chunk = last_chunk c before good.0; to_group = λ x b. b; from_group = λ x b. b }
last_of_chunks c (d ∷ ds) before good =
    let r = last_of_chunks d ds (after_chunk c before) good.1 in
    let here = last_chunk c before good.0 in
    record {
      last = r.last;
      front = c ∷ r.front;
      ahead = r.ahead;
      chunks-are = ap (λ (l : List Chunk). c ∷ l) r.chunks-are;
      chunk = r.chunk;
      to_group = λ x b. here.to_group x (subst (λ (l : List FilePart). IsBehindGroup l x) here.is (r.to_group x b));
      from_group = λ x b. r.from_group x (subst (λ (l : List FilePart). IsBehindGroup l x) (sym here.is) (here.from_group x b));
    }

pub last_of : (chunks : List Chunk) (before : List FilePart) → 0 < length chunks → AllByRecursion IsWholeChunk chunks → LastOf chunks before (after_chunks chunks before)
last_of [] before some good = absurd (omega (arith, some))
last_of (c ∷ cs) before some good = last_of_chunks c cs before good

-- ---- groups

-- these parts, and a group behind them
abbrev pub after_group : Group → List FilePart → List FilePart
after_group g before = after_chunks g.chunks (FilePart.Group g.device ∷ before)

abbrev pub after_groups : List Group → List FilePart → List FilePart
after_groups [] before = before
after_groups (g ∷ gs) before = after_groups gs (after_group g before)

pub group_text : (g : Group) (before : List FilePart) → parts_field (after_group g before) ≡ parts_field before ++ group_field g
group_text g before = chunks_text g.chunks (FilePart.Group g.device ∷ before) ∙ append_assoc (parts_field before) (part_field (FilePart.Group g.device)) (flat_map chunk_field g.chunks)

pub groups_text : (groups : List Group) (before : List FilePart) → parts_field (after_groups groups before) ≡ parts_field before ++ flat_map group_field groups
groups_text [] before = sym (append-nil (parts_field before))
groups_text (g ∷ gs) before = groups_text gs (after_group g before) ∙ ap (λ (l : List ℕ). l ++ flat_map group_field gs) (group_text g before) ∙ append_assoc (parts_field before) (group_field g) (flat_map group_field gs)

-- a group as a tree has it
pub record IsFullGroup (g : Group) : Type 0 where
  pub device : IsPath g.device
  pub is : IsGroup g
  pub whole : AllByRecursion IsWholeChunk g.chunks

pub good_group : (g : Group) (before : List FilePart) → IsFullGroup g → AreParts (FilePart.Group g.device ∷ before) → AreParts (after_group g before)
good_group g before full are = good_chunks g.device g.chunks before are full.whole full.is.rising

-- behind a group stands a page, and a group of a greater device may
pub record LastGroup (g : Group) (parts : List FilePart) : Type 0 where
  pub t : DataType
  pub e : Encoding
  pub points : List Point
  pub rest : List FilePart
  pub is : parts ≡ FilePart.Page t e points ∷ rest
  pub to_group : (x : List ℕ) → IsBehindGroup rest x → IsBefore g.device x
  pub from_group : (x : List ℕ) → IsBefore g.device x → IsBehindGroup rest x

pub last_group : (g : Group) (before : List FilePart) → IsFullGroup g → LastGroup g (after_group g before)
last_group g before full =
    let l = last_of g.chunks (FilePart.Group g.device ∷ before) full.is.some full.whole in
    record {
      t = l.chunk.t;
      e = l.chunk.e;
      points = l.chunk.points;
      rest = l.chunk.rest;
      is = l.chunk.is;
      to_group = λ x b. l.to_group x (l.chunk.to_group x b);
      from_group = λ x b. l.chunk.from_group x (l.from_group x b);
    }

follow_groups : (g : Group) (groups : List Group) (before : List FilePart) → AreParts (after_group g before) → IsFullGroup g → AllByRecursion IsFullGroup groups → AllPairs (λ (a b : Group). IsBefore a.device b.device) (g ∷ groups) → AreParts (after_groups groups (after_group g before))
follow_groups g [] before are full good rising = are
follow_groups g (h ∷ hs) before are full good rising =
    let less : IsBefore g.device h.device = rising 0 1 h (omega arith) (omega arith) in
    let last = last_group g before full in
    let there : AreParts (FilePart.Group h.device ∷ after_group g before) = (subst (λ (l : List FilePart). MayFollow l (FilePart.Group h.device)) (sym last.is) (good.0.device, last.from_group h.device less), are) in
    follow_groups h hs (after_group g before) (good_group h (after_group g before) good.0 there) good.0 good.1 (pairs_behind (λ (a b : Group). IsBefore a.device b.device) (g ∷ []) (h ∷ hs) rising)

pub good_groups : (groups : List Group) → AllByRecursion IsFullGroup groups → AllPairs (λ (a b : Group). IsBefore a.device b.device) groups → AreParts (after_groups groups [])
good_groups [] good rising = tt
good_groups (g ∷ gs) good rising = follow_groups g gs [] (good_group g [] good.0 (good.0.device, tt)) good.0 good.1 rising

-- groups end behind a page
ends_from : (g : Group) (groups : List Group) (before : List FilePart) → IsFullGroup g → AllByRecursion IsFullGroup groups → MayEnd (after_groups groups (after_group g before))
ends_from g [] before full good = let last = last_group g before full in subst MayEnd (sym last.is) tt
ends_from g (h ∷ hs) before full good = ends_from h hs (after_group g before) good.0 good.1

pub groups_end : (groups : List Group) → 0 < length groups → AllByRecursion IsFullGroup groups → MayEnd (after_groups groups [])
groups_end [] some good = absurd (omega (arith, some))
groups_end (g ∷ gs) some good = ends_from g gs [] good.0 good.1

-- the last of groups
pub record LastOfGroups (groups : List Group) (parts : List FilePart) : Type 0 where
  pub last : Group
  pub front : List Group
  pub groups_are : groups ≡ front ++ last ∷ []
  pub group : LastGroup last parts

last_of_groups : (g : Group) (gs : List Group) (before : List FilePart) → AllByRecursion IsFullGroup (g ∷ gs) → LastOfGroups (g ∷ gs) (after_groups (g ∷ gs) before)
last_of_groups g [] before good = record { last = g; front = []; groups_are = refl; group = last_group g before good.0 }
last_of_groups g (h ∷ hs) before good =
    let r = last_of_groups h hs (after_group g before) good.1 in
    record { last = r.last; front = g ∷ r.front; groups_are = ap (λ (l : List Group). g ∷ l) r.groups_are; group = r.group }

pub last_group_of : (groups : List Group) → 0 < length groups → AllByRecursion IsFullGroup groups → LastOfGroups groups (after_groups groups [])
last_group_of [] some good = absurd (omega (arith, some))
last_group_of (g ∷ gs) some good = last_of_groups g gs [] good
