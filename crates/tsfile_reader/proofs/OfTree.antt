-- Where the bytes are those of a tree: each page of its index stands there, and what is read of it is the tree's.
use Rattle.std.proofs.Common.{◌≡◌, ◌⊎◌, inl, inr, ℕ, ◌<◌, ◌≤◌, true, false, List, ◌++◌, length, take, drop, get_or, Vec, Ok, Err, Global, refl, sym, ap, subst, ◌∙◌, arith}
use Rattle.std.specs.Prelude.{Option, None, Some, IfSome, IfOk, Result, Contains, slice_get}
use Rattle.std.specs.Option.{ForSome}
use Rattle.std.proofs.lemmas.List.{length-append, length-drop, take-append-drop}
use Rattle.std.proofs.lemmas.List.Elements.{All-contains, All-from_recursion}
use Rattle.std.proofs.lemmas.Option.{get_or_from_slice_get, slice_get_cases, slice_get_within}
use Rattle.tsdb_base.specs.declared.point.Point.{Point}
use Rattle.tsdb_base.specs.declared.value.DataType.{DataType}
use Rattle.tsdb_base.specs.declared.value.Encoding.{Encoding}
use Rattle.tsdb_base.specs.Values.{is_suitable}
use Rattle.tsdb_index.specs.declared.index.IndexEntry.{IndexEntry}
use Rattle.tsdb_index.specs.declared.index.PageEntry.{PageEntry}
use Rattle.tsdb_pages.specs.declared.tree.Page.{Page}
use Rattle.tsdb_pages.specs.declared.tree.Chunk.{Chunk}
use Rattle.tsdb_pages.specs.declared.tree.Group.{Group}
use Rattle.tsdb_pages.specs.declared.tree.Tree.{Tree}
use Rattle.tsdb_pages.specs.File.{IsChunkEntry, IsFile, page_bytes, page_field}
use Rattle.tsdb_pages.specs.Places.{HasPlaces}
use Rattle.tsdb_pages.specs.Trees.{IsMade, IsTree}
use Rattle.tsdb_stats.specs.Statistics.{AreStatsOf}
use Rattle.tsdb_pages.proofs.Files.{IsPageOf, IsWholeChunk, IsWholeGroup, groups_of_tree, page_free, pages_of_chunk}
use Rattle.tsdb_pages.proofs.Places.{entries_stand}
use Rattle.tsfile_reader.specs.declared.fault.ReadFault.{ReadFault}
use Rattle.tsfile_reader.specs.declared.fault.ReadFault.TheVariants.{Failed, Damaged, Memory}
use Rattle.tsfile_reader.specs.Answers.{Answers, IfDamaged, IsNotDamaged}
use Rattle.tsfile_reader.specs.Page.{ArePagePoints, BeginsWithPage, HasNoPage, HasPage, IsEntryOf, LieIn, SaysOfPage}
use Rattle.tsfile_reader.proofs.PageTimes.{stats_lie}

-- the page of the tree that the entry speaks of stands there
pub record PageStands (tree : Tree) (bytes : List ℕ) (entry : IndexEntry) (number : ℕ) (said : PageEntry) : Type 0 where
  pub group : Group
  pub chunk : Chunk
  pub in_tree : Contains tree.groups group
  pub in_group : Contains group.chunks chunk
  pub says : IsChunkEntry group.device entry.place chunk entry
  pub page : Page
  pub page_is : slice_get chunk.pages number ≡ Some page
  pub inside : said.place ≤ length bytes
  pub stands : HasPage bytes entry said page.points

-- an element that is there
there : {A : Type 0} (xs : List A) (k : ℕ) → k < length xs → (x : A) × (slice_get xs k ≡ Some x)
there xs k low = pick (slice_get_cases xs k).1
  where
    pick : ((x : _) × (k < length xs) × (slice_get xs k ≡ Some x) × (get_or xs k x ≡ x)) ⊎ ((length xs ≤ k) × (slice_get xs k ≡ None)) → (x : _) × (slice_get xs k ≡ Some x)
    pick (inl found) = (found.0, found.2)
    pick (inr past) = absurd (let high = past.0 in omega (arith, low, high))

pub page_stands : (tree : Tree) (b : List ℕ) (entry : IndexEntry) (number : ℕ) (said : PageEntry) → IsTree tree → IsMade tree → IsFile tree b → IsEntryOf tree entry → SaysOfPage entry number said → PageStands tree b entry number said
page_stands tree b entry number said is made file of says =
    let p : HasPlaces tree b entry = All-contains (HasPlaces tree b) of.entries entry (entries_stand tree b of.entries file of.say) of.there in
    let whole_group : IsWholeGroup p.group = All-contains IsWholeGroup tree.groups p.group (All-from_recursion IsWholeGroup tree.groups (groups_of_tree tree is made)) p.in_tree in
    let whole : IsWholeChunk p.chunk = All-contains IsWholeChunk p.group.chunks p.chunk (All-from_recursion IsWholeChunk p.group.chunks whole_group.1) p.in_group in
    let low = slice_get_within entry.pages number said says in
    let count = p.count in
    let low_chunk : number < length p.chunk.pages = omega (arith, low, count) in
    let found = there p.chunk.pages number low_chunk in
    let page = found.0 in
    let at_page = get_or_from_slice_get p.chunk.pages number page page found.1 in
    let at_said = get_or_from_slice_get entry.pages number said said says in
    let stands = p.pages number page said low in
    let place : (get_or entry.pages number said).place ≡ said.place = ap (λ (q : PageEntry). q.place) at_said in
    let good : IsPageOf p.chunk.data_type found.0 = subst (λ (q : Page). IsPageOf p.chunk.data_type q) at_page (All-from_recursion (IsPageOf p.chunk.data_type) p.chunk.pages (pages_of_chunk p.chunk whole) number page low_chunk) in
    let field : take (length (page_field p.chunk.encoding found.0)) (drop said.place b) ≡ page_field p.chunk.encoding found.0 =
    subst (λ (q : Page). take (length (page_field p.chunk.encoding q)) (drop said.place b) ≡ page_field p.chunk.encoding q) at_page (subst (λ (n : ℕ). take (length (page_field p.chunk.encoding (get_or p.chunk.pages number page))) (drop n b) ≡ page_field p.chunk.encoding (get_or p.chunk.pages number page)) place stands.stands.bytes_are) in
    let low_place = stands.stands.inside in
    let stats : AreStatsOf found.0.points said.stats = subst (λ (q : PageEntry). AreStatsOf found.0.points q.stats) at_said (subst (λ (q : Page). AreStatsOf q.points (get_or entry.pages number said).stats) at_page stands.stats) in
    let there_is : BeginsWithPage p.chunk.data_type p.chunk.encoding (drop said.place b) found.0.points = record {
      suits = whole.0.suits;
      good = good;
      behind = drop (length (page_field p.chunk.encoding found.0)) (drop said.place b);
      split = sym (take-append-drop (length (page_field p.chunk.encoding found.0)) (drop said.place b)) ∙ ap (λ (l : List ℕ). l ++ drop (length (page_field p.chunk.encoding found.0)) (drop said.place b)) field;
    } in
    record {
      group = p.group;
      chunk = p.chunk;
      in_tree = p.in_tree;
      in_group = p.in_group;
      says = p.says;
      page = found.0;
      page_is = found.1;
      inside = omega (arith, low_place, place);
      stands = record {
        stands = kinds (drop said.place b) found.0.points entry p.chunk.data_type p.chunk.encoding p.says.type_is p.says.encoding_is there_is;
        within = stats_lie found.0.points said.stats good.0.some good.0.rising stats;
      };
    }
  where
    kinds : (bytes : List ℕ) (points : List Point) (entry : IndexEntry) (t : DataType) (c : Encoding) → entry.data_type ≡ t → entry.encoding ≡ c → BeginsWithPage t c bytes points → BeginsWithPage entry.data_type entry.encoding bytes points
    kinds bytes points entry t c same_type same_form has =
        subst (λ (q : DataType). BeginsWithPage q entry.encoding bytes points) (sym same_type) (subst (λ (q : Encoding). BeginsWithPage t q bytes points) (sym same_form) has)

-- two pages that stand at one place are the same
pub one_page_there : (t : DataType) (c : Encoding) (bytes : List ℕ) (x y : Page) → BeginsWithPage t c bytes x.points → BeginsWithPage t c bytes y.points → x.points ≡ y.points
one_page_there t c bytes x y in_x in_y =
    ap (λ (page : Page). page.points) (page_free t c in_x.suits x y in_x.behind in_y.behind in_x.good in_y.good (sym in_x.split ∙ in_y.split)).0

-- ---- the exits of reading a page

some_same : {A : Type 0} (o : Option A) (x y : A) → o ≡ Some x → o ≡ Some y → x ≡ y
some_same o x y e f =
    let both : Some x ≡ Some y = sym e ∙ f in
    cc

same_said : (entry : IndexEntry) (number : ℕ) (page said : PageEntry) → SaysOfPage entry number page → SaysOfPage entry number said → page ≡ said
same_said entry number page said x y = some_same (slice_get entry.pages number) page said x y

-- no page stands behind the end of the file, or of a type that the encoding does not suit
no_page : (b : List ℕ) (entry : IndexEntry) (page : PageEntry) (size : ℕ) → size ≡ length b → (size < page.place) ⊎ (is_suitable entry.data_type entry.encoding ≡ false) → HasNoPage b entry page
no_page b entry page size len (inl high) = λ points has_points.
    let has = has_points.stands in
    let n = length-drop page.place b in
    let m = ap length has.split in
    let k = length-append (page_bytes entry.encoding points) has.behind in
    absurd (omega (arith, len, high, n, m, k))
no_page b entry page size len (inr unfit) = λ points has.
    let fit = has.stands.suits in
    let clash : true ≡ false = sym fit ∙ unfit in
    absurd cc

pub refused : (o : Option (List ℕ)) (entry : IndexEntry) (number : ℕ) (page : PageEntry) (size : ℕ) → SaysOfPage entry number page → ForSome o (λ b. size ≡ length b) → (size < page.place) ⊎ (is_suitable entry.data_type entry.encoding ≡ false)
    → IfSome o (λ b. (said : PageEntry) → SaysOfPage entry number said → HasNoPage b entry said)
refused None entry number page size says len why = tt
refused (Some b) entry number page size says len why = λ said other.
    subst (λ (q : PageEntry). HasNoPage b entry q) (same_said entry number page said says other) (no_page b entry page size (len b refl) why)

pub refused_tree : (o : Option (List ℕ)) (entry : IndexEntry) (number : ℕ) (page : PageEntry) (size : ℕ) (P : Type 0) → SaysOfPage entry number page → ForSome o (λ b. size ≡ length b) → (size < page.place) ⊎ (is_suitable entry.data_type entry.encoding ≡ false)
    → IfSome o (λ b. (tree : Tree) → IsTree tree → IsMade tree → IsFile tree b → IsEntryOf tree entry → P)
refused_tree None entry number page size P says len why = tt
refused_tree (Some b) entry number page size P says len why = λ tree is made file of.
    let there = page_stands tree b entry number page is made file of says in
    absurd (no_page b entry page size (len b refl) why there.page.points there.stands)

pub found_points : (o : Option (List ℕ)) (entry : IndexEntry) (number : ℕ) (page : PageEntry) (r : Result (Vec Point Global) ReadFault) → SaysOfPage entry number page
    → Answers (λ b points. HasPage b entry page points.items) (λ b at. (at ≡ page.place) × HasNoPage b entry page) o r → IfOk r (λ points. IfSome o (λ b. (said : PageEntry) → SaysOfPage entry number said → HasPage b entry said points.items))
found_points None entry number page (Ok points) says answers = tt
found_points (Some b) entry number page (Ok points) says answers = λ said other. subst (λ (q : PageEntry). HasPage b entry q points.items) (same_said entry number page said says other) answers
found_points o entry number page (Err fault) says answers = tt

-- the points lie in the range that the entry says
pub within_said : (entry : IndexEntry) (number : ℕ) (page : PageEntry) (r : Result (Vec Point Global) ReadFault) → SaysOfPage entry number page → IfOk r (λ points. LieIn page.stats points.items)
    → IfOk r (λ points. (said : PageEntry) → SaysOfPage entry number said → LieIn said.stats points.items)
within_said entry number page (Ok points) says lie = λ said other. subst (λ (q : PageEntry). LieIn q.stats points.items) (same_said entry number page said says other) lie
within_said entry number page (Err fault) says lie = tt

-- the page that stands there lies in that range, or it does not
pub page_within : (o : Option (List ℕ)) (entry : IndexEntry) (page : PageEntry) (points : List Point) → IfSome o (λ b. BeginsWithPage entry.data_type entry.encoding (drop page.place b) points) → LieIn page.stats points → IfSome o (λ b. HasPage b entry page points)
page_within None entry page points stands lie = tt
page_within (Some b) entry page points stands lie = record { stands = stands; within = lie }

pub page_outside : (o : Option (List ℕ)) (entry : IndexEntry) (page : PageEntry) (points : List Point) → IfSome o (λ b. BeginsWithPage entry.data_type entry.encoding (drop page.place b) points) → (LieIn page.stats points → ⊥)
    → IfSome o (λ b. (page.place ≡ page.place) × HasNoPage b entry page)
page_outside None entry page points stands apart = tt
page_outside (Some b) entry page points stands apart = (
  refl,
  λ others has.
      let read : Page = record { points = points } in
      let there : Page = record { points = others } in
      let same : others ≡ points = one_page_there entry.data_type entry.encoding (drop page.place b) there read has.stands stands in
      apart (subst (λ (l : List Point). LieIn page.stats l) same has.within),
)

pub damaged_place : (entry : IndexEntry) (number : ℕ) (page : PageEntry) (r : Result (Vec Point Global) ReadFault) → SaysOfPage entry number page → IfDamaged r (λ at. at ≡ page.place) → IfDamaged r (λ at. (said : PageEntry) → SaysOfPage entry number said → at ≡ said.place)
damaged_place entry number page (Ok points) says is = tt
damaged_place entry number page (Err Failed) says is = tt
damaged_place entry number page (Err (Damaged at)) says is = λ said other. is ∙ ap (λ (q : PageEntry). q.place) (same_said entry number page said says other)
damaged_place entry number page (Err Memory) says is = tt

pub bad_page : (o : Option (List ℕ)) (entry : IndexEntry) (number : ℕ) (page : PageEntry) (r : Result (Vec Point Global) ReadFault) → SaysOfPage entry number page
    → Answers (λ b points. HasPage b entry page points.items) (λ b at. (at ≡ page.place) × HasNoPage b entry page) o r → IfDamaged r (λ at. IfSome o (λ b. (said : PageEntry) → SaysOfPage entry number said → HasNoPage b entry said))
bad_page o entry number page (Ok points) says answers = tt
bad_page o entry number page (Err Failed) says answers = tt
bad_page None entry number page (Err (Damaged at)) says answers = tt
bad_page (Some b) entry number page (Err (Damaged at)) says answers = λ said other. subst (λ (q : PageEntry). HasNoPage b entry q) (same_said entry number page said says other) answers.1
bad_page o entry number page (Err Memory) says answers = tt

pub tree_points : (o : Option (List ℕ)) (entry : IndexEntry) (number : ℕ) (page : PageEntry) (r : Result (Vec Point Global) ReadFault) → SaysOfPage entry number page
    → Answers (λ b points. HasPage b entry page points.items) (λ b at. (at ≡ page.place) × HasNoPage b entry page) o r
    → IfSome o (λ b. (tree : Tree) → IsTree tree → IsMade tree → IsFile tree b → IsEntryOf tree entry → IsNotDamaged r × IfOk r (λ points. ArePagePoints tree entry number points.items))
tree_points None entry number page r says answers = tt
tree_points (Some b) entry number page (Ok points) says answers = λ tree is made file of.
    let s = page_stands tree b entry number page is made file of says in
    let read : Page = record { points = points.items } in (
      tt,
      record {
        group = s.group;
        chunk = s.chunk;
        in_tree = s.in_tree;
        in_group = s.in_group;
        says = s.says;
        page = s.page;
        page_is = s.page_is;
        points_are = one_page_there entry.data_type entry.encoding (drop page.place b) read s.page answers.stands s.stands.stands;
      },
    )
tree_points (Some b) entry number page (Err Failed) says answers = λ tree is made file of. (tt, tt)
tree_points (Some b) entry number page (Err (Damaged at)) says answers = λ tree is made file of.
    let s = page_stands tree b entry number page is made file of says in
    absurd (answers.1 s.page.points s.stands)
tree_points (Some b) entry number page (Err Memory) says answers = λ tree is made file of. (tt, tt)
