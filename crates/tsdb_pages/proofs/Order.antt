-- Lists in which each item comes before those behind it.
use Rattle.std.proofs.Common.{◌≡◌, ℕ, zero, suc, ◌+◌, ◌-◌, ◌<◌, ◌≤◌, List, [], ◌∷◌, ◌++◌, length, get_or, take, drop, ⊎_elim, sym, ap, ◌∙◌, subst, append_assoc, arith}
use Rattle.std.specs.Prelude.{◌<ℤ◌, ◌≤ℤ◌, All, AllPairs, Contains}
use Rattle.std.specs.List.{AllAdjacentBelow}
use Rattle.std.proofs.lemmas.Bool.{cases_lt}
use Rattle.std.proofs.lemmas.Cmp.{nat_list_cmp_total}
use Rattle.std.specs.Cmp.Lexicographic.{slice_cmp}
use Rattle.std.specs.declared.cmp.Ordering.TheVariants.{Less}
use Rattle.std.specs.Ordering.{nat_cmp}
use Rattle.std.proofs.lemmas.Grind.{flat_map-append}
use Rattle.std.proofs.lemmas.Int.{ints}
use Rattle.std.proofs.lemmas.List.{append-nil, get_or_append_left, get_or-append-add, get_or_read, length-append, take-append-drop, take_more}
use Rattle.std.proofs.lemmas.List.Elements.{All-contains, Contains-append_left, Contains-append_right, Contains-get_or}
use Rattle.tsdb_base.specs.declared.point.Point.{Point}
use Rattle.tsdb_pages.specs.declared.tree.Chunk.{Chunk}
use Rattle.tsdb_pages.specs.declared.tree.Group.{Group}
use Rattle.tsdb_pages.specs.declared.tree.Page.{Page}
use Rattle.tsdb_base.specs.Points.{IsRising}
use Rattle.tsdb_pages.specs.Trees.{chunks_of, page_points}

-- ---- from each item and the next to all pairs

behind : {X : Type 0} (R : X → X → Type 0) (trans : (a b c : X) → R a b → R b c → R a c) (xs : List X) → AllAdjacentBelow R xs (length xs)
    → (gap i : ℕ) (d : X) → i + gap + 1 < length xs → R (get_or xs i d) (get_or xs (i + gap + 1) d)
behind R trans xs next zero i d l =
    let place : i + 1 ≡ i + 0 + 1 = omega arith in
    subst (λ k. R (get_or xs i d) (get_or xs k d)) place (next i d (omega arith))
behind R trans xs next (suc gap) i d l =
    let near : R (get_or xs i d) (get_or xs (i + gap + 1) d) = behind R trans xs next gap i d (omega arith) in
    let step : R (get_or xs (i + gap + 1) d) (get_or xs (i + gap + 1 + 1) d) = next (i + gap + 1) d (omega arith) in
    let place : i + gap + 1 + 1 ≡ i + suc gap + 1 = omega arith in
    subst (λ k. R (get_or xs i d) (get_or xs k d)) place (trans (get_or xs i d) (get_or xs (i + gap + 1) d) (get_or xs (i + gap + 1 + 1) d) near step)

pub pairs_from_adjacent : {X : Type 0} (R : X → X → Type 0) (trans : (a b c : X) → R a b → R b c → R a c) (xs : List X) → AllAdjacentBelow R xs (length xs) → AllPairs R xs
pairs_from_adjacent R trans xs next i j d l m =
    let place : i + (j - i - 1) + 1 ≡ j = omega arith in
    subst (λ k. R (get_or xs i d) (get_or xs k d)) place (behind R trans xs next (j - i - 1) i d (omega arith))

-- an item that does not come behind the one before it
pub not_pairs : {X : Type 0} (R : X → X → Type 0) (xs : List X) (n : ℕ) (x y : X) → 1 ≤ n → n < length xs → x ≡ get_or xs n x → y ≡ get_or xs (n - 1) y → (R y x → ⊥) → AllPairs R xs → ⊥
not_pairs R xs n x y some l ex ey none pairs =
    let step : R (get_or xs (n - 1) y) (get_or xs n y) = pairs (n - 1) n y (omega arith) l in
    let first : R y (get_or xs n y) = subst (λ p. R p (get_or xs n y)) (sym ey) step in
    none (subst (λ p. R y p) (sym (get_or_read xs n x l ex y)) first)

pub rises : (a b c : Point) → a.time <ℤ b.time → b.time <ℤ c.time → a.time <ℤ c.time
rises a b c l m = omega (arith, ints)

-- ---- two lists, one behind the other

pub pairs_append : {X : Type 0} (R : X → X → Type 0) (xs ys : List X) → AllPairs R xs → AllPairs R ys → ((x y : X) → Contains xs x → Contains ys y → R x y) → AllPairs R (xs ++ ys)
pairs_append {X} R xs ys in_xs in_ys between i j d l m =
    let len : length (xs ++ ys) ≡ length xs + length ys = length-append xs ys in
    ⊎_elim
    (λ (early : j < length xs).
    subst (λ a. R a (get_or (xs ++ ys) j d)) (sym (get_or_append_left xs ys d i (omega arith)))
    (subst (λ b. R (get_or xs i d) b) (sym (get_or_append_left xs ys d j early)) (in_xs i j d l early)))
    (λ (late : length xs ≤ j).
    let rest : j ≡ length xs + (j - length xs) = omega arith in
    let there : get_or (xs ++ ys) j d ≡ get_or ys (j - length xs) d = ap (λ (n : ℕ). get_or (xs ++ ys) n d) rest ∙ get_or-append-add xs ys (j - length xs) d in
    subst (λ b. R (get_or (xs ++ ys) i d) b) (sym there)
    (⊎_elim
    (λ (before : i < length xs).
    subst (λ a. R a (get_or ys (j - length xs) d)) (sym (get_or_append_left xs ys d i before))
    (between (get_or xs i d) (get_or ys (j - length xs) d) (Contains-get_or xs i d before) (Contains-get_or ys (j - length xs) d (omega arith))))
    (λ (both : length xs ≤ i).
    let rest_i : i ≡ length xs + (i - length xs) = omega arith in
    let there_i : get_or (xs ++ ys) i d ≡ get_or ys (i - length xs) d = ap (λ (n : ℕ). get_or (xs ++ ys) n d) rest_i ∙ get_or-append-add xs ys (i - length xs) d in
    subst (λ a. R a (get_or ys (j - length xs) d)) (sym there_i) (in_ys (i - length xs) (j - length xs) d (omega arith) (omega arith)))
    (cases_lt i (length xs))))
    (cases_lt j (length xs))

pub pairs_across : {X : Type 0} (R : X → X → Type 0) (xs ys : List X) (x y : X) → AllPairs R (xs ++ ys) → Contains xs x → Contains ys y → R x y
pairs_across R xs ys x y pairs (i, l, at_x) (j, m, at_y) =
    let len : length (xs ++ ys) ≡ length xs + length ys = length-append xs ys in
    let step : R (get_or (xs ++ ys) i x) (get_or (xs ++ ys) (length xs + j) x) = pairs i (length xs + j) x (omega arith) (omega arith) in
    let first : get_or (xs ++ ys) i x ≡ x = get_or_append_left xs ys x i l ∙ at_x in
    let second : get_or (xs ++ ys) (length xs + j) x ≡ y = get_or-append-add xs ys j x ∙ sym (get_or_read ys j y m (sym at_y) x) in
    subst (λ b. R x b) second (subst (λ a. R a (get_or (xs ++ ys) (length xs + j) x)) first step)

pairs_one : {A : Type 0} (R : A → A → Type 0) (x : A) → AllPairs R (x ∷ [])
pairs_one R x i j d lt within = absurd (omega arith)

pub pairs_push : {A : Type 0} (R : A → A → Type 0) (xs : List A) (y : A) → AllPairs R xs → All (λ x. R x y) xs → AllPairs R (xs ++ y ∷ [])
pairs_push R xs y pairs before = pairs_append R xs (y ∷ []) pairs (pairs_one R y) (λ x z in_xs in_y. subst (R x) (sym (only y z in_y)) (All-contains (λ x. R x y) xs x before in_xs))
  where
    only : {A : Type 0} (y z : A) → Contains (y ∷ []) z → z ≡ y
    only y z (zero, lt, at) = sym at
    only y z (suc k, lt, at) = absurd (omega arith)

-- of pairs in two lists, those in the second
pub pairs_behind : {A : Type 0} (R : A → A → Type 0) (xs ys : List A) → AllPairs R (xs ++ ys) → AllPairs R ys
pairs_behind R xs ys pairs i j d lt within =
    let n : length (xs ++ ys) ≡ length xs + length ys = length-append xs ys in
    let step = pairs (length xs + i) (length xs + j) d (omega (arith, lt)) (omega (arith, within, n)) in
    subst (λ b. R (get_or ys i d) b) (get_or-append-add xs ys j d) (subst (λ a. R a (get_or (xs ++ ys) (length xs + j) d)) (get_or-append-add xs ys i d) step)

-- ---- times that rise through pages

-- no point is later than the last
pub at_most_last : (xs : List Point) (last x : Point) → last ≡ get_or xs (length xs - 1) last → IsRising xs → Contains xs x → x.time ≤ℤ last.time
at_most_last xs last x is rising (k, l, at) =
    let end : get_or xs (length xs - 1) x ≡ last = sym (get_or_read xs (length xs - 1) last (omega arith) is x) in
    ⊎_elim
    (λ (before : k < length xs - 1).
    let less : (get_or xs k x).time <ℤ (get_or xs (length xs - 1) x).time = rising k (length xs - 1) x before (omega arith) in
    let here : x.time <ℤ (get_or xs (length xs - 1) x).time = subst (λ (p : Point). p.time <ℤ (get_or xs (length xs - 1) x).time) at less in
    let there : x.time <ℤ last.time = subst (λ (p : Point). x.time <ℤ p.time) end here in
    omega (arith, ints))
    (λ (late : length xs - 1 ≤ k).
    let same : k ≡ length xs - 1 = omega arith in
    let there : x ≡ last = sym at ∙ ap (λ (n : ℕ). get_or xs n x) same ∙ end in
    let times : x.time ≡ last.time = ap (λ (p : Point). p.time) there in
    omega (arith, ints))
    (cases_lt k (length xs - 1))

-- no point is earlier than the first
pub at_least_first : (xs : List Point) (first x : Point) → first ≡ get_or xs 0 first → IsRising xs → Contains xs x → first.time ≤ℤ x.time
at_least_first xs first x is rising (k, l, at) =
    let start : get_or xs 0 x ≡ first = sym (get_or_read xs 0 first (omega arith) is x) in
    ⊎_elim
    (λ (none : k < 1).
    let same : k ≡ 0 = omega arith in
    let there : x ≡ first = sym at ∙ ap (λ (n : ℕ). get_or xs n x) same ∙ start in
    let times : x.time ≡ first.time = ap (λ (p : Point). p.time) there in
    omega (arith, ints))
    (λ (some : 1 ≤ k).
    let less : (get_or xs 0 x).time <ℤ (get_or xs k x).time = rising 0 k x (omega arith) l in
    let here : first.time <ℤ (get_or xs k x).time = subst (λ (p : Point). p.time <ℤ (get_or xs k x).time) start less in
    let there : first.time <ℤ x.time = subst (λ (p : Point). first.time <ℤ p.time) at here in
    omega (arith, ints))
    (cases_lt k 1)

-- the points of pages and of one page more
pub points_push : (pages : List Page) (i : ℕ) (page : Page) → i < length pages → page ≡ get_or pages i page → page_points (take (i + 1) pages) ≡ page_points (take i pages) ++ page.points
points_push pages i page l is =
    ap page_points (take_more pages i page l ∙ ap (λ (p : Page). take i pages ++ p ∷ []) (sym is))
    ∙ flat_map-append (λ (p : Page). p.points) (take i pages) (page ∷ [])
    ∙ ap (λ (ps : List Point). page_points (take i pages) ++ ps) (append-nil page.points)

-- the last of the points before a page is the last of the page before it
end_of : (xs ys : List Point) (last : Point) → 0 < length ys → last ≡ get_or ys (length ys - 1) last → last ≡ get_or (xs ++ ys) (length (xs ++ ys) - 1) last
end_of xs ys last some is =
    let len : length (xs ++ ys) ≡ length xs + length ys = length-append xs ys in
    let place : length (xs ++ ys) - 1 ≡ length xs + (length ys - 1) = omega arith in
    is ∙ sym (ap (λ (n : ℕ). get_or (xs ++ ys) n last) place ∙ get_or-append-add xs ys (length ys - 1) last)

-- two pages side by side, the last point of one and the first of the other
pub record Meet (pages : List Page) (i : ℕ) (last first : Point) : Type 0 where
  pub before : Page
  pub page : Page
  pub some : 1 ≤ i
  pub here : i < length pages
  pub before-is : before ≡ get_or pages (i - 1) before
  pub page_is : page ≡ get_or pages i page
  pub last-is : last ≡ get_or before.points (length before.points - 1) last
  pub first-is : first ≡ get_or page.points 0 first

-- the two pages as they were read: the last point of one, the first of the other
pub meets : (pages : List Page) (i : ℕ) (before page : Page) (last first : Point) (front behind : List Point) → 1 ≤ i → i < length pages → before ≡ get_or pages (i - 1) before → page ≡ get_or pages i page
    → front ≡ (get_or pages (i - 1) before).points → behind ≡ (get_or pages i page).points → last ≡ get_or front (length front - 1) last → first ≡ get_or behind 0 first → Meet pages i last first
meets pages i before page last first front behind some here before_is page_is front_is behind_is last_is first_is = record {
  before = before;
  page = page;
  some = some;
  here = here;
  before-is = before_is;
  page_is = page_is;
  last-is = subst (λ (points : List Point). last ≡ get_or points (length points - 1) last) (front_is ∙ ap (λ (q : Page). q.points) (sym before_is)) last_is;
  first-is = subst (λ (points : List Point). first ≡ get_or points 0 first) (behind_is ∙ ap (λ (q : Page). q.points) (sym page_is)) first_is;
}

pub page_more : (pages : List Page) (i : ℕ) (last first : Point) → Meet pages i last first → All (λ page. 0 < length page.points) pages → All (λ page. IsRising page.points) pages
    → last.time <ℤ first.time → IsRising (page_points (take i pages)) → IsRising (page_points (take (i + 1) pages))
page_more pages i last first m full rising less so_far =
    let b = m.before in
    let p = m.page in
    let many : 0 < length b.points = subst (λ (q : Page). 0 < length q.points) (sym m.before-is) (full (i - 1) b (omega (arith, m.some, m.here))) in
    let up : IsRising p.points = subst (λ (q : Page). IsRising q.points) (sym m.page_is) (rising i p m.here) in
    let place : i - 1 + 1 ≡ i = omega (arith, m.some) in
    let parts : page_points (take i pages) ≡ page_points (take (i - 1) pages) ++ b.points = subst (λ (n : ℕ). page_points (take n pages) ≡ page_points (take (i - 1) pages) ++ b.points) place (points_push pages (i - 1) b (omega (arith, m.some, m.here)) m.before-is) in
    let end : last ≡ get_or (page_points (take i pages)) (length (page_points (take i pages)) - 1) last = rw parts (end_of (page_points (take (i - 1) pages)) b.points last many m.last-is) in
    subst IsRising (sym (points_push pages i p m.here m.page_is))
    (pairs_append (λ (x y : Point). x.time <ℤ y.time) (page_points (take i pages)) p.points so_far up
    (λ x y in_x in_y.
    let low : x.time ≤ℤ last.time = at_most_last (page_points (take i pages)) last x end so_far in_x in
    let high : first.time ≤ℤ y.time = at_least_first p.points first y m.first-is up in_y in
    omega (arith, ints)))

pub pages_fall : (pages : List Page) (i : ℕ) (last first : Point) → Meet pages i last first → All (λ page. 0 < length page.points) pages
    → first.time ≤ℤ last.time → IsRising (page_points pages) → ⊥
pages_fall pages i last first m full less rising =
    let b = m.before in
    let p = m.page in
    let many : 0 < length b.points = subst (λ (q : Page). 0 < length q.points) (sym m.before-is) (full (i - 1) b (omega (arith, m.some, m.here))) in
    let more : 0 < length p.points = subst (λ (q : Page). 0 < length q.points) (sym m.page_is) (full i p m.here) in
    let place : i - 1 + 1 ≡ i = omega (arith, m.some) in
    let parts : page_points (take i pages) ≡ page_points (take (i - 1) pages) ++ b.points = subst (λ (n : ℕ). page_points (take n pages) ≡ page_points (take (i - 1) pages) ++ b.points) place (points_push pages (i - 1) b (omega (arith, m.some, m.here)) m.before-is) in
    let front : page_points (take (i + 1) pages) ≡ page_points (take i pages) ++ p.points = points_push pages i p m.here m.page_is in
    let whole : page_points pages ≡ page_points (take i pages) ++ (p.points ++ page_points (drop (i + 1) pages)) =
    sym (ap page_points (take-append-drop (i + 1) pages)) ∙ flat_map-append (λ (q : Page). q.points) (take (i + 1) pages) (drop (i + 1) pages)
    ∙ ap (λ (ps : List Point). ps ++ page_points (drop (i + 1) pages)) front ∙ append_assoc (page_points (take i pages)) p.points (page_points (drop (i + 1) pages)) in
    let in_front : Contains (page_points (take i pages)) last = subst (λ (ps : List Point). Contains ps last) (sym parts) (Contains-append_right (page_points (take (i - 1) pages)) b.points last (length b.points - 1, omega (arith, many), sym m.last-is)) in
    let in_rest : Contains (p.points ++ page_points (drop (i + 1) pages)) first = Contains-append_left p.points (page_points (drop (i + 1) pages)) first (0, more, sym m.first-is) in
    let step : last.time <ℤ first.time = pairs_across (λ (x y : Point). x.time <ℤ y.time) (page_points (take i pages)) (p.points ++ page_points (drop (i + 1) pages)) last first (subst IsRising whole rising) in_front in_rest in
    omega (arith, ints)

pub first_page : (pages : List Page) → All (λ page. IsRising page.points) pages → IsRising (page_points (take 1 pages))
first_page [] rising = λ i j d l m. absurd (omega arith)
first_page (p ∷ ps) rising = subst IsRising (sym (append-nil p.points)) (rising 0 p (omega arith))

-- ---- names in rising order

pub names_rise : {X : Type 0} (name : X → List ℕ) (a b c : X) → slice_cmp nat_cmp (name a) (name b) ≡ Less → slice_cmp nat_cmp (name b) (name c) ≡ Less → slice_cmp nat_cmp (name a) (name c) ≡ Less
names_rise name a b c l m = nat_list_cmp_total.trans (name a) (name b) (name c) l m

-- ---- chunks of groups

pub chunks_through : (groups : List Group) (i : ℕ) (group : Group) → i < length groups → group ≡ get_or groups i group → length (chunks_of (take i groups)) + length group.chunks ≤ length (chunks_of groups)
chunks_through groups i group l is =
    let front : chunks_of (take (i + 1) groups) ≡ chunks_of (take i groups) ++ group.chunks =
    ap chunks_of (take_more groups i group l ∙ ap (λ (g : Group). take i groups ++ g ∷ []) (sym is))
    ∙ flat_map-append (λ (g : Group). g.chunks) (take i groups) (group ∷ [])
    ∙ ap (λ (cs : List Chunk). chunks_of (take i groups) ++ cs) (append-nil group.chunks) in
    let whole : chunks_of groups ≡ chunks_of (take (i + 1) groups) ++ chunks_of (drop (i + 1) groups) =
    sym (ap chunks_of (take-append-drop (i + 1) groups)) ∙ flat_map-append (λ (g : Group). g.chunks) (take (i + 1) groups) (drop (i + 1) groups) in
    let n : length (chunks_of groups) ≡ length (chunks_of (take (i + 1) groups)) + length (chunks_of (drop (i + 1) groups)) = ap length whole ∙ length-append (chunks_of (take (i + 1) groups)) (chunks_of (drop (i + 1) groups)) in
    let m : length (chunks_of (take (i + 1) groups)) ≡ length (chunks_of (take i groups)) + length group.chunks = ap length front ∙ length-append (chunks_of (take i groups)) group.chunks in
    omega (arith, n, m)
