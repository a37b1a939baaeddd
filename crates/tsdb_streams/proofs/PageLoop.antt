-- Pages of a file that are read one behind the other.
use Rattle.std.proofs.Common.{◌≡◌, ℕ, ◌+◌, ◌-◌, ◌*◌, ◌^◌, ◌<◌, ◌≤◌, Bool, true, false, List, [], length, refl, ap, subst, ◌∙◌, arith}
use Rattle.std.specs.Prelude.{Err}
use Rattle.tsdb_index.specs.declared.index.IndexEntry.{IndexEntry}
use Rattle.tsdb_outside.specs.declared.faults.StoreFault.{StoreFault}
use Rattle.tsdb_base.specs.declared.point.Point.{Point}
use Rattle.tsdb_base.specs.declared.point.Range.{Range}
use Rattle.tsdb_streams.proofs.FillLemmas.{gives_none, gives_then, moves_end, moves_more, none_left}
use Rattle.tsdb_streams.proofs.Reasons.{reason_then, same_reason}
use Rattle.tsdb_streams.specs.Files.{FilePages, HasReason, IsTold}
use Rattle.tsdb_streams.specs.Lanes.{ArePagesOf, Gives, IsSameFile, lane_due, pages_left}
use Rattle.tsdb_streams.specs.declared.lane.Lane.TheVariants.{Pages}
use Rattle.tsdb_streams.specs.declared.lane.PageLane.{PageLane}
use Rattle.tsdb_merge.specs.Supplies.{Moves}
use Rattle.tsdb_outside.specs.Files.{NamedFile, Store}

module _ {R : Type 0} (file : R → NamedFile) (pages : FilePages) where
  pub truth_of : (lane now : PageLane R) → IsSameFile lane now → ArePagesOf file pages lane → ArePagesOf file pages now
  truth_of lane now same truth = rw (same.right, same.entry) truth

  pub told_of : (lane now : PageLane R) → IsSameFile lane now → IsTold pages (file lane.right.now) → IsTold pages (file now.right.now)
  told_of lane now same told = rw same.right told

-- as many pages are due
pub same_due : {R : Type 0} (range : Range) (lane now : PageLane R) → IsSameFile lane now → lane_due range (Pages now) ≡ lane_due range (Pages lane)
same_due range lane now same = rw (same.passed, same.entry) refl

module _ {R : Type 0} (file : R → NamedFile) (keep : ℕ → Point → Bool) where
  -- no point was found yet, and nothing is lost
  pub record IsReading (store store_now : Store) (faults faults_now : ℕ) (lane now : PageLane R) (into : List Point) : Type 0 where
    pub empty : into ≡ []
    pub gives : (pages : FilePages) → ArePagesOf file pages lane → Gives (pages_left file pages keep lane) [] (pages_left file pages keep now)
    pub same : IsSameFile lane now
    pub further : lane.next ≤ now.next
    pub same_store : store_now ≡ store
    pub later : faults ≤ faults_now
    pub of_store : (file now.right.now).store ≡ store

  pub reads_none : (store : Store) (faults : ℕ) (lane : PageLane R) (into : List Point) → into ≡ [] → (file lane.right.now).store ≡ store → IsReading store store faults faults lane lane into
  reads_none store faults lane into none of_store = record {
    empty = none;
    gives = λ pages truth. gives_none (pages_left file pages keep lane);
    same = record { right = refl; born = refl; entry = refl; passed = refl };
    further = omega arith;
    same_store = refl;
    later = omega arith;
    of_store = of_store;
  }

  pub same_then : (a b c : PageLane R) → IsSameFile a b → IsSameFile b c → IsSameFile a c
  same_then a b c one two = record { right = two.right ∙ one.right; born = two.born ∙ one.born; entry = two.entry ∙ one.entry; passed = two.passed ∙ one.passed }

  pub reads_on : (store now_store next_store : Store) (faults now_faults next_faults : ℕ) (lane now next : PageLane R) (into more : List Point) → IsReading store now_store faults now_faults lane now into
      → ((pages : FilePages) → ArePagesOf file pages now → Gives (pages_left file pages keep now) more (pages_left file pages keep next)) → more ≡ [] → next.next ≡ now.next + 1 → IsSameFile now next → next_store ≡ now_store → now_faults ≤ next_faults
      → IsReading store next_store faults next_faults lane next more
  reads_on store now_store next_store faults now_faults next_faults lane now next into more inv gives none one same same_store later =
      let further = inv.further in
      let before = inv.later in
      record {
        empty = none;
        gives = λ pages truth. gives_then _ _ _ [] (inv.gives pages truth) (subst (λ ps. Gives (pages_left file pages keep now) ps (pages_left file pages keep next)) none (gives pages (truth_of file pages lane now inv.same truth)));
        same = same_then lane now next inv.same same;
        further = omega (arith, further, one);
        same_store = same_store ∙ inv.same_store;
        later = omega (arith, before, later);
        of_store = ap (λ r. (file r.now).store) same.right ∙ inv.of_store;
      }

  -- points were found
  pub reads_more : (store now_store : Store) (faults now_faults : ℕ) (lane now next : PageLane R) (into more : List Point) → IsReading store now_store faults now_faults lane now into
      → ((pages : FilePages) → ArePagesOf file pages now → Gives (pages_left file pages keep now) more (pages_left file pages keep next))
      → (pages : FilePages) → ArePagesOf file pages lane → Moves (pages_left file pages keep lane) true more (pages_left file pages keep next)
  reads_more store now_store faults now_faults lane now next into more inv gives pages truth =
      moves_more _ _ more (gives_then _ _ _ more (inv.gives pages truth) (gives pages (truth_of file pages lane now inv.same truth)))

  -- no page is left
  pub reads_end : (store now_store : Store) (faults now_faults : ℕ) (lane now : PageLane R) (into : List Point) → IsReading store now_store faults now_faults lane now into → length now.entry.pages ≤ now.next
      → (pages : FilePages) → ArePagesOf file pages lane → Moves (pages_left file pages keep lane) false into (pages_left file pages keep now)
  reads_end store now_store faults now_faults lane now into inv past pages truth =
      moves_rw (moves_end _ _ (inv.gives pages truth) (none_left (pages (file now.right.now).number) now.passed.items (keep now.born.0) now.next now.entry (file now.right.now) past (truth_of file pages lane now inv.same truth)))
    where
      moves_rw : Moves (pages_left file pages keep lane) false [] (pages_left file pages keep now) → Moves (pages_left file pages keep lane) false into (pages_left file pages keep now)
      moves_rw moves = rw inv.empty moves

  -- the most points that a file still has
  abbrev most_of : PageLane R → ℕ
  most_of lane = 2 ^ 64 * (length lane.entry.pages - lane.next)

  pub most_more : (store now_store : Store) (faults now_faults : ℕ) (lane now next : PageLane R) (into : List Point) (n : ℕ) → IsReading store now_store faults now_faults lane now into → now.next < length now.entry.pages
      → next.next ≡ now.next + 1 → IsSameFile now next → n ≤ 1000 → n + most_of next ≤ most_of lane
  most_more store now_store faults now_faults lane now next into n inv low one same few =
      let further = inv.further in
      let a : length next.entry.pages ≡ length now.entry.pages = ap (λ (e : IndexEntry). length e.pages) same.entry in
      let b : length now.entry.pages ≡ length lane.entry.pages = ap (λ (e : IndexEntry). length e.pages) inv.same.entry in
      most_by (length lane.entry.pages) lane.next now.next n (length next.entry.pages) next.next (omega (arith, low, b)) (omega (arith, a, b)) one further few
    where
      most_by : (pages at now n pages_next next : ℕ) → now < pages → pages_next ≡ pages → next ≡ now + 1 → at ≤ now → n ≤ 1000 → n + 2 ^ 64 * (pages_next - next) ≤ 2 ^ 64 * (pages - at)
      most_by pages at now n pages_next next low same one further few = omega (arith, low, same, one, further, few)

  pub most_end : (store now_store : Store) (faults now_faults : ℕ) (lane now : PageLane R) (into : List Point) → IsReading store now_store faults now_faults lane now into → length into + most_of now ≤ most_of lane
  most_end store now_store faults now_faults lane now into inv =
      let further = inv.further in
      let none : length into ≡ 0 = ap length inv.empty in
      let b : length now.entry.pages ≡ length lane.entry.pages = ap (λ (e : IndexEntry). length e.pages) inv.same.entry in
      most_by (length lane.entry.pages) lane.next (length now.entry.pages) now.next (length into) none b further
    where
      most_by : (pages at pages_now now n : ℕ) → n ≡ 0 → pages_now ≡ pages → at ≤ now → n + 2 ^ 64 * (pages_now - now) ≤ 2 ^ 64 * (pages - at)
      most_by pages at pages_now now n none same further = omega (arith, none, same, further)

  -- the reason of the next page's call is one of all of them
  pub reads_fault : {S T : Type 0} (store now_store : Store) (faults now_faults next_faults : ℕ) (lane now : PageLane R) (into : List Point) (fault : StoreFault) → IsReading store now_store faults now_faults lane now into
      → ((pages : FilePages) → ArePagesOf file pages now → HasReason {T = S} (IsTold pages (file now.right.now)) now_faults next_faults (Err fault))
      → (pages : FilePages) → ArePagesOf file pages lane → HasReason {T = T} (IsTold pages (file lane.right.now)) faults next_faults (Err fault)
  reads_fault store now_store faults now_faults next_faults lane now into fault inv reason pages truth =
      same_reason _ _ _ fault (reason_then (IsTold pages (file lane.right.now)) (IsTold pages (file now.right.now)) faults now_faults next_faults (Err fault) (told_of file pages lane now inv.same) inv.later
      (reason pages (truth_of file pages lane now inv.same truth)))
