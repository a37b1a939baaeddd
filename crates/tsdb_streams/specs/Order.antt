-- Private steps: pages of an entry in order of time.
use Rattle.std.proofs.Props.{props}
use Rattle.std.specs.Prelude.{IsTrue, Bool, ℕ, ◌-◌, ◌<◌, ◌≤ℤ◌, ◌<ℤ◌, List, All, AllPairs, get_or}
use Rattle.tsdb_index.specs.declared.index.PageEntry.{PageEntry}

-- each page begins no later than it ends, and ends before each later one begins
abbrev pub ArePagesInOrder : List PageEntry → Type 0
ArePagesInOrder pages = All (λ page. page.stats.start ≤ℤ page.stats.end) pages
    × AllPairs (λ a b. a.stats.end <ℤ b.stats.start) pages

-- the page at the place begins no later than it ends, and after the end of the one before it
abbrev pub IsNextPage : List PageEntry → ℕ → Type 0
IsNextPage pages place = (page : PageEntry)
    → ((get_or pages place page).stats.start ≤ℤ (get_or pages place page).stats.end)
    × (0 < place → (get_or pages (place - 1) page).stats.end <ℤ (get_or pages place page).stats.start)

-- that pages stand in order holds in one way at most, so a struct can have it as a ghost field
pub order_prop : (b : Bool) (pages : List PageEntry) → IsProp (IsTrue b → ArePagesInOrder pages)
order_prop b pages = hlevel props
