-- Private steps: entries in order of time, and the statistics of a list that may be empty.
use Rattle.std.specs.Prelude.{◌≡◌, ◌⊎◌, ℕ, ◌<◌, ◌≤◌, ◌≤ℤ◌, ◌<ℤ◌, pos, Bool, true, false, List, [], All, AllPairs, Contains}
use Rattle.std.specs.Prelude.{filter, Option, Some, None, Ok, ⊤, length, map, sum_by, ◌||◌, ◌∷◌, ◌++◌, if◌then◌else◌, IsTrue}
use Rattle.std.specs.Prelude.{take, drop, option_map, ℤ}
use Rattle.tsdb_base.specs.declared.answers.Aggregate.{Aggregate}
use Rattle.tsdb_base.specs.declared.answers.Aggregate.TheVariants.{Count, FirstValue, LastValue, MinValue, MaxValue}
use Rattle.tsdb_base.specs.declared.answers.Aggregate.TheVariants.{MinTime, MaxTime, Sum}
use Rattle.tsdb_base.specs.declared.answers.Figure.{Figure}
use Rattle.tsdb_base.specs.declared.answers.Figure.TheVariants as figure
use Rattle.tsdb_base.specs.declared.point.Point.{Point}
use Rattle.tsdb_base.specs.declared.point.Range.{Range}
use Rattle.tsdb_base.specs.declared.value.Value.{Value}
use Rattle.tsdb_base.specs.declared.value.Value.TheVariants as value
use Rattle.tsdb_model.specs.Folds.{greater, lesser_value, sum_of, value_of_points}
use Rattle.tsdb_model.specs.World.{is_in}
use Rattle.tsdb_merge.specs.Winners.{IsMergeOf}
use Rattle.tsdb_stats.specs.Steps.{join_options}
use Rattle.tsdb_aggregate.specs.Loads.{Held, LoaderState, Spends, held_at}
use Rattle.tsdb_aggregate.specs.Pieces.{ArePiecesSound, HeldPiece}
use Rattle.tsdb_aggregate.specs.Winners.{AreWinners}
use Rattle.tsdb_aggregate.specs.declared.entry.PieceEntry.{PieceEntry}
use Rattle.tsdb_aggregate.specs.declared.tally.Kept.{Kept}
use Rattle.tsdb_aggregate.specs.declared.tally.Kept.TheVariants.{Nothing, Lent, Own}
use Rattle.tsdb_aggregate.specs.declared.tally.Tally.{Tally}

-- the piece of an entry, and what is held of it
abbrev pub held_piece : List Held → PieceEntry → HeldPiece
held_piece held entry = (entry.piece.now, held_at held entry.place)

abbrev pub held_parts : List Held → List PieceEntry → List HeldPiece
held_parts held entries = map (held_piece held) entries

-- the first entry begins no later than the second, and ends before it where one of them is clean
pub record ComesBefore (a b : PieceEntry) : Type 0 where
  pub start : a.piece.now.stats.start ≤ℤ b.piece.now.stats.start
  pub clean : IsTrue (a.piece.now.clean || b.piece.now.clean) → a.piece.now.stats.end <ℤ b.piece.now.stats.start

-- what an entry may cost: nothing where its piece is clean
abbrev pub cost_of : HeldPiece → ℕ
cost_of part = if part.0.clean then 0 else part.1.cost

-- one clean piece, or pieces that are not clean
abbrev pub IsPieceGroup : List PieceEntry → Type 0
IsPieceGroup entries = (0 < length entries)
    × ((length entries ≡ 1) ⊎ All (λ entry. entry.piece.now.clean ≡ false) entries)

-- each of these entries ends before each of those begins
abbrev pub End : List PieceEntry → List PieceEntry → Type 0
End these those = (a b : PieceEntry) → Contains these a → Contains those b
    → a.piece.now.stats.end <ℤ b.piece.now.stats.start

-- the first n entries end before the others begin
abbrev pub IsCut : ℕ → List PieceEntry → Type 0
IsCut n entries = End (take n entries) (drop n entries)

-- the value that is kept, if there is one
abbrev pub kept_value : Kept → Option Value
kept_value Nothing = None
kept_value (Lent value) = Some value.now
kept_value (Own value) = Some value

-- what a count, the value that is kept, or the sum answers
abbrev pub answer_with : Aggregate → ℕ → Option Value → Option ℤ → Option Figure
answer_with Count count kept sum = Some (figure.Value (value.I64 (pos count)))
answer_with Sum count kept sum = option_map figure.Sum sum
answer_with name count kept sum = option_map figure.Value kept

abbrev pub answer_of : Aggregate → Tally → Option Figure
answer_of name tally = answer_with name tally.count (kept_value tally.kept) tally.sum

-- what the aggregate asks of the points is this count, this value or this sum
abbrev pub IsTallied : Aggregate → List Point → ℕ → Option Value → Option ℤ → Type 0
IsTallied Count points count kept sum = count ≡ length points
IsTallied Sum points count kept sum = sum ≡ sum_of points
IsTallied name points count kept sum = kept ≡ value_of_points name points

-- the tally is that of the points
abbrev pub IsTally : Aggregate → List Point → Tally → Type 0
IsTally name points tally = IsTallied name points tally.count (kept_value tally.kept) tally.sum

-- which of the values of two lists, one behind the other, is kept
abbrev pub choice : Aggregate → Value → Value → Value
choice Count a b = a
choice FirstValue a b = a
choice LastValue a b = b
choice MinValue a b = lesser_value a b
choice MaxValue a b = greater a b
choice MinTime a b = a
choice MaxTime a b = b
choice Sum a b = a

-- the later value is kept, or the one before it
abbrev pub IsChosen : Aggregate → Option Value → Option Value → Bool → Type 0
IsChosen name before later true = join_options (choice name) before later ≡ later
IsChosen name before later false = join_options (choice name) before later ≡ before

-- the winners of entries in the range have this tally
pub record HasTally (held : List Held) (range : Range) (name : Aggregate) (entries : List PieceEntry)
    (tally : Tally) : Type 0 where
  pub points : List Point
  pub winners : AreWinners (held_parts held entries) range points
  pub tally_is : IsTally name points tally

-- the winners of entries in the range were added to a tally
pub record AddsWinners (held : List Held) (range : Range) (name : Aggregate) (entries : List PieceEntry)
    (before now : Tally)
    : Type 0 where
  pub points : List Point
  pub winners : AreWinners (held_parts held entries) range points
  pub adds : (earlier : List Point) → IsTally name earlier before → IsTally name (earlier ++ points) now

-- a point was added to a tally, if it is in the range
abbrev pub AddsPoint : Range → Aggregate → Point → Tally → Tally → Type 0
AddsPoint range name point before now = (earlier : List Point) → IsTally name earlier before
    → IsTally name (earlier ++ filter (λ other. is_in range other.time) (point ∷ [])) now

-- later points do not change the tally
abbrev pub IsSettledTally : Aggregate → Tally → Type 0
IsSettledTally name tally =
    (points later : List Point) → IsTally name points tally → IsTally name (points ++ later) tally

-- the points in the range of a list that is told were added to a tally
abbrev pub AddsWithin : Range → Aggregate → Option (List Point) → Tally → Tally → Type 0
AddsWithin range name left before now = (points earlier : List Point) → left ≡ Some points → IsTally name earlier before
    → IsTally name (earlier ++ filter (λ point. is_in range point.time) points) now

-- the points in the range of the merge of some lists were added to a tally
pub record AddsMerge (range : Range) (name : Aggregate) (lists : List (List Point)) (before now : Tally) : Type 0 where
  pub points : List Point
  pub merge : IsMergeOf lists points
  pub adds : (earlier : List Point) → IsTally name earlier before
      → IsTally name (earlier ++ filter (λ point. is_in range point.time) points) now

-- the first m entries are walked: the tally of their winners, and what their loads have cost
pub record HasWalked (range : Range) (name : Aggregate) (before now : LoaderState) (pages pages_now : ℕ)
    (entries : List PieceEntry) (m : ℕ) (tally : Tally) : Type 0 where
  pub within : m ≤ length entries
  pub found : ArePiecesSound name range (held_parts before.held entries) → AllPairs ComesBefore entries
      → HasTally before.held range name (take m entries) tally × IsCut m entries
  pub spends : Spends {T = ⊤} (sum_by cost_of (held_parts before.held (take m entries))) before now pages pages_now
      (Ok tt)
