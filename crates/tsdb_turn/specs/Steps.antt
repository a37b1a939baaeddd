-- What the atomic steps do to what a seat knows.
use Rattle.std.specs.Prelude.{◌≡◌, ◌≢◌, ℕ, zero, suc, ◌%◌, ◌^◌, ◌<◌, List, [], ◌∷◌, ◌++◌, Option, Some, None}
use Rattle.std.specs.Prelude.{Bool, true, false, ◌+◌, length, slice_index, option_map}
use Rattle.std.specs.List.{AllByRecursion}
use Rattle.std.specs.declared.snapshot.Snapshot.{Snapshot}
use Rattle.atomic_table.specs.Seated.{TableId}
use Rattle.atomic_table.specs.Table.{State, Me}
use Rattle.tsdb_turn.specs.declared.logged.Logged as logged
use Rattle.tsdb_turn.specs.declared.view.Known.{Known}
use Rattle.tsdb_turn.specs.declared.view.PassMarks.{PassMarks}
use Rattle.tsdb_turn.specs.declared.view.Opened.{Opened}
use Rattle.tsdb_turn.specs.declared.view.Stage.TheVariants.{Outside, Waiting, Inside}
use Rattle.tsdb_turn.specs.declared.view.View.{View}
use Rattle.tsdb_turn.specs.Passes.{PassState, TurnState, seats_of}
use Rattle.tsdb_turn.specs.Rule.{Rule, known, view, drawn_at, served_at, bells_at}
use Rattle.tsdb_turn.specs.Values.{Follows, Extends, IsTurnKept}

-- what a seat of the table has: its view, and the slots that are out with it
abbrev pub SeatState : Type 0 → Type 0
SeatState T = Me (Option T) (View T)

module _ {T : Type 0} where
  -- at the opening one seat has all numbers
  abbrev pub dealt : T → ℕ → ℕ → List (Known T)
  dealt start n zero = []
  dealt start n (suc count) = known n start start ∷ dealt start (suc n) count

  abbrev pub first_known : List (Known T) → List (Known T)
  first_known [] = []
  first_known (k ∷ ks) = k ∷ []

  abbrev pub but_first : List (Known T) → List (Known T)
  but_first [] = []
  but_first (k ∷ ks) = ks

  -- a new seat has the first number, and the seat that is split keeps the others
  abbrev pub rest_of : View T → View T
  rest_of v = view v.stage (but_first v.known)

  abbrev pub first_view : View T → View T
  first_view v = view Outside (first_known v.known)

  -- a seat that is joined into another brings its numbers and is left with nothing
  abbrev pub join_views : View T → View T → View T
  join_views v w = view v.stage (w.known ++ v.known)

  abbrev pub spent : View T
  spent = view Outside []

  -- The seat has drawn the ticket that was found, modulo 2^64.
  abbrev pub Draws : SeatState T → ℕ → SeatState T → Type 0
  Draws me found after = (t : ℕ) × (t % 2 ^ 64 ≡ found) × (after ≡ (view (Waiting t) me.0.known, me.1))

  -- The seat has taken the slot, and has learnt this of the value and of each number that it knows.
  pub record TakesSlot (learns : ℕ → T → T → T → Type 0) (t : ℕ) (ks : List (Known T)) (after : SeatState T) : Type 0 where
    pub value : T
    pub seat : after ≡ (view (Inside t value) ks, (0, Some value) ∷ [])
    pub learnt : AllByRecursion (λ k. learns k.number k.start k.last value) ks

  -- with some ticket
  abbrev pub HasTaken : (ℕ → T → T → T → Type 0) → SeatState T → SeatState T → Type 0
  HasTaken learns me after = (t : ℕ) × TakesSlot learns t me.0.known after

  -- A seat that waits takes the slot where its ticket is served, and else nothing changes.
  pub record ReadsSlot (learns : ℕ → T → T → T → Type 0) (t : ℕ) (me : SeatState T) (found : ℕ) (after : SeatState T)
      : Type 0 where
    pub hit : found ≡ t % 2 ^ 64 → TakesSlot learns t me.0.known after
    pub miss : found ≢ t % 2 ^ 64 → after ≡ me

  -- a seat that is outside and has left this value under its one number
  abbrev pub left_as : Known T → T → SeatState T
  left_as k value = (view Outside (record k { last = value } ∷ []), [])

  -- the seat has left the value that it held
  abbrev pub Departs : SeatState T → SeatState T → Type 0
  Departs me after =
      (k : Known T) (value : T) → me ≡ (view me.0.stage (k ∷ []), (0, Some value) ∷ []) → after ≡ left_as k value

  -- A look finds which ticket is served: where it is the own one the seat has taken the slot, and else nothing changes.
  pub record Looks (learns : ℕ → T → T → T → Type 0) (ticket : ℕ) (me : SeatState T) (found : ℕ) (after : SeatState T)
      : Type 0 where
    pub hit : found ≡ ticket → HasTaken learns me after
    pub miss : found ≢ ticket → after ≡ me

  -- The seat has taken the slot where this is so, and else nothing changes.
  pub record MayTakeSlot (learns : ℕ → T → T → T → Type 0) (me : SeatState T) (taken : Bool) (after : SeatState T)
      : Type 0 where
    pub hit : taken ≡ true → HasTaken learns me after
    pub miss : taken ≡ false → after ≡ me

  -- what a pass has of the table's seat, outside and inside
  abbrev pub Sits : Known T → Option T → SeatState T → Type 0
  Sits k None me = me ≡ (view Outside (k ∷ []), [])
  Sits k (Some y) me = (t : ℕ) × (me ≡ (view (Inside t y) (k ∷ []), (0, None) ∷ []))

  -- a seat that is outside, with one number
  abbrev pub SitsOutside : SeatState T → Type 0
  SitsOutside me = (k : Known T) × (me ≡ (view Outside (k ∷ []), []))

  -- a seat that waits with this ticket, modulo 2^64
  abbrev pub SitsWaiting : ℕ → SeatState T → Type 0
  SitsWaiting ticket me = (t : ℕ) × (k : Known T) × (t % 2 ^ 64 ≡ ticket) × (me ≡ (view (Waiting t) (k ∷ []), []))

  -- a seat that has the slot, with some value in it
  abbrev pub HasSlot : SeatState T → Type 0
  HasSlot me = (value : T) × (me.1 ≡ (0, Some value) ∷ [])

  -- a seat that has left the value under its one number
  abbrev pub LeavesValue : SeatState T → T → SeatState T → Type 0
  LeavesValue me value after = (k : Known T) → me.0.known ≡ k ∷ [] → after ≡ left_as k value

  -- what a pass knows under its number
  abbrev pub pass_known : PassState T → Known T
  pass_known pass = known pass.number pass.start pass.last

  -- the state of a turn, by its table and what the table was told
  abbrev pub turn_state : TableId → Opened T → TurnState T
  turn_state id key = record { id = id; start = key.start.value; seats = key.seats }

  -- the state of a pass, by what it has
  abbrev pub pass_state : TableId → ℕ → PassMarks T → Option (Snapshot T) → PassState T
  pass_state id number marks entered =
      record {
        turn = id;
        number = number;
        start = marks.start.value;
        last = marks.last.value;
        entered = option_map (λ s. s.value) entered;
      }

  -- the seat of a pass has what the pass knows
  abbrev pub SitsAs : PassState T → SeatState T → Type 0
  SitsAs pass me = Sits (pass_known pass) pass.entered me

  -- The same, and the number of the pass is below the number of seats.
  pub record HasSeat (pass : PassState T) (me : SeatState T) : Type 0 where
    pub sits : SitsAs pass me
    pub below : pass.number < seats_of pass.turn

-- a seat that is inside and has a value to leave
abbrev pub MayPutBack : {T Entry Account : Type 0} → logged.Ghosts T Entry Account → SeatState T → T → Type 0
MayPutBack {T} means me value =
    (t : ℕ) × (k : Known T) × (entered : T) × (me ≡ (view (Inside t entered) (k ∷ []), (0, None) ∷ []))
    × Extends means k.number k.start entered value

-- the marks are of this value
abbrev pub IsMarkedBy : {T : Type 0} → T → PassMarks T → Type 0
IsMarkedBy value marks = (marks.start.value ≡ value) × (marks.last.value ≡ value)

-- the rule of a turn, over what its users mean by a value
abbrev pub RuleOf : {T Entry Account : Type 0} → logged.Ghosts T Entry Account → ℕ → T → State (Option T) (View T)
    → Type 0
RuleOf means seats start = Rule (Follows means) (IsTurnKept means seats start) seats start

-- what a pass learns of its number and its start, and of the value, when it enters a turn
pub record Learns {T Entry Account : Type 0} (means : logged.Ghosts T Entry Account) (turn : TurnState T) (number : ℕ)
    (start last value : T) : Type 0 where
  pub made : number < turn.seats
  pub opened : start ≡ turn.start
  pub follows : Follows means number start last value
  pub kept : IsTurnKept means turn.seats turn.start value

-- What a pass learns when it enters the turn is at least this.
abbrev pub Teaches : {T Entry Account : Type 0} → logged.Ghosts T Entry Account → TurnState T
    → (ℕ → T → T → T → Type 0) → Type 0
Teaches {T} means turn learns =
    (n : ℕ) (start last value : T) → Learns means turn n start last value → learns n start last value

-- the words at the opening
pub record AreOpeningWords (seats ticket : ℕ) (words : List ℕ) : Type 0 where
  pub count : length words ≡ bells_at + seats
  pub drawn : slice_index words drawn_at ≡ ticket
  pub served : slice_index words served_at ≡ ticket

-- the table has a bell for each pass behind its other words, the one slot, and some pass
pub record IsLaid (id : TableId) (seats : ℕ) : Type 0 where
  pub bells : id.words ≡ bells_at + seats
  pub one : id.slots ≡ 1
  pub some_pass : 0 < seats
  pub few : seats < 2 ^ 32
