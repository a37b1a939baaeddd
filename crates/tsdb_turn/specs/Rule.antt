-- The rule of the table: what holds of its two words, its slot and what its seats know, between any two atomic steps.
-- Two of its words count the tickets that were drawn and those that were served; the others have no meaning here.
-- The slot has the value.
use Rattle.std.specs.Prelude.{◌≡◌, ℕ, ◌+◌, ◌%◌, ◌^◌, ◌<◌, ◌≤◌, ◌⊎◌, ◌==◌, Bool, true, cond, List, [], ◌∷◌, length}
use Rattle.std.specs.Prelude.{Option, Some, slice_index}
use Rattle.std.specs.List.{AllByRecursion}
use mathlib.Core.Option.{none, some}
use lib.ListN.{get_elem?}
use Rattle.atomic_table.specs.Table.{State}
use Rattle.tsdb_turn.specs.declared.view.Known.{Known}
use Rattle.tsdb_turn.specs.declared.view.Stage.{Stage}
use Rattle.tsdb_turn.specs.declared.view.Stage.TheVariants.{Outside, Waiting, Inside}
use Rattle.tsdb_turn.specs.declared.view.View.{View}

-- where the words stand that count the tickets drawn and those served, and where the bells begin
abbrev pub drawn_at : ℕ
drawn_at = 0

abbrev pub served_at : ℕ
served_at = 8

abbrev pub bells_at : ℕ
bells_at = 16

-- f of each, added up
abbrev pub total : {A : Type 0} → (A → ℕ) → List A → ℕ
total f [] = 0
total f (x ∷ xs) = f x + total f xs

module _ {T : Type 0} where
  abbrev pub known : ℕ → T → T → Known T
  known number start last = record { number = number; start = start; last = last }

  abbrev pub view : Stage T → List (Known T) → View T
  view stage ks = record { stage = stage; known = ks }

  -- 1 where the seat has a ticket
  abbrev pub tickets : Stage T → ℕ
  tickets Outside = 0
  tickets (Waiting t) = 1
  tickets (Inside t y) = 1

  abbrev pub tickets_of : View T → ℕ
  tickets_of v = tickets v.stage

  abbrev pub width_of : View T → ℕ
  width_of v = length v.known

  -- how often the number stands there
  abbrev pub times : ℕ → List (Known T) → ℕ
  times n ks = total (λ k. cond (k.number == n) 1 0) ks

  abbrev pub ticket_times : ℕ → View T → ℕ
  ticket_times n v = times n v.known

  -- under some number the value was left so
  abbrev pub LeftAs : T → List (Known T) → Type 0
  LeftAs value [] = ⊥
  LeftAs value (k ∷ ks) = (k.last ≡ value) ⊎ LeftAs value ks

  -- where the seat stands: a ticket that it waits with is in the queue, and the one that it is inside with is served
  abbrev pub StandsInQueue : ℕ → ℕ → (ℕ → ℕ) → Bool → T → ℕ → Stage T → Type 0
  StandsInQueue served drawn holder away value seat Outside = Unit {0}
  StandsInQueue served drawn holder away value seat (Waiting t) = (served ≤ t) × (t < drawn) × (holder t ≡ seat)
  StandsInQueue served drawn holder away value seat (Inside t y) =
      (t ≡ served) × (t < drawn) × (holder t ≡ seat) × (y ≡ value) × (away ≡ true)

module _ {T : Type 0} (fits : ℕ → T → T → T → Type 0) (kept : T → Type 0) (seats : ℕ) (start : T) where
  -- what is known under a number is so
  pub record Knows (value : T) (k : Known T) : Type 0 where
    pub made : k.number < seats
    pub opened : k.start ≡ start
    pub follows : fits k.number k.start k.last value

  pub record Rule (s : State (Option T) (View T)) : Type 0 where
    -- how many tickets were drawn and how many were served, and which seat drew each
    pub drawn : ℕ
    pub served : ℕ
    pub holder : ℕ → ℕ
    -- the value in the slot, or as it was taken out of it, and whether it is out
    pub value : T
    pub away : Bool
    -- Two words are these two numbers, modulo 2^64, and there is a bell for each pass.
    pub words : length s.words ≡ bells_at + seats
    pub drawn_word : slice_index s.words drawn_at ≡ drawn % 2 ^ 64
    pub served_word : slice_index s.words served_at ≡ served % 2 ^ 64
    -- The slot is at home with the value, or it is out.
    pub slot : s.homes ≡ cond away none (some (Some value)) ∷ []
    -- Each ticket that was drawn and isn't served yet is with a seat.
    pub queue : served + total tickets_of s.views ≡ drawn
    -- The seats together know as many numbers as there are passes, fewer than 2^32.
    pub numbers : total width_of s.views ≡ seats
    pub few : seats < 2 ^ 32
    -- A seat with a ticket knows a number: a seat that was joined into another one has neither.
    pub holders : (i : ℕ) (v : View T) → get_elem? s.views i ≡ some v → tickets_of v ≤ width_of v
    -- No number is known twice.
    pub distinct : (n : ℕ) → total (ticket_times n) s.views ≤ 1
    -- A seat waits with a ticket of its own that is in the queue, or is inside with the one that is served.
    pub places : (i : ℕ) (v : View T) → get_elem? s.views i ≡ some v
        → StandsInQueue served drawn holder away value i v.stage
    -- While the slot is out, the seat whose ticket is served is inside.
    pub taken : away ≡ true
        → (v : View T) × (get_elem? s.views (holder served) ≡ some v) × (v.stage ≡ Inside served value)
    -- Every number was made, its start is the turn's, and the value follows what was last left under it.
    pub follows : (i : ℕ) (v : View T) → get_elem? s.views i ≡ some v → AllByRecursion (Knows value) v.known
    -- The value is as it was left last, under some number.
    pub latest : (i : ℕ) × (v : View T) × (get_elem? s.views i ≡ some v) × LeftAs value v.known
    -- What each turn keeps holds of the value.
    pub keeps : kept value
