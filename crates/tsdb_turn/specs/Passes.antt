-- What a contract sees of a turn and of a pass.
use Rattle.std.specs.Prelude.{◌≡◌, ℕ, zero, suc, ◌-◌, ◌<◌, List, [], ◌∷◌, Option, None, IsSomeAnd, All, Any}
use Rattle.std.specs.Prelude.{◌==◌, cond}
use Rattle.atomic_table.specs.Seated.{TableId}
use Rattle.tsdb_turn.specs.Rule.{total, bells_at}
use Rattle.tsdb_turn.specs.Values.{Follows, Extends}
use Rattle.tsdb_turn.specs.declared.logged.Logged as logged

-- which turn it is, with which value it was opened, and for how many passes
pub record TurnState (V : Type 0) : Type 0 where
  pub id : TableId
  pub start : V
  pub seats : ℕ

-- how many passes a turn has, by its table: the table has a bell for each
abbrev pub seats_of : TableId → ℕ
seats_of id = id.words - bells_at

-- of which turn it is, its number, the value with which the turn was opened, the value as the pass last left it, and,
-- while it is inside, the value as it entered
pub record PassState (V : Type 0) : Type 0 where
  pub turn : TableId
  pub number : ℕ
  pub start : V
  pub last : V
  pub entered : Option V

module _ {V : Type 0} where
  -- the pass is one of this turn and outside
  pub record IsOutside (id : TableId) (pass : PassState V) : Type 0 where
    pub own : pass.turn ≡ id
    pub outside : pass.entered ≡ None

  -- a pass that has not entered yet: it knows the start
  abbrev pub new_pass : TableId → V → ℕ → PassState V
  new_pass id start n = record { turn = id; number = n; start = start; last = start; entered = None }

  -- as many passes, with the numbers from `n` on
  abbrev pub new_passes : TableId → V → ℕ → ℕ → List (PassState V)
  new_passes id start n zero = []
  new_passes id start n (suc count) = new_pass id start n ∷ new_passes id start (suc n) count

  -- Each number below this one is the number of just one pass, and no pass has another number.
  pub record AreNumbered (seats : ℕ) (passes : List (PassState V)) : Type 0 where
    pub below : All (λ pass. pass.number < seats) passes
    pub each : (n : ℕ) → n < seats → total (λ pass. cond (pass.number == n) 1 0) passes ≡ 1

  -- some pass left the value so
  abbrev pub IsLastOf : List (PassState V) → V → Type 0
  IsLastOf passes value = Any (λ pass. pass.last ≡ value) passes

module _ {V Entry Account : Type 0} (means : logged.Ghosts V Entry Account) where
  -- the value follows what the pass knows
  abbrev pub FollowsPass : PassState V → V → Type 0
  FollowsPass pass value = Follows means pass.number pass.start pass.last value

  -- the pass is inside and has a value to leave
  abbrev pub MayLeave : PassState V → V → Type 0
  MayLeave pass value = IsSomeAnd pass.entered (λ entered. Extends means pass.number pass.start entered value)
