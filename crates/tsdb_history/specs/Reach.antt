-- How far the numbers of files can have come, and what is answered `full` for it.
use Rattle.std.specs.Prelude.{◌≡◌, ◌⊎◌, ℕ, ◌≤◌, List, [], ◌∷◌, ⊤}
use Rattle.tsdb_base.specs.declared.answers.Answer.TheVariants.{Full}
use Rattle.tsdb_model.specs.History.{Entry, state_after}
use Rattle.tsdb_base.specs.Limits.{end_of_numbers}
use Rattle.tsdb_model.specs.State as plain
use Rattle.tsdb_model.specs.declared.reply.Reply.{Reply}
use Rattle.tsdb_model.specs.declared.reply.Reply.TheVariants.{Plain}

-- a command draws at most this many numbers for files
abbrev pub max_drawn : ℕ
max_drawn = 6

-- a reply is `full` only where the stamp of its state can rise no further, or with a counter up to this number
abbrev pub IsFullWithin : ℕ → plain.State → Reply → Type 0
IsFullWithin reach at reply =
    (counter : ℕ) → reply ≡ Plain (Full counter) → (at.stamp ≡ end_of_numbers) ⊎ (counter ≤ reach)

-- so is each reply, in the state at its place
abbrev pub AreFullWithin : ℕ → plain.State → List Entry → Type 0
AreFullWithin reach at [] = ⊤
AreFullWithin reach at (entry ∷ entries) = IsFullWithin reach at entry.reply
    × AreFullWithin reach (state_after at entry.command entry.reply) entries
