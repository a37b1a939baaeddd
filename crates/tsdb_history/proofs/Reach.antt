-- How far the numbers of files have come, over one command and then another.
use Rattle.std.proofs.Common.{ℕ, ◌≤◌, List, [], ◌∷◌, ◌++◌, inl, inr, ⊎_elim, arith, subst}
use Rattle.tsdb_history.proofs.Prefixes.{entry_of}
use Rattle.tsdb_history.specs.Reach.{AreFullWithin, IsFullWithin}
use Rattle.tsdb_model.specs.History.{Entry, IsLegal, state_after}
use Rattle.tsdb_model.specs.State as plain
use Rattle.tsdb_model.specs.declared.command.Command.{Command}
use Rattle.tsdb_model.specs.declared.reply.Reply.{Reply}

further : (low high : ℕ) (at : plain.State) (reply : Reply) → low ≤ high → IsFullWithin low at reply
    → IsFullWithin high at reply
further low high at reply less within counter is =
    ⊎_elim (λ full. inl full) (λ few. inr (omega (arith, few, less))) (within counter is)

pub all_further : (low high : ℕ) (at : plain.State) (entries : List Entry) → low ≤ high → AreFullWithin low at entries
    → AreFullWithin high at entries
all_further low high at [] less within = tt
all_further low high at (entry ∷ entries) less within = (
  further low high at entry.reply less within.0,
  all_further low high (state_after at entry.command entry.reply) entries less within.1,
)

-- one more entry
pub within_more : (reach : ℕ) (start mid : plain.State) (entries : List Entry) (command : Command) (reply : Reply)
    → IsLegal start entries mid → AreFullWithin reach start entries → IsFullWithin reach mid reply
    → AreFullWithin reach start (entries ++ entry_of command reply ∷ [])
within_more reach start mid [] command reply leads within last =
    (subst (λ state. IsFullWithin reach state reply) leads last, tt)
within_more reach start mid (e ∷ entries) command reply leads within last =
    (within.0, within_more reach (state_after start e.command e.reply) mid entries command reply leads.1 within.1 last)
