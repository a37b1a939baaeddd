-- Commands in two phases: what is prepared, finished and cancelled.
use Rattle.std.proofs.Common.{◌≡◌, ℕ, List, true, refl, ap, ◌∙◌}
use Rattle.std.specs.FinMap.{insert, remove}
use Rattle.tsdb_model.specs.declared.command.Command.{Command}
use Rattle.tsdb_model.specs.declared.command.Command.TheVariants.{Create, Insert, Delete, Select, Flush, CompactInner, CompactCross, ShowFiles}
use Rattle.tsdb_map.specs.declared.pending.Pending.{Pending}
use Rattle.tsdb_map.specs.declared.pending.Pending.TheVariants as pending
use Rattle.tsdb_model.specs.Apply.{accepted}
use Rattle.tsdb_map.specs.Pending.{IsPending}
use Rattle.tsdb_model.specs.World.{World, new_series}
use Rattle.tsdb_map.proofs.WorldLemmas.{remove-insert}
use Rattle.tsdb_path.specs.Nodes.{child_of}

-- a create is cancelled by taking the series away
pub create_cancelled : (before world after : World) (command : Command) (device name : List ℕ) → after ≡ remove world (child_of device name)
    → IsPending before world command (pending.Create device name) → after ≡ before
create_cancelled before world after (Create schema) device name is h =
    is ∙ ap (λ w. remove w (child_of device name)) h.0 ∙ ap (remove (insert before schema.path (new_series schema.data_type))) h.2
    ∙ remove-insert before schema.path (new_series schema.data_type) h.1
create_cancelled before world after (Insert device row) d name is h = absurd h
create_cancelled before world after (Delete series range) device name is h = absurd h
create_cancelled before world after (Select device items range) d name is h = absurd h
create_cancelled before world after Flush device name is h = absurd h
create_cancelled before world after (CompactInner space) device name is h = absurd h
create_cancelled before world after CompactCross device name is h = absurd h
create_cancelled before world after ShowFiles device name is h = absurd h
