-- A run that begins on what another one left.
use Rattle.std.proofs.Common.{◌∙◌, List, Option, sym, subst}
use Rattle.std.proofs.lemmas.Option.{same_Some}
use Rattle.tsdb_history.proofs.Joined.{followed}
use Rattle.tsdb_history.proofs.Prefixes.{after_wider}
use Rattle.tsdb_history.specs.Joining.{IsFollowed}
use Rattle.tsdb_state.specs.StoredEngine.{kept_bytes}
use Rattle.tsdb_model.specs.History.{Entry, IsLegal}
use Rattle.tsdb_model.specs.State as plain
use Rattle.tsdb_outside.specs.Disk.{IsLawful, DiskState}
use Rattle.tsdb_outside.specs.Files.{StoredFile}
use Rattle.tsdb_recover.proofs.Rest.{holds_itself}
use Rattle.tsdb_state.specs.Stores as replay
use Rattle.tsdb_run.proofs.Whole.{tells_sound}
use Rattle.tsdb_run.specs.Headline.{HasRun}
use Rattle.tsdb_run.specs.Store.{IsSoundPlace, SlotsStandFor, contents}

pub follows : (old new : DiskState) (now : Option (List StoredFile)) → IsLawful new → (files : List StoredFile)
    (start middle last : plain.State) (first second : List Entry) (rose : Type 0)
    → HasRun files start first old (contents new now) rose → IsSoundPlace (contents new now) middle
    → IsLegal middle second last → IsFollowed start first second last
follows old new now laws files start middle last first second rose run sound legal =
    let tells = tells_sound new now middle sound in
    let same = same_Some sound.files run.stored (sym sound.told ∙ run.at_rest.told) in
    followed (kept_bytes run.stored) tells.0.a start run.after middle last first second run.legal
    (after_wider (SlotsStandFor run.stored tells.0) (replay.StoreStandsFor (kept_bytes run.stored) tells.0.a)
    (λ at stands. stands (kept_bytes run.stored) (holds_itself run.stored run.at_rest.are_stored.differ)) run.after first
    (run.holds tells.0 (laws.seen_may_stay tells.0 tells.1.slots)))
    (subst (λ list. replay.StoreStandsFor (kept_bytes list) tells.0.a middle) same
    (sound.sound.stands tells.0 tells.1.slots)) legal
