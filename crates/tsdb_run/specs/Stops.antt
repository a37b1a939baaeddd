-- A run that a stop ended: what the laws of stops are about.
use Rattle.std.specs.Prelude.{◌≡◌, List, ◌++◌, Some}
use Rattle.tsdb_model.specs.History.{Entry}
use Rattle.tsdb_model.specs.State as plain
use Rattle.tsdb_outside.specs.Disk.{Image}
use Rattle.tsdb_outside.specs.Files.{StoredFile}
use Rattle.tsdb_run.specs.Headline.{HasRun}
use Rattle.tsdb_run.specs.Store.{Contents, IsSoundPlace, KeepsAllListed}

-- What a stop left of a place: reads give these bytes of its slots, and a later stop leaves the same in slot A. Each of
-- these files is stored as it was; one that the log does not list may be gone.
pub record IsLeftByStop (image : Image) (files : List StoredFile) (place : Contents) : Type 0 where
  pub slots : place.disk.seen ≡ Some image
  pub durable : (left : Image) → place.disk.may_leave left → left.a ≡ image.a
  pub kept : KeepsAllListed image files place

-- A run of these entries on a sound store, from the start, was stopped at some moment, which left the last place.
pub record IsStopped (old new left : Contents) (start : plain.State) (entries : List Entry) (unanswered : Type 0)
    : Type 0 where
  pub sound : IsSoundPlace old start
  pub run : HasRun sound.files start entries old.disk new unanswered
  pub image : Image
  pub moment : new.disk.left_since old.disk.moment image
  pub after_stop : IsLeftByStop image (sound.files ++ run.put) left
