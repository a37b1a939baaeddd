-- The state of a new store, and that of an engine that was just opened.
use Rattle.std.specs.Prelude.{ℕ, [], None}
use Rattle.std.specs.FinMap.{empty}
use Rattle.tsdb_state.specs.Limit.{empty_pair}
use Rattle.tsdb_state.specs.State.{EngineState, StoreState}

-- no series, no points, no files, and no command so far
abbrev pub new_store : StoreState
new_store = record {
  schemas = [];
  stamp = 0;
  watermarks = empty;
  marks = [];
  frozen = [];
  working = empty_pair;
  sequence = [];
  unsequence = [];
}

-- an engine over a store, with nothing out and nothing in doubt
abbrev pub opened : ℕ → StoreState → EngineState
opened next state = record {
  store = state;
  outgoing = [];
  next_file = next;
  flushes = [];
  compactions = [];
  pins = [];
  rights = λ number. 0;
  room = record { sequence = 0; unsequence = 0; outgoing = 0; record_bytes = 0 };
  doubt = None;
}
