-- The layers of a state, from the lowest to the highest priority.
use Rattle.std.specs.Prelude.{ℕ, List, [], ◌∷◌, ◌++◌, map}
use Rattle.tsdb_state.specs.Layers.{Layer}
use Rattle.tsdb_state.specs.Places.{Content}
use Rattle.tsdb_state.specs.State.{File, FrozenContent, PairContent, StoreState, ToldContents}

-- the points of a file
abbrev pub file_layer : ToldContents → File → Layer
file_layer told file = record { born = file.born; content = told file.number }

abbrev pub file_layers : ToldContents → List File → List Layer
file_layers told files = map (file_layer told) files

-- the points of a pair in each space
abbrev pub sequence_layer : FrozenContent → Layer
sequence_layer frozen = record { born = frozen.born; content = frozen.pair.sequence }

abbrev pub unsequence_layer : FrozenContent → Layer
unsequence_layer frozen = record { born = frozen.born; content = frozen.pair.unsequence }

-- the working pair, as a freeze would leave it now: its born is the stamp
abbrev pub working_pair : StoreState → FrozenContent
working_pair state = record { born = state.stamp; pair = state.working }

-- one content as the only layer
abbrev pub layer_of : Content → List Layer
layer_of content = record { born = 0; content = content } ∷ []

-- the layers of both parts of a pair
abbrev pub pair_layers : PairContent → List Layer
pair_layers pair = layer_of pair.sequence ++ layer_of pair.unsequence

-- sequence files, the sequence parts of frozen pairs, and the working sequence part
abbrev pub sequence_layers : ToldContents → StoreState → List Layer
sequence_layers told state =
    file_layers told state.sequence ++ (map sequence_layer state.frozen ++ sequence_layer (working_pair state) ∷ [])

-- the same of the unsequence space
abbrev pub unsequence_layers : ToldContents → StoreState → List Layer
unsequence_layers told state =
    file_layers told state.unsequence
    ++ (map unsequence_layer state.frozen ++ unsequence_layer (working_pair state) ∷ [])

-- all layers: of two points at one place the unsequence one was written later
abbrev pub all_layers : ToldContents → StoreState → List Layer
all_layers told state = sequence_layers told state ++ unsequence_layers told state

-- all layers but the working sequence part
abbrev pub flushed_layers : ToldContents → StoreState → List Layer
flushed_layers told state =
    (file_layers told state.sequence ++ file_layers told state.unsequence)
    ++ ((map sequence_layer state.frozen ++ map unsequence_layer state.frozen) ++ layer_of state.working.unsequence)

-- the pairs from the oldest to the working one
abbrev pub pairs_of : StoreState → List FrozenContent
pairs_of state = state.frozen ++ working_pair state ∷ []

-- the borns of the listed files and of the frozen pairs
abbrev pub borns_of : StoreState → List ℕ
borns_of state = map (λ file. file.born) (state.sequence ++ state.unsequence) ++ map (λ pair. pair.born) state.frozen
