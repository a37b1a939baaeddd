-- How the tests drive a builder.
use Rattle.std.proofs.Common.{◌≡◌, ℕ, ◌≤◌, None, Some, List, [], ◌∷◌, ◌++◌, sym, ap, ◌∙◌, subst, append_assoc, arith}
use Rattle.std.specs.Prelude.{◌<ℤ◌, All, Option}
use Rattle.std.proofs.lemmas.List.Elements.{All-head, Contains-get_or}
use Rattle.tsdb_base.specs.declared.point.Point.{Point}
use Rattle.tsdb_base.specs.declared.value.DataType.{DataType}
use Rattle.tsdb_base.specs.declared.value.Encoding.{Encoding}
use Rattle.tsdb_base.specs.Values.{type_of}
use Rattle.tsdb_path.specs.Nodes.{device_of, measurement_of, node_count}
use Rattle.tsdb_base.specs.Points.{IsRising}
use Rattle.tsdb_pages.proofs.Order.{pairs_across}
use Rattle.tsfile_writer.specs.declared.builder.Builder.{Builder}
use Rattle.tsfile_writer.specs.Building.{WasGiven}
use Rattle.tsfile_writer.specs.Driving.{HasLast, IsBare}
use Rattle.tsfile_writer.specs.BuilderInput.{MayTake, GivenSeries, given_series, with_last_point}
use Rattle.tsfile_writer.proofs.Grouping.{all_behind}

-- the last series at this path has the points before the rest
pub record IsFilling (path : List ℕ) (data_type : DataType) (builder : Builder) (all rest : List Point) : Type 0 where
  pub front : List GivenSeries
  pub last : GivenSeries
  pub was : WasGiven builder (front ++ last ∷ [])
  pub split : last.points ++ rest ≡ all
  pub device_is : last.device ≡ device_of path
  pub measurement_is : last.measurement ≡ measurement_of path
  pub type_is : last.data_type ≡ data_type

pub takes : (path : List ℕ) (data_type : DataType) (builder : Builder) (all items rest : List Point) (point : Point) (filling : IsFilling path data_type builder all items) → items ≡ point ∷ rest
    → All (λ p. type_of p.value ≡ data_type) all → IsRising all → MayTake point filling.last
takes path data_type builder all items rest point filling next typed rising =
    let split : filling.last.points ++ point ∷ rest ≡ all = ap (λ (l : List Point). filling.last.points ++ l) (sym next) ∙ filling.split in
    record {
      typed = All-head (λ (p : Point). type_of p.value ≡ data_type) point rest
          (all_behind (λ (p : Point). type_of p.value ≡ data_type) filling.last.points (point ∷ rest) (subst (λ (l : List Point). All (λ (p : Point). type_of p.value ≡ data_type) l) (sym split) typed)) ∙ sym filling.type_is;
      later = λ k d lt. pairs_across (λ (a b : Point). a.time <ℤ b.time) filling.last.points (point ∷ rest) _ point (subst IsRising (sym split) rising) (Contains-get_or filling.last.points k d lt) (Contains-get_or (point ∷ rest) 0 point (omega arith));
    }

pub filled_more : (path : List ℕ) (data_type : DataType) (old new : Builder) (all items rest : List Point) (point : Point) (filling : IsFilling path data_type old all items) → items ≡ point ∷ rest
    → WasGiven new (filling.front ++ with_last_point point filling.last ∷ []) → IsFilling path data_type new all rest
filled_more path data_type old new all items rest point filling next was = record {
  front = filling.front;
  last = with_last_point point filling.last;
  was = was;
  split = append_assoc filling.last.points (point ∷ []) rest ∙ ap (λ (l : List Point). filling.last.points ++ l) (sym next) ∙ filling.split;
  device_is = filling.device_is;
  measurement_is = filling.measurement_is;
  type_is = filling.type_is;
}

-- what the series so far leave, of which this one is the last
abbrev pub Stands : Builder → Option (List ℕ) → Type 0
Stands builder None = WasGiven builder []
Stands builder (Some path) = HasLast path builder × (2 ≤ node_count path)

-- a series that is begun is bare
pub bare_from : (path : List ℕ) (data_type : DataType) (encoding : Encoding) (old new : Builder) (before : Option (List ℕ)) → Stands old before → ((given : List GivenSeries) → WasGiven old given → WasGiven new (given ++ given_series path data_type encoding ∷ [])) → IsBare path data_type encoding new
bare_from path data_type encoding old new None stands step = record { front = []; was = step [] stands }
bare_from path data_type encoding old new (Some last) stands step =
    let has = stands.0 in
    record { front = has.front ++ has.last ∷ []; was = step (has.front ++ has.last ∷ []) has.was }
