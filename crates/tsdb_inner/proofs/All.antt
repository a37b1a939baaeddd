-- The series of a job, copied one behind another.
use Rattle.std.proofs.Common.{◌≡◌, ◌≢◌, ℕ, ◌+◌, ◌<◌, ◌≤◌, zero, suc, inl, inr, ⊎_elim, List, [], ◌∷◌, ◌++◌, length, take, drop, get_or}
use Rattle.std.proofs.Common.{Bool, true, false, Option, None, Some, refl, sym, ap, subst, ◌∙◌, arith}
use Rattle.std.specs.Prelude.{◌↔◌, IsTrue, not}
use Rattle.std.specs.List.{AllByRecursion as Each}
use Rattle.std.proofs.lemmas.Bool.{false≢true}
use Rattle.std.proofs.lemmas.List.{take-append-drop}
use Rattle.tsdb_base.specs.declared.point.Point.{Point}
use Rattle.tsdb_base.specs.declared.value.Value.{Value}
use Rattle.tsdb_flush.specs.BuiltParts.{HasPartPoint, IsFilledSeries}
use Rattle.tsdb_compactions.specs.Outputs.{HasNoWinner, HasWinners, TellsInputs, winner}
use Rattle.tsdb_compactions.specs.declared.job.Job.{Job}
use Rattle.tsdb_flush.proofs.PartsInMaking.{before_middle}
use Rattle.tsdb_flush.specs.Making.{IsPartInMaking, MayAdd}
use Rattle.tsdb_flush.specs.MakingSteps.{ComeBefore, filled_with}
use Rattle.tsdb_flush.specs.declared.part.PartBuilder.{PartBuilder}
use Rattle.tsdb_path.proofs.Order.{not_itself}
use Rattle.tsdb_path.specs.Order.{AreNamesBefore}
use Rattle.tsdb_inner.proofs.Lists.{next_taken}
use Rattle.tsdb_inner.specs.Winners.{AreSeries, CopiesSeries}
use Rattle.tsdb_flush.specs.Parts.{Filled, if_any, schema_names}
use Rattle.tsdb_base.proofs.Lists.{among_left, among_right, each_among, each_append, each_from_among, each_weaker, pairs_left}
use Rattle.tsdb_base.specs.Lists.{Among, EachPair}
use Rattle.tsdb_state.specs.Places.{PointPlace}
use Rattle.tsdb_model.specs.declared.command.Schema.{Schema}
use Rattle.tsdb_flush.proofs.Counts.{among_either, pairs_append}
use Rattle.tsdb_base.specs.Points.{IsRising}
use Rattle.tsdb_outside.specs.Files.{NamedFile}
use Rattle.tsdb_path.specs.Nodes.{device_of, measurement_of, node_count}
use Rattle.tsdb_streams.specs.Survivors.{place_at}
use Rattle.tsdb_state.specs.State.{ToldContents}

-- ---- lists

pub among_at : {X : Type 0} (xs : List X) (i : ℕ) (x : X) → i < length xs → x ≡ get_or xs i x → Among x xs
among_at [] i x below at = absurd (omega (arith, below))
among_at (y ∷ ys) zero x below at = inl (sym at)
among_at (y ∷ ys) (suc i) x below at = inr (among_at ys i x (omega (arith, below)) at)

abbrev Rise : Schema → Schema → Type 0
Rise a b = AreNamesBefore (schema_names a) (schema_names b)

-- the schemas so far come before the next
come_before : (schemas : List Schema) (i : ℕ) (schema : Schema) → EachPair Rise schemas → i < length schemas
    → schema ≡ get_or schemas i schema → Each (λ before. Rise before schema) (take i schemas)
come_before schemas i schema rising below at = before_middle Rise (take i schemas) schema []
    (subst (EachPair Rise) (next_taken schemas i schema below at)
    (pairs_left Rise (take (i + 1) schemas) (drop (i + 1) schemas) (subst (EachPair Rise) (sym (take-append-drop (i + 1) schemas)) rising)))

-- ---- a series at the end of a part

series_end : (schema : Schema) (points : List Point) → 2 ≤ node_count schema.path → IsRising points
    → Each IsFilledSeries (if_any schema points)
series_end schema [] nodes rising = tt
series_end schema (point ∷ points) nodes rising = (record { nodes = nodes; some = omega arith; rising = rising }, tt)

of_end : (schema : Schema) (points : List Point) (filled : Filled) → Among filled (if_any schema points)
    → filled_with schema points ≡ filled
of_end schema [] filled among = absurd among
of_end schema (point ∷ points) filled (inl is) = is
of_end schema (point ∷ points) filled (inr among) = absurd among

at_end : (schema : Schema) (points : List Point) (point : Point) → Among point points
    → Among (filled_with schema points) (if_any schema points)
at_end schema [] point among = absurd among
at_end schema (first ∷ points) point among = inl refl

end_pairs : (R : Filled → Filled → Type 0) (schema : Schema) (points : List Point) → EachPair R (if_any schema points)
end_pairs R schema [] = tt
end_pairs R schema (point ∷ points) = (tt, tt)

module _ {F S R P : Type 0} (name : R → NamedFile) (job : Job F S R P) where
  -- the series of these schemas were added, each with the winners of the job
  pub record HasCopied (schemas : List Schema) (making : PartBuilder) : Type 0 where
    pub done : List Filled
    pub is : IsPartInMaking done making
    pub series : AreSeries done
    pub among : Each (λ filled. Among filled.schema schemas) done
    pub has : (told : ToldContents) → TellsInputs name told job → (place : PointPlace) (value : Value) → HasPartPoint done place value
        → winner told job place ≡ Some value
    pub all : (told : ToldContents) → TellsInputs name told job → (place : PointPlace) (value : Value) (schema : Schema)
        → Among schema schemas → schema.path ≡ place.path → winner told job place ≡ Some value
        → HasPartPoint done place value

  pub copied_none : (making : PartBuilder) → IsPartInMaking [] making → HasCopied [] making
  copied_none making is = record {
    done = [];
    is = is;
    series = record { each = tt; differ = tt };
    among = tt;
    has = λ told tells place value has. absurd has.in_part;
    all = λ told tells place value schema among path winner. absurd among;
  }

  -- the next series comes behind those so far
  comes : (i : ℕ) (schema : Schema) (making : PartBuilder) → EachPair Rise job.schemas → i < length job.schemas
      → schema ≡ get_or job.schemas i schema → (was : HasCopied (take i job.schemas) making)
      → ComeBefore was.done schema
  comes i schema making rising below at was = each_weaker (λ filled. Among filled.schema (take i job.schemas))
      (λ filled. Rise filled.schema schema)
      (λ filled among. each_among (λ before. Rise before schema) (take i job.schemas) filled.schema
      (come_before job.schemas i schema rising below at) among) was.done was.among

  pub may_add : (i : ℕ) (schema : Schema) (making : PartBuilder) → EachPair Rise job.schemas → i < length job.schemas
      → schema ≡ get_or job.schemas i schema → HasCopied (take i job.schemas) making → MayAdd making schema
  may_add i schema making rising below at was =
      record { part = was.done; is = was.is; before = comes i schema making rising below at was }

  pub schema_among : (i : ℕ) (schema : Schema) → i < length job.schemas → schema ≡ get_or job.schemas i schema
      → Among schema job.schemas
  schema_among i schema below at = among_at job.schemas i schema below at

  -- what a part has, it has with a series more
  has_more : (done : List Filled) (schema : Schema) (points : List Point) (place : PointPlace) (value : Value)
      → HasPartPoint done place value → HasPartPoint (done ++ if_any schema points) place value
  has_more done schema points place value has = record {
    filled = has.filled;
    in_part = among_left done (if_any schema points) has.filled has.in_part;
    point = has.point;
    in_series = has.in_series;
    path = has.path;
    time = has.time;
    has = has.has;
  }

  module _ (i : ℕ) (schema : Schema) (old new : PartBuilder) (rising : EachPair Rise job.schemas)
      (nodes : 2 ≤ node_count schema.path) (below : i < length job.schemas) (at : schema ≡ get_or job.schemas i schema)
      (was : HasCopied (take i job.schemas) old) (copies : CopiesSeries name job schema old new) where
    abbrev last : List Filled
    last = if_any schema copies.points

    before : ComeBefore was.done schema
    before = comes i schema old rising below at was

    apart : (a b : Filled) → Among a was.done → Among b last → a.schema.path ≢ b.schema.path
    apart a b in_a in_b same =
        let is : b.schema ≡ schema = sym (ap (λ (f : Filled). f.schema) (of_end schema copies.points b in_b)) in
        not_itself (schema_names schema) (subst (λ (p : List ℕ). AreNamesBefore (device_of p, measurement_of p) (schema_names schema))
        (same ∙ ap (λ (s : Schema). s.path) is)
        (each_among (λ filled. Rise filled.schema schema) was.done a before in_a))

    still_has : (told : ToldContents) → TellsInputs name told job → (place : PointPlace) (value : Value)
        → HasPartPoint (was.done ++ last) place value → winner told job place ≡ Some value
    still_has told tells place value has = ⊎_elim
        (λ first. was.has told tells place value (record {
          filled = has.filled;
          in_part = first;
          point = has.point;
          in_series = has.in_series;
          path = has.path;
          time = has.time;
          has = has.has;
        }))
        (λ end.
        let is = of_end schema copies.points has.filled end in
        let among : Among has.point copies.points = subst (λ (f : Filled). Among has.point f.points) (sym is) has.in_series in
        let found = each_among (λ (point : Point). winner told job (place_at schema.path point.time) ≡ Some point.value)
        copies.points has.point (copies.winners told tells).are among in
        let path : schema.path ≡ place.path = ap (λ (f : Filled). f.schema.path) is ∙ has.path in
        ap (λ (p : PointPlace). winner told job p) (sym (λ j. record { path = path j; time = has.time j })) ∙ found
        ∙ ap (λ v. Some v) has.has)
        (among_either was.done last has.filled has.in_part)

    still_all : (told : ToldContents) → TellsInputs name told job → (place : PointPlace) (value : Value) (other : Schema)
        → Among other (take (i + 1) job.schemas) → other.path ≡ place.path → winner told job place ≡ Some value
        → HasPartPoint (was.done ++ last) place value
    still_all told tells place value other among path is = ⊎_elim
        (λ first. has_more was.done schema copies.points place value (was.all told tells place value other first path is))
        (λ end. ⊎_elim (λ same. here (ap (λ (s : Schema). s.path) same ∙ path)) (λ none. absurd none) end)
        (among_either (take i job.schemas) (schema ∷ []) other
        (subst (Among other) (next_taken job.schemas i schema below at) among))
      where
        here : schema.path ≡ place.path → HasPartPoint (was.done ++ last) place value
        here same =
            let in_points = (copies.winners told tells).all place.time value
            (ap (λ (p : List ℕ). winner told job (place_at p place.time)) same ∙ is) in record {
              filled = filled_with schema copies.points;
              in_part = among_right was.done last (filled_with schema copies.points)
                  (at_end schema copies.points (record { time = place.time; value = value }) in_points);
              point = record { time = place.time; value = value };
              in_series = in_points;
              path = same;
              time = refl;
              has = refl;
            }

    pub copied_more : HasCopied (take (i + 1) job.schemas) new
    copied_more = record {
      done = was.done ++ last;
      is = copies.adds.ok was.done was.is before;
      series = record {
        each = each_append IsFilledSeries was.done last was.series.each (series_end schema copies.points nodes copies.rising);
        differ = pairs_append (λ (a b : Filled). a.schema.path ≢ b.schema.path) was.done last was.series.differ
            (end_pairs (λ (a b : Filled). a.schema.path ≢ b.schema.path) schema copies.points) apart;
      };
      among = subst (λ (l : List Schema). Each (λ (filled : Filled). Among filled.schema l) (was.done ++ last))
          (sym (next_taken job.schemas i schema below at))
          (each_append (λ filled. Among filled.schema (take i job.schemas ++ schema ∷ [])) was.done last
          (each_weaker (λ filled. Among filled.schema (take i job.schemas))
          (λ filled. Among filled.schema (take i job.schemas ++ schema ∷ []))
          (λ filled among. among_left (take i job.schemas) (schema ∷ []) filled.schema among) was.done was.among)
          (each_from_among (λ filled. Among filled.schema (take i job.schemas ++ schema ∷ [])) last
          (λ filled among. among_right (take i job.schemas) (schema ∷ []) filled.schema
          (inl (ap (λ (f : Filled). f.schema) (of_end schema copies.points filled among))))));
      has = still_has;
      all = still_all;
    }

  -- all series of the job were added: each winner is of one of them
  pub copied_all : (making : PartBuilder) → HasCopied job.schemas making
      → (filled : List Filled) × IsPartInMaking filled making × AreSeries filled × HasWinners name job filled
  copied_all making copied = (
    copied.done,
    copied.is,
    copied.series,
    λ told tells place value. (
      λ is. let has = tells.truth.schemas place value is in
          copied.all told tells place value has.schema has.among has.path is,
      copied.has told tells place value,
    ),
  )

  -- a part without a series is the output of a job without a winner
  pub no_winner : (filled : List Filled) → filled ≡ [] → HasWinners name job filled → HasNoWinner name job
  no_winner filled none winners told tells place = by (winner told job place) refl
    where
      by : (found : Option Value) → winner told job place ≡ found → found ≡ None
      by None is = refl
      by (Some value) is =
          let has = (winners told tells place value).0 is in
          absurd (subst (λ (l : List Filled). Among has.filled l) none has.in_part)

-- a list that is not empty has an element
pub some_series : (filled : List Filled) → (filled ≡ [] → ⊥) → 0 < length filled
some_series [] not_empty = absurd (not_empty refl)
some_series (first ∷ filled) not_empty = omega arith

-- and one without an element is empty
pub none_filled : (filled : List Filled) → (0 < length filled → ⊥) → filled ≡ []
none_filled [] none = refl
none_filled (first ∷ filled) none = absurd (none (omega arith))

-- whether a part is not empty says whether it has a series
pub has_some : (empty : Bool) (filled : List Filled) → (IsTrue empty ↔ (filled ≡ [])) → IsTrue (not empty) ↔ (0 < length filled)
has_some true filled says =
    (λ e. absurd (false≢true e), λ some. absurd (let none = subst (λ (l : List Filled). 0 < length l) (says.0 refl) some in omega (arith, none)))
has_some false filled says = (λ e. some_series filled (λ none. false≢true (says.1 none)), λ some. refl)
