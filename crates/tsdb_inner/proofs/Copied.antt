-- A series that was copied has the merge of its sources.
use Rattle.std.proofs.Common.{◌≡◌, ℤ, List, [], ◌∷◌, ◌++◌, map, Option, None, Some, refl, sym, ap, subst, ◌∙◌, arith}
use Rattle.std.specs.Prelude.{All, IfOk, Result, Ok, Err}
use Rattle.std.proofs.lemmas.List.{append-nil}
use Rattle.tsdb_base.specs.Values.{type_of}
use Rattle.tsdb_base.specs.declared.point.Point.{Point}
use Rattle.tsdb_streams.specs.Files.{FilePages}
use Rattle.tsdb_streams.specs.KeptPoints.{is_kept}
use Rattle.tsdb_streams.specs.Lanes.{source_left}
use Rattle.tsdb_streams.specs.Streams.{AreTrueSources}
use Rattle.tsdb_streams.specs.declared.source.StreamSource.{StreamSource}
use Rattle.tsdb_flush.specs.Making.{IsSeriesOpen, IsPartInMaking, MayAdd, MayPut}
use Rattle.tsdb_flush.specs.MakingSteps.{ComeBefore}
use Rattle.tsdb_flush.specs.declared.part.PartBuilder.{PartBuilder}
use Rattle.tsdb_inner.proofs.Putting.{all_taken, drains_none, none_rise, takes_one}
use Rattle.tsdb_inner.specs.Copies.{Adds, Copies, AreDamaged, AreToldPoints, all_times}
use Rattle.tsdb_inner.specs.Steps.{HasBegun, HaveBrokenOrder, PutsSeries}
use Rattle.tsdb_flush.specs.Parts.{Filled}
use Rattle.tsdb_model.specs.declared.command.Schema.{Schema}
use Rattle.tsdb_marks.specs.declared.marks.Mark.{Mark}
use Rattle.tsdb_base.specs.Points.{IsRising}
use Rattle.tsdb_merge.specs.Winners.{IsMergeOf, IsToldMergeOf, TakesTold}
use Rattle.tsdb_outside.specs.Files.{NamedFile}

pub ok_then : {T E : Type 0} (P Q : T → Type 0) → ((x : T) → P x → Q x) → (result : Result T E) → IfOk result P
    → IfOk result Q
ok_then P Q step (Ok x) is = step x is
ok_then P Q step (Err e) is = tt

-- ---- the first points of a stream

-- what is left of a stream is the merge of the lists
merged_left : (lists : List (List Point)) (left : Option (List Point)) (points : List Point) → IsToldMergeOf lists left
    → AreToldPoints left points → IsMergeOf lists points
merged_left lists None points merged all = absurd merged
merged_left lists (Some list) points merged all = subst (IsMergeOf lists) (sym (all list refl)) merged

left_more : (left next : Option (List Point)) (taken : Option Point) (first : Point) (rest : List Point)
    → taken ≡ Some first → TakesTold left taken next → AreToldPoints next rest → AreToldPoints left (first ∷ rest)
left_more left next taken first rest some takes behind all is =
    let new = takes_one left next all first is (subst (λ t. TakesTold left t next) some takes) in
    ap (λ l. first ∷ l) (behind new.0 new.1) ∙ sym new.2

-- a merge that begins with the point
record BeginsMerge (lists : List (List Point)) (first : Point) (next : Option (List Point)) : Type 0 where
  pub rest : List Point
  pub told : next ≡ Some rest
  pub merged : IsMergeOf lists (first ∷ rest)

begins_merge : (lists : List (List Point)) (left next : Option (List Point)) (taken : Option Point) (first : Point)
    → taken ≡ Some first → IsToldMergeOf lists left → TakesTold left taken next → BeginsMerge lists first next
begins_merge lists None next taken first some merged takes = absurd merged
begins_merge lists (Some all) next taken first some merged takes =
    let new = takes_one (Some all) next all first refl (subst (λ t. TakesTold (Some all) t next) some takes) in record {
      rest = new.0;
      told = new.1;
      merged = subst (IsMergeOf lists) new.2 merged;
    }

-- ---- the series

-- nothing was added
adds_none : (schema : Schema) (part : PartBuilder) → Adds schema [] part part
adds_none schema part = record { ok = λ before is comes. subst (λ l. IsPartInMaking l part) (sym (append-nil before)) is }

-- the first point of a series that was begun may be put
pub first_may_put : (schema : Schema) (old begun : PartBuilder) (first : Point) → MayAdd old schema
    → ((part : List Filled) → IsPartInMaking part old → ComeBefore part schema → IsSeriesOpen part schema [] begun)
    → type_of first.value ≡ schema.data_type → MayPut first begun
first_may_put schema old begun first may begin typed = record {
  part = may.part;
  schema = schema;
  points = [];
  is = begin may.part may.is may.before;
  may = record { typed = typed; later = λ k d below. absurd (omega (arith, below)) };
}

module _ (schema : Schema) (old begun put : PartBuilder) (first : Point) (from : ℤ) (at : first.time ≡ from)
    (begin : (part : List Filled) → IsPartInMaking part old → ComeBefore part schema → IsSeriesOpen part schema [] begun)
    (give : (part : List Filled) (schema : Schema) (points : List Point) → IsSeriesOpen part schema points begun
    → IsSeriesOpen part schema (points ++ first ∷ []) put) where
  pub has_begun : MayAdd old schema → HasBegun schema from put
  has_begun may = record {
    before = may.part;
    first = first;
    is = give may.part schema [] (begin may.part may.is may.before);
    at = at;
  }

  adds_all : (rest : List Point) (new : PartBuilder) → PutsSeries schema from rest put new → Adds schema (first ∷ rest) old new
  adds_all rest new puts = record {
    ok = λ before is comes. puts.ok before first at (give before schema [] (begin before is comes));
  }

module _ {R : Type 0} (file : R → NamedFile) (schema : Schema) (marks : List Mark) (sources : List (StreamSource R))
    (left : FilePages → Option (List Point))
    (merged : (pages : FilePages) → AreTrueSources file schema.path pages sources → (lists : List (List Point))
    → map (source_left file pages (is_kept schema.path all_times marks)) sources ≡ map Some lists → All IsRising lists
    → IsToldMergeOf lists (left pages)) where
  module _ (next : FilePages → Option (List Point)) (taken : Option Point)
      (takes : (pages : FilePages) → AreTrueSources file schema.path pages sources
      → TakesTold (left pages) taken (next pages)) where
    -- the stream had no point
    pub copies_none : (part : PartBuilder) → taken ≡ None → Copies file schema marks sources part part
    copies_none part none = record {
      points = [];
      adds = adds_none schema part;
      rising = none_rise;
      winners = λ pages lists told. merged_left lists (left pages) [] (merged pages told.0 lists told.1 told.2)
          (all_taken (left pages) (left pages) (next pages) [] taken none (drains_none (left pages)) (takes pages told.0));
    }

    -- all points of the stream were added
    pub copies_all : (old begun put new : PartBuilder) (first : Point) (from : ℤ) → first.time ≡ from → taken ≡ Some first
        → ((part : List Filled) → IsPartInMaking part old → ComeBefore part schema → IsSeriesOpen part schema [] begun)
        → ((part : List Filled) (schema : Schema) (points : List Point) → IsSeriesOpen part schema points begun
        → IsSeriesOpen part schema (points ++ first ∷ []) put)
        → (rest : List Point) → PutsSeries schema from rest put new
        → ((pages : FilePages) → AreTrueSources file schema.path pages sources → AreToldPoints (next pages) rest)
        → Copies file schema marks sources old new
    copies_all old begun put new first from at some begin give rest puts behind = record {
      points = first ∷ rest;
      adds = adds_all schema old begun put first from at begin give rest new puts;
      rising = puts.rising first at;
      winners = λ pages lists told. merged_left lists (left pages) (first ∷ rest)
          (merged pages told.0 lists told.1 told.2)
          (left_more (left pages) (next pages) taken first rest some (takes pages told.0) (behind pages told.0));
    }

    -- the first point is of another type
    pub first_differs : (first : Point) → taken ≡ Some first → (type_of first.value ≡ schema.data_type → ⊥)
        → AreDamaged file schema marks sources
    first_differs first some differs = record {
      ok = λ pages lists told.
          let all = begins_merge lists (left pages) (next pages) taken first some (merged pages told.0 lists told.1 told.2)
          (takes pages told.0) in
          (first ∷ all.rest, all.merged, λ typed. differs typed.0);
    }

    -- a later point is of another type, or not later than the one before
    pub rest_differs : (first : Point) (from : ℤ) → first.time ≡ from → taken ≡ Some first
        → ((pages : FilePages) → AreTrueSources file schema.path pages sources
        → HaveBrokenOrder schema from (next pages)) → AreDamaged file schema marks sources
    rest_differs first from at some broken = record {
      ok = λ pages lists told.
          let all = begins_merge lists (left pages) (next pages) taken first some (merged pages told.0 lists told.1 told.2)
          (takes pages told.0) in (
            first ∷ all.rest,
            all.merged,
            λ typed. broken pages told.0 all.rest first all.told at all.merged.rising typed.1,
          );
    }
