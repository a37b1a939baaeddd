-- A series that was copied has the winners of its job.
use Rattle.std.proofs.Common.{◌≡◌, ℕ, ◌≤◌, ⊎_elim, List, Some, sym, subst, arith}
use Rattle.std.specs.Prelude.{◌⊎◌, All, Result, Ok, Err}
use Rattle.std.specs.List.{AllByRecursion as Each, AllZip}
use Rattle.std.proofs.lemmas.List.Elements.{All-from_recursion, recursion_from_All}
use Rattle.tsdb_base.specs.Values.{type_of}
use Rattle.tsdb_base.specs.declared.point.Point.{Point}
use Rattle.tsdb_streams.proofs.OpenedFacts.{zip_all}
use Rattle.tsdb_streams.proofs.Trees.{among_of, one_alone}
use Rattle.tsdb_streams.specs.Files.{FilePages, HasReason}
use Rattle.tsdb_streams.specs.Lanes.{IsSourceOfStore}
use Rattle.tsdb_streams.specs.Streams.{AreToldSources, AreTrueSources}
use Rattle.tsdb_streams.specs.declared.source.StreamSource.{StreamSource}
use Rattle.tsdb_streams.specs.declared.source.StreamSource.TheVariants as lent
use Rattle.tsdb_compactions.specs.Jobs.{IsJobFormed, input_files}
use Rattle.tsdb_compactions.specs.Outputs.{TellsInputs, TellsTruth, winner}
use Rattle.tsdb_compactions.specs.declared.job.Input.{Input}
use Rattle.tsdb_compactions.specs.declared.job.Job.{Job}
use Rattle.tsdb_flush.specs.declared.part.PartBuilder.{PartBuilder}
use Rattle.tsdb_path.proofs.Order.{not_itself}
use Rattle.tsdb_path.specs.Order.{AreNamesBefore}
use Rattle.tsdb_inner.proofs.Sources.{all_survivors, owns, pages_of, told_sources, true_sources}
use Rattle.tsdb_inner.specs.Copies.{Copies, AreDamaged, Survive}
use Rattle.tsdb_inner.specs.Inputs.{IsInputOf, IsInputLent, TellsBytes}
use Rattle.tsdb_inner.specs.Winners.{AreWinnersOfJob, CopiesSeries}
use Rattle.tsdb_flush.specs.Parts.{schema_names}
use Rattle.tsdb_base.proofs.Lists.{each_weaker}
use Rattle.tsdb_base.specs.Lists.{Among, EachPair}
use Rattle.tsdb_model.specs.declared.command.Schema.{Schema}
use Rattle.tsdb_merge.specs.Winners.{IsMergeOf}
use Rattle.tsdb_base.specs.Causes.{Rose}
use Rattle.tsdb_outside.specs.Causes.{HasStoreCause}
use Rattle.tsdb_outside.specs.Files.{NamedFile, Store}
use Rattle.tsdb_outside.specs.declared.faults.StoreFault.{StoreFault}
use Rattle.tsdb_outside.specs.declared.faults.StoreFault.TheVariants.{Failed, Memory}
use Rattle.tsdb_path.specs.Nodes.{device_of, measurement_of, node_count}
use Rattle.tsdb_streams.proofs.Sources.{merge_all, merge_values}
use Rattle.tsdb_streams.specs.Survivors.{place_at}
use Rattle.tsdb_state.specs.State.{ToldContents}
use Rattle.tsdb_state.specs.Views.{file_layers}

-- ---- causes

-- a reason is a cause where all is told
pub cause_of : {S T : Type 0} (whole : Type 0) (a b : ℕ) (fault : StoreFault) → HasReason {T = S} whole a b (Err fault)
    → whole → HasStoreCause {T = T} a b (Err fault)
cause_of {S} {T} whole a b fault reason all = record {
  later = reason.later;
  failed = λ is. reason.failed (same fault is) all;
}
  where
    same : (fault : StoreFault) → ◌≡◌ {A = Result T StoreFault} (Err fault) (Err Failed)
        → ◌≡◌ {A = Result S StoreFault} (Err fault) (Err Failed)
    same fault is = cc

pub cause_ok : {T : Type 0} (a b : ℕ) (x : T) → a ≤ b → HasStoreCause a b (Ok x)
cause_ok {T} a b x later = record { later = later; failed = λ failed. absurd (other x failed) }
  where
    other : (x : T) → ◌≡◌ {A = Result T StoreFault} (Ok x) (Err Failed) → ⊥
    other x failed = cc

-- one call went well, and another has its cause
pub cause_then : {T : Type 0} (a b c : ℕ) (result : Result T StoreFault) → a ≤ b → HasStoreCause b c result
    → HasStoreCause a c result
cause_then a b c result later cause = record {
  later = let more = cause.later in omega (arith, later, more);
  failed = λ is. let rose = cause.failed is in omega (arith, later, rose);
}

-- the same fault of a call that returns something else
pub same_cause : {S T : Type 0} (a b : ℕ) (fault : StoreFault) → HasStoreCause {T = S} a b (Err fault)
    → HasStoreCause {T = T} a b (Err fault)
same_cause {S} {T} a b fault cause = record { later = cause.later; failed = λ is. cause.failed (same fault is) }
  where
    same : (fault : StoreFault) → ◌≡◌ {A = Result T StoreFault} (Err fault) (Err Failed)
        → ◌≡◌ {A = Result S StoreFault} (Err fault) (Err Failed)
    same fault is = cc

-- ---- schemas

-- in the order of a tree one schema has a path
one_schema : (schemas : List Schema) (a b : Schema) → EachPair (λ a b. AreNamesBefore (schema_names a) (schema_names b)) schemas → Among a schemas → Among b schemas
    → a.path ≡ b.path → a ≡ b
one_schema schemas a b rising in_a in_b same = one_alone (λ a b. AreNamesBefore (schema_names a) (schema_names b)) schemas rising a b in_a in_b
    (λ before. not_itself (schema_names b) (subst (λ (p : List ℕ). AreNamesBefore (device_of p, measurement_of p) (schema_names b)) same before))
    (λ before. not_itself (schema_names b) (subst (λ (p : List ℕ). AreNamesBefore (schema_names b) (device_of p, measurement_of p)) same before))

module _ {F S R P : Type 0} (name : R → NamedFile) (job : Job F S R P) where
  pub inputs_of_store : (store : Store) (sources : List (StreamSource R)) → AllZip IsInputLent job.inputs sources
      → Each (IsInputOf name store) job.inputs → All (IsSourceOfStore name store) sources
  inputs_of_store store sources zip of = zip_all IsInputLent (IsInputOf name store) (IsSourceOfStore name store) job.inputs sources
      one zip (All-from_recursion (IsInputOf name store) job.inputs of)
    where
      one : (input : Input F S R P) (source : StreamSource R) → IsInputLent input source → IsInputOf name store input
          → IsSourceOfStore name store source
      one input (lent.File right born) is of = subst (λ r. (name r).store ≡ store) (sym is.0) of
      one input (lent.Part points born) is of = absurd is

  module _ (schema : Schema) (two : 2 ≤ node_count schema.path) (sources : List (StreamSource R))
      (zip : AllZip IsInputLent job.inputs sources) where
    -- what a stream says of all pages holds of those that are told
    pub told_cause : {T U : Type 0} (a b : ℕ) (fault : StoreFault) → ((pages : FilePages)
        → AreTrueSources name schema.path pages sources → HasReason {T = T} (AreToldSources name pages sources) a b (Err fault))
        → (told : ToldContents) → TellsTruth name told job → HasStoreCause {T = U} a b (Err fault)
    told_cause a b fault reason told truth =
        let pages = pages_of name told schema.path two job.inputs truth.read in
        let owned = owns name told schema.path two job.inputs truth.read truth.apart in
        cause_of (AreToldSources name pages sources) a b fault
        (reason pages (true_sources name told schema.path two pages job.inputs sources zip owned))
        (told_sources name told schema.path two pages job.inputs sources zip owned)

    -- the points of the sources that survive
    record AreMerged (told : ToldContents) : Type 0 where
      pub pages : FilePages
      pub lists : List (List Point)
      pub survive : Survive name schema job.marks.marks sources pages lists
      pub winners : (points : List Point) → IsMergeOf lists points → AreWinnersOfJob told job schema.path points

    merged : (told : ToldContents) → TellsInputs name told job → AreMerged told
    merged told tells =
        let pages = pages_of name told schema.path two job.inputs tells.truth.read in
        let owned = owns name told schema.path two job.inputs tells.truth.read tells.truth.apart in
        let all = all_survivors name told schema.path two pages job.marks.marks job.inputs sources zip owned tells.all in
        let layers = file_layers told (input_files job) in record {
          pages = pages;
          lists = all.lists;
          survive = (true_sources name told schema.path two pages job.inputs sources zip owned, all.left, all.rising);
          winners = λ points merge. record {
            are = recursion_from_All (λ (point : Point). winner told job (place_at schema.path point.time) ≡ Some point.value)
                points (merge_values job.marks.marks schema.path layers all.lists points all.are merge);
            all = λ time value is. among_of (record { time = time; value = value }) points
                (merge_all job.marks.marks schema.path layers all.lists points all.are merge time value is);
          };
        }

    pub copies_winners : (old new : PartBuilder) → Copies name schema job.marks.marks sources old new
        → CopiesSeries name job schema old new
    copies_winners old new copies = record {
      points = copies.points;
      adds = copies.adds;
      rising = copies.rising;
      winners = λ told tells.
          let all = merged told tells in all.winners copies.points (copies.winners all.pages all.lists all.survive);
    }

    -- the winners of inputs that tell their bytes are of their series' type
    no_damage : IsJobFormed job → Among schema job.schemas → (told : ToldContents) → TellsInputs name told job
        → AreDamaged name schema job.marks.marks sources → ⊥
    no_damage formed among told tells damage =
        let all = merged told tells in
        let bad = damage.ok all.pages all.lists all.survive in
        bad.2 (each_weaker (λ (point : Point). winner told job (place_at schema.path point.time) ≡ Some point.value)
        (λ point. type_of point.value ≡ schema.data_type) (λ point is.
        let has = tells.truth.schemas (place_at schema.path point.time) point.value is in
        subst (λ (s : Schema). type_of point.value ≡ s.data_type)
        (one_schema job.schemas has.schema schema formed.rising has.among among has.path) has.typed) bad.0
        (all.winners bad.0 bad.1).are)

    -- damage was counted, unless each input tells its bytes, and then there is none
    pub damage_cause : {U : Type 0} (a b c : ℕ) → IsJobFormed job → Among schema job.schemas → a ≤ b → b ≤ c
        → (Each (TellsBytes name) job.inputs) ⊎ Rose b c → AreDamaged name schema job.marks.marks sources
        → (told : ToldContents) → TellsTruth name told job → HasStoreCause {T = U} a c (Err Failed)
    damage_cause a b c formed among before later counted damage told truth = record {
      later = omega (arith, before, later);
      failed = λ is. ⊎_elim
          (λ all. absurd (no_damage formed among told (record { truth = truth; all = all }) damage))
          (λ rose. omega (arith, before, rose)) counted;
    }
