-- What is planned can begin.
use Rattle.std.proofs.Common.{◌≡◌, ℕ, Bool, false, List, ◌++◌, inl, inr, sym, subst, ◌∙◌}
use Rattle.std.specs.List.{AllByRecursion as Each}
use Rattle.tsdb_base.specs.declared.ids.Space.{Space}
use Rattle.tsdb_base.specs.declared.ids.Space.TheVariants.{Sequence, Unsequence}
use Rattle.tsdb_compactions.proofs.Marks.{marks_suffice}
use Rattle.tsdb_compactions.specs.Plans.{IsOfMoment, IsPlanned}
use Rattle.tsdb_base.proofs.Lists.{each_all, each_among, each_from_among, each_weaker}
use Rattle.tsdb_state.specs.Layers.{survivor}
use Rattle.tsdb_base.specs.Lists.{Among}
use Rattle.tsdb_state.proofs.OtherJobs.{inputs_listed}
use Rattle.tsdb_state.proofs.Plans.{apart_of_free, cross_free, cross_gap, inner_free, inner_sequence}
use Rattle.tsdb_state.proofs.Plans.{inner_unsequence, other_space}
use Rattle.tsdb_state.specs.Jobs.{AreApart, Describes, HasKind, Stands, job_inputs}
use Rattle.tsdb_state.specs.Order.{IsInOrder}
use Rattle.tsdb_state.specs.Plans.{ClaimLate}
use Rattle.tsdb_state.specs.State.{Compaction, EngineState, KnownFiles, File, ToldContents}
use Rattle.tsdb_state.specs.Steps.{Begins}
use Rattle.tsdb_state.specs.Views.{file_layer}

module _ (told : ToldContents) (known : KnownFiles) (named : List ℕ) (engine : EngineState) (claimed : File → Bool)
    (job : Compaction) (order : IsInOrder told known named engine) (claims : ClaimLate claimed engine.compactions) where
  -- the inputs stand as the kind of the job asks, and no other job has them
  record CanStand : Type 0 where
    pub kind : HasKind job.space job
    pub stand : Stands job.space told engine.store.sequence engine.store.unsequence job
    pub apart : Each (AreApart job) engine.compactions

  in_space : (space : Space) → job.space ≡ space
      → HasKind space job × Stands space told engine.store.sequence engine.store.unsequence job
      → Each (AreApart job) engine.compactions → CanStand
  in_space space is both apart = record {
    kind = subst (λ s. HasKind s job) (sym is) both.0;
    stand = subst (λ s. Stands s told engine.store.sequence engine.store.unsequence job) (sym is) both.1;
    apart = apart;
  }

  free_list : Each (λ (other : Compaction). other.space ≡ Sequence → ⊥) engine.compactions
      → Each (λ (other : Compaction). job.space ≡ Sequence → other.space ≡ Sequence → ⊥) engine.compactions
  free_list free = each_weaker (λ (other : Compaction). other.space ≡ Sequence → ⊥)
      (λ other. job.space ≡ Sequence → other.space ≡ Sequence → ⊥) (λ other never mine. never) engine.compactions free

  can_stand : IsPlanned known claimed engine job → CanStand
  can_stand (inl plan) = in_space Sequence plan.is.space
      (inner_sequence told known claimed engine.store.sequence engine.store.unsequence plan.run job plan.plan plan.is)
      (apart_of_free claimed engine.compactions job claims
      (subst (Each (λ file. claimed file ≡ false)) (sym plan.is.no_late) tt) (free_list plan.free))
  can_stand (inr (inl plan)) = in_space Unsequence plan.is.space
      (inner_unsequence known claimed engine.store.unsequence plan.run job plan.plan plan.is)
      (apart_of_free claimed engine.compactions job claims
      (inner_free known claimed engine.store.unsequence plan.run job plan.plan plan.is)
      (each_all (λ (other : Compaction). job.space ≡ Sequence → other.space ≡ Sequence → ⊥)
      (λ other mine. absurd (other_space (sym plan.is.space ∙ mine))) engine.compactions))
  can_stand (inr (inr plan)) = in_space Sequence plan.is.space
      (cross_gap told known claimed claimed engine.store.sequence engine.store.unsequence order.entries plan.run job
      plan.plan plan.is)
      (apart_of_free claimed engine.compactions job claims
      (cross_free known claimed claimed engine.store.sequence engine.store.unsequence plan.run job plan.plan plan.is)
      (free_list plan.free))

  pub planned_begins : IsPlanned known claimed engine job → IsOfMoment known engine job → Begins told job engine
  planned_begins planned moment = record {
    kind = can.kind;
    stand = can.stand;
    apart = can.apart;
    born = moment.born;
    marks = λ place. each_from_among _ (job_inputs job) (λ file among.
        subst (λ marks. survivor marks place (file_layer told file)
        ≡ survivor engine.store.marks place (file_layer told file)) (sym moment.marks)
        (marks_suffice moment.paths engine.store.marks (known file.number) (told file.number) file.born
        (each_among (λ (f : File). Describes (known f.number) (told f.number))
        (engine.store.sequence ++ engine.store.unsequence) file order.entries
        (each_among (λ (f : File). Among f (engine.store.sequence ++ engine.store.unsequence)) (job_inputs job) file
        listed among))
        (each_among (λ (f : File). (path : List ℕ) → Among path (known f.number).series → Among path moment.paths)
        (job_inputs job) file moment.all among) place));
    output = moment.output;
    left = moment.left;
  }
    where
      can : CanStand
      can = can_stand planned

      listed : Each (λ file. Among file (engine.store.sequence ++ engine.store.unsequence)) (job_inputs job)
      listed = inputs_listed told engine.store.sequence engine.store.unsequence job job.space can.kind can.stand
