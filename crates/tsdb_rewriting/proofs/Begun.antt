-- A job that has begun is out beside what was out, and what its end makes of the whole.
use Rattle.std.proofs.Common.{◌≡◌, ◌⊎◌, ℕ, ◌≤◌, Option, None, Some}
use Rattle.std.proofs.Common.{Result, Ok, Err, inl, inr, ap, arith, refl, sym, subst, ◌∙◌}
use Rattle.std.specs.List.{AllByRecursion as Each}
use Rattle.std.specs.Option.{IsSomeAnd, option_map}
use Rattle.std.specs.Prelude.{IfErr, IfSome}
use Rattle.tsdb_base.proofs.Lists.{each_weaker}
use Rattle.tsdb_base.specs.Causes.{Rose}
use Rattle.tsdb_base.specs.Lists.{count}
use Rattle.tsdb_base.specs.declared.ids.Space.{Space}
use Rattle.tsdb_compactions.specs.declared.job.Input.{Input}
use Rattle.tsdb_compactions.specs.declared.job.Job.{Job}
use Rattle.tsdb_fileset.specs.Files.{kept_file}
use Rattle.tsdb_fileset.specs.Places.{AreOfStore, KeptFile}
use Rattle.tsdb_fileset.specs.Rights.{IsRightTo}
use Rattle.tsdb_fileset.specs.declared.files.Outgoing.{Outgoing}
use Rattle.tsdb_frames.specs.Frames.{faults_of}
use Rattle.tsdb_inner.specs.Inputs.{IsInputOf}
use Rattle.tsdb_outside.specs.Disk.{IsLawful}
use Rattle.tsdb_outside.specs.Files.{NamedFile, Store, Tells}
use Rattle.tsdb_outside.specs.declared.disk.Disk as disk
use Rattle.tsdb_outside.specs.declared.faults.Counted as counted
use Rattle.tsdb_rewriting.proofs.Untold.{nothing, truth_of_nothing}
use Rattle.tsdb_rewriting.specs.Rewriting.{EndsJob, IsStartAnswer, LendsJob, LendsJobOrNot, LendsNoJob, WasTold}
use Rattle.tsdb_serving.proofs.Flushes.{over}
use Rattle.tsdb_serving.proofs.Out.{first_job, job_can_end, job_joins, no_job}
use Rattle.tsdb_serving.proofs.Parts.{same_seen}
use Rattle.tsdb_serving.proofs.Read.{still_read}
use Rattle.tsdb_serving.specs.Beginnings.{IsBeginAnswer, IsBegun, IsBegunOrNot, IsNotBegun}
use Rattle.tsdb_serving.specs.Changes.{more_rights}
use Rattle.tsdb_serving.specs.Compactions.{IsJobOut}
use Rattle.tsdb_serving.specs.Core.{files_of, store_of}
use Rattle.tsdb_serving.specs.CoreFault.{CoreFault}
use Rattle.tsdb_serving.specs.CoreType.{Core}
use Rattle.tsdb_serving.specs.Faults.{of_core_fault}
use Rattle.tsdb_serving.specs.Flushing.{GoesOn, faults_under}
use Rattle.tsdb_serving.specs.InputRuns.{InputRuns}
use Rattle.tsdb_serving.specs.Inputs.{input_numbers}
use Rattle.tsdb_serving.specs.Loans.{CanServe}
use Rattle.tsdb_serving.specs.Out.{with_job}
use Rattle.tsdb_serving.specs.Serving.{IsDrawn, IsSure, ServesWith}
use Rattle.tsdb_serving.specs.Sweeping.{AreOutgoingRead, IsRead}
use Rattle.tsdb_serving.specs.TheVariants as core_fault
use Rattle.tsdb_serving.specs.declared.fault.FlushFault.{FlushFault}
use Rattle.tsdb_serving.specs.declared.fault.FlushFault.TheVariants as fault
use Rattle.tsdb_serving.specs.declared.loan.Loan.TheVariants as loan
use Rattle.tsdb_state.specs.Steps.{began}

-- a right to read a file of the store is to one of the store
of_right : {R : Type 0} (name : R → NamedFile) (store : Store) (kept : Option KeptFile) (right : R)
    → IsRightTo name kept (Some right) → IfSome kept (λ file. file.name.store ≡ store) → (name right).store ≡ store
of_right name store None right is of = absurd is
of_right name store (Some file) right is of = ap (λ (named : NamedFile). named.store) is ∙ of

-- with more rights it is read still
more_read : (more : ℕ) (old new : Option KeptFile) → new ≡ option_map (more_rights more) old
    → IsSomeAnd old (λ file. 1 ≤ file.rights) → IsSomeAnd new (λ file. 1 ≤ file.rights)
more_read more None new is read = absurd read
more_read more (Some file) new is read =
    subst (λ found. IsSomeAnd found (λ (k : KeptFile). 1 ≤ k.rights)) (sym is) (omega (arith, read))

-- ---- what a start answers

module _ {F S R P : Type 0} (IsPlan : InputRuns → Type 0) (next : ℕ) where
  pub start_begun : (begun : Option (Job F S R P)) → IsBeginAnswer IsPlan next (Ok begun)
      → IsStartAnswer IsPlan next (Ok begun)
  start_begun None answer = answer
  start_begun (Some job) answer = answer

pub start_fault : {F S R P : Type 0} (IsPlan : InputRuns → Type 0) (next : ℕ)
    (result : Result (Option (Job F S R P)) CoreFault) (fault : CoreFault) (why : FlushFault) → result ≡ Err fault
    → why ≡ of_core_fault fault → IsBeginAnswer IsPlan next result
    → IsStartAnswer {F = F} {S = S} {R = R} {P = P} IsPlan next (Err why)
start_fault {F} {S} {R} {P} IsPlan next result core_fault.Memory why is same answer =
    subst (λ w. IsStartAnswer {F = F} {S = S} {R = R} {P = P} IsPlan next (Err w)) (sym same)
    (subst (IsBeginAnswer IsPlan next) is answer)
start_fault {F} {S} {R} {P} IsPlan next result (core_fault.Full counter) why is same answer =
    subst (λ w. IsStartAnswer {F = F} {S = S} {R = R} {P = P} IsPlan next (Err w)) (sym same)
    (subst (IsBeginAnswer IsPlan next) is answer)

-- where memory ended no job has begun, and the start answers so
module _ {A : Type 0} (result : Result (Option A) CoreFault) (out : result ≡ Err core_fault.Memory) where
  pub memory_began : (begun : Option A) → result ≡ Ok begun → ⊥
  memory_began begun is = cc

  pub memory_fault : (why : CoreFault) → result ≡ Err why → of_core_fault why ≡ fault.Memory
  memory_fault core_fault.Memory is = refl
  memory_fault (core_fault.Full counter) is = absurd cc

-- ---- a turn that begins a job

module _ {J F S R P : Type 0} {means : disk.Ghosts J} {counts : counted.Ghosts J} where
  lends_none : ((journal : J) → IsLawful (means.state journal)) → (old new : Core J F S R P means counts)
      → IsNotBegun old new → LendsNoJob old new
  lends_none laws old new none = record {
    none = none;
    turn = record {
      keeps_all = λ store. no_job old new none store;
      log = none.logged.log.log;
      memory = none.logged.room;
      next = none.same.next;
      limit = none.limit;
      keeps = λ loans files at next serving. same_seen laws loans old new files at next none.same.step serving;
    };
  }

  module _ (name : R → NamedFile) where
    serves_job : (space : Space) (runs : InputRuns) (old new : Core J F S R P means counts) (job : Job F S R P)
        → IsBegun name space runs old new job → ServesWith (loan.Compaction job) old new
    serves_job space runs old new job begun loans files at next serving =
        let step = begun.step serving.outside serving.state serving.seen in record {
          outside = serving.outside;
          state = began step.0 serving.state;
          seen = step.3;
          lent = record {
            flushes = serving.lent.flushes;
            compactions = (step.1, serving.lent.compactions);
            pins = serving.lent.pins;
          };
          stands = serving.stands;
          doubt = serving.doubt;
          held = serving.held;
        }

    lends_job : (space : Space) (runs : InputRuns) (old new : Core J F S R P means counts) (job : Job F S R P)
        → IsBegun name space runs old new job → LendsJob name space runs old new job
    lends_job space runs old new job begun = record {
      begun = begun;
      turn = record {
        lends = λ store out kept. (job_joins name space runs old new job begun store out kept).1;
        log = begun.lists.logged.log.log;
        memory = begun.lists.logged.room;
        next = begun.next;
        limit = begun.lists.limit;
        serves = serves_job space runs old new job begun;
      };
    }

    pub lent_or_not : ((journal : J) → IsLawful (means.state journal)) → (space : Space) (IsPlan : InputRuns → Type 0)
        (old new : Core J F S R P means counts) (result : Result (Option (Job F S R P)) CoreFault)
        → IsBegunOrNot name space IsPlan old new result → LendsJobOrNot name space IsPlan old new result
    lent_or_not laws space IsPlan old new (Ok None) none = lends_none laws old new none
    lent_or_not laws space IsPlan old new (Ok (Some job)) (runs, plan, begun) =
        (runs, plan, lends_job space runs old new job begun)
    lent_or_not laws space IsPlan old new (Err fault) none = lends_none laws old new none

    -- so too where its fault is called otherwise
    pub lent_begun : (space : Space) (IsPlan : InputRuns → Type 0) (old new : Core J F S R P means counts)
        (begun : Option (Job F S R P)) → LendsJobOrNot name {E = CoreFault} space IsPlan old new (Ok begun)
        → LendsJobOrNot name {E = FlushFault} space IsPlan old new (Ok begun)
    lent_begun space IsPlan old new None lent = lent
    lent_begun space IsPlan old new (Some job) lent = lent

    -- what was read on its way out is read still
    pub begun_read : (space : Space) (IsPlan : InputRuns → Type 0) (old new : Core J F S R P means counts)
        (result : Result (Option (Job F S R P)) CoreFault) → IsBegunOrNot name space IsPlan old new result
        → AreOutgoingRead (files_of old) → AreOutgoingRead (files_of new)
    begun_read space IsPlan old new (Ok None) none read =
        still_read (files_of old) (files_of new) none.lists.outgoing none.places.files read
    begun_read space IsPlan old new (Ok (Some job)) (runs, plan, begun) read =
        subst (Each (IsRead (files_of new))) (sym begun.lists.outgoing)
        (each_weaker (IsRead (files_of old)) (IsRead (files_of new))
        (λ (file : Outgoing) is. more_read (count file.number.0 (input_numbers job.inputs))
        (kept_file file.number.0 (files_of old)) (kept_file file.number.0 (files_of new)) (begun.rights file.number.0)
        is) (files_of old).outgoing read)
    begun_read space IsPlan old new (Err fault) none read =
        still_read (files_of old) (files_of new) none.lists.outgoing none.places.files read

    -- ---- what is known of a job that is out

    -- its inputs are files of the store
    pub of_the_store : (store : Store) (core : Core J F S R P means counts) (job : Job F S R P) → IsJobOut name core job
        → AreOfStore (store_of core) (files_of core).places → store ≡ store_of core
        → Each (IsInputOf name store) job.inputs
    of_the_store store core job out are is = each_weaker
        (λ (input : Input F S R P). IsRightTo name (kept_file input.number.0 (files_of core)) (Some input.right))
        (IsInputOf name store)
        (λ input held. of_right name (store_of core) (kept_file input.number.0 (files_of core)) input.right held
        (are input.number.0) ∙ sym is) job.inputs out.kept.held.held

    module _ (space : Space) (runs : InputRuns) (old mid : Core J F S R P means counts) (job : Job F S R P)
        (lent : LendsJob name space runs old mid job) where
      -- it can be ended
      pub can_end : (store : Store) → CanServe store old → IsJobOut name mid job
      can_end store (out, kept) =
          let joined = job_joins name space runs old mid job lent.begun store out kept in
          job_can_end name mid job store out (with_job name job out) joined.0 (first_job name job out) joined.1

      pub still_of : (store : Store) → CanServe store old → store ≡ store_of mid
      still_of store (out, kept) = (lent.turn.lends store out kept).of_store

      -- what is told of its inputs where the core is in a state, and where the store tells nothing
      pub was_told : (store : Store) → ((right : R) → Tells (name right)) → Each (IsInputOf name store) job.inputs
          → IsSure store old → WasTold name job
      was_told store laws of (inl untold) = (nothing, truth_of_nothing name laws store untold job of)
      was_told store laws of (inr is) = (is.4.outside.told, lent.begun.truth is.4.outside is.4.state is.4.seen)

      pub rewritten : ((journal : J) → IsLawful (means.state journal)) → (of : P → Store) (faults : P → ℕ)
          (port after : P) (new : Core J F S R P means counts) → EndsJob name (of port) job mid new
          → of after ≡ of port → faults port ≤ faults after → GoesOn of faults port after old new 1
      rewritten laws of faults port after new ends same_store later = over of faults laws name (loan.Compaction job)
          (λ number. number ≡ job.output.0) port after old mid new 1 lent.turn ends.ends as_drawn
          (λ tells loans files at next serving. ends.serves tells
          (serving.outside.told, lent.begun.truth serving.outside serving.state serving.seen)) same_store later
        where
          as_drawn : (n : ℕ) → n ≡ job.output.0 → IsDrawn old new n
          as_drawn n is = record {
            from = omega (arith, is, lent.begun.is_new.output);
            to = omega (arith, is, lent.begun.is_new.output, lent.begun.next, ends.ends.next);
          }

      -- counts of faults rise from where they were before the job
      pub cause_of : (result : Result (Unit {0}) FlushFault) (is_device : FlushFault → Type 0)
          (after port port_after : ℕ) → IfErr result (λ fault. is_device fault → Rose (faults_under mid) after
          ⊎ Rose port port_after) → IfErr result (λ fault. is_device fault → Rose (faults_under old) after
          ⊎ Rose port port_after)
      cause_of (Ok value) is_device after port port_after cause = tt
      cause_of (Err fault) is_device after port port_after cause =
          subst (λ count. is_device fault → Rose count after ⊎ Rose port port_after)
          (ap (λ log. faults_of log) lent.turn.log) cause
