-- What is out, loan by loan: one that joins the others, and one that leaves them.
use Rattle.std.proofs.Common.{◌≡◌, List, [], ◌∷◌, ◌++◌, map, inl, ap, refl, sym, subst, ◌∙◌}
use Rattle.std.proofs.lemmas.Grind.{flat_map-append}
use Rattle.std.proofs.lemmas.List.{map-append}
use Rattle.std.specs.List.{AllByRecursion as Each, AllZip, flat_map}
use Rattle.tsdb_base.proofs.Lists.{among_right, with_one_each, with_one_is}
use Rattle.tsdb_base.specs.Lists.{Among, IsWithOne}
use Rattle.tsdb_core.proofs.LoansOut.{flush_out, pin_held}
use Rattle.tsdb_core.proofs.Out.{has_numbers, job_can_end}
use Rattle.tsdb_core.specs.Compactions.{IsHandedOut, job_rights}
use Rattle.tsdb_core.specs.FlushJob.{FlushJob}
use Rattle.tsdb_core.specs.Out.{compaction_of, flush_of}
use Rattle.tsdb_core.specs.Pins.{pin_rights}
use Rattle.tsdb_core.specs.declared.engine.Core.{Core}
use Rattle.tsdb_outside.specs.Files.{NamedFile, Store}
use Rattle.tsdb_outside.specs.declared.disk.Disk as disk
use Rattle.tsdb_outside.specs.declared.faults.Counted as counted
use Rattle.tsdb_serving.specs.Loans.{AreLent, CanEnd, IsFlushLent, IsWithLoan, KeepsAll, KeepsLent, Lends, TakesBack}
use Rattle.tsdb_serving.specs.Loans.{flush_in}
use Rattle.tsdb_serving.specs.Loans.{flushes_in, job_in, jobs_in, loan_rights, out_of, pin_in, pins_in}
use Rattle.tsdb_serving.specs.declared.loan.Loan.{Loan}
use Rattle.tsdb_serving.specs.declared.loan.Loan.TheVariants as loan
use Rattle.tsdb_state.specs.State.{Compaction, FlushState, PinState}
use Rattle.tsdb_tasks.specs.Job.{Job}
use Rattle.tsdb_tasks.specs.Jobs.{IsCompactionOf}
use Rattle.tsdb_tasks.specs.Pin.{Pin}
use Rattle.tsdb_tasks.specs.StateOfPin.{IsPinOf}

-- ---- lists with one more

with_mapped : {X Y : Type 0} (f : X → Y) (x : X) (others all : List X) → IsWithOne x others all
    → IsWithOne (f x) (map f others) (map f all)
with_mapped f x others all one = record {
  before = map f one.before;
  behind = map f one.behind;
  with_it = ap (map f) one.with_it ∙ map-append f one.before (x ∷ one.behind);
  without = ap (map f) one.without ∙ map-append f one.before one.behind;
}

-- the parts of one element are one more
with_part : {X Y : Type 0} (part : X → List Y) (x : X) (y : Y) (others all : List X) → part x ≡ y ∷ []
    → IsWithOne x others all → IsWithOne y (flat_map part others) (flat_map part all)
with_part part x y others all is one = record {
  before = flat_map part one.before;
  behind = flat_map part one.behind;
  with_it = ap (flat_map part) one.with_it ∙ flat_map-append part one.before (x ∷ one.behind)
      ∙ ap (λ ys. flat_map part one.before ++ (ys ++ flat_map part one.behind)) is;
  without = ap (flat_map part) one.without ∙ flat_map-append part one.before one.behind;
}

-- it has none
without_part : {X Y : Type 0} (part : X → List Y) (x : X) (others all : List X) → part x ≡ []
    → IsWithOne x others all → flat_map part all ≡ flat_map part others
without_part part x others all is one =
    ap (flat_map part) one.with_it ∙ flat_map-append part one.before (x ∷ one.behind)
    ∙ ap (λ ys. flat_map part one.before ++ (ys ++ flat_map part one.behind)) is
    ∙ sym (flat_map-append part one.before one.behind) ∙ sym (ap (flat_map part) one.without)

-- The element has its partner among the others', and these have theirs.
pub record HasPartner {X Y : Type 0} (Fits : X → Y → Type 0) (x : X) (others : List X) (ys : List Y) : Type 0 where
  pub partner : Y
  pub rest : List Y
  pub fits : Fits x partner
  pub one : IsWithOne partner rest ys
  pub zip : AllZip Fits others rest

partner_in : {X Y : Type 0} (Fits : X → Y → Type 0) (x : X) (before behind : List X) (ys : List Y)
    → AllZip Fits (before ++ x ∷ behind) ys → HasPartner Fits x (before ++ behind) ys
partner_in Fits x [] behind [] zip = absurd zip
partner_in Fits x [] behind (y ∷ ys) zip = record {
  partner = y;
  rest = ys;
  fits = zip.0;
  one = record { before = []; behind = ys; with_it = refl; without = refl };
  zip = zip.1;
}
partner_in Fits x (b ∷ before) behind [] zip = absurd zip
partner_in Fits x (b ∷ before) behind (y ∷ ys) zip = let found = partner_in Fits x before behind ys zip.1 in record {
  partner = found.partner;
  rest = y ∷ found.rest;
  fits = found.fits;
  one = record {
    before = y ∷ found.one.before;
    behind = found.one.behind;
    with_it = ap (λ l. y ∷ l) found.one.with_it;
    without = ap (λ l. y ∷ l) found.one.without;
  };
  zip = (zip.0, found.zip);
}

partner_of : {X Y : Type 0} (Fits : X → Y → Type 0) (x : X) (others all : List X) (ys : List Y) → IsWithOne x others all
    → AllZip Fits all ys → HasPartner Fits x others ys
partner_of Fits x others all ys one zip = subst (λ l. HasPartner Fits x l ys) (sym one.without)
    (partner_in Fits x one.before one.behind ys (subst (λ l. AllZip Fits l ys) one.with_it zip))

-- ---- the loans of a state

module _ {F S R P : Type 0} (others loans : List (Loan F S R P)) (taken : List FlushState) (begun : List Compaction)
    (pinned : List PinState) (lent : AreLent loans taken begun pinned) where
  -- the flush is one of the state, and the others are the rest
  pub flush_partner : (job : FlushJob) → IsWithOne (loan.Flush job) others loans
      → HasPartner IsFlushLent job (flushes_in others) taken
  flush_partner job one = partner_of IsFlushLent job (flushes_in others) (flushes_in loans) taken
      (with_part flush_in (loan.Flush job) job others loans refl one) lent.flushes

  pub without_flush : (job : FlushJob) (one : IsWithOne (loan.Flush job) others loans)
      → AreLent others (flush_partner job one).rest begun pinned
  without_flush job one = record {
    flushes = (flush_partner job one).zip;
    compactions = subst (λ l. AllZip IsCompactionOf l begun) (without_part job_in (loan.Flush job) others loans refl one)
        lent.compactions;
    pins = subst (λ l. AllZip IsPinOf l pinned) (without_part pin_in (loan.Flush job) others loans refl one) lent.pins;
  }

  -- the same of a compaction
  pub job_partner : (job : Job F S R P) → IsWithOne (loan.Compaction job) others loans
      → HasPartner IsCompactionOf job (jobs_in others) begun
  job_partner job one = partner_of IsCompactionOf job (jobs_in others) (jobs_in loans) begun
      (with_part job_in (loan.Compaction job) job others loans refl one) lent.compactions

  pub without_job : (job : Job F S R P) (one : IsWithOne (loan.Compaction job) others loans)
      → AreLent others taken (job_partner job one).rest pinned
  without_job job one = record {
    flushes = subst (λ l. AllZip IsFlushLent l taken)
        (without_part flush_in (loan.Compaction job) others loans refl one) lent.flushes;
    compactions = (job_partner job one).zip;
    pins = subst (λ l. AllZip IsPinOf l pinned) (without_part pin_in (loan.Compaction job) others loans refl one)
        lent.pins;
  }

  -- and of a pin
  pub pin_partner : (pin : Pin F S R P) → IsWithOne (loan.Pin pin) others loans
      → HasPartner IsPinOf pin (pins_in others) pinned
  pin_partner pin one = partner_of IsPinOf pin (pins_in others) (pins_in loans) pinned
      (with_part pin_in (loan.Pin pin) pin others loans refl one) lent.pins

  pub without_pin : (pin : Pin F S R P) (one : IsWithOne (loan.Pin pin) others loans)
      → AreLent others taken begun (pin_partner pin one).rest
  without_pin pin one = record {
    flushes = subst (λ l. AllZip IsFlushLent l taken) (without_part flush_in (loan.Pin pin) others loans refl one)
        lent.flushes;
    compactions = subst (λ l. AllZip IsCompactionOf l begun) (without_part job_in (loan.Pin pin) others loans refl one)
        lent.compactions;
    pins = (pin_partner pin one).zip;
  }

-- ---- what a core keeps for them

module _ {F S R P : Type 0} (name : R → NamedFile) (others loans : List (Loan F S R P)) where
  -- what is out with a loan is what is out without it, and this loan
  is_with_loan : (one : Loan F S R P) → IsWithOne one others loans
      → IsWithLoan name one (out_of name others) (out_of name loans)
  is_with_loan (loan.Flush job) is = record {
    flushes = with_mapped flush_of job (flushes_in others) (flushes_in loans)
        (with_part flush_in (loan.Flush job) job others loans refl is);
    compactions = ap (map compaction_of) (without_part job_in (loan.Flush job) others loans refl is);
    lent = without_part (loan_rights name) (loan.Flush job) others loans refl is;
  }
  is_with_loan (loan.Compaction job) is = record {
    flushes = ap (map flush_of) (without_part flush_in (loan.Compaction job) others loans refl is);
    compactions = with_mapped compaction_of job (jobs_in others) (jobs_in loans)
        (with_part job_in (loan.Compaction job) job others loans refl is);
    lent = with_part (loan_rights name) (loan.Compaction job) (job_rights name job) others loans refl is;
  }
  is_with_loan (loan.Pin pin) is = record {
    flushes = ap (map flush_of) (without_part flush_in (loan.Pin pin) others loans refl is);
    compactions = ap (map compaction_of) (without_part job_in (loan.Pin pin) others loans refl is);
    lent = with_part (loan_rights name) (loan.Pin pin) (pin_rights name pin) others loans refl is;
  }

module _ {F S R P : Type 0} (others loans : List (Loan F S R P)) where
  handed_without : (one : Loan F S R P) → IsWithOne one others loans → Each IsHandedOut (jobs_in loans)
      → Each IsHandedOut (jobs_in others)
  handed_without (loan.Flush job) is handed =
      subst (Each IsHandedOut) (without_part job_in (loan.Flush job) others loans refl is) handed
  handed_without (loan.Compaction job) is handed = with_one_each IsHandedOut job (jobs_in others) (jobs_in loans)
      (with_part job_in (loan.Compaction job) job others loans refl is) handed
  handed_without (loan.Pin pin) is handed =
      subst (Each IsHandedOut) (without_part job_in (loan.Pin pin) others loans refl is) handed

one_among : {X : Type 0} (x : X) (others all : List X) → IsWithOne x others all → Among x all
one_among x others all is =
    subst (Among x) (sym is.with_it) (among_right is.before (x ∷ is.behind) x (inl refl))

module _ {J F S R P : Type 0} {means : disk.Ghosts J} {counts : counted.Ghosts J} (name : R → NamedFile)
    (store : Store) where
  pub lent_still : (old new : Core J F S R P means counts) (loans : List (Loan F S R P)) → KeepsAll store old new
      → KeepsLent name store loans old → KeepsLent name store loans new
  lent_still old new loans keeps lent = record { out = keeps (out_of name loans) lent.out; handed = lent.handed }

  pub lent_with : (old new : Core J F S R P means counts) (one : Loan F S R P) (loans : List (Loan F S R P))
      → Lends name store one old new → Each IsHandedOut (job_in one) → KeepsLent name store loans old
      → KeepsLent name store (one ∷ loans) new
  lent_with old new (loan.Flush job) loans lends handed lent =
      record { out = lends (out_of name loans) lent.out; handed = lent.handed }
  lent_with old new (loan.Compaction job) loans lends handed lent =
      record { out = lends (out_of name loans) lent.out; handed = (handed.0, lent.handed) }
  lent_with old new (loan.Pin pin) loans lends handed lent =
      record { out = lends (out_of name loans) lent.out; handed = lent.handed }

  pub lent_without : (old new : Core J F S R P means counts) (one : Loan F S R P) (others loans : List (Loan F S R P))
      → IsWithOne one others loans → TakesBack name store one old new → KeepsLent name store loans old
      → KeepsLent name store others new
  lent_without old new one others loans is back lent = record {
    out = back (out_of name others) (out_of name loans) (is_with_loan name others loans one is) lent.out;
    handed = handed_without others loans one is lent.handed;
  }

  -- each loan can be ended
  pub can_end : (core : Core J F S R P means counts) (one : Loan F S R P) (others loans : List (Loan F S R P))
      → IsWithOne one others loans → KeepsLent name store loans core → CanEnd name core one
  can_end core (loan.Flush job) others loans is lent = flush_out core job (flush_of job) (out_of name others).flushes
      (out_of name loans).flushes (out_of name loans).compactions (out_of name loans).lent (has_numbers job)
      (is_with_loan name others loans (loan.Flush job) is).flushes lent.out.loans
  can_end core (loan.Compaction job) others loans is lent = job_can_end name core job store (out_of name others)
      (out_of name loans)
      (with_one_is IsHandedOut job (jobs_in others) (jobs_in loans)
      (with_part job_in (loan.Compaction job) job others loans refl is) lent.handed)
      (is_with_loan name others loans (loan.Compaction job) is) lent.out
  can_end core (loan.Pin pin) others loans is lent = pin_held name core pin (out_of name loans).flushes
      (out_of name loans).compactions (out_of name loans).lent
      (one_among (pin_rights name pin) (out_of name others).lent (out_of name loans).lent
      (is_with_loan name others loans (loan.Pin pin) is).lent) lent.out.loans
