-- What a plan names stands as a job of its kind asks: its runs are side by side, and a cross plan has its gap.
use Rattle.std.proofs.Common.{◌≡◌, ℕ, zero, suc, ◌+◌, ◌-◌, ◌≤◌, ℤ, ◌<ℤ◌, ◌≤ℤ◌, Bool, true, false, List, [], ◌∷◌}
use Rattle.std.proofs.Common.{◌++◌}
use Rattle.std.proofs.Common.{drop, inl, inr, length, refl, sym, ap, ◌∙◌, subst, take, arith}
use Rattle.std.specs.FinMap.{get}
use Rattle.std.specs.Prelude.{All, Any, Some, int_lt, slice_range}
use Rattle.std.specs.List.{AllByRecursion as Each, AllWithin, drop-map, take-map}
use Rattle.std.proofs.lemmas.Bool.{false≢true}
use Rattle.std.proofs.lemmas.Int.{ints}
use Rattle.std.proofs.lemmas.List.{length-drop, length-take, take-append-drop}
use Rattle.std.proofs.lemmas.List.Elements.{recursion_from_All}
use Rattle.tsdb_base.specs.declared.ids.Space.TheVariants.{Sequence, Unsequence}
use Rattle.tsdb_base.specs.declared.value.Value.{Value}
use Rattle.tsdb_base.proofs.Lists.{each_among, each_left, each_of_map, each_right}
use Rattle.tsdb_state.specs.Layers.{HasPoint}
use Rattle.tsdb_base.specs.Lists.{Among, IsRun}
use Rattle.tsdb_state.specs.LayerOrder.{IsBeforeInTime}
use Rattle.tsdb_state.specs.Places.{PointPlace}
use Rattle.tsdb_path.specs.Nodes.{device_of}
use Rattle.tsdb_plan.proofs.Hulls.{to_end, to_start}
use Rattle.tsdb_plan.proofs.ListFacts.{Any-head, Any-left, Any-right, Any-tail}
use Rattle.tsdb_plan.specs.CrossPlan.{HasTimeFromStart, HasTimeUpToEnd, IsCrossPlan, hulls_of}
use Rattle.tsdb_plan.specs.InnerPlan.{IsInnerPlan}
use Rattle.tsdb_plan.specs.declared.entry.CrossRun.{CrossRun}
use Rattle.tsdb_plan.specs.declared.entry.FileEntry.{FileEntry}
use Rattle.tsdb_plan.specs.declared.entry.Hull.{Hull}
use Rattle.tsdb_plan.specs.declared.entry.Run.{Run}
use Rattle.tsdb_state.specs.Jobs.{AreApart, Describes, EntriesMatch, HasGap, HasKind, IsHullOver}
use Rattle.tsdb_state.specs.Plans.{ClaimLate, file_entries, file_entry, IsCrossJob}
use Rattle.tsdb_state.specs.Plans.{IsInnerSequenceJob, IsInnerUnsequenceJob}
use Rattle.tsdb_state.specs.State.{Compaction, KnownFiles, File, ToldContents}
use Rattle.tsdb_state.specs.Views.{file_layers}

-- what holds within places holds of the part of the list there

each_take : {X : Type 0} (P : X → Type 0) (xs : List X) (n : ℕ) → AllWithin P xs 0 n → n ≤ length xs
    → Each P (take n xs)
each_take P xs zero all within = tt
each_take P [] (suc n) all within = tt
each_take P (x ∷ xs) (suc n) all within = (
  all 0 x (omega arith) (omega arith),
  each_take P xs n (λ k d low high. all (suc k) d (omega arith) (omega arith)) (omega arith),
)

each_drop : {X : Type 0} (P : X → Type 0) (xs : List X) (n : ℕ) → AllWithin P xs n (length xs) → Each P (drop n xs)
each_drop P [] zero all = tt
each_drop P [] (suc n) all = tt
each_drop P (x ∷ xs) zero all = (
  all 0 x (omega arith) (omega arith),
  each_drop P xs zero (λ k d low high. all (suc k) d (omega arith) (omega arith)),
)
each_drop P (x ∷ xs) (suc n) all = each_drop P xs n (λ k d low high. all (suc k) d (omega arith) (omega arith))

from_later : {X : Type 0} (P : X → Type 0) (xs : List X) (n m : ℕ) → n ≤ m → AllWithin P xs n (length xs)
    → AllWithin P xs m (length xs)
from_later P xs n m h all = λ k d low high. all k d (omega arith) high

take_none : (n : ℕ) → ◌≡◌ {A = List File} (take n []) []
take_none zero = refl
take_none (suc n) = refl

drop_none : (n : ℕ) → ◌≡◌ {A = List File} (drop n []) []
drop_none zero = refl
drop_none (suc n) = refl

-- a list in three parts
three_parts : (first end : ℕ) (files : List File) → first ≤ end
    → files ≡ take first files ++ (slice_range files first end ++ drop end files)
three_parts zero end files h =
    sym (take-append-drop end files)
    ∙ ap (λ n. take n files ++ drop end files) (minus_none end)
  where
    minus_none : (n : ℕ) → n ≡ n - 0
    minus_none n = omega arith
three_parts (suc first) end [] h = λ i. sym (take_none (end - suc first)) i ++ sym (drop_none end) i
three_parts (suc first) zero (file ∷ files) h = absurd (omega arith)
three_parts (suc first) (suc end) (file ∷ files) h = ap (λ xs. file ∷ xs)
    (three_parts first end files (omega arith) ∙ ap (λ n. take first files ++
    (take n (drop first files) ++ drop end files)) (less first end))
  where
    less : (a b : ℕ) → b - a ≡ suc b - suc a
    less a b = omega arith

-- a point of layers of files is in one of them
record InFile (told : ToldContents) (files : List File) (place : PointPlace) (value : Value) : Type 0 where
  file : File
  among : Among file files
  has : get (told file.number) place ≡ Some value

in_file : (told : ToldContents) (files : List File) (place : PointPlace) (value : Value)
    → HasPoint (file_layers told files) place value
    → InFile told files place value
in_file told [] place value has = absurd has
in_file told (file ∷ files) place value (inl is) = record { file = file; among = inl refl; has = is }
in_file told (file ∷ files) place value (inr has) =
    let found = in_file told files place value has in
    record { file = found.file; among = inr found.among; has = found.has }

any_of : {X : Type 0} (P : X → Type 0) (xs : List X) (x : X) → Among x xs → P x → Any P xs
any_of P [] x among holds = absurd among
any_of P (y ∷ xs) x (inl is) holds = Any-head P y xs (subst P (sym is) holds)
any_of P (y ∷ xs) x (inr among) holds = Any-tail P y xs (any_of P xs x among holds)

any_hull : (P : Hull → Type 0) (known : KnownFiles) (claimed : File → Bool) (files : List File) (file : File) (hull : Hull)
    → Among file files → Among hull (known file.number).hulls → P hull
    → Any P (hulls_of (file_entries known claimed files))
any_hull P known claimed [] file hull among of holds = absurd among
any_hull P known claimed (first ∷ files) file hull (inl is) of holds = Any-left P (known first.number).hulls
    (hulls_of (file_entries known claimed files)) (any_of P _ _
    (subst (λ (f : File). Among hull (known f.number).hulls) (sym is) of) holds)
any_hull P known claimed (first ∷ files) file hull (inr among) of holds = Any-right P (known first.number).hulls
    (hulls_of (file_entries known claimed files)) (any_hull P known claimed files file hull among of holds)

earlier : (a b : ℤ) → (b ≤ℤ a → ⊥) → a <ℤ b
earlier a b not_later = by (int_lt a b) refl
  where
    is : int_lt a b ≡ true → a <ℤ b
    is e = grind (arith, ints)

    other : int_lt a b ≡ false → b ≤ℤ a
    other e = grind (arith, ints)

    by : (t : Bool) → int_lt a b ≡ t → a <ℤ b
    by true e = is e
    by false e = absurd (not_later (other e))

chain : (a b c d : ℤ) → a ≤ℤ b → b ≤ℤ c → c ≤ℤ d → a ≤ℤ d
chain a b c d h k l = grind (arith, ints)

module _ (told : ToldContents) (known : KnownFiles) (early_claimed late_claimed : File → Bool) where
  -- the hulls over two points of one device, the first at or above the second, reach each other
  reach : (p q : PointPlace) → (h : Hull) → IsHullOver h p → (l : Hull) → IsHullOver l q
      → device_of p.path ≡ device_of q.path → q.time ≤ℤ p.time → (h.device ≡ l.device) × (l.from ≤ℤ h.to)
  reach p q h over_p l over_q same later = (
    over_p.device ∙ same ∙ sym over_q.device,
    chain l.from q.time p.time h.to over_q.from later over_p.to,
  )

  abbrev Is : File → Type 0
  Is file = Describes (known file.number) (told file.number)

  -- files are before others where no hull of the first reaches one of the others
  hulls_before : (early late : List File) → EntriesMatch told known early → EntriesMatch told known late
      → ((f g : File) → Among f early → Among g late → (h l : Hull) → Among h (known f.number).hulls
      → Among l (known g.number).hulls → (h.device ≡ l.device) × (l.from ≤ℤ h.to) → ⊥)
      → IsBeforeInTime (file_layers told early) (file_layers told late)
  hulls_before early late of_early of_late never p q v w a b same =
      let f = in_file told early p v a in
      let g = in_file told late q w b in
      let h = (each_among Is early f.file of_early f.among).over p v f.has in
      let l = (each_among Is late g.file of_late g.among).over q w g.has in
      earlier p.time q.time (λ later. never f.file g.file f.among g.among h.0 l.0 h.1 l.1
      (reach p q h.0 h.2 l.0 l.2 same later))

  -- files that have no time at or above the start of a hull of the late files are before them
  before_late : (early late : List File) → EntriesMatch told known early → EntriesMatch told known late
      → Each (λ file. HasTimeFromStart (file_entries known late_claimed late) (file_entry known early_claimed file) → ⊥)
      early → IsBeforeInTime (file_layers told early) (file_layers told late)
  before_late early late of_early of_late none =
      hulls_before early late of_early of_late (λ f g in_early in_late h l of_f of_g met.
      let never = each_among _ early f none in_early in
      never (to_start (file_entries known late_claimed late) (file_entry known early_claimed f)
      (any_of (λ (x : Hull). Any (λ (y : Hull). (x.device ≡ y.device) × (y.from ≤ℤ x.to))
      (hulls_of (file_entries known late_claimed late))) _ h of_f
      (any_hull (λ (y : Hull). (h.device ≡ y.device) × (y.from ≤ℤ h.to)) known late_claimed late g l in_late of_g
      met))))

  -- files that have no time at or below the end of a hull of the late files are behind them
  late_before : (late behind : List File) → EntriesMatch told known late → EntriesMatch told known behind
      → Each (λ file. HasTimeUpToEnd (file_entries known late_claimed late) (file_entry known early_claimed file) → ⊥)
      behind → IsBeforeInTime (file_layers told late) (file_layers told behind)
  late_before late behind of_late of_behind none =
      hulls_before late behind of_late of_behind (λ f g in_late in_behind h l of_f of_g met.
      let never = each_among _ behind g none in_behind in
      never (to_end (file_entries known late_claimed late) (file_entry known early_claimed g)
      (any_hull (λ (x : Hull). Any (λ (y : Hull). (x.device ≡ y.device) × (y.from ≤ℤ x.to)) (known g.number).hulls)
      known late_claimed late f h in_late of_f (any_of (λ (y : Hull). (h.device ≡ y.device) × (y.from ≤ℤ h.to)) _ l of_g
      met))))

length_entries : (known : KnownFiles) (claimed : File → Bool) (files : List File)
    → length (file_entries known claimed files) ≡ length files
length_entries known claimed [] = refl
length_entries known claimed (file ∷ files) = ap suc (length_entries known claimed files)

each_drop_entries : (P : FileEntry → Type 0) (known : KnownFiles) (claimed : File → Bool) (n : ℕ) (files : List File)
    → AllWithin P (file_entries known claimed files) n (length (file_entries known claimed files))
    → Each (λ file. P (file_entry known claimed file)) (drop n files)
each_drop_entries P known claimed n files all =
    each_of_map P _ _ (subst (Each P) (drop-map (file_entry known claimed) n files) (each_drop P _ n all))

each_take_entries : (P : FileEntry → Type 0) (known : KnownFiles) (claimed : File → Bool) (n : ℕ) (files : List File)
    → AllWithin P (file_entries known claimed files) 0 n → n ≤ length (file_entries known claimed files)
    → Each (λ file. P (file_entry known claimed file)) (take n files)
each_take_entries P known claimed n files all within =
    each_of_map P _ _ (subst (Each P) (take-map (file_entry known claimed) n files) (each_take P _ n all within))

module _ (told : ToldContents) (known : KnownFiles) (early_claimed late_claimed : File → Bool) (sequence unsequence : List File)
    (match : EntriesMatch told known (sequence ++ unsequence)) where
  abbrev Has : File → Type 0
  Has file = Describes (known file.number) (told file.number)

  pub cross_gap : (run : CrossRun) (job : Compaction)
      → IsCrossPlan (file_entries known early_claimed sequence) (file_entries known late_claimed unsequence) run
      → IsCrossJob run sequence unsequence job → HasKind Sequence job × HasGap told sequence unsequence job
  cross_gap run job plan is = (
    inr some,
    record {
      run = record { before = before; behind = behind; is = parts };
      place = omega (
        arith,
        length-take run.first sequence,
        length_entries known early_claimed sequence,
        plan.eligible.first.within,
        is.place,
      );
      later = drop run.prefix unsequence;
      first = rw is.first_late (sym (take-append-drop run.prefix unsequence));
      below = rw is.first_late (before_late told known early_claimed late_claimed before late (each_left _ _ _ old)
          (each_left _ _ _ young) (each_take_entries (λ file. HasTimeFromStart (file_entries known late_claimed late)
          file → ⊥) known early_claimed run.first sequence (rw entries_are at plan.eligible.first.none_before)
          plan.eligible.first.within));
      above = rw is.first_late (late_before told known early_claimed late_claimed late behind (each_left _ _ _ young)
          (each_right _ _ _ (each_right _ before _ old)) (each_drop_entries
          (λ file. HasTimeUpToEnd (file_entries known late_claimed late) file → ⊥) known early_claimed run.end sequence
          (rw entries_are at (from_later (λ file. HasTimeUpToEnd
          (take run.prefix (file_entries known late_claimed unsequence)) file → ⊥) _ _ _ ends.1
          plan.eligible.end.1.none_behind))));
    },
  )
    where
      ends : (run.first ≤ run.end) × (plan.eligible.end.0 ≤ run.end)
      ends = (omega (arith, plan.eligible.end.2), omega (arith, plan.eligible.end.2))

      before : List File
      before = take run.first sequence

      behind : List File
      behind = drop run.end sequence

      late : List File
      late = take run.prefix unsequence

      rest : List File
      rest = slice_range sequence run.first run.end ++ behind

      split : sequence ≡ before ++ rest
      split = three_parts _ _ _ ends.0

      parts : sequence ≡ before ++ (job.sequence ++ behind)
      parts = split ∙ ap (λ files. before ++ (files ++ behind)) (sym is.sequence_run)

      old : Each Has (before ++ rest)
      old = subst (Each Has) split (each_left _ _ _ match)

      young : Each Has (late ++ drop run.prefix unsequence)
      young = subst (Each Has) (sym (take-append-drop run.prefix unsequence)) (each_right Has sequence unsequence match)

      entries_are : take run.prefix (file_entries known late_claimed unsequence) ≡ file_entries known late_claimed late
      entries_are = take-map (file_entry known late_claimed) run.prefix unsequence

      some : 1 ≤ length job.unsequence
      some = rw is.first_late (omega (
        arith,
        plan.eligible.some,
        plan.eligible.within,
        length_entries known late_claimed unsequence,
        length-take run.prefix unsequence,
      ))

-- the run of an inner plan
inner_run : (known : KnownFiles) (claimed : File → Bool) (files : List File) (run : Run)
    → IsInnerPlan (file_entries known claimed files) run
    → (files ≡ take run.first files ++ (slice_range files run.first run.end ++ drop run.end files))
    × (length (take run.first files) ≡ run.first) × (2 ≤ length (slice_range files run.first run.end))
inner_run known claimed files run plan =
    let length_is = length_entries known claimed files in (
      three_parts run.first run.end files plan.row.order,
      omega (arith, plan.row.order, plan.row.within, length_is, length-take run.first files),
      omega (
        arith,
        plan.two,
        plan.row.within,
        length_is,
        length-drop run.first files,
        length-take (run.end - run.first) (drop run.first files),
      ),
    )

pub inner_sequence : (told : ToldContents) (known : KnownFiles) (claimed : File
    → Bool) (sequence unsequence : List File) (run : Run)
    (job : Compaction) → IsInnerPlan (file_entries known claimed sequence) run → IsInnerSequenceJob run sequence job
    → HasKind Sequence job × HasGap told sequence unsequence job
inner_sequence told known claimed sequence unsequence run job plan is =
    let found = inner_run known claimed sequence run plan in (
      inl (is.no_late, rw is.sequence_run found.2),
      record {
        run = record {
          before = take run.first sequence;
          behind = drop run.end sequence;
          is = rw is.sequence_run found.0;
        };
        place = found.1 ∙ sym is.place;
        later = unsequence;
        first = rw is.no_late refl;
        below = rw is.no_late (λ p q v w a b same. absurd b);
        above = rw is.no_late (λ p q v w a b same. absurd a);
      },
    )

pub inner_unsequence : (known : KnownFiles) (claimed : File → Bool) (unsequence : List File) (run : Run) (job : Compaction)
    → IsInnerPlan (file_entries known claimed unsequence) run → IsInnerUnsequenceJob run unsequence job
    → HasKind Unsequence job × IsRun job.unsequence unsequence
inner_unsequence known claimed unsequence run job plan is =
    let found = inner_run known claimed unsequence run plan in (
      (is.no_sequence, rw is.late_run found.2),
      record { before = take run.first unsequence; behind = drop run.end unsequence; is = rw is.late_run found.0 },
    )

pub other_space : Unsequence ≡ Sequence → ⊥
other_space e = cc

-- a job of free files is apart from all that are out

free_entries : (known : KnownFiles) (claimed : File → Bool) (files : List File)
    → All (λ (entry : FileEntry). entry.claimed ≡ false) (file_entries known claimed files)
    → Each (λ file. claimed file ≡ false) files
free_entries known claimed files free = each_of_map _ _ _ (recursion_from_All
    (λ (entry : FileEntry). entry.claimed ≡ false) (file_entries known claimed files) free)

pub apart_of_free : (claimed : File → Bool) (jobs : List Compaction) (job : Compaction) → ClaimLate claimed jobs
    → Each (λ file. claimed file ≡ false) job.unsequence
    → Each (λ other. job.space ≡ Sequence → other.space ≡ Sequence → ⊥) jobs → Each (AreApart job) jobs
apart_of_free claimed [] job claims free one = tt
apart_of_free claimed (other ∷ jobs) job claims free one = (
  record {
    one = one.0;
    late = λ file mine theirs. false≢true (sym (each_among _ _ _ free mine) ∙ claims.0 file theirs);
  },
  apart_of_free claimed jobs job claims.1 free one.1,
)

-- the late files of a plan are free

pub cross_free : (known : KnownFiles) (early_claimed claimed : File
    → Bool) (sequence unsequence : List File) (run : CrossRun)
    (job : Compaction)
    → IsCrossPlan (file_entries known early_claimed sequence) (file_entries known claimed unsequence) run
    → IsCrossJob run sequence unsequence job → Each (λ file. claimed file ≡ false) job.unsequence
cross_free known early_claimed claimed sequence unsequence run job plan is = subst (Each (λ file. claimed file ≡ false))
    (sym is.first_late) (free_entries known _ _ (subst (All (λ (entry : FileEntry). entry.claimed ≡ false))
    (take-map (file_entry known claimed) run.prefix unsequence) plan.eligible.free))

pub inner_free : (known : KnownFiles) (claimed : File → Bool) (unsequence : List File) (run : Run) (job : Compaction)
    → IsInnerPlan (file_entries known claimed unsequence) run → IsInnerUnsequenceJob run unsequence job
    → Each (λ file. claimed file ≡ false) job.unsequence
inner_free known claimed unsequence run job plan is = subst (Each (λ file. claimed file ≡ false)) (sym is.late_run)
    (free_entries known _ _ (subst (All (λ (entry : FileEntry). entry.claimed ≡ false))
    (ap (take (run.end - run.first)) (drop-map (file_entry known claimed) run.first unsequence) ∙ take-map
    (file_entry known claimed) (run.end - run.first) (drop run.first unsequence)) plan.row.row.free))
