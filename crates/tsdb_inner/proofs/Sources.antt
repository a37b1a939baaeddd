-- What is told of the inputs of a job, as the pages of a series in their files.
use Rattle.std.proofs.Common.{◌≡◌, ◌≢◌, ◌⊎◌, ℕ, ◌≤◌, Bool, true, false, cond, ◌&&◌, inl, inr, List, [], ◌∷◌, map, Option}
use Rattle.std.proofs.Common.{None, Some, refl, sym, ap, subst, ◌∙◌, arith}
use Rattle.std.specs.Prelude.{◌<ℤ◌, All, IfSome, IsSome, filter, nat_eq}
use Rattle.std.specs.FinMap.{get}
use Rattle.std.specs.List.{AllByRecursion as Each, AllZip}
use Rattle.std.specs.Option.{option_map}
use Rattle.std.proofs.lemmas.Bool.{eqb-true, false≢true}
use Rattle.std.proofs.lemmas.List.Elements.{All-cons, All-from_recursion, All-nil}
use Rattle.std.proofs.lemmas.List.Kept.{AllPairs-filter}
use Rattle.tsdb_base.specs.declared.point.Point.{Point}
use Rattle.tsdb_streams.proofs.OpenedFacts.{zip_all}
use Rattle.tsdb_streams.proofs.Trees.{among_of, contains_of}
use Rattle.tsdb_streams.specs.Files.{FilePages, HasPages, IsTold, IsTruth}
use Rattle.tsdb_streams.specs.KeptPoints.{is_kept}
use Rattle.tsdb_streams.specs.Lanes.{IsToldSource, IsTrueSource, source_left}
use Rattle.tsdb_streams.specs.declared.source.StreamSource.{StreamSource}
use Rattle.tsdb_streams.specs.declared.source.StreamSource.TheVariants as lent
use Rattle.tsdb_compactions.specs.Jobs.{input_file}
use Rattle.tsdb_compactions.specs.Outputs.{IsOneTold, IsInputRead}
use Rattle.tsdb_compactions.specs.declared.job.Input.{Input}
use Rattle.tsdb_inner.proofs.Told.{HasList, has_list}
use Rattle.tsdb_inner.specs.Copies.{all_times}
use Rattle.tsdb_inner.specs.Inputs.{IsInputLent, TellsBytes}
use Rattle.tsdb_base.proofs.Lists.{each_both}
use Rattle.tsdb_base.specs.Lists.{Among, EachPair}
use Rattle.tsdb_state.specs.Marks.{survives}
use Rattle.tsdb_model.specs.World.{is_in}
use Rattle.tsdb_marks.specs.declared.marks.Mark.{Mark}
use Rattle.tsdb_base.specs.Points.{IsRising}
use Rattle.tsdb_outside.specs.Files.{NamedFile}
use Rattle.tsdb_path.specs.Nodes.{device_of, measurement_of, node_count}
use Rattle.tsdb_streams.specs.Pieces.{joined}
use Rattle.tsdb_streams.specs.Survivors.{AreSurvivors, place_at}
use Rattle.tsdb_state.specs.State.{ToldContents}
use Rattle.tsdb_state.specs.Views.{file_layer, file_layers}

-- ---- elements that a test keeps

kept_among : {X : Type 0} (test : X → Bool) (xs : List X) (x : X) → Among x xs → test x ≡ true → Among x (filter test xs)
kept_among test [] x among is = absurd among
kept_among test (y ∷ ys) x among is = by (test y) refl among (λ rest. kept_among test ys x rest is)
  where
    by : (b : Bool) → test y ≡ b → Among x (y ∷ ys) → (Among x ys → Among x (filter test ys))
        → Among x (cond b (y ∷ filter test ys) (filter test ys))
    by true sure (inl same) more = inl same
    by true sure (inr rest) more = inr (more rest)
    by false un (inl same) more = absurd (false≢true (sym un ∙ ap test same ∙ is))
    by false un (inr rest) more = more rest

among_kept : {X : Type 0} (test : X → Bool) (xs : List X) (x : X) → Among x (filter test xs)
    → Among x xs × (test x ≡ true)
among_kept test [] x among = absurd among
among_kept test (y ∷ ys) x among = by (test y) refl among (among_kept test ys x)
  where
    by : (b : Bool) → test y ≡ b → Among x (cond b (y ∷ filter test ys) (filter test ys))
        → (Among x (filter test ys) → Among x ys × (test x ≡ true)) → Among x (y ∷ ys) × (test x ≡ true)
    by true sure (inl same) more = (inl same, ap test (sym same) ∙ sure)
    by true sure (inr rest) more = (inr (more rest).0, (more rest).1)
    by false un rest more = (inr (more rest).0, (more rest).1)

both : (a b : Bool) → a ≡ true → b ≡ true → a && b ≡ true
both a b is also = ap (λ c. c && b) is ∙ also

second : (a b : Bool) → a && b ≡ true → b ≡ true
second true b is = is
second false b is = absurd (false≢true is)

one_value : {A : Type 0} (b : Bool) (o : Option A) (x : A) → cond b o None ≡ Some x → (b ≡ true) × (o ≡ Some x)
one_value true o x is = (refl, is)
one_value false o x is = absurd cc

itself : (n : ℕ) → nat_eq n n ≡ true
itself n = grind arith

differs : (a b : ℕ) → a ≢ b → nat_eq a b ≡ false
differs a b apart = by (nat_eq a b) refl
  where
    by : (c : Bool) → nat_eq a b ≡ c → c ≡ false
    by true is = absurd (apart (eqb-true a b is))
    by false is = refl

told_or_not : {A : Type 0} (o : Option A) → IsSome o ⊎ (o ≡ None)
told_or_not None = inr refl
told_or_not (Some x) = inl refl

either_is : {A : Type 0} (b : Bool) (x y z : A) → x ≡ z → y ≡ z → cond b x y ≡ z
either_is true x y z first second = first
either_is false x y z first second = second

module _ {F S R P : Type 0} (name : R → NamedFile) (told : ToldContents) (path : List ℕ) (two : 2 ≤ node_count path) where
  abbrev pub Reads : Input F S R P → Type 0
  Reads input = IsSome (name input.right).bytes → IsInputRead name told input

  abbrev pub Lists : Input F S R P → Type 0
  Lists input = HasList path (told input.number.0) (name input.right)

  abbrev pub list_of : (input : Input F S R P) → IsInputRead name told input → Lists input
  list_of input read = has_list path two told (name input.right) (input_file input) read

  -- ---- the pages of one input

  abbrev pub own_of : (input : Input F S R P) (bytes : Option (List ℕ)) → (IsSome bytes → IsInputRead name told input)
      → Option (List (List Point))
  own_of input None read = None
  own_of input (Some bytes) read = Some (list_of input (read refl)).list

  abbrev pub own : (input : Input F S R P) → Reads input → Option (List (List Point))
  own input read = own_of input (name input.right).bytes read

  own_true : (input : Input F S R P) (read : Reads input)
      → IfSome (own input read) (HasPages (device_of path, measurement_of path) (name input.right))
  own_true input read = by (name input.right).bytes read
    where
      by : (bytes : Option (List ℕ)) (read : IsSome bytes → IsInputRead name told input)
          → IfSome (own_of input bytes read) (HasPages (device_of path, measurement_of path) (name input.right))
      by None read = tt
      by (Some bytes) read = (list_of input (read refl)).pages

  -- an input that tells its bytes tells its pages
  pub record OwnList (input : Input F S R P) (read : Reads input) : Type 0 where
    pub has : Lists input
    pub is : own input read ≡ Some has.list

  own_list : (input : Input F S R P) (read : Reads input) → TellsBytes name input → OwnList input read
  own_list input read tells = record { has = (at (name input.right).bytes read tells).0; is = (at (name input.right).bytes read tells).1 }
    where
      at : (bytes : Option (List ℕ)) (read : IsSome bytes → IsInputRead name told input) → IsSome bytes
          → (has : Lists input) × (own_of input bytes read ≡ Some has.list)
      at None read tells = absurd (false≢true tells)
      at (Some bytes) read tells = (list_of input (read refl), refl)

  tells_bytes : (input : Input F S R P) (bytes : List ℕ) → (name input.right).bytes ≡ Some bytes → TellsBytes name input
  tells_bytes input bytes is = subst IsSome (sym is) refl

  -- ---- the pages of all inputs, by the numbers of their files

  abbrev pub pages_of : (inputs : List (Input F S R P)) → Each Reads inputs → FilePages
  pages_of [] reads number = None
  pages_of (input ∷ inputs) reads number =
      cond (nat_eq (name input.right).number number) (own input reads.0) (pages_of inputs reads.1 number)

  -- the pages of the input are its own
  abbrev pub Owns : FilePages → Input F S R P → Type 0
  Owns pages input = (read : Reads input) × (pages (name input.right).number ≡ own input read)

  own_none : (input : Input F S R P) (bytes : Option (List ℕ)) (read : IsSome bytes → IsInputRead name told input)
      → bytes ≡ None → own_of input bytes read ≡ None
  own_none input None read is = refl
  own_none input (Some bytes) read is = absurd cc

  -- those of an input before another hide its pages only where neither tells its bytes
  behind : (input other : Input F S R P) (read : Reads input) (pages : FilePages)
      → (IsOneTold name input other → (name input.right).number ≢ (name other.right).number) → (owned : Owns pages other)
      → cond (nat_eq (name input.right).number (name other.right).number) (own input read)
      (pages (name other.right).number) ≡ own other owned.0
  behind input other read pages apart owned =
      by (told_or_not (name input.right).bytes) (told_or_not (name other.right).bytes)
    where
      differ : IsOneTold name input other → cond (nat_eq (name input.right).number (name other.right).number)
          (own input read) (pages (name other.right).number) ≡ own other owned.0
      differ one = ap (λ c. cond c (own input read) (pages (name other.right).number))
          (differs (name input.right).number (name other.right).number (apart one)) ∙ owned.1

      by : IsSome (name input.right).bytes ⊎ ((name input.right).bytes ≡ None)
          → IsSome (name other.right).bytes ⊎ ((name other.right).bytes ≡ None)
          → cond (nat_eq (name input.right).number (name other.right).number) (own input read)
          (pages (name other.right).number) ≡ own other owned.0
      by (inl told) any = differ (inl told)
      by (inr none) (inl told) = differ (inr told)
      by (inr none) (inr also) = either_is (nat_eq (name input.right).number (name other.right).number) (own input read)
          (pages (name other.right).number) (own other owned.0)
          (own_none input (name input.right).bytes read none
          ∙ sym (own_none other (name other.right).bytes owned.0 also)) owned.1

  pub owns : (inputs : List (Input F S R P)) (reads : Each Reads inputs)
      → EachPair (λ a b. IsOneTold name a b → (name a.right).number ≢ (name b.right).number) inputs
      → Each (Owns (pages_of inputs reads)) inputs
  owns [] reads apart = tt
  owns (input ∷ inputs) reads apart = (
    (
      reads.0,
      ap (λ c. cond c (own input reads.0) (pages_of inputs reads.1 (name input.right).number))
          (itself (name input.right).number),
    ),
    each_both (λ other. IsOneTold name input other → (name input.right).number ≢ (name other.right).number)
        (Owns (pages_of inputs reads.1)) (Owns (pages_of (input ∷ inputs) reads)) (λ other apart has. (
          has.0,
          behind input other reads.0 (pages_of inputs reads.1) apart has,
        )) inputs apart.0 (owns inputs reads.1 apart.1),
  )

  module _ (pages : FilePages) where
    true_source : (input : Input F S R P) (source : StreamSource R) → IsInputLent input source → Owns pages input
        → IsTrueSource name (device_of path, measurement_of path) pages source
    true_source input (lent.File right born) is owned =
        subst (λ r. IsTruth (device_of path, measurement_of path) pages (name r)) (sym is.0)
        (subst (λ o. IfSome o (HasPages (device_of path, measurement_of path) (name input.right))) (sym owned.1)
        (own_true input owned.0))
    true_source input (lent.Part points born) is owned = absurd is

    told_source : (input : Input F S R P) (source : StreamSource R) → IsInputLent input source → Owns pages input
        → IsToldSource name pages source
    told_source input (lent.File right born) is owned = subst (λ r. IsTold pages (name r)) (sym is.0)
        (λ bytes named. let its = own_list input owned.0 (tells_bytes input bytes named) in
        (its.has.list, owned.1 ∙ its.is))
    told_source input (lent.Part points born) is owned = absurd is

    pub true_sources : (inputs : List (Input F S R P)) (sources : List (StreamSource R)) → AllZip IsInputLent inputs sources
        → Each (Owns pages) inputs → All (IsTrueSource name (device_of path, measurement_of path) pages) sources
    true_sources inputs sources zip owned =
        zip_all IsInputLent (Owns pages) (IsTrueSource name (device_of path, measurement_of path) pages) inputs sources
        true_source zip (All-from_recursion (Owns pages) inputs owned)

    pub told_sources : (inputs : List (Input F S R P)) (sources : List (StreamSource R)) → AllZip IsInputLent inputs sources
        → Each (Owns pages) inputs → All (IsToldSource name pages) sources
    told_sources inputs sources zip owned =
        zip_all IsInputLent (Owns pages) (IsToldSource name pages) inputs sources told_source zip
        (All-from_recursion (Owns pages) inputs owned)

    -- ---- the points that survive

    module _ (marks : List Mark) where
      survivors : (input : Input F S R P) (has : Lists input)
          → AreSurvivors marks path (file_layer told (input_file input)) (filter (is_kept path all_times marks input.born.0) (joined has.list))
      survivors input has = record {
        has = λ time value.
            let point : Point = record { time = time; value = value } in
            let test : Bool = survives marks (place_at path time) input.born.0 in (
              λ found.
                  let kept = among_kept (is_kept path all_times marks input.born.0) (joined has.list) point
                  (among_of point (filter (is_kept path all_times marks input.born.0) (joined has.list)) found) in
                  ap (λ b. cond b (get (told input.number.0) (place_at path time)) None)
                  (second (is_in all_times time) test kept.1) ∙ (has.are time value).0 kept.0,
              λ is.
                  let one = one_value test (get (told input.number.0) (place_at path time)) value is in
                  let among = (has.are time value).1 one.1 in
                  contains_of point (filter (is_kept path all_times marks input.born.0) (joined has.list))
                  (kept_among (is_kept path all_times marks input.born.0) (joined has.list) point among
                  (both (is_in all_times time) test (has.within point among) one.0)),
            );
      }

      pub record Survivors (inputs : List (Input F S R P)) (sources : List (StreamSource R)) : Type 0 where
        pub lists : List (List Point)
        pub left : map (source_left name pages (is_kept path all_times marks)) sources ≡ map (λ (l : List Point). Some l) lists
        pub rising : All IsRising lists
        pub are : AllZip (AreSurvivors marks path) (file_layers told (map input_file inputs)) lists

      one_left : (input : Input F S R P) (source : StreamSource R) → IsInputLent input source → (owned : Owns pages input)
          → (its : OwnList input owned.0)
          → source_left name pages (is_kept path all_times marks) source ≡ Some (filter (is_kept path all_times marks input.born.0) (joined its.has.list))
      one_left input (lent.File right born) is owned its =
          ap (λ r. option_map (λ (list : List (List Point)). filter (is_kept path all_times marks born.0) (joined list)) (pages (name r).number)) is.0
          ∙ ap (option_map (λ (list : List (List Point)). filter (is_kept path all_times marks born.0) (joined list))) (owned.1 ∙ its.is)
          ∙ ap (λ b. Some (filter (is_kept path all_times marks b) (joined its.has.list))) (ap (λ s. s.0) is.1)
      one_left input (lent.Part points born) is owned its = absurd is

      pub all_survivors : (inputs : List (Input F S R P)) (sources : List (StreamSource R)) → AllZip IsInputLent inputs sources
          → Each (Owns pages) inputs → Each (TellsBytes name) inputs → Survivors inputs sources
      all_survivors [] [] zip owned tells = record { lists = []; left = refl; rising = All-nil IsRising; are = tt }
      all_survivors [] (source ∷ sources) zip owned tells = absurd zip
      all_survivors (input ∷ inputs) [] zip owned tells = absurd zip
      all_survivors (input ∷ inputs) (source ∷ sources) zip owned tells =
          let its = own_list input owned.0.0 tells.0 in
          let rest = all_survivors inputs sources zip.1 owned.1 tells.1 in
          let points = filter (is_kept path all_times marks input.born.0) (joined its.has.list) in record {
            lists = points ∷ rest.lists;
            left = ap (λ o. o ∷ map (source_left name pages (is_kept path all_times marks)) sources) (one_left input source zip.0 owned.0 its)
                ∙ ap (λ l. Some points ∷ l) rest.left;
            rising = All-cons IsRising points rest.lists
                (AllPairs-filter (λ (a b : Point). a.time <ℤ b.time) (is_kept path all_times marks input.born.0) (joined its.has.list) its.has.rising)
                rest.rising;
            are = (survivors input its.has, rest.are);
          }
