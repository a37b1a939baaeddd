-- What a freeze leaves in memory.
use Rattle.std.proofs.Common.{◌≡◌, ◌⊎◌, inl, inr, ⊎_elim, ℕ, ℤ, ◌+◌, ◌<◌, ◌≤◌, ◌≤ℤ◌, Bool, true, false, cond, List, [], ◌∷◌}
use Rattle.std.proofs.Common.{◌++◌, length, map, Option, Some, None, refl, sym, ap, subst, ◌∙◌, arith, slice_get}
use Rattle.std.proofs.lemmas.Int.{ints}
use Rattle.std.specs.Prelude.{All, IsSome}
use Rattle.std.specs.FinMap.{entries, find, get-empty, get-entries}
use Rattle.std.specs.List.{AllZip}
use Rattle.std.specs.Option.{IsSomeAnd, option_and_then, option_map}
use Rattle.std.specs.Ordering.{int_eq, is_eq}
use Rattle.std.proofs.lemmas.Bool.{false≢true}
use Rattle.std.proofs.lemmas.List.{map-append}
use Rattle.std.proofs.lemmas.List.Elements.{All-push}
use Rattle.std.specs.Prelude.{find as find_first}
use Rattle.tsdb_base.specs.declared.ids.Space.{Space}
use Rattle.tsdb_base.specs.declared.ids.Space.TheVariants.{Sequence, Unsequence}
use Rattle.tsdb_base.specs.declared.point.Point.{Point}
use Rattle.tsdb_base.specs.declared.value.Value.{Value}
use Rattle.tsdb_base.proofs.Lists.{among_map}
use Rattle.tsdb_state.proofs.LayerLemmas.Places.{is_place, place_itself}
use Rattle.tsdb_base.specs.Lists.{Among}
use Rattle.tsdb_state.specs.Places.{Content, PointPlace, place_cmp}
use Rattle.tsdb_model.specs.declared.command.Schema.{Schema}
use Rattle.tsdb_memory.proofs.Effects.{nothing_rises}
use Rattle.tsdb_memory.proofs.Numbers.{length_push, schema_at}
use Rattle.tsdb_memory.proofs.Raising.{IsRaisedTo, Rise, code_risen, one_raised, rise_in, rise_of, risen}
use Rattle.tsdb_memory.proofs.Raising.{rises_raise, state_risen, through}
use Rattle.tsdb_memory.specs.Freezing.{AreRaises, HasPairTime, raised_by}
use Rattle.tsdb_memory.proofs.InTurn.{pushed_in_turn}
use Rattle.tsdb_memory.specs.Fits.{HasNoPairPoint}
use Rattle.tsdb_memory.specs.Model.{AreFrozenInTurn, HasKnownSeries, HasRisingPoints, HasTypedPoints, IsSoundMemory, frozen_in}
use Rattle.tsdb_memory.specs.SharedPairs.{pair_in}
use Rattle.tsdb_memory.specs.StateOfMemory.{IsPairContent, IsFrozenOf, IsMemoryOf, number_of, point_value_at, value_found}
use Rattle.tsdb_memory.specs.Store.{FrozenPair, SparePlaces, MemoryState}
use Rattle.tsdb_memory.specs.declared.freezing.Raise.{Raise}
use Rattle.tsdb_memory.specs.declared.shared.SharedPair.{SharedPair}
use Rattle.tsdb_memory.specs.declared.store.FrozenPair.{FrozenPair as Kept}
use Rattle.tsdb_memtable.specs.Pairs.{Pair, points_of}
use Rattle.tsdb_memtable.specs.Watermarks.{Watermarks, watermark}
use Rattle.tsdb_path.specs.Nodes.{device_of}
use Rattle.tsdb_base.specs.Limits.{max_frozen}
use Rattle.tsdb_state.specs.Records.{froze}
use Rattle.tsdb_state.specs.Views.{working_pair}
use Rattle.tsdb_state.specs.State.{StoreState}

-- the frozen pairs with one behind them

pub pushed_frozen : (old new : List Kept) (born : ℕ) (place : SharedPair) (pair : Pair)
    → new ≡ old ++ record { born = record { 0 = born }; pair = place } ∷ [] → pair_in place ≡ pair
    → map frozen_in new ≡ map frozen_in old ++ record { born = born; pair = pair } ∷ []
pushed_frozen old new born place pair pushed is =
    ap (map frozen_in) pushed
    ∙ map-append frozen_in old (record { born = record { 0 = born }; pair = place } ∷ [])
    ∙ ap (λ (p : Pair). map frozen_in old ++ record { born = born; pair = p } ∷ []) is

-- a value at a time, and a point of that time

same_time : (a b : ℤ) → int_eq a b ≡ true → a ≡ b
same_time a b h = grind (arith, ints)

time_itself : (a : ℤ) → int_eq a a ≡ true
time_itself a = grind (arith, ints)

pub record PointAt (points : List Point) (time : ℤ) : Type 0 where
  pub point : Point
  pub among : Among point points
  pub is : point.time ≡ time

pub point_at : (points : List Point) (time : ℤ) → IsSome (point_value_at time points) → PointAt points time
point_at [] time some = absurd (false≢true some)
point_at (p ∷ points) time some = by (int_eq time p.time) refl some (λ h. point_at points time h)
  where
    by : (b : Bool) → int_eq time p.time ≡ b
        → IsSome (option_map (λ (q : Point). q.value)
        (cond b (Some p) (find_first (λ (q : Point). int_eq time q.time) points)))
        → (IsSome (point_value_at time points) → PointAt points time) → PointAt (p ∷ points) time
    by true e some rest = record { point = p; among = inl refl; is = sym (same_time time p.time e) }
    by false e some rest =
        let there = rest some in
        record { point = there.point; among = inr there.among; is = there.is }

pub value_there : (points : List Point) (point : Point) → Among point points → IsSome (point_value_at point.time points)
value_there [] point among = absurd among
value_there (p ∷ points) point among = by (int_eq point.time p.time) refl among (λ h. value_there points point h)
  where
    by : (b : Bool) → int_eq point.time p.time ≡ b → (p ≡ point) ⊎ Among point points
        → (Among point points → IsSome (point_value_at point.time points))
        → IsSome (option_map (λ (q : Point). q.value)
        (cond b (Some p) (find_first (λ (q : Point). int_eq point.time q.time) points)))
    by true e among rest = refl
    by false e (inl is) rest = absurd (false≢true (sym e ∙ ap (λ (q : Point). int_eq point.time q.time) is
        ∙ time_itself point.time))
    by false e (inr among) rest = rest among

-- an entry of a content, and a value at its place

record EntryAt (points : List (PointPlace × Value)) (place : PointPlace) : Type 0 where
  pub entry : PointPlace × Value
  pub among : Among entry points
  pub is : entry.0 ≡ place

entry_at : (points : List (PointPlace × Value)) (place : PointPlace) → IsSome (find place_cmp place points)
    → EntryAt points place
entry_at [] place some = absurd (false≢true some)
entry_at (p ∷ points) place some = by (is_eq (place_cmp place p.0)) refl some (λ h. entry_at points place h)
  where
    by : (b : Bool) → is_eq (place_cmp place p.0) ≡ b → IsSome (cond b (Some p.1) (find place_cmp place points))
        → (IsSome (find place_cmp place points) → EntryAt points place) → EntryAt (p ∷ points) place
    by true e some rest = record { entry = p; among = inl refl; is = sym (is_place place p.0 e) }
    by false e some rest =
        let there = rest some in
        record { entry = there.entry; among = inr there.among; is = there.is }

entry_there : (points : List (PointPlace × Value)) (entry : PointPlace × Value) → Among entry points
    → IsSome (find place_cmp entry.0 points)
entry_there [] entry among = absurd among
entry_there (p ∷ points) entry among = by (is_eq (place_cmp entry.0 p.0)) refl among (λ h. entry_there points entry h)
  where
    by : (b : Bool) → is_eq (place_cmp entry.0 p.0) ≡ b → (p ≡ entry) ⊎ Among entry points
        → (Among entry points → IsSome (find place_cmp entry.0 points))
        → IsSome (cond b (Some p.1) (find place_cmp entry.0 points))
    by true e among rest = refl
    by false e (inl is) rest = absurd (false≢true (sym e ∙ ap (λ (q : PointPlace × Value). is_eq (place_cmp entry.0 q.0)) is
        ∙ place_itself entry.0))
    by false e (inr among) rest = rest among

-- the times of a device, in the pair and in its content

record FoundAt (series : List Schema) (pair : Pair) (place : PointPlace) : Type 0 where
  pub number : ℕ
  pub numbered : number_of series place.path ≡ Some number
  pub some : IsSome (point_value_at place.time (points_of Sequence number pair))

found_at : (series : List Schema) (pair : Pair) (place : PointPlace) → IsSome (value_found series Sequence pair place)
    → FoundAt series pair place
found_at series pair place some = by (number_of series place.path) refl some
  where
    by : (o : Option ℕ) → number_of series place.path ≡ o
        → IsSome (option_and_then (λ number. point_value_at place.time (points_of Sequence number pair)) o)
        → FoundAt series pair place
    by None e some = absurd (false≢true some)
    by (Some n) e some = record { number = n; numbered = e; some = some }

abbrev HasNumbers : List Schema → Type 0
HasNumbers series = (number : ℕ) (schema : Schema) → slice_get series number ≡ Some schema
    → number_of series schema.path ≡ Some number

module _ (series : List Schema) (pair : Pair) (content : Content) (once : HasNumbers series)
    (is : IsPairContent series Sequence pair content) where
  time_of_entry : (entry : PointPlace × Value) → Among entry (entries content)
      → HasPairTime series pair (device_of entry.0.path) entry.0.time
  time_of_entry entry among =
      let there : IsSome (value_found series Sequence pair entry.0) =
      subst IsSome (sym (get-entries content entry.0) ∙ is entry.0) (entry_there (entries content) entry among) in
      let found = found_at series pair entry.0 there in
      let schema = schema_at series entry.0.path found.number found.numbered in
      let point = point_at (points_of Sequence found.number pair) entry.0.time found.some in
      record {
        number = found.number;
        schema = schema.schema;
        point = point.point;
        at = schema.at;
        among = point.among;
        of_device = ap device_of schema.of_path;
        is = point.is;
      }

  entry_of_time : (device : List ℕ) (time : ℤ) → HasPairTime series pair device time
      → Among (device, time) (map rise_of (entries content))
  entry_of_time device time has =
      let place : PointPlace = record { path = has.schema.path; time = has.point.time } in
      let numbered = once has.number has.schema has.at in
      let value : IsSome (value_found series Sequence pair place) =
      subst (λ o. IsSome (option_and_then (λ number. point_value_at has.point.time
      (points_of Sequence number pair)) o)) (sym numbered)
      (value_there (points_of Sequence has.number pair) has.point has.among) in
      let entry = entry_at (entries content) place (subst IsSome (sym (is place) ∙ get-entries content place) value) in
      let same : rise_of entry.entry ≡ (device, time) =
      ap (λ (p : PointPlace). let rise : Rise = (device_of p.path, p.time) in rise) entry.is
      ∙ (λ i. (has.of_device i, has.is i)) in
      subst (λ (r : Rise). Among r (map rise_of (entries content))) same
      (among_map rise_of (entries content) entry.entry entry.among)

-- an element of a mapped list is one of an element
pub record ImageOf {X Y : Type 0} (f : X → Y) (xs : List X) (y : Y) : Type 0 where
  pub element : X
  pub among : Among element xs
  pub is : f element ≡ y

pub image_of : {X Y : Type 0} (f : X → Y) (xs : List X) (y : Y) → Among y (map f xs) → ImageOf f xs y
image_of f [] y among = absurd among
image_of f (x ∷ xs) y (inl is) = record { element = x; among = inl refl; is = is }
image_of f (x ∷ xs) y (inr among) =
    let rest = image_of f xs y among in
    record { element = rest.element; among = inr rest.among; is = rest.is }

has_some : (o : Option ℤ) (a b : ℤ) → a ≤ℤ b → IsSomeAnd o (λ last. b ≤ℤ last) → IsSomeAnd o (λ last. a ≤ℤ last)
has_some None a b h k = k
has_some (Some last) a b h k = through a b last h k

module _ (series : List Schema) (pair : Pair) (device : List ℕ) (last : Option ℤ) where
  state_raised : (content : Content) → HasNumbers series → IsPairContent series Sequence pair content
      → IsRaisedTo (HasPairTime series pair device) last (risen device (map rise_of (entries content)) last)
  state_raised content once is =
      let raised = rises_raise device (map rise_of (entries content)) last in
      record {
        keeps = raised.keeps;
        reaches = λ time has. raised.reaches time (entry_of_time series pair content once is device time has);
        one = λ time e. ⊎_elim (λ before. inl before)
            (λ among.
            let image = image_of rise_of (entries content) (device, time) among in
            inr (subst (λ (r : Rise). HasPairTime series pair r.0 r.1) image.is
            (time_of_entry series pair content once is image.element image.among)))
            (raised.one time e);
      }

  code_raised : (raises : List Raise) → AreRaises series pair raises
      → IsRaisedTo (HasPairTime series pair device) last (risen device (map rise_in raises) last)
  code_raised raises are =
      let raised = rises_raise device (map rise_in raises) last in
      record {
        keeps = raised.keeps;
        reaches = λ time has.
            let reached = are.reaches device time has in
            has_some (risen device (map rise_in raises) last) time reached.raise.time reached.reaches
            (raised.reaches reached.raise.time
            (subst (λ d. Among (d, reached.raise.time) (map rise_in raises)) reached.of_device
            (among_map rise_in raises reached.raise reached.among)));
        one = λ time e. ⊎_elim (λ before. inl before)
            (λ among.
            let image = image_of rise_in raises (device, time) among in
            inr (subst (λ (r : Rise). HasPairTime series pair r.0 r.1) image.is (are.had image.element image.among)))
            (raised.one time e);
      }

-- the state and what is in memory

zip_push : {X Y : Type 0} (R : X → Y → Type 0) (xs : List X) (ys : List Y) (x : X) (y : Y) → AllZip R xs ys → R x y
    → AllZip R (xs ++ x ∷ []) (ys ++ y ∷ [])
zip_push R [] [] x y all one = (one, tt)
zip_push R [] (z ∷ ys) x y all one = absurd all
zip_push R (z ∷ xs) [] x y all one = absurd all
zip_push R (z ∷ xs) (w ∷ ys) x y all one = (all.0, zip_push R xs ys x y all.1 one)

nothing_found : (series : List Schema) (space : Space) (place : PointPlace) → value_found series space [] place ≡ None
nothing_found series space place = by (number_of series place.path) space
  where
    by : (o : Option ℕ) (space : Space)
        → option_and_then (λ number. point_value_at place.time (points_of space number [])) o ≡ None
    by None space = refl
    by (Some n) Sequence = refl
    by (Some n) Unsequence = refl

pub nothing_known : (series : List Schema) → HasKnownSeries series []
nothing_known series Sequence n h = refl
nothing_known series Unsequence n h = refl

nothing_typed : (series : List Schema) → HasTypedPoints series []
nothing_typed series Sequence n schema at = tt
nothing_typed series Unsequence n schema at = tt

nothing_rising : HasRisingPoints []
nothing_rising Sequence n = nothing_rises
nothing_rising Unsequence n = nothing_rises

module _ (store : MemoryState) (raises : List Raise) (watermarks : Watermarks) (frozen : List FrozenPair) (places : SparePlaces)
    (pushed : frozen ≡ store.frozen ++ record { born = store.stamp; pair = store.working } ∷ []) where
  abbrev pub frozen_store : MemoryState
  frozen_store = record store { watermarks = watermarks; frozen = frozen; working = []; places = places }

  pub froze_shown : (shown : StoreState) → IsSoundMemory store → IsMemoryOf store shown
      → AreRaises store.series store.working raises
      → ((device : List ℕ) → watermark watermarks device ≡ raised_by device raises (watermark store.watermarks device))
      → IsMemoryOf frozen_store (froze shown)
  froze_shown shown sound is are raised = record {
    schemas = is.schemas;
    stamp = is.stamp;
    watermarks = λ device.
        let last = watermark store.watermarks device in
        state_risen (entries shown.working.sequence) shown.watermarks device
        ∙ ap (risen device (map rise_of (entries shown.working.sequence))) (is.watermarks device)
        ∙ one_raised (HasPairTime store.series store.working device) last
        (risen device (map rise_of (entries shown.working.sequence)) last) (risen device (map rise_in raises) last)
        (state_raised store.series store.working device last shown.working.sequence sound.once is.working.sequence)
        (code_raised store.series store.working device last raises are)
        ∙ sym (code_risen device raises last) ∙ sym (raised device);
    marks = is.marks;
    frozen = subst (λ l. AllZip (IsFrozenOf store.series) l (froze shown).frozen) (sym pushed)
        (zip_push (IsFrozenOf store.series) store.frozen shown.frozen
        (record { born = store.stamp; pair = store.working }) (working_pair shown) is.frozen
        (record { born = is.stamp; pair = is.working }));
    working = record {
      sequence = λ place. get-empty place_cmp place ∙ sym (nothing_found store.series Sequence place);
      unsequence = λ place. get-empty place_cmp place ∙ sym (nothing_found store.series Unsequence place);
    };
  }

  pub froze_sound : length store.frozen < max_frozen → ¬ HasNoPairPoint store.working → IsSoundMemory store
      → IsSoundMemory frozen_store
  froze_sound room some sound = record {
    formed = sound.formed;
    once = sound.once;
    known = nothing_known store.series;
    rising = nothing_rising;
    frozen_known = subst (All (λ (f : FrozenPair). HasKnownSeries store.series f.pair)) (sym pushed)
        (All-push (λ (f : FrozenPair). HasKnownSeries store.series f.pair) store.frozen
        (record { born = store.stamp; pair = store.working }) sound.frozen_known sound.known);
    typed = nothing_typed store.series;
    frozen_typed = subst (All (λ (f : FrozenPair). HasTypedPoints store.series f.pair)) (sym pushed)
        (All-push (λ (f : FrozenPair). HasTypedPoints store.series f.pair) store.frozen
        (record { born = store.stamp; pair = store.working }) sound.frozen_typed sound.typed);
    frozen_rising = subst (All (λ (f : FrozenPair). HasRisingPoints f.pair)) (sym pushed)
        (All-push (λ (f : FrozenPair). HasRisingPoints f.pair) store.frozen
        (record { born = store.stamp; pair = store.working }) sound.frozen_rising sound.rising);
    two = subst (λ (l : List FrozenPair). length l ≤ max_frozen) (sym pushed)
        (fits (length (store.frozen ++ record { born = store.stamp; pair = store.working } ∷ [])) (length store.frozen)
        (length_push store.frozen (record { born = store.stamp; pair = store.working })) room);
    in_turn = subst (λ (l : List FrozenPair). AreFrozenInTurn store.stamp l) (sym pushed)
        (pushed_in_turn store.stamp store.frozen store.working some sound.in_turn);
    versions = sound.versions;
    ends = sound.ends;
  }
    where
      fits : (m n : ℕ) → m ≡ n + 1 → n < max_frozen → m ≤ max_frozen
      fits m n e h = omega (arith, e, h)
