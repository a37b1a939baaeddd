-- A watermark after several times, one after another: none is greater, and it is one of them or the one before.
use Rattle.std.proofs.Common.{◌≡◌, ◌⊎◌, inl, inr, ⊎_elim, ℕ, ℤ, ◌≤ℤ◌, Bool, true, false, cond, List, [], ◌∷◌, map}
use Rattle.std.proofs.Common.{Option, Some, None, refl, sym, ap, subst, ◌∙◌, arith}
use Rattle.std.specs.Prelude.{int_lt}
use Rattle.std.specs.Cmp.Lexicographic.{nat_list_cmp_total}
use Rattle.std.specs.FinMap.{get, get-insert}
use Rattle.std.specs.Option.{IsSomeAnd, unwrap_or}
use Rattle.std.proofs.lemmas.Int.{ints}
use Rattle.tsdb_base.specs.declared.value.Value.{Value}
use Rattle.tsdb_state.proofs.LayerLemmas.Places.{is_path_same, path_itself}
use Rattle.tsdb_base.specs.Lists.{Among}
use Rattle.tsdb_state.specs.LayerOrder.{WatermarkMap}
use Rattle.tsdb_state.specs.Places.{PointPlace, is_path}
use Rattle.tsdb_memory.specs.Freezing.{raised_by}
use Rattle.tsdb_memory.specs.declared.freezing.Raise.{Raise}
use Rattle.tsdb_memtable.specs.Watermarks.{later_time}
use Rattle.tsdb_path.specs.Nodes.{device_of}
use Rattle.tsdb_state.specs.Records.{raise_all, raise_to}

-- a device and a time
abbrev pub Rise : Type 0
Rise = List ℕ × ℤ

-- the watermark of a device after these rises
abbrev pub risen : List ℕ → List Rise → Option ℤ → Option ℤ
risen device [] last = last
risen device (rise ∷ rises) last = risen device rises (cond (is_path rise.0 device) (later_time last rise.1) last)

-- it is one of these times or the one before, and no less than each
pub record IsRaisedTo (had : ℤ → Type 0) (old new : Option ℤ) : Type 0 where
  pub keeps : (time : ℤ) → old ≡ Some time → IsSomeAnd new (λ last. time ≤ℤ last)
  pub reaches : (time : ℤ) → had time → IsSomeAnd new (λ last. time ≤ℤ last)
  pub one : (time : ℤ) → new ≡ Some time → (old ≡ Some time) ⊎ had time

at_itself : (a : ℤ) → a ≤ℤ a
at_itself a = omega (arith, ints)

pub through : (a b c : ℤ) → a ≤ℤ b → b ≤ℤ c → a ≤ℤ c
through a b c h k = omega (arith, ints)

both_ways : (a b : ℤ) → a ≤ℤ b → b ≤ℤ a → a ≡ b
both_ways a b h k = omega (arith, ints)

is_less : (a b : ℤ) → int_lt a b ≡ true → a ≤ℤ b
is_less a b h = grind (arith, ints)

is_no_less : (a b : ℤ) → int_lt a b ≡ false → b ≤ℤ a
is_no_less a b h = grind (arith, ints)

some_one : (a b : ℤ) → Some a ≡ Some b → a ≡ b
some_one a b e = ap (λ o. unwrap_or o a) e

some_none : (a : ℤ) → None ≡ Some a → ⊥
some_none a e = cc

-- one of them alone is
module _ (had : ℤ → Type 0) (old : Option ℤ) where
  no_more : (s : ℤ) (b : Option ℤ) → IsRaisedTo had old b → ((old ≡ Some s) ⊎ had s) → IsSomeAnd b (λ last. s ≤ℤ last)
  no_more s b raised (inl is) = raised.keeps s is
  no_more s b raised (inr has) = raised.reaches s has

  pub one_raised : (a b : Option ℤ) → IsRaisedTo had old a → IsRaisedTo had old b → a ≡ b
  one_raised None None ra rb = refl
  one_raised None (Some t) ra rb = absurd (no_more t None ra (rb.one t refl))
  one_raised (Some s) None ra rb = absurd (no_more s None rb (ra.one s refl))
  one_raised (Some s) (Some t) ra rb = ap Some
      (both_ways s t (no_more s (Some t) rb (ra.one s refl)) (no_more t (Some s) ra (rb.one t refl)))

-- the later of a watermark and a time

at_least : (o : Option ℤ) (a b : ℤ) → a ≤ℤ b → IsSomeAnd o (λ last. b ≤ℤ last) → IsSomeAnd o (λ last. a ≤ℤ last)
at_least None a b h k = k
at_least (Some last) a b h k = through a b last h k

later_reaches : (o : Option ℤ) (time : ℤ) → IsSomeAnd (later_time o time) (λ last. time ≤ℤ last)
later_reaches None time = at_itself time
later_reaches (Some last) time = cases (int_lt time last) refl
  where
    cases : (b : Bool) → int_lt time last ≡ b → IsSomeAnd (cond b (Some last) (Some time)) (λ last. time ≤ℤ last)
    cases true t = is_less time last t
    cases false t = at_itself time

later_keeps : (last time bound : ℤ) → bound ≤ℤ last → IsSomeAnd (later_time (Some last) time) (λ last. bound ≤ℤ last)
later_keeps last time bound h = cases (int_lt time last) refl
  where
    cases : (b : Bool) → int_lt time last ≡ b → IsSomeAnd (cond b (Some last) (Some time)) (λ last. bound ≤ℤ last)
    cases true t = h
    cases false t = through bound last time h (is_no_less time last t)

later_one : (o : Option ℤ) (time found : ℤ) → later_time o time ≡ Some found → (o ≡ Some found) ⊎ (time ≡ found)
later_one None time found e = inr (some_one time found e)
later_one (Some last) time found e = cases (int_lt time last) e
  where
    cases : (b : Bool) → cond b (Some last) (Some time) ≡ Some found → (Some last ≡ Some found) ⊎ (time ≡ found)
    cases true e = inl e
    cases false e = inr (some_one time found e)

-- what rises keep

no_fall : (device : List ℕ) (rises : List Rise) (o : Option ℤ) (bound : ℤ) → IsSomeAnd o (λ last. bound ≤ℤ last)
    → IsSomeAnd (risen device rises o) (λ last. bound ≤ℤ last)
no_fall device [] o bound h = h
no_fall device (rise ∷ rises) o bound h =
    no_fall device rises (cond (is_path rise.0 device) (later_time o rise.1) o) bound (by (is_path rise.0 device) o h)
  where
    by : (b : Bool) (o : Option ℤ) → IsSomeAnd o (λ last. bound ≤ℤ last)
        → IsSomeAnd (cond b (later_time o rise.1) o) (λ last. bound ≤ℤ last)
    by true None h = absurd h
    by true (Some last) h = later_keeps last rise.1 bound h
    by false o h = h

reached : (device : List ℕ) (rises : List Rise) (o : Option ℤ) (time : ℤ) → Among (device, time) rises
    → IsSomeAnd (risen device rises o) (λ last. time ≤ℤ last)
reached device [] o time among = absurd among
reached device (rise ∷ rises) o time (inl is) =
    no_fall device rises (cond (is_path rise.0 device) (later_time o rise.1) o) time
    (subst (λ (r : Rise). IsSomeAnd (cond (is_path r.0 device) (later_time o r.1) o) (λ last. time ≤ℤ last)) (sym is)
    (subst (λ b. IsSomeAnd (cond b (later_time o time) o) (λ last. time ≤ℤ last)) (sym (path_itself device))
    (later_reaches o time)))
reached device (rise ∷ rises) o time (inr among) =
    reached device rises (cond (is_path rise.0 device) (later_time o rise.1) o) time among

one_of : (device : List ℕ) (rises : List Rise) (o : Option ℤ) (time : ℤ) → risen device rises o ≡ Some time
    → (o ≡ Some time) ⊎ Among (device, time) rises
one_of device [] o time is = inl is
one_of device (rise ∷ rises) o time is = ⊎_elim
    (λ e. by (is_path rise.0 device) refl e) (λ among. inr (inr among))
    (one_of device rises (cond (is_path rise.0 device) (later_time o rise.1) o) time is)
  where
    by : (b : Bool) → is_path rise.0 device ≡ b → cond b (later_time o rise.1) o ≡ Some time
        → (o ≡ Some time) ⊎ Among (device, time) (rise ∷ rises)
    by true here e = ⊎_elim (λ before. inl before)
        (λ same. inr (inl (λ i. (is_path_same rise.0 device here i, same i)))) (later_one o rise.1 time e)
    by false here e = inl e

pub rises_raise : (device : List ℕ) (rises : List Rise) (o : Option ℤ)
    → IsRaisedTo (λ time. Among (device, time) rises) o (risen device rises o)
rises_raise device rises o = record {
  keeps = λ time is. no_fall device rises o time (subst (λ p. IsSomeAnd p (λ last. time ≤ℤ last)) (sym is)
      (at_itself time));
  reaches = λ time among. reached device rises o time among;
  one = λ time is. one_of device rises o time is;
}

-- those of the state

abbrev pub rise_of : PointPlace × Value → Rise
rise_of point = (device_of point.0.path, point.0.time)

raised_some : (o : Option ℤ) (time : ℤ) → Some (unwrap_or (later_time o time) time) ≡ later_time o time
raised_some None time = refl
raised_some (Some last) time = by (int_lt time last)
  where
    by : (b : Bool) → Some (unwrap_or (cond b (Some last) (Some time)) time) ≡ cond b (Some last) (Some time)
    by true = refl
    by false = refl

other_way : (a b : List ℕ) → is_path a b ≡ is_path b a
other_way a b = by (is_path a b) (is_path b a) refl refl
  where
    by : (s t : Bool) → is_path a b ≡ s → is_path b a ≡ t → s ≡ t
    by true true es et = refl
    by true false es et =
        sym (path_itself a) ∙ ap (λ x. is_path x a) (is_path_same a b es) ∙ et
    by false true es et =
        sym es ∙ ap (λ x. is_path x b) (sym (is_path_same b a et)) ∙ path_itself b
    by false false es et = refl

raised_at : (place : PointPlace) (watermarks : WatermarkMap) (device : List ℕ)
    → get (raise_to place watermarks) device
    ≡ cond (is_path (device_of place.path) device) (later_time (get watermarks device) place.time)
    (get watermarks device)
raised_at place watermarks device =
    get-insert nat_list_cmp_total watermarks (device_of place.path)
    (unwrap_or (later_time (get watermarks (device_of place.path)) place.time) place.time) device
    ∙ ap (λ o. cond (is_path device (device_of place.path)) o (get watermarks device))
    (raised_some (get watermarks (device_of place.path)) place.time)
    ∙ by (is_path device (device_of place.path)) refl
    ∙ ap (λ b. cond b (later_time (get watermarks device) place.time) (get watermarks device))
    (other_way device (device_of place.path))
  where
    by : (b : Bool) → is_path device (device_of place.path) ≡ b
        → cond b (later_time (get watermarks (device_of place.path)) place.time) (get watermarks device)
        ≡ cond b (later_time (get watermarks device) place.time) (get watermarks device)
    by true e = ap (λ d. later_time (get watermarks d) place.time) (sym (is_path_same device (device_of place.path) e))
    by false e = refl

pub state_risen : (points : List (PointPlace × Value)) (watermarks : WatermarkMap) (device : List ℕ)
    → get (raise_all points watermarks) device ≡ risen device (map rise_of points) (get watermarks device)
state_risen [] watermarks device = refl
state_risen (point ∷ points) watermarks device =
    state_risen points (raise_to point.0 watermarks) device
    ∙ ap (risen device (map rise_of points)) (raised_at point.0 watermarks device)

-- those of the code

abbrev pub rise_in : Raise → Rise
rise_in raise = (raise.device, raise.time)

pub code_risen : (device : List ℕ) (raises : List Raise) (last : Option ℤ)
    → raised_by device raises last ≡ risen device (map rise_in raises) last
code_risen device [] last = refl
code_risen device (raise ∷ raises) last =
    code_risen device raises (cond (is_path raise.device device) (later_time last raise.time) last)
