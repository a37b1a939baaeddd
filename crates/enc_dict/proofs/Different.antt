-- Texts that are all different, and values that use them in their order.
use Rattle.std.proofs.Common.{◌≡◌, ℕ, zero, suc, ◌+◌, ◌<◌, ◌≤◌, Bool, true, false, not, ◌||◌, List, [], ◌∷◌, ◌++◌, length, get_or, take, drop, refl, sym, ap, subst, ◌∙◌, inl, inr, arith, append_assoc}
use Rattle.std.specs.Prelude.{map, filter}
use Rattle.std.specs.List.{list_any}
use Rattle.std.specs.Str.{bytes_eq}
use Rattle.std.proofs.lemmas.List.{append-nil, take_more, take_all, take-append-drop, drop_more, take-map, length-take-le, length-map, map_push, get_or-map}
use Rattle.enc_dict.specs.Spelling.{first_uses, place_in}
use Rattle.enc_dict.specs.Steps.{with_text, AreUses}
use Rattle.enc_dict.proofs.FirstUses.{cases, text_itself, apart_back, others, filter_le, length-first_uses, first_uses_push, places_push, place_of_new, last_among, texts_back, places_within}

-- each text differs from those behind it
abbrev pub AllDiffer : List (List ℕ) → Type 0
AllDiffer [] = Unit {0}
AllDiffer (text ∷ texts) = (list_any (bytes_eq text) texts ≡ false) × AllDiffer texts

or_false : (a b : Bool) → (a || b) ≡ false → (a ≡ false) × (b ≡ false)
or_false true b e = absurd cc
or_false false b e = (refl, e)

any_after_filter : (p : List ℕ → Bool) (u : List ℕ) (ks : List (List ℕ)) → list_any (bytes_eq u) ks ≡ false → list_any (bytes_eq u) (filter p ks) ≡ false
any_after_filter p u [] h = refl
any_after_filter p u (k ∷ ks) h =
    let both = or_false (bytes_eq u k) (list_any (bytes_eq u) ks) h in
    let rest = any_after_filter p u ks both.1 in
    elim (cases (p k)) [ inl passes ↦ rw (passes, both.0) rest | inr fails ↦ rw fails rest ]

filter_differ : (p : List ℕ → Bool) (ks : List (List ℕ)) → AllDiffer ks → AllDiffer (filter p ks)
filter_differ p [] h = tt
filter_differ p (k ∷ ks) h =
    let rest = filter_differ p ks h.1 in
    elim (cases (p k)) [ inl passes ↦ rw passes (any_after_filter p k ks h.0, rest) | inr fails ↦ rw fails rest ]

none_of_others : (text : List ℕ) (ks : List (List ℕ)) → list_any (bytes_eq text) (others text ks) ≡ false
none_of_others text [] = refl
none_of_others text (k ∷ ks) =
    elim (cases (bytes_eq text k)) [ inl same ↦ rw same (none_of_others text ks) | inr apart ↦ rw (apart, apart) (none_of_others text ks) ]

first_uses_differ : (xs : List (List ℕ)) → AllDiffer (first_uses xs)
unfolding first_uses
first_uses_differ [] = tt
first_uses_differ (x ∷ xs) = (none_of_others x (first_uses xs), filter_differ (λ other. not (bytes_eq x other)) (first_uses xs) (first_uses_differ xs))

-- where nothing is left out, all is there
filter_same : (p : List ℕ → Bool) (xs : List (List ℕ)) → length xs ≤ length (filter p xs) → filter p xs ≡ xs
filter_same p [] le = refl
filter_same p (x ∷ xs) le =
    elim (cases (p x)) [
      | inl passes ↦
          let less : length xs ≤ length (filter p xs) = let l = rw passes at le in omega arith in
          rw passes (ap (λ (t : List (List ℕ)). x ∷ t) (filter_same p xs less))
      | inr fails ↦ let l = rw fails at le in absurd (omega (arith, filter_le p xs, l))
    ]

same_uses : (xs : List (List ℕ)) → length xs ≤ length (first_uses xs) → first_uses xs ≡ xs
unfolding first_uses
same_uses [] le = refl
same_uses (x ∷ xs) le =
    let left = filter_le (λ other. not (bytes_eq x other)) (first_uses xs) in
    let rest : first_uses xs ≡ xs = same_uses xs (omega (arith, left)) in
    let all : others x (first_uses xs) ≡ first_uses xs = filter_same (λ other. not (bytes_eq x other)) (first_uses xs) (omega (arith, length-first_uses xs)) in
    ap (λ (t : List (List ℕ)). x ∷ t) (all ∙ rest)

-- texts with as many different ones all differ
pub all_differ : (xs : List (List ℕ)) → length xs ≤ length (first_uses xs) → AllDiffer xs
all_differ xs le = subst AllDiffer (same_uses xs le) (first_uses_differ xs)

keep_all : (x : List ℕ) (xs : List (List ℕ)) → list_any (bytes_eq x) xs ≡ false → others x xs ≡ xs
keep_all x [] h = refl
keep_all x (y ∷ ys) h =
    let both = or_false (bytes_eq x y) (list_any (bytes_eq x) ys) h in
    rw both.0 (ap (λ (t : List (List ℕ)). y ∷ t) (keep_all x ys both.1))

uses_of_different : (xs : List (List ℕ)) → AllDiffer xs → first_uses xs ≡ xs
unfolding first_uses
uses_of_different [] h = refl
uses_of_different (x ∷ xs) h = ap (λ (t : List (List ℕ)). x ∷ others x t) (uses_of_different xs h.1) ∙ ap (λ (t : List (List ℕ)). x ∷ t) (keep_all x xs h.0)

-- the different texts of a list are as many as there are
pub number_of_uses : (xs : List (List ℕ)) → length (first_uses (first_uses xs)) ≡ length (first_uses xs)
number_of_uses xs = ap length (uses_of_different (first_uses xs) (first_uses_differ xs))

-- ---- one place more

in_take : (ks : List (List ℕ)) (n i : ℕ) (d : List ℕ) → i < n → i < length ks → list_any (bytes_eq (get_or ks i d)) (take n ks) ≡ true
in_take [] n i d lt within = absurd (omega arith)
in_take (k ∷ ks) zero i d lt within = absurd (omega arith)
in_take (k ∷ ks) (suc n) zero d lt within = rw (text_itself k) refl
in_take (k ∷ ks) (suc n) (suc i) d lt within =
    elim (cases (bytes_eq (get_or ks i d) k)) [
      | inl same ↦ rw same refl
      | inr apart ↦ rw apart (in_take ks n i d (omega arith) (omega arith))
    ]

differs_at : (k : List ℕ) (ks : List (List ℕ)) (i : ℕ) (d : List ℕ) → list_any (bytes_eq k) ks ≡ false → i < length ks → bytes_eq (get_or ks i d) k ≡ false
differs_at k [] i d h within = absurd (omega arith)
differs_at k (x ∷ xs) zero d h within = apart_back k x (or_false (bytes_eq k x) (list_any (bytes_eq k) xs) h).0
differs_at k (x ∷ xs) (suc i) d h within = differs_at k xs i d (or_false (bytes_eq k x) (list_any (bytes_eq k) xs) h).1 (omega arith)

not_in_take : (ks : List (List ℕ)) (n : ℕ) (d : List ℕ) → AllDiffer ks → n < length ks → list_any (bytes_eq (get_or ks n d)) (take n ks) ≡ false
not_in_take [] n d h within = absurd (omega arith)
not_in_take (k ∷ ks) zero d h within = refl
not_in_take (k ∷ ks) (suc n) d h within = rw (differs_at k ks n d h.0 (omega arith)) (not_in_take ks n d h.1 (omega arith))

place_at : (ks : List (List ℕ)) (i : ℕ) (d : List ℕ) → AllDiffer ks → i < length ks → place_in ks (get_or ks i d) ≡ i
place_at [] i d h within = absurd (omega arith)
place_at (k ∷ ks) zero d h within = rw (text_itself k) refl
place_at (k ∷ ks) (suc i) d h within =
    let rest = place_at ks i d h.1 (omega arith) in
    rw (differs_at k ks i d h.0 (omega arith)) (omega (arith, rest))

place_in_prefix : (ks more : List (List ℕ)) (u : List ℕ) → list_any (bytes_eq u) ks ≡ true → place_in (ks ++ more) u ≡ place_in ks u
place_in_prefix [] more u h = absurd cc
place_in_prefix (k ∷ ks) more u h = elim (cases (bytes_eq u k)) [
  | inl same ↦ rw same refl
  | inr apart ↦
      let later : list_any (bytes_eq u) ks ≡ true = rw apart at h in
      rw apart (ap (λ (n : ℕ). 1 + n) (place_in_prefix ks more u later))
]

place_new : (ks : List (List ℕ)) (u : List ℕ) → list_any (bytes_eq u) ks ≡ false → place_in ks u ≡ length ks
place_new [] u h = refl
place_new (k ∷ ks) u h =
    let both = or_false (bytes_eq u k) (list_any (bytes_eq u) ks) h in
    let rest = place_new ks u both.1 in
    rw both.0 (omega (arith, rest))

place_le : (ks : List (List ℕ)) (u : List ℕ) → place_in ks u ≤ length ks
place_le [] u = omega arith
place_le (k ∷ ks) u = elim (cases (bytes_eq u k)) [ inl same ↦ rw same (omega arith) | inr apart ↦ let rest = place_le ks u in rw apart (omega (arith, rest)) ]

insert_old : (ks : List (List ℕ)) (t : List ℕ) → list_any (bytes_eq t) ks ≡ true → with_text ks t ≡ ks
insert_old ks t h = rw h refl

insert_new : (ks : List (List ℕ)) (t : List ℕ) → list_any (bytes_eq t) ks ≡ false → with_text ks t ≡ ks ++ t ∷ []
insert_new ks t h = rw h refl

-- the values so far use the first texts, at these places
pub record Using (texts : List (List ℕ)) (places : List ℕ) (used : ℕ) (values : List (List ℕ)) : Type 0 where
  pub uses : first_uses values ≡ take used texts
  pub places_are : map (place_in (first_uses values)) values ≡ places
  pub within : used ≤ length texts
  pub back : values ≡ map (λ place. get_or texts place []) places

pub using_none : (texts values : List (List ℕ)) → values ≡ [] → Using texts [] 0 values
unfolding first_uses
using_none texts values none = rw none (record { uses = refl; places_are = refl; within = omega arith; back = refl })

go_on : (texts : List (List ℕ)) (places : List ℕ) (used next place : ℕ) (values now : List (List ℕ)) (t : List ℕ) (more : List ℕ) → Using texts places used values → t ≡ get_or texts place [] → now ≡ values ++ t ∷ [] → more ≡ places ++ place ∷ []
    → with_text (take used texts) t ≡ take next texts → place_in (take used texts) t ≡ place → next ≤ length texts → Using texts more next now
go_on texts places used next place values now t more u at n m ins pl within =
    let pushed : first_uses now ≡ take next texts = ap first_uses n ∙ first_uses_push values t ∙ ap (λ (ks : List (List ℕ)). with_text ks t) u.uses ∙ ins in
    let one : place_in (first_uses values) t ≡ place = ap (λ (ks : List (List ℕ)). place_in ks t) u.uses ∙ pl in
    record {
      uses = pushed;
      places_are = ap (λ (vs : List (List ℕ)). map (place_in (first_uses vs)) vs) n ∙ places_push values t ∙ ap (λ (ps : List ℕ). ps ++ place_in (first_uses values) t ∷ []) u.places_are
          ∙ ap (λ (p : ℕ). places ++ p ∷ []) one ∙ sym m;
      within = within;
      back = n ∙ ap (λ (vs : List (List ℕ)). vs ++ t ∷ []) u.back ∙ ap (λ (x : List ℕ). map (λ place. get_or texts place []) places ++ x ∷ []) at
          ∙ sym (map_push (λ place. get_or texts place []) places place) ∙ ap (map (λ place. get_or texts place [])) (sym m);
    }

-- a text that was used before
pub using_old : (texts : List (List ℕ)) (places : List ℕ) (used place : ℕ) (values now : List (List ℕ)) (t : List ℕ) (more : List ℕ) → AllDiffer texts → Using texts places used values → place < used → place < length texts
    → t ≡ get_or texts place [] → now ≡ values ++ t ∷ [] → more ≡ places ++ place ∷ [] → Using texts more used now
using_old texts places used place values now t more differ u lt within at n m =
    let among : list_any (bytes_eq t) (take used texts) ≡ true = rw at (in_take texts used place [] lt within) in
    let pl : place_in (take used texts) t ≡ place =
    sym (place_in_prefix (take used texts) (drop used texts) t among) ∙ ap (λ (ks : List (List ℕ)). place_in ks t) (take-append-drop used texts) ∙ ap (place_in texts) at ∙ place_at texts place [] differ within in
    go_on texts places used used place values now t more u at n m (insert_old (take used texts) t among) pl u.within

-- the next text
pub using_new : (texts : List (List ℕ)) (places : List ℕ) (used place : ℕ) (values now : List (List ℕ)) (t : List ℕ) (more : List ℕ) → AllDiffer texts → Using texts places used values → place ≡ used → place < length texts
    → t ≡ get_or texts place [] → now ≡ values ++ t ∷ [] → more ≡ places ++ place ∷ [] → Using texts more (used + 1) now
using_new texts places used place values now t more differ u same within at n m =
    let below : used < length texts = omega arith in
    let at_used : t ≡ get_or texts used [] = at ∙ ap (λ (p : ℕ). get_or texts p []) same in
    let new : list_any (bytes_eq t) (take used texts) ≡ false = rw at_used (not_in_take texts used [] differ below) in
    let ins : with_text (take used texts) t ≡ take (used + 1) texts =
    insert_new (take used texts) t new ∙ ap (λ (x : List ℕ). take used texts ++ x ∷ []) at_used ∙ sym (take_more texts used [] below) in
    let pl : place_in (take used texts) t ≡ place = place_new (take used texts) t new ∙ omega (arith, length-take-le used texts u.within) in
    go_on texts places used (used + 1) place values now t more u at n m ins pl (omega arith)

-- ---- a list with these texts and places

-- the values so far are the first ones of the list
first_values : (texts : List (List ℕ)) (places : List ℕ) (i used : ℕ) (values list : List (List ℕ)) → AreUses texts places list → Using texts (take i places) used values → values ≡ take i list
first_values texts places i used values list is u =
    let get : ℕ → List ℕ = λ place. get_or texts place [] in
    let whole : map get places ≡ list =
    ap (map get) (sym is.places_are) ∙ ap (λ (ts : List (List ℕ)). map (λ place. get_or ts place []) (map (place_in (first_uses list)) list)) (sym is.texts_are) ∙ texts_back list [] in
    u.back ∙ sym (take-map get i places) ∙ ap (take i) whole

used_is : (texts : List (List ℕ)) (places : List ℕ) (used : ℕ) (values : List (List ℕ)) → Using texts places used values → length (first_uses values) ≡ used
used_is texts places used values u = ap length u.uses ∙ length-take-le used texts u.within

first_uses_more : (xs ys : List (List ℕ)) → (more : List (List ℕ)) × (first_uses (xs ++ ys) ≡ first_uses xs ++ more)
first_uses_more xs [] = ([], ap first_uses (append-nil xs) ∙ sym (append-nil (first_uses xs)))
first_uses_more xs (y ∷ ys) =
    let rest = first_uses_more (xs ++ y ∷ []) ys in
    let whole : first_uses (xs ++ y ∷ ys) ≡ with_text (first_uses xs) y ++ rest.0 =
    ap first_uses (sym (append_assoc xs (y ∷ []) ys)) ∙ rest.1 ∙ ap (λ (ks : List (List ℕ)). ks ++ rest.0) (first_uses_push xs y) in
    elim (cases (list_any (bytes_eq y) (first_uses xs))) [
      | inl old ↦ (rest.0, whole ∙ ap (λ (ks : List (List ℕ)). ks ++ rest.0) (insert_old (first_uses xs) y old))
      | inr new ↦ (y ∷ rest.0, whole ∙ ap (λ (ks : List (List ℕ)). ks ++ rest.0) (insert_new (first_uses xs) y new) ∙ append_assoc (first_uses xs) (y ∷ []) rest.0)
    ]

-- a value's place is at most the number of texts before it
place_bound : (xs ys : List (List ℕ)) (w : List ℕ) → place_in (first_uses (xs ++ w ∷ ys)) w ≤ length (first_uses xs)
place_bound xs ys w =
    let rest = first_uses_more (xs ++ w ∷ []) ys in
    let whole : first_uses (xs ++ w ∷ ys) ≡ first_uses (xs ++ w ∷ []) ++ rest.0 = ap first_uses (sym (append_assoc xs (w ∷ []) ys)) ∙ rest.1 in
    let among : list_any (bytes_eq w) (first_uses (xs ++ w ∷ [])) ≡ true = last_among xs w in
    let here : place_in (first_uses (xs ++ w ∷ ys)) w ≡ place_in (first_uses xs) w =
    ap (λ (ks : List (List ℕ)). place_in ks w) whole ∙ place_in_prefix (first_uses (xs ++ w ∷ [])) rest.0 w among
    ∙ ap (λ (ks : List (List ℕ)). place_in ks w) (first_uses_push xs w) ∙ place_of_new (first_uses xs) w in
    omega (arith, here, place_le (first_uses xs) w)

-- at each place of a list
pub no_skip : (texts : List (List ℕ)) (places : List ℕ) (i used place : ℕ) (values list : List (List ℕ)) → AreUses texts places list → Using texts (take i places) used values → i < length places → place ≡ get_or places i 0
    → (place ≤ used) × (place < length texts)
no_skip texts places i used place values list is u lt at =
    let size : length places ≡ length list = sym (ap length is.places_are) ∙ length-map list (place_in (first_uses list)) in
    let within : i < length list = omega arith in
    let w = get_or list i [] in
    let parted : list ≡ take i list ++ w ∷ drop (i + 1) list = sym (take-append-drop i list) ∙ ap (λ (l : List (List ℕ)). take i list ++ l) (drop_more list i [] within) in
    let here : place ≡ place_in (first_uses list) w = at ∙ ap (λ (ps : List ℕ). get_or ps i 0) (sym is.places_are) ∙ get_or-map (place_in (first_uses list)) list i [] 0 within in
    let bound = place_bound (take i list) (drop (i + 1) list) w in
    let same : place_in (first_uses (take i list ++ w ∷ drop (i + 1) list)) w ≡ place = ap (λ (l : List (List ℕ)). place_in (first_uses l) w) (sym parted) ∙ sym here in
    let number : length (first_uses (take i list)) ≡ used = ap (λ (l : List (List ℕ)). length (first_uses l)) (sym (first_values texts places i used values list is u)) ∙ used_is texts (take i places) used values u in
    let inside : place < length (first_uses list) = subst (λ (p : ℕ). p < length (first_uses list)) (sym at ∙ refl) (subst (λ (ps : List ℕ). get_or ps i 0 < length (first_uses list)) is.places_are (places_within list i 0 (omega (arith, length-map list (place_in (first_uses list)))))) in
    (omega (arith, bound, same, number), omega (arith, inside, ap length is.texts_are))

-- and at the end all texts were used
pub used_all : (texts : List (List ℕ)) (places : List ℕ) (i used : ℕ) (values list : List (List ℕ)) → AreUses texts places list → Using texts (take i places) used values → length places ≤ i → used ≡ length texts
used_all texts places i used values list is u done =
    let size : length places ≡ length list = sym (ap length is.places_are) ∙ length-map list (place_in (first_uses list)) in
    let all : values ≡ list = first_values texts places i used values list is u ∙ take_all i list (omega arith) in
    sym (used_is texts (take i places) used values u) ∙ ap (λ (l : List (List ℕ)). length (first_uses l)) all ∙ ap length is.texts_are

-- texts of a list all differ
pub texts_differ : (texts : List (List ℕ)) (places : List ℕ) (list : List (List ℕ)) → AreUses texts places list → length (first_uses texts) ≡ length texts
texts_differ texts places list is = ap (λ (l : List (List ℕ)). length (first_uses l)) (sym is.texts_are) ∙ number_of_uses list ∙ ap length is.texts_are
