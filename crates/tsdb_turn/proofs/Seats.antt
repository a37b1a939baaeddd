-- The steps on seats keep the rule: the opening, the cutting of a seat in two, the joining of two and the close.
use Rattle.std.proofs.Common.{◌≡◌, ◌≢◌, ◌⊎◌, ℕ, zero, suc, ◌+◌, ◌^◌, ◌<◌, ◌≤◌, ◌==◌, true, false, cond, List, [], ◌∷◌, ◌++◌, length, map, slice_set, Option, Some, All, eq-eqb, ne_eqb, sym, refl, ap, ◌∙◌, subst, inl, inr, ⊎_elim, length-append, append_assoc, add-one, mod-eq_of_lt, arith}
use Rattle.std.proofs.lemmas.List.{map-append, length-map}
use Rattle.std.specs.List.{AllByRecursion}
use mathlib.Core.Logic.{dite}
use mathlib.Core.Option as slots
use mathlib.Core.Option.{none, some, some-injective}
use native.Mathlib.Decide.{ℕ_discrete}
use lib.ListN.{get_elem?}
use Rattle.atomic_table.specs.Seated.{TableId}
use Rattle.atomic_table.specs.Table.{State, Me, opening, Splits, Joins, Seen, Final}
use Rattle.atomic_table.proofs.Lists.{set_else, at_longer}
use Rattle.tsdb_turn.specs.Passes.{PassState, IsLastOf, AreNumbered, new_pass, new_passes}
use Rattle.tsdb_turn.specs.Rule.{known, view, tickets, tickets_of, width_of, times, ticket_times, LeftAs, StandsInQueue, Knows, Rule}
use Rattle.tsdb_turn.specs.Steps.{AreOpeningWords, dealt, first_known, but_first, rest_of, first_view, join_views, spent, pass_known}
use Rattle.tsdb_turn.specs.declared.view.Known.{Known}
use Rattle.tsdb_turn.specs.declared.view.Stage.TheVariants.{Outside, Inside}
use Rattle.tsdb_turn.specs.declared.view.View.{View}
use Rattle.tsdb_turn.proofs.Totals.{total-append, total-set, le-total, two-le-total}
use Rattle.tsdb_turn.proofs.Numbers.{passes_at, times-known, count_all, each_one}
use Rattle.tsdb_turn.proofs.Changes.{same, set-at, each-set, each-append, some-longer, some-last}

module _ {T : Type 0} where
  -- the first number and the others are all
  length-parts : (ks : List (Known T)) → length (but_first ks) + length (first_known ks) ≡ length ks
  length-parts [] = omega arith
  length-parts (k ∷ ks) = omega arith

  times-parts : (n : ℕ) (ks : List (Known T)) → times n (but_first ks) + times n (first_known ks) ≡ times n ks
  times-parts n [] = omega arith
  times-parts n (k ∷ ks) = omega arith

  all-rest : (P : Known T → Type 0) (ks : List (Known T)) → AllByRecursion P ks → AllByRecursion P (but_first ks)
  all-rest P [] all = tt
  all-rest P (k ∷ ks) all = all.1

  all-first : (P : Known T → Type 0) (ks : List (Known T)) → AllByRecursion P ks → AllByRecursion P (first_known ks)
  all-first P [] all = tt
  all-first P (k ∷ ks) all = (all.0, tt)

  all-join : (P : Known T → Type 0) (ks ls : List (Known T)) → AllByRecursion P ks → AllByRecursion P ls → AllByRecursion P (ks ++ ls)
  all-join P [] ls a b = b
  all-join P (k ∷ ks) ls a b = (a.0, all-join P ks ls a.1 b)

  left-parts : (value : T) (ks : List (Known T)) → LeftAs value ks → LeftAs value (but_first ks) ⊎ LeftAs value (first_known ks)
  left-parts value [] h = absurd h
  left-parts value (k ∷ ks) h = ⊎_elim (λ e. inr (inl e)) (λ e. inl e) h

  left-join-first : (value : T) (ks ls : List (Known T)) → LeftAs value ks → LeftAs value (ks ++ ls)
  left-join-first value [] ls h = absurd h
  left-join-first value (k ∷ ks) ls h = ⊎_elim (λ e. inl e) (λ e. inr (left-join-first value ks ls e)) h

  left-join-last : (value : T) (ks ls : List (Known T)) → LeftAs value ls → LeftAs value (ks ++ ls)
  left-join-last value [] ls h = h
  left-join-last value (k ∷ ks) ls h = inr (left-join-last value ks ls h)

  -- the numbers of an opening
  pub length-dealt : (start : T) (n count : ℕ) → length (dealt start n count) ≡ count
  length-dealt start n zero = refl
  length-dealt start n (suc count) = let h = length-dealt start (suc n) count in omega arith

  dealt_above : (start : T) (m n count : ℕ) → m < n → times m (dealt start n count) ≡ 0
  dealt_above start m n zero low = refl
  dealt_above start m n (suc count) low =
      let h = dealt_above start m (suc n) count (omega arith) in
      let other : cond {A = ℕ} (n == m) 1 0 ≡ 0 = ap (λ b. cond {A = ℕ} b 1 0) (ne_eqb n m (λ e. absurd (omega arith))) in
      omega arith

  dealt_once : (start : T) (m n count : ℕ) → times m (dealt start n count) ≤ 1
  dealt_once start m n zero = omega arith
  dealt_once start m n (suc count) =
      dite (ℕ_discrete n m)
      (λ e. let rest = dealt_above start m (suc n) count (omega arith) in
      let one : cond {A = ℕ} (n == m) 1 0 ≡ 1 = ap (λ b. cond {A = ℕ} b 1 0) (eq-eqb n m e) in omega arith)
      (λ ne. let rest = dealt_once start m (suc n) count in
      let none_here : cond {A = ℕ} (n == m) 1 0 ≡ 0 = ap (λ b. cond {A = ℕ} b 1 0) (ne_eqb n m ne) in omega arith)

module _ {T : Type 0} (fits : ℕ → T → T → T → Type 0) (kept : T → Type 0) (seats : ℕ) (start : T) where
  abbrev Holds : State (Option T) (View T) → Type 0
  Holds = Rule fits kept seats start

  abbrev KnowsAll : T → List (Known T) → Type 0
  KnowsAll value ks = AllByRecursion (Knows fits kept seats start value) ks

  dealt_known : (n count : ℕ) → n + count ≤ seats → ((m : ℕ) → fits m start start start) → KnowsAll start (dealt start n count)
  dealt_known n zero room own = tt
  dealt_known n (suc count) room own = (record { made = omega arith; opened = refl; follows = own n }, dealt_known (suc n) count (omega arith) own)

  dealt_left : (n count : ℕ) → 0 < count → LeftAs start (dealt start n count)
  dealt_left n zero some-one = absurd (omega arith)
  dealt_left n (suc count) some-one = inl refl

  only : (P : ℕ → View T → Type 0) (v : View T) → P 0 v → (i : ℕ) (w : View T) → get_elem? (v ∷ []) i ≡ some w → P i w
  only P v here zero w at = subst (λ (x : View T). P 0 x) (cc) here
  only P v here (suc i) w at = absurd (cc)

  pub opens : (ticket : ℕ) (ws : List ℕ) → AreOpeningWords seats ticket ws → ticket < 2 ^ 64 → 0 < seats → seats < 2 ^ 32 → ((m : ℕ) → fits m start start start) → kept start
      → Holds (opening ws (Some start ∷ []) (view Outside (dealt start 0 seats)))
  opens ticket ws words fits_word some-one few own keeps =
      let v : View T = view Outside (dealt start 0 seats) in
      let wide = length-dealt start 0 seats in
      record {
        drawn = ticket;
        served = ticket;
        holder = λ t. 0;
        value = start;
        away = false;
        words = words.count;
        drawn_word = words.drawn ∙ sym (mod-eq_of_lt fits_word);
        served_word = words.served ∙ sym (mod-eq_of_lt fits_word);
        slot = refl;
        queue = omega arith;
        numbers = omega arith;
        few = few;
        holders = only (λ i w. tickets_of w ≤ width_of w) v (omega arith);
        distinct = λ n. let h = dealt_once start n 0 seats in omega arith;
        places = only (λ i w. StandsInQueue ticket ticket (λ t. 0) false start i w.stage) v tt;
        taken = λ out. absurd (cc);
        follows = only (λ i w. KnowsAll start w.known) v (dealt_known 0 seats (omega arith) own);
        latest = (0, v, refl, dealt_left 0 seats some-one);
        keeps = keeps;
      }

  -- the view that is inside is none that is outside
  else_inside : (s : State (Option T) (View T)) (r : Holds s) (id : ℕ) (v w : View T) → get_elem? s.views id ≡ some v → v.stage ≡ Outside → get_elem? s.views (r.holder r.served) ≡ some w → w.stage ≡ Inside r.served r.value
      → r.holder r.served ≢ id
  else_inside s r id v w at out there stage e =
      let both : w.stage ≡ v.stage = ap (λ (u : View T). u.stage) (same s.views (r.holder r.served) id w v there at e) in cc

  pub splits : (id : ℕ) (v : View T) → v.stage ≡ Outside → Splits Holds id v (rest_of v) (first_view v)
  splits id v out s r at =
      let left : View T = rest_of v in
      let right : View T = first_view v in
      let idle : tickets_of v ≡ 0 = ap tickets out in
      let keep = set-at s.views id v left at in
      record {
        drawn = r.drawn;
        served = r.served;
        holder = r.holder;
        value = r.value;
        away = r.away;
        words = r.words;
        drawn_word = r.drawn_word;
        served_word = r.served_word;
        slot = r.slot;
        queue =
            let a = total-append tickets_of (slice_set s.views id left) (right ∷ []) in
            let b = total-set tickets_of s.views id v left at in
            let q = r.queue in
            omega arith;
        numbers =
            let a = total-append width_of (slice_set s.views id left) (right ∷ []) in
            let b = total-set width_of s.views id v left at in
            let c = length-parts v.known in
            let n = r.numbers in
            omega arith;
        few = r.few;
        holders = each-append (λ i w. tickets_of w ≤ width_of w) (slice_set s.views id left) right
            (each-set (λ i w. tickets_of w ≤ width_of w) (λ i w. tickets_of w ≤ width_of w) s.views id left r.holders (λ i w ne there h. h) (omega arith))
            (λ i. omega arith);
        distinct = λ n.
            let a = total-append (ticket_times n) (slice_set s.views id left) (right ∷ []) in
            let b = total-set (ticket_times n) s.views id v left at in
            let c = times-parts n v.known in
            let d = r.distinct n in
            omega arith;
        places = each-append (λ i w. StandsInQueue r.served r.drawn r.holder r.away r.value i w.stage) (slice_set s.views id left) right
            (each-set (λ i w. StandsInQueue r.served r.drawn r.holder r.away r.value i w.stage) (λ i w. StandsInQueue r.served r.drawn r.holder r.away r.value i w.stage) s.views id left r.places (λ i w ne there h. h) (r.places id v at))
            (λ i. tt);
        taken = λ away. let t = r.taken away in
            (t.0, at_longer (slice_set s.views id left) (right ∷ []) (r.holder r.served) t.0 (set_else s.views id (r.holder r.served) left (else_inside s r id v t.0 at out t.1 t.2) ∙ t.1), t.2);
        follows = each-append (λ i w. KnowsAll r.value w.known) (slice_set s.views id left) right
            (each-set (λ i w. KnowsAll r.value w.known) (λ i w. KnowsAll r.value w.known) s.views id left r.follows (λ i w ne there h. h) (all-rest _ v.known (r.follows id v at)))
            (λ i. all-first _ v.known (r.follows id v at));
        latest =
            dite (ℕ_discrete r.latest.0 id)
            (λ e. let here : LeftAs r.value v.known = subst (λ (w : View T). LeftAs r.value w.known) (same s.views r.latest.0 id r.latest.1 v r.latest.2 at e) r.latest.3 in
            ⊎_elim
            (λ h. some-longer (λ w. LeftAs r.value w.known) (slice_set s.views id left) (right ∷ []) (id, left, keep, h))
            (λ h. some-last (λ w. LeftAs r.value w.known) (slice_set s.views id left) right h)
            (left-parts r.value v.known here))
            (λ ne. some-longer (λ w. LeftAs r.value w.known) (slice_set s.views id left) (right ∷ [])
            (r.latest.0, r.latest.1, set_else s.views id r.latest.0 left ne ∙ r.latest.2, r.latest.3));
        keeps = r.keeps;
      }

  pub joins : (id : ℕ) (v : View T) (other : ℕ) (w : View T) → v.stage ≡ Outside → w.stage ≡ Outside → Joins Holds id v other w (join_views v w) spent
  joins id v other w out out' s r at apart there =
      let both : View T = join_views v w in
      let gone : View T = spent in
      let mid : List (View T) = slice_set s.views id both in
      let there' : get_elem? s.views other ≡ some w = sym (set_else s.views id other both apart) ∙ there in
      let idle : tickets_of v ≡ 0 = ap tickets out in
      let idle' : tickets_of w ≡ 0 = ap tickets out' in
      let apart' : id ≢ other = λ e. apart (sym e) in
      record {
        drawn = r.drawn;
        served = r.served;
        holder = r.holder;
        value = r.value;
        away = r.away;
        words = r.words;
        drawn_word = r.drawn_word;
        served_word = r.served_word;
        slot = r.slot;
        queue =
            let a = total-set tickets_of mid other w gone there in
            let b = total-set tickets_of s.views id v both at in
            let q = r.queue in
            omega arith;
        numbers =
            let a = total-set width_of mid other w gone there in
            let b = total-set width_of s.views id v both at in
            let c = length-append w.known v.known in
            let n = r.numbers in
            omega arith;
        few = r.few;
        holders = each-set (λ i u. tickets_of u ≤ width_of u) (λ i u. tickets_of u ≤ width_of u) mid other gone
            (each-set (λ i u. tickets_of u ≤ width_of u) (λ i u. tickets_of u ≤ width_of u) s.views id both r.holders (λ i u ne here h. h) (omega arith))
            (λ i u ne here h. h) (omega arith);
        distinct = λ n.
            let a = total-set (ticket_times n) mid other w gone there in
            let b = total-set (ticket_times n) s.views id v both at in
            let c = total-append (λ (k : Known T). cond {A = ℕ} (k.number == n) 1 0) w.known v.known in
            let d = r.distinct n in
            omega arith;
        places = each-set (λ i u. StandsInQueue r.served r.drawn r.holder r.away r.value i u.stage) (λ i u. StandsInQueue r.served r.drawn r.holder r.away r.value i u.stage) mid other gone
            (each-set (λ i u. StandsInQueue r.served r.drawn r.holder r.away r.value i u.stage) (λ i u. StandsInQueue r.served r.drawn r.holder r.away r.value i u.stage) s.views id both r.places (λ i u ne here h. h) (r.places id v at))
            (λ i u ne here h. h) tt;
        taken = λ away. let t = r.taken away in (
          t.0,
          set_else mid other (r.holder r.served) gone (else_inside s r other w t.0 there' out' t.1 t.2) ∙ set_else s.views id (r.holder r.served) both (else_inside s r id v t.0 at out t.1 t.2) ∙ t.1,
          t.2,
        );
        follows = each-set (λ i u. KnowsAll r.value u.known) (λ i u. KnowsAll r.value u.known) mid other gone
            (each-set (λ i u. KnowsAll r.value u.known) (λ i u. KnowsAll r.value u.known) s.views id both r.follows (λ i u ne here h. h)
            (all-join _ w.known v.known (r.follows other w there') (r.follows id v at)))
            (λ i u ne here h. h) tt;
        latest =
            let whole : get_elem? (slice_set mid other gone) id ≡ some both = set_else mid other id gone apart' ∙ set-at s.views id v both at in
            dite (ℕ_discrete r.latest.0 id)
            (λ e. (
              id,
              both,
              whole,
              left-join-last r.value w.known v.known (subst (λ (u : View T). LeftAs r.value u.known) (same s.views r.latest.0 id r.latest.1 v r.latest.2 at e) r.latest.3),
            ))
            (λ ne. dite (ℕ_discrete r.latest.0 other)
            (λ e. (
              id,
              both,
              whole,
              left-join-first r.value w.known v.known (subst (λ (u : View T). LeftAs r.value u.known) (same s.views r.latest.0 other r.latest.1 w r.latest.2 there' e) r.latest.3),
            ))
            (λ ne'. (r.latest.0, r.latest.1, set_else mid other r.latest.0 gone ne' ∙ set_else s.views id r.latest.0 both ne ∙ r.latest.2, r.latest.3)));
        keeps = r.keeps;
      }

  no_width : (ks : List (Known T)) (value : T) → length ks ≡ 0 → ¬ LeftAs value ks
  no_width [] value e h = h
  no_width (k ∷ ks) value e h = omega arith

  -- every other seat knows nothing
  empty_else : (s : State (Option T) (View T)) (r : Holds s) (id i : ℕ) (v w : View T) → get_elem? s.views id ≡ some v → length v.known ≡ seats → get_elem? s.views i ≡ some w → i ≢ id → length w.known ≡ 0
  empty_else s r id i v w at all there apart =
      let two = two-le-total width_of s.views i id w v apart there at in
      let n = r.numbers in
      omega arith

  home_at_end : (s : State (Option T) (View T)) (r : Holds s) (id : ℕ) (v : View T) → get_elem? s.views id ≡ some v → v.stage ≡ Outside → length v.known ≡ seats → r.away ≡ false
  home_at_end s r id v at out all =
      elim r.away as (λ b. b ≡ r.away → b ≡ false) [
        | false ↦ λ e. refl
        | true ↦ λ e.
            let t = r.taken (sym e) in
            let nothing = empty_else s r id (r.holder r.served) v t.0 at all t.1 (else_inside s r id v t.0 at out t.1 t.2) in
            let ticket : tickets_of t.0 ≡ 1 = ap tickets t.2 in
            let most = r.holders (r.holder r.served) t.0 t.1 in
            absurd (omega arith)
      ] refl

  last_at_end : (s : State (Option T) (View T)) (r : Holds s) (id : ℕ) (v : View T) → get_elem? s.views id ≡ some v → length v.known ≡ seats → LeftAs r.value v.known
  last_at_end s r id v at all =
      dite (ℕ_discrete r.latest.0 id)
      (λ e. subst (λ (u : View T). LeftAs r.value u.known) (same s.views r.latest.0 id r.latest.1 v r.latest.2 at e) r.latest.3)
      (λ ne. absurd (no_width r.latest.1.known r.value (empty_else s r id r.latest.0 v r.latest.1 at all r.latest.2 ne) r.latest.3))

  pub each_follows : (value : T) (ks : List (Known T)) → KnowsAll value ks → AllByRecursion (λ (k : Known T). fits k.number k.start k.last value) ks
  each_follows value [] all = tt
  each_follows value (k ∷ ks) all = (all.0.follows, each_follows value ks all.1)

  pub each_made : (value : T) (ks : List (Known T)) → KnowsAll value ks → AllByRecursion (λ (k : Known T). k.number < seats) ks
  each_made value [] all = tt
  each_made value (k ∷ ks) all = (all.0.made, each_made value ks all.1)

  -- what a seat that has all numbers learns at the close
  pub record Ends (ks : List (Known T)) (homes : List (slots.Option (Option T))) : Type 0 where
    pub value : T
    pub home : homes ≡ some (Some value) ∷ []
    pub follows : KnowsAll value ks
    pub latest : LeftAs value ks
    pub once : (n : ℕ) → times n ks ≤ 1
    pub keeps : kept value

  pub ends : (id : ℕ) (v : View T) → v.stage ≡ Outside → length v.known ≡ seats → (s : State (Option T) (View T)) → Seen Holds id v s → Ends v.known s.homes
  ends id v out all s seen =
      let r = seen.0 in
      record {
        value = r.value;
        home = rw (r.slot, home_at_end s r id v seen.1 out all) refl;
        follows = r.follows id v seen.1;
        latest = last_at_end s r id v seen.1 all;
        once = λ n. let most = le-total (ticket_times n) s.views id v seen.1 in let d = r.distinct n in omega arith;
        keeps = r.keeps;
      }

-- what is dealt next, and what is left
pub dealt_parts : {T : Type 0} (me : Me (Option T) (View T)) (start : T) (n more left : ℕ) → left ≡ suc more → me ≡ (view Outside (dealt start n left), [])
    → (first_view me.0 ≡ view Outside (known n start start ∷ [])) × (rest_of me.0 ≡ view Outside (dealt start (n + 1) more))
dealt_parts me start n more left one e =
    let whole = e ∙ ap (λ (l : ℕ). (view Outside (dealt start n l), [])) one in
    (ap (λ m. first_view m.0) whole, ap (λ m. rest_of m.0) whole ∙ ap (λ (k : ℕ). view Outside (dealt start k more)) (sym (add-one n)))

pub passes_more : {T : Type 0} (made : List (PassState T)) (id : TableId) (start : T) (n more left : ℕ) → left ≡ suc more
    → (made ++ new_pass id start n ∷ []) ++ new_passes id start (n + 1) more ≡ made ++ new_passes id start n left
passes_more made id start n more left one =
    append_assoc made (new_pass id start n ∷ []) (new_passes id start (n + 1) more)
    ∙ ap (λ (k : ℕ). made ++ new_pass id start n ∷ new_passes id start k more) (add-one n)
    ∙ ap (λ (l : ℕ). made ++ new_passes id start n l) (sym one)

-- what one pass more knows stands in front of what the others know
pub known_more : {T : Type 0} (xs ys : List (PassState T)) (pass : PassState T) (ks : List (Known T)) → xs ≡ ys ++ pass ∷ []
    → map pass_known ys ++ pass_known pass ∷ ks ≡ map pass_known xs ++ ks
known_more xs ys pass ks e =
    sym (append_assoc (map pass_known ys) (pass_known pass ∷ []) ks)
    ∙ ap (λ ls. ls ++ ks) (sym (map-append pass_known ys (pass ∷ [])))
    ∙ ap (λ zs. map pass_known zs ++ ks) (sym e)

all_of : {A B : Type 0} (P : B → Type 0) (f : A → B) (xs : List A) → AllByRecursion P (map f xs) → All (λ x. P (f x)) xs
all_of P f [] all k d h = absurd (omega arith)
all_of P f (x ∷ xs) all zero d h = all.0
all_of P f (x ∷ xs) all (suc k) d h = all_of P f xs all.1 k d (omega arith)

left_of : {T : Type 0} (value : T) (passes : List (PassState T)) → LeftAs value (map pass_known passes) → IsLastOf passes value
left_of value [] h = absurd h
left_of value (p ∷ ps) h =
    ⊎_elim
    (λ e. (0, p, omega arith, refl, e))
    (λ e. let t = left_of value ps e in (suc t.0, t.1, (let l = t.2 in omega arith), t.3, t.4))
    h

-- Where each number stands once at most, and as many passes as numbers have numbers below, each stands once.
numbered_each : {T : Type 0} (passes : List (PassState T)) (seats : ℕ) → length passes ≡ seats → All (λ p. p.number < seats) passes
    → ((n : ℕ) → times n (map pass_known passes) ≤ 1) → AreNumbered seats passes
numbered_each {T} passes seats all below once =
    let at : ℕ → ℕ = λ n. passes_at n passes in
    let same : (n : ℕ) → times n (map pass_known passes) ≡ at n = λ n. times-known n passes in
    let few : (n : ℕ) → at n ≤ 1 = λ n. let h = once n in let e = same n in omega arith in
    record {
      below = below;
      each = λ n low. let whole = count_all seats passes below in let fill = each_one at seats n few low in let most = few n in omega arith;
    }

-- what the last value is to the passes
pub record Closes {T : Type 0} (fits : ℕ → T → T → T → Type 0) (kept : T → Type 0) (seats : ℕ) (passes : List (PassState T)) (taken : Option T) : Type 0 where
  pub value : T
  pub is : taken ≡ Some value
  pub follows : All (λ p. fits p.number p.start p.last value) passes
  pub latest : IsLastOf passes value
  pub numbers : AreNumbered seats passes
  pub keeps : kept value

pub closes : {T : Type 0} (fits : ℕ → T → T → T → Type 0) (kept : T → Type 0) (seats : ℕ) (start : T) (id : ℕ) (me : Me (Option T) (View T)) (passes : List (PassState T)) (words : List ℕ) (items : List (Option T)) (taken : Option T)
    → me ≡ (view Outside (map pass_known passes), []) → length passes ≡ seats → Final (Seen (Rule fits kept seats start) id me.0) words items → get_elem? items 0 ≡ some taken → Closes fits kept seats passes taken
closes {T} fits kept seats start id me passes words items taken e all final at =
    let known_all : me.0.known ≡ map pass_known passes = ap (λ m. m.0.known) e in
    let wide : length me.0.known ≡ seats = ap length known_all ∙ length-map passes pass_known ∙ all in
    let end = ends fits kept seats start id me.0 (ap (λ m. m.0.stage) e) wide final.0 final.1 in
    let there : get_elem? items 0 ≡ some (Some end.value) = final.4 0 (Some end.value) (ap (λ hs. get_elem? hs 0) end.home) in
    record {
      value = end.value;
      is = some-injective taken (Some end.value) (sym at ∙ there);
      follows = all_of (λ (k : Known T). fits k.number k.start k.last end.value) pass_known passes
          (subst (λ ks. AllByRecursion (λ (k : Known T). fits k.number k.start k.last end.value) ks) known_all (each_follows fits kept seats start end.value me.0.known end.follows));
      latest = left_of end.value passes (subst (λ ks. LeftAs end.value ks) known_all end.latest);
      numbers = numbered_each passes seats all
          (all_of (λ (k : Known T). k.number < seats) pass_known passes
          (subst (λ ks. AllByRecursion (λ (k : Known T). k.number < seats) ks) known_all (each_made fits kept seats start end.value me.0.known end.follows)))
          (λ n. subst (λ ks. times n ks ≤ 1) known_all (end.once n));
      keeps = end.keeps;
    }
