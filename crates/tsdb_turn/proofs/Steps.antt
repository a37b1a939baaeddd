-- Each atomic step on a word keeps the rule: a ticket is drawn, the number that is served is read, and it is advanced.
use Rattle.std.proofs.Common.{◌≡◌, ◌≢◌, ℕ, ◌+◌, ◌%◌, ◌^◌, ◌<◌, ◌≤◌, ◌==◌, Bool, true, false, cond, List, [], ◌∷◌, length, slice_index, slice_set, Option, Some, None, IsSomeAnd, eq-eqb, ne_eqb, sym, refl, ap, ◌∙◌, subst, inl, arith}
use Rattle.std.proofs.lemmas.List.{get_or-set_same, get_or-set_other, set-get_or, length-set}
use Rattle.std.specs.List.{AllByRecursion}
use mathlib.Core.Logic.{dite}
use mathlib.Core.Option.{some}
use native.Mathlib.Decide.{ℕ_discrete}
use lib.ListN.{get_elem?}
use Rattle.atomic_table.specs.Table.{State, Me, Act, keeps, takes, gives, Allows, stepped, carried_after, Valid}
use Rattle.atomic_table.proofs.Lists.{set_else, set_again, one_turn}
use Rattle.tsdb_turn.specs.Rule.{drawn_at, served_at, bells_at, view, tickets_of, width_of, times, ticket_times, LeftAs, StandsInQueue, Knows, Rule}
use Rattle.tsdb_turn.specs.Steps.{Draws, ReadsSlot, Departs, Sits, HasTaken, Looks, MayTakeSlot}
use Rattle.tsdb_turn.specs.declared.view.Known.{Known}
use Rattle.tsdb_turn.specs.declared.view.Stage.{Stage}
use Rattle.tsdb_turn.specs.declared.view.Stage.TheVariants.{Outside, Waiting, Inside}
use Rattle.tsdb_turn.specs.declared.view.View.{View}
use Rattle.tsdb_turn.proofs.Totals.{total-set, two-le-total, total-mono, mod-next}
use Rattle.tsdb_turn.proofs.Changes.{same, set-at, each-set, some-set}

-- the seat that drew ticket n is `id`, and the others are as before
abbrev pub drawn_by : ℕ → ℕ → (ℕ → ℕ) → ℕ → ℕ
drawn_by n id holder t = cond (t == n) id (holder t)

pub drawn_by-here : (n id : ℕ) (holder : ℕ → ℕ) → drawn_by n id holder n ≡ id
drawn_by-here n id holder = ap (λ b. cond b id (holder n)) (eq-eqb n n refl)

pub drawn_by-else : (n id t : ℕ) (holder : ℕ → ℕ) → t ≢ n → drawn_by n id holder t ≡ holder t
drawn_by-else n id t holder ne = ap (λ b. cond b id (holder t)) (ne_eqb t n ne)

-- the value in the slot that was taken last
abbrev held_value : {T : Type 0} → List (ℕ × Option T) → Option T
held_value [] = None
held_value (x ∷ xs) = x.1

module _ {T : Type 0} where
  -- a seat that waits or is inside stands as before when another draws the next ticket
  stands_drawn : (served drawn seat id : ℕ) (holder : ℕ → ℕ) (away : Bool) (value : T) (stage : Stage T)
      → StandsInQueue served drawn holder away value seat stage → StandsInQueue served (drawn + 1) (drawn_by drawn id holder) away value seat stage
  stands_drawn served drawn seat id holder away value Outside h = tt
  stands_drawn served drawn seat id holder away value (Waiting t) h =
      (h.0, (let l = h.1 in omega arith), drawn_by-else drawn id t holder (λ e. let l = h.1 in absurd (omega arith)) ∙ h.2)
  stands_drawn served drawn seat id holder away value (Inside t y) h =
      (h.0, (let l = h.1 in omega arith), drawn_by-else drawn id t holder (λ e. let l = h.1 in absurd (omega arith)) ∙ h.2, h.3, h.4)

  -- when the slot is taken, no other seat was inside
  stands_taken : (served drawn seat : ℕ) (holder : ℕ → ℕ) (value : T) (stage : Stage T)
      → StandsInQueue served drawn holder false value seat stage → StandsInQueue served drawn holder true value seat stage
  stands_taken served drawn seat holder value Outside h = tt
  stands_taken served drawn seat holder value (Waiting t) h = h
  stands_taken served drawn seat holder value (Inside t y) h = (h.0, h.1, h.2, h.3, refl)

  -- when the seat with the served ticket leaves, every other one is outside or waits with a later ticket
  stands_left : (served drawn seat id : ℕ) (holder : ℕ → ℕ) (value left : T) (stage : Stage T) → seat ≢ id → holder served ≡ id
      → StandsInQueue served drawn holder true value seat stage → StandsInQueue (served + 1) drawn holder false left seat stage
  stands_left served drawn seat id holder value left Outside apart own h = tt
  stands_left served drawn seat id holder value left (Waiting t) apart own h =
      let later : t ≢ served = λ e. apart (sym h.2 ∙ ap holder e ∙ own) in let l = h.0 in (omega arith, h.1, h.2)
  stands_left served drawn seat id holder value left (Inside t y) apart own h = absurd (apart (sym h.2 ∙ ap holder h.0 ∙ own))

  -- a seat with the stage of another view is another seat
  not_inside : (xs : List (View T)) (i id : ℕ) (v w : View T) (t : ℕ) (y : T) → get_elem? xs i ≡ some v → v.stage ≡ Inside t y → get_elem? xs id ≡ some w → w.stage ≢ Inside t y → i ≢ id
  not_inside xs i id v w t y at stage own other e = other (ap (λ (u : View T). u.stage) (sym (same xs i id v w at own e)) ∙ stage)

module _ {T : Type 0} (fits : ℕ → T → T → T → Type 0) (kept : T → Type 0) (seats : ℕ) (start : T) where
  abbrev Holds : State (Option T) (View T) → Type 0
  Holds = Rule fits kept seats start

  -- at most as many tickets are out as there are seats
  pub few_out : (s : State (Option T) (View T)) (r : Holds s) → r.drawn ≤ r.served + seats
  few_out s r =
      let most = total-mono tickets_of width_of s.views r.holders in
      let q = r.queue in
      let n = r.numbers in
      omega arith

  -- a word that is set has its new value, and any other has its old one
  own_word : (ws : List ℕ) (i n : ℕ) → i < length ws → slice_index (slice_set ws i n) i ≡ n
  own_word ws i n low = get_or-set_same ws i n 0 low

  else_word : (ws : List ℕ) (i j n : ℕ) → j ≢ i → slice_index (slice_set ws i n) j ≡ slice_index ws j
  else_word ws i j n apart = get_or-set_other ws i j n 0 apart

  -- one more of a number that is counted modulo 2^64
  next_word : (ws : List ℕ) (i count : ℕ) → i < length ws → slice_index ws i ≡ count % 2 ^ 64
      → slice_index (slice_set ws i ((slice_index ws i + 1) % 2 ^ 64)) i ≡ (count + 1) % 2 ^ 64
  next_word ws i count low is = own_word ws i _ low ∙ ap (λ (n : ℕ). (n + 1) % 2 ^ 64) is ∙ mod-next count (2 ^ 64)

  -- the rule after a ticket was drawn
  after_draw : (s : State (Option T) (View T)) (r : Holds s) (id : ℕ) (k : Known T) → get_elem? s.views id ≡ some (view Outside (k ∷ []))
      → Holds (stepped s drawn_at ((slice_index s.words drawn_at + 1) % 2 ^ 64) id [] (view (Waiting r.drawn) (k ∷ [])) keeps)
  after_draw s r id k at =
      let old : View T = view Outside (k ∷ []) in
      let new : View T = view (Waiting r.drawn) (k ∷ []) in
      let q = r.queue in
      let inside_else : (v : View T) → get_elem? s.views (r.holder r.served) ≡ some v → v.stage ≡ Inside r.served r.value → r.holder r.served ≢ id =
      λ v there stage. not_inside s.views (r.holder r.served) id v old r.served r.value there stage at (λ e. cc) in
      record {
        drawn = r.drawn + 1;
        served = r.served;
        holder = drawn_by r.drawn id r.holder;
        value = r.value;
        away = r.away;
        words = length-set s.words drawn_at _ ∙ r.words;
        drawn_word = next_word s.words drawn_at r.drawn (let n = r.words in omega arith) r.drawn_word;
        served_word = else_word s.words drawn_at served_at _ (λ e. absurd (omega arith)) ∙ r.served_word;
        slot = r.slot;
        queue = let t = total-set tickets_of s.views id old new at in omega arith;
        numbers = let t = total-set width_of s.views id old new at in let n = r.numbers in omega arith;
        few = r.few;
        holders = each-set (λ i v. tickets_of v ≤ width_of v) (λ i v. tickets_of v ≤ width_of v) s.views id new r.holders (λ i v ne there h. h) (omega arith);
        distinct = λ n. let t = total-set (ticket_times n) s.views id old new at in let d = r.distinct n in omega arith;
        places = each-set (λ i v. StandsInQueue r.served r.drawn r.holder r.away r.value i v.stage) (λ i v. StandsInQueue r.served (r.drawn + 1) (drawn_by r.drawn id r.holder) r.away r.value i v.stage) s.views id new
            r.places (λ i v ne there h. stands_drawn r.served r.drawn i id r.holder r.away r.value v.stage h) (omega arith, omega arith, drawn_by-here r.drawn id r.holder);
        taken = λ out. let t = r.taken out in
            let apart = inside_else t.0 t.1 t.2 in
            let stands : StandsInQueue r.served r.drawn r.holder r.away r.value (r.holder r.served) (Inside r.served r.value) = subst (λ (x : Stage T). StandsInQueue r.served r.drawn r.holder r.away r.value (r.holder r.served) x) t.2 (r.places (r.holder r.served) t.0 t.1) in
            let below : r.served < r.drawn = stands.1 in
            let held : drawn_by r.drawn id r.holder r.served ≡ r.holder r.served = drawn_by-else r.drawn id r.served r.holder (λ e. absurd (omega arith)) in
            (t.0, ap (λ (i : ℕ). get_elem? (slice_set s.views id new) i) held ∙ set_else s.views id (r.holder r.served) new apart ∙ t.1, t.2);
        follows = each-set (λ i v. AllByRecursion (Knows fits kept seats start r.value) v.known) (λ i v. AllByRecursion (Knows fits kept seats start r.value) v.known) s.views id new
            r.follows (λ i v ne there h. h) (r.follows id old at);
        latest = some-set (λ v. LeftAs r.value v.known) (λ v. LeftAs r.value v.known) s.views id old new at r.latest (λ h. h) (λ v h. h);
        keeps = r.keeps;
      }

  pub draws : (slots id : ℕ) (me : Me (Option T) (View T)) (k : Known T) → me ≡ (view Outside (k ∷ []), []) → Allows Holds slots id me drawn_at (λ n. (n + 1) % 2 ^ 64) (Draws me)
  draws slots id me k e =
      subst (λ (m : Me (Option T) (View T)). Allows Holds slots id m drawn_at (λ n. (n + 1) % 2 ^ 64) (Draws m)) (sym e)
      (λ s r wide at fits_word.
      (view (Waiting r.drawn) (k ∷ []), keeps, tt, after_draw s r id k at, (r.drawn, sym r.drawn_word, refl)))

  -- the ticket that is served is the one that a seat waits with, where both are equal modulo 2^64
  served_is : (s : State (Option T) (View T)) (r : Holds s) (id t : ℕ) (k : Known T) → get_elem? s.views id ≡ some (view (Waiting t) (k ∷ [])) → slice_index s.words served_at ≡ t % 2 ^ 64 → r.served ≡ t
  served_is s r id t k at found =
      let place : StandsInQueue r.served r.drawn r.holder r.away r.value id (Waiting t) = r.places id (view (Waiting t) (k ∷ [])) at in
      let out = few_out s r in
      let few = r.few in
      let word : r.served % 2 ^ 64 ≡ t % 2 ^ 64 = sym r.served_word ∙ found in
      let low : r.served ≤ t = place.0 in
      let high : t < r.drawn = place.1 in
      one_turn r.served t (2 ^ 64) low (omega arith) word

  -- then nobody is inside
  at_home : (s : State (Option T) (View T)) (r : Holds s) (id t : ℕ) (k : Known T) → get_elem? s.views id ≡ some (view (Waiting t) (k ∷ [])) → r.served ≡ t → r.away ≡ false
  at_home s r id t k at is =
      let old : View T = view (Waiting t) (k ∷ []) in
      let place : StandsInQueue r.served r.drawn r.holder r.away r.value id (Waiting t) = r.places id old at in
      elim r.away as (λ b. b ≡ r.away → b ≡ false) [
        | false ↦ λ e. refl
        | true ↦ λ e. let t' = r.taken (sym e) in
            absurd (not_inside s.views (r.holder r.served) id t'.0 old r.served r.value t'.1 t'.2 at (λ x. cc) (ap r.holder is ∙ place.2))
      ] refl

  -- the rule after the slot was taken
  after_take : (s : State (Option T) (View T)) (r : Holds s) (id : ℕ) (k : Known T) → get_elem? s.views id ≡ some (view (Waiting r.served) (k ∷ [])) → r.away ≡ false
      → Holds (stepped s served_at (slice_index s.words served_at) id [] (view (Inside r.served r.value) (k ∷ [])) (takes 0 (Some r.value)))
  after_take s r id k at home =
      let old : View T = view (Waiting r.served) (k ∷ []) in
      let new : View T = view (Inside r.served r.value) (k ∷ []) in
      let place : StandsInQueue r.served r.drawn r.holder r.away r.value id (Waiting r.served) = r.places id old at in
      record {
        drawn = r.drawn;
        served = r.served;
        holder = r.holder;
        value = r.value;
        away = true;
        words = ap length (set-get_or s.words served_at 0) ∙ r.words;
        drawn_word = ap (λ ws. slice_index ws drawn_at) (set-get_or s.words served_at 0) ∙ r.drawn_word;
        served_word = ap (λ ws. slice_index ws served_at) (set-get_or s.words served_at 0) ∙ r.served_word;
        slot = rw r.slot refl;
        queue = let t = total-set tickets_of s.views id old new at in let q = r.queue in omega arith;
        numbers = let t = total-set width_of s.views id old new at in let n = r.numbers in omega arith;
        few = r.few;
        holders = each-set (λ i v. tickets_of v ≤ width_of v) (λ i v. tickets_of v ≤ width_of v) s.views id new r.holders (λ i v ne there h. h) (omega arith);
        distinct = λ n. let t = total-set (ticket_times n) s.views id old new at in let d = r.distinct n in omega arith;
        places = each-set (λ i v. StandsInQueue r.served r.drawn r.holder r.away r.value i v.stage) (λ i v. StandsInQueue r.served r.drawn r.holder true r.value i v.stage) s.views id new
            r.places
            (λ i v ne there h. stands_taken r.served r.drawn i r.holder r.value v.stage (subst (λ b. StandsInQueue r.served r.drawn r.holder b r.value i v.stage) home h))
            (refl, place.1, place.2, refl, refl);
        taken = λ out. (new, ap (λ (i : ℕ). get_elem? (slice_set s.views id new) i) place.2 ∙ set-at s.views id old new at, refl);
        follows = each-set (λ i v. AllByRecursion (Knows fits kept seats start r.value) v.known) (λ i v. AllByRecursion (Knows fits kept seats start r.value) v.known) s.views id new
            r.follows (λ i v ne there h. h) (r.follows id old at);
        latest = some-set (λ v. LeftAs r.value v.known) (λ v. LeftAs r.value v.known) s.views id old new at r.latest (λ h. h) (λ v h. h);
        keeps = r.keeps;
      }

  same_state : (s : State (Option T) (View T)) (r : Holds s) (id : ℕ) (w : View T) → get_elem? s.views id ≡ some w → Holds (stepped s served_at (slice_index s.words served_at) id [] w keeps)
  same_state s r id w at =
      let ws : slice_set s.words served_at (slice_index s.words served_at) ≡ s.words = set-get_or s.words served_at 0 in
      let vs : slice_set s.views id w ≡ s.views = set_again s.views id w at in
      let P : List ℕ → List (View T) → Type 0 = λ a b. Holds record { words = a; homes = s.homes; views = b } in
      subst (λ b. P (slice_set s.words served_at (slice_index s.words served_at)) b) (sym vs) (subst (λ a. P a s.views) (sym ws) r)

  -- a bell has no meaning
  after_ring : (s : State (Option T) (View T)) (r : Holds s) (id word n : ℕ) (w : View T) → bells_at ≤ word → get_elem? s.views id ≡ some w
      → Holds record { words = slice_set s.words word n; homes = s.homes; views = slice_set s.views id w }
  after_ring s r id word n w bell at =
      subst (λ vs. Holds record { words = slice_set s.words word n; homes = s.homes; views = vs }) (sym (set_again s.views id w at))
      record {
        drawn = r.drawn;
        served = r.served;
        holder = r.holder;
        value = r.value;
        away = r.away;
        words = length-set s.words word n ∙ r.words;
        drawn_word = else_word s.words word drawn_at n (λ e. absurd (omega arith)) ∙ r.drawn_word;
        served_word = else_word s.words word served_at n (λ e. absurd (omega arith)) ∙ r.served_word;
        slot = r.slot;
        queue = r.queue;
        numbers = r.numbers;
        few = r.few;
        holders = r.holders;
        distinct = r.distinct;
        places = r.places;
        taken = r.taken;
        follows = r.follows;
        latest = r.latest;
        keeps = r.keeps;
      }

  pub rings : (slots id word : ℕ) (me : Me (Option T) (View T)) (f : ℕ → ℕ) → bells_at ≤ word → Allows Holds slots id me word f (λ found after. after ≡ me)
  rings slots id word me f bell = λ s r wide at fits_word. (me.0, keeps, tt, after_ring s r id word (f (slice_index s.words word)) me.0 bell at, refl)

  -- a seat that takes the slot learns this of each number that it knows
  abbrev pub IsLearnt : (ℕ → T → T → T → Type 0) → Type 0
  IsLearnt learns = (k : Known T) (value : T) → Knows fits kept seats start value k → kept value → learns k.number k.start k.last value

  -- what a waiting seat does when it reads the ticket that is served
  abbrev Goes-on : (ℕ → T → T → T → Type 0) → State (Option T) (View T) → ℕ → ℕ → Known T → Type 0
  Goes-on learns s id t k =
      (w : View T) × (a : Act (Option T)) × Valid s.homes [] a × Holds (stepped s served_at (slice_index s.words served_at) id [] w a)
      × ReadsSlot learns t (view (Waiting t) (k ∷ []), []) (slice_index s.words served_at) (w, carried_after [] a)

  goes_in : (learns : ℕ → T → T → T → Type 0) → IsLearnt learns → (s : State (Option T) (View T)) (r : Holds s) (id : ℕ) (k : Known T) → get_elem? s.views id ≡ some (view (Waiting r.served) (k ∷ [])) → r.away ≡ false → Goes-on learns s id r.served k
  goes_in learns learn s r id k at home =
      let all = r.follows id (view (Waiting r.served) (k ∷ [])) at in (
        view (Inside r.served r.value) (k ∷ []),
        takes 0 (Some r.value),
        rw (r.slot, home) refl,
        after_take s r id k at home,
        record {
          hit = λ e. record { value = r.value; seat = refl; learnt = (learn k r.value all.0 r.keeps, tt) };
          miss = λ ne. absurd (ne r.served_word);
        },
      )

  reads_for : (learns : ℕ → T → T → T → Type 0) → IsLearnt learns → (s : State (Option T) (View T)) (r : Holds s) (id t : ℕ) (k : Known T) → get_elem? s.views id ≡ some (view (Waiting t) (k ∷ [])) → Goes-on learns s id t k
  reads_for learns learn s r id t k at =
      dite (ℕ_discrete (slice_index s.words served_at) (t % 2 ^ 64))
      (λ found. let is = served_is s r id t k at found in
      subst (λ (u : ℕ). Goes-on learns s id u k) is (goes_in learns learn s r id k (subst (λ (u : ℕ). get_elem? s.views id ≡ some (view (Waiting u) (k ∷ []))) (sym is) at) (at_home s r id t k at is)))
      (λ ne. (view (Waiting t) (k ∷ []), keeps, tt, same_state s r id (view (Waiting t) (k ∷ [])) at, record { hit = λ e. absurd (ne e); miss = λ _. refl }))

  pub reads : (learns : ℕ → T → T → T → Type 0) → IsLearnt learns → (slots id : ℕ) (me : Me (Option T) (View T)) (t : ℕ) (k : Known T) → me ≡ (view (Waiting t) (k ∷ []), [])
      → Allows Holds slots id me served_at (λ n. n) (λ found after. (u : ℕ) → me.0.stage ≡ Waiting u → ReadsSlot learns u me found after)
  reads learns learn slots id me t k e =
      subst (λ (m : Me (Option T) (View T)). Allows Holds slots id m served_at (λ n. n) (λ found after. (u : ℕ) → m.0.stage ≡ Waiting u → ReadsSlot learns u m found after)) (sym e)
      (λ s r wide at fits_word. let g = reads_for learns learn s r id t k at in (
        g.0,
        g.1,
        g.2,
        g.3,
        λ u is. let same_ticket : t ≡ u = cc in
            subst (λ (x : ℕ). ReadsSlot learns x (view (Waiting t) (k ∷ []), []) (slice_index s.words served_at) (g.0, carried_after [] g.1)) same_ticket g.4,
      ))

  counts_one : (m n : ℕ) → m ≡ n → cond {A = ℕ} (m == n) 1 0 ≡ 1
  counts_one m n e = ap (λ b. cond {A = ℕ} b 1 0) (eq-eqb m n e)

  -- a number that does not stand in the list is nobody's there
  spread : (n : ℕ) (y left : T) (ks : List (Known T)) → times n ks ≡ 0 → ((m : ℕ) (l : T) → m ≢ n → fits m start l y → fits m start l left)
      → AllByRecursion (Knows fits kept seats start y) ks → AllByRecursion (Knows fits kept seats start left) ks
  spread n y left [] nowhere keeps_fit all = tt
  spread n y left (k ∷ ks) nowhere keeps_fit all =
      let apart : k.number ≢ n = λ e. let one = counts_one k.number n e in absurd (omega arith) in
      let h : Knows fits kept seats start y k = all.0 in
      let fit : fits k.number start k.last left = keeps_fit k.number k.last apart (subst (λ (x : T). fits k.number x k.last y) h.opened h.follows) in (
        record { made = h.made; opened = h.opened; follows = subst (λ (x : T). fits k.number x k.last left) (sym h.opened) fit },
        spread n y left ks (omega arith) keeps_fit all.1,
      )

  -- the rule after the slot was given back with `left`, and the next ticket is served
  after_leave : (s : State (Option T) (View T)) (r : Holds s) (id t : ℕ) (k : Known T) (y left : T) → get_elem? s.views id ≡ some (view (Inside t y) (k ∷ []))
      → fits k.number k.start left left → ((m : ℕ) (l : T) → m ≢ k.number → fits m k.start l y → fits m k.start l left) → (k.number < seats → k.start ≡ start → kept y → kept left)
      → Holds (stepped s served_at ((slice_index s.words served_at + 1) % 2 ^ 64) id ((0, Some left) ∷ []) (view Outside (record k { last = left } ∷ [])) gives)
  after_leave s r id t k y left at own others more =
      let old : View T = view (Inside t y) (k ∷ []) in
      let new : View T = view Outside (record k { last = left } ∷ []) in
      let place : StandsInQueue r.served r.drawn r.holder r.away r.value id (Inside t y) = r.places id old at in
      let known_here : Knows fits kept seats start r.value k = (r.follows id old at).0 in
      let owner : r.holder r.served ≡ id = sym (ap r.holder place.0) ∙ place.2 in
      record {
        drawn = r.drawn;
        served = r.served + 1;
        holder = r.holder;
        value = left;
        away = false;
        words = length-set s.words served_at _ ∙ r.words;
        drawn_word = else_word s.words served_at drawn_at _ (λ e. absurd (omega arith)) ∙ r.drawn_word;
        served_word = next_word s.words served_at r.served (let n = r.words in omega arith) r.served_word;
        slot = rw r.slot refl;
        queue = let n = total-set tickets_of s.views id old new at in let q = r.queue in omega arith;
        numbers = let n = total-set width_of s.views id old new at in let m = r.numbers in omega arith;
        few = r.few;
        holders = each-set (λ i v. tickets_of v ≤ width_of v) (λ i v. tickets_of v ≤ width_of v) s.views id new r.holders (λ i v ne there h. h) (omega arith);
        distinct = λ n. let m = total-set (ticket_times n) s.views id old new at in let d = r.distinct n in omega arith;
        places = each-set (λ i v. StandsInQueue r.served r.drawn r.holder r.away r.value i v.stage) (λ i v. StandsInQueue (r.served + 1) r.drawn r.holder false left i v.stage) s.views id new
            r.places
            (λ i v ne there h. stands_left r.served r.drawn i id r.holder r.value left v.stage ne owner (subst (λ b. StandsInQueue r.served r.drawn r.holder b r.value i v.stage) place.4 h))
            tt;
        taken = λ out. absurd (cc);
        follows = each-set (λ i v. AllByRecursion (Knows fits kept seats start r.value) v.known) (λ i v. AllByRecursion (Knows fits kept seats start left) v.known) s.views id new
            r.follows
            (λ i v ne there h.
            let two = two-le-total (ticket_times k.number) s.views id i old v (λ e. ne (sym e)) at there in
            let most = r.distinct k.number in
            let here = counts_one k.number k.number refl in
            let nowhere : times k.number v.known ≡ 0 = omega arith in
            spread k.number r.value left v.known nowhere
            (λ m l apart fit.
            subst (λ (x : T). fits m x l left) known_here.opened
            (others m l apart (subst (λ (x : T). fits m x l y) (sym known_here.opened) (subst (λ (z : T). fits m start l z) (sym place.3) fit))))
            h)
            (record { made = known_here.made; opened = known_here.opened; follows = own }, tt);
        latest = (id, new, set-at s.views id old new at, inl refl);
        keeps = more known_here.made known_here.opened (subst kept (sym place.3) r.keeps);
      }

  pub departs : (slots id : ℕ) (me : Me (Option T) (View T)) (t : ℕ) (k : Known T) (y left : T) → me ≡ (view (Inside t y) (k ∷ []), (0, Some left) ∷ [])
      → fits k.number k.start left left → ((m : ℕ) (l : T) → m ≢ k.number → fits m k.start l y → fits m k.start l left) → (k.number < seats → k.start ≡ start → kept y → kept left)
      → Allows Holds slots id me served_at (λ n. (n + 1) % 2 ^ 64) (λ found after. Departs me after)
  departs slots id me t k y left e own others more =
      subst (λ (m : Me (Option T) (View T)). Allows Holds slots id m served_at (λ n. (n + 1) % 2 ^ 64) (λ found after. Departs m after)) (sym e)
      (λ s r wide at fits_word. (
        view Outside (record k { last = left } ∷ []),
        gives,
        tt,
        after_leave s r id t k y left at own others more,
        λ k' value is.
            let known_same : k ∷ [] ≡ k' ∷ [] = ap (λ (m : Me (Option T) (View T)). m.0.known) is in
            let value_same : Some left ≡ Some value = ap (λ (m : Me (Option T) (View T)). held_value m.1) is in
            let p : k ≡ k' = cc in
            let q : left ≡ value = cc in
            λ i. (view Outside (record (p i) { last = q i } ∷ []), []),
      ))

-- What a look finds is what a pass needs that has not changed before.
pub took : {T : Type 0} (learns : ℕ → T → T → T → Type 0) (ticket found : ℕ) (first me after : Me (Option T) (View T)) → me ≡ first → Looks learns ticket me found after
    → found ≡ ticket → MayTakeSlot learns first true after
took {T} learns ticket found first me after e look is = record {
  hit = λ _. subst (λ (m : Me (Option T) (View T)). HasTaken learns m after) e (look.hit is);
  miss = λ e. absurd (cc);
}

pub waits : {T : Type 0} (learns : ℕ → T → T → T → Type 0) (first after : Me (Option T) (View T)) → after ≡ first → MayTakeSlot learns first false after
waits learns first after e = record { hit = λ e. absurd (cc); miss = λ _. e }

pub looked : {T : Type 0} (learns : ℕ → T → T → T → Type 0) (ticket found : ℕ) (first me after : Me (Option T) (View T)) → me ≡ first → Looks learns ticket me found after
    → MayTakeSlot learns first (found == ticket) after
looked {T} learns ticket found first me after e look =
    dite (ℕ_discrete found ticket)
    (λ is. subst (λ b. MayTakeSlot learns first b after) (sym (eq-eqb found ticket is)) (took learns ticket found first me after e look is))
    (λ ne. subst (λ b. MayTakeSlot learns first b after) (sym (ne_eqb found ticket ne)) (waits learns first after (look.miss ne ∙ e)))

-- how a seat with one number departs
pub departed : {T : Type 0} (me after : Me (Option T) (View T)) (t : ℕ) (k k' : Known T) (y left : T) → me ≡ (view (Inside t y) (k ∷ []), (0, Some left) ∷ []) → k ∷ [] ≡ k' ∷ [] → Departs me after
    → after ≡ (view Outside (record k' { last = left } ∷ []), [])
departed {T} me after t k k' y left e one step =
    let stage : me.0.stage ≡ Inside t y = ap (λ (m : Me (Option T) (View T)). m.0.stage) e in
    step k' left (e ∙ (λ i. (view (sym stage i) (one i), (0, Some left) ∷ [])))

-- a pass that is inside has a seat that is inside, and the slot
pub sits_inside : {T : Type 0} (k : Known T) (entered : Option T) (me : Me (Option T) (View T)) (P : T → Type 0) → Sits k entered me → IsSomeAnd entered P
    → (t : ℕ) × (y : T) × (me ≡ (view (Inside t y) (k ∷ []), (0, None) ∷ [])) × P y
sits_inside k None me P sits owed = absurd owed
sits_inside k (Some y) me P sits owed = (sits.0, y, sits.1, owed)

-- a pass that is outside has a seat that is outside, and nothing
pub sits_outside : {T : Type 0} (k : Known T) (entered : Option T) (me : Me (Option T) (View T)) → Sits k entered me → entered ≡ None → me ≡ (view Outside (k ∷ []), [])
sits_outside k None me sits out = sits
sits_outside k (Some y) me sits out = absurd (cc)
