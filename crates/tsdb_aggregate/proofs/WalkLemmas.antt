-- A walk along the groups of all entries.
use Rattle.std.proofs.Common.{◌≡◌, ℕ, ◌+◌, ◌≤◌, List, [], length, take, drop, Ok, sum_by, sym, ap, ◌∙◌, subst, arith}
use Rattle.std.specs.Prelude.{⊤, ◌<ℤ◌, AllPairs}
use Rattle.std.proofs.lemmas.List.Elements.{All-nil}
use Rattle.std.proofs.lemmas.List.{length-drop, take-append-drop}
use Rattle.tsdb_base.specs.declared.answers.Aggregate.{Aggregate}
use Rattle.tsdb_base.specs.declared.point.Range.{Range}
use Rattle.tsdb_aggregate.specs.Loads.{LoaderState, Spends}
use Rattle.tsdb_aggregate.specs.Pieces.{ArePiecesSound}
use Rattle.tsdb_aggregate.specs.SpendLaws.{spends_nothing, spends_then}
use Rattle.tsdb_aggregate.specs.Steps.{AddsWinners, HasWalked, ComesBefore, IsCut, IsTally, cost_of, held_parts}
use Rattle.tsdb_aggregate.specs.declared.entry.PieceEntry.{PieceEntry}
use Rattle.tsdb_aggregate.specs.declared.tally.Tally.{Tally}
use Rattle.tsdb_merge.proofs.MergeLemmas.{AllPairs-nil, Contains-nil}
use Rattle.tsdb_aggregate.proofs.ListFacts.{AllPairs-right}
use Rattle.tsdb_aggregate.proofs.GroupLemmas.{cost_more, cut_more, sound_first, sound_rest, tally_more}

order_rest : (m : ℕ) (entries : List PieceEntry) → AllPairs ComesBefore entries → AllPairs ComesBefore (drop m entries)
order_rest m entries order = AllPairs-right ComesBefore (take m entries) (drop m entries) (subst (λ es. AllPairs ComesBefore es) (sym (take-append-drop m entries)) order)

-- before the first group
pub walk_none : (range : Range) (name : Aggregate) (a : LoaderState) (p : ℕ) (entries : List PieceEntry) (tally : Tally) → IsTally name [] tally → HasWalked range name a a p p entries 0 tally
walk_none range name a p entries tally none = record {
  within = omega arith;
  found = λ sound order. (
    record {
      points = [];
      winners = record { rising = AllPairs-nil (λ a b. a.time <ℤ b.time); only = All-nil _; complete = λ point w inside. absurd (Contains-nil w.has.part w.has.among) };
      tally_is = none;
    },
    λ x y hx hy. absurd (Contains-nil x hx),
  );
  spends = spends_nothing 0 a p (Ok tt) tt;
}

-- one group more
pub walk_more : (range : Range) (name : Aggregate) (a b c : LoaderState) (p q r : ℕ) (m n : ℕ) (entries rest group : List PieceEntry) (before now : Tally) → rest ≡ drop m entries → group ≡ take n rest → length group ≡ n → n ≤ length rest
    → (AllPairs ComesBefore rest → IsCut n rest) → (ArePiecesSound name range (held_parts b.held group) → AddsWinners b.held range name group before now) → Spends {T = ⊤} (sum_by cost_of (held_parts b.held group)) b c q r (Ok tt)
    → HasWalked range name a b p q entries m before → HasWalked range name a c p r entries (m + length group) now
walk_more range name a b c p q r m n entries rest group before now er eg long within cut adds spends walked =
    let own : group ≡ take n (drop m entries) = eg ∙ ap (λ xs. take n xs) er in
    let added : ArePiecesSound name range (held_parts a.held (take n (drop m entries))) → AddsWinners a.held range name (take n (drop m entries)) before now =
    subst (λ g. ArePiecesSound name range (held_parts a.held g) → AddsWinners a.held range name g before now) own (subst (λ h. ArePiecesSound name range (held_parts h group) → AddsWinners h range name group before now) walked.spends.held adds) in
    let amount : sum_by cost_of (held_parts b.held group) ≡ sum_by cost_of (held_parts a.held (take n (drop m entries))) = ap (λ h. sum_by cost_of (held_parts h group)) walked.spends.held ∙ ap (λ g. sum_by cost_of (held_parts a.held g)) own in
    let cost = cost_more a.held m n entries in
    let drops = length-drop m entries in
    let left : length rest ≡ length (drop m entries) = ap length er in
    rw long (record {
      within = omega (arith, walked.within, within, drops, left);
      found = λ sound order.
          let done = walked.found sound order in
          let next : IsCut n (drop m entries) = subst (λ xs. AllPairs ComesBefore xs → IsCut n xs) er cut (order_rest m entries order) in
          let second = added (sound_first name range a.held n (drop m entries) (sound_rest name range a.held m entries sound)) in
          (tally_more a.held range name m n entries before now sound done.1 done.0 second, cut_more m n entries done.1 next);
      spends = spends_then (sum_by cost_of (held_parts a.held (take m entries))) (sum_by cost_of (held_parts b.held group)) (sum_by cost_of (held_parts a.held (take (m + n) entries))) a b c p q r tt (Ok tt) (omega (arith, cost, amount)) walked.spends spends;
    })
