-- Calls that take points of several sources, one behind the other.
use Rattle.std.proofs.Common.{◌≡◌, ℕ, List, [], ◌∷◌, Result, Ok, Err, refl, ◌∙◌, arith}
use Rattle.std.specs.Prelude.{Option, None, Some}
use Rattle.std.proofs.lemmas.List.Elements.{All-cons, All-nil}
use Rattle.tsdb_base.specs.declared.point.Point.{Point}
use Rattle.tsdb_streams.proofs.Reasons.{reason_ok, reason_then, same_reason}
use Rattle.tsdb_streams.specs.Lanes.{IsTrueLane}
use Rattle.tsdb_streams.specs.Walking.{AreLanesOfStore, AreToldLanes, AreTrueLanes, LeavesLanes}
use Rattle.tsdb_streams.specs.declared.lane.Lane.{Lane}
use Rattle.tsdb_outside.specs.Files.{NamedFile, Store}
use Rattle.tsdb_outside.specs.declared.faults.StoreFault.{StoreFault}

-- where nothing is told, all that is told is so
pub nothing_true : {R : Type 0} (file : R → NamedFile) (lanes : List (Lane R)) → AreTrueLanes file (λ _. None) lanes
nothing_true file [] = All-nil (IsTrueLane file (λ _. None))
nothing_true file (lane ∷ lanes) = All-cons (IsTrueLane file (λ _. None)) lane lanes (λ page is list e. absurd (none_some list e)) (nothing_true file lanes)
  where
    none_some : (list : List (List Point)) → ◌≡◌ {A = Option (List (List Point))} None (Some list) → ⊥
    none_some list e = cc

module _ {R : Type 0} (file : R → NamedFile) where
  -- there was no call
  pub leaves_none : {T : Type 0} (s : Store) (a : ℕ) (lanes : List (Lane R)) (x : T) → AreLanesOfStore file s lanes → LeavesLanes file s s a a lanes lanes (Ok x)
  leaves_none s a lanes x of = record {
    of = of;
    truth = λ pages all. all;
    told = λ pages all. all;
    reason = λ pages truth. reason_ok (AreToldLanes file pages lanes) a a x (omega arith);
    later = omega arith;
    same_store = refl;
    due = λ range. refl;
  }

  -- what went well, whatever it returns
  pub leaves_ok : {S T : Type 0} (s s_now : Store) (a b : ℕ) (lanes lanes_now : List (Lane R)) (x : S) (y : T) → LeavesLanes file s s_now a b lanes lanes_now (Ok x) → LeavesLanes file s s_now a b lanes lanes_now (Ok y)
  leaves_ok s s_now a b lanes lanes_now x y h = record {
    of = h.of;
    truth = h.truth;
    told = h.told;
    reason = λ pages truth. reason_ok (AreToldLanes file pages lanes) a b y h.later;
    later = h.later;
    same_store = h.same_store;
    due = h.due;
  }

  -- the same fault
  pub leaves_fault : {S T : Type 0} (s s_now : Store) (a b : ℕ) (lanes lanes_now : List (Lane R)) (fault : StoreFault) → LeavesLanes file {T = S} s s_now a b lanes lanes_now (Err fault) → LeavesLanes file {T = T} s s_now a b lanes lanes_now (Err fault)
  leaves_fault s s_now a b lanes lanes_now fault h = record {
    of = h.of;
    truth = h.truth;
    told = h.told;
    reason = λ pages truth. same_reason (AreToldLanes file pages lanes) a b fault (h.reason pages truth);
    later = h.later;
    same_store = h.same_store;
    due = h.due;
  }

  -- one call went well, and then another
  pub leaves_then : {S T : Type 0} (s s_one s_two : Store) (a b c : ℕ) (lanes one two : List (Lane R)) (x : S) (result : Result T StoreFault) → LeavesLanes file s s_one a b lanes one (Ok x) → LeavesLanes file s_one s_two b c one two result
      → LeavesLanes file s s_two a c lanes two result
  leaves_then s s_one s_two a b c lanes one two x result first second = record {
    of = second.of;
    truth = λ pages all. second.truth pages (first.truth pages all);
    told = λ pages all. second.told pages (first.told pages all);
    reason = λ pages truth. reason_then (AreToldLanes file pages lanes) (AreToldLanes file pages one) a b c result (first.told pages) first.later (second.reason pages (first.truth pages truth));
    later = omega (arith, first.later, second.later);
    same_store = second.same_store ∙ first.same_store;
    due = λ range. second.due range ∙ first.due range;
  }
