-- The commands up to here are served, each from what those before it left.
use Rattle.std.proofs.Common.{◌≡◌, ◌+◌, ◌≤◌, length, take, true, List, None}
use Rattle.std.specs.Prelude.{◌-◌, ◌*◌, ◌^◌, count_by, min, vec_len, vec_capacity}
use Rattle.tsdb_history.proofs.SoFar.{SoFar}
use Rattle.tsdb_history.specs.History.{told_device, session_numbers}
use Rattle.tsdb_querying.specs.Core.{next_of}
use Rattle.tsdb_history.specs.Reach.{max_drawn}
use Rattle.tsdb_history.specs.Serves.{HasServed}
use Rattle.tsdb_model.specs.History.{Entry}
use Rattle.tsdb_model.specs.State as plain
use Rattle.tsdb_outside.specs.Files.{StoredFile}
use Rattle.tsdb_querying.specs.Flushing.{faults_under}
use Rattle.tsdb_querying.specs.Loan.{Loan}
use Rattle.tsdb_querying.specs.Loans.{KeepsAll}
use Rattle.tsdb_querying.specs.Serving.{IsServing, IsSure, StaysInPlace}
use Rattle.tsdb_querying.specs.Sweeping.{StaysRead}
use Rattle.tsdb_history.proofs.executing.execute.Given as goal

abbrev pub invariant-loop-numbered : goal.invariant-loop-numbered
invariant-loop-numbered g l = record {
  long : length l.counts.items ≡ session_numbers;
  placed : vec_len l.history ≡ l.numbered-index;
  capacity : length l.script ≤ vec_capacity l.history;
  entries : List Entry;
  so_far : SoFar (take l.numbered-index l.script) l.history.items entries l.counts.items;
  same_store : g.F.Port.Port.store l.port ≡ g.F.Port.Port.store l.fn.port;
  keeps_all : KeepsAll (g.F.Port.Port.store l.fn.port) l.fn.core l.core;
  stays : StaysInPlace l.fn.core l.core;
  drawn : next_of l.core ≤ next_of l.fn.core + max_drawn * l.numbered-index;
  served : (g.F.Port.Port.store l.fn.port).tells ≡ true → (loans : List (Loan _ _ _ _)) (files : List StoredFile)
      (start : plain.State) → IsServing loans l.fn.core files start None
      → HasServed loans l.fn.core l.core files start entries;
  sure : IsSure (g.F.Port.Port.store l.fn.port) l.fn.core → IsSure (g.F.Port.Port.store l.fn.port) l.core;
  devices : IsSure (g.F.Port.Port.store l.fn.port) l.fn.core
      → min ((faults_under l.fn.core + g.F.Port.Counted.faults l.fn.port) + count_by told_device l.history.items) (2 ^ 64 - 1)
      ≤ faults_under l.core + g.F.Port.Counted.faults l.port;
  later : (faults_under l.fn.core ≤ faults_under l.core)
      × (g.F.Port.Counted.faults l.fn.port ≤ g.F.Port.Counted.faults l.port);
  swept : StaysRead (g.F.Port.Counted.faults l.fn.port) (g.F.Port.Counted.faults l.port) l.fn.core l.core;
}
