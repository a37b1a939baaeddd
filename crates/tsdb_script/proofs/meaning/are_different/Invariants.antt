use Rattle.std.proofs.Common.{◌≡◌, ℕ, List, Bor, take}
use Rattle.std.specs.HashSet.{contains_by}
use Rattle.std.specs.List.{IsDistinct, list_any}
use Rattle.tsdb_script.proofs.Names.{same}
use Rattle.tsdb_script.proofs.meaning.are_different.Given as goal

abbrev pub invariant-loop-name : goal.invariant-loop-name
invariant-loop-name l = record {
  seen : (q : Bor (List ℕ)) → contains_by (λ bytes. same q.now bytes.now) l.seen ≡ list_any (same q.now) (take l.name-index l.names);
  distinct : IsDistinct same (take l.name-index l.names);
}
