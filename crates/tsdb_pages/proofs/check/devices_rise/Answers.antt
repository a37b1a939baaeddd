use Rattle.std.proofs.Common.{refl, arith}
use Rattle.std.proofs.lemmas.Bool.{false≢true}
use Rattle.tsdb_pages.specs.declared.tree.Group.{Group}
use Rattle.tsdb_pages.specs.Trees.{IsBefore}
use Rattle.tsdb_pages.proofs.Order.{names_rise, not_pairs, pairs_from_adjacent}
use Rattle.tsdb_pages.proofs.check.devices_rise.Goals as goal

pub returns-then-ge : goal.returns-then-ge
returns-then-ge c =
    let y = c.index-groups-i.result in
    let x = c.index-groups-i-in-loop-i.result in
    (λ e. absurd (false≢true e), λ rising. absurd (not_pairs (λ (a b : Group). IsBefore a.device b.device) c.args.groups.now c.loop-i.i x y (omega arith) (omega arith) c.index-groups-i-in-loop-i.is c.index-groups-i.is (λ less. grind (arith, less)) rising))

pub returns : goal.returns
returns c = (λ _. pairs_from_adjacent (λ (a b : Group). IsBefore a.device b.device) (names_rise (λ (a : Group). a.device)) c.args.groups.now (λ k d l. c.loop-i.invariant k d (omega arith)), λ _. refl)
