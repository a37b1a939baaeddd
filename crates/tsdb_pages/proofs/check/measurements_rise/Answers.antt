use Rattle.std.proofs.Common.{refl, arith}
use Rattle.std.proofs.lemmas.Bool.{false≢true}
use Rattle.tsdb_pages.specs.declared.tree.Chunk.{Chunk}
use Rattle.tsdb_pages.specs.Trees.{IsBefore}
use Rattle.tsdb_pages.proofs.Order.{names_rise, not_pairs, pairs_from_adjacent}
use Rattle.tsdb_pages.proofs.check.measurements_rise.Goals as goal

pub returns-then-ge : goal.returns-then-ge
returns-then-ge c =
    let y = c.index-chunks-i.result in
    let x = c.index-chunks-i-in-loop-i.result in
    (λ e. absurd (false≢true e), λ rising. absurd (not_pairs (λ (a b : Chunk). IsBefore a.measurement b.measurement) c.args.chunks.now c.loop-i.i x y (omega arith) (omega arith) c.index-chunks-i-in-loop-i.is c.index-chunks-i.is (λ less. grind (arith, less)) rising))

pub returns : goal.returns
returns c = (λ _. pairs_from_adjacent (λ (a b : Chunk). IsBefore a.measurement b.measurement) (names_rise (λ (a : Chunk). a.measurement)) c.args.chunks.now (λ k d l. c.loop-i.invariant k d (omega arith)), λ _. refl)
